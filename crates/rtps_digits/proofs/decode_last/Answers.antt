use Rattle.std.proofs.Common.{◌-◌, length, ◌∙◌, sym, arith}
use Rattle.rtps_digits.proofs.Decoding.{last_found, last_octets}
use Rattle.rtps_digits.proofs.decode_last.Goals as goal

pub returns-clause-found : goal.returns-clause-found
returns-clause-found c =
    c.are_low.ensures
    ∙ last_found c.args.digits.now c.lane_values-values.result (length c.args.octets.now - 16) (omega arith) c.type_inv.digits c.lane_values-values.ensures

pub returns-clause-octets : goal.returns-clause-octets
returns-clause-octets c ok =
    last_octets c.args.digits.now c.lane_values-values.result c.join_pairs.result c.args.octets.now (length c.args.octets.now - 16)
    (omega arith) (omega arith) c.type_inv.digits c.lane_values-values.ensures c.join_pairs.ensures (sym c.are_low.ensures ∙ ok)
