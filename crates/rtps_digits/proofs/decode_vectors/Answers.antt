use Rattle.std.proofs.Common.{◌+◌, ◌*◌, ◌≤◌, length, sym, ◌∙◌, arith}
use Rattle.std.proofs.lemmas.Bool.{and_parts}
use Rattle.std.specs.List.{list_all}
use Rattle.rtps_digits.specs.Pairs as pairs
use Rattle.rtps_digits.proofs.Decoding.{chunk_found, step_found, step_octets}
use Rattle.rtps_digits.proofs.decode_vectors.Goals as goal

pub vectors-preserved : goal.vectors-preserved
vectors-preserved c =
    let s = c.args.digits.now in
    let k = c.vectors.k in
    let worst = c.vectors.worst in
    let values = c.lane_values-values.result in
    let fits : 32 * k + 32 ≤ length s = omega arith in
    let room : 16 * k + 16 ≤ length c.vectors.octets = omega arith in
    let are = c.lane_values-values.ensures in
    let both = c.worse-worst.ensures in
    record {
      found = step_found s worst c.worse-worst.result values k fits c.type_inv.digits are both c.vectors.invariant.found;
      octets = λ low.
          let parts = and_parts (list_all pairs.is_low worst) (list_all pairs.is_low values) (sym both ∙ low) in
          step_octets s c.vectors.octets values c.join_pairs.result k fits room c.type_inv.digits are c.join_pairs.ensures
          (chunk_found s values k c.type_inv.digits are parts.1) (c.vectors.invariant.octets parts.0);
    }
