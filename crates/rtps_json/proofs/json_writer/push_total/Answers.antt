use Rattle.std.proofs.Common.{subst, sym}
use Rattle.json.specs.Print.{IsNumber}
use Rattle.rtps_json.proofs.JsonLemmas.{is_number}
use Rattle.rtps_json.proofs.json_writer.push_total.Goals as goal

pub number-requires : goal.number-requires
number-requires c = subst IsNumber (sym c.format.ensures.text) (is_number c.args.total c.ranges.total.fits)
