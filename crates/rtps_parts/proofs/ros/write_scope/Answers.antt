use Rattle.std.proofs.Common.{rules, ◌≡◌, ap, sym}
use Rattle.std.specs.Fmt.{HasWritten}
use Rattle.std.specs.List.{flat_map}
use Rattle.rtps_parts.specs.Names as names
use Rattle.rtps_parts.proofs.RosLemmas.{more_written}
use Rattle.rtps_parts.proofs.ros.write_scope.Goals as goal

pub octets-preserved : goal.octets-preserved
octets-preserved g c =
    λ plain.
    let was = c.octets.invariant plain in
    let octet : HasWritten g.W.Write.write_str_gives c.octets.f (names.octet_text c.in-Some.octet) c.write.new.self = search rules in
    more_written g.W.Write.write_str_gives _ _ _ _ _ _ _ _ was.1 was.2 octet (ap (flat_map names.octet_text) c.in-Some.ensures.slashed)
