use Rattle.std.proofs.Common.{rules, ◌≡◌, ◌∙◌, ◌++◌, ap, sym}
use Rattle.std.specs.Fmt.{HasWritten}
use Rattle.std.specs.List.{flat_map}
use Rattle.std.specs.Prelude.{codes}
use Rattle.std.proofs.lemmas.Grind.{put_two}
use Rattle.rtps_parts.specs.Names as names
use Rattle.rtps_parts.specs.RosNames as ros_names
use Rattle.rtps_parts.proofs.RosLemmas.{type_parts}
use Rattle.rtps_parts.proofs.ros.TypeTextDisplay.fmt.Goals as goal

pub returns-in_ok-write_scope-in-Some-clause-writes : goal.returns-in_ok-write_scope-in-Some-clause-writes
returns-in_ok-write_scope-in-Some-clause-writes g c =
    λ plain ok.
    let took = g.W.Write.write_str_gives in
    let parts = ap (flat_map names.octet_text) c.in-Some.ensures ∙ type_parts (ros_names.slashed c.in-Some.parts.scope.now) c.in-Some.parts.name.now in
    let scope : HasWritten took c.args.f.now (flat_map names.octet_text (ros_names.slashed c.in-Some.parts.scope.now)) c.write_scope.new.f = search rules in
    let name : HasWritten took c.write_scope.new.f (codes "/" ++ flat_map names.octet_text c.in-Some.parts.name.now) c.write.new.self = search rules in
    put_two took _ _ _ _ _ _ scope name (sym parts)
