use Rattle.std.proofs.Common.{arith, ap, length, ◌≤◌, ◌∙◌}
use Rattle.std.proofs.lemmas.List.{length-drop}
use Rattle.std.specs.Prelude.{Some}
use Rattle.rtps_wire.proofs.SetFields.{has_set, lacks_cut}
use Rattle.rtps_wire.proofs.read.fields.set_at.Goals as goal

pub returns-in-Ok : goal.returns-in-Ok
returns-in-Ok c = rw (← c.rest_at.ensures) (has_set _ _ _ c.in-Ok.ensures.0 c.in-Ok.ensures.1 c.in-Ok.ensures.2)

pub returns-in-Err-CutWords : goal.returns-in-Err-CutWords
returns-in-Err-CutWords c =
    let enough : 12 ≤ length c.rest_at.result.now = rw c.rest_at.ensures (simp length-drop (omega arith)) in
    rw (← c.rest_at.ensures) (lacks_cut _ _ enough (c.in-Err-CutWords.ensures ∙ ap Some c.in-Err-CutWords.field-0-is))
