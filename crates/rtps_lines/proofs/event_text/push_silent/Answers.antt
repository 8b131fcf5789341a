use Rattle.std.proofs.Common.{◌++◌, ◌∙◌, List, ℕ, Option, ap, codes}
use Rattle.std.proofs.lemmas.Result.{on_ok_weaker}
use Rattle.std.specs.String.{string_bytes}
use Rattle.rtps_evidence.specs.declared.times.Seconds.{Seconds}
use Rattle.rtps_lines.specs.EventText as event_text
use Rattle.rtps_lines.specs.Lines as lines
use Rattle.rtps_lines.proofs.event_text.push_silent.Goals as goal

pub returns : goal.returns
returns c =
    let heard = lines.ended_text c.args.times.now c.args.event.now.heard in
    let told : Option Seconds → List ℕ = λ second.
    event_text.told_as c.args.silent ++ (codes " was last heard" ++ (heard ++ (event_text.asked_text second ++ codes ", and did not leave"))) in
    on_ok_weaker c.write.result
    (λ text. text ∙ ap (λ (second : Option Seconds). string_bytes c.args.text.now ++ told second) c.place_second.ensures) c.write.ensures.bytes
