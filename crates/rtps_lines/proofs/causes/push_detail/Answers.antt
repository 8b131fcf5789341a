use Rattle.std.proofs.Common.{◌++◌, ◌∙◌, ◌==◌, ℕ, List, ap, append_assoc, if◌then◌else◌, string_bytes, sym}
use Rattle.std.proofs.lemmas.Result.{on_ok_weaker}
use Rattle.std.specs.List.{flat_map}
use Rattle.rtps_parts.specs.Parts as parts
use Rattle.rtps_lines.specs.Causes as causes
use Rattle.rtps_lines.proofs.causes.push_detail.Goals as goal
use Rattle.rtps_lines.specs.declared.sentences.reason.TheConstants as said

pub returns-in_ok-push_str : goal.returns-in_ok-push_str
returns-in_ok-push_str c =
    let old = string_bytes c.args.text.now in
    let totals = c.args.judged.totals.now in
    let words = said.CLEAN_BEST_EFFORT.now in
    let text = causes.best_effort_text c.args.judged.best_effort in
    on_ok_weaker c.render.result
    (λ is. is
    ∙ ap (λ (front : List ℕ). front ++ flat_map parts.part_text c.best_effort_parts.result) c.in_ok-push_str.ensures.bytes
    ∙ ap (λ (told : List ℕ). (old ++ words) ++ told) c.best_effort_parts.ensures
    ∙ append_assoc old words text
    ∙ ap (λ (pairs : ℕ). old ++ (if pairs == 0 then words ++ text else causes.certain_detail totals)) (sym c.if-judged-eq0.true))
    c.render.ensures
