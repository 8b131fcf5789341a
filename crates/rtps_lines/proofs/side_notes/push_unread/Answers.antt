use Rattle.std.proofs.Common.{◌++◌, ◌∷◌, [], ◌∙◌, ℕ, List, ap, map}
use Rattle.std.proofs.lemmas.Result.{on_ok_weaker}
use Rattle.std.specs.List.{concat}
use Rattle.std.specs.String.{string_bytes}
use Rattle.rtps_parts.specs.Parts as parts
use Rattle.rtps_lines.proofs.NoteLemmas.{some_note}
use Rattle.rtps_lines.proofs.side_notes.push_unread.Goals as goal
use Rattle.rtps_lines.specs.declared.sentences.noted.TheConstants as said

pub returns : goal.returns
returns c =
    let unread = c.args.unread in
    let told : ℕ → List ℕ = λ number. concat (said.THERE.now ∷ parts.amount number (parts.words_value unread.words) ∷ c.args.arrow.now ∷ unread.remedy.now ∷ []) in
    let note = ap (λ number. told number ∷ []) c.from.ensures ∙ some_note unread.number (told unread.number) c.if-unread-eq0.false in
    on_ok_weaker c.push_rendered.result (λ last. last ∙ ap (λ all. map string_bytes c.args.notes.now.items ++ all) note) c.push_rendered.ensures
