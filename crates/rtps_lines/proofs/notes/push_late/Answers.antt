use Rattle.std.proofs.Common.{◌++◌, ◌∷◌, [], ◌∙◌, ap, map}
use Rattle.std.proofs.lemmas.Result.{on_ok_weaker}
use Rattle.std.specs.String.{string_bytes}
use Rattle.rtps_lines.specs.Notes as notes
use Rattle.rtps_lines.proofs.NoteLemmas.{some_note}
use Rattle.rtps_lines.proofs.notes.push_late.Goals as goal

pub returns : goal.returns
returns c =
    let pairs = c.args.told.0 in
    let names = c.args.told.1.now in
    on_ok_weaker c.push_rendered.result
    (λ last. last ∙ ap (λ all. map string_bytes c.args.notes.now.items ++ all)
    (ap (λ text. text ∷ []) c.late_by.ensures ∙ some_note pairs (notes.late_by pairs names c.args.arrow.now) c.if-pairs-eq0.false))
    c.push_rendered.ensures
