use Rattle.std.proofs.Common.{◌++◌, ◌∷◌, [], ◌∙◌, ◌==◌, append-nil, ap, length, map, sym}
use Rattle.std.proofs.lemmas.Result.{on_ok_weaker}
use Rattle.std.specs.String.{string_bytes}
use Rattle.rtps_lines.specs.Notes as notes
use Rattle.rtps_lines.proofs.NoteLemmas.{none_silent, some_silent}
use Rattle.rtps_lines.proofs.talk_notes.push_silent.Goals as goal

pub returns-then-is_empty : goal.returns-then-is_empty
returns-then-is_empty c =
    let silence = c.args.silence in
    let pairs = c.in_ok-pairs.pairs in
    let before = map string_bytes c.args.notes.now.items in
    sym (append-nil before)
    ∙ ap (λ all. before ++ all)
    (none_silent c.args.told.named silence pairs.items (ap (λ n. n == 0) (sym pairs.ok.0) ∙ sym c.is_empty.ensures ∙ c.if-is_empty.true) ∙ ap (notes.silent_by c.args.told.named silence) c.in_ok-pairs.ensures)

pub returns : goal.returns
returns c =
    let silence = c.args.silence in
    let pairs = c.in_ok-pairs.pairs in
    let named = c.args.told.named in
    let names = c.deref.ensures ∙ c.in_ok-names.ensures in
    on_ok_weaker c.push_rendered.result
    (λ last. last ∙ ap (λ all. map string_bytes c.args.notes.now.items ++ all)
    (ap (λ text. text ∷ [])
    (c.left_out_by.ensures ∙ ap (λ n. notes.left_out_by silence n c.deref.result.now) (c.len-number.ensures ∙ pairs.ok.0) ∙ ap (notes.left_out_by silence (length pairs.items)) names)
    ∙ some_silent named silence pairs.items (ap (λ n. n == 0) (sym pairs.ok.0) ∙ sym c.is_empty.ensures ∙ c.if-is_empty.false) ∙ ap (notes.silent_by named silence) c.in_ok-pairs.ensures))
    c.push_rendered.ensures
