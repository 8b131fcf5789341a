use Rattle.std.proofs.Common.{◌≡◌, ◌++◌, ◌∷◌, ◌∙◌, [], None, ap, append-nil, arith, length, map, option_copied, string_bytes, sym}
use Rattle.std.specs.Vec.Iter.{into_iter_items}
use Rattle.rtps_report.specs.Talk as talk
use Rattle.rtps_lines.specs.Notes as notes
use Rattle.rtps_lines.proofs.NoteLemmas.{names_more, nothing_left}
use Rattle.rtps_lines.proofs.talk_notes.names_behind.Goals as goal

pub loop-one-preserved : goal.loop-one-preserved
loop-one-preserved c =
    let at = c.loop-one in
    let one = c.in-Some.one in
    let left = into_iter_items c.next.new.self in
    let before = option_copied at.before in
    let steps : into_iter_items at.one-iterator ≡ one ∷ left = c.in-Some.ensures.steps.0 in
    let so_far : string_bytes at.names ++ notes.names_behind before (map talk.left_out_value (one ∷ left)) ≡ _ = ap (λ all. string_bytes at.names ++ notes.names_behind before (map talk.left_out_value all)) (sym steps) ∙ at.invariant.1 in (
      omega (arith, at.invariant.0, c.in-Some.ensures.steps.1, ap length steps),
      names_more before (talk.left_out_value one) (map talk.left_out_value left) (string_bytes at.names) (string_bytes c.push_name.new.names) _ so_far c.in_ok-push_name.ensures,
    )

pub returns : goal.returns
returns c =
    let at = c.loop-one in
    let none : into_iter_items at.one-iterator ≡ [] = nothing_left _ (sym at.invariant.0 ∙ c.in-None.ensures.steps.0) in
    sym (append-nil (string_bytes at.names)) ∙ ap (λ all. string_bytes at.names ++ notes.names_behind (option_copied at.before) (map talk.left_out_value all)) (sym none) ∙ at.invariant.1
    ∙ ap (λ start. start ++ notes.names_behind None (map talk.left_out_value c.args.pairs.items)) c.new-names.ensures.bytes
