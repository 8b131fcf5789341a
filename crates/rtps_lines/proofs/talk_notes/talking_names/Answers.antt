use Rattle.std.proofs.Common.{◌≡◌, ◌++◌, ◌∷◌, ◌∙◌, [], Bor, List, ap, append-nil, arith, codes, length, map, rules, string_bytes, sym}
use Rattle.std.specs.Vec.Iter.{into_iter_items}
use Rattle.rtps_policies.specs.Unmatched as unmatched
use Rattle.rtps_policies.specs.declared.unmatched.Unmatched.{Unmatched}
use Rattle.rtps_lines.specs.Notes as notes
use Rattle.rtps_lines.proofs.NoteLemmas.{nothing_left, talking_more}
use Rattle.rtps_lines.proofs.talk_notes.talking_names.Goals as goal

abbrev values : List (Bor Unmatched) → List unmatched.UnmatchedValue
values pairs = map (λ one. unmatched.unmatched_value one.now) pairs

pub loop-one-init : goal.loop-one-init
loop-one-init c = (search rules, search rules, search rules)

pub loop-one-preserved : goal.loop-one-preserved
loop-one-preserved c =
    let at = c.loop-one in
    let one = c.in-Some.one in
    let left = into_iter_items c.next.new.self in
    let separator = at.separator.now in
    let steps : into_iter_items at.one-iterator ≡ one ∷ left = c.in-Some.ensures.steps.0 in
    let so_far : string_bytes at.names ++ notes.talking_behind separator (values (one ∷ left)) ≡ _ = ap (λ all. string_bytes at.names ++ notes.talking_behind separator (values all)) (sym steps) ∙ at.invariant.2 in (
      omega (arith, at.invariant.0, c.in-Some.ensures.steps.1, ap length steps),
      search rules,
      talking_more separator (unmatched.unmatched_value one.now) (values left) (string_bytes at.names) (string_bytes c.push_talking_pair.new.text) _ so_far c.in_ok-push_talking_pair.ensures,
    )

pub returns : goal.returns
returns c =
    let at = c.loop-one in
    let none : into_iter_items at.one-iterator ≡ [] = nothing_left _ (sym at.invariant.0 ∙ c.in-None.ensures.steps.0) in
    sym (append-nil (string_bytes at.names)) ∙ ap (λ all. string_bytes at.names ++ notes.talking_behind at.separator.now (values all)) (sym none) ∙ at.invariant.2
    ∙ ap (λ start. start ++ notes.talking_behind (codes ": ") (values c.args.talking.items)) c.new-names.ensures.bytes
