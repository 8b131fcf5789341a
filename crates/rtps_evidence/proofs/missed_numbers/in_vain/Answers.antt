use Rattle.std.proofs.Common.{◌≡◌, ◌∙◌, ◌||◌, Bool, ap, false, refl, sym, true}
use Rattle.std.specs.BTreeMap.{get}
use Rattle.std.specs.Map.Iter.{deref_pair}
use Rattle.std.specs.Ordering.{nat_cmp}
use Rattle.std.proofs.lemmas.Map.Iter.{rest_all}
use Rattle.rtps_coverage.specs.Stretches as stretches
use Rattle.rtps_evidence.proofs.RequestLemmas.{found_in_vain, some_in_vain}
use Rattle.rtps_evidence.proofs.missed_numbers.in_vain.Goals as goal

pub returns : goal.returns
returns c = λ n small.
    let none = rest_all deref_pair c.loop-number.number-iterator _ _ c.in-None.is c.next.ensures.steps in
    sym (or_no (stretches.stretches_have c.loop-number.missed.items n)) ∙ ap (λ l. stretches.stretches_have c.loop-number.missed.items n || some_in_vain l n) (sym none)
    ∙ c.loop-number.invariant n small
    ∙ found_in_vain (get nat_cmp c.args.requests.now) c.args.requests.now.entries n c.iter-number-items.ensures.found refl
  where
    or_no : (b : Bool) → (b || false) ≡ b
    or_no true = refl
    or_no false = refl
