use Rattle.std.proofs.lemmas.Bool.Decides.{nat_tests}
use Rattle.std.proofs.Common.{List, subst, sym, arith}
use Rattle.std.specs.Prelude.{OnOk, Result}
use Rattle.rtps_ids.specs.declared.memory.Memory.{Memory}
use Rattle.rtps_wire.specs.Reading as reading
use Rattle.rtps_fragments.specs.SampleActs as sample_acts
use Rattle.rtps_fragments.specs.FragmentWalk as fragment_walk
use Rattle.rtps_fragments.proofs.FragmentWalkLemmas.{acts_read, acts_refused, unusable_read, unusable_refused}
use Rattle.rtps_fragments.proofs.fragment_walk.FragmentWalk.read.Goals as goal

weaker : {T : Type 0} (result : Result T Memory) (P Q : Type 0) → (P → Q) → OnOk result P → OnOk result Q
weaker result P Q h h2 = grind (arith, nat_tests)

pub returns-in-Ok-clause-acts : goal.returns-in-Ok-clause-acts
returns-in-Ok-clause-acts c =
    let octets = c.args.datagram.now in
    let outcomes = reading.outcomes_left c.in-Ok.items in
    weaker c.add_items.result _ _ (λ is.
    subst (λ n. fragment_walk.IsFragmentWalk (fragment_walk.piece_acts_of octets) n c.add_items.new.self) (sym (unusable_read octets _ outcomes c.in-Ok.ensures.0))
    (subst (λ (ones : List sample_acts.PieceAct). fragment_walk.IsFragmentWalk ones (fragment_walk.unusable_among octets (reading.items_among outcomes)) c.add_items.new.self) (sym (acts_read octets _ outcomes _ c.in-Ok.ensures.0 c.at_start.ensures)) (is c.clear.ensures.acts))) c.add_items.ensures.acts

pub returns-in-Err-clause-acts : goal.returns-in-Err-clause-acts
returns-in-Err-clause-acts c =
    let octets = c.args.datagram.now in
    let is = subst (λ n. fragment_walk.IsFragmentWalk (fragment_walk.piece_acts_of octets) n c.clear.new.self) (sym (unusable_refused octets _ c.in-Err.ensures.0))
    (subst (λ (ones : List sample_acts.PieceAct). fragment_walk.IsFragmentWalk ones 0 c.clear.new.self) (sym (acts_refused octets _ c.in-Err.ensures.0)) c.clear.ensures.acts) in
    record { acts = is.acts; sents = is.sents; well = is.well; unusable = is.unusable; few = is.few }
