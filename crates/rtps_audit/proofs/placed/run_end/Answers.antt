use Rattle.std.proofs.Common.{◌≡◌, ◌∙◌, arith, rules, subst}
use Rattle.std.proofs.lemmas.List.{get_or_default}
use Rattle.std.proofs.lemmas.List.Elements.{AllWithin-more}
use Rattle.rtps_receiver.specs.Speech as speech
use Rattle.rtps_receiver.specs.Values as values
use Rattle.rtps_receiver.specs.declared.spoken.Spoken.{Spoken}
use Rattle.rtps_audit.proofs.placed.run_end.Goals as goal

pub loop-place-preserved : goal.loop-place-preserved
loop-place-preserved c =
    let from = λ (a : Spoken). speech.origin_of (values.spoken_value a) ≡ c.args.origin in
    let here : from c.index-acts-place.result = search rules in
    AllWithin-more from c.args.acts.now c.args.start c.loop-place.place c.loop-place.invariant
    (λ d. subst from (c.index-acts-place.is ∙ get_or_default c.args.acts.now c.loop-place.place _ d (omega arith)) here)
