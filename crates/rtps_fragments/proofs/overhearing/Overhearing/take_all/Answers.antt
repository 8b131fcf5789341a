use Rattle.std.proofs.Common.{◌≡◌, ◌+◌, ◌++◌, ◌∷◌, [], ◌∙◌, List, ap, append_assoc, arith, map, subst, sym, take}
use Rattle.std.proofs.lemmas.List.{take_all}
use Rattle.rtps_fragments.specs.Making as making
use Rattle.rtps_fragments.specs.ToldSamples as told_samples
use Rattle.rtps_fragments.specs.declared.piece.SentFragments.{SentFragments}
use Rattle.rtps_fragments.proofs.ToldSoFar.{in_turn-more, sents-more}
use Rattle.rtps_fragments.proofs.overhearing.Overhearing.take_all.Goals as goal

pub loop-sent-preserved : goal.loop-sent-preserved
loop-sent-preserved c = λ before was.
    let sents = c.args.sents.now in
    let i = c.loop-sent.sent-index in
    let here = c.sent-item.result in
    let sent = told_samples.sent_value here in
    let so_far = map told_samples.sent_value (take i sents) in
    let next : map told_samples.sent_value (take (i + 1) sents) ≡ so_far ++ sent ∷ [] = sents-more sents i here c.loop-sent-test.true ∙ ap (λ (s : SentFragments). so_far ++ told_samples.sent_value s ∷ []) (sym c.sent-item.is) in
    let (kept, told) = c.loop-sent.invariant before was in
    let (more, also) = c.in_ok-take.ensures (before ++ so_far) kept in (
      subst (λ ss. making.IsOverhearing ss c.take.new.self) (append_assoc before so_far (sent ∷ []) ∙ ap (λ ss. before ++ ss) (sym next)) more,
      also ∙ ap (λ ts. ts ++ told_samples.overheard_behind (before ++ so_far) sent) told ∙ sym (ap (told_samples.overheard_in_turn before) next ∙ in_turn-more before so_far sent),
    )

pub returns : goal.returns
returns c = λ before was.
    let sents = c.args.sents.now in
    let all : take c.loop-sent.sent-index sents ≡ sents = take_all c.loop-sent.sent-index sents (omega (arith, c.loop-sent-test.false)) in
    subst (λ (ss : List SentFragments). making.IsOverhearing (before ++ map told_samples.sent_value ss) c.loop-sent.self × (map told_samples.told_value c.loop-sent.told.items ≡ told_samples.overheard_in_turn before (map told_samples.sent_value ss))) all (c.loop-sent.invariant before was)
