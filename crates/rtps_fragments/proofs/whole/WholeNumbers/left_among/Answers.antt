use Rattle.std.proofs.Common.{◌≡◌, ◌+◌, Bool, not, [], ◌∷◌, ◌++◌, ◌∙◌, ap, arith, map, sym, take}
use Rattle.rtps_fragments.specs.ToldSamples as told_samples
use Rattle.rtps_fragments.specs.Whole as whole
use Rattle.rtps_fragments.specs.declared.piece.SentFragments.{SentFragments}
use Rattle.rtps_fragments.proofs.FragmentWalkLemmas.{at_most_one, one_of}
use Rattle.rtps_fragments.proofs.ToldSoFar.{sents-more}
use Rattle.rtps_fragments.proofs.WholeLemmas.{left-more}
use Rattle.rtps_fragments.proofs.whole.WholeNumbers.left_among.Goals as goal
use Rattle.rtps_fragments.proofs.whole.WholeNumbers.left_among.Goals.{then-not-contains, else-not-contains}

pub loop-sent-preserved : goal.loop-sent-preserved
loop-sent-preserved c =
    let sents = c.args.sents.now in
    let i = c.loop-sent.sent-index in
    let item = c.sent-item.result in
    let counted : c.if-not-contains.left ≡ c.loop-sent.left + one_of (not c.contains.result) = elim c.if-not-contains.branch [
      | then-not-contains w ↦ omega (arith, w.left-is, ap (λ (b : Bool). one_of (not b)) w.if-not-contains.true)
      | else-not-contains w ↦ omega (arith, w.left-is, ap (λ (b : Bool). one_of (not b)) w.if-not-contains.false)
    ] in
    let one = at_most_one (not c.contains.result) in
    let sents_are : map told_samples.sent_value (take (i + 1) sents) ≡ map told_samples.sent_value (take i sents) ++ told_samples.sent_value item ∷ [] = sents-more sents i item c.loop-sent-test.true ∙ ap (λ (s : SentFragments). map told_samples.sent_value (take i sents) ++ told_samples.sent_value s ∷ []) (sym c.sent-item.is) in
    record {
      few = omega (arith, counted, one, c.loop-sent.invariant.few);
      left = λ all are.
          let is : c.contains.result ≡ whole.has_whole all (whole.key_number item.key) = c.contains.ensures ∙ are c.key_number.result ∙ ap (whole.has_whole all) c.key_number.ensures in
          counted ∙ ap (λ n. n + one_of (not c.contains.result)) (c.loop-sent.invariant.left all are) ∙ ap (λ (b : Bool). whole.left_among all (map told_samples.sent_value (take i sents)) + one_of (not b)) is
          ∙ sym (ap (whole.left_among all) sents_are ∙ left-more all (map told_samples.sent_value (take i sents)) (told_samples.sent_value item));
    }
