-- The datagrams behind the first ones, of which no submessage belongs to fragments: they tell what they tell behind these.
use Rattle.std.proofs.lemmas.Grind.{common_steps}
use Rattle.std.proofs.lemmas.Bool.Decides.{nat_tests}
use Rattle.std.proofs.Common.{◌≡◌, ℕ, zero, suc, ◌+◌, ◌-◌, ◌≤◌, List, [], ◌∷◌, ◌++◌, drop, length, map, take, slice_get, refl, sym, ◌∙◌, ap, arith, subst}
use Rattle.std.proofs.lemmas.List.{length-map}
use Rattle.std.proofs.lemmas.List.Elements.{All-contains}
use Rattle.rtps_wire.specs.Reading as reading
use Rattle.rtps_wire.specs.Tally as tally
use Rattle.rtps_receiver.specs.Acts as acts
use Rattle.rtps_receiver.specs.Values as values
use Rattle.rtps_audit.proofs.Offered.{contains_head, contains_tail}
use Rattle.rtps_fragments.specs.Merging as merging
use Rattle.rtps_fragments.specs.RecordedSamples as recorded_samples
use Rattle.rtps_fragments.specs.FragmentWalk as fragment_walk
use Rattle.rtps_fragments.specs.ToldSamples as told_samples
use Rattle.rtps_fragments.specs.Whole as whole
use Rattle.rtps_fragments.specs.declared.samples.Samples.{Samples}
use Rattle.rtps_fragments.proofs.SampleSteps.{length-told}
use Rattle.rtps_fragments.proofs.WithoutFragments.{EachWithout, datagram_plain, plain}

plain_sends : (k : ℕ) (acts : List values.ActValue) → merging.sents_from k (map plain acts) ≡ []
plain_sends k [] = refl
plain_sends k (act ∷ acts) = plain_sends (suc k) acts

-- a datagram without fragments sends none
nothing_sent : (octets : List ℕ) → (tally.tally_of (reading.reading_of octets)).fragments ≡ 0 → merging.sents_from 0 (fragment_walk.piece_acts_of octets) ≡ []
nothing_sent octets none = ap (merging.sents_from 0) (datagram_plain octets none) ∙ plain_sends 0 (acts.acts_of (reading.reading_of octets))

-- what is told behind them
behind : (recording : List (List ℕ)) (n i j : ℕ) → EachWithout (take n recording) → i ≡ n + j
    → slice_get (recorded_samples.overheard_from [] (fragment_walk.sending_of recording)) i ≡ slice_get (recorded_samples.overheard_from [] (fragment_walk.sending_of (drop n recording))) j
behind recording zero i j none e = ap (slice_get (recorded_samples.overheard_from [] (fragment_walk.sending_of recording))) (let same : i ≡ j = omega (arith, e) in same)
behind [] (suc n) i j none e = refl
behind (octets ∷ recording) (suc n) zero j none e = absurd (omega (arith, e))
behind (octets ∷ recording) (suc n) (suc i) j none e =
    ap (λ (ss : List told_samples.SentValue). slice_get (recorded_samples.overheard_from ss (fragment_walk.sending_of recording)) i) (nothing_sent octets (none octets (contains_head octets (take n recording))))
    ∙ behind recording n i j (λ other among. none other (contains_tail octets (take n recording) other among)) (omega (arith, e))

-- all that is sent is sent behind them
sent_behind : (recording : List (List ℕ)) (n : ℕ) → EachWithout (take n recording) → merging.sents_in (fragment_walk.sending_of recording) ≡ merging.sents_in (fragment_walk.sending_of (drop n recording))
sent_behind recording zero none = refl
sent_behind [] (suc n) none = refl
sent_behind (octets ∷ recording) (suc n) none =
    ap (λ (ss : List told_samples.SentValue). ss ++ merging.sents_in (fragment_walk.sending_of recording)) (nothing_sent octets (none octets (contains_head octets (take n recording))))
    ∙ sent_behind recording n (λ other among. none other (contains_tail octets (take n recording) other among))

pub each_of : (recording : List (List ℕ)) → recorded_samples.IsWithoutFragments recording → EachWithout recording
each_of recording all octets among = All-contains (λ datagram. (tally.tally_of (reading.reading_of datagram)).fragments ≡ 0) recording octets all among

module _ (recording : List (List ℕ)) (n : ℕ) (samples : Samples) (without : recorded_samples.IsWithoutFragments (take n recording)) (are : recorded_samples.AreSamplesOf (drop n recording) samples) where
  pub whole_behind : whole.AreWholeIn (merging.sents_in (fragment_walk.sending_of recording)) samples.whole
  whole_behind = subst (λ (ss : List told_samples.SentValue). whole.AreWholeIn ss samples.whole) (sym (sent_behind recording n (each_of (take n recording) without))) are.whole

  pub overheard_count : length samples.overheard.items ≡ length (drop n recording)
  overheard_count = grind (arith, nat_tests, common_steps, length-map, length-told)

  pub past : (i : ℕ) → n ≤ i
      → slice_get (recorded_samples.overheard_from [] (fragment_walk.sending_of recording)) i ≡ slice_get (recorded_samples.overheard_from [] (fragment_walk.sending_of (drop n recording))) (i - n)
  past i le = behind recording n i (i - n) (each_of (take n recording) without) (omega (arith, le))
