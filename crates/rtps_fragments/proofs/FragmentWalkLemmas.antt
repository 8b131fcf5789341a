-- The acts of a datagram, one item after another.
use Rattle.std.proofs.lemmas.Grind.{common_steps}
use Rattle.std.proofs.lemmas.Bool.Decides.{nat_tests}
use Rattle.std.proofs.Common.{◌≡◌, ℕ, suc, ◌+◌, ◌<◌, ◌≤◌, ◌^◌, Bool, cond, List, [], ◌∷◌, ◌++◌, length, map, sym, ◌∙◌, ap, arith, append_assoc}
use Rattle.std.specs.Prelude.{All}
use Rattle.std.proofs.lemmas.List.{length-append, length-map, map-append}
use Rattle.std.proofs.lemmas.List.Sums.{sum_by-cons}
use Rattle.rtps_wire.specs.Reading as reading
use Rattle.rtps_wire.specs.Values as wire_values
use Rattle.rtps_wire.specs.declared.fault.WireFault.{WireFault}
use Rattle.rtps_wire.specs.declared.header.Header.{Header}
use Rattle.rtps_receiver.specs.Acts as acts
use Rattle.rtps_receiver.specs.Values as receiver_values
use Rattle.rtps_receiver.specs.declared.state.State.{State}
use Rattle.rtps_receiver.proofs.Offered.{gathered-one}
use Rattle.rtps_fragments.specs.Merging as merging
use Rattle.rtps_fragments.specs.SampleActs as sample_acts
use Rattle.rtps_fragments.specs.FragmentWalk as fragment_walk
use Rattle.rtps_fragments.specs.ToldSamples as told_samples
use Rattle.rtps_fragments.specs.declared.fragment_walk.FragmentWalk.{FragmentWalk}

-- the act of an item comes before those of the items behind it
pub behind-item : (octets : List ℕ) (state : State) (item : wire_values.ItemValue) (items : List wire_values.ItemValue)
    → fragment_walk.piece_acts_behind octets state (item ∷ items) ≡ fragment_walk.piece_acts_of_item octets state item (acts.act_body item.body) ++ fragment_walk.piece_acts_behind octets (acts.state_behind state (item ∷ [])) items
behind-item octets state item items = grind (arith, nat_tests, common_steps, gathered-one)

sents-append : (i : ℕ) (ones more : List sample_acts.PieceAct) → merging.sents_from i (ones ++ more) ≡ merging.sents_from i ones ++ merging.sents_from (i + length ones) more
sents-append i [] more = ap (λ n. merging.sents_from n more) (let e : i ≡ i + 0 = omega arith in e)
sents-append i (one ∷ ones) more =
    let index : suc i + length ones ≡ i + suc (length ones) = omega arith in
    ap (λ rest. merging.sent_in i one.act one.piece ++ rest) (sents-append (suc i) ones more ∙ ap (λ n. merging.sents_from (suc i) ones ++ merging.sents_from n more) index)
    ∙ sym (append_assoc (merging.sent_in i one.act one.piece) (merging.sents_from (suc i) ones) (merging.sents_from (i + suc (length ones)) more))

-- ---- DATA_FRAG that are no act

-- 1 where the test holds, and 0 where it does not
abbrev pub one_of : Bool → ℕ
one_of b = cond b 1 0

pub at_most_one : (b : Bool) → one_of b ≤ 1
at_most_one b = grind (arith, nat_tests)

pub unusable-item : (octets : List ℕ) (item : wire_values.ItemValue) (items : List wire_values.ItemValue) → fragment_walk.unusable_among octets (item ∷ items) ≡ fragment_walk.one_unusable octets item + fragment_walk.unusable_among octets items
unusable-item octets item items = sum_by-cons (fragment_walk.one_unusable octets) item items

-- ---- what is kept

-- What is kept, with what these acts are and so many DATA_FRAG that are no act, is all that there is.
pub record IsReading (left all : List sample_acts.PieceAct) (unusable_left unusable : ℕ) (sending : FragmentWalk) : Type 0 where
  pub acts : map receiver_values.spoken_value sending.acts.items ++ map (λ one. one.act) left ≡ map (λ one. one.act) all
  pub sents : map told_samples.sent_value sending.sents.items ++ merging.sents_from (length sending.acts.items) left ≡ merging.sents_from 0 all
  pub well : All told_samples.IsSent sending.sents.items
  pub counted : sending.unusable + unusable_left ≡ unusable

pub reading_step : (gives left all : List sample_acts.PieceAct) (one unusable_left unusable : ℕ) (old new : FragmentWalk) → fragment_walk.AddsActs old new gives one → IsReading (gives ++ left) all (one + unusable_left) unusable old → IsReading left all unusable_left unusable new
reading_step gives left all one unusable_left unusable old new adds reading =
    let acts = λ (ones : List sample_acts.PieceAct). map (λ (one : sample_acts.PieceAct). one.act) ones in
    let count : length new.acts.items ≡ length old.acts.items + length gives =
    sym (length-map new.acts.items receiver_values.spoken_value) ∙ ap length adds.acts ∙ length-append (map receiver_values.spoken_value old.acts.items) (acts gives) ∙ omega (arith, length-map old.acts.items receiver_values.spoken_value, length-map gives (λ (one : sample_acts.PieceAct). one.act)) in
    record {
      acts = ap (λ xs. xs ++ acts left) adds.acts ∙ append_assoc (map receiver_values.spoken_value old.acts.items) (acts gives) (acts left) ∙ ap (λ xs. map receiver_values.spoken_value old.acts.items ++ xs) (sym (map-append (λ (one : sample_acts.PieceAct). one.act) gives left)) ∙ reading.acts;
      sents =
          ap (λ xs. xs ++ merging.sents_from (length new.acts.items) left) adds.sents ∙ append_assoc (map told_samples.sent_value old.sents.items) (merging.sents_from (length old.acts.items) gives) (merging.sents_from (length new.acts.items) left)
          ∙ ap (λ n. map told_samples.sent_value old.sents.items ++ (merging.sents_from (length old.acts.items) gives ++ merging.sents_from n left)) count
          ∙ ap (λ xs. map told_samples.sent_value old.sents.items ++ xs) (sym (sents-append (length old.acts.items) gives left)) ∙ reading.sents;
      well = adds.well reading.well;
      counted = (let more = adds.unusable in let so_far = reading.counted in omega arith);
    }

-- few items more
pub few_more : (octets : List ℕ) (state : State) (item : wire_values.ItemValue) (left : ℕ) (old new : FragmentWalk) → fragment_walk.AddsActs old new (fragment_walk.piece_acts_of_item octets state item (acts.act_body item.body)) (fragment_walk.one_unusable octets item)
    → old.unusable + length old.sents.items + suc left < 2 ^ 64 → new.unusable + length new.sents.items + left < 2 ^ 64
few_more octets state item left old new adds few = grind (arith, nat_tests, common_steps)

-- the acts of a datagram that is read, and of one that is refused at its header
pub acts_read : (octets : List ℕ) (header : Header) (outcomes : List reading.Outcome) (start : State) → reading.reading_of octets ≡ reading.read_as header outcomes → start ≡ acts.state_at_start header → fragment_walk.piece_acts_of octets ≡ fragment_walk.piece_acts_behind octets start (reading.items_among outcomes)
unfolding fragment_walk.piece_acts_of
acts_read octets header outcomes start is begins = ap (λ r. fragment_walk.piece_acts_with octets r.header r.items) is ∙ ap (λ s. fragment_walk.piece_acts_behind octets s (reading.items_among outcomes)) (sym begins)

pub unusable_read : (octets : List ℕ) (header : Header) (outcomes : List reading.Outcome) → reading.reading_of octets ≡ reading.read_as header outcomes → fragment_walk.unusable_in octets ≡ fragment_walk.unusable_among octets (reading.items_among outcomes)
unusable_read octets header outcomes is = ap (λ r. fragment_walk.unusable_among octets r.items) is

pub unusable_refused : (octets : List ℕ) (fault : WireFault) → reading.reading_of octets ≡ reading.refused_with fault → fragment_walk.unusable_in octets ≡ 0
unusable_refused octets fault is = ap (λ r. fragment_walk.unusable_among octets r.items) is

pub acts_refused : (octets : List ℕ) (fault : WireFault) → reading.reading_of octets ≡ reading.refused_with fault → fragment_walk.piece_acts_of octets ≡ []
unfolding fragment_walk.piece_acts_of
acts_refused octets fault is = ap (λ r. fragment_walk.piece_acts_with octets r.header r.items) is
