-- Recordings in which no submessage belongs to fragments.
use Rattle.std.proofs.lemmas.Grind.{common_steps}
use Rattle.std.proofs.Common.{◌≡◌, ℕ, ◌+◌, ◌<◌, ◌≤◌, Bool, true, false, cond, List, [], ◌∷◌, ◌++◌, filter, length, map, take, get_or, Bor, Option, None, refl, sym, ◌∙◌, ap, ap₂, subst, arith, inl, inr}
use Rattle.std.specs.Prelude.{Contains}
use Rattle.std.proofs.lemmas.Bool.Decides.{nat_tests}
use Rattle.std.proofs.lemmas.List.{length-map, length-take-le, map-append, take_more}
use Rattle.std.proofs.lemmas.List.Elements.{All-contains, All-push}
use Rattle.std.proofs.lemmas.List.Sums.{length-filter}
use Rattle.rtps_wire.specs.Reading as reading
use Rattle.rtps_wire.specs.Tally as tally_spec
use Rattle.rtps_wire.specs.Values as wire_values
use Rattle.rtps_wire.specs.declared.counts.Tally.{Tally}
use Rattle.rtps_wire.specs.declared.header.Header.{Header}
use Rattle.rtps_receiver.specs.Acts as acts_spec
use Rattle.rtps_receiver.specs.Values as receiver_values
use Rattle.rtps_receiver.specs.declared.state.State.{State}
use Rattle.rtps_audit.specs.Intake as intake
use Rattle.rtps_audit.specs.Speech as speech
use Rattle.rtps_audit.proofs.Offered.{contains_cases, contains_head, contains_mapped, contains_none, contains_tail}
use Rattle.rtps_fragments.specs.Announcing as announcing
use Rattle.rtps_fragments.specs.Laws as laws
use Rattle.rtps_fragments.specs.RecordedSamples as recorded_samples
use Rattle.rtps_fragments.specs.SampleActs as sample_acts
use Rattle.rtps_fragments.specs.FragmentWalk as fragment_walk
use Rattle.rtps_fragments.specs.Whole as whole
use Rattle.rtps_fragments.proofs.MergingLemmas.{announcing_stays}
use Rattle.rtps_fragments.proofs.FragmentCounts.{no_more}
use Rattle.rtps_fragments.proofs.SampleSteps.{octets_of}

-- an act without a piece
abbrev pub plain : receiver_values.ActValue → sample_acts.PieceAct
plain act = record { act = act; piece = None }

-- ---- one datagram

none_counted : {X : Type 0} (test : X → Bool) (xs : List X) → length (filter test xs) ≡ 0 → (x : X) → Contains xs x → test x ≡ false
none_counted test [] e x among = absurd (contains_none x among)
none_counted test (y ∷ ys) e x among = by (test y) refl e (λ none there. none_counted test ys none x there)
  where
    by : (b : Bool) → test y ≡ b → length (cond b (y ∷ filter test ys) (filter test ys)) ≡ 0 → (length (filter test ys) ≡ 0 → Contains ys x → test x ≡ false) → test x ≡ false
    by true is e behind = absurd (let none = e in omega arith)
    by false is e behind = elim (contains_cases y ys x among) [
      | inl here ↦ ap test (sym here) ∙ is
      | inr there ↦ behind e there
    ]

item_plain : (octets : List ℕ) (state : State) (item : wire_values.ItemValue) (body : Option receiver_values.ActBodyValue) → tally_spec.is_fragment item.body ≡ false → fragment_walk.piece_acts_of_item octets state item body ≡ map plain (acts_spec.acts_of_item state item body)
item_plain octets state item body h = grind (arith, nat_tests)

gathered_plain : (octets : List ℕ) (start : State) (before items : List wire_values.ItemValue) → ((item : wire_values.ItemValue) → Contains items item → tally_spec.is_fragment item.body ≡ false)
    → acts_spec.gathered (λ s i. fragment_walk.piece_acts_of_item octets s i (acts_spec.act_body i.body)) start before items ≡ map plain (acts_spec.acts_behind start before items)
gathered_plain octets start before [] none = refl
gathered_plain octets start before (item ∷ items) none =
    let here = acts_spec.acts_of_item (acts_spec.state_behind start before) item (acts_spec.act_body item.body) in
    ap (λ acts. acts ++ acts_spec.gathered (λ s i. fragment_walk.piece_acts_of_item octets s i (acts_spec.act_body i.body)) start (before ++ item ∷ []) items) (item_plain octets (acts_spec.state_behind start before) item (acts_spec.act_body item.body) (none item (contains_head item items)))
    ∙ ap (λ rest. map plain here ++ rest) (gathered_plain octets start (before ++ item ∷ []) items (λ other among. none other (contains_tail item items other among)))
    ∙ sym (map-append plain here (acts_spec.acts_behind start (before ++ item ∷ []) items))

with_plain : (octets : List ℕ) (header : Option Header) (items : List wire_values.ItemValue) → ((item : wire_values.ItemValue) → Contains items item → tally_spec.is_fragment item.body ≡ false)
    → fragment_walk.piece_acts_with octets header items ≡ map plain (acts_spec.acts_with header items)
with_plain octets header items h = grind (arith, nat_tests, common_steps, gathered_plain)

pub datagram_plain : (octets : List ℕ) → (tally_spec.tally_of (reading.reading_of octets)).fragments ≡ 0 → fragment_walk.piece_acts_of octets ≡ map plain (acts_spec.acts_of (reading.reading_of octets))
unfolding fragment_walk.piece_acts_of acts_spec.acts_of
datagram_plain octets none =
    with_plain octets (reading.reading_of octets).header (reading.reading_of octets).items
    (none_counted (λ item. tally_spec.is_fragment item.body) (reading.reading_of octets).items (length-filter (λ (item : wire_values.ItemValue). tally_spec.is_fragment item.body) (reading.reading_of octets).items ∙ none))

acts_of_plain : (acts : List receiver_values.ActValue) → map (λ one. one.act) (map plain acts) ≡ acts
acts_of_plain [] = refl
acts_of_plain (act ∷ acts) = ap (λ rest. act ∷ rest) (acts_of_plain acts)

-- ---- a recording

-- each of these datagrams is without fragments
abbrev pub EachWithout : List (List ℕ) → Type 0
EachWithout recording = (octets : List ℕ) → Contains recording octets → (tally_spec.tally_of (reading.reading_of octets)).fragments ≡ 0

pub acts_plain : (recording : List (List ℕ)) → EachWithout recording → map (map (λ one. one.act)) (fragment_walk.sending_of recording) ≡ speech.acts_by_datagram recording
acts_plain [] none = refl
acts_plain (octets ∷ recording) none =
    ap (λ acts. acts ∷ map (map (λ (one : sample_acts.PieceAct). one.act)) (fragment_walk.sending_of recording)) (ap (map (λ (one : sample_acts.PieceAct). one.act)) (datagram_plain octets (none octets (contains_head octets recording))) ∙ acts_of_plain (acts_spec.acts_of (reading.reading_of octets)))
    ∙ ap (λ rest. acts_spec.acts_of (reading.reading_of octets) ∷ rest) (acts_plain recording (λ other among. none other (contains_tail octets recording other among)))

no_pieces : (recording : List (List ℕ)) → EachWithout recording → laws.HasNoPieces (fragment_walk.sending_of recording)
no_pieces recording none datagram one there among =
    let (octets, sent, same) = contains_mapped fragment_walk.piece_acts_of recording datagram there in
    let (act, has, is) = contains_mapped plain (acts_spec.acts_of (reading.reading_of octets)) one (subst (λ (ones : List sample_acts.PieceAct). Contains ones one) (sym same ∙ datagram_plain octets (none octets sent)) among) in
    ap (λ (p : sample_acts.PieceAct). p.piece) (sym is)

-- nothing is counted
tallies_stay : (all : List sample_acts.PieceAct) (recording : List (List ℕ)) → EachWithout recording → map (recorded_samples.tally_with all) recording ≡ map (λ datagram. tally_spec.tally_of (reading.reading_of datagram)) recording
tallies_stay all [] none = refl
tallies_stay all (octets ∷ recording) none =
    let zero = none octets (contains_head octets recording) in
    let few = no_more all octets in
    let left : recorded_samples.fragments_left all octets ≡ (tally_spec.tally_of (reading.reading_of octets)).fragments = omega arith in
    let first : recorded_samples.tally_with all octets ≡ tally_spec.tally_of (reading.reading_of octets) = ap (whole.tally_with_fragments (tally_spec.tally_of (reading.reading_of octets))) left in
    ap (λ t. t ∷ map (recorded_samples.tally_with all) recording) first ∙ ap (λ ts. tally_spec.tally_of (reading.reading_of octets) ∷ ts) (tallies_stay all recording (λ other among. none other (contains_tail octets recording other among)))

acts_in_plain : (recording : List (List ℕ)) → EachWithout recording → fragment_walk.all_acts_in recording ≡ acts_spec.acts_in recording
acts_in_plain [] none = refl
acts_in_plain (octets ∷ recording) none =
    ap₂ ◌++◌ (ap (map (λ (one : sample_acts.PieceAct). one.act)) (datagram_plain octets (none octets (contains_head octets recording))) ∙ acts_of_plain (acts_spec.acts_of (reading.reading_of octets)))
    (acts_in_plain recording (λ other among. none other (contains_tail octets recording other among)))

pub all_acts_stay : laws.ActsStayWithoutFragments
all_acts_stay recording all = acts_in_plain recording (λ octets among. All-contains (λ datagram. (tally_spec.tally_of (reading.reading_of datagram)).fragments ≡ 0) recording octets all among)

-- what an index with samples takes in of them, whatever all acts of their recording are
pub taken_plain : (all : List sample_acts.PieceAct) (recording : List (List ℕ)) → EachWithout recording
    → record { tallies = map (recorded_samples.tally_with all) recording; acts = sample_acts.acts_sent (fragment_walk.sending_of recording); announcing = announcing.announcing_with (fragment_walk.sending_of recording) } ≡ intake.intake_of recording
taken_plain all recording none =
    let plain_acts = acts_plain recording none in
    let tallies : List Tally = map (λ datagram. tally_spec.tally_of (reading.reading_of datagram)) recording in
    let said : List (List receiver_values.ActValue) → intake.Intake = λ acts. record { tallies = tallies; acts = acts; announcing = announcing.announcing_with (fragment_walk.sending_of recording) } in
    let noted : List (List receiver_values.ActValue) → intake.Intake = λ acts. record { tallies = tallies; acts = speech.acts_by_datagram recording; announcing = acts } in
    let sending = fragment_walk.sending_of recording in
    let counted : List Tally → intake.Intake = λ t. record { tallies = t; acts = sample_acts.acts_sent sending; announcing = announcing.announcing_with sending } in
    ap counted (tallies_stay all recording none) ∙ ap said plain_acts ∙ ap noted (announcing_stays (fragment_walk.sending_of recording) (no_pieces recording none) ∙ plain_acts)

pub intake_stays : laws.IntakeStaysWithoutFragments
intake_stays recording all = taken_plain (sample_acts.piece_acts_in (fragment_walk.sending_of recording)) recording (λ octets among. All-contains (λ datagram. (tally_spec.tally_of (reading.reading_of datagram)).fragments ≡ 0) recording octets all among)

-- ---- one datagram more

-- so many are taken in
pub plain_count : (xs : List (Bor (List ℕ))) (i : ℕ) → i ≤ length xs → length (intake.intake_of (octets_of (take i xs))).acts ≡ i
plain_count xs i le = omega (arith, length-map (octets_of (take i xs)) (λ datagram. acts_spec.acts_of (reading.reading_of datagram)), length-map (take i xs) (λ (datagram : Bor (List ℕ)). datagram.now), length-take-le i xs le)

-- one more is without fragments
pub without_more : (xs : List (Bor (List ℕ))) (i : ℕ) (d : Bor (List ℕ)) (tally : Tally) → i < length xs → recorded_samples.IsWithoutFragments (octets_of (take i xs)) → tally ≡ tally_spec.tally_of (reading.reading_of (get_or xs i d).now) → tally.fragments ≡ 0
    → recorded_samples.IsWithoutFragments (octets_of (take (i + 1) xs))
without_more xs i d tally lt none is zero =
    subst recorded_samples.IsWithoutFragments (sym (ap octets_of (take_more xs i d lt) ∙ map-append (λ (datagram : Bor (List ℕ)). datagram.now) (take i xs) (get_or xs i d ∷ [])))
    (All-push (λ datagram. (tally_spec.tally_of (reading.reading_of datagram)).fragments ≡ 0) (octets_of (take i xs)) (get_or xs i d).now none (sym (ap (λ (t : Tally). t.fragments) is) ∙ zero))
