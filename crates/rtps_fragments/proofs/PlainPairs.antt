-- Where neither of a pair sends fragments, its reader hears what is sent, and is judged by it.
use Rattle.std.proofs.lemmas.Bool.Decides.{nat_tests}
use Rattle.std.proofs.Common.{◌≡◌, ◌∙◌, ℕ, ◌+◌, ◌-◌, ◌<◌, Bool, false, true, ◌&&◌, ◌||◌, List, [], ◌∷◌, ◌++◌, filter, length, map, max, Option, Some, pos, refl, ap, subst, sym, arith}
use Rattle.std.specs.Prelude.{Contains}
use Rattle.std.proofs.lemmas.List.{length-map}
use Rattle.rtps_ids.specs.declared.identity.Guid.{Guid}
use Rattle.rtps_receiver.specs.Speech as receiver_speech
use Rattle.rtps_receiver.specs.Values as values
use Rattle.rtps_discovery.specs.declared.matching.Pair.{Pair}
use Rattle.rtps_audit.specs.Answered as answered
use Rattle.rtps_audit.specs.Delivery as delivery
use Rattle.rtps_audit.specs.Laws as audit_laws
use Rattle.rtps_audit.specs.Placed as placed
use Rattle.rtps_audit.specs.Speech as speech
use Rattle.rtps_audit.specs.declared.answer.Answer.{Answer}
use Rattle.rtps_audit.proofs.Offered.{base_is_claim, claim_is_base, given_is_word, if_some, kept_if_passed, kept_is_there, last_is_last, made_from, makes, speaker_is_origin, word_is_given}
use Rattle.rtps_fragments.specs.FragmentDelivery as fragment_delivery
use Rattle.rtps_fragments.specs.Hearing as hearing
use Rattle.rtps_fragments.specs.Laws as laws
use Rattle.rtps_fragments.specs.SampleActs as sample_acts
use Rattle.rtps_fragments.proofs.ActsAnd.{length-acts}
use Rattle.rtps_fragments.proofs.HearingLemmas.{no_piece}
use Rattle.rtps_fragments.proofs.ViewLemmas.{answers_heard, heard_of_origin}

-- ---- acts without fragments are heard as they are

none_first : (a b : Bool) → (a || b) ≡ false → a ≡ false
none_first a b h = grind (arith, nat_tests)

both_first : (a b : Bool) → (a && b) ≡ true → a ≡ true
both_first a b h = grind (arith, nat_tests)

none_rest : (a b : Bool) → (a || b) ≡ false → b ≡ false
none_rest a b h = grind (arith, nat_tests)

heard_same : (reader : Guid) (before : List sample_acts.PieceAct) (acts : List placed.PlacedValue) → hearing.have_fragments acts ≡ false → hearing.heard_behind reader before acts ≡ acts
heard_same reader before [] none = refl
heard_same reader before (one ∷ acts) none =
    let first = none_first (hearing.sends_fragments one.act.body) (hearing.have_fragments acts) none in
    let rest = none_rest (hearing.sends_fragments one.act.body) (hearing.have_fragments acts) none in
    let behind = hearing.heard_behind reader (before ++ hearing.with_piece one.act ∷ []) acts in
    ap (λ (o : Option fragment_delivery.Piece). one ∷ (placed.placed_at one.datagram (sample_acts.samples_told reader before one.act o) ++ behind)) (no_piece one.act.body first)
    ∙ ap (λ (l : List placed.PlacedValue). one ∷ l) (heard_same reader (before ++ hearing.with_piece one.act ∷ []) acts rest)

origin_same : (origin reader : Guid) (recording : List (List values.ActValue)) → hearing.have_fragments (filter (placed.is_from origin) (placed.placed_in recording)) ≡ false
    → filter (placed.is_from origin) (placed.placed_in (hearing.heard_by reader recording)) ≡ filter (placed.is_from origin) (placed.placed_in recording)
origin_same origin reader recording none = heard_of_origin origin reader recording ∙ heard_same reader [] (filter (placed.is_from origin) (placed.placed_in recording)) none

pub pairs_are_heard_without_fragments : laws.PairsAreHeardWithoutFragments
pairs_are_heard_without_fragments pair recording said is acts asks = record {
  acts = is.acts ∙ sym (origin_same pair.writer pair.reader recording (ap hearing.have_fragments (sym is.acts) ∙ acts));
  answers = is.answers ∙ sym (answers_heard pair pair.reader recording);
  asks = is.asks ∙ sym (origin_same pair.reader pair.reader recording (ap hearing.have_fragments (sym is.asks) ∙ asks));
}

pub as_sent : (one : placed.PlacedValue) → hearing.sends_fragments one.act.body ≡ false → hearing.for_everyone one ≡ one
as_sent one none = ap (λ (act : values.ActValue). let at : placed.PlacedValue = record { datagram = one.datagram; act = act } in at) (by one.act.body none)
  where
    by : (body : values.ActBodyValue) → hearing.sends_fragments body ≡ false → hearing.sent_to_everyone one.act body ≡ one.act
    by body plain = grind (arith, nat_tests)

all_as_sent : (acts : List placed.PlacedValue) → hearing.have_fragments acts ≡ false → map hearing.for_everyone acts ≡ acts
all_as_sent [] none = refl
all_as_sent (one ∷ acts) none =
    ap (λ (o : placed.PlacedValue). o ∷ map hearing.for_everyone acts) (as_sent one (none_first (hearing.sends_fragments one.act.body) (hearing.have_fragments acts) none))
    ∙ ap (λ (l : List placed.PlacedValue). one ∷ l) (all_as_sent acts (none_rest (hearing.sends_fragments one.act.body) (hearing.have_fragments acts) none))

pub overheard_without_fragments : laws.OverheardWithoutFragments
overheard_without_fragments acts none = ap (hearing.heard_of hearing.nobody) (all_as_sent acts none) ∙ heard_same hearing.nobody [] acts none

-- ---- the same acts and answers say the same

answered_base : (d at e other : ℕ) (o : Option ℕ) (base : ℕ) → placed.answer_at d at o ≡ Some (record { datagram = e; at = other; base = pos base }) → o ≡ Some base
answered_base d at e other o base is = grind (arith, nat_tests)

answered_there : (d at e other : ℕ) (o : Option ℕ) (base : ℕ) → placed.answer_at d at o ≡ Some (record { datagram = e; at = other; base = pos base }) → d ≡ e
answered_there d at e other o base is = grind (arith, nat_tests)

module _ (from : ℕ) (pair : Pair) (one other : List (List values.ActValue)) (acts : filter (placed.is_from pair.writer) (placed.placed_in one) ≡ filter (placed.is_from pair.writer) (placed.placed_in other))
    (answers : placed.answers_among pair (placed.placed_in one) ≡ placed.answers_among pair (placed.placed_in other)) where
  word_there : (i n : ℕ) (word : delivery.Word) → (k : ℕ) × delivery.Gives from (speech.speech_by pair.writer pair.reader one) i k n word → (k : ℕ) × delivery.Gives from (speech.speech_by pair.writer pair.reader other) i k n word
  word_there i n word (k, gives) =
      let (at, among, says, place) = given_is_word from pair.writer pair.reader one i k n word gives in
      let heard = (if_some (receiver_speech.is_spoken_by at.act pair.writer && receiver_speech.is_heard_by at.act pair.reader) (speech.word_of at.act.body n) word says).0 in
      let spoken = speaker_is_origin pair.writer at (both_first (receiver_speech.is_spoken_by at.act pair.writer) (receiver_speech.is_heard_by at.act pair.reader) heard) in
      let kept = subst (λ (l : List placed.PlacedValue). Contains l at) acts (kept_if_passed (placed.is_from pair.writer) (placed.placed_in one) at among spoken) in
      let (j, m, also, there) = word_is_given from pair.writer pair.reader other n word at (kept_is_there (placed.is_from pair.writer) (placed.placed_in other) at kept) says gives.asked in
      let same : j ≡ i = omega (arith, place, there) in
      (m, subst (λ p. delivery.Gives from (speech.speech_by pair.writer pair.reader other) p m n word) same also)

  claim_there : (j n : ℕ) → delivery.Claims from (speech.speech_by pair.writer pair.reader one) j n → delivery.Claims from (speech.speech_by pair.writer pair.reader other) j n
  claim_there j n claims =
      let (at, base, among, answered, below, place) = claim_is_base from pair.writer pair.reader one j n claims in
      let answer : Answer = record { datagram = at.datagram; at = at.act.at; base = pos base } in
      let kept = subst (λ (l : List Answer). Contains l answer) answers (makes (placed.answer_of pair) (placed.placed_in one) at answer among (ap (placed.answer_at at.datagram at.act.at) answered)) in
      let (there, stands, is) = made_from (placed.answer_of pair) (placed.placed_in other) answer kept in
      let says = answered_base there.datagram there.act.at at.datagram at.act.at (speech.base_for pair.writer pair.reader there.act) base is in
      let where_it_is = answered_there there.datagram there.act.at at.datagram at.act.at (speech.base_for pair.writer pair.reader there.act) base is in
      let (i, also, place_there) = base_is_claim from pair.writer pair.reader other n base there stands says below claims.asked in
      let same : i ≡ j = omega (arith, place, where_it_is, place_there) in
      subst (λ p. delivery.Claims from (speech.speech_by pair.writer pair.reader other) p n) same also

announced_same : (from : ℕ) (pair : Pair) (one other : List (List values.ActValue)) → filter (placed.is_from pair.writer) (placed.placed_in one) ≡ filter (placed.is_from pair.writer) (placed.placed_in other)
    → delivery.last_announced_from from (speech.speech_by pair.writer pair.reader one) ≡ delivery.last_announced_from from (speech.speech_by pair.writer pair.reader other)
announced_same from pair one other acts =
    sym (last_is_last from pair.writer pair.reader one) ∙ ap (λ (l : List placed.PlacedValue). max (from - 1) (answered.last_among pair.writer l)) acts ∙ last_is_last from pair.writer pair.reader other

says_same : (from : ℕ) (pair : Pair) (one other : List (List values.ActValue)) → length one ≡ length other → filter (placed.is_from pair.writer) (placed.placed_in one) ≡ filter (placed.is_from pair.writer) (placed.placed_in other)
    → placed.answers_among pair (placed.placed_in one) ≡ placed.answers_among pair (placed.placed_in other) → audit_laws.SaysTheSame from (speech.speech_by pair.writer pair.reader one) (speech.speech_by pair.writer pair.reader other)
says_same from pair one other counted acts answers = record {
  counted = length-map one (speech.said_by pair.writer pair.reader) ∙ counted ∙ sym (length-map other (speech.said_by pair.writer pair.reader));
  words = λ i n word. (word_there from pair one other acts answers i n word, word_there from pair other one (sym acts) (sym answers) i n word);
  claims = λ j n. (claim_there from pair one other acts answers j n, claim_there from pair other one (sym acts) (sym answers) j n);
  announced = announced_same from pair one other acts;
}

heard_length : (reader : Guid) (recording : List (List values.ActValue)) → length (hearing.heard_by reader recording) ≡ length recording
heard_length reader recording = length-acts (sample_acts.samples_told reader) [] (map (map hearing.with_piece) recording) ∙ length-map recording (map hearing.with_piece)

pub verdicts_stay_without_fragments : audit_laws.VerdictsFollowWhatIsSaid → laws.VerdictsStayWithoutFragments
verdicts_stay_without_fragments follow from writer reader recording verdict none =
    let pair : Pair = record { writer = writer; reader = reader } in
    let heard = hearing.heard_by reader recording in
    let counted = heard_length reader recording in
    let acts = origin_same writer reader recording none in
    let answers = answers_heard pair reader recording in (
      follow from (speech.speech_by writer reader heard) (speech.speech_by writer reader recording) verdict (says_same from pair heard recording counted acts answers),
      follow from (speech.speech_by writer reader recording) (speech.speech_by writer reader heard) verdict (says_same from pair recording heard (sym counted) (sym acts) (sym answers)),
    )
