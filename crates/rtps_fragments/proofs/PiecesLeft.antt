-- Recordings without pieces, and pieces of no sample.
use Rattle.std.proofs.lemmas.Grind.{common_steps}
use Rattle.std.proofs.Common.{◌≡◌, ℕ, suc, ◌≤◌, Bool, true, false, not, ◌&&◌, List, [], ◌∷◌, Option, Some, None, refl, sym, ◌∙◌, ap, subst, arith, inl, inr}
use Rattle.std.specs.Prelude.{Contains, ◌==◌, ◌||◌}
use Rattle.std.specs.List.{list_any}
use Rattle.std.proofs.lemmas.Bool.{cases_Bool, and_from, and_parts}
use Rattle.std.proofs.lemmas.Bool.Decides.{Decides-eqb, nat_tests}
use Rattle.std.proofs.lemmas.Option.{slice_get_cases}
use Rattle.rtps_ids.specs.declared.identity.Guid.{Guid}
use Rattle.rtps_wire.specs.Values as wire_values
use Rattle.rtps_receiver.specs.Speech as receiver_speech
use Rattle.rtps_receiver.specs.Values as receiver_values
use Rattle.rtps_audit.specs.RunVerdict as run_verdict
use Rattle.rtps_audit.proofs.Offered.{contains_cases, contains_head, contains_none, contains_tail}
use Rattle.rtps_fragments.specs.FragmentDelivery as fragment_delivery
use Rattle.rtps_wire.specs.declared.data_frag.Shape.{Shape}
use Rattle.rtps_wire.specs.DataFrag as data_frag
use Rattle.rtps_fragments.specs.FragmentVerdict as fragment_verdict
use Rattle.rtps_fragments.specs.Laws as laws
use Rattle.rtps_fragments.specs.Samples as samples
use Rattle.rtps_audit.specs.Speech as audit_speech
use Rattle.rtps_fragments.specs.SampleActs as sample_acts
use Rattle.rtps_fragments.specs.SamplesSent as samples_sent
use Rattle.rtps_fragments.proofs.ActsTell.{fragment_bounds}
use Rattle.rtps_fragments.proofs.Lists.{any_from, flat_from}
use Rattle.rtps_fragments.proofs.HeardLemmas.{heard_from}
use Rattle.rtps_fragments.proofs.PutTogether.{EachOf, IsWithin, put_of, some_of_shape}

-- ---- no pieces

no_parts : (recording : List (List sample_acts.PieceAct)) → laws.HasNoPieces recording → laws.ArePieceActs recording
no_parts recording none datagram part piece there among is = absurd (let clash : None ≡ Some piece = sym (none datagram part there among) ∙ is in cc)

pub verdict_stays : laws.FragmentVerdictOfActs → laws.ActsStayWithoutPieces → laws.VerdictStaysWithoutPieces
verdict_stays of_acts stay from writer reader recording verdict none =
    subst (λ acts. (fragment_verdict.IsFragmentVerdictFrom from (sample_acts.fragment_speech_of writer reader recording) verdict → run_verdict.IsVerdictFrom from (audit_speech.speech_by writer reader acts) verdict)
    × (run_verdict.IsVerdictFrom from (audit_speech.speech_by writer reader acts) verdict → fragment_verdict.IsFragmentVerdictFrom from (sample_acts.fragment_speech_of writer reader recording) verdict))
    (stay reader recording none)
    (of_acts from writer reader recording verdict (no_parts recording none))

-- ---- pieces of no sample

none_from : {X : Type 0} (test : X → Bool) (xs : List X) → ((x : X) → Contains xs x → test x ≡ false) → list_any test xs ≡ false
none_from test [] none = refl
none_from test (y ∷ ys) none = both (test y) (none y (contains_head y ys)) (none_from test ys (λ x among. none x (contains_tail y ys x among)))
  where
    both : (b : Bool) → b ≡ false → list_any test ys ≡ false → (b || list_any test ys) ≡ false
    both true e f = cc
    both false e f = f

some_payload : (payloads : List wire_values.PayloadValue) (payload : wire_values.PayloadValue) → Contains payloads payload → samples_sent.is_some_payload payloads ≡ true
some_payload payloads payload h = grind (arith, nat_tests, common_steps, contains_none)

first_payload : (payloads : List wire_values.PayloadValue) → samples_sent.is_some_payload payloads ≡ true → (payload : wire_values.PayloadValue) × Contains payloads payload
first_payload [] e = cc
first_payload (payload ∷ payloads) e = (payload, contains_head payload payloads)

fragment_number : (n : ℕ) (shape : Shape) (i : ℕ) (parts : List (List ℕ)) (f : fragment_delivery.Fragment) → Contains (fragment_delivery.fragments_from n shape i parts) f → f.number ≡ n
fragment_number n shape i [] f among = absurd (contains_none f among)
fragment_number n shape i (octets ∷ parts) f among =
    let first : fragment_delivery.Fragment = record { number = n; shape = shape; index = i; octets = octets } in
    elim (contains_cases first (fragment_delivery.fragments_from n shape (suc i) parts) f among) [
      | inl here ↦ sym (ap (λ (x : fragment_delivery.Fragment). x.number) here)
      | inr there ↦ fragment_number n shape (suc i) parts f there
    ]

-- a fragment of an act is of its piece
pub of_its_piece : (o : Option fragment_delivery.Piece) (f : fragment_delivery.Fragment) → Contains (sample_acts.fragments_in o) f → (piece : fragment_delivery.Piece) × (o ≡ Some piece) × (piece.number ≡ f.number) × (piece.shape ≡ f.shape) × Contains (fragment_delivery.fragments_of piece) f
of_its_piece None f among = absurd (contains_none f among)
of_its_piece (Some piece) f among =
    let bounds = fragment_bounds piece.number piece.shape piece.first piece.parts f among in
    (piece, refl, sym (fragment_number piece.number piece.shape piece.first piece.parts f among), sym bounds.2, among)

module _ (all : List sample_acts.PieceAct) (writer : Guid) (n : ℕ) (parts : (part : sample_acts.PieceAct) (piece : fragment_delivery.Piece) → Contains all part → part.piece ≡ Some piece → laws.IsPieceAct part piece) where
  -- the test that finds a whole sample
  abbrev finds : sample_acts.PieceAct → Bool
  finds other = receiver_speech.is_spoken_by other.act writer && samples_sent.is_whole all writer n other.piece

  pub sent_within : EachOf n (samples_sent.sent_by writer all) IsWithin
  sent_within f among same =
      let (part, there, spoken, has) = heard_from (λ (p : sample_acts.PieceAct). receiver_speech.is_spoken_by p.act writer) all f among in
      let (piece, is, number, shape, own) = of_its_piece part.piece f has in
      let of = parts part piece there is in
      let (low, high, also) = fragment_bounds piece.number piece.shape piece.first piece.parts f own in
      let first = of.first in
      let last = of.last in
      (omega arith, subst (λ s. f.index ≤ data_frag.last_fragment s) shape (omega arith))

  found_is_put : (other : sample_acts.PieceAct) → finds other ≡ true → (payload : wire_values.PayloadValue) × fragment_delivery.IsPutTogether (Contains (samples_sent.sent_by writer all)) n payload
  found_is_put other found = by other.piece (and_parts (receiver_speech.is_spoken_by other.act writer) (samples_sent.is_whole all writer n other.piece) found).1
    where
      by : (o : Option fragment_delivery.Piece) → samples_sent.is_whole all writer n o ≡ true → (payload : wire_values.PayloadValue) × fragment_delivery.IsPutTogether (Contains (samples_sent.sent_by writer all)) n payload
      by None e = cc
      by (Some piece) e =
          let (payload, told) = first_payload (samples.payloads_of n piece.shape (samples_sent.sent_by writer all)) (and_parts (piece.number == n) _ e).1 in
          (payload, put_of (Contains (samples_sent.sent_by writer all)) n (samples_sent.sent_by writer all) (λ f among same. among) sent_within payload (piece.shape, told))

  put_is_found : (payload : wire_values.PayloadValue) → fragment_delivery.IsPutTogether (Contains (samples_sent.sent_by writer all)) n payload → (other : sample_acts.PieceAct) × Contains all other × (finds other ≡ true)
  put_is_found payload put = elim (slice_get_cases put.parts 0).1 [
    | inl found ↦ by (put.each 0 found.0 found.2)
    | inr past ↦ absurd (let some = put.some in let le = past.0 in omega arith)
  ]
    where
      told : (payload : wire_values.PayloadValue) × Contains (samples.payloads_of n put.shape (samples_sent.sent_by writer all)) payload
      told = some_of_shape n (samples_sent.sent_by writer all) payload put

      by : {octets : List ℕ} → Contains (samples_sent.sent_by writer all) (record { number = n; shape = put.shape; index = suc 0; octets = octets }) → (other : sample_acts.PieceAct) × Contains all other × (finds other ≡ true)
      by {octets} among =
          let f : fragment_delivery.Fragment = record { number = n; shape = put.shape; index = suc 0; octets = octets } in
          let (other, there, spoken, has) = heard_from (λ (p : sample_acts.PieceAct). receiver_speech.is_spoken_by p.act writer) all f among in
          let (piece, is, number, shape, own) = of_its_piece other.piece f has in
          let some : samples_sent.is_some_payload (samples.payloads_of n piece.shape (samples_sent.sent_by writer all)) ≡ true =
          subst (λ s. samples_sent.is_some_payload (samples.payloads_of n s (samples_sent.sent_by writer all)) ≡ true) (sym shape) (some_payload (samples.payloads_of n put.shape (samples_sent.sent_by writer all)) told.0 told.1) in
          let whole = and_from (piece.number == n) _ ((Decides-eqb piece.number n).1 number) some in
          (other, there, and_from (receiver_speech.is_spoken_by other.act writer) _ spoken (subst (λ o. samples_sent.is_whole all writer n o ≡ true) (sym is) whole))

not_true : (b : Bool) → not b ≡ true → b ≡ true → ⊥
not_true true e f = cc
not_true false e f = cc

-- the same of any act and its piece
left_is_none : (all : List sample_acts.PieceAct) (act : receiver_values.ActValue) (piece : fragment_delivery.Piece) → ((part : sample_acts.PieceAct) (other : fragment_delivery.Piece) → Contains all part → part.piece ≡ Some other → laws.IsPieceAct part other)
    → (samples_sent.is_left all act (Some piece) ≡ true → (payload : wire_values.PayloadValue) → ¬ fragment_delivery.IsPutTogether (Contains (samples_sent.sent_by (receiver_speech.origin_of act) all)) piece.number payload)
    × (((payload : wire_values.PayloadValue) → ¬ fragment_delivery.IsPutTogether (Contains (samples_sent.sent_by (receiver_speech.origin_of act) all)) piece.number payload) → samples_sent.is_left all act (Some piece) ≡ true)
left_is_none all act piece parts = (
  λ left payload put.
      let (other, there, found) = put_is_found all (receiver_speech.origin_of act) piece.number parts payload put in
      not_true _ left (any_from (finds all (receiver_speech.origin_of act) piece.number parts) all other there found),
  λ none. ap not (none_from (finds all (receiver_speech.origin_of act) piece.number parts) all (λ other there. elim (cases_Bool (finds all (receiver_speech.origin_of act) piece.number parts other)) [
    | inl found ↦ absurd (let (payload, put) = found_is_put all (receiver_speech.origin_of act) piece.number parts other found in none payload put)
    | inr apart ↦ apart
  ])),
)

pub pieces_left_are_of_no_sample : laws.PiecesLeftAreOfNoSample
pieces_left_are_of_no_sample recording parts part piece among is =
    let all = sample_acts.piece_acts_in recording in
    let same = left_is_none all part.act piece (λ other its there has. let (datagram, stands, in_it) = flat_from (λ (d : List sample_acts.PieceAct). d) recording other there in parts datagram other its stands in_it has) in
    (λ left. same.0 (subst (λ o. samples_sent.is_left all part.act o ≡ true) is left), λ none. subst (λ o. samples_sent.is_left all part.act o ≡ true) (sym is) (same.1 none))
