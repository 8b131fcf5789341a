-- What a reader hears of the payloads that are kept for numbers with two of them.
use Rattle.std.proofs.Common.{ℕ, ◌≡◌, ◌≤◌, ◌<◌, Bool, true, false, ◌&&◌, eq-eqb, List, [], ◌∷◌, ◌++◌, Option, Some, None, length, take, get_or, refl, sym, ◌∙◌, ap, subst, inl, inr, arith}
use Rattle.std.specs.Prelude.{◌≢◌, ◌==◌, ◌⊎◌, if◌then◌else◌, All, Contains, MatchOption}
use Rattle.std.specs.List.Sorted.{IsNonDecreasingBy, IsPermutation}
use Rattle.std.proofs.lemmas.List.Sorted.{Contains-permutation, IsPermutation-sym}
use Rattle.std.proofs.lemmas.Bool.{cases_lt, eqb-true}
use Rattle.std.proofs.lemmas.List.Elements.{All-contains, Contains-append_left, Contains-get_or, Contains-push, Contains-push_cases}
use Rattle.rtps_ids.specs.declared.identity.EntityId.{EntityId}
use Rattle.rtps_ids.specs.declared.identity.Guid.{Guid}
use Rattle.rtps_ids.specs.declared.identity.GuidPrefix.{GuidPrefix}
use Rattle.rtps_receiver.specs.Speech as receiver_speech
use Rattle.rtps_receiver.specs.Values as receiver_values
use Rattle.rtps_wire.specs.Values as wire_values
use Rattle.rtps_audit.specs.Delivery as delivery
use Rattle.rtps_audit.specs.Answered as answered
use Rattle.rtps_audit.specs.PayloadConflict as payload_conflict
use Rattle.rtps_audit.specs.Placed as placed_spec
use Rattle.rtps_audit.specs.RunVerdict as run_verdict
use Rattle.rtps_audit.specs.Speech as speech
use Rattle.rtps_audit.specs.declared.payload_conflict.AddressedPayload.{AddressedPayload}
use Rattle.rtps_audit.proofs.IndexSpeech.{if_some}
use Rattle.rtps_audit.proofs.PayloadRuns.{lesser_before, taken}
use Rattle.rtps_audit.proofs.PlacedLemmas.{both, bytes_eq-sym}

-- ---- entries and acts

abbrev pub told_if : Bool → wire_values.PayloadValue → Option delivery.Word
told_if b x = if b then Some (delivery.Word.Told x) else None

abbrev pub payload_or : wire_values.PayloadValue → Option delivery.Word → wire_values.PayloadValue
payload_or x (Some (delivery.Word.Told y)) = y
payload_or x _ = x

-- a DATA tells its own number and payload, and nothing else
pub told_itself : (act : receiver_values.ActValue) (e : AddressedPayload) (n : ℕ) (x : wire_values.PayloadValue) → payload_conflict.IsSentBy act e → speech.word_of act.body n ≡ Some (delivery.Word.Told x) → (payload_conflict.number_in e ≡ n) × (wire_values.payload_value e.payload.now ≡ x)
told_itself act e n x sent says = by_test (n == e.number) refl (sym (sent.says n) ∙ says)
  where
    by_test : (b : Bool) → (n == e.number) ≡ b → told_if b (wire_values.payload_value e.payload.now) ≡ Some (delivery.Word.Told x) → (payload_conflict.number_in e ≡ n) × (wire_values.payload_value e.payload.now ≡ x)
    by_test true same is = (sym (eqb-true n e.number same), ap (payload_or x) is)
    by_test false same is = cc

pub tells_itself : (act : receiver_values.ActValue) (e : AddressedPayload) → payload_conflict.IsSentBy act e → speech.word_of act.body e.number ≡ Some (delivery.Word.Told (wire_values.payload_value e.payload.now))
tells_itself act e sent = sent.says e.number ∙ ap (λ b. told_if b (wire_values.payload_value e.payload.now)) (eq-eqb e.number e.number refl)

-- who an act is from speaks it, unless it is of a reader
speaks : (writer : Guid) (source : GuidPrefix) (body : receiver_values.ActBodyValue) (named : EntityId) → (receiver_speech.is_prefix writer.prefix source && receiver_speech.is_entity writer.entity (receiver_speech.entity_from body)) ≡ true → receiver_speech.reader_named body ≡ Some named
    → (receiver_speech.is_prefix source writer.prefix && receiver_speech.names (receiver_speech.writer_named body) writer.entity) ≡ true
speaks writer source (receiver_values.ActBodyValue.AckNack value) named from reader = cc
speaks writer source (receiver_values.ActBodyValue.NackFrag value) named from reader = cc
speaks writer source (receiver_values.ActBodyValue.Data value) named from reader = both (bytes_eq-sym source.0 writer.prefix.0) (bytes_eq-sym value.writer.0 writer.entity.0) ∙ from
speaks writer source (receiver_values.ActBodyValue.Heartbeat value) named from reader = both (bytes_eq-sym source.0 writer.prefix.0) (bytes_eq-sym value.writer.0 writer.entity.0) ∙ from
speaks writer source (receiver_values.ActBodyValue.Gap value) named from reader = both (bytes_eq-sym source.0 writer.prefix.0) (bytes_eq-sym value.writer.0 writer.entity.0) ∙ from
speaks writer source (receiver_values.ActBodyValue.DataFrag value) named from reader = both (bytes_eq-sym source.0 writer.prefix.0) (bytes_eq-sym value.writer.0 writer.entity.0) ∙ from

pub from_speaks : (writer : Guid) (at : placed_spec.PlacedValue) (named : EntityId) → placed_spec.is_from writer at ≡ true → receiver_speech.reader_named at.act.body ≡ Some named → receiver_speech.is_spoken_by at.act writer ≡ true
from_speaks writer at named from reader = speaks writer at.act.source at.act.body named from reader

-- a reader hears an act where its entry is for the reader
heard_alike : (act : receiver_values.ActValue) (e : AddressedPayload) (reader : Guid) → payload_conflict.IsSentBy act e → receiver_speech.is_heard_by act reader ≡ receiver_speech.is_among e.dest.now (Some e.reader) reader
heard_alike act e reader sent = ap (λ dest. receiver_speech.is_among dest (receiver_speech.reader_named act.body) reader) sent.dest ∙ ap (λ named. receiver_speech.is_among e.dest.now named reader) sent.reader

if_both : (a b : Bool) (word : Option delivery.Word) → a ≡ true → b ≡ true → (if a && b then word else None) ≡ word
if_both true true word p q = refl
if_both true false word p q = cc
if_both false b word p q = cc

pub and_second : (a b : Bool) → (a && b) ≡ true → b ≡ true
and_second true b e = e
and_second false b e = cc

-- ---- the entries of acts

pub none_sent : (wanted : ℕ → Bool) (entries : List AddressedPayload) → entries ≡ [] → payload_conflict.AreSentIn wanted [] entries
none_sent wanted entries none = record {
  sent = λ e among. absurd (nothing e (subst (λ l. Contains l e) none among));
  all = λ at n x among. absurd (nothing at among);
}
  where
    nothing : {X : Type 0} (e : X) → Contains [] e → ⊥
    nothing e among = let lt = among.1 in omega arith

-- one act more, which tells no payload that is wanted
pub silent_more : (wanted : ℕ → Bool) (placed : List placed_spec.PlacedValue) (entries : List AddressedPayload) (at : placed_spec.PlacedValue) → ((n : ℕ) (x : wire_values.PayloadValue) → wanted n ≡ true → speech.word_of at.act.body n ≢ Some (delivery.Word.Told x)) → payload_conflict.AreSentIn wanted placed entries → payload_conflict.AreSentIn wanted (placed ++ at ∷ []) entries
silent_more wanted placed entries at silent known = record {
  sent = λ e among. let was = known.sent e among in (was.0, (was.1.0, Contains-append_left placed (at ∷ []) was.1.0 was.1.1, was.1.2));
  all = λ act n x among asked says. elim (Contains-push_cases placed at act among) [
    | inl there ↦ known.all act n x there asked says
    | inr is ↦ absurd (silent n x asked (ap (λ (a : placed_spec.PlacedValue). speech.word_of a.act.body n) is ∙ says))
  ];
}

-- one DATA more that is wanted
pub sent_more : (wanted : ℕ → Bool) (placed : List placed_spec.PlacedValue) (entries : List AddressedPayload) (at : placed_spec.PlacedValue) (e : AddressedPayload) → payload_conflict.IsSentBy at.act e → wanted (payload_conflict.number_in e) ≡ true → payload_conflict.AreSentIn wanted placed entries → payload_conflict.AreSentIn wanted (placed ++ at ∷ []) (entries ++ e ∷ [])
sent_more wanted placed entries at e sent asked known = record {
  sent = λ f among. elim (Contains-push_cases entries e f among) [
    | inl there ↦ let was = known.sent f there in (was.0, (was.1.0, Contains-append_left placed (at ∷ []) was.1.0 was.1.1, was.1.2))
    | inr is ↦ subst (λ g. (wanted (payload_conflict.number_in g) ≡ true) × ((act : placed_spec.PlacedValue) × Contains (placed ++ at ∷ []) act × payload_conflict.IsSentBy act.act g)) is (asked, (at, Contains-push placed at, sent))
  ];
  all = λ act n x among asked says. elim (Contains-push_cases placed at act among) [
    | inl there ↦ let was = known.all act n x there asked says in (was.0, Contains-append_left entries (e ∷ []) was.0 was.1, was.2)
    | inr is ↦ subst (λ (a : placed_spec.PlacedValue). (f : AddressedPayload) × Contains (entries ++ e ∷ []) f × payload_conflict.IsSentBy a.act f) is (e, Contains-push entries e, sent)
  ];
}

-- the same entries in another order
pub sent_moved : (wanted : ℕ → Bool) (placed : List placed_spec.PlacedValue) (xs ys : List AddressedPayload) → IsPermutation xs ys → payload_conflict.AreSentIn wanted placed xs → payload_conflict.AreSentIn wanted placed ys
sent_moved wanted placed xs ys moved known = record {
  sent = λ e among. known.sent e (Contains-permutation ys xs e (IsPermutation-sym xs ys moved) among);
  all = λ at n x among asked says. let was = known.all at n x among asked says in (was.0, Contains-permutation xs ys was.0 moved was.1, was.2);
}

-- ---- two payloads that a reader hears are two that it hears of what is kept

-- it is among these entries, and the reader hears it
abbrev pub IsHeardAmong : List AddressedPayload → Guid → AddressedPayload → Type 0
IsHeardAmong entries reader entry = Contains entries entry × (receiver_speech.is_among entry.dest.now (Some entry.reader) reader ≡ true)

kept_of_heard : (wanted : ℕ → Bool) (kept : List AddressedPayload) (writer reader : Guid) (placed : List placed_spec.PlacedValue) (n : ℕ) (x : wire_values.PayloadValue) (known : payload_conflict.AreConflictsOf wanted kept placed) → wanted n ≡ true → answered.IsHeard writer reader placed n (delivery.Word.Told x)
    → (e : AddressedPayload) × IsHeardAmong known.entries reader e × (payload_conflict.number_in e ≡ n) × (wire_values.payload_value e.payload.now ≡ x)
kept_of_heard wanted kept writer reader placed n x known asked heard =
    let said = if_some (receiver_speech.is_spoken_by heard.at.act writer && receiver_speech.is_heard_by heard.at.act reader) (speech.word_of heard.at.act.body n) (delivery.Word.Told x) heard.says in
    let entry = known.sent.all heard.at n x heard.among asked said.1 in
    let is = told_itself heard.at.act entry.0 n x entry.2 said.1 in
    (entry.0, (entry.1, sym (heard_alike heard.at.act entry.0 reader entry.2) ∙ and_second _ _ said.0), is.0, is.1)

pub two_kept : (from : ℕ) (wanted : ℕ → Bool) (kept : List AddressedPayload) (writer reader : Guid) (placed : List placed_spec.PlacedValue) (n : ℕ) → payload_conflict.AreConflictsOf wanted kept placed → wanted n ≡ true → answered.HearsTwo from writer reader placed n → payload_conflict.HasTwo (IsHeardAmong kept reader) n
two_kept from wanted kept writer reader placed n known is_wanted (asked, (x, y, first, second, differ)) =
    let one = kept_of_heard wanted kept writer reader placed n x known is_wanted first in
    let other = kept_of_heard wanted kept writer reader placed n y known is_wanted second in
    let unlike : wire_values.payload_value one.0.payload.now ≢ wire_values.payload_value other.0.payload.now = λ e. differ (sym one.3 ∙ e ∙ other.3) in
    let two : (m : ℕ) → n ≡ m → payload_conflict.HasTwo (Contains known.entries) m = λ m is. record { one = one.0; other = other.0; one_among = one.1.0; other_among = other.1.0; one_number = one.2 ∙ is; other_number = other.2 ∙ is; differ = unlike } in
    record {
      one = one.0;
      other = other.0;
      one_among = ((known.conflicts one.0).1 (one.1.0, two (payload_conflict.number_in one.0) (sym one.2)), one.1.1);
      other_among = ((known.conflicts other.0).1 (other.1.0, two (payload_conflict.number_in other.0) (sym other.2)), other.1.1);
      one_number = one.2;
      other_number = other.2;
      differ = unlike;
    }

heard_of_kept : (wanted : ℕ → Bool) (kept : List AddressedPayload) (writer reader : Guid) (placed : List placed_spec.PlacedValue) (e : AddressedPayload) → payload_conflict.AreConflictsOf wanted kept placed → All (λ at. placed_spec.is_from writer at ≡ true) placed
    → IsHeardAmong kept reader e → (wanted (payload_conflict.number_in e) ≡ true) × answered.IsHeard writer reader placed (payload_conflict.number_in e) (delivery.Word.Told (wire_values.payload_value e.payload.now))
heard_of_kept wanted kept writer reader placed e known writers heard =
    let sent = known.sent.sent e ((known.conflicts e).0 heard.0).0 in
    let at = sent.1.0 in
    let by = sent.1.2 in
    let spoken = from_speaks writer at e.reader (All-contains (λ (at : placed_spec.PlacedValue). placed_spec.is_from writer at ≡ true) placed at writers sent.1.1) by.reader in
    let hears = heard_alike at.act e reader by ∙ heard.1 in
    (sent.0, record { at = at; among = sent.1.1; says = if_both _ _ (speech.word_of at.act.body e.number) spoken hears ∙ tells_itself at.act e by })

pub two_heard : (from : ℕ) (wanted : ℕ → Bool) (kept : List AddressedPayload) (writer reader : Guid) (placed : List placed_spec.PlacedValue) (n : ℕ) → payload_conflict.AreConflictsOf wanted kept placed → All (λ at. placed_spec.is_from writer at ≡ true) placed → ((m : ℕ) → wanted m ≡ true → delivery.IsAsked from m)
    → payload_conflict.HasTwo (IsHeardAmong kept reader) n → answered.HearsTwo from writer reader placed n
two_heard from wanted kept writer reader placed n known writers asks two =
    let one = heard_of_kept wanted kept writer reader placed two.one known writers two.one_among in
    let other = heard_of_kept wanted kept writer reader placed two.other known writers two.other_among in (
      subst (delivery.IsAsked from) two.one_number (asks two.one.number one.0),
      (
        wire_values.payload_value two.one.payload.now,
        wire_values.payload_value two.other.payload.now,
        subst (λ m. answered.IsHeard writer reader placed m (delivery.Word.Told (wire_values.payload_value two.one.payload.now))) two.one_number one.1,
        subst (λ m. answered.IsHeard writer reader placed m (delivery.Word.Told (wire_values.payload_value two.other.payload.now))) two.other_number other.1,
        two.differ,
      ),
    )

-- ---- what was heard so far

-- no two payloads of one number are heard among these, and this is the one that was heard last
pub record IsHeardSoFar (past : List AddressedPayload) (reader : Guid) (before : Option AddressedPayload) : Type 0 where
  pub agree : (n : ℕ) → ¬ payload_conflict.HasTwo (IsHeardAmong past reader) n
  pub last : MatchOption before ((e : AddressedPayload) → ¬ IsHeardAmong past reader e) (λ b. IsHeardAmong past reader b × ((e : AddressedPayload) → IsHeardAmong past reader e → payload_conflict.number_in e ≤ payload_conflict.number_in b))

heard_cases : (past : List AddressedPayload) (reader : Guid) (x e : AddressedPayload) → IsHeardAmong (past ++ x ∷ []) reader e → IsHeardAmong past reader e ⊎ ((x ≡ e) × (receiver_speech.is_among x.dest.now (Some x.reader) reader ≡ true))
heard_cases past reader x e heard = elim (Contains-push_cases past x e heard.0) [
  | inl there ↦ inl (there, heard.1)
  | inr is ↦ inr (is, ap (λ (f : AddressedPayload). receiver_speech.is_among f.dest.now (Some f.reader) reader) is ∙ heard.1)
]

-- one more that the reader does not hear
pub heard_skip : (past : List AddressedPayload) (reader : Guid) (before : Option AddressedPayload) (x : AddressedPayload) → receiver_speech.is_among x.dest.now (Some x.reader) reader ≡ false → IsHeardSoFar past reader before → IsHeardSoFar (past ++ x ∷ []) reader before
heard_skip past reader before x deaf known = record {
  agree = λ n two. known.agree n (record { one = two.one; other = two.other; one_among = old two.one two.one_among; other_among = old two.other two.other_among; one_number = two.one_number; other_number = two.other_number; differ = two.differ });
  last = last before known.last;
}
  where
    old : (e : AddressedPayload) → IsHeardAmong (past ++ x ∷ []) reader e → IsHeardAmong past reader e
    old e heard = elim (heard_cases past reader x e heard) [ inl there ↦ there | inr here ↦ let hears = here.1 in cc ]

    last : (before : Option AddressedPayload) → MatchOption before ((e : AddressedPayload) → ¬ IsHeardAmong past reader e) (λ b. IsHeardAmong past reader b × ((e : AddressedPayload) → IsHeardAmong past reader e → payload_conflict.number_in e ≤ payload_conflict.number_in b))
        → MatchOption before ((e : AddressedPayload) → ¬ IsHeardAmong (past ++ x ∷ []) reader e) (λ b. IsHeardAmong (past ++ x ∷ []) reader b × ((e : AddressedPayload) → IsHeardAmong (past ++ x ∷ []) reader e → payload_conflict.number_in e ≤ payload_conflict.number_in b))
    last None none = λ e heard. none e (old e heard)
    last (Some b) was = ((Contains-append_left past (x ∷ []) b was.0.0, was.0.1), λ e heard. was.1 e (old e heard))

-- one more that the reader hears, and that is no other payload than the one before
pub heard_more : (past : List AddressedPayload) (reader : Guid) (before : Option AddressedPayload) (x : AddressedPayload) → receiver_speech.is_among x.dest.now (Some x.reader) reader ≡ true → ((e : AddressedPayload) → Contains past e → payload_conflict.number_in e ≤ payload_conflict.number_in x) → ¬ payload_conflict.IsAnother before x
    → IsHeardSoFar past reader before → IsHeardSoFar (past ++ x ∷ []) reader (Some x)
heard_more past reader before x hears below alike known = record {
  agree = λ n two. elim (heard_cases past reader x two.one two.one_among) [
    | inl one ↦ elim (heard_cases past reader x two.other two.other_among) [
      | inl other ↦ known.agree n (record { one = two.one; other = two.other; one_among = one; other_among = other; one_number = two.one_number; other_number = two.other_number; differ = two.differ })
      | inr other ↦ mixed before known.last alike two.one one (two.one_number ∙ sym two.other_number ∙ sym (ap payload_conflict.number_in other.0)) (λ e. two.differ (e ∙ ap (λ (f : AddressedPayload). wire_values.payload_value f.payload.now) other.0))
    ]
    | inr one ↦ elim (heard_cases past reader x two.other two.other_among) [
      | inl other ↦ mixed before known.last alike two.other other (two.other_number ∙ sym two.one_number ∙ sym (ap payload_conflict.number_in one.0)) (λ e. two.differ (sym (ap (λ (f : AddressedPayload). wire_values.payload_value f.payload.now) one.0) ∙ sym e))
      | inr other ↦ two.differ (ap (λ (f : AddressedPayload). wire_values.payload_value f.payload.now) (sym one.0 ∙ other.0))
    ]
  ];
  last = ((Contains-push past x, hears), λ e heard. elim (heard_cases past reader x e heard) [ inl there ↦ below e there.0 | inr here ↦ let is = ap payload_conflict.number_in here.0 in omega arith ]);
}
  where
    mixed : (before : Option AddressedPayload) → MatchOption before ((e : AddressedPayload) → ¬ IsHeardAmong past reader e) (λ b. IsHeardAmong past reader b × ((e : AddressedPayload) → IsHeardAmong past reader e → payload_conflict.number_in e ≤ payload_conflict.number_in b)) → ¬ payload_conflict.IsAnother before x
        → (e : AddressedPayload) → IsHeardAmong past reader e → payload_conflict.number_in e ≡ payload_conflict.number_in x → wire_values.payload_value e.payload.now ≢ wire_values.payload_value x.payload.now → ⊥
    mixed None none alike e heard same differ = none e heard
    mixed (Some b) was alike e heard same differ =
        let up = was.1 e heard in
        let on = below b was.0.0 in
        let level : payload_conflict.number_in b ≡ payload_conflict.number_in x = omega arith in
        alike (level, λ is. known.agree (payload_conflict.number_in x) (record { one = e; other = b; one_among = heard; other_among = was.0; one_number = same; other_number = level; differ = λ f. differ (f ∙ is) }))

-- the first that is another payload than the one before is of the least number with two
pub heard_least : (xs : List AddressedPayload) (place : ℕ) (reader : Guid) (before : Option AddressedPayload) (x : AddressedPayload) → IsNonDecreasingBy payload_conflict.number_in xs → place < length xs → x ≡ get_or xs place x
    → receiver_speech.is_among x.dest.now (Some x.reader) reader ≡ true → payload_conflict.IsAnother before x → IsHeardSoFar (take place xs) reader before → run_verdict.IsLeast (payload_conflict.HasTwo (IsHeardAmong xs reader)) (payload_conflict.number_in x)
heard_least xs place reader before x sorted within at hears other known = record {
  holds = two before known.last other;
  least = λ m two. elim (cases_lt m (payload_conflict.number_in x)) [
    | inl less ↦ absurd (known.agree m (record {
      one = two.one;
      other = two.other;
      one_among = (early two.one two.one_among.0 (omega (arith, two.one_number)), two.one_among.1);
      other_among = (early two.other two.other_among.0 (omega (arith, two.other_number)), two.other_among.1);
      one_number = two.one_number;
      other_number = two.other_number;
      differ = two.differ;
    }))
    | inr le ↦ le
  ];
}
  where
    early : (e : AddressedPayload) → Contains xs e → payload_conflict.number_in e < payload_conflict.number_in x → Contains (take place xs) e
    early e among less = lesser_before xs place x e sorted within among (subst (λ n. payload_conflict.number_in e < n) (ap payload_conflict.number_in at) less)

    here : Contains xs x
    here = subst (Contains xs) (sym at) (Contains-get_or xs place x within)

    two : (before : Option AddressedPayload) → MatchOption before ((e : AddressedPayload) → ¬ IsHeardAmong (take place xs) reader e) (λ b. IsHeardAmong (take place xs) reader b × ((e : AddressedPayload) → IsHeardAmong (take place xs) reader e → payload_conflict.number_in e ≤ payload_conflict.number_in b)) → payload_conflict.IsAnother before x
        → payload_conflict.HasTwo (IsHeardAmong xs reader) (payload_conflict.number_in x)
    two None none other = absurd other
    two (Some b) was other = record { one = b; other = x; one_among = (taken xs place b was.0.0, was.0.1); other_among = (here, hears); one_number = other.0; other_number = refl; differ = other.1 }
