-- Of any writer and reader, a recording with pieces and what the reader hears of its acts tell alike.
use Rattle.std.proofs.lemmas.Grind.{common_steps}
use Rattle.std.proofs.lemmas.Bool.Decides.{nat_tests}
use Rattle.std.proofs.Common.{◌≡◌, ℕ, zero, suc, ◌+◌, ◌-◌, ◌<◌, ◌≤◌, max, Bool, true, false, cond, List, [], ◌∷◌, ◌++◌, length, map, Option, Some, None, slice_get, take, refl, sym, ◌∙◌, ap, subst, arith, inl, inr, ◌⊎◌, append_assoc, append-nil}
use Rattle.std.specs.Prelude.{Contains}
use Rattle.std.specs.List.{cons_option, filter_map, flat_map}
use Rattle.std.proofs.lemmas.Bool.{cases_lt}
use Rattle.std.proofs.lemmas.List.{length-map}
use Rattle.std.proofs.lemmas.List.Elements.{Contains-append_left, Contains-append_right, Contains-append_cases}
use Rattle.rtps_ids.specs.declared.identity.Guid.{Guid}
use Rattle.rtps_wire.specs.Values as wire_values
use Rattle.rtps_receiver.specs.Speech as receiver_speech
use Rattle.rtps_receiver.specs.Values as receiver_values
use Rattle.rtps_audit.specs.Delivery as delivery
use Rattle.rtps_audit.specs.Said as said
use Rattle.rtps_audit.specs.Speech as audit_speech
use Rattle.rtps_audit.proofs.Offered.{below_greatest, contains_cases, contains_head, contains_mapped, contains_none, contains_tail, get_mapped, greatest_below, if_some, made_from, makes, mapped_contains, mapped_get}
use Rattle.rtps_fragments.specs.FragmentDelivery as fragment_delivery
use Rattle.rtps_wire.specs.declared.data_frag.Shape.{Shape}
use Rattle.rtps_wire.specs.DataFrag as data_frag
use Rattle.rtps_fragments.specs.FragmentVerdict as fragment_verdict
use Rattle.rtps_fragments.specs.Laws as laws
use Rattle.rtps_fragments.specs.Samples as samples
use Rattle.rtps_fragments.specs.FragmentWalk as fragment_walk
use Rattle.rtps_fragments.specs.SampleActs as sample_acts
use Rattle.rtps_fragments.proofs.ActsAnd.{all_stay, length-acts, take_acts}
use Rattle.rtps_fragments.proofs.AlikeBySamples.{IsGivenBefore, IsHadBefore, put_together, samples_alike}
use Rattle.rtps_fragments.proofs.Lists.{flat_from, flat_has}
use Rattle.rtps_fragments.proofs.FragmentsBefore.{fragments_before, place_of, sent_by, there_at}
use Rattle.rtps_fragments.proofs.HeardLemmas.{heard-append, heard-cons, heard_has, heard_of, heard_one}
use Rattle.rtps_fragments.proofs.SampleActLemmas.{IsSampleOf, NamesAll, TellsReader, act_or_sample, act_there, hears_part, parts_told, sample_is_put, sample_spoken}
use Rattle.rtps_fragments.proofs.SamplesTell.{none_put}
use Rattle.rtps_fragments.proofs.ToldLemmas.{IsPut}

-- ---- the parts before a place

abbrev parts_before : List (List sample_acts.PieceAct) → ℕ → List sample_acts.PieceAct
parts_before [] i = []
parts_before (datagram ∷ recording) zero = []
parts_before (datagram ∷ recording) (suc i) = datagram ++ parts_before recording i

-- a datagram before the place has the part
parts_from : (recording : List (List sample_acts.PieceAct)) (i : ℕ) (part : sample_acts.PieceAct) → Contains (parts_before recording i) part
    → (k : ℕ) × (datagram : List sample_acts.PieceAct) × (k < i) × (slice_get recording k ≡ Some datagram) × Contains datagram part
parts_from [] i part among = absurd (contains_none part among)
parts_from (first ∷ recording) zero part among = absurd (contains_none part among)
parts_from (first ∷ recording) (suc i) part among = elim (Contains-append_cases first (parts_before recording i) part among) [
  | inl here ↦ (0, first, omega arith, refl, here)
  | inr there ↦ let (k, datagram, lt, at, has) = parts_from recording i part there in (suc k, datagram, omega arith, at, has)
]

in_all : (recording : List (List sample_acts.PieceAct)) (datagram : List sample_acts.PieceAct) (part : sample_acts.PieceAct) → Contains recording datagram → Contains datagram part → Contains (sample_acts.piece_acts_in recording) part
in_all recording datagram part there among = flat_has (λ (d : List sample_acts.PieceAct). d) recording datagram part there among

-- ---- the datagrams with their samples

abbrev acts_told : Guid → List sample_acts.PieceAct → List sample_acts.PieceAct → List receiver_values.ActValue
acts_told reader before acts = sample_acts.acts_and (sample_acts.samples_told reader) before acts

samples_at : (reader : Guid) (before : List sample_acts.PieceAct) (recording : List (List sample_acts.PieceAct)) (i : ℕ) (datagram : List sample_acts.PieceAct) → slice_get recording i ≡ Some datagram
    → slice_get (sample_acts.datagrams_and (sample_acts.samples_told reader) before recording) i ≡ Some (acts_told reader (before ++ parts_before recording i) datagram)
samples_at reader before [] i datagram at = cc
samples_at reader before (first ∷ recording) zero datagram at =
    let same : first ≡ datagram = (let h = at in cc) in
    ap (λ d. Some (acts_told reader before d)) same ∙ ap (λ ps. Some (acts_told reader ps datagram)) (sym (append-nil before))
samples_at reader before (first ∷ recording) (suc i) datagram at =
    samples_at reader (before ++ first) recording i datagram at ∙ ap (λ ps. Some (acts_told reader ps datagram)) (append_assoc before first (parts_before recording i))

samples_from : (reader : Guid) (before : List sample_acts.PieceAct) (recording : List (List sample_acts.PieceAct)) (i : ℕ) (acts : List receiver_values.ActValue) → slice_get (sample_acts.datagrams_and (sample_acts.samples_told reader) before recording) i ≡ Some acts
    → (datagram : List sample_acts.PieceAct) × (slice_get recording i ≡ Some datagram) × (acts_told reader (before ++ parts_before recording i) datagram ≡ acts)
samples_from reader before [] i acts at = cc
samples_from reader before (first ∷ recording) zero acts at =
    let same : acts_told reader before first ≡ acts = (let h = at in cc) in
    (first, refl, ap (λ ps. acts_told reader ps first) (append-nil before) ∙ same)
samples_from reader before (first ∷ recording) (suc i) acts at =
    let (datagram, stands, is) = samples_from reader (before ++ first) recording i acts at in
    (datagram, stands, ap (λ ps. acts_told reader ps datagram) (sym (append_assoc before first (parts_before recording i))) ∙ is)

-- ---- what the reader hears

datagram_heard : (writer reader : Guid) (datagram : List sample_acts.PieceAct) → flat_map fragment_delivery.fragments_of (filter_map (sample_acts.piece_for writer reader) datagram) ≡ heard_of (hears_part writer reader) datagram
datagram_heard writer reader [] = refl
datagram_heard writer reader (part ∷ parts) =
    by (hears_part writer reader part) part.piece
    ∙ ap (λ fs. heard_one (hears_part writer reader part) part.piece ++ fs) (datagram_heard writer reader parts)
    ∙ sym (heard-cons (hears_part writer reader) part parts)
  where
    by : (b : Bool) (o : Option fragment_delivery.Piece) → flat_map fragment_delivery.fragments_of (cons_option (cond b o None) (filter_map (sample_acts.piece_for writer reader) parts)) ≡ heard_one b o ++ flat_map fragment_delivery.fragments_of (filter_map (sample_acts.piece_for writer reader) parts)
    by true (Some piece) = refl
    by true None = refl
    by false o = refl

fragments_are : (writer reader : Guid) (recording : List (List sample_acts.PieceAct)) (i : ℕ) → fragments_before (sample_acts.fragment_speech_of writer reader recording) i ≡ heard_of (hears_part writer reader) (parts_before recording i)
fragments_are writer reader [] i = refl
fragments_are writer reader (first ∷ recording) zero = refl
fragments_are writer reader (first ∷ recording) (suc i) =
    ap (λ fs. fs ++ fragments_before (sample_acts.fragment_speech_of writer reader recording) i) (datagram_heard writer reader first)
    ∙ ap (λ fs. heard_of (hears_part writer reader) first ++ fs) (fragments_are writer reader recording i)
    ∙ sym (heard-append (hears_part writer reader) first (parts_before recording i))

-- a datagram before the place tells the reader the payload
abbrev IsToldAt : Guid → Guid → List sample_acts.PieceAct → List (List sample_acts.PieceAct) → ℕ → ℕ → wire_values.PayloadValue → Type 0
IsToldAt writer reader before recording j n payload =
    (i : ℕ) × (datagram : List sample_acts.PieceAct) × (i < j) × (slice_get recording i ≡ Some datagram) × TellsReader writer reader (acts_told reader (before ++ parts_before recording i) datagram) n payload

-- what can be put together before a place could be before, or is told by a datagram before it
datagrams_told : (writer reader : Guid) (n : ℕ) (shape : Shape) (payload : wire_values.PayloadValue) (before : List sample_acts.PieceAct) (recording : List (List sample_acts.PieceAct)) → NamesAll (sample_acts.piece_acts_in recording) → (j : ℕ)
    → Contains (samples.payloads_of n shape (heard_of (hears_part writer reader) (before ++ parts_before recording j))) payload
    → Contains (samples.payloads_of n shape (heard_of (hears_part writer reader) before)) payload ⊎ IsToldAt writer reader before recording j n payload
datagrams_told writer reader n shape payload before [] named j among = inl (subst (λ ps. Contains (samples.payloads_of n shape (heard_of (hears_part writer reader) ps)) payload) (append-nil before) among)
datagrams_told writer reader n shape payload before (first ∷ recording) named zero among = inl (subst (λ ps. Contains (samples.payloads_of n shape (heard_of (hears_part writer reader) ps)) payload) (append-nil before) among)
datagrams_told writer reader n shape payload before (first ∷ recording) named (suc j) among =
    elim (datagrams_told writer reader n shape payload (before ++ first) recording (λ part piece there is. named part piece (Contains-append_right first (sample_acts.piece_acts_in recording) part there) is) j
    (subst (λ ps. Contains (samples.payloads_of n shape (heard_of (hears_part writer reader) ps)) payload) (sym (append_assoc before first (parts_before recording j))) among)) [
      | inl earlier ↦ elim (parts_told writer reader n shape payload before first (λ part piece there is. named part piece (Contains-append_left first (sample_acts.piece_acts_in recording) part there) is) earlier) [
        | inl old ↦ inl old
        | inr tells ↦ inr (0, first, omega arith, refl, subst (λ ps. TellsReader writer reader (acts_told reader ps first) n payload) (sym (append-nil before)) tells)
      ]
      | inr (i, datagram, lt, at, tells) ↦ inr (suc i, datagram, omega arith, at, subst (λ ps. TellsReader writer reader (acts_told reader ps datagram) n payload) (append_assoc before first (parts_before recording i)) tells)
    ]

before_all : (recording : List (List sample_acts.PieceAct)) (j : ℕ) (part : sample_acts.PieceAct) → Contains (parts_before recording j) part → Contains (sample_acts.piece_acts_in recording) part
before_all [] j part among = absurd (contains_none part among)
before_all (first ∷ recording) zero part among = absurd (contains_none part among)
before_all (first ∷ recording) (suc j) part among = elim (Contains-append_cases first (parts_before recording j) part among) [
  | inl here ↦ Contains-append_left first (sample_acts.piece_acts_in recording) part here
  | inr there ↦ Contains-append_right first (sample_acts.piece_acts_in recording) part (before_all recording j part there)
]

-- what can be put together before a place is told by a datagram before it
put_at : (writer reader : Guid) (n : ℕ) (shape : Shape) (payload : wire_values.PayloadValue) (recording : List (List sample_acts.PieceAct)) (j : ℕ) → NamesAll (sample_acts.piece_acts_in recording)
    → Contains (samples.payloads_of n shape (heard_of (hears_part writer reader) (parts_before recording j))) payload → IsToldAt writer reader [] recording j n payload
put_at writer reader n shape payload recording j named among = elim (datagrams_told writer reader n shape payload [] recording named j among) [
  | inl none ↦ absurd (none_put n payload (shape, none))
  | inr at ↦ at
]

-- ---- parts

pub announcer_named : (body : receiver_values.ActBodyValue) (n : ℕ) → audit_speech.announced_of_body body ≡ Some n → receiver_speech.writer_named body ≡ Some (receiver_speech.entity_from body)
announcer_named body n h = grind (arith, nat_tests)

pub fragment_bounds : (n : ℕ) (shape : Shape) (i : ℕ) (parts : List (List ℕ)) (f : fragment_delivery.Fragment) → Contains (fragment_delivery.fragments_from n shape i parts) f → (i ≤ f.index) × (f.index < i + length parts) × (f.shape ≡ shape)
fragment_bounds n shape i [] f among = absurd (contains_none f among)
fragment_bounds n shape i (octets ∷ parts) f among =
    let first : fragment_delivery.Fragment = record { number = n; shape = shape; index = i; octets = octets } in
    elim (contains_cases first (fragment_delivery.fragments_from n shape (suc i) parts) f among) [
      | inl here ↦ let index : i ≡ f.index = ap (λ (x : fragment_delivery.Fragment). x.index) here in (omega arith, omega arith, sym (ap (λ (x : fragment_delivery.Fragment). x.shape) here))
      | inr there ↦ let (low, high, same) = fragment_bounds n shape (suc i) parts f there in (omega arith, omega arith, same)
    ]

-- the same numbers have the same greatest one
none_above : (xs ys : List ℕ) → ((x : ℕ) → Contains xs x → Contains ys x) → delivery.greatest xs ≤ delivery.greatest ys
none_above xs ys each = elim (cases_lt (delivery.greatest ys) (delivery.greatest xs)) [
  | inl above ↦ absurd (let (x, among, lt) = below_greatest (delivery.greatest ys) xs above in let under = greatest_below (delivery.greatest ys) x ys (each x among) lt in omega arith)
  | inr within ↦ within
]

same_greatest : (xs ys : List ℕ) → ((x : ℕ) → Contains xs x → Contains ys x) → ((x : ℕ) → Contains ys x → Contains xs x) → delivery.greatest xs ≡ delivery.greatest ys
same_greatest xs ys to from = let up = none_above xs ys to in let down = none_above ys xs from in omega arith

-- no sample is an answer
no_base : (b : Bool) (base : ℕ) → cond b None None ≡ Some base → ⊥
no_base true base e = cc
no_base false base e = cc

-- what these acts announce, their samples announce, and no other number
announced_alike : (writer reader : Guid) (before datagram : List sample_acts.PieceAct) → ((part : sample_acts.PieceAct) (piece : fragment_delivery.Piece) → Contains datagram part → part.piece ≡ Some piece → laws.IsPieceAct part piece)
    → delivery.greatest (filter_map (audit_speech.announced_for writer) (map (λ (part : sample_acts.PieceAct). part.act) datagram)) ≡ delivery.greatest (filter_map (audit_speech.announced_for writer) (acts_told reader before datagram))
announced_alike writer reader before datagram parts = same_greatest _ _ to from
  where
    to : (x : ℕ) → Contains (filter_map (audit_speech.announced_for writer) (map (λ (part : sample_acts.PieceAct). part.act) datagram)) x → Contains (filter_map (audit_speech.announced_for writer) (acts_told reader before datagram)) x
    to x among =
        let (act, there, is) = made_from (audit_speech.announced_for writer) (map (λ (part : sample_acts.PieceAct). part.act) datagram) x among in
        let (part, has, same) = contains_mapped (λ (p : sample_acts.PieceAct). p.act) datagram act there in
        makes (audit_speech.announced_for writer) (acts_told reader before datagram) part.act x (act_there reader before datagram part has) (ap (audit_speech.announced_for writer) same ∙ is)

    of_part : (part : sample_acts.PieceAct) (x : ℕ) → Contains datagram part → audit_speech.announced_for writer part.act ≡ Some x → Contains (filter_map (audit_speech.announced_for writer) (map (λ (p : sample_acts.PieceAct). p.act) datagram)) x
    of_part part x has is = makes (audit_speech.announced_for writer) (map (λ (p : sample_acts.PieceAct). p.act) datagram) part.act x (mapped_contains (λ (p : sample_acts.PieceAct). p.act) datagram part has) is

    of_sample : (act : receiver_values.ActValue) (x : ℕ) → IsSampleOf reader before datagram act → audit_speech.announced_for writer act ≡ Some x → Contains (filter_map (audit_speech.announced_for writer) (map (λ (p : sample_acts.PieceAct). p.act) datagram)) x
    of_sample act x sample is =
        let part = parts sample.part sample.piece sample.among sample.has in
        let named = announcer_named sample.part.act.body sample.piece.number part.announces in
        let (spoken, number) = if_some _ (Some sample.piece.number) x (subst (λ (a : receiver_values.ActValue). audit_speech.announced_for writer a ≡ Some x) (sym sample.is) is) in
        let speaks = sym (sample_spoken reader sample.part.act sample.piece.number sample.payload writer named) ∙ spoken in
        of_part sample.part x sample.among (ap (λ b. cond b (audit_speech.announced_of_body sample.part.act.body) None) speaks ∙ part.announces ∙ number)

    from : (x : ℕ) → Contains (filter_map (audit_speech.announced_for writer) (acts_told reader before datagram)) x → Contains (filter_map (audit_speech.announced_for writer) (map (λ (part : sample_acts.PieceAct). part.act) datagram)) x
    from x among =
        let (act, there, is) = made_from (audit_speech.announced_for writer) (acts_told reader before datagram) x among in
        elim (act_or_sample reader before datagram act there) [
          | inl (part, has, same) ↦ of_part part x has (ap (audit_speech.announced_for writer) same ∙ is)
          | inr sample ↦ of_sample act x sample is
        ]

last_alike : (from : ℕ) (writer reader : Guid) (before : List sample_acts.PieceAct) (recording : List (List sample_acts.PieceAct)) → laws.ArePieceActs recording
    → delivery.last_announced_from from (fragment_delivery.said_in (sample_acts.fragment_speech_of writer reader recording)) ≡ delivery.last_announced_from from (audit_speech.speech_by writer reader (sample_acts.datagrams_and (sample_acts.samples_told reader) before recording))
last_alike from writer reader before [] parts = refl
last_alike from writer reader before (first ∷ recording) parts =
    ap (λ n. max n (delivery.last_announced_from from (fragment_delivery.said_in (sample_acts.fragment_speech_of writer reader recording)))) (announced_alike writer reader before first (λ part piece among is. parts first part piece (contains_head first recording) among is))
    ∙ ap (max (delivery.greatest (filter_map (audit_speech.announced_for writer) (acts_told reader before first))))
    (last_alike from writer reader (before ++ first) recording (λ datagram part piece there among is. parts datagram part piece (contains_tail first recording datagram there) among is))

-- ---- all that is told

pub names_all : (recording : List (List sample_acts.PieceAct)) → laws.ArePieceActs recording → NamesAll (sample_acts.piece_acts_in recording)
names_all recording parts part piece among is =
    let (datagram, there, has) = flat_from (λ (d : List sample_acts.PieceAct). d) recording part among in
    let announces = (parts datagram part piece there has is).announces in
    announcer_named part.act.body piece.number announces

module _ (from : ℕ) (writer reader : Guid) (recording : List (List sample_acts.PieceAct)) (parts : laws.ArePieceActs recording) where
  said_at : (i : ℕ) (datagram : List sample_acts.PieceAct) → slice_get recording i ≡ Some datagram → slice_get (fragment_delivery.said_in (sample_acts.fragment_speech_of writer reader recording)) i ≡ Some (audit_speech.said_by writer reader (map (λ (p : sample_acts.PieceAct). p.act) datagram))
  said_at i datagram at =
      get_mapped (λ (d : fragment_delivery.FragmentDatagram). d.said) (sample_acts.fragment_speech_of writer reader recording) i _
      (get_mapped (λ (d : List sample_acts.PieceAct). let f : fragment_delivery.FragmentDatagram = record { said = audit_speech.said_by writer reader (map (λ (p : sample_acts.PieceAct). p.act) d); pieces = filter_map (sample_acts.piece_for writer reader) d } in f) recording i datagram at)

  said_from : (i : ℕ) (datagram : delivery.Datagram) → slice_get (fragment_delivery.said_in (sample_acts.fragment_speech_of writer reader recording)) i ≡ Some datagram
      → (own : List sample_acts.PieceAct) × (slice_get recording i ≡ Some own) × (audit_speech.said_by writer reader (map (λ (p : sample_acts.PieceAct). p.act) own) ≡ datagram)
  said_from i datagram at =
      let (with_pieces, stands, is) = mapped_get (λ (d : fragment_delivery.FragmentDatagram). d.said) (sample_acts.fragment_speech_of writer reader recording) i datagram at in
      let (own, there, made) = mapped_get (λ (d : List sample_acts.PieceAct). let f : fragment_delivery.FragmentDatagram = record { said = audit_speech.said_by writer reader (map (λ (p : sample_acts.PieceAct). p.act) d); pieces = filter_map (sample_acts.piece_for writer reader) d } in f) recording i with_pieces stands in
      (own, there, ap (λ (d : fragment_delivery.FragmentDatagram). d.said) made ∙ is)

  told_at : (i : ℕ) (datagram : List sample_acts.PieceAct) → slice_get recording i ≡ Some datagram
      → slice_get (audit_speech.speech_by writer reader (sample_acts.datagrams_and (sample_acts.samples_told reader) [] recording)) i ≡ Some (audit_speech.said_by writer reader (acts_told reader (parts_before recording i) datagram))
  told_at i datagram at =
      get_mapped (audit_speech.said_by writer reader) (sample_acts.datagrams_and (sample_acts.samples_told reader) [] recording) i (acts_told reader (parts_before recording i) datagram) (samples_at reader [] recording i datagram at)

  told_from : (i : ℕ) (datagram : delivery.Datagram) → slice_get (audit_speech.speech_by writer reader (sample_acts.datagrams_and (sample_acts.samples_told reader) [] recording)) i ≡ Some datagram
      → (own : List sample_acts.PieceAct) × (slice_get recording i ≡ Some own) × (audit_speech.said_by writer reader (acts_told reader (parts_before recording i) own) ≡ datagram)
  told_from i datagram at = grind (arith, nat_tests, common_steps, mapped_get, samples_from)

  -- an act with a word gives it
  act_gives : (i n : ℕ) (word : delivery.Word) (datagram : List sample_acts.PieceAct) (act : receiver_values.ActValue) → slice_get recording i ≡ Some datagram → Contains (acts_told reader (parts_before recording i) datagram) act
      → audit_speech.word_for writer reader act n ≡ Some word → delivery.IsAsked from n → (k : ℕ) × delivery.Gives from (audit_speech.speech_by writer reader (sample_acts.datagrams_and (sample_acts.samples_told reader) [] recording)) i k n word
  act_gives i n word datagram act at among says asked =
      let acts = acts_told reader (parts_before recording i) datagram in
      let (k, stands) = place_of acts act among in
      (k, record { datagram = audit_speech.said_by writer reader acts; act = audit_speech.word_for writer reader act; stands = told_at i datagram at; speaks = get_mapped (audit_speech.word_for writer reader) acts k act stands; asked = asked; says = says })

  said_is_given : (j n : ℕ) (word : delivery.Word) → fragment_verdict.IsSaidBefore from (sample_acts.fragment_speech_of writer reader recording) j n word → IsGivenBefore from (audit_speech.speech_by writer reader (sample_acts.datagrams_and (sample_acts.samples_told reader) [] recording)) j n word
  said_is_given j n word said =
      let gives = said.gives in
      let (own, at, is) = said_from said.place gives.datagram gives.stands in
      let speaks = subst (λ (d : delivery.Datagram). slice_get d.acts said.act ≡ Some gives.act) (sym is) gives.speaks in
      let (act, stands, made) = mapped_get (audit_speech.word_for writer reader) (map (λ (p : sample_acts.PieceAct). p.act) own) said.act gives.act speaks in
      let (part, there, same) = mapped_get (λ (p : sample_acts.PieceAct). p.act) own said.act act stands in
      let among = act_there reader (parts_before recording said.place) own part (there_at own said.act part there) in
      let says = ap (λ (a : receiver_values.ActValue). audit_speech.word_for writer reader a n) same ∙ ap (λ (f : ℕ → Option delivery.Word). f n) made ∙ gives.says in
      let (k, given) = act_gives said.place n word own part.act at among says gives.asked in
      (said.place, k, said.earlier, given)

  put_is_given : (j n : ℕ) (payload : wire_values.PayloadValue) → delivery.IsAsked from n → IsPut n (fragments_before (sample_acts.fragment_speech_of writer reader recording) j) payload
      → IsGivenBefore from (audit_speech.speech_by writer reader (sample_acts.datagrams_and (sample_acts.samples_told reader) [] recording)) j n (delivery.Word.Told payload)
  put_is_given j n payload asked (shape, among) =
      let heard = subst (λ fs. Contains (samples.payloads_of n shape fs) payload) (fragments_are writer reader recording j) among in
      let (i, datagram, lt, at, (act, there, says)) = put_at writer reader n shape payload recording j (names_all recording parts) heard in
      let (k, given) = act_gives i n (delivery.Word.Told payload) datagram act at there says asked in
      (i, k, lt, given)

  -- a part that the reader hears is a piece of its datagram
  part_sent : (i j : ℕ) (datagram : List sample_acts.PieceAct) (part : sample_acts.PieceAct) (f : fragment_delivery.Fragment) → i < j → slice_get recording i ≡ Some datagram → Contains datagram part → hears_part writer reader part ≡ true → Contains (sample_acts.fragments_in part.piece) f
      → delivery.IsAsked from f.number → fragment_verdict.IsSentBefore from (sample_acts.fragment_speech_of writer reader recording) j f
  part_sent i j datagram part f lt at among passes has asked =
      let with_pieces : fragment_delivery.FragmentDatagram = record { said = audit_speech.said_by writer reader (map (λ (p : sample_acts.PieceAct). p.act) datagram); pieces = filter_map (sample_acts.piece_for writer reader) datagram } in
      let stands = get_mapped (λ (d : List sample_acts.PieceAct). let x : fragment_delivery.FragmentDatagram = record { said = audit_speech.said_by writer reader (map (λ (p : sample_acts.PieceAct). p.act) d); pieces = filter_map (sample_acts.piece_for writer reader) d } in x) recording i datagram at in
      let there = subst (λ fs. Contains fs f) (sym (datagram_heard writer reader datagram)) (heard_has (hears_part writer reader) datagram part f among passes has) in
      sent_by (sample_acts.fragment_speech_of writer reader recording) i j with_pieces f lt stands there asked

  within : laws.HasFragmentsWithin from (sample_acts.fragment_speech_of writer reader recording)
  within i k f gives =
      let (own, at, made) = mapped_get (λ (d : List sample_acts.PieceAct). let x : fragment_delivery.FragmentDatagram = record { said = audit_speech.said_by writer reader (map (λ (p : sample_acts.PieceAct). p.act) d); pieces = filter_map (sample_acts.piece_for writer reader) d } in x) recording i gives.datagram gives.stands in
      let speaks = subst (λ (d : fragment_delivery.FragmentDatagram). slice_get d.pieces k ≡ Some gives.piece) (sym made) gives.speaks in
      let (part, among, is) = made_from (sample_acts.piece_for writer reader) own gives.piece (there_at (filter_map (sample_acts.piece_for writer reader) own) k gives.piece speaks) in
      let (passes, has) = if_some _ part.piece gives.piece is in
      let of = parts own part gives.piece (there_at recording i own at) among has in
      let (low, high, shape) = fragment_bounds gives.piece.number gives.piece.shape gives.piece.first gives.piece.parts f gives.has in
      let first = of.first in
      let last = of.last in
      (omega arith, subst (λ s. f.index ≤ data_frag.last_fragment s) (sym shape) (omega arith))

  given_is_had : (j n : ℕ) (word : delivery.Word) → IsGivenBefore from (audit_speech.speech_by writer reader (sample_acts.datagrams_and (sample_acts.samples_told reader) [] recording)) j n word → IsHadBefore from (sample_acts.fragment_speech_of writer reader recording) j n word
  given_is_had j n word (i, k, lt, gives) =
      let (own, at, is) = told_from i gives.datagram gives.stands in
      let acts = acts_told reader (parts_before recording i) own in
      let speaks = subst (λ (d : delivery.Datagram). slice_get d.acts k ≡ Some gives.act) (sym is) gives.speaks in
      let (act, stands, made) = mapped_get (audit_speech.word_for writer reader) acts k gives.act speaks in
      let says = ap (λ (f : ℕ → Option delivery.Word). f n) made ∙ gives.says in
      elim (act_or_sample reader (parts_before recording i) own act (there_at acts k act stands)) [
        | inl (part, among, same) ↦ inl (said own part at among (ap (λ (a : receiver_values.ActValue). audit_speech.word_for writer reader a n) same ∙ says) gives.asked)
        | inr sample ↦ inr (put own act at sample says gives.asked)
      ]
    where
      said : (own : List sample_acts.PieceAct) (part : sample_acts.PieceAct) → slice_get recording i ≡ Some own → Contains own part → audit_speech.word_for writer reader part.act n ≡ Some word → delivery.IsAsked from n
          → fragment_verdict.IsSaidBefore from (sample_acts.fragment_speech_of writer reader recording) j n word
      said own part at among says asked =
          let acts = map (λ (p : sample_acts.PieceAct). p.act) own in
          let (place, stands) = place_of own part among in
          record {
            place = i;
            act = place;
            earlier = lt;
            gives = record {
              datagram = audit_speech.said_by writer reader acts;
              act = audit_speech.word_for writer reader part.act;
              stands = said_at i own at;
              speaks = get_mapped (audit_speech.word_for writer reader) acts place part.act (get_mapped (λ (p : sample_acts.PieceAct). p.act) own place part stands);
              asked = asked;
              says = says;
            };
          }

      put : (own : List sample_acts.PieceAct) (act : receiver_values.ActValue) → slice_get recording i ≡ Some own → IsSampleOf reader (parts_before recording i) own act → audit_speech.word_for writer reader act n ≡ Some word → delivery.IsAsked from n
          → (payload : wire_values.PayloadValue) × (word ≡ delivery.Word.Told payload) × fragment_delivery.IsPutTogether (fragment_verdict.IsSentBefore from (sample_acts.fragment_speech_of writer reader recording) j) n payload
      put own act at sample says asked =
          let there = λ (f : fragment_delivery.Fragment). delivery.IsAsked from f.number → fragment_verdict.IsSentBefore from (sample_acts.fragment_speech_of writer reader recording) j f in
          let (payload, tells, (fragments, is_put, sent)) = sample_is_put writer reader (parts_before recording i) own (λ part piece among is. names_all recording parts part piece (elim (Contains-append_cases (parts_before recording i) own part among) [ inl earlier ↦ before_all recording i part earlier | inr now ↦ in_all recording own part (there_at recording i own at) now ]) is) there (λ part among passes f has asked_for. elim (Contains-append_cases (parts_before recording i) own part among) [
            | inl earlier ↦ let (h, datagram, before, stands, holds) = parts_from recording i part earlier in part_sent h j datagram part f (omega arith) stands holds passes has asked_for
            | inr now ↦ part_sent i j own part f lt at now passes has asked_for
          ]) act n word sample says in
          (payload, tells, put_together from (sample_acts.fragment_speech_of writer reader recording) within j n asked fragments sent payload is_put)

  claims_to : (j n : ℕ) → delivery.Claims from (fragment_delivery.said_in (sample_acts.fragment_speech_of writer reader recording)) j n → delivery.Claims from (audit_speech.speech_by writer reader (sample_acts.datagrams_and (sample_acts.samples_told reader) [] recording)) j n
  claims_to j n claims =
      let (own, at, is) = said_from j claims.datagram claims.stands in
      let acts = acts_told reader (parts_before recording j) own in
      let (act, there, base) = made_from (audit_speech.base_for writer reader) (map (λ (p : sample_acts.PieceAct). p.act) own) claims.base (subst (λ (d : delivery.Datagram). Contains d.bases claims.base) (sym is) claims.answers) in
      let (part, among, same) = contains_mapped (λ (p : sample_acts.PieceAct). p.act) own act there in
      record {
        datagram = audit_speech.said_by writer reader acts;
        base = claims.base;
        stands = told_at j own at;
        answers = makes (audit_speech.base_for writer reader) acts part.act claims.base (act_there reader (parts_before recording j) own part among) (ap (audit_speech.base_for writer reader) same ∙ base);
        asked = claims.asked;
        below = claims.below;
      }

  claims_from : (j n : ℕ) → delivery.Claims from (audit_speech.speech_by writer reader (sample_acts.datagrams_and (sample_acts.samples_told reader) [] recording)) j n → delivery.Claims from (fragment_delivery.said_in (sample_acts.fragment_speech_of writer reader recording)) j n
  claims_from j n claims =
      let (own, at, is) = told_from j claims.datagram claims.stands in
      let acts = acts_told reader (parts_before recording j) own in
      let (act, there, base) = made_from (audit_speech.base_for writer reader) acts claims.base (subst (λ (d : delivery.Datagram). Contains d.bases claims.base) (sym is) claims.answers) in
      record {
        datagram = audit_speech.said_by writer reader (map (λ (p : sample_acts.PieceAct). p.act) own);
        base = claims.base;
        stands = said_at j own at;
        answers = elim (act_or_sample reader (parts_before recording j) own act there) [
          | inl (part, among, same) ↦ makes (audit_speech.base_for writer reader) (map (λ (p : sample_acts.PieceAct). p.act) own) part.act claims.base (mapped_contains (λ (p : sample_acts.PieceAct). p.act) own part among) (ap (audit_speech.base_for writer reader) same ∙ base)
          | inr sample ↦ absurd (no_base _ claims.base (subst (λ (a : receiver_values.ActValue). audit_speech.base_for writer reader a ≡ Some claims.base) (sym sample.is) base))
        ];
        asked = claims.asked;
        below = claims.below;
      }

pub acts_tell_alike : laws.ActsTellAlike
acts_tell_alike from writer reader recording parts =
    samples_alike from (sample_acts.fragment_speech_of writer reader recording) (within from writer reader recording parts) (audit_speech.speech_by writer reader (sample_acts.datagrams_and (sample_acts.samples_told reader) [] recording)) (record {
      counted = length-map (sample_acts.datagrams_and (sample_acts.samples_told reader) [] recording) (audit_speech.said_by writer reader) ∙ length-acts (sample_acts.samples_told reader) [] recording ∙ sym (length-map recording _);
      claims = λ j n. (claims_to from writer reader recording parts j n, claims_from from writer reader recording parts j n);
      announced = last_alike from writer reader [] recording parts;
      said = said_is_given from writer reader recording parts;
      put = put_is_given from writer reader recording parts;
      given = given_is_had from writer reader recording parts;
    })

-- ---- the first datagrams

take_mapped : (n : ℕ) (recording : List (List ℕ)) → take n (map fragment_walk.piece_acts_of recording) ≡ map fragment_walk.piece_acts_of (take n recording)
take_mapped zero recording = refl
take_mapped (suc n) [] = refl
take_mapped (suc n) (octets ∷ recording) = ap (λ rest. fragment_walk.piece_acts_of octets ∷ rest) (take_mapped n recording)

pub sent_until : (until : Option ℕ) (recording : List (List ℕ)) → said.datagrams_until until (fragment_walk.sending_of recording) ≡ fragment_walk.sending_of (said.datagrams_until until recording)
sent_until until recording = grind (arith, nat_tests, common_steps, take_mapped)

taken_there : {X : Type 0} (n : ℕ) (xs : List X) (x : X) → Contains (take n xs) x → Contains xs x
taken_there n xs x h = grind (arith, nat_tests, common_steps)

pub first_datagrams_tell_alike : laws.FirstDatagramsTellAlike
first_datagrams_tell_alike from writer reader None recording parts = acts_tell_alike from writer reader recording parts
first_datagrams_tell_alike from writer reader (Some until) recording parts =
    let n = until - 1 in
    let first = take n recording in
    subst (λ (acts : List (List receiver_values.ActValue)). laws.TellsAlike from (sample_acts.fragment_speech_of writer reader first) (audit_speech.speech_by writer reader acts)) (take_acts (sample_acts.samples_told reader) [] n recording)
    (acts_tell_alike from writer reader first (λ datagram part piece there among is. parts datagram part piece (taken_there n recording datagram there) among is))

-- ---- no pieces

pub acts_stay_without_pieces : laws.ActsStayWithoutPieces
acts_stay_without_pieces reader recording none = all_stay (sample_acts.samples_told reader) (λ before act. refl) [] recording none
