-- What a reader that takes fragments one by one can come to have.
use Rattle.std.proofs.lemmas.Bool.Decides.{nat_tests}
use Rattle.std.proofs.Common.{◌≡◌, ℕ, suc, ◌≤◌, List, [], ◌∷◌, ◌++◌, Some, slice_get, refl, ◌∙◌, ap, subst, arith, ◌⊎◌, inl, inr}
use Rattle.std.proofs.lemmas.List.Elements.{Contains-append_left, Contains-push, Contains-push_cases}
use Rattle.rtps_wire.specs.Values as values
use Rattle.rtps_audit.specs.Delivery as delivery
use Rattle.rtps_fragments.specs.FragmentDelivery as fragment_delivery
use Rattle.rtps_fragments.specs.FragmentVerdict as fragment_verdict

-- ---- more words and fragments make no fewer payloads

pub payload_of_more : (said other : ℕ → delivery.Word → Type 0) (there also : fragment_delivery.Fragment → Type 0) → ((n : ℕ) (word : delivery.Word) → said n word → other n word) → ((f : fragment_delivery.Fragment) → there f → also f)
    → (n : ℕ) (payload : values.PayloadValue) → fragment_delivery.HasPayloadOf said there n payload → fragment_delivery.HasPayloadOf other also n payload
payload_of_more said other there also h h2 n payload h3 = grind (arith, nat_tests)

pub word_of_more : (said other : ℕ → delivery.Word → Type 0) (there also : fragment_delivery.Fragment → Type 0) → ((n : ℕ) (word : delivery.Word) → said n word → other n word) → ((f : fragment_delivery.Fragment) → there f → also f)
    → (n : ℕ) → fragment_delivery.HasWordOf said there n → fragment_delivery.HasWordOf other also n
word_of_more said other there also h h2 n h3 = grind (arith, nat_tests)

-- what is said before a place is said before a later one
pub said_later : {from : ℕ} (speech : fragment_delivery.FragmentSpeech) (i j : ℕ) → i ≤ j → (n : ℕ) (word : delivery.Word) → fragment_verdict.IsSaidBefore from speech i n word → fragment_verdict.IsSaidBefore from speech j n word
said_later speech i j le n word said = record { place = said.place; act = said.act; earlier = let lt = said.earlier in omega arith; gives = said.gives }

pub sent_later : {from : ℕ} (speech : fragment_delivery.FragmentSpeech) (i j : ℕ) → i ≤ j → (f : fragment_delivery.Fragment) → fragment_verdict.IsSentBefore from speech i f → fragment_verdict.IsSentBefore from speech j f
sent_later speech i j le f sent = record { place = sent.place; piece = sent.piece; earlier = let lt = sent.earlier in omega arith; gives = sent.gives }

-- ---- taking what was given

-- events one after another
pub follow_on : (from : ℕ) (speech : fragment_delivery.FragmentSpeech) (a b c : fragment_delivery.FragmentState) (es fs : List fragment_delivery.FragmentEvent) → fragment_delivery.FragmentsFollow from speech a es b → fragment_delivery.FragmentsFollow from speech b fs c
    → fragment_delivery.FragmentsFollow from speech a (es ++ fs) c
follow_on from speech a b c [] fs h k = subst (λ s. fragment_delivery.FragmentsFollow from speech s fs c) h k
follow_on from speech a b c (e ∷ es) fs h k = (h.0, h.1, follow_on from speech h.0 b c es fs h.2 k)

-- The reader takes more of the number n, and of no other: nothing more is sent, and nothing is lost.
pub record TakesMore (n : ℕ) (old new : fragment_delivery.FragmentState) : Type 0 where
  pub sent : new.sent ≡ old.sent
  pub words : (m : ℕ) (word : delivery.Word) → fragment_delivery.HoldsWord old m word → fragment_delivery.HoldsWord new m word
  pub fragments : (f : fragment_delivery.Fragment) → fragment_delivery.HoldsFragment old f → fragment_delivery.HoldsFragment new f
  pub new_words : (m : ℕ) (word : delivery.Word) → fragment_delivery.HoldsWord new m word → fragment_delivery.HoldsWord old m word ⊎ (n ≡ m)
  pub new_fragments : (f : fragment_delivery.Fragment) → fragment_delivery.HoldsFragment new f → fragment_delivery.HoldsFragment old f ⊎ (n ≡ f.number)

takes_none : (n : ℕ) (s : fragment_delivery.FragmentState) → TakesMore n s s
takes_none n s = record { sent = refl; words = λ m word h. h; fragments = λ f h. h; new_words = λ m word h. inl h; new_fragments = λ f h. inl h }

takes_both : (n : ℕ) (a b c : fragment_delivery.FragmentState) → TakesMore n a b → TakesMore n b c → TakesMore n a c
takes_both n a b c h k = record {
  sent = k.sent ∙ h.sent;
  words = λ m word x. k.words m word (h.words m word x);
  fragments = λ f x. k.fragments f (h.fragments f x);
  new_words = λ m word x. elim (k.new_words m word x) [ inl before ↦ h.new_words m word before | inr same ↦ inr same ];
  new_fragments = λ f x. elim (k.new_fragments f x) [ inl before ↦ h.new_fragments f before | inr same ↦ inr same ];
}

-- what was had is still had
pub payload_stays : (n : ℕ) (old new : fragment_delivery.FragmentState) → TakesMore n old new → (m : ℕ) (payload : values.PayloadValue) → fragment_delivery.HasPayload old m payload → fragment_delivery.HasPayload new m payload
payload_stays n old new more m payload has = payload_of_more (fragment_delivery.HoldsWord old) (fragment_delivery.HoldsWord new) (fragment_delivery.HoldsFragment old) (fragment_delivery.HoldsFragment new) more.words more.fragments m payload has

pub word_stays : (n : ℕ) (old new : fragment_delivery.FragmentState) → TakesMore n old new → (m : ℕ) → fragment_delivery.HasWord old m → fragment_delivery.HasWord new m
word_stays n old new more m has = word_of_more (fragment_delivery.HoldsWord old) (fragment_delivery.HoldsWord new) (fragment_delivery.HoldsFragment old) (fragment_delivery.HoldsFragment new) more.words more.fragments m has

-- from a state on, the reader takes more of n until this holds
abbrev pub Takes : ℕ → fragment_delivery.FragmentSpeech → fragment_delivery.FragmentState → ℕ → (fragment_delivery.FragmentState → Type 0) → Type 0
Takes from speech s n P = (events : List fragment_delivery.FragmentEvent) × (t : fragment_delivery.FragmentState) × fragment_delivery.FragmentsFollow from speech s events t × TakesMore n s t × P t

abbrev pub took_word : fragment_delivery.FragmentState → ℕ → delivery.Word → fragment_delivery.FragmentState
took_word t n word = record { sent = t.sent; held = t.held ++ (n, word) ∷ []; fragments = t.fragments }

abbrev pub took_fragment : fragment_delivery.FragmentState → fragment_delivery.Fragment → fragment_delivery.FragmentState
took_fragment t f = record { sent = t.sent; held = t.held; fragments = t.fragments ++ f ∷ [] }

word_more : (t : fragment_delivery.FragmentState) (n : ℕ) (word : delivery.Word) → TakesMore n t (took_word t n word)
word_more t n word = record {
  sent = refl;
  words = λ m other h. Contains-append_left t.held _ _ h;
  fragments = λ f h. h;
  new_words = λ m other h. elim (Contains-push_cases t.held (n, word) (m, other) h) [
    | inl before ↦ inl before
    | inr here ↦ inr (ap (λ (p : ℕ × delivery.Word). p.0) here)
  ];
  new_fragments = λ f h. inl h;
}

fragment_more : (t : fragment_delivery.FragmentState) (n : ℕ) (f : fragment_delivery.Fragment) → n ≡ f.number → TakesMore n t (took_fragment t f)
fragment_more t n f same = record {
  sent = refl;
  words = λ m other h. h;
  fragments = λ g h. Contains-append_left t.fragments _ _ h;
  new_words = λ m other h. inl h;
  new_fragments = λ g h. elim (Contains-push_cases t.fragments f g h) [
    | inl before ↦ inl before
    | inr here ↦ inr (same ∙ ap (λ (x : fragment_delivery.Fragment). x.number) here)
  ];
}

take_word : {from : ℕ} (speech : fragment_delivery.FragmentSpeech) (s : fragment_delivery.FragmentState) (n : ℕ) (word : delivery.Word) → fragment_verdict.IsSaidBefore from speech s.sent n word → Takes from speech s n (λ t. fragment_delivery.HoldsWord t n word)
take_word speech s n word said = (
  fragment_delivery.FragmentEvent.Take said.place said.act n word ∷ [],
  took_word s n word,
  (took_word s n word, (said.earlier, said.gives, refl), refl),
  word_more s n word,
  Contains-push s.held (n, word),
)

-- each of these parts is held as the fragment that it is
abbrev HoldsParts : fragment_delivery.FragmentState → (ℕ → List ℕ → fragment_delivery.Fragment) → List (List ℕ) → Type 0
HoldsParts t part parts = (i : ℕ) (octets : List ℕ) → slice_get parts i ≡ Some octets → fragment_delivery.HoldsFragment t (part i octets)

holds_parts : (t : fragment_delivery.FragmentState) (part : ℕ → List ℕ → fragment_delivery.Fragment) (octets : List ℕ) (parts : List (List ℕ)) → fragment_delivery.HoldsFragment t (part 0 octets) → HoldsParts t (λ i. part (suc i)) parts
    → HoldsParts t part (octets ∷ parts)
holds_parts t part octets parts h h2 h3 h4 h5 = grind (arith, nat_tests)

take_parts : {from : ℕ} (speech : fragment_delivery.FragmentSpeech) (s : fragment_delivery.FragmentState) (n : ℕ) (part : ℕ → List ℕ → fragment_delivery.Fragment) (parts : List (List ℕ)) → ((i : ℕ) (octets : List ℕ) → n ≡ (part i octets).number)
    → ((i : ℕ) (octets : List ℕ) → slice_get parts i ≡ Some octets → fragment_verdict.IsSentBefore from speech s.sent (part i octets)) → Takes from speech s n (λ t. HoldsParts t part parts)
take_parts speech s n part [] number sent = ([], s, refl, takes_none n s, λ i octets at. absurd (none octets at))
  where
    none : (octets : List ℕ) → slice_get {X = List ℕ} [] 0 ≡ Some octets → ⊥
    none octets at = cc
take_parts {from} speech s n part (octets ∷ parts) number sent =
    let given : fragment_verdict.IsSentBefore from speech s.sent (part 0 octets) = sent 0 octets refl in
    let next : fragment_delivery.FragmentState = took_fragment s (part 0 octets) in
    let rest = take_parts speech next n (λ i. part (suc i)) parts (λ i o. number (suc i) o) (λ i o at. sent (suc i) o at) in (
      fragment_delivery.FragmentEvent.TakeFragment given.place given.piece (part 0 octets) ∷ rest.0,
      rest.1,
      (next, (given.earlier, given.gives, refl), rest.2),
      takes_both n s next rest.1 (fragment_more s n (part 0 octets) (number 0 octets)) rest.3,
      holds_parts rest.1 part octets parts (rest.3.fragments (part 0 octets) (Contains-push s.fragments (part 0 octets))) rest.4,
    )

-- a payload that was given or can be put together can be had
pub take_payload : {from : ℕ} (speech : fragment_delivery.FragmentSpeech) (s : fragment_delivery.FragmentState) (n : ℕ) (payload : values.PayloadValue) → fragment_verdict.IsPayloadBefore from speech s.sent n payload → Takes from speech s n (λ t. fragment_delivery.HasPayload t n payload)
take_payload speech s n payload (inl told) =
    let (events, t, follows, more, holds) = take_word speech s n _ told in
    (events, t, follows, more, inl holds)
take_payload speech s n payload (inr put) =
    let (events, t, follows, more, each) = take_parts speech s n (λ i octets. record { number = n; shape = put.shape; index = suc i; octets = octets }) put.parts (λ i octets. refl) put.each in
    (events, t, follows, more, inr (record { shape = put.shape; parts = put.parts; some = put.some; all = put.all; each = each; payload_is = put.payload_is }))

-- and so can a word
pub take_any : {from : ℕ} (speech : fragment_delivery.FragmentSpeech) (s : fragment_delivery.FragmentState) (n : ℕ) → fragment_verdict.IsWordBefore from speech s.sent n → Takes from speech s n (λ t. fragment_delivery.HasWord t n)
take_any speech s n (inl gone) =
    let (events, t, follows, more, holds) = take_word speech s n _ gone in
    (events, t, follows, more, inl holds)
take_any speech s n (inr (payload, before)) =
    let (events, t, follows, more, has) = take_payload speech s n payload before in
    (events, t, follows, more, inr (payload, has))

-- a run goes on by what is taken
pub end_more : (from : ℕ) (speech : fragment_delivery.FragmentSpeech) (n : ℕ) (s t : fragment_delivery.FragmentState) (events : List fragment_delivery.FragmentEvent) → fragment_delivery.FragmentsEnd from speech s → fragment_delivery.FragmentsFollow from speech s events t → TakesMore n s t
    → fragment_delivery.FragmentsEnd from speech t
end_more from speech n s t events ((before, reached), all) follows more =
    ((before ++ events, follow_on from speech fragment_delivery.fragment_start s t before events reached follows), more.sent ∙ all)
