-- The run that takes a word for each number that the next datagram's answers claim, and no other.
use Rattle.std.proofs.Common.{◌≡◌, ℕ, zero, suc, ◌+◌, ◌<◌, ◌≤◌, List, [], ◌∷◌, ◌++◌, length, Some, slice_get, refl, sym, ◌∙◌, ap, subst, arith, below_more, ◌⊎◌, inl, inr, max}
use Rattle.std.specs.Prelude.{Contains}
use Rattle.std.proofs.lemmas.List.Elements.{Contains-append_left, Contains-append_right, Contains-append_cases, Contains-push, Contains-push_cases}
use Rattle.std.proofs.lemmas.Option.{slice_get_cases}
use Rattle.std.proofs.lemmas.Bool.{cases_lt}
use Rattle.rtps_audit.specs.Delivery as delivery
use Rattle.rtps_audit.specs.RunVerdict as run_verdict
use Rattle.rtps_audit.specs.PlainVerdict as plain_verdict

-- a number is asked for or not
pub asked_or_not : (from n : ℕ) → delivery.IsAsked from n ⊎ (delivery.IsAsked from n → ⊥)
asked_or_not from n = elim (cases_lt n (max 1 from)) [
  | inl below ↦ inr (λ (one, le). omega arith)
  | inr above ↦ inl (omega arith, omega arith)
]

-- each number that is held is claimed by some answer
abbrev pub IsFrugal : ℕ → delivery.Speech → delivery.DeliveryState → Type 0
IsFrugal from speech state = (n : ℕ) → delivery.Holds state n → plain_verdict.IsClaimed from speech n

-- what the reader held it still holds, nothing more was sent, and what it took was claimed
pub record Grows (from : ℕ) (speech : delivery.Speech) (old new : delivery.DeliveryState) : Type 0 where
  pub sent : new.sent ≡ old.sent
  pub held : (n : ℕ) → delivery.Holds old n → delivery.Holds new n
  pub frugal : IsFrugal from speech old → IsFrugal from speech new

grows_refl : {from : ℕ} (speech : delivery.Speech) (s : delivery.DeliveryState) → Grows from speech s s
grows_refl speech s = record { sent = refl; held = λ n h. h; frugal = λ h. h }

grows_trans : {from : ℕ} (speech : delivery.Speech) (a b c : delivery.DeliveryState) → Grows from speech a b → Grows from speech b c → Grows from speech a c
grows_trans speech a b c h k = record {
  sent = k.sent ∙ h.sent;
  held = λ n x. k.held n (h.held n x);
  frugal = λ x. k.frugal (h.frugal x);
}

-- events one after another
pub Follows-append : (from : ℕ) (speech : delivery.Speech) (a b c : delivery.DeliveryState) (es fs : List delivery.Event) → delivery.Follows from speech a es b → delivery.Follows from speech b fs c → delivery.Follows from speech a (es ++ fs) c
Follows-append from speech a b c [] fs h k = subst (λ s. delivery.Follows from speech s fs c) h k
Follows-append from speech a b c (e ∷ es) fs h k = (h.0, h.1, Follows-append from speech h.0 b c es fs h.2 k)

-- from a state on, the reader comes to hold what it wants
abbrev pub Reaches : ℕ → delivery.Speech → delivery.DeliveryState → (delivery.DeliveryState → Type 0) → Type 0
Reaches from speech s P = (events : List delivery.Event) × (t : delivery.DeliveryState) × delivery.Follows from speech s events t × P t

-- the state after a word for n is taken
abbrev pub took : delivery.DeliveryState → ℕ → delivery.Word → delivery.DeliveryState
took t n word = record { sent = t.sent; held = t.held ++ (n, word) ∷ [] }

took-holds : (t : delivery.DeliveryState) (n : ℕ) (word : delivery.Word) → delivery.Holds (took t n word) n
took-holds t n word = (word, Contains-push t.held (n, word))

took-frugal : {from : ℕ} (speech : delivery.Speech) (t : delivery.DeliveryState) (n : ℕ) (word : delivery.Word) → plain_verdict.IsClaimed from speech n → IsFrugal from speech t → IsFrugal from speech (took t n word)
took-frugal {from} speech t n word claimed frugal m (other, among) =
    elim (Contains-push_cases t.held (n, word) (m, other) among) [
      | inl before ↦ frugal m (other, before)
      | inr here ↦ subst (plain_verdict.IsClaimed from speech) (ap (λ (p : ℕ × delivery.Word). p.0) here) claimed
    ]

took-grows : {from : ℕ} (speech : delivery.Speech) (t : delivery.DeliveryState) (n : ℕ) (word : delivery.Word) → plain_verdict.IsClaimed from speech n → Grows from speech t (took t n word)
took-grows speech t n word claimed = record {
  sent = refl;
  held = λ m h. (h.0, Contains-append_left t.held _ _ h.1);
  frugal = took-frugal speech t n word claimed;
}

-- what is wanted of a number: an earlier word, and an answer that claims it
abbrev IsWanted : ℕ → delivery.Speech → delivery.DeliveryState → ℕ → Type 0
IsWanted from speech s n = run_verdict.IsTold from speech s.sent n × plain_verdict.IsClaimed from speech n

-- one more word
taken : {from : ℕ} (speech : delivery.Speech) (s : delivery.DeliveryState) (m : ℕ) → Reaches from speech s (λ t. Grows from speech s t × ((n : ℕ) → delivery.IsAsked from n → n < m → delivery.Holds t n)) → IsWanted from speech s m
    → Reaches from speech s (λ t. Grows from speech s t × ((n : ℕ) → delivery.IsAsked from n → n < suc m → delivery.Holds t n))
taken {from} speech s m (es, t, follows, had) (told, claimed) =
    let next : delivery.DeliveryState = took t m told.word in
    let before : told.place < t.sent = rw had.0.sent told.earlier in
    let step : delivery.Step from speech t (delivery.Event.Take told.place told.act m told.word) next = (before, told.gives, refl) in
    let all : (n : ℕ) → n < m + 1 → delivery.IsAsked from n → delivery.Holds next n =
    below_more (λ n. delivery.IsAsked from n → delivery.Holds next n) m
    (λ n lower a. (took-grows speech t m told.word claimed).held n (had.1 n a lower))
    (λ _. took-holds t m told.word) in (
      es ++ delivery.Event.Take told.place told.act m told.word ∷ [],
      next,
      Follows-append from speech s t next es (delivery.Event.Take told.place told.act m told.word ∷ []) follows (next, step, refl),
      (
        grows_trans speech s t next had.0 (took-grows speech t m told.word claimed),
        λ n a b. all n (omega arith) a,
      ),
    )

-- a number that is not asked for needs none
not_taken : {from : ℕ} (speech : delivery.Speech) (s : delivery.DeliveryState) (m : ℕ) → (delivery.IsAsked from m → ⊥) → Reaches from speech s (λ t. Grows from speech s t × ((n : ℕ) → delivery.IsAsked from n → n < m → delivery.Holds t n))
    → Reaches from speech s (λ t. Grows from speech s t × ((n : ℕ) → delivery.IsAsked from n → n < suc m → delivery.Holds t n))
not_taken {from} speech s m never (es, t, follows, had) = (
  es,
  t,
  follows,
  (
    had.0,
    λ n a b. elim (cases_lt n m) [
      | inl below ↦ had.1 n a below
      | inr here ↦ let same : n ≡ m = omega arith in absurd (never (subst (delivery.IsAsked from) same a))
    ],
  ),
)

-- it takes a word for each number below a bound
take_below : {from : ℕ} (speech : delivery.Speech) (s : delivery.DeliveryState) (bound : ℕ) → ((n : ℕ) → delivery.IsAsked from n → n < bound → IsWanted from speech s n)
    → Reaches from speech s (λ t. Grows from speech s t × ((n : ℕ) → delivery.IsAsked from n → n < bound → delivery.Holds t n))
take_below speech s zero h = ([], s, refl, (grows_refl speech s, λ n a b. absurd (omega arith)))
take_below {from} speech s (suc m) h =
    let below = take_below speech s m (λ n a b. h n a (omega arith)) in
    elim (asked_or_not from m) [
      | inl asked ↦ taken speech s m below (h m asked (omega arith))
      | inr never ↦ not_taken speech s m never below
    ]

one_element : {X : Type 0} (b x : X) → Contains (b ∷ []) x → x ≡ b
one_element b x (zero, lt, e) = sym e
one_element b x (suc k, lt, e) = absurd (omega arith)

no_element : (base : ℕ) → Contains [] base → ⊥
no_element base c = omega arith

-- the datagram that stands at a place
pub datagram_at : (speech : delivery.Speech) (j : ℕ) → j < length speech → (d : delivery.Datagram) × (slice_get speech j ≡ Some d)
datagram_at speech j lt = elim (slice_get_cases speech j).1 [
  | inl found ↦ (found.0, found.2)
  | inr past ↦ absurd (omega arith)
]

-- a place where a datagram stands
pub place_within : (speech : delivery.Speech) (j : ℕ) (d : delivery.Datagram) → slice_get speech j ≡ Some d → j < length speech
place_within speech j d e = elim (slice_get_cases speech j).1 [
  | inl found ↦ found.1
  | inr past ↦ absurd (let clash = sym past.1 ∙ e in cc)
]

-- it takes a word for each number that some base claims
take_bases : {from : ℕ} (speech : delivery.Speech) (s : delivery.DeliveryState) (bases : List ℕ) → ((base : ℕ) → Contains bases base → (n : ℕ) → delivery.IsAsked from n → n < base → IsWanted from speech s n)
    → Reaches from speech s (λ t. Grows from speech s t × ((base : ℕ) → Contains bases base → (n : ℕ) → delivery.IsAsked from n → n < base → delivery.Holds t n))
take_bases speech s [] h = ([], s, refl, (grows_refl speech s, λ base c. absurd (no_element base c)))
take_bases {from} speech s (b ∷ bs) h =
    let first = take_below speech s b (h b (Contains-append_left (b ∷ []) bs b (Contains-push [] b))) in
    let t : delivery.DeliveryState = first.1 in
    let rest = take_bases speech t bs (λ base c n a l. rw first.3.0.sent (h base (Contains-append_right (b ∷ []) bs base c) n a l)) in
    let u : delivery.DeliveryState = rest.1 in (
      first.0 ++ rest.0,
      u,
      Follows-append from speech s t u first.0 rest.0 first.2 rest.2,
      (
        grows_trans speech s t u first.3.0 rest.3.0,
        λ base c n a l. elim (Contains-append_cases (b ∷ []) bs base c) [
          | inl here ↦ rest.3.0.held n (first.3.1 n a (rw (← one_element b base here) l))
          | inr there ↦ rest.3.1 base there n a l
        ],
      ),
    )

-- all that is claimed where the reader stands is held
may_send : {from : ℕ} (speech : delivery.Speech) (t : delivery.DeliveryState) (j : ℕ) (d : delivery.Datagram) → t.sent ≡ j → j < length speech → slice_get speech j ≡ Some d
    → ((base : ℕ) → Contains d.bases base → (n : ℕ) → delivery.IsAsked from n → n < base → delivery.Holds t n) → delivery.MaySend from speech t
may_send speech t j d is_at lt stands all = (
  rw is_at lt,
  λ n claims.
      let same : Some claims.datagram ≡ Some d = sym claims.stands ∙ ap (slice_get speech) is_at ∙ stands in
      let one : claims.datagram ≡ d = cc in
      all claims.base (rw (← one) claims.answers) n claims.asked claims.below,
)

-- the answers before place j claim nothing that no earlier datagram tells
abbrev pub IsFoundedBelow : ℕ → delivery.Speech → ℕ → Type 0
IsFoundedBelow from speech j = (i n : ℕ) → i < j → delivery.Claims from speech i n → run_verdict.IsTold from speech i n

-- j datagrams are sent, and what is held is claimed
abbrev pub HasSent : ℕ → delivery.Speech → ℕ → delivery.DeliveryState → Type 0
HasSent from speech j state = (state.sent ≡ j) × IsFrugal from speech state

-- one datagram more can be sent
send_next : {from : ℕ} (speech : delivery.Speech) (j : ℕ) → ((n : ℕ) → delivery.Claims from speech j n → run_verdict.IsTold from speech j n) → j < length speech
    → Reaches from speech delivery.start (HasSent from speech j) → Reaches from speech delivery.start (HasSent from speech (suc j))
send_next {from} speech j founded lt (es, s, follows, (at_j, frugal)) =
    let here = datagram_at speech j lt in
    let all = take_bases speech s here.0.bases (λ base c n a l.
    let claims : delivery.Claims from speech j n = record { datagram = here.0; base = base; stands = here.1; answers = c; asked = a; below = l } in
    (rw at_j (founded n claims), (j, claims))) in
    go here.0 here.1 all
  where
    go : (d : delivery.Datagram) → slice_get speech j ≡ Some d
        → Reaches from speech s (λ t. Grows from speech s t × ((base : ℕ) → Contains d.bases base → (n : ℕ) → delivery.IsAsked from n → n < base → delivery.Holds t n))
        → Reaches from speech delivery.start (HasSent from speech (suc j))
    go d stands (fs, t, more, had) =
        let is_at : t.sent ≡ j = had.0.sent ∙ at_j in
        let next : delivery.DeliveryState = record { sent = suc t.sent; held = t.held } in
        let last : delivery.Follows from speech t (delivery.Event.Send ∷ []) next = (next, (may_send speech t j d is_at lt stands had.1, refl), refl) in (
          es ++ (fs ++ delivery.Event.Send ∷ []),
          next,
          Follows-append from speech delivery.start s next es (fs ++ delivery.Event.Send ∷ []) follows (Follows-append from speech s t next fs (delivery.Event.Send ∷ []) more last),
          (ap suc is_at, had.0.frugal frugal),
        )

-- nothing is held at the start
start-frugal : {from : ℕ} (speech : delivery.Speech) → IsFrugal from speech delivery.start
start-frugal speech n h = absurd (let lt = h.1.1 in omega arith)

-- the datagrams before j can all be sent, where their answers are founded
pub send_up_to : {from : ℕ} (speech : delivery.Speech) (j : ℕ) → j ≤ length speech → IsFoundedBelow from speech j → Reaches from speech delivery.start (HasSent from speech j)
send_up_to speech zero le founded = ([], delivery.start, refl, (refl, start-frugal speech))
send_up_to speech (suc j) le founded =
    send_next speech j (λ n claims. founded j n (omega arith) claims) (omega arith)
    (send_up_to speech j (omega arith) (λ i n lt claims. founded i n (omega arith) claims))

-- some run ends with no word for a number that is not claimed
pub frugal_run : {from : ℕ} (speech : delivery.Speech) → plain_verdict.IsFounded from speech → (end : delivery.DeliveryState) × delivery.Ends from speech end × IsFrugal from speech end
frugal_run speech founded =
    let run = send_up_to speech (length speech) (omega arith) (λ i n lt claims. founded i n claims) in
    (run.1, ((run.0, run.2), run.3.0), run.3.1)

-- a run goes on by a word that is spoken
pub Ends-took : {from : ℕ} (speech : delivery.Speech) (end : delivery.DeliveryState) (n : ℕ) (word : delivery.Word) → delivery.Ends from speech end → plain_verdict.IsSpoken from speech n word → delivery.Ends from speech (took end n word)
Ends-took {from} speech end n word ((events, follows), all) spoken =
    let within : spoken.place < length speech = place_within speech spoken.place spoken.gives.datagram spoken.gives.stands in
    let sent : spoken.place < end.sent = omega arith in
    let step : delivery.Step from speech end (delivery.Event.Take spoken.place spoken.act n word) (took end n word) = (sent, spoken.gives, refl) in (
      (
        events ++ delivery.Event.Take spoken.place spoken.act n word ∷ [],
        Follows-append from speech delivery.start end (took end n word) events (delivery.Event.Take spoken.place spoken.act n word ∷ []) follows (took end n word, step, refl),
      ),
      all,
    )
