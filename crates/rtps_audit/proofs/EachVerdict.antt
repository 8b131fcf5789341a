-- Each recording of words for numbers below some bound has a verdict.
use Rattle.std.proofs.Common.{◌≡◌, ℕ, zero, suc, List, [], ◌∷◌, Option, Some, slice_get, refl, ◌∙◌, ap, ◌⊎◌, inl, inr, ◌+◌, ◌≤◌, ◌<◌, Bool, true, false, length, None, sym, subst, arith, pos}
use Rattle.std.specs.Prelude.{Contains, ◌≢◌, Decides}
use Rattle.std.specs.Cmp.Lexicographic.{bytes_decides}
use Rattle.std.proofs.lemmas.Bool.{cases_lt}
use Rattle.std.proofs.lemmas.Option.{slice_get_cases, slice_get_within}
use Rattle.rtps_wire.specs.Values as values
use Rattle.rtps_audit.specs.Delivery as delivery
use Rattle.rtps_audit.specs.RunVerdict as run_verdict
use Rattle.rtps_audit.specs.PlainVerdict as plain_verdict
use Rattle.rtps_audit.specs.FullRun as full_run
use Rattle.rtps_audit.specs.Laws as laws
use Rattle.rtps_audit.specs.declared.verdict.Verdict.{Verdict}
use Rattle.rtps_audit.proofs.Greatest.{below_from_claims, below_greatest, claimed_from_below, greatest_base, greatest_below}
use Rattle.rtps_audit.proofs.DeliveryRuns.{asked_or_not}
use Rattle.rtps_audit.proofs.Verdicts.{told_or_not, from_plain}

-- ---- what stands at the places of a list of acts

-- the act at place k of these has the word for n
pub record Has (acts : List (ℕ → Option delivery.Word)) (k n : ℕ) (word : delivery.Word) : Type 0 where
  pub act : ℕ → Option delivery.Word
  pub speaks : slice_get acts k ≡ Some act
  pub says : act n ≡ Some word

pub has_here : (act : ℕ → Option delivery.Word) (acts : List (ℕ → Option delivery.Word)) (n : ℕ) (word : delivery.Word) → act n ≡ Some word → Has (act ∷ acts) 0 n word
has_here act acts n word says = record { act = act; speaks = refl; says = says }

pub has_later : (act : ℕ → Option delivery.Word) (acts : List (ℕ → Option delivery.Word)) (k n : ℕ) (word : delivery.Word) → Has acts k n word → Has (act ∷ acts) (suc k) n word
has_later act acts k n word has = record { act = has.act; speaks = has.speaks; says = has.says }

pub has_cases : (act : ℕ → Option delivery.Word) (acts : List (ℕ → Option delivery.Word)) (k n : ℕ) (word : delivery.Word) → Has (act ∷ acts) k n word → (act n ≡ Some word) ⊎ ((j : ℕ) × Has acts j n word)
has_cases act acts zero n word has =
    let same : act ≡ has.act = (let both = has.speaks in cc) in
    inl (ap (λ (f : ℕ → Option delivery.Word). f n) same ∙ has.says)
has_cases act acts (suc k) n word has = inr (k, record { act = has.act; speaks = has.speaks; says = has.says })

pub has_none : (k n : ℕ) (word : delivery.Word) → Has [] k n word → ⊥
has_none k n word has = let none = has.speaks in cc

-- ---- the verdict

-- a fact holds or does not
abbrev Decided : Type 0 → Type 0
Decided P = P ⊎ (P → ⊥)

-- the least number below a bound that has P, if one has
least_search : (P : ℕ → Type 0) → ((n : ℕ) → Decided (P n)) → (bound : ℕ) → ((n : ℕ) × run_verdict.IsLeast P n) ⊎ ((n : ℕ) → n < bound → P n → ⊥)
least_search P decide zero = inr (λ n lt p. omega arith)
least_search P decide (suc b) = next (least_search P decide b) (decide b)
  where
    first : ((n : ℕ) → n < b → P n → ⊥) → (m : ℕ) → P m → b ≤ m
    first none m q = elim (cases_lt m b) [ inl lt ↦ absurd (none m lt q) | inr le ↦ le ]

    neither : ((n : ℕ) → n < b → P n → ⊥) → (P b → ⊥) → (n : ℕ) → n < suc b → P n → ⊥
    neither none nor n lt p = elim (cases_lt n b) [
      | inl below ↦ none n below p
      | inr here ↦ let same : n ≡ b = omega arith in nor (subst P same p)
    ]

    next : ((n : ℕ) × run_verdict.IsLeast P n) ⊎ ((n : ℕ) → n < b → P n → ⊥) → Decided (P b) → ((n : ℕ) × run_verdict.IsLeast P n) ⊎ ((n : ℕ) → n < suc b → P n → ⊥)
    next (inl found) here = inl found
    next (inr none) (inl p) = inl (b, record { holds = p; least = first none })
    next (inr none) (inr nor) = inr (neither none nor)

asked_claims_or_not : {from : ℕ} (speech : delivery.Speech) (j n : ℕ) → delivery.IsAsked from n → Decided (delivery.Claims from speech j n)
asked_claims_or_not {from} speech j n asked = elim (slice_get_cases speech j).1 [
  | inl found ↦ at found.0 found.2
  | inr past ↦ inr (λ claims. let within = slice_get_within speech j claims.datagram claims.stands in let out = past.0 in omega arith)
]
  where
    at : (d : delivery.Datagram) → slice_get speech j ≡ Some d → Decided (delivery.Claims from speech j n)
    at d stands = elim (cases_lt n (delivery.greatest d.bases)) [
      | inl lt ↦
          let base = below_greatest n d.bases lt in
          inl (record { datagram = d; base = base.0; stands = stands; answers = base.1; asked = asked; below = base.2 })
      | inr le ↦ inr (λ claims.
          let both : Some claims.datagram ≡ Some d = sym claims.stands ∙ stands in
          let same : claims.datagram ≡ d = cc in
          let among = subst (λ (x : delivery.Datagram). Contains x.bases claims.base) same claims.answers in
          let below = greatest_below n claims.base d.bases among claims.below in
          omega arith)
    ]

claims_or_not : {from : ℕ} (speech : delivery.Speech) (j n : ℕ) → Decided (delivery.Claims from speech j n)
claims_or_not {from} speech j n = elim (asked_or_not from n) [
  | inl asked ↦ asked_claims_or_not speech j n asked
  | inr never ↦ inr (λ claims. never claims.asked)
]

untold_or_not : {from : ℕ} (speech : delivery.Speech) (j n : ℕ) → Decided (run_verdict.ClaimsUntold from speech j n)
untold_or_not speech j n = elim (claims_or_not speech j n) [
  | inl claims ↦ elim (told_or_not speech j n claims.asked) [
    | inl told ↦ inr (λ h. h.1 told)
    | inr untold ↦ inl (claims, untold)
  ]
  | inr none ↦ inr (λ h. none h.0)
]

least_untold : {from : ℕ} (speech : delivery.Speech) (j : ℕ) → ((n : ℕ) × run_verdict.IsLeast (run_verdict.ClaimsUntold from speech j) n) ⊎ ((n : ℕ) → run_verdict.ClaimsUntold from speech j n → ⊥)
least_untold {from} speech j = elim (least_search (run_verdict.ClaimsUntold from speech j) (untold_or_not speech j) (greatest_base speech)) [
  | inl found ↦ inl found
  | inr none ↦ inr (λ n claims. none n (below_from_claims n j speech claims.0) claims)
]

unfounded_or_not : {from : ℕ} (speech : delivery.Speech) (j : ℕ) → Decided ((n : ℕ) × run_verdict.ClaimsUntold from speech j n)
unfounded_or_not {from} speech j = elim (least_untold {from = from} speech j) [
  | inl found ↦ inl (found.0, found.1.holds)
  | inr none ↦ inr (λ h. none h.0 h.1)
]

octets_same : (xs ys : List ℕ) → Decided (xs ≡ ys)
octets_same xs ys = by_test _ refl (bytes_decides xs ys)
  where
    by_test : (b : Bool) → b ≡ b → Decides b (xs ≡ ys) → Decided (xs ≡ ys)
    by_test true e decides = inl (decides.0 refl)
    by_test false e decides = inr (λ same. let clash = decides.1 same in cc)

pub payload_same : (x y : values.PayloadValue) → Decided (x ≡ y)
payload_same values.PayloadValue.Absent values.PayloadValue.Absent = inl refl
payload_same values.PayloadValue.Absent (values.PayloadValue.Whole ys) = inr (λ e. cc)
payload_same values.PayloadValue.Absent (values.PayloadValue.Key ys) = inr (λ e. cc)
payload_same (values.PayloadValue.Whole xs) values.PayloadValue.Absent = inr (λ e. cc)
payload_same (values.PayloadValue.Whole xs) (values.PayloadValue.Whole ys) = elim (octets_same xs ys) [ inl e ↦ inl (ap values.PayloadValue.Whole e) | inr no_same ↦ inr (λ e. no_same (whole_same xs ys e)) ]
  where
    whole_same : (cs ds : List ℕ) → values.PayloadValue.Whole cs ≡ values.PayloadValue.Whole ds → cs ≡ ds
    whole_same cs ds e = cc
payload_same (values.PayloadValue.Whole xs) (values.PayloadValue.Key ys) = inr (λ e. cc)
payload_same (values.PayloadValue.Key xs) values.PayloadValue.Absent = inr (λ e. cc)
payload_same (values.PayloadValue.Key xs) (values.PayloadValue.Whole ys) = inr (λ e. cc)
payload_same (values.PayloadValue.Key xs) (values.PayloadValue.Key ys) = elim (octets_same xs ys) [ inl e ↦ inl (ap values.PayloadValue.Key e) | inr no_same ↦ inr (λ e. no_same (key_same xs ys e)) ]
  where
    key_same : (cs ds : List ℕ) → values.PayloadValue.Key cs ≡ values.PayloadValue.Key ds → cs ≡ ds
    key_same cs ds e = cc

-- some payload with P is spoken for n by these acts
abbrev ActsSpeak : List (ℕ → Option delivery.Word) → ℕ → (values.PayloadValue → Type 0) → Type 0
ActsSpeak acts n P = (k : ℕ) × (p : values.PayloadValue) × Has acts k n (delivery.Word.Told p) × P p

acts_speak : (acts : List (ℕ → Option delivery.Word)) (n : ℕ) (P : values.PayloadValue → Type 0) → ((p : values.PayloadValue) → Decided (P p)) → Decided (ActsSpeak acts n P)
acts_speak [] n P decide = inr (λ (k, p, has, h). has_none k n (delivery.Word.Told p) has)
acts_speak (act ∷ acts) n P decide = first (act n) refl (acts_speak acts n P decide)
  where
    rest_of : Decided (ActsSpeak acts n P) → ((p : values.PayloadValue) → act n ≡ Some (delivery.Word.Told p) → P p → ⊥) → Decided (ActsSpeak (act ∷ acts) n P)
    rest_of (inl (k, p, has, h)) none = inl (suc k, p, has_later act acts k n (delivery.Word.Told p) has, h)
    rest_of (inr never) none = inr (λ (k, p, has, h). elim (has_cases act acts k n (delivery.Word.Told p) has) [
      | inl here ↦ none p here h
      | inr rest ↦ never (rest.0, p, rest.1, h)
    ])

    first : (found : Option delivery.Word) → act n ≡ found → Decided (ActsSpeak acts n P) → Decided (ActsSpeak (act ∷ acts) n P)
    first None e rest = rest_of rest (λ p at h. let clash : None ≡ Some (delivery.Word.Told p) = sym e ∙ at in cc)
    first (Some delivery.Word.Gone) e rest = rest_of rest (λ p at h. let clash : Some delivery.Word.Gone ≡ Some (delivery.Word.Told p) = sym e ∙ at in cc)
    first (Some (delivery.Word.Told q)) e rest = elim (decide q) [
      | inl h ↦ inl (0, q, has_here act acts n (delivery.Word.Told q) e, h)
      | inr none ↦ rest_of rest (λ p at h. none (subst P (let both : Some (delivery.Word.Told p) ≡ Some (delivery.Word.Told q) = sym at ∙ e in let same : p ≡ q = cc in same) h))
    ]

-- some payload with P is spoken for n
abbrev Speaks : ℕ → delivery.Speech → ℕ → (values.PayloadValue → Type 0) → Type 0
Speaks from speech n P = (p : values.PayloadValue) × plain_verdict.IsSpoken from speech n (delivery.Word.Told p) × P p

speaks : {from : ℕ} (speech : delivery.Speech) (n : ℕ) → delivery.IsAsked from n → (P : values.PayloadValue → Type 0) → ((p : values.PayloadValue) → Decided (P p)) → Decided (Speaks from speech n P)
speaks [] n asked P decide = inr (λ (p, spoken, h). let none = spoken.gives.stands in cc)
speaks {from} (d ∷ speech) n asked P decide = first (acts_speak d.acts n P decide) (speaks speech n asked P decide)
  where
    later : (i k : ℕ) (w : delivery.Word) → delivery.Gives from speech i k n w → delivery.Gives from (d ∷ speech) (suc i) k n w
    later i k w gives = record { datagram = gives.datagram; act = gives.act; stands = gives.stands; speaks = gives.speaks; asked = gives.asked; says = gives.says }

    cases : (i k : ℕ) (p : values.PayloadValue) → delivery.Gives from (d ∷ speech) i k n (delivery.Word.Told p) → P p → Decided (ActsSpeak d.acts n P) → (Speaks from speech n P → ⊥) → (ActsSpeak d.acts n P → ⊥) → ⊥
    cases zero k p gives h here none nor =
        let both : Some d ≡ Some gives.datagram = gives.stands in
        let same : gives.datagram ≡ d = cc in
        nor (subst (λ (x : delivery.Datagram). ActsSpeak x.acts n P) same (k, p, record { act = gives.act; speaks = gives.speaks; says = gives.says }, h))
    cases (suc i) k p gives h here none nor =
        none (p, record { place = i; act = k; gives = record { datagram = gives.datagram; act = gives.act; stands = gives.stands; speaks = gives.speaks; asked = gives.asked; says = gives.says } }, h)

    first : Decided (ActsSpeak d.acts n P) → Decided (Speaks from speech n P) → Decided (Speaks from (d ∷ speech) n P)
    first (inl (k, p, has, h)) rest =
        inl (p, record { place = 0; act = k; gives = record { datagram = d; act = has.act; stands = refl; speaks = has.speaks; asked = asked; says = has.says } }, h)
    first (inr nor) (inl (p, spoken, h)) = inl (p, record { place = suc spoken.place; act = spoken.act; gives = later spoken.place spoken.act (delivery.Word.Told p) spoken.gives }, h)
    first (inr nor) (inr none) = inr (λ (p, spoken, h). cases spoken.place spoken.act p spoken.gives h (inr nor) none nor)

asked_two_or_not : {from : ℕ} (speech : delivery.Speech) (n : ℕ) → delivery.IsAsked from n → Decided (plain_verdict.SpeaksTwo from speech n)
asked_two_or_not {from} speech n asked = first (speaks speech n asked (λ p. Unit {0}) (λ p. inl tt))
  where
    other : (p : values.PayloadValue) → plain_verdict.IsSpoken from speech n (delivery.Word.Told p) → Decided (Speaks from speech n (λ q. p ≢ q)) → Decided (plain_verdict.SpeaksTwo from speech n)
    other p spoken (inl (q, also, differ)) = inl (p, q, spoken, also, differ)
    other p spoken (inr none) = inr (λ (x, y, one, two, differ). differ (sym (same x one) ∙ same y two))
      where
        same : (x : values.PayloadValue) → plain_verdict.IsSpoken from speech n (delivery.Word.Told x) → p ≡ x
        same x said = elim (payload_same p x) [ inl e ↦ e | inr apart ↦ absurd (none (x, said, apart)) ]

    unlike : (p q : values.PayloadValue) → Decided (p ≢ q)
    unlike p q = elim (payload_same p q) [ inl e ↦ inr (λ differ. differ e) | inr apart ↦ inl apart ]

    first : Decided (Speaks from speech n (λ p. Unit {0})) → Decided (plain_verdict.SpeaksTwo from speech n)
    first (inl (p, spoken, u)) = other p spoken (speaks speech n asked (λ q. p ≢ q) (unlike p))
    first (inr none) = inr (λ (x, y, one, two, differ). none (x, one, tt))

two_or_not : {from : ℕ} (speech : delivery.Speech) (n : ℕ) → Decided (plain_verdict.SpeaksTwo from speech n)
two_or_not {from} speech n = elim (asked_or_not from n) [
  | inl asked ↦ asked_two_or_not speech n asked
  | inr never ↦ inr (λ (x, y, one, two, differ). never one.gives.asked)
]

pub claimed_or_not : {from : ℕ} (speech : delivery.Speech) (n : ℕ) → delivery.IsAsked from n → Decided (plain_verdict.IsClaimed from speech n)
claimed_or_not speech n asked = elim (cases_lt n (greatest_base speech)) [
  | inl lt ↦ inl (claimed_from_below n speech asked lt)
  | inr le ↦ inr (λ claimed. let below = below_from_claims n claimed.0 speech claimed.1 in omega arith)
]

unclaimed_or_not : {from : ℕ} (speech : delivery.Speech) (n : ℕ) → Decided (plain_verdict.IsUnclaimed from speech n)
unclaimed_or_not {from} speech n = elim (asked_or_not from n) [
  | inl asked ↦ elim (cases_lt (delivery.last_announced_from from speech) n) [
    | inl past ↦ inr (λ h. let announced = h.1 in omega arith)
    | inr announced ↦ elim (claimed_or_not speech n asked) [
      | inl claimed ↦ inr (λ h. h.2 claimed)
      | inr none ↦ inl (asked, announced, none)
    ]
  ]
  | inr never ↦ inr (λ h. never h.0)
]

-- a verdict, if each answer is founded
founded_verdict : {from : ℕ} (speech : delivery.Speech) (bound : ℕ) → full_run.IsBoundedBy from speech bound → plain_verdict.IsFounded from speech → (verdict : Verdict) × run_verdict.IsVerdictFrom from speech verdict
founded_verdict {from} speech bound bounded founded = conflict (least_search (plain_verdict.SpeaksTwo from speech) (two_or_not speech) bound)
  where
    last : ((n : ℕ) → ¬ plain_verdict.SpeaksTwo from speech n) → ((n : ℕ) × run_verdict.IsLeast (plain_verdict.IsUnclaimed from speech) n) ⊎ ((n : ℕ) → n < suc (delivery.last_announced_from from speech) → plain_verdict.IsUnclaimed from speech n → ⊥) → (verdict : Verdict) × run_verdict.IsVerdictFrom from speech verdict
    last never (inl (n, least)) = (Verdict.Open (pos n), from_plain from speech (Verdict.Open (pos n)) (founded, never, least))
    last never (inr none) = (Verdict.Complete (pos (delivery.last_announced_from from speech)), from_plain from speech (Verdict.Complete (pos (delivery.last_announced_from from speech))) (refl, founded, never, all))
      where
        all : (n : ℕ) → delivery.IsAsked from n → n ≤ delivery.last_announced_from from speech → plain_verdict.IsClaimed from speech n
        all n asked announced = elim (claimed_or_not speech n asked) [
          | inl claimed ↦ claimed
          | inr unclaimed ↦ absurd (none n (omega arith) (asked, announced, unclaimed))
        ]

    conflict : ((n : ℕ) × run_verdict.IsLeast (plain_verdict.SpeaksTwo from speech) n) ⊎ ((n : ℕ) → n < bound → plain_verdict.SpeaksTwo from speech n → ⊥) → (verdict : Verdict) × run_verdict.IsVerdictFrom from speech verdict
    conflict (inl (n, least)) = (Verdict.Conflict (pos n), from_plain from speech (Verdict.Conflict (pos n)) (founded, least))
    conflict (inr none) =
        let never : (n : ℕ) → ¬ plain_verdict.SpeaksTwo from speech n = λ n two. let (x, y, one, also, differ) = two in none n (bounded one.place one.act n (delivery.Word.Told x) one.gives) two in
        last never (least_search (plain_verdict.IsUnclaimed from speech) (unclaimed_or_not speech) (suc (delivery.last_announced_from from speech)))

pub each_has_a_verdict : laws.EachHasAVerdict
each_has_a_verdict from speech bound bounded = first (least_search (λ j. (n : ℕ) × run_verdict.ClaimsUntold from speech j n) (unfounded_or_not speech) (length speech))
  where
    number : (j : ℕ) → run_verdict.IsLeast (λ i. (n : ℕ) × run_verdict.ClaimsUntold from speech i n) j → ((n : ℕ) × run_verdict.IsLeast (run_verdict.ClaimsUntold from speech j) n) ⊎ ((n : ℕ) → run_verdict.ClaimsUntold from speech j n → ⊥) → (verdict : Verdict) × run_verdict.IsVerdictFrom from speech verdict
    number j found (inl (n, least)) = (Verdict.Unfounded (j + 1) (pos n), from_plain from speech (Verdict.Unfounded (j + 1) (pos n)) (j, refl, found, least))
    number j found (inr none) = absurd (none found.holds.0 found.holds.1)

    founded : ((j : ℕ) → j < length speech → ((n : ℕ) × run_verdict.ClaimsUntold from speech j n) → ⊥) → plain_verdict.IsFounded from speech
    founded none j n claims = elim (told_or_not speech j n claims.asked) [
      | inl told ↦ told
      | inr untold ↦ absurd (none j (slice_get_within speech j claims.datagram claims.stands) (n, (claims, untold)))
    ]

    first : ((j : ℕ) × run_verdict.IsLeast (λ i. (n : ℕ) × run_verdict.ClaimsUntold from speech i n) j) ⊎ ((j : ℕ) → j < length speech → ((n : ℕ) × run_verdict.ClaimsUntold from speech j n) → ⊥) → (verdict : Verdict) × run_verdict.IsVerdictFrom from speech verdict
    first (inl (j, found)) = number j found (least_untold speech j)
    first (inr none) = founded_verdict speech bound bounded (founded none)
