-- The run that takes all that it can after each send.
use Rattle.std.proofs.Common.{◌≡◌, ℕ, zero, suc, ◌+◌, ◌<◌, Bool, true, false, ◌&&◌, nat_le, List, [], ◌∷◌, ◌++◌, length, Option, Some, None, slice_get, refl, sym, ◌∙◌, ap, subst, arith, inl, inr}
use Rattle.std.specs.Prelude.{if◌then◌else◌}
use Rattle.std.proofs.lemmas.List.Elements.{Contains-append_left, Contains-push}
use Rattle.std.proofs.lemmas.Option.{slice_get_within}
use Rattle.std.proofs.lemmas.Bool.{cases_lt}
use Rattle.std.proofs.lemmas.Bool.Decides.{nat_tests}
use Rattle.rtps_audit.specs.Delivery as delivery
use Rattle.rtps_audit.specs.RunVerdict as run_verdict
use Rattle.rtps_audit.specs.PlainVerdict as plain_verdict
use Rattle.rtps_audit.specs.FullRun as full_run
use Rattle.rtps_audit.specs.Laws as laws
use Rattle.rtps_audit.proofs.DeliveryRuns.{Follows-append, took}
use Rattle.rtps_audit.proofs.Sound.{founded_from_run}

-- what the reader held it still holds, and nothing more was sent
record Keeps (old new : delivery.DeliveryState) : Type 0 where
  sent : new.sent ≡ old.sent
  held : (n : ℕ) → delivery.Holds old n → delivery.Holds new n

keeps_refl : (s : delivery.DeliveryState) → Keeps s s
keeps_refl s = record { sent = refl; held = λ n h. h }

keeps_trans : (a b c : delivery.DeliveryState) → Keeps a b → Keeps b c → Keeps a c
keeps_trans a b c h k = record { sent = k.sent ∙ h.sent; held = λ n x. k.held n (h.held n x) }

-- these events lead from a state to one that keeps what was held, and has P
abbrev LeadsTo : ℕ → delivery.Speech → delivery.DeliveryState → List delivery.Event → (delivery.DeliveryState → Type 0) → Type 0
LeadsTo from speech s events P = (t : delivery.DeliveryState) × delivery.Follows from speech s events t × Keeps s t × P t

-- the word of one act for one number
one_take : {from : ℕ} (speech : delivery.Speech) (s : delivery.DeliveryState) (i k n : ℕ) (found : Option delivery.Word) → i < s.sent → ((word : delivery.Word) → found ≡ Some word → delivery.Gives from speech i k n word)
    → LeadsTo from speech s (full_run.take_of i k n found) (λ t. (word : delivery.Word) → found ≡ Some word → delivery.Holds t n)
one_take speech s i k n None lt gives = (s, refl, keeps_refl s, λ word e. cc)
one_take speech s i k n (Some word) lt gives = (
  took s n word,
  (took s n word, (lt, gives word refl, refl), refl),
  record { sent = refl; held = λ m h. (h.0, Contains-append_left s.held _ _ h.1) },
  λ other e. (word, Contains-push s.held (n, word)),
)

-- the word for a number that is asked for is the act's
pub says_asked : (from : ℕ) (act : ℕ → Option delivery.Word) (n : ℕ) (word : delivery.Word) → full_run.asked_word from act n ≡ Some word → delivery.IsAsked from n × (act n ≡ Some word)
says_asked from act n word e = by_test (nat_le 1 n && nat_le from n) refl e
  where
    by_test : (b : Bool) → (nat_le 1 n && nat_le from n) ≡ b → (if b then act n else None) ≡ Some word → delivery.IsAsked from n × (act n ≡ Some word)
    by_test true test says = ((grind (arith, nat_tests), grind (arith, nat_tests)), says)
    by_test false test says = cc

asked_says : (from : ℕ) (act : ℕ → Option delivery.Word) (n : ℕ) (word : delivery.Word) → delivery.IsAsked from n → act n ≡ Some word → full_run.asked_word from act n ≡ Some word
asked_says from act n word (one, le) e =
    let test : (nat_le 1 n && nat_le from n) ≡ true = grind (arith, nat_tests) in
    rw test e

-- what the act has for the numbers below the bound that are asked for
abbrev HasAll : ℕ → (ℕ → Option delivery.Word) → ℕ → delivery.DeliveryState → Type 0
HasAll from act bound t = (n : ℕ) (word : delivery.Word) → delivery.IsAsked from n → n < bound → act n ≡ Some word → delivery.Holds t n

act_takes : {from : ℕ} (speech : delivery.Speech) (s : delivery.DeliveryState) (i k : ℕ) (act : ℕ → Option delivery.Word) (bound : ℕ) → i < s.sent → ((n : ℕ) (word : delivery.Word) → delivery.IsAsked from n → act n ≡ Some word → delivery.Gives from speech i k n word)
    → LeadsTo from speech s (full_run.takes_of_act from i k act bound) (HasAll from act bound)
act_takes speech s i k act zero lt gives = (s, refl, keeps_refl s, λ n word a b e. absurd (omega arith))
act_takes {from} speech s i k act (suc m) lt gives =
    let (t, follows, keeps, had) = act_takes speech s i k act m lt gives in
    let last = one_take speech t i k m (full_run.asked_word from act m) (rw keeps.sent lt) (λ word e. let says = says_asked from act m word e in gives m word says.0 says.1) in
    join t follows keeps had last.0 last.1 last.2 last.3
  where
    join : (t : delivery.DeliveryState) → delivery.Follows from speech s (full_run.takes_of_act from i k act m) t → Keeps s t → HasAll from act m t
        → (u : delivery.DeliveryState) → delivery.Follows from speech t (full_run.take_of i k m (full_run.asked_word from act m)) u → Keeps t u → ((word : delivery.Word) → full_run.asked_word from act m ≡ Some word → delivery.Holds u m)
        → LeadsTo from speech s (full_run.takes_of_act from i k act m ++ full_run.take_of i k m (full_run.asked_word from act m)) (HasAll from act (suc m))
    join t follows keeps had u more kept last = (
      u,
      Follows-append from speech s t u _ _ follows more,
      keeps_trans s t u keeps kept,
      λ n word a b e. elim (cases_lt n m) [
        | inl below ↦ kept.held n (had n word a below e)
        | inr here ↦ let same : n ≡ m = omega arith in rw same (last word (asked_says from act m word (subst (delivery.IsAsked from) same a) (rw (← same) e)))
      ],
    )

-- what these acts have
abbrev HasAllOf : ℕ → List (ℕ → Option delivery.Word) → ℕ → delivery.DeliveryState → Type 0
HasAllOf from acts bound t = (m : ℕ) (act : ℕ → Option delivery.Word) → slice_get acts m ≡ Some act → HasAll from act bound t

acts_takes : {from : ℕ} (speech : delivery.Speech) (s : delivery.DeliveryState) (i k : ℕ) (acts : List (ℕ → Option delivery.Word)) (bound : ℕ) → i < s.sent
    → ((m n : ℕ) (act : ℕ → Option delivery.Word) (word : delivery.Word) → slice_get acts m ≡ Some act → delivery.IsAsked from n → act n ≡ Some word → delivery.Gives from speech i (k + m) n word)
    → LeadsTo from speech s (full_run.takes_of_acts from i k acts bound) (HasAllOf from acts bound)
acts_takes speech s i k [] bound lt gives = (s, refl, keeps_refl s, λ m act e. cc)
acts_takes {from} speech s i k (act ∷ acts) bound lt gives =
    let first = act_takes speech s i k act bound lt (λ n word a e. subst (λ p. delivery.Gives from speech i p n word) (omega arith) (gives 0 n act word refl a e)) in
    let rest = acts_takes speech first.0 i (suc k) acts bound (rw first.2.sent lt) (λ m n other word stands a e. subst (λ p. delivery.Gives from speech i p n word) (omega arith) (gives (suc m) n other word stands a e)) in
    join first.0 first.1 first.2 first.3 rest.0 rest.1 rest.2 rest.3
  where
    all : (t u : delivery.DeliveryState) → HasAll from act bound t → Keeps t u → HasAllOf from acts bound u → HasAllOf from (act ∷ acts) bound u
    all t u one kept rest zero other stands n word a b e =
        let same : act ≡ other = cc in
        kept.held n (one n word a b (ap (λ (f : ℕ → Option delivery.Word). f n) same ∙ e))
    all t u one kept rest (suc m) other stands n word a b e = rest m other stands n word a b e

    join : (t : delivery.DeliveryState) → delivery.Follows from speech s (full_run.takes_of_act from i k act bound) t → Keeps s t → HasAll from act bound t
        → (u : delivery.DeliveryState) → delivery.Follows from speech t (full_run.takes_of_acts from i (suc k) acts bound) u → Keeps t u → HasAllOf from acts bound u
        → LeadsTo from speech s (full_run.takes_of_act from i k act bound ++ full_run.takes_of_acts from i (suc k) acts bound) (HasAllOf from (act ∷ acts) bound)
    join t follows keeps one u more kept rest = (
      u,
      Follows-append from speech s t u _ _ follows more,
      keeps_trans s t u keeps kept,
      all t u one kept rest,
    )

-- all that is told before a place is held
abbrev HoldsAllBefore : ℕ → delivery.Speech → ℕ → delivery.DeliveryState → Type 0
HoldsAllBefore from speech i state = (n : ℕ) → run_verdict.IsTold from speech i n → delivery.Holds state n

-- the state after the next datagram is sent
abbrev sent_next : delivery.DeliveryState → delivery.DeliveryState
sent_next s = record { sent = suc s.sent; held = s.held }

-- a word of the datagram at place i is one of its acts'
told_here : {from : ℕ} (speech : delivery.Speech) (i bound : ℕ) (d : delivery.Datagram) (t : delivery.DeliveryState) → slice_get speech i ≡ Some d → full_run.IsBoundedBy from speech bound → HasAllOf from d.acts bound t
    → (k n : ℕ) (word : delivery.Word) → delivery.Gives from speech i k n word → delivery.Holds t n
told_here speech i bound d t stands bounded had k n word gives =
    let same : gives.datagram ≡ d = (let both : Some gives.datagram ≡ Some d = sym gives.stands ∙ stands in cc) in
    had k gives.act (ap (λ (x : delivery.Datagram). slice_get x.acts k) (sym same) ∙ gives.speaks) n word gives.asked (bounded i k n word gives) gives.says

-- what is told before the next place is held, where what was told before this one was
told_next : {from : ℕ} (speech : delivery.Speech) (s t : delivery.DeliveryState) (i bound : ℕ) (d : delivery.Datagram) → slice_get speech i ≡ Some d → full_run.IsBoundedBy from speech bound → HoldsAllBefore from speech i s → Keeps (sent_next s) t → HasAllOf from d.acts bound t
    → HoldsAllBefore from speech (suc i) t
told_next {from} speech s t i bound d stands bounded all keeps had n told = elim (cases_lt told.place i) [
  | inl before ↦ keeps.held n (all n (record { place = told.place; act = told.act; word = told.word; earlier = before; gives = told.gives }))
  | inr here ↦
      let lt = told.earlier in
      let same : told.place ≡ i = omega arith in
      told_here speech i bound d t stands bounded had told.act n told.word (subst (λ j. delivery.Gives from speech j told.act n told.word) same told.gives)
]

-- the datagram at place i is sent, and all is taken that it tells
one_datagram : {from : ℕ} (speech : delivery.Speech) (s : delivery.DeliveryState) (i : ℕ) (d : delivery.Datagram) (bound : ℕ) → plain_verdict.IsFounded from speech → full_run.IsBoundedBy from speech bound → s.sent ≡ i → slice_get speech i ≡ Some d → HoldsAllBefore from speech i s
    → (t : delivery.DeliveryState) × delivery.Follows from speech s (delivery.Event.Send ∷ full_run.takes_of_acts from i 0 d.acts bound) t × (t.sent ≡ suc i) × HoldsAllBefore from speech (suc i) t
one_datagram {from} speech s i d bound founded bounded is_at stands all =
    let within = slice_get_within speech i d stands in
    let may : delivery.MaySend from speech s = (rw is_at within, λ n claims. all n (founded i n (subst (λ j. delivery.Claims from speech j n) is_at claims))) in
    let taken = acts_takes speech (sent_next s) i 0 d.acts bound (omega arith) (λ m n act word speaks a e. subst (λ p. delivery.Gives from speech i p n word) (omega arith) (record { datagram = d; act = act; stands = stands; speaks = speaks; asked = a; says = e })) in (
      taken.0,
      (sent_next s, (may, refl), taken.1),
      taken.2.sent ∙ ap suc is_at,
      told_next speech s taken.0 i bound d stands bounded all taken.2 taken.3,
    )

-- from place i on, every datagram is sent
from_place : {from : ℕ} (speech : delivery.Speech) (bound : ℕ) → plain_verdict.IsFounded from speech → full_run.IsBoundedBy from speech bound → (rest : List delivery.Datagram) (i : ℕ) (s : delivery.DeliveryState)
    → ((m : ℕ) → slice_get speech (i + m) ≡ slice_get rest m) → s.sent ≡ i → HoldsAllBefore from speech i s
    → (end : delivery.DeliveryState) × delivery.Follows from speech s (full_run.full_run_from from i rest bound) end × (end.sent ≡ i + length rest)
from_place speech bound founded bounded [] i s same is_at all = (s, refl, is_at ∙ omega arith)
from_place {from} speech bound founded bounded (d ∷ rest) i s same is_at all =
    let here : slice_get speech i ≡ Some d = ap (slice_get speech) (omega arith) ∙ same 0 in
    let next = one_datagram speech s i d bound founded bounded is_at here all in
    let more = from_place speech bound founded bounded rest (suc i) next.0 (λ m. ap (slice_get speech) (omega arith) ∙ same (suc m)) next.2 next.3 in (
      more.0,
      Follows-append from speech s next.0 more.0 (delivery.Event.Send ∷ full_run.takes_of_acts from i 0 d.acts bound) (full_run.full_run_from from (suc i) rest bound) next.1 more.1,
      more.2 ∙ omega arith,
    )

none_before : {from : ℕ} (speech : delivery.Speech) → HoldsAllBefore from speech 0 delivery.start
none_before speech n told = absurd (let lt = told.earlier in omega arith)

pub full_run_decides : laws.FullRunDecides
full_run_decides from speech bound bounded = (
  λ run.
      let all = from_place speech bound (founded_from_run speech run.0 run.1) bounded speech 0 delivery.start (λ m. ap (slice_get speech) (omega arith)) refl (none_before speech) in
      (all.0, all.1, all.2 ∙ omega arith),
  λ allowed. (allowed.0, ((full_run.full_run from speech bound, allowed.1), allowed.2)),
)
