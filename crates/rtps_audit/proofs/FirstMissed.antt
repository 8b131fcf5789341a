-- What is held stays held, and what the verdicts open and conflict say of their number.
use Rattle.std.proofs.Common.{◌≡◌, ℕ, ◌<◌, ◌≤◌, List, [], ◌∷◌, ◌++◌, sym, ◌∙◌, subst, arith, ◌⊎◌, inl, inr}
use Rattle.std.specs.Prelude.{Contains}
use Rattle.std.proofs.lemmas.List.Elements.{Contains-append_left}
use Rattle.rtps_audit.specs.Delivery as delivery
use Rattle.rtps_audit.specs.RunVerdict as run_verdict
use Rattle.rtps_audit.specs.PlainVerdict as plain_verdict
use Rattle.rtps_audit.specs.Laws as laws
use Rattle.rtps_audit.specs.declared.verdict.Verdict.{Verdict}
use Rattle.rtps_audit.proofs.DeliveryRuns.{frugal_run}
use Rattle.rtps_audit.proofs.EachVerdict.{claimed_or_not}
use Rattle.rtps_audit.proofs.Sound.{held_from_claim}
use Rattle.rtps_audit.proofs.Verdicts.{on_natural, to_plain}

step_keeps : (from : ℕ) (speech : delivery.Speech) (old : delivery.DeliveryState) (event : delivery.Event) (new : delivery.DeliveryState) → delivery.Step from speech old event new
    → (n : ℕ) (word : delivery.Word) → Contains old.held (n, word) → Contains new.held (n, word)
step_keeps from speech old delivery.Event.Send new (may, e) n word held = subst (λ (s : delivery.DeliveryState). Contains s.held (n, word)) (sym e) held
step_keeps from speech old (delivery.Event.Take i k m other) new (lt, gives, e) n word held =
    subst (λ (s : delivery.DeliveryState). Contains s.held (n, word)) (sym e) (Contains-append_left old.held _ _ held)

pub held_stays_held : laws.HeldStaysHeld
held_stays_held from speech old [] new e n word held = subst (λ (s : delivery.DeliveryState). Contains s.held (n, word)) (sym e) held
held_stays_held from speech old (event ∷ events) new (mid, step, follows) n word held =
    held_stays_held from speech mid events new follows n word (step_keeps from speech old event mid step n word held)

-- ---- the states of a run

one_step : (from : ℕ) (speech : delivery.Speech) (old : delivery.DeliveryState) (event : delivery.Event) (new other : delivery.DeliveryState) → delivery.Step from speech old event new → delivery.Step from speech old event other → new ≡ other
one_step from speech old delivery.Event.Send new other (may, e) (also, f) = e ∙ sym f
one_step from speech old (delivery.Event.Take i k n word) new other (lt, gives, e) (also, again, f) = e ∙ sym f

-- behind its first events a run goes on from the state that they lead to
goes_on : (from : ℕ) (speech : delivery.Speech) (old : delivery.DeliveryState) (before behind : List delivery.Event) (state end : delivery.DeliveryState)
    → delivery.Follows from speech old before state → delivery.Follows from speech old (before ++ behind) end → delivery.Follows from speech state behind end
goes_on from speech old [] behind state end e follows = subst (λ s. delivery.Follows from speech s behind end) (sym e) follows
goes_on from speech old (event ∷ before) behind state end (mid, step, more) (other, also, follows) =
    goes_on from speech mid before behind state end more (subst (λ s. delivery.Follows from speech s (before ++ behind) end) (one_step from speech old event other mid also step) follows)

-- a run that ends without a word for n never had one
never_held : (from : ℕ) (speech : delivery.Speech) (n : ℕ) (events : List delivery.Event) (end : delivery.DeliveryState) → delivery.Follows from speech delivery.start events end → ¬ delivery.Holds end n
    → (before behind : List delivery.Event) (state : delivery.DeliveryState) → events ≡ before ++ behind → delivery.Follows from speech delivery.start before state → ¬ delivery.Holds state n
never_held from speech n events end follows none before behind state split first (word, held) =
    let rest = goes_on from speech delivery.start before behind state end first (subst (λ es. delivery.Follows from speech delivery.start es end) split follows) in
    none (word, held_stays_held from speech state behind end rest n word held)

-- ---- the verdicts

-- what no answer claims, some run never has
some_run_without : {from : ℕ} (speech : delivery.Speech) (n : ℕ) → plain_verdict.IsFounded from speech → ¬ plain_verdict.IsClaimed from speech n → (events : List delivery.Event) × laws.IsRunWithout from speech n events
some_run_without {from} speech n founded none = at (frugal_run speech founded)
  where
    at : ((end : delivery.DeliveryState) × delivery.Ends from speech end × ((m : ℕ) → delivery.Holds end m → plain_verdict.IsClaimed from speech m)) → (events : List delivery.Event) × laws.IsRunWithout from speech n events
    at (end, ((events, follows), all), frugal) =
        (events, record { end = end; follows = follows; ends = all; never = never_held from speech n events end follows (λ held. none (frugal n held)) })

first_missed : {from : ℕ} (speech : delivery.Speech) → plain_verdict.IsFounded from speech → (n : ℕ) → run_verdict.IsLeast (plain_verdict.IsUnclaimed from speech) n → laws.IsFirstMissed from speech n
first_missed {from} speech founded n least =
    let (asked, announced, none) = least.holds in
    record {
      asked = asked;
      announced = announced;
      missed = some_run_without speech n founded none;
      smaller = λ end ends m at below. smaller announced end ends m at below (claimed_or_not speech m at);
    }
  where
    smaller : n ≤ delivery.last_announced_from from speech → (end : delivery.DeliveryState) → delivery.Ends from speech end → (m : ℕ) → delivery.IsAsked from m → m < n
        → plain_verdict.IsClaimed from speech m ⊎ (plain_verdict.IsClaimed from speech m → ⊥) → delivery.Holds end m
    smaller announced end ends m at below (inl (j, claims)) = held_from_claim speech end j m ends claims
    smaller announced end ends m at below (inr unclaimed) = absurd (let past = least.least m (at, omega arith, unclaimed) in omega arith)

pub open_is_first_missed : laws.OpenIsFirstMissed
open_is_first_missed from speech number verdict =
    let (founded, none, least) = to_plain from speech (Verdict.Open number) verdict in
    on_natural number (run_verdict.IsLeast (plain_verdict.IsUnclaimed from speech)) (laws.IsFirstMissed from speech) (first_missed speech founded) least

first_conflict : {from : ℕ} (speech : delivery.Speech) (n : ℕ) → run_verdict.IsLeast (run_verdict.EndsInConflict from speech) n → laws.IsFirstConflict from speech n
first_conflict speech n least =
    record { conflict = least.holds; smaller = λ m below two. let past = least.least m two in omega arith }

pub conflict_is_first : laws.ConflictIsFirst
conflict_is_first from speech number verdict =
    on_natural number (run_verdict.IsLeast (run_verdict.EndsInConflict from speech)) (laws.IsFirstConflict from speech) (first_conflict speech) verdict.1
