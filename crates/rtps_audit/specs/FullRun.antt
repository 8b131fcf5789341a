-- The run that takes all that it can after each send. own: a reader never loses a word, so where any run is
-- allowed this one is, and it decides.
use Rattle.std.specs.Prelude.{ℕ, zero, suc, ◌<◌, ◌≡◌, if◌then◌else◌, List, [], ◌∷◌, ◌++◌, length, Option, Some, None}
use Rattle.rtps_audit.specs.Delivery as delivery
use Rattle.rtps_audit.specs.declared.verdict.Verdict.{Verdict}

-- the take of a word, if there is one
abbrev pub take_of : ℕ → ℕ → ℕ → Option delivery.Word → List delivery.Event
take_of i k n None = []
take_of i k n (Some word) = delivery.Event.Take i k n word ∷ []

-- the word that the act has for a number that is asked for
abbrev pub asked_word : ℕ → (ℕ → Option delivery.Word) → ℕ → Option delivery.Word
asked_word from act n = if delivery.is_asked from n then act n else None

-- a take for each number below the bound that is asked for and that the act has a word for
abbrev pub takes_of_act : ℕ → ℕ → ℕ → (ℕ → Option delivery.Word) → ℕ → List delivery.Event
takes_of_act from i k act zero = []
takes_of_act from i k act (suc n) = takes_of_act from i k act n ++ take_of i k n (asked_word from act n)

-- those of the acts from place k on of the datagram at place i
abbrev pub takes_of_acts : ℕ → ℕ → ℕ → List (ℕ → Option delivery.Word) → ℕ → List delivery.Event
takes_of_acts from i k [] bound = []
takes_of_acts from i k (act ∷ acts) bound = takes_of_act from i k act bound ++ takes_of_acts from i (suc k) acts bound

-- each datagram from place i on is sent, and then all is taken that it tells
abbrev pub full_run_from : ℕ → ℕ → delivery.Speech → ℕ → List delivery.Event
full_run_from from i [] bound = []
full_run_from from i (datagram ∷ speech) bound = (delivery.Event.Send ∷ takes_of_acts from i 0 datagram.acts bound) ++ full_run_from from (suc i) speech bound

-- the run that takes all it can after each send
abbrev pub full_run : ℕ → delivery.Speech → ℕ → List delivery.Event
full_run from speech bound = full_run_from from 0 speech bound

-- each word of the recording for a number that is asked for is for one below the bound
abbrev pub IsBoundedBy : ℕ → delivery.Speech → ℕ → Type 0
IsBoundedBy from speech bound = (i k n : ℕ) (word : delivery.Word) → delivery.Gives from speech i k n word → n < bound

-- it is allowed, and sends every datagram
abbrev pub IsFullRunAllowed : ℕ → delivery.Speech → ℕ → Type 0
IsFullRunAllowed from speech bound = (end : delivery.DeliveryState) × delivery.Follows from speech delivery.start (full_run from speech bound) end × (end.sent ≡ length speech)

-- The run that takes all that it can is a run. It takes each word of the recording, since none is for a number from some
-- bound on.
pub record IsFullRun (from : ℕ) (speech : delivery.Speech) : Type 0 where
  pub bound : ℕ
  pub bounded : IsBoundedBy from speech bound
  pub allowed : IsFullRunAllowed from speech bound

-- it is one by every verdict but that there is no run
abbrev pub HasFullRunFrom : ℕ → delivery.Speech → Verdict → Type 0
HasFullRunFrom from speech (Verdict.Unfounded datagram number) = ¬ IsFullRun from speech
HasFullRunFrom from speech (Verdict.Conflict number) = IsFullRun from speech
HasFullRunFrom from speech (Verdict.Open number) = IsFullRun from speech
HasFullRunFrom from speech (Verdict.Complete last) = IsFullRun from speech
