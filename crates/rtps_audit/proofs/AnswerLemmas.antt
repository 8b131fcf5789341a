-- The claims of one answer more, and what the answers of a pair say of its speech.
use Rattle.std.proofs.Common.{◌≡◌, ℕ, ℤ, pos, negsuc, ◌-◌, ◌<◌, ◌≤◌, ◌^◌, Bool, true, false, ◌&&◌, List, [], ◌∷◌, ◌++◌, max, Option, Some, None, ◌⊎◌, inl, inr, refl, sym, subst, arith}
use Rattle.std.specs.Prelude.{if◌then◌else◌, int_lt, ◌<ℤ◌, ◌≤ℤ◌}
use Rattle.std.specs.List.{All}
use Rattle.std.proofs.lemmas.Bool.Decides.{nat_tests}
use Rattle.std.proofs.lemmas.Int.{ints}
use Rattle.std.proofs.lemmas.List.Elements.{All-push, All-weaker, Contains-append_left, Contains-push}
use Rattle.rtps_ids.specs.declared.identity.Guid.{Guid}
use Rattle.rtps_audit.specs.Answered as answered
use Rattle.rtps_audit.specs.Placed as placed
use Rattle.rtps_receiver.specs.Said as said
use Rattle.rtps_audit.specs.declared.answer.Answer.{Answer}
use Rattle.rtps_audit.specs.declared.verdict.Untold.{Untold}

-- a signed number is not below 0, or nothing natural
sign : (z : ℤ) → (z ≡ pos (said.natural z)) ⊎ ((z <ℤ pos 0) × (said.natural z ≡ 0))
sign (pos n) = inl refl
sign (negsuc n) = inr (omega (arith, ints), refl)

below_base : (front : ℤ) (base : ℕ) → pos 1 ≤ℤ front → int_lt front (pos base) ≡ true → front <ℤ pos base
below_base (pos f) base positive lt = let below : f < base = grind (arith, nat_tests) in omega (arith, ints)
below_base (negsuc f) base positive lt = absurd (omega (arith, ints))

past_base : (front : ℤ) (base : ℕ) → pos 1 ≤ℤ front → int_lt front (pos base) ≡ false → pos base ≤ℤ front
past_base (pos f) base positive lt = let below : base ≤ f = grind (arith, nat_tests) in omega (arith, ints)
past_base (negsuc f) base positive lt = absurd (omega (arith, ints))

-- an answer whose base is not past the front claims only what is told
told_all : {from : ℕ} (writer reader : Guid) (placed : List placed.PlacedValue) (answer : Answer) (front : ℤ) → said.natural answer.base < 2 ^ 63 → int_lt front (pos (said.natural answer.base)) ≡ false → answered.IsFrontBy from writer reader placed (answer.datagram - 1) front → answered.IsToldAll from writer reader placed answer
told_all writer reader placed answer front small past is n asked lt = elim (sign answer.base) [
  | inl same ↦ let above = past_base front (said.natural answer.base) is.positive past in is.below n asked (omega (arith, ints, same)) (omega (arith, ints, same))
  | inr below ↦ absurd (let low = below.0 in omega (arith, ints))
]

first_kept : {from : ℕ} (writer reader : Guid) (placed : List placed.PlacedValue) (answers : List Answer) (answer : Answer) (untold : Untold) → (answer.datagram < untold.datagram → answered.IsToldAll from writer reader placed answer) → answered.IsFirstAmong from writer reader placed answers untold → answered.IsFirstAmong from writer reader placed (answers ++ answer ∷ []) untold
first_kept {from} writer reader placed answers answer untold told known = record {
  answer = known.answer;
  among = Contains-append_left answers (answer ∷ []) known.answer known.among;
  datagram = known.datagram;
  below = known.below;
  small = known.small;
  front = known.front;
  first = All-push (λ (other : Answer). other.datagram < untold.datagram → answered.IsToldAll from writer reader placed other) answers answer known.first told;
}

-- the claims of one answer more
pub untold_on : {from : ℕ} (writer reader : Guid) (placed : List placed.PlacedValue) (answers : List Answer) (answer : Answer) (front : ℤ) (old new : Option Untold) → said.natural answer.base < 2 ^ 63 → answered.IsFrontBy from writer reader placed (answer.datagram - 1) front
    → new ≡ (if answered.is_earlier answer.datagram old && int_lt front (pos (said.natural answer.base)) then Some (record { datagram = answer.datagram; number = front }) else old)
    → answered.IsUntoldAmong from writer reader placed answers old → answered.IsUntoldAmong from writer reader placed (answers ++ answer ∷ []) new
untold_on {from} writer reader placed answers answer front old new small is found known = subst (answered.IsUntoldAmong from writer reader placed (answers ++ answer ∷ [])) (sym found) (by_test old known (answered.is_earlier answer.datagram old) (int_lt front (pos (said.natural answer.base))) refl refl)
  where
    here : Untold
    here = record { datagram = answer.datagram; number = front }

    found_here : int_lt front (pos (said.natural answer.base)) ≡ true → All (λ other. other.datagram < answer.datagram → answered.IsToldAll from writer reader placed other) answers → answered.IsFirstAmong from writer reader placed (answers ++ answer ∷ []) here
    found_here lt first = record {
      answer = answer;
      among = Contains-push answers answer;
      datagram = refl;
      below = elim (sign answer.base) [ inl same ↦ subst (λ z. front <ℤ z) (sym same) (below_base front _ is.positive lt) | inr below ↦ absurd (let low = below_base front _ is.positive lt in let positive = is.positive in let none = below.1 in omega (arith, ints)) ];
      small = let lt = below_base front _ is.positive lt in omega (arith, ints);
      front = is;
      first = All-push (λ (other : Answer). other.datagram < answer.datagram → answered.IsToldAll from writer reader placed other) answers answer first (λ lt. absurd (omega arith));
    }

    by_test : (old : Option Untold) → answered.IsUntoldAmong from writer reader placed answers old → (early below : Bool) → answered.is_earlier answer.datagram old ≡ early → int_lt front (pos (said.natural answer.base)) ≡ below
        → answered.IsUntoldAmong from writer reader placed (answers ++ answer ∷ []) (if early && below then Some here else old)
    by_test None known true true e f = found_here f (All-weaker (answered.IsToldAll from writer reader placed) (λ (other : Answer). other.datagram < answer.datagram → answered.IsToldAll from writer reader placed other) (λ other told lt. told) answers known)
    by_test None known true false e f = All-push (answered.IsToldAll from writer reader placed) answers answer known (told_all writer reader placed answer front small f is)
    by_test None known false below e f = cc
    by_test (Some untold) known true true e f = let early : answer.datagram < untold.datagram = grind (arith, nat_tests) in found_here f (All-weaker (λ (other : Answer). other.datagram < untold.datagram → answered.IsToldAll from writer reader placed other) (λ (other : Answer). other.datagram < answer.datagram → answered.IsToldAll from writer reader placed other) (λ other told lt. told (omega arith)) answers known.first)
    by_test (Some untold) known true false e f = first_kept writer reader placed answers answer untold (λ lt. told_all writer reader placed answer front small f is) known
    by_test (Some untold) known false below e f = first_kept writer reader placed answers answer untold (λ lt. absurd (grind (arith, nat_tests))) known

pub base_on : (answers : List Answer) (answer : Answer) → answered.base_among (answers ++ answer ∷ []) ≡ max (answered.base_among answers) (said.natural answer.base)
base_on [] answer = omega arith
base_on (first ∷ answers) answer = let rest = base_on answers answer in omega arith
