-- The greatest of times and their greatest step back, one after another.
use Rattle.std.proofs.lemmas.Bool.Decides.{nat_tests}
use Rattle.std.proofs.Common.{◌≡◌, ◌∙◌, ℕ, ◌+◌, ◌<◌, ◌||◌, List, [], ◌∷◌, ◌++◌, get_or, length, map, max, take, Option, Some, None, refl, sym, ap, arith}
use Rattle.std.specs.Prelude.{is_some}
use Rattle.std.proofs.lemmas.List.{map-append, take_more}
use Rattle.rtps_audit.specs.Delivery as delivery
use Rattle.rtps_audit.proofs.Offered.{greatest-append}
use Rattle.rtps_evidence.specs.Times as times_spec

-- ---- the end

later_last : (one other third : Option ℕ) → times_spec.later_of one (times_spec.later_of other third) ≡ times_spec.later_of (times_spec.later_of one other) third
later_last one other third = grind (arith, nat_tests)

later_none : (one : Option ℕ) → times_spec.later_of one None ≡ one
later_none one = grind (arith, nat_tests)

end_push : (times : List (Option ℕ)) (time : Option ℕ) → times_spec.end_of (times ++ time ∷ []) ≡ times_spec.later_of (times_spec.end_of times) time
end_push [] time = later_none time
end_push (one ∷ times) time = ap (times_spec.later_of one) (end_push times time) ∙ later_last one (times_spec.end_of times) time

pub end_more : (times : List (Option ℕ)) (i : ℕ) → i < length times → times_spec.end_of (take (i + 1) times) ≡ times_spec.later_of (times_spec.end_of (take i times)) (get_or times i None)
end_more times i lt = ap times_spec.end_of (take_more times i None lt) ∙ end_push (take i times) (get_or times i None)

-- some time is there where the list has an end
pub there_is_end : (times : List (Option ℕ)) → is_some (times_spec.end_of times) ≡ times_spec.are_there times
there_is_end [] = refl
there_is_end (time ∷ times) = either time (times_spec.end_of times) ∙ ap (λ b. is_some time || b) (there_is_end times)
  where
    either : (one other : Option ℕ) → is_some (times_spec.later_of one other) ≡ (is_some one || is_some other)
    either None other = refl
    either (Some a) None = refl
    either (Some a) (Some b) = refl

-- ---- times that go back

-- the step from the later of two times is the greater of the steps from them
back_later : (one other time : Option ℕ) → times_spec.back_from (times_spec.later_of one other) time ≡ max (times_spec.back_from one time) (times_spec.back_from other time)
back_later one other time = grind (arith, nat_tests)

step_push : (times : List (Option ℕ)) (time : Option ℕ) → times_spec.step_back (times ++ time ∷ []) ≡ max (times_spec.step_back times) (times_spec.back_from (times_spec.end_of times) time)
step_push [] time = omega arith
step_push (one ∷ times) time =
    ap (λ n. max n (times_spec.step_back (times ++ time ∷ []))) first
    ∙ ap (max (max (delivery.greatest (map (times_spec.back_from one) times)) (times_spec.back_from one time))) (step_push times time)
    ∙ parts (delivery.greatest (map (times_spec.back_from one) times)) (times_spec.back_from one time) (times_spec.step_back times) (times_spec.back_from (times_spec.end_of times) time)
    ∙ ap (max (max (delivery.greatest (map (times_spec.back_from one) times)) (times_spec.step_back times))) (sym (back_later one (times_spec.end_of times) time))
  where
    first : delivery.greatest (map (times_spec.back_from one) (times ++ time ∷ [])) ≡ max (delivery.greatest (map (times_spec.back_from one) times)) (times_spec.back_from one time)
    first = ap delivery.greatest (map-append (times_spec.back_from one) times (time ∷ []))
        ∙ greatest-append (map (times_spec.back_from one) times) (times_spec.back_from one time ∷ [])
        ∙ only (delivery.greatest (map (times_spec.back_from one) times)) (times_spec.back_from one time)
      where
        only : (a b : ℕ) → max a (max b 0) ≡ max a b
        only a b = omega arith

    parts : (a b c d : ℕ) → max (max a b) (max c d) ≡ max (max a c) (max b d)
    parts a b c d = omega arith

pub step_more : (times : List (Option ℕ)) (i : ℕ) → i < length times → times_spec.step_back (take (i + 1) times) ≡ max (times_spec.step_back (take i times)) (times_spec.back_from (times_spec.end_of (take i times)) (get_or times i None))
step_more times i lt = ap times_spec.step_back (take_more times i None lt) ∙ step_push (take i times) (get_or times i None)
