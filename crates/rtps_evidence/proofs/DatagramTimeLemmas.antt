-- Times as numbers that stand for them: one more; and the greatest before each block.
use Rattle.std.proofs.lemmas.Bool.{cases_lt}
use Rattle.std.proofs.lemmas.Bool.Decides.{nat_tests}
use Rattle.std.proofs.Common.{◌≡◌, ◌∙◌, ℕ, ◌+◌, ◌-◌, ◌*◌, ◌<◌, ◌≤◌, List, [], ◌∷◌, ◌++◌, get_or, length, map, take, Option, Some, None, sym, ap, arith, inl, inr}
use Rattle.std.proofs.lemmas.List.{map-append, append_assoc, append-nil, get_or_append_left, get_or-append_right, get_or-map, get_or_push, length-append, length-map}
use Rattle.rtps_evidence.specs.DatagramTimes as datagram_times
use Rattle.rtps_evidence.specs.Times as times_spec

-- ---- numbers and the rest

stands_for : (time : Option ℕ) (number : ℕ) → datagram_times.number_of time ≡ Some number → datagram_times.time_kept number ≡ time
stands_for None number stands = grind (arith, nat_tests)
stands_for (Some time) number stands = grind (arith, nat_tests)

-- one that a number stands for, while there is no rest
pub number_more : (numbers new : List ℕ) (rest : List (Option ℕ)) (number : ℕ) (time : Option ℕ) → new ≡ numbers ++ number ∷ [] → rest ≡ [] → datagram_times.number_of time ≡ Some number
    → datagram_times.times_kept new rest ≡ datagram_times.times_kept numbers rest ++ time ∷ []
number_more numbers new rest number time is none stands =
    alone new
    ∙ ap (map datagram_times.time_kept) is
    ∙ map-append datagram_times.time_kept numbers (number ∷ [])
    ∙ ap (λ t. map datagram_times.time_kept numbers ++ t ∷ []) (stands_for time number stands)
    ∙ sym (ap (λ l. l ++ time ∷ []) (alone numbers))
  where
    alone : (all : List ℕ) → datagram_times.times_kept all rest ≡ map datagram_times.time_kept all
    alone all = ap (λ l. map datagram_times.time_kept all ++ l) none ∙ append-nil (map datagram_times.time_kept all)

-- one more behind these
pub rest_more : (numbers : List ℕ) (rest new : List (Option ℕ)) (time : Option ℕ) → new ≡ rest ++ time ∷ [] → datagram_times.times_kept numbers new ≡ datagram_times.times_kept numbers rest ++ time ∷ []
rest_more numbers rest new time is = ap (λ l. map datagram_times.time_kept numbers ++ l) is ∙ sym (append_assoc (map datagram_times.time_kept numbers) rest (time ∷ []))

pub length_kept : (numbers : List ℕ) (rest : List (Option ℕ)) → length (datagram_times.times_kept numbers rest) ≡ length numbers + length rest
length_kept numbers rest = length-append (map datagram_times.time_kept numbers) rest ∙ ap (λ n. n + length rest) (length-map numbers datagram_times.time_kept)

-- a time by its number, and one of the rest
pub kept_in_numbers : (numbers : List ℕ) (rest : List (Option ℕ)) (place : ℕ) → place < length numbers → get_or (datagram_times.times_kept numbers rest) place None ≡ datagram_times.time_kept (get_or numbers place 0)
kept_in_numbers numbers rest place lt =
    let size = length-map numbers datagram_times.time_kept in
    get_or_append_left (map datagram_times.time_kept numbers) rest None place (omega (arith, lt, size)) ∙ get_or-map datagram_times.time_kept numbers place 0 None lt

pub kept_in_rest : (numbers : List ℕ) (rest : List (Option ℕ)) (place : ℕ) → length numbers ≤ place → get_or (datagram_times.times_kept numbers rest) place None ≡ get_or rest (place - length numbers) None
kept_in_rest numbers rest place le = get_or-append_right (map datagram_times.time_kept numbers) rest (length numbers) place None (length-map numbers datagram_times.time_kept) le

-- ---- the greatest before each block

pub ends_more : (times ends new : List (Option ℕ)) (i : ℕ) (latest : Option ℕ) → new ≡ ends ++ latest ∷ [] → i ≡ 1024 * length ends → latest ≡ times_spec.end_of (take i times)
    → ((k : ℕ) → k < length ends → get_or ends k None ≡ times_spec.end_of (take (1024 * k) times)) → (k : ℕ) → k < length new → get_or new k None ≡ times_spec.end_of (take (1024 * k) times)
ends_more times ends new i latest is at last each k lt =
    let size = ap length is ∙ length-append ends (latest ∷ []) in
    ap (λ l. get_or l k None) is ∙ elim (cases_lt k (length ends)) [
      | inl less ↦ get_or_append_left ends (latest ∷ []) None k less ∙ each k less
      | inr far ↦
          let same : length ends ≡ k = omega (arith, lt, size, far) in
          let place : i ≡ 1024 * k = at ∙ ap (λ n. 1024 * n) same in
          get_or_push ends latest None k same ∙ last ∙ ap (λ n. times_spec.end_of (take n times)) place
    ]
