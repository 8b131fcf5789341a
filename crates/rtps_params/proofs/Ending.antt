-- Where a list ends, step by step, and that the function and the grammar agree on it.
use Rattle.std.proofs.Common.{◌≡◌, ◌≢◌, ℕ, zero, suc, ◌+◌, ◌-◌, ◌<◌, ◌≤◌, List, [], ◌∷◌, ◌++◌, length, take, drop, Result, Ok, Err, refl, sym, ap, ◌∙◌, append_assoc, add_assoc, zero-add, arith, inl, inr}
use Rattle.std.proofs.lemmas.Bool.{cases_lt}
use Rattle.std.proofs.lemmas.List.{length-append, length-drop, take_at, drop_at}
use Rattle.std.proofs.lemmas.Bool.Decides.{nat_tests}
use Rattle.rtps_ids.specs.Octets as octets
use Rattle.rtps_ids.specs.declared.order.Order.{Order}
use Rattle.rtps_params.specs.Grammar as grammar
use Rattle.rtps_params.specs.Reading as reading
use Rattle.rtps_params.specs.declared.fault.ParamFault.{ParamFault}

abbrev End : Type 0
End = Result ℕ ParamFault

-- octets that are too short for a header have no room for more
end_by_front-short : (order : Order) (octets : List ℕ) (behind : End) → length octets < 4 → reading.end_by_front order octets behind ≡ Err ParamFault.CutHeader
end_by_front-short order octets behind short = grind (arith, nat_tests)

-- enough steps are enough
list_end_in-enough : (n m : ℕ) (order : Order) (octets : List ℕ) → length octets ≤ n → length octets ≤ m → reading.list_end_in n order octets ≡ reading.list_end_in m order octets
unfolding reading.list_end_in
list_end_in-enough zero zero order octets a b = refl
list_end_in-enough zero (suc m) order octets a b = sym (end_by_front-short order octets _ (omega arith))
list_end_in-enough (suc n) zero order octets a b = end_by_front-short order octets _ (omega arith)
list_end_in-enough (suc n) (suc m) order octets a b =
    elim (cases_lt (length octets) 4) [
      | inl short ↦ end_by_front-short order octets _ short ∙ sym (end_by_front-short order octets _ short)
      | inr long ↦ ap (reading.end_by_front order octets) (list_end_in-enough n m order (drop (reading.size_of order octets) octets) (omega (arith, length-drop (reading.size_of order octets) octets)) (omega (arith, length-drop (reading.size_of order octets) octets)))
    ]

-- the end by the parameter in front
pub list_end-step : (order : Order) (octets : List ℕ) → reading.list_end order octets ≡ reading.end_by_front order octets (reading.list_end order (drop (reading.size_of order octets) octets))
unfolding reading.list_end reading.list_end_in
list_end-step order octets =
    let rest = drop (reading.size_of order octets) octets in
    list_end_in-enough (length octets) (suc (length octets)) order octets (omega arith) (omega arith)
    ∙ ap (reading.end_by_front order octets) (list_end_in-enough (length octets) (length rest) order rest (omega (arith, length-drop (reading.size_of order octets) octets)) (omega arith))

pub list_end-short : (order : Order) (octets : List ℕ) → length octets < 4 → reading.list_end order octets ≡ Err ParamFault.CutHeader
list_end-short order octets short = list_end-step order octets ∙ end_by_front-short order octets _ short

pub list_end-sentinel : (order : Order) (octets : List ℕ) → 4 ≤ length octets → grammar.pid_of order octets ≡ 1 → reading.list_end order octets ≡ Ok 4
list_end-sentinel order octets room closed = list_end-step order octets ∙ grind (arith, nat_tests)

pub list_end-cut : (order : Order) (octets : List ℕ) → 4 ≤ length octets → grammar.pid_of order octets ≢ 1 → length octets < reading.size_of order octets → reading.list_end order octets ≡ Err ParamFault.CutValue
list_end-cut order octets room not_closed short = list_end-step order octets ∙ grind (arith, nat_tests)

pub list_end-parameter : (order : Order) (octets : List ℕ) → grammar.pid_of order octets ≢ 1 → reading.size_of order octets ≤ length octets → reading.list_end order octets ≡ reading.further (reading.size_of order octets) (reading.list_end order (drop (reading.size_of order octets) octets))
list_end-parameter order octets not_closed room = list_end-step order octets ∙ grind (arith, nat_tests)

pub list_end-cut_by : (order : Order) (fault : ParamFault) (octets : List ℕ) → grammar.IsCut order fault octets → reading.list_end order octets ≡ Err fault
list_end-cut_by order ParamFault.CutHeader octets cut = list_end-short order octets cut
list_end-cut_by order ParamFault.CutValue octets cut = list_end-cut order octets cut.0 cut.1 cut.2

-- ---- steps on top of one another

abbrev ends_at : ℕ → End
ends_at used = Ok used

pub further-further : (a b : ℕ) (end : End) → reading.further a (reading.further b end) ≡ reading.further (a + b) end
further-further a b (Ok used) = ap ends_at (sym (add_assoc a b used))
further-further a b (Err fault) = refl

further-zero : (end : End) → reading.further 0 end ≡ end
further-zero (Ok used) = ap ends_at (zero-add used)
further-zero (Err fault) = refl

-- ---- a header says the same whatever follows it

pub pid_of-front : (order : Order) (front rest : List ℕ) → 4 ≤ length front → grammar.pid_of order (front ++ rest) ≡ grammar.pid_of order front
unfolding octets.number_of
pid_of-front order [] rest room = absurd (omega arith)
pid_of-front order (a ∷ []) rest room = absurd (omega arith)
pid_of-front Order.Big (a ∷ b ∷ front) rest room = refl
pid_of-front Order.Little (a ∷ b ∷ front) rest room = refl

pub length_of-front : (order : Order) (front rest : List ℕ) → 4 ≤ length front → grammar.length_of order (front ++ rest) ≡ grammar.length_of order front
unfolding octets.number_of
length_of-front order [] rest room = absurd (omega arith)
length_of-front order (a ∷ []) rest room = absurd (omega arith)
length_of-front order (a ∷ b ∷ []) rest room = absurd (omega arith)
length_of-front order (a ∷ b ∷ c ∷ []) rest room = absurd (omega arith)
length_of-front Order.Big (a ∷ b ∷ c ∷ d ∷ front) rest room = refl
length_of-front Order.Little (a ∷ b ∷ c ∷ d ∷ front) rest room = refl

-- ---- a parameter of the grammar, as it is read

pub record StandsInFront (order : Order) (pid : ℕ) (value octets rest : List ℕ) : Type 0 where
  pub pid_is : grammar.pid_of order octets ≡ pid
  pub length_is : grammar.length_of order octets ≡ length value
  pub room : reading.size_of order octets ≤ length octets
  pub value_is : take (grammar.length_of order octets) (drop 4 octets) ≡ value
  pub rest_is : drop (reading.size_of order octets) octets ≡ rest

pub IsParameter-in_front : (order : Order) (pid : ℕ) (value front rest : List ℕ) → grammar.IsParameter order pid value front → StandsInFront order pid value (front ++ rest) rest
IsParameter-in_front order pid value front rest p =
    let regrouped : front ++ rest ≡ p.header ++ (value ++ rest) = ap (λ (x : List ℕ). x ++ rest) p.whole ∙ append_assoc p.header value rest in
    let long : 4 ≤ length p.header = omega (arith, p.four_octets) in
    let pid-is : grammar.pid_of order (front ++ rest) ≡ pid = ap (grammar.pid_of order) regrouped ∙ pid_of-front order p.header (value ++ rest) long ∙ p.pid_is in
    let length-is : grammar.length_of order (front ++ rest) ≡ length value = ap (grammar.length_of order) regrouped ∙ length_of-front order p.header (value ++ rest) long ∙ p.length_is in
    let front-length : length front ≡ 4 + length value = ap length p.whole ∙ omega (arith, length-append p.header value, p.four_octets) in
    record {
      pid_is = pid-is;
      length_is = length-is;
      room = omega (arith, length-append front rest, length-is, front-length);
      value_is = rw (length-is, regrouped, drop_at p.header (value ++ rest) 4 p.four_octets) (take_at value rest (length value) refl);
      rest_is = rw length-is (drop_at front rest (4 + length value) front-length);
    }

-- ---- the end by the grammar

pub AreParameters-end : (order : Order) (parameters : grammar.Pairs) (front rest : List ℕ) → grammar.AreParameters order parameters front → reading.list_end order (front ++ rest) ≡ reading.further (length front) (reading.list_end order rest)
AreParameters-end order [] front rest are = rw are (sym (further-zero (reading.list_end order rest)))
AreParameters-end order (p ∷ ps) front rest are =
    let first = are.0 in
    let others = are.1 in
    let regrouped : front ++ rest ≡ first ++ (others ++ rest) = ap (λ (x : List ℕ). x ++ rest) are.2 ∙ append_assoc first others rest in
    let s = IsParameter-in_front order p.0 p.1 first (others ++ rest) are.4 in
    let not_closed : grammar.pid_of order (first ++ (others ++ rest)) ≢ 1 = λ e. are.3 (sym s.pid_is ∙ e) in
    let size-is : reading.size_of order (first ++ (others ++ rest)) + length others ≡ length front =
    omega (arith, s.length_is, ap length are.2, length-append first others, ap length are.4.whole, length-append are.4.header p.1, are.4.four_octets) in
    ap (reading.list_end order) regrouped
    ∙ list_end-parameter order (first ++ (others ++ rest)) not_closed s.room
    ∙ ap (λ (x : List ℕ). reading.further (reading.size_of order (first ++ (others ++ rest))) (reading.list_end order x)) s.rest_is
    ∙ ap (reading.further (reading.size_of order (first ++ (others ++ rest)))) (AreParameters-end order ps others rest are.5)
    ∙ further-further (reading.size_of order (first ++ (others ++ rest))) (length others) (reading.list_end order rest)
    ∙ ap (λ (n : ℕ). reading.further n (reading.list_end order rest)) size-is

-- what follows a list does not change it
pub IsList-end : (order : Order) (pairs : grammar.Pairs) (octets more : List ℕ) → grammar.IsList order pairs octets → reading.list_end order (octets ++ more) ≡ Ok (length octets)
IsList-end order pairs octets more list =
    let regrouped : octets ++ more ≡ list.front ++ (list.sentinel ++ more) = ap (λ (x : List ℕ). x ++ more) list.whole ∙ append_assoc list.front list.sentinel more in
    let room : 4 ≤ length (list.sentinel ++ more) = omega (arith, length-append list.sentinel more, list.four_octets) in
    let closed : grammar.pid_of order (list.sentinel ++ more) ≡ 1 = pid_of-front order list.sentinel more (omega (arith, list.four_octets)) ∙ list.closed in
    ap (reading.list_end order) regrouped
    ∙ AreParameters-end order list.parameters list.front (list.sentinel ++ more) list.before
    ∙ ap (reading.further (length list.front)) (list_end-sentinel order (list.sentinel ++ more) room closed)
    ∙ ap ends_at (omega (arith, ap length list.whole, length-append list.front list.sentinel, list.four_octets))

pub HasFault-end : (order : Order) (fault : ParamFault) (octets : List ℕ) → grammar.HasFault order fault octets → reading.list_end order octets ≡ Err fault
HasFault-end order fault octets h =
    ap (reading.list_end order) h.whole
    ∙ AreParameters-end order h.parameters h.front h.rest h.before
    ∙ ap (reading.further (length h.front)) (list_end-cut_by order fault h.rest h.cut)

-- ---- a reader that has come so far

-- the end of the whole is the end of what is left, so much further on
pub record IsEndFrom (order : Order) (whole rest : List ℕ) : Type 0 where
  pub inside : length rest ≤ length whole
  pub so_far : reading.list_end order whole ≡ reading.further (length whole - length rest) (reading.list_end order rest)

pub IsEndFrom-start : (order : Order) (whole : List ℕ) → IsEndFrom order whole whole
IsEndFrom-start order whole =
    record {
      inside = omega arith;
      so_far = sym (ap (λ (n : ℕ). reading.further n (reading.list_end order whole)) (let none : length whole - length whole ≡ 0 = omega arith in none) ∙ further-zero (reading.list_end order whole));
    }

pub IsEndFrom-parameter : (order : Order) (whole rest after : List ℕ) → IsEndFrom order whole rest → grammar.pid_of order rest ≢ 1 → reading.size_of order rest ≤ length rest → after ≡ drop (reading.size_of order rest) rest → IsEndFrom order whole after
IsEndFrom-parameter order whole rest after so_far not_closed room e =
    let after-length : length after + reading.size_of order rest ≡ length rest = omega (arith, ap length e, length-drop (reading.size_of order rest) rest) in
    record {
      inside = omega (arith, so_far.inside);
      so_far =
          so_far.so_far
          ∙ ap (reading.further (length whole - length rest)) (list_end-parameter order rest not_closed room ∙ ap (λ (x : List ℕ). reading.further (reading.size_of order rest) (reading.list_end order x)) (sym e))
          ∙ further-further (length whole - length rest) (reading.size_of order rest) (reading.list_end order after)
          ∙ ap (λ (n : ℕ). reading.further n (reading.list_end order after)) (let n : length whole - length rest + reading.size_of order rest ≡ length whole - length after = omega (arith, so_far.inside) in n);
    }

pub IsEndFrom-cut : (order : Order) (whole rest : List ℕ) (fault : ParamFault) → IsEndFrom order whole rest → grammar.IsCut order fault rest → Err fault ≡ reading.list_end order whole
IsEndFrom-cut order whole rest fault so_far cut =
    sym (so_far.so_far ∙ ap (reading.further (length whole - length rest)) (list_end-cut_by order fault rest cut))

pub IsEndFrom-sentinel : (order : Order) (whole rest : List ℕ) → IsEndFrom order whole rest → 4 ≤ length rest → grammar.pid_of order rest ≡ 1 → Ok (length whole - length rest + 4) ≡ reading.list_end order whole
IsEndFrom-sentinel order whole rest so_far room closed =
    sym (so_far.so_far ∙ ap (reading.further (length whole - length rest)) (list_end-sentinel order rest room closed))
