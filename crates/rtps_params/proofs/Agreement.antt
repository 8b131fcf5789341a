-- The pairs of a list, step by step, and that octets begin with a list of these pairs or have one fault.
use Rattle.std.proofs.Common.{◌≡◌, ◌≢◌, ℕ, zero, suc, ◌+◌, ◌<◌, ◌≤◌, ◌⊎◌, ◌↔◌, true, false, cond, not, eqb, List, [], ◌∷◌, ◌++◌, length, take, drop, None, Result, Ok, Err, refl, sym, ap, ◌∙◌, append_assoc, arith, inl, inr}
use Rattle.std.specs.Prelude.{MatchResult}
use Rattle.std.specs.List.{AllByRecursion}
use Rattle.std.proofs.Math.Logic.{∥∥₁_elim}
use Rattle.std.proofs.Math.Seq.{take-add}
use Rattle.std.proofs.Props.{props}
use Rattle.std.proofs.lemmas.Bool.{cases_Bool, cases_eq, cases_lt}
use Rattle.std.proofs.lemmas.Bool.Decides.{nat_tests}
use Rattle.std.proofs.lemmas.List.{append-nil, drop_at, take_at, length-drop, length-take, take_all, take-append-drop}
use Rattle.rtps_ids.specs.declared.order.Order.{Order}
use Rattle.rtps_params.specs.Grammar as grammar
use Rattle.rtps_params.specs.Reading as reading
use Rattle.rtps_params.specs.declared.fault.ParamFault.{ParamFault}
use Rattle.rtps_params.proofs.Ending.{list_end-short, list_end-sentinel, list_end-cut, list_end-parameter, pid_of-front, length_of-front, IsParameter-in_front, IsList-end, HasFault-end}

-- ---- no parameter stands in front

has_parameter-short : (order : Order) (octets : List ℕ) → length octets < 4 → reading.has_parameter order octets ≡ false
has_parameter-short order octets short = grind (arith, nat_tests)

has_parameter-sentinel : (order : Order) (octets : List ℕ) → grammar.pid_of order octets ≡ 1 → reading.has_parameter order octets ≡ false
has_parameter-sentinel order octets closed = grind (arith, nat_tests)

has_parameter-cut : (order : Order) (octets : List ℕ) → length octets < reading.size_of order octets → reading.has_parameter order octets ≡ false
has_parameter-cut order octets short = grind (arith, nat_tests)

has_parameter-whole : (order : Order) (octets : List ℕ) → grammar.pid_of order octets ≢ 1 → reading.size_of order octets ≤ length octets → reading.has_parameter order octets ≡ true
has_parameter-whole order octets not_closed room = grind (arith, nat_tests)

-- ---- steps

parameters_by_front-none : (order : Order) (octets : List ℕ) (behind : grammar.Pairs) → reading.has_parameter order octets ≡ false → reading.parameters_by_front order octets behind ≡ []
parameters_by_front-none order octets behind none = rw none refl

-- enough steps are enough
parameters_in-enough : (n m : ℕ) (order : Order) (octets : List ℕ) → length octets ≤ n → length octets ≤ m → reading.parameters_in n order octets ≡ reading.parameters_in m order octets
unfolding reading.parameters_in
parameters_in-enough zero zero order octets a b = refl
parameters_in-enough zero (suc m) order octets a b = sym (parameters_by_front-none order octets _ (has_parameter-short order octets (omega arith)))
parameters_in-enough (suc n) zero order octets a b = parameters_by_front-none order octets _ (has_parameter-short order octets (omega arith))
parameters_in-enough (suc n) (suc m) order octets a b =
    elim (cases_lt (length octets) 4) [
      | inl short ↦ parameters_by_front-none order octets _ (has_parameter-short order octets short) ∙ sym (parameters_by_front-none order octets _ (has_parameter-short order octets short))
      | inr long ↦ ap (reading.parameters_by_front order octets) (parameters_in-enough n m order (drop (reading.size_of order octets) octets) (omega (arith, length-drop (reading.size_of order octets) octets)) (omega (arith, length-drop (reading.size_of order octets) octets)))
    ]

parameters_of-step : (order : Order) (octets : List ℕ) → reading.parameters_of order octets ≡ reading.parameters_by_front order octets (reading.parameters_of order (drop (reading.size_of order octets) octets))
unfolding reading.parameters_of reading.parameters_in
parameters_of-step order octets =
    let rest = drop (reading.size_of order octets) octets in
    parameters_in-enough (length octets) (suc (length octets)) order octets (omega arith) (omega arith)
    ∙ ap (reading.parameters_by_front order octets) (parameters_in-enough (length octets) (length rest) order rest (omega (arith, length-drop (reading.size_of order octets) octets)) (omega arith))

pub parameters_of-none : (order : Order) (octets : List ℕ) → reading.has_parameter order octets ≡ false → reading.parameters_of order octets ≡ []
parameters_of-none order octets none = parameters_of-step order octets ∙ parameters_by_front-none order octets _ none

pub parameters_of-sentinel : (order : Order) (octets : List ℕ) → grammar.pid_of order octets ≡ 1 → reading.parameters_of order octets ≡ []
parameters_of-sentinel order octets closed = parameters_of-none order octets (has_parameter-sentinel order octets closed)

pub parameters_of-cut : (order : Order) (fault : ParamFault) (octets : List ℕ) → grammar.IsCut order fault octets → reading.parameters_of order octets ≡ []
parameters_of-cut order ParamFault.CutHeader octets cut = parameters_of-none order octets (has_parameter-short order octets cut)
parameters_of-cut order ParamFault.CutValue octets cut = parameters_of-none order octets (has_parameter-cut order octets cut.2)

pub parameters_of-parameter : (order : Order) (octets : List ℕ) → grammar.pid_of order octets ≢ 1 → reading.size_of order octets ≤ length octets
    → reading.parameters_of order octets ≡ (grammar.pid_of order octets, take (grammar.length_of order octets) (drop 4 octets)) ∷ reading.parameters_of order (drop (reading.size_of order octets) octets)
parameters_of-parameter order octets not_closed room =
    let whole = has_parameter-whole order octets not_closed room in
    parameters_of-step order octets ∙ rw whole refl

-- ---- the parameters by the grammar

AreParameters-read : (order : Order) (parameters : grammar.Pairs) (front rest : List ℕ) → grammar.AreParameters order parameters front → reading.parameters_of order (front ++ rest) ≡ parameters ++ reading.parameters_of order rest
AreParameters-read order [] front rest are = rw are refl
AreParameters-read order (p ∷ ps) front rest are =
    let first = are.0 in
    let others = are.1 in
    let octets : List ℕ = first ++ (others ++ rest) in
    let regrouped : front ++ rest ≡ octets = ap (λ (x : List ℕ). x ++ rest) are.2 ∙ append_assoc first others rest in
    let s = IsParameter-in_front order p.0 p.1 first (others ++ rest) are.4 in
    let not_closed : grammar.pid_of order octets ≢ 1 = λ e. are.3 (sym s.pid_is ∙ e) in
    let head : (grammar.pid_of order octets, take (grammar.length_of order octets) (drop 4 octets)) ≡ p = ap (λ (pid : ℕ). (pid, take (grammar.length_of order octets) (drop 4 octets))) s.pid_is ∙ ap (λ (value : List ℕ). (p.0, value)) s.value_is in
    ap (reading.parameters_of order) regrouped
    ∙ parameters_of-parameter order octets not_closed s.room
    ∙ ap (λ (q : ℕ × List ℕ). q ∷ reading.parameters_of order (drop (reading.size_of order octets) octets)) head
    ∙ ap (λ (x : List ℕ). p ∷ reading.parameters_of order x) s.rest_is
    ∙ ap (λ (qs : grammar.Pairs). p ∷ qs) (AreParameters-read order ps others rest are.5)

-- what follows a list does not change its pairs, and it has one list of them
pub IsList-pairs : (order : Order) (pairs : grammar.Pairs) (octets more : List ℕ) → grammar.IsList order pairs octets → reading.pairs_of order (octets ++ more) ≡ pairs
IsList-pairs order pairs octets more list =
    let regrouped : octets ++ more ≡ list.front ++ (list.sentinel ++ more) = ap (λ (x : List ℕ). x ++ more) list.whole ∙ append_assoc list.front list.sentinel more in
    let closed : grammar.pid_of order (list.sentinel ++ more) ≡ 1 = pid_of-front order list.sentinel more (omega (arith, list.four_octets)) ∙ list.closed in
    let all : reading.parameters_of order (octets ++ more) ≡ list.parameters =
    ap (reading.parameters_of order) regrouped
    ∙ AreParameters-read order list.parameters list.front (list.sentinel ++ more) list.before
    ∙ ap (λ (qs : grammar.Pairs). list.parameters ++ qs) (parameters_of-sentinel order (list.sentinel ++ more) closed)
    ∙ append-nil list.parameters in
    ap grammar.without_pads all ∙ sym list.shown

-- ---- octets begin with a list or have a fault

-- what octets are whose list ends so
abbrev pub ReadsAs : Order → List ℕ → Result ℕ ParamFault → Type 0
ReadsAs order octets end =
    MatchResult end (λ used. (used ≤ length octets) × grammar.IsList order (reading.pairs_of order octets) (take used octets)) (λ fault. grammar.HasFault order fault octets)

IsList-sentinel : (order : Order) (octets : List ℕ) → 4 ≤ length octets → grammar.pid_of order octets ≡ 1 → grammar.IsList order (reading.pairs_of order octets) (take 4 octets)
IsList-sentinel order octets room closed =
    let size : length (take 4 octets) ≡ 4 = omega (arith, length-take 4 octets) in
    record {
      parameters = [];
      front = [];
      sentinel = take 4 octets;
      whole = refl;
      before = refl;
      four_octets = size;
      closed = sym (pid_of-front order (take 4 octets) (drop 4 octets) (omega arith)) ∙ ap (grammar.pid_of order) (take-append-drop 4 octets) ∙ closed;
      shown = ap grammar.without_pads (parameters_of-sentinel order octets closed);
    }

HasFault-front : (order : Order) (fault : ParamFault) (octets : List ℕ) → grammar.IsCut order fault octets → grammar.HasFault order fault octets
HasFault-front order fault octets cut =
    record { parameters = []; front = []; rest = octets; whole = refl; before = refl; cut = cut }

-- the parameter in front
abbrev first_of : Order → List ℕ → ℕ × List ℕ
first_of order octets = (grammar.pid_of order octets, take (grammar.length_of order octets) (drop 4 octets))

IsParameter-front : (order : Order) (octets : List ℕ) → reading.size_of order octets ≤ length octets → grammar.IsParameter order (grammar.pid_of order octets) (take (grammar.length_of order octets) (drop 4 octets)) (take (reading.size_of order octets) octets)
IsParameter-front order octets room =
    let header-length : length (take 4 octets) ≡ 4 = omega (arith, length-take 4 octets) in
    let long : 4 ≤ length (take 4 octets) = omega arith in
    let joined : take 4 octets ++ drop 4 octets ≡ octets = take-append-drop 4 octets in
    record {
      header = take 4 octets;
      four_octets = header-length;
      pid_is = sym (pid_of-front order (take 4 octets) (drop 4 octets) long) ∙ ap (grammar.pid_of order) joined;
      length_is = sym (length_of-front order (take 4 octets) (drop 4 octets) long) ∙ ap (grammar.length_of order) joined ∙ omega (arith, length-take (grammar.length_of order octets) (drop 4 octets), length-drop 4 octets);
      whole = take-add 4 (grammar.length_of order octets) octets;
    }

AreParameters-front : (order : Order) (octets : List ℕ) (parameters : grammar.Pairs) (front : List ℕ) → grammar.pid_of order octets ≢ 1 → reading.size_of order octets ≤ length octets → grammar.AreParameters order parameters front
    → grammar.AreParameters order (first_of order octets ∷ parameters) (take (reading.size_of order octets) octets ++ front)
AreParameters-front order octets parameters front not_closed room are =
    (take (reading.size_of order octets) octets, front, refl, not_closed, IsParameter-front order octets room, are)

IsList-front : (order : Order) (octets : List ℕ) (used : ℕ) → grammar.pid_of order octets ≢ 1 → reading.size_of order octets ≤ length octets
    → grammar.IsList order (reading.pairs_of order (drop (reading.size_of order octets) octets)) (take used (drop (reading.size_of order octets) octets))
    → grammar.IsList order (reading.pairs_of order octets) (take (reading.size_of order octets + used) octets)
IsList-front order octets used not_closed room list =
    let first = take (reading.size_of order octets) octets in
    let rest = drop (reading.size_of order octets) octets in
    record {
      parameters = first_of order octets ∷ list.parameters;
      front = first ++ list.front;
      sentinel = list.sentinel;
      whole = take-add (reading.size_of order octets) used octets ∙ ap (λ (x : List ℕ). first ++ x) list.whole ∙ sym (append_assoc first list.front list.sentinel);
      before = AreParameters-front order octets list.parameters list.front not_closed room list.before;
      four_octets = list.four_octets;
      closed = list.closed;
      shown =
          ap grammar.without_pads (parameters_of-parameter order octets not_closed room)
          ∙ ap (λ (qs : grammar.Pairs). cond (not (eqb (grammar.pid_of order octets) 0)) (first_of order octets ∷ qs) qs) list.shown;
    }

HasFault-behind : (order : Order) (fault : ParamFault) (octets : List ℕ) → grammar.pid_of order octets ≢ 1 → reading.size_of order octets ≤ length octets
    → grammar.HasFault order fault (drop (reading.size_of order octets) octets) → grammar.HasFault order fault octets
HasFault-behind order fault octets not_closed room h =
    let first = take (reading.size_of order octets) octets in
    record {
      parameters = first_of order octets ∷ h.parameters;
      front = first ++ h.front;
      rest = h.rest;
      whole = sym (take-append-drop (reading.size_of order octets) octets) ∙ ap (λ (x : List ℕ). first ++ x) h.whole ∙ sym (append_assoc first h.front h.rest);
      before = AreParameters-front order octets h.parameters h.front not_closed room h.before;
      cut = h.cut;
    }

ReadsAs-front : (order : Order) (octets : List ℕ) (end : Result ℕ ParamFault) → grammar.pid_of order octets ≢ 1 → reading.size_of order octets ≤ length octets
    → ReadsAs order (drop (reading.size_of order octets) octets) end → ReadsAs order octets (reading.further (reading.size_of order octets) end)
ReadsAs-front order octets (Ok used) not_closed room read =
    (omega (arith, length-drop (reading.size_of order octets) octets, read.0), IsList-front order octets used not_closed room read.1)
ReadsAs-front order octets (Err fault) not_closed room read = HasFault-behind order fault octets not_closed room read

ReadsAs-in : (steps : ℕ) (order : Order) (octets : List ℕ) → length octets ≤ steps → ReadsAs order octets (reading.list_end order octets)
ReadsAs-in zero order octets enough = rw (list_end-short order octets (omega arith)) (HasFault-front order ParamFault.CutHeader octets (omega arith))
ReadsAs-in (suc steps) order octets enough =
    elim (cases_lt (length octets) 4) [
      | inl short ↦ rw (list_end-short order octets short) (HasFault-front order ParamFault.CutHeader octets short)
      | inr room ↦
          elim (cases_eq (grammar.pid_of order octets) 1) [
            | inl closed ↦ rw (list_end-sentinel order octets room closed) (room, IsList-sentinel order octets room closed)
            | inr not_closed ↦
                elim (cases_lt (length octets) (reading.size_of order octets)) [
                  | inl short ↦ rw (list_end-cut order octets room not_closed short) (HasFault-front order ParamFault.CutValue octets (room, not_closed, short))
                  | inr whole ↦ rw (list_end-parameter order octets not_closed whole)
                      (ReadsAs-front order octets (reading.list_end order (drop (reading.size_of order octets) octets)) not_closed whole
                      (ReadsAs-in steps order (drop (reading.size_of order octets) octets) (omega (arith, length-drop (reading.size_of order octets) octets))))
                ]
          ]
    ]

pub ReadsAs-end : (order : Order) (octets : List ℕ) → ReadsAs order octets (reading.list_end order octets)
ReadsAs-end order octets = ReadsAs-in (length octets) order octets (omega arith)

pub IsList-from_end : (order : Order) (octets : List ℕ) (used : ℕ) → Ok used ≡ reading.list_end order octets → (used ≤ length octets) × grammar.IsList order (reading.pairs_of order octets) (take used octets)
IsList-from_end order octets used end = rw (← end) at (ReadsAs-end order octets)

pub HasFault-from_end : (order : Order) (octets : List ℕ) (fault : ParamFault) → Err fault ≡ reading.list_end order octets → grammar.HasFault order fault octets
HasFault-from_end order octets fault end = rw (← end) at (ReadsAs-end order octets)

pub no_list-from_end : (order : Order) (octets : List ℕ) (fault : ParamFault) → Err fault ≡ reading.list_end order octets → (pairs : grammar.Pairs) (used : ℕ) → grammar.IsList order pairs (take used octets) → ⊥
no_list-from_end order octets fault end pairs used list =
    let whole : reading.list_end order octets ≡ Ok (length (take used octets)) = ap (reading.list_end order) (sym (take-append-drop used octets)) ∙ IsList-end order pairs (take used octets) (drop used octets) list in
    cc

-- ---- what a list that was read says of its octets

End-prop : (a b : Result ℕ ParamFault) → IsProp (a ≡ b)
End-prop a b = hlevel props

-- octets that are a list end with it
pub list_end-whole : (order : Order) (octets : List ℕ) → ∥ ((pairs : grammar.Pairs) × grammar.IsList order pairs octets) ∥₁ → Ok (length octets) ≡ reading.list_end order octets
list_end-whole order octets some_list =
    ∥∥₁_elim some_list (End-prop _ _) (λ (l : (pairs : grammar.Pairs) × grammar.IsList order pairs octets). sym (ap (reading.list_end order) (sym (append-nil octets)) ∙ IsList-end order l.0 octets [] l.1))

pub IsList-whole : (order : Order) (octets : List ℕ) → ∥ ((pairs : grammar.Pairs) × grammar.IsList order pairs octets) ∥₁ → grammar.IsList order (reading.pairs_of order octets) octets
IsList-whole order octets some_list =
    let list = IsList-from_end order octets (length octets) (list_end-whole order octets some_list) in
    rw (take_all (length octets) octets (omega arith)) at list.1

-- ---- the pairs behind a parameter

pub pairs_of-pad : (order : Order) (octets : List ℕ) → grammar.pid_of order octets ≡ 0 → reading.size_of order octets ≤ length octets → reading.pairs_of order octets ≡ reading.pairs_of order (drop (reading.size_of order octets) octets)
pairs_of-pad order octets pad room =
    let not_closed : grammar.pid_of order octets ≢ 1 = omega arith in
    ap grammar.without_pads (parameters_of-parameter order octets not_closed room) ∙ rw pad refl

pub pairs_of-parameter : (order : Order) (octets : List ℕ) → grammar.pid_of order octets ≢ 0 → grammar.pid_of order octets ≢ 1 → reading.size_of order octets ≤ length octets
    → reading.pairs_of order octets ≡ (grammar.pid_of order octets, take (grammar.length_of order octets) (drop 4 octets)) ∷ reading.pairs_of order (drop (reading.size_of order octets) octets)
pairs_of-parameter order octets no_pad not_closed room =
    let test : eqb (grammar.pid_of order octets) 0 ≡ false = grind (arith, nat_tests) in
    ap grammar.without_pads (parameters_of-parameter order octets not_closed room) ∙ rw test refl

-- ---- ids that no pair has

has_parameter-open : (order : Order) (octets : List ℕ) → reading.has_parameter order octets ≡ true → grammar.pid_of order octets ≢ 1
has_parameter-open order octets has closed = let none = has_parameter-sentinel order octets closed in absurd cc

parameters_in-open : (steps : ℕ) (order : Order) (octets : List ℕ) → AllByRecursion (λ parameter. parameter.0 ≢ 1) (reading.parameters_in steps order octets)
unfolding reading.parameters_in
parameters_in-open zero order octets = tt
parameters_in-open (suc steps) order octets =
    elim (cases_Bool (reading.has_parameter order octets)) [
      | inl has ↦ rw has (has_parameter-open order octets has, parameters_in-open steps order (drop (reading.size_of order octets) octets))
      | inr none ↦ rw none tt
    ]

first_value-without_pads : (pid : ℕ) (parameters : grammar.Pairs) → pid < 2 → AllByRecursion (λ parameter. parameter.0 ≢ 1) parameters → reading.first_value pid (grammar.without_pads parameters) ≡ None
first_value-without_pads pid [] reserved none = refl
first_value-without_pads pid (p ∷ ps) reserved none =
    elim (cases_eq p.0 0) [
      | inl pad ↦ rw pad (first_value-without_pads pid ps reserved none.1)
      | inr no_pad ↦
          let test : eqb p.0 0 ≡ false = grind (arith, nat_tests) in
          let other : p.0 ≢ 1 = none.0 in
          let differs : eqb p.0 pid ≡ false = grind (arith, nat_tests) in
          rw (test, differs) (first_value-without_pads pid ps reserved none.1)
    ]

-- no pair has the id of a pad or of the sentinel
pub no_reserved_value : (pid : ℕ) (order : Order) (octets : List ℕ) → pid < 2 → reading.first_value pid (reading.pairs_of order octets) ≡ None
unfolding reading.parameters_of
no_reserved_value pid order octets reserved = first_value-without_pads pid (reading.parameters_of order octets) reserved (parameters_in-open (length octets) order octets)

-- ---- the laws

pub one_beginning : (order : Order) (pairs others : grammar.Pairs) (list other rest more : List ℕ) → grammar.IsList order pairs list → grammar.IsList order others other → list ++ rest ≡ other ++ more
    → (list ≡ other) × (pairs ≡ others) × (rest ≡ more)
one_beginning order pairs others list other rest more is_list is_other joined =
    let ends : Ok (length list) ≡ Ok (length other) = sym (IsList-end order pairs list rest is_list) ∙ ap (reading.list_end order) joined ∙ IsList-end order others other more is_other in
    let size : length list ≡ length other = cc in (
      sym (take_at list rest (length list) refl) ∙ ap (take (length list)) joined ∙ take_at other more (length list) (sym size),
      sym (IsList-pairs order pairs list rest is_list) ∙ ap (reading.pairs_of order) joined ∙ IsList-pairs order others other more is_other,
      sym (drop_at list rest (length list) refl) ∙ ap (drop (length list)) joined ∙ drop_at other more (length list) (sym size),
    )

list_or_fault-from : (order : Order) (octets : List ℕ) (end : Result ℕ ParamFault) → ReadsAs order octets end → grammar.BeginsWithList order octets ⊎ ((fault : ParamFault) × grammar.HasFault order fault octets)
list_or_fault-from order octets (Ok used) read =
    inl (record { pairs = reading.pairs_of order octets; list = take used octets; rest = drop used octets; whole = sym (take-append-drop used octets); is_list = read.1 })
list_or_fault-from order octets (Err fault) read = inr (fault, read)

pub list_or_fault : (order : Order) (octets : List ℕ) → grammar.BeginsWithList order octets ⊎ ((fault : ParamFault) × grammar.HasFault order fault octets)
list_or_fault order octets = list_or_fault-from order octets (reading.list_end order octets) (ReadsAs-end order octets)

BeginsWithList-end : (order : Order) (octets : List ℕ) (b : grammar.BeginsWithList order octets) → reading.list_end order octets ≡ Ok (length b.list)
BeginsWithList-end order octets b = ap (reading.list_end order) b.whole ∙ IsList-end order b.pairs b.list b.rest b.is_list

pub not_both : (order : Order) (octets : List ℕ) (fault : ParamFault) → grammar.BeginsWithList order octets → grammar.HasFault order fault octets → ⊥
not_both order octets fault begins has =
    let ok = BeginsWithList-end order octets begins in
    let err = HasFault-end order fault octets has in
    cc

pub one_fault : (order : Order) (octets : List ℕ) (fault other : ParamFault) → grammar.HasFault order fault octets → grammar.HasFault order other octets → fault ≡ other
one_fault order octets fault other has has_other =
    let err = HasFault-end order fault octets has in
    let err_other = HasFault-end order other octets has_other in
    cc

-- a beginning of these octets, so long, is a list
abbrev pub IsListUpTo : Order → List ℕ → ℕ → Type 0
IsListUpTo order octets used = (used ≤ length octets) × ((pairs : grammar.Pairs) × grammar.IsList order pairs (take used octets))

pub end_is_list : (order : Order) (octets : List ℕ) (used : ℕ) → (reading.list_end order octets ≡ Ok used) ↔ IsListUpTo order octets used
end_is_list order octets used = (
  (λ e. let list = IsList-from_end order octets used (sym e) in (list.0, (reading.pairs_of order octets, list.1))),
  (λ l. ap (reading.list_end order) (sym (take-append-drop used octets)) ∙ IsList-end order l.1.0 (take used octets) (drop used octets) l.1.1 ∙ ap (λ (n : ℕ). Ok n) (let size : length (take used octets) ≡ used = omega (arith, length-take used octets, l.0) in size)),
)

pub end_is_fault : (order : Order) (octets : List ℕ) (fault : ParamFault) → (reading.list_end order octets ≡ Err fault) ↔ grammar.HasFault order fault octets
end_is_fault order octets fault = ((λ e. HasFault-from_end order octets fault (sym e)), HasFault-end order fault octets)
