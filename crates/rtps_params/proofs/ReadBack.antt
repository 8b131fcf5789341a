-- What is written is the list of what was given.
use Rattle.std.proofs.Common.{◌≡◌, ◌≢◌, ℕ, suc, ◌<◌, ◌≤◌, ◌^◌, Bool, true, false, cond, eqb, List, [], ◌∷◌, ◌++◌, length, drop, Ok, Some, None, All, refl, sym, ap, ◌∙◌, arith}
use Rattle.std.specs.List.{flat_map}
use Rattle.std.proofs.lemmas.Bool.Decides.{nat_tests}
use Rattle.std.proofs.lemmas.List.{append-nil, drop_at}
use Rattle.rtps_ids.specs.Octets as octets
use Rattle.rtps_ids.specs.declared.order.Order.{Order}
use Rattle.rtps_ids.proofs.Offered.{length-octets_of, number-octets_of}
use Rattle.rtps_params.specs.Grammar as grammar
use Rattle.rtps_params.specs.Reading as reading
use Rattle.rtps_params.specs.Writing as writing
use Rattle.rtps_params.specs.declared.list_fault.ListFault.{ListFault}
use Rattle.rtps_params.proofs.Agreement.{IsList-pairs}
use Rattle.rtps_params.proofs.Ending.{IsList-end}
use Rattle.rtps_params.proofs.Written.{first_none, fits, length-two_numbers, rest_none}

-- the second of two numbers of two octets
second : (order : Order) (one other : ℕ) → other < 256 ^ 2 → octets.number_of order 2 (drop 2 (octets.octets_of order 2 one ++ octets.octets_of order 2 other)) ≡ other
second order one other small =
    ap (octets.number_of order 2) (drop_at (octets.octets_of order 2 one) (octets.octets_of order 2 other) 2 (length-octets_of order 2 one) ∙ sym (append-nil (octets.octets_of order 2 other)))
    ∙ number-octets_of order 2 other [] small

IsParameter-written : (order : Order) (pid : ℕ) (value : List ℕ) → pid < 2 ^ 16 → length value ≤ 65532 → grammar.IsParameter order pid value (writing.parameter_octets order (pid, value))
IsParameter-written order pid value small short =
    record {
      header = octets.octets_of order 2 pid ++ octets.octets_of order 2 (length value);
      four_octets = length-two_numbers order pid (length value);
      pid_is = number-octets_of order 2 pid (octets.octets_of order 2 (length value)) (omega arith);
      length_is = second order pid (length value) (omega arith);
      whole = refl;
    }

-- no id of a parameter that is written is reserved
no_fault : (long uneven reserved : Bool) → reserved ≡ true
    → cond long (Some ListFault.ValueTooLong) (cond uneven (Some ListFault.ValueUnaligned) (cond reserved (Some ListFault.PidReserved) None)) ≡ None → ⊥
no_fault true uneven reserved e none = absurd cc
no_fault false true reserved e none = absurd cc
no_fault false false true e none = absurd cc
no_fault false false false e none = absurd cc

unreserved : (parameter : ℕ × List ℕ) → writing.parameter_fault parameter ≡ None → (parameter.0 ≢ 0) × (parameter.0 ≢ 1)
unreserved parameter none = (
  (λ e. no_fault _ _ _ (rw e refl) none),
  (λ e. no_fault _ _ _ (rw e refl) none),
)

small_head : (parameter : ℕ × List ℕ) (parameters : grammar.Pairs) → All (λ pair. pair.0 < 2 ^ 16) (parameter ∷ parameters) → parameter.0 < 2 ^ 16
small_head parameter parameters small = small 0 parameter (omega arith)

small_tail : (parameter : ℕ × List ℕ) (parameters : grammar.Pairs) → All (λ pair. pair.0 < 2 ^ 16) (parameter ∷ parameters) → All (λ pair. pair.0 < 2 ^ 16) parameters
small_tail parameter parameters small = λ k d within. small (suc k) d (omega arith)

AreParameters-written : (order : Order) (parameters : grammar.Pairs) → writing.list_fault parameters ≡ None → All (λ pair. pair.0 < 2 ^ 16) parameters → grammar.AreParameters order parameters (flat_map (writing.parameter_octets order) parameters)
AreParameters-written order [] none small = refl
AreParameters-written order (p ∷ ps) none small =
    let here = first_none (writing.parameter_fault p) (writing.list_fault ps) none in (
      writing.parameter_octets order p,
      flat_map (writing.parameter_octets order) ps,
      refl,
      (unreserved p here).1,
      IsParameter-written order p.0 p.1 (small_head p ps small) (fits p here),
      AreParameters-written order ps (rest_none (writing.parameter_fault p) (writing.list_fault ps) none) (small_tail p ps small),
    )

without_pads-written : (parameters : grammar.Pairs) → writing.list_fault parameters ≡ None → parameters ≡ grammar.without_pads parameters
without_pads-written [] none = refl
without_pads-written (p ∷ ps) none =
    let no_pad : p.0 ≢ 0 = (unreserved p (first_none (writing.parameter_fault p) (writing.list_fault ps) none)).0 in
    let test : eqb p.0 0 ≡ false = grind (arith, nat_tests) in
    rw test (ap (λ (qs : grammar.Pairs). p ∷ qs) (without_pads-written ps (rest_none (writing.parameter_fault p) (writing.list_fault ps) none)))

pub IsList-written : (order : Order) (parameters : grammar.Pairs) → writing.list_fault parameters ≡ None → All (λ pair. pair.0 < 2 ^ 16) parameters → grammar.IsList order parameters (writing.written_list order parameters)
IsList-written order parameters none small =
    record {
      parameters = parameters;
      front = flat_map (writing.parameter_octets order) parameters;
      sentinel = writing.sentinel_octets order;
      whole = refl;
      before = AreParameters-written order parameters none small;
      four_octets = length-two_numbers order 1 0;
      closed = number-octets_of order 2 1 (octets.octets_of order 2 0) (omega arith);
      shown = without_pads-written parameters none;
    }

pub pairs_of-written : (order : Order) (parameters : grammar.Pairs) (rest : List ℕ) → writing.list_fault parameters ≡ None → All (λ pair. pair.0 < 2 ^ 16) parameters → reading.pairs_of order (writing.written_list order parameters ++ rest) ≡ parameters
pairs_of-written order parameters rest none small = IsList-pairs order parameters (writing.written_list order parameters) rest (IsList-written order parameters none small)

pub list_end-written : (order : Order) (parameters : grammar.Pairs) (rest : List ℕ) → writing.list_fault parameters ≡ None → All (λ pair. pair.0 < 2 ^ 16) parameters → reading.list_end order (writing.written_list order parameters ++ rest) ≡ Ok (length (writing.written_list order parameters))
list_end-written order parameters rest none small = IsList-end order parameters (writing.written_list order parameters) rest (IsList-written order parameters none small)
