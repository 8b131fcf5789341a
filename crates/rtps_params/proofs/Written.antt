-- What is written: how long it is, and the faults of a front of the parameters.
use Rattle.std.proofs.Common.{◌≡◌, ℕ, ◌+◌, ◌<◌, ◌≤◌, Bool, true, false, List, [], ◌∷◌, ◌++◌, map, length, take, drop, get_or, Option, Some, None, refl, sym, ap, ◌∙◌, append_assoc, arith}
use Rattle.std.specs.Borrow.{Bor}
use Rattle.std.specs.List.{flat_map}
use Rattle.std.specs.Option.{option_or}
use Rattle.std.proofs.lemmas.Bool.Decides.{nat_tests}
use Rattle.std.proofs.lemmas.Grind.{flat_map-append}
use Rattle.std.specs.Prelude.{nat_lt}
use Rattle.std.proofs.lemmas.List.{append-nil, length-append, map-append, take-append-drop, take_more}
use Rattle.std.proofs.lemmas.List.Folds.{flat_map-map, length-flat_map-take}
use Rattle.rtps_ids.specs.declared.order.Order.{Order}
use Rattle.rtps_ids.specs.Octets as octets
use Rattle.rtps_ids.proofs.Offered.{length-octets_of}
use Rattle.rtps_params.specs.Grammar as grammar
use Rattle.rtps_params.specs.Item as item
use Rattle.rtps_params.specs.Writing as writing
use Rattle.rtps_params.specs.declared.list_fault.ListFault.{ListFault}

-- ---- how long it is

pub length-two_numbers : (order : Order) (one other : ℕ) → length (octets.octets_of order 2 one ++ octets.octets_of order 2 other) ≡ 4
length-two_numbers order one other =
    omega (arith, length-append (octets.octets_of order 2 one) (octets.octets_of order 2 other), length-octets_of order 2 one, length-octets_of order 2 other)

pub length-parameter_octets : (order : Order) (pid : ℕ) (value : List ℕ) → length (writing.parameter_octets order (pid, value)) ≡ 4 + length value
length-parameter_octets order pid value =
    omega (arith, length-append (octets.octets_of order 2 pid ++ octets.octets_of order 2 (length value)) value, length-two_numbers order pid (length value))

pub length-written_list : (order : Order) (parameters : grammar.Pairs) → length (writing.written_list order parameters) ≡ length (flat_map (writing.parameter_octets order) parameters) + 4
length-written_list order parameters =
    omega (arith, length-append (flat_map (writing.parameter_octets order) parameters) (writing.sentinel_octets order), length-two_numbers order 1 0)

-- for tactics
pub ruleset lengths = (length-parameter_octets)

-- ---- the parameters up to a place

list_fault-append : (xs ys : grammar.Pairs) → writing.list_fault (xs ++ ys) ≡ option_or (writing.list_fault xs) (writing.list_fault ys)
list_fault-append [] ys = refl
list_fault-append (x ∷ xs) ys = ap (option_or (writing.parameter_fault x)) (list_fault-append xs ys) ∙ option_or-assoc (writing.parameter_fault x) (writing.list_fault xs) (writing.list_fault ys)
  where
    option_or-assoc : (a b c : Option ListFault) → option_or a (option_or b c) ≡ option_or (option_or a b) c
    option_or-assoc None b c = refl
    option_or-assoc (Some x) b c = refl

pub first_none : (a b : Option ListFault) → option_or a b ≡ None → a ≡ None
first_none None b e = refl
first_none (Some x) b e = e

pub rest_none : (a b : Option ListFault) → option_or a b ≡ None → b ≡ None
rest_none None b e = e
rest_none (Some x) b e = absurd cc

pub fits : (parameter : ℕ × List ℕ) → writing.parameter_fault parameter ≡ None → length parameter.1 ≤ 65532
fits parameter none = by (nat_lt 65532 (length parameter.1)) refl
  where
    by : (t : Bool) → nat_lt 65532 (length parameter.1) ≡ t → length parameter.1 ≤ 65532
    by true e = let some : writing.parameter_fault parameter ≡ Some ListFault.ValueTooLong = rw e refl in absurd cc
    by false e = grind (arith, nat_tests)

abbrev pub each_octets : Order → List (ℕ × Bor (List ℕ)) → List ℕ
each_octets order params = flat_map (writing.parameter_octets order) (map item.pair_of params)

module _ (params : List (ℕ × Bor (List ℕ))) (i : ℕ) (d : ℕ × Bor (List ℕ)) (within : i < length params) where
  pairs_more : map item.pair_of (take (i + 1) params) ≡ map item.pair_of (take i params) ++ item.pair_of (get_or params i d) ∷ []
  pairs_more = ap (map item.pair_of) (take_more params i d within) ∙ map-append item.pair_of (take i params) (get_or params i d ∷ [])

  pub octets_more : (order : Order) → each_octets order (take (i + 1) params) ≡ each_octets order (take i params) ++ writing.parameter_octets order (item.pair_of (get_or params i d))
  octets_more order =
      ap (flat_map (writing.parameter_octets order)) pairs_more
      ∙ flat_map-append (writing.parameter_octets order) (map item.pair_of (take i params)) (item.pair_of (get_or params i d) ∷ [])
      ∙ ap (λ (l : List ℕ). each_octets order (take i params) ++ l) (append-nil (writing.parameter_octets order (item.pair_of (get_or params i d))))

  -- what is written of them, with the one there, is no longer than all
  pub octets_within : (order : Order) → length (each_octets order (take i params)) + length (writing.parameter_octets order (item.pair_of (get_or params i d))) ≤ length (each_octets order params)
  octets_within order =
      let f = λ (p : ℕ × Bor (List ℕ)). writing.parameter_octets order (item.pair_of p) in
      rw (flat_map-map (writing.parameter_octets order) item.pair_of (take i params), flat_map-map (writing.parameter_octets order) item.pair_of params) (length-flat_map-take f params i d within)

  whole : map item.pair_of (take i params) ++ (item.pair_of (get_or params i d) ∷ map item.pair_of (drop (i + 1) params)) ≡ map item.pair_of params
  whole =
      sym (append_assoc (map item.pair_of (take i params)) (item.pair_of (get_or params i d) ∷ []) (map item.pair_of (drop (i + 1) params)))
      ∙ ap (λ (l : grammar.Pairs). l ++ map item.pair_of (drop (i + 1) params)) (sym pairs_more)
      ∙ sym (map-append item.pair_of (take (i + 1) params) (drop (i + 1) params))
      ∙ ap (map item.pair_of) (take-append-drop (i + 1) params)

  -- the parameters before it have no fault
  module _ (before : writing.list_fault (map item.pair_of (take i params)) ≡ None) where
    list_fault-from : writing.list_fault (map item.pair_of params) ≡ option_or (writing.parameter_fault (item.pair_of (get_or params i d))) (writing.list_fault (map item.pair_of (drop (i + 1) params)))
    list_fault-from = ap writing.list_fault (sym whole) ∙ list_fault-append (map item.pair_of (take i params)) _ ∙ ap (λ (o : Option ListFault). option_or o (writing.list_fault (item.pair_of (get_or params i d) ∷ map item.pair_of (drop (i + 1) params)))) before

    pub fault_here : (fault : ListFault) → writing.parameter_fault (item.pair_of (get_or params i d)) ≡ Some fault → writing.list_fault (map item.pair_of params) ≡ Some fault
    fault_here fault e = list_fault-from ∙ ap (λ (o : Option ListFault). option_or o (writing.list_fault (map item.pair_of (drop (i + 1) params)))) e

    pub none_more : writing.parameter_fault (item.pair_of (get_or params i d)) ≡ None → writing.list_fault (map item.pair_of (take (i + 1) params)) ≡ None
    none_more e =
        ap writing.list_fault pairs_more
        ∙ list_fault-append (map item.pair_of (take i params)) (item.pair_of (get_or params i d) ∷ [])
        ∙ ap (λ (o : Option ListFault). option_or o (writing.list_fault (item.pair_of (get_or params i d) ∷ []))) before
        ∙ ap (λ (o : Option ListFault). option_or o None) e

  -- where none has a fault, the value of each has a length that two octets spell
  pub value_fits : writing.list_fault (map item.pair_of params) ≡ None → length (get_or params i d).1.now ≤ 65532
  value_fits none =
      fits (item.pair_of (get_or params i d))
      (first_none (writing.parameter_fault (item.pair_of (get_or params i d))) _ (rest_none (writing.list_fault (map item.pair_of (take i params))) _ (sym (list_fault-append (map item.pair_of (take i params)) _) ∙ ap writing.list_fault whole ∙ none)))
