-- Stretches whose beginnings and ends rise: made of sorted ones, and looked at by a key.
use Rattle.std.proofs.Common.{◌≡◌, ℕ, ◌+◌, ◌-◌, ◌<◌, ◌≤◌, ◌&&◌, ◌||◌, Bool, true, false, nat_le, nat_lt, max, List, [], ◌∷◌, ◌++◌, length, take, get_or, refl, sym, ap, ◌∙◌, arith, inl, inr, subst}
use Rattle.std.specs.List.{Any}
use Rattle.std.specs.List.Sorted.{IsNonDecreasingBy, IsPartitionPoint}
use Rattle.std.proofs.Math.Bool.{or-false}
use Rattle.std.proofs.lemmas.Bool.{cases_lt, and_parts, false_from_ne_true}
use Rattle.std.proofs.lemmas.Bool.Decides.{nat_tests}
use Rattle.std.proofs.lemmas.List.{get_or_default, length-append, take_more, get_or_push}
use Rattle.std.proofs.lemmas.List.Folds.{Any-from_list_any, list_any-append, list_any_at}
use Rattle.std.proofs.lemmas.List.Sorted.{IsNonDecreasingBy-push}
use Rattle.std.specs.Cmp.{both_ways}
use Rattle.rtps_coverage.specs.Rising as rising_spec
use Rattle.rtps_coverage.specs.declared.stretch.Stretch.{Stretch}

-- what the first `i` sorted stretches are made to, where `hi` is the greatest of their ends
pub record IsRisen (sorted : List Stretch) (i hi : ℕ) (risen : List Stretch) : Type 0 where
  pub count : length risen ≡ i
  pub rising : rising_spec.AreRising risen
  pub same : (key n : ℕ) → rising_spec.some_reaches risen key n ≡ rising_spec.some_reaches (take i sorted) key n
  pub none : i ≡ 0 → hi ≡ 0
  pub last_lo : (d : Stretch) → 0 < i → (get_or risen (i - 1) d).lo ≡ (get_or sorted (i - 1) d).lo
  pub last_hi : (d : Stretch) → 0 < i → (get_or risen (i - 1) d).hi ≡ hi

no_stretch : Stretch
no_stretch = record { lo = 0; hi = 0 }

-- up to the end before, all is reached already
one_more : (a : Bool) (lo key n hi end top : ℕ) → top ≡ max end hi → (lo ≤ key → n < hi → a ≡ true) → (a || (nat_le lo key && nat_lt n top)) ≡ (a || (nat_le lo key && nat_lt n end))
one_more true lo key n hi end top is h = refl
one_more false lo key n hi end top is h = elim (cases_lt key lo) [
  | inl before ↦ let late : nat_le lo key ≡ false = grind (arith, nat_tests) in rw late refl
  | inr begun ↦ elim (cases_lt n hi) [
    | inl reached ↦ absurd (let no = h begun reached in cc)
    | inr past ↦ let same : nat_lt n top ≡ nat_lt n end = grind (arith, nat_tests) in ap (λ b. nat_le lo key && b) same
  ]
]

pub risen_more : (sorted : List Stretch) (i hi : ℕ) (risen new : List Stretch) (x : Stretch) (top : ℕ) → IsNonDecreasingBy (λ (s : Stretch). s.lo) sorted → i < length sorted → x ≡ get_or sorted i x
    → new ≡ risen ++ record { lo = x.lo; hi = top } ∷ [] → top ≡ max x.hi hi → IsRisen sorted i hi risen → IsRisen sorted (i + 1) top new
risen_more sorted i hi risen new x top in_order lt at is greatest so_far =
    subst (IsRisen sorted (i + 1) top) (sym is) (record {
      count = length-append risen (added ∷ []) ∙ (let count = so_far.count in omega arith);
      rising = record {
        lo = IsNonDecreasingBy-push (λ (s : Stretch). s.lo) risen added so_far.rising.lo (λ d some. lo_up d some);
        hi = IsNonDecreasingBy-push (λ (s : Stretch). s.hi) risen added so_far.rising.hi (λ d some. hi_up d some);
      };
      same = λ key n.
          list_any-append (rising_spec.reaches key n) risen (added ∷ [])
          ∙ ap (λ b. rising_spec.some_reaches risen key n || b) (or-false (rising_spec.reaches key n added))
          ∙ one_more (rising_spec.some_reaches risen key n) x.lo key n hi x.hi top greatest (covered key n)
          ∙ ap (λ b. b || rising_spec.reaches key n x) (so_far.same key n)
          ∙ sym (ap (λ b. rising_spec.some_reaches (take i sorted) key n || b) (or-false (rising_spec.reaches key n x)))
          ∙ sym (list_any-append (rising_spec.reaches key n) (take i sorted) (x ∷ []))
          ∙ ap (λ y. rising_spec.some_reaches (take i sorted ++ y ∷ []) key n) at
          ∙ sym (ap (λ l. rising_spec.some_reaches l key n) (take_more sorted i x lt));
      none = λ zero. absurd (omega arith);
      last_lo = λ d some. (let e : i + 1 - 1 ≡ i = omega arith in ap (λ k. (get_or (risen ++ added ∷ []) k d).lo) e) ∙ ap (λ (s : Stretch). s.lo) (here d) ∙ lo_at d;
      last_hi = λ d some. (let e : i + 1 - 1 ≡ i = omega arith in ap (λ k. (get_or (risen ++ added ∷ []) k d).hi) e) ∙ ap (λ (s : Stretch). s.hi) (here d);
    })
  where
    added : Stretch
    added = record { lo = x.lo; hi = top }

    here : (d : Stretch) → get_or (risen ++ added ∷ []) i d ≡ added
    here d = get_or_push risen added d i so_far.count

    lo_at : (d : Stretch) → x.lo ≡ (get_or sorted (i + 1 - 1) d).lo
    lo_at d =
        let e : i + 1 - 1 ≡ i = omega arith in
        ap (λ (s : Stretch). s.lo) at ∙ ap (λ (s : Stretch). s.lo) (get_or_default sorted i x d lt) ∙ sym (ap (λ k. (get_or sorted k d).lo) e)

    before_lo : (d : Stretch) → 0 < i → (get_or sorted (i - 1) d).lo ≤ x.lo
    before_lo d some =
        let le = in_order (i - 1) i d (omega arith) lt in
        let e = ap (λ (s : Stretch). s.lo) at in
        let f = ap (λ (s : Stretch). s.lo) (get_or_default sorted i x d lt) in
        omega arith

    lo_up : (d : Stretch) → 0 < length risen → (get_or risen (length risen - 1) d).lo ≤ x.lo
    lo_up d some =
        let count = so_far.count in
        let e = ap (λ k. (get_or risen (k - 1) d).lo) count in
        let last = so_far.last_lo d (omega arith) in
        let le = before_lo d (omega arith) in
        omega arith

    hi_up : (d : Stretch) → 0 < length risen → (get_or risen (length risen - 1) d).hi ≤ top
    hi_up d some =
        let count = so_far.count in
        let e = ap (λ k. (get_or risen (k - 1) d).hi) count in
        let last = so_far.last_hi d (omega arith) in
        omega arith

    covered : (key n : ℕ) → x.lo ≤ key → n < hi → rising_spec.some_reaches risen key n ≡ true
    covered key n begun reached = elim (cases_lt 0 i) [
      | inl some ↦
          let count = so_far.count in
          let lo = so_far.last_lo no_stretch some in
          let end = so_far.last_hi no_stretch some in
          let le = before_lo no_stretch some in
          let begins : (get_or risen (i - 1) no_stretch).lo ≤ key = omega arith in
          let ends : n < (get_or risen (i - 1) no_stretch).hi = omega arith in
          list_any_at (rising_spec.reaches key n) risen (i - 1) no_stretch (omega arith) (grind (arith, nat_tests, begins, ends))
      | inr none ↦ let zero : hi ≡ 0 = so_far.none (omega arith) in absurd (omega arith)
    ]

-- ---- by a key

-- a stretch that begins up to the key stands before the place
stands_before : (stretches : List Stretch) (key place n : ℕ) → IsPartitionPoint (λ (s : Stretch). nat_le s.lo key ≡ true) (λ (s : Stretch). nat_le s.lo key ≡ false) stretches place → rising_spec.some_reaches stretches key n ≡ true
    → (k : ℕ) × (k < place) × (k < length stretches) × (n < (get_or stretches k no_stretch).hi)
stands_before stretches key place n point some = at (Any-from_list_any (rising_spec.reaches key n) stretches some)
  where
    at : Any (λ x. rising_spec.reaches key n x ≡ true) stretches → (k : ℕ) × (k < place) × (k < length stretches) × (n < (get_or stretches k no_stretch).hi)
    at (k, x, lt, e, passes) =
        let tests = and_parts (nat_le x.lo key) (nat_lt n x.hi) passes in
        let same : get_or stretches k no_stretch ≡ x = get_or_default stretches k no_stretch x lt ∙ e in
        let lo = ap (λ (s : Stretch). nat_le s.lo key) same in
        let hi = ap (λ (s : Stretch). s.hi) same in
        let end : n < x.hi = (let is = tests.1 in grind (arith, nat_tests, is)) in
        elim (cases_lt k place) [
          | inl before ↦ (k, before, lt, omega arith)
          | inr behind ↦ absurd (let no : nat_le (get_or stretches k no_stretch).lo key ≡ false = point.1 k no_stretch behind lt in let is = tests.0 in let clash : true ≡ false = sym is ∙ sym lo ∙ no in cc)
        ]

pub none_reaches : (stretches : List Stretch) (key place : ℕ) → IsPartitionPoint (λ (s : Stretch). nat_le s.lo key ≡ true) (λ (s : Stretch). nat_le s.lo key ≡ false) stretches place → place ≡ 0
    → (n : ℕ) → nat_lt n 0 ≡ rising_spec.some_reaches stretches key n
none_reaches stretches key place point zero n =
    let not_before : nat_lt n 0 ≡ false = grind (arith, nat_tests) in
    not_before ∙ sym (false_from_ne_true (rising_spec.some_reaches stretches key n) (λ some. let at = stands_before stretches key place n point some in let lt = at.1 in omega arith))

pub last_reaches : (stretches : List Stretch) (key place : ℕ) (d : Stretch) → rising_spec.AreRising stretches → IsPartitionPoint (λ (s : Stretch). nat_le s.lo key ≡ true) (λ (s : Stretch). nat_le s.lo key ≡ false) stretches place
    → 0 < place → place ≤ length stretches → (n : ℕ) → nat_lt n (get_or stretches (place - 1) d).hi ≡ rising_spec.some_reaches stretches key n
last_reaches stretches key place d rising point some within n =
    both_ways (nat_lt n (get_or stretches (place - 1) d).hi) (rising_spec.some_reaches stretches key n)
    (λ is.
    let begins : nat_le (get_or stretches (place - 1) d).lo key ≡ true = point.0 (place - 1) d (omega arith) (omega arith) in
    list_any_at (rising_spec.reaches key n) stretches (place - 1) d (omega arith) (ap (λ b. b && nat_lt n (get_or stretches (place - 1) d).hi) begins ∙ is))
    (λ is.
    let at = stands_before stretches key place n point is in
    let before = at.1 in
    let end = at.3 in
    let e = ap (λ (s : Stretch). s.hi) (get_or_default stretches at.0 no_stretch d at.2) in
    let up = rising.hi at.0 (place - 1) d (omega arith) (omega arith) in
    let reached : n < (get_or stretches (place - 1) d).hi = omega arith in
    grind (arith, nat_tests, reached))
