-- One source time more of a number, and the numbers that have two.
use Rattle.std.proofs.Common.{◌≡◌, ◌∙◌, ◌∷◌, ◌++◌, [], Bool, true, false, if◌then◌else◌, List, Option, Some, None, ap, append-nil, cond, find, map, not, refl, subst, sym}
use Rattle.std.specs.BTreeMap.{is_at}
use Rattle.std.specs.List.{AllByRecursion, cons_option}
use Rattle.std.specs.List.Sorted.{IsStrictlySortedBy}
use Rattle.std.specs.Map.{keys_of, lookup}
use Rattle.std.specs.Option.{option_map, option_or}
use Rattle.std.specs.Ordering.{is_eq}
use Rattle.std.specs.declared.cmp.Ordering.TheVariants.{Less}
use Rattle.std.proofs.lemmas.List.Elements.{filter_map-append}
use Rattle.std.proofs.lemmas.List.Folds.{find-append}
use Rattle.std.proofs.lemmas.Map.Views.{tells_apart}
use Rattle.rtps_ids.specs.declared.identity.Stamp.{Stamp}
use Rattle.rtps_receiver.specs.Values as values
use Rattle.rtps_known.specs.Lives as lives_spec
use Rattle.rtps_known.specs.declared.life.Birth.{Birth}
use Rattle.rtps_known.specs.declared.life.Life.{Life}
use Rattle.rtps_known.specs.declared.life.Sent.{Sent}
use Rattle.rtps_known.proofs.OrderLemmas.{exact_births}

-- ---- one source time more

abbrev sent_of : Stamp → Option Stamp → Sent
sent_of first other = record { first = first; other = other }

other_more : (first stamp : Stamp) (found : Option Stamp)
    → Some (sent_of first (option_or found (if not (lives_spec.is_stamp first stamp) then Some stamp else None))) ≡ Some (lives_spec.sent_with (Some (sent_of first found)) stamp)
other_more first stamp (Some other) = refl
other_more first stamp None = by (lives_spec.is_stamp first stamp)
  where
    by : (same : Bool) → Some (sent_of first (if not same then Some stamp else None)) ≡ Some (if same then sent_of first None else sent_of first (Some stamp))
    by true = refl
    by false = refl

one_found : (first stamp : Stamp) → find (λ other. not (lives_spec.is_stamp first other)) (stamp ∷ []) ≡ (if not (lives_spec.is_stamp first stamp) then Some stamp else None)
one_found first stamp = refl

-- the source times of a number, after one more
sent_push : (stamps : List Stamp) (stamp : Stamp) → lives_spec.sent_by (stamps ++ stamp ∷ []) ≡ Some (lives_spec.sent_with (lives_spec.sent_by stamps) stamp)
sent_push [] stamp = refl
sent_push (first ∷ stamps) stamp =
    ap (λ o. Some (sent_of first o))
    (find-append (λ other. not (lives_spec.is_stamp first other)) stamps (stamp ∷ []) ∙ ap (option_or (find (λ other. not (lives_spec.is_stamp first other)) stamps)) (one_found first stamp))
    ∙ other_more first stamp (find (λ other. not (lives_spec.is_stamp first other)) stamps)

stamps_more : (birth : Birth) (acts : List values.ActValue) (act : values.ActValue) → lives_spec.stamps_of birth (acts ++ act ∷ []) ≡ lives_spec.stamps_of birth acts ++ cons_option (lives_spec.stamp_of birth act) []
stamps_more birth acts act = filter_map-append (lives_spec.stamp_of birth) acts (act ∷ [])

pub no_birth : (acts : List values.ActValue) (act : values.ActValue) (kept : List (Birth × Sent)) → None ≡ lives_spec.birth_in act → lives_spec.AreBirthsOf acts kept → lives_spec.AreBirthsOf (acts ++ act ∷ []) kept
no_birth acts act kept none were birth =
    were birth ∙ ap lives_spec.sent_by (sym (append-nil (lives_spec.stamps_of birth acts)) ∙ ap (λ o. lives_spec.stamps_of birth acts ++ cons_option (lives_spec.stamp_by birth o) []) none ∙ sym (stamps_more birth acts act))

pub birth_more : (acts : List values.ActValue) (act : values.ActValue) (old new : List (Birth × Sent)) (birth : Birth) (stamp : Stamp) (had : Option Sent) (sent : Sent) → Some (birth, stamp) ≡ lives_spec.birth_in act
    → had ≡ lookup (is_at (lives_spec.birth_cmp birth)) old → sent ≡ lives_spec.sent_with had stamp
    → ((other : Birth) → lookup (is_at (lives_spec.birth_cmp other)) new ≡ cond (is_at (lives_spec.birth_cmp birth) other) (Some sent) (lookup (is_at (lives_spec.birth_cmp other)) old))
    → lives_spec.AreBirthsOf acts old → lives_spec.AreBirthsOf (acts ++ act ∷ []) new
birth_more acts act old new birth stamp had sent is had_is sent_is updates were other =
    updates other ∙ by (is_at (lives_spec.birth_cmp birth) other) refl
    ∙ ap lives_spec.sent_by (ap (λ o. lives_spec.stamps_of other acts ++ cons_option (lives_spec.stamp_by other o) []) is ∙ sym (stamps_more other acts act))
  where
    by : (same : Bool) → is_at (lives_spec.birth_cmp birth) other ≡ same
        → cond same (Some sent) (lookup (is_at (lives_spec.birth_cmp other)) old) ≡ lives_spec.sent_by (lives_spec.stamps_of other acts ++ cons_option (if same then Some stamp else None) [])
    by false e = were other ∙ ap lives_spec.sent_by (sym (append-nil (lives_spec.stamps_of other acts)))
    by true e =
        let one : birth ≡ other = tells_apart exact_births birth other e in
        ap Some (sent_is ∙ ap (λ o. lives_spec.sent_with o stamp) had_is ∙ ap (λ b. lives_spec.sent_with (lookup (is_at (lives_spec.birth_cmp b)) old) stamp) one ∙ ap (λ o. lives_spec.sent_with o stamp) (were other))
        ∙ sym (sent_push (lives_spec.stamps_of other acts) stamp)

-- ---- numbers with two

-- what holds of all numbers holds of those that show a life
all_shown : (P : Birth → Type 0) (kept : List (Birth × Sent)) → AllByRecursion P (keys_of kept) → AllByRecursion P (map lives_spec.birth_of (lives_spec.lives_in kept))
all_shown P [] all = all
all_shown P (one ∷ kept) all = by one.1.other (all_shown P kept all.1)
  where
    by : (other : Option Stamp) → AllByRecursion P (map lives_spec.birth_of (lives_spec.lives_in kept))
        → AllByRecursion P (map lives_spec.birth_of (cons_option (option_map (λ o. record { participant = one.0.participant; number = one.0.number; sent = (one.1.first, o) }) other) (lives_spec.lives_in kept)))
    by None rest = rest
    by (Some other) rest = (all.0, rest)

shown_sorted : (kept : List (Birth × Sent)) → IsStrictlySortedBy lives_spec.birth_cmp (keys_of kept) → IsStrictlySortedBy lives_spec.birth_cmp (map lives_spec.birth_of (lives_spec.lives_in kept))
unfolding IsStrictlySortedBy
shown_sorted [] sorted = sorted
shown_sorted (one ∷ kept) sorted = by one.1.other (shown_sorted kept sorted.1)
  where
    by : (other : Option Stamp) → IsStrictlySortedBy lives_spec.birth_cmp (map lives_spec.birth_of (lives_spec.lives_in kept))
        → IsStrictlySortedBy lives_spec.birth_cmp (map lives_spec.birth_of (cons_option (option_map (λ o. record { participant = one.0.participant; number = one.0.number; sent = (one.1.first, o) }) other) (lives_spec.lives_in kept)))
    by None rest = rest
    by (Some other) rest = (all_shown (λ y. lives_spec.birth_cmp one.0 y ≡ Less) kept sorted.0, rest)

-- a number that is below all of them is none of them
none_behind : (birth : Birth) (lives : List Life) → AllByRecursion (λ y. lives_spec.birth_cmp birth y ≡ Less) (map lives_spec.birth_of lives)
    → lookup (lives_spec.is_birth birth) (map (λ life. (lives_spec.birth_of life, life.sent)) lives) ≡ None
none_behind birth [] all = refl
none_behind birth (life ∷ lives) all =
    ap (λ o. cond (is_eq o) (Some life.sent) (lookup (lives_spec.is_birth birth) (map (λ life. (lives_spec.birth_of life, life.sent)) lives))) all.0 ∙ none_behind birth lives all.1

times_shown : (kept : List (Birth × Sent)) → IsStrictlySortedBy lives_spec.birth_cmp (keys_of kept) → (birth : Birth)
    → lookup (lives_spec.is_birth birth) (map (λ life. (lives_spec.birth_of life, life.sent)) (lives_spec.lives_in kept)) ≡ lives_spec.two_of (lookup (is_at (lives_spec.birth_cmp birth)) kept)
unfolding IsStrictlySortedBy
times_shown [] sorted birth = refl
times_shown (one ∷ kept) sorted birth = by (lives_spec.is_birth birth one.0) one.1.other refl (times_shown kept sorted.1 birth)
  where
    by : (same : Bool) (other : Option Stamp) → lives_spec.is_birth birth one.0 ≡ same
        → lookup (lives_spec.is_birth birth) (map (λ life. (lives_spec.birth_of life, life.sent)) (lives_spec.lives_in kept)) ≡ lives_spec.two_of (lookup (is_at (lives_spec.birth_cmp birth)) kept)
        → lookup (lives_spec.is_birth birth) (map (λ life. (lives_spec.birth_of life, life.sent))
        (cons_option (option_map (λ o. record { participant = one.0.participant; number = one.0.number; sent = (one.1.first, o) }) other) (lives_spec.lives_in kept)))
        ≡ lives_spec.two_of (cond same (Some (record { first = one.1.first; other = other })) (lookup (is_at (lives_spec.birth_cmp birth)) kept))
    by true (Some other) e rest =
        ap (λ b. cond b (Some (one.1.first, other)) (lookup (lives_spec.is_birth birth) (map (λ life. (lives_spec.birth_of life, life.sent)) (lives_spec.lives_in kept)))) e
    by true None e rest =
        let here : birth ≡ one.0 = tells_apart exact_births birth one.0 e in
        let P : Birth → Type 0 = λ b. AllByRecursion (λ y. lives_spec.birth_cmp b y ≡ Less) (map lives_spec.birth_of (lives_spec.lives_in kept)) in
        none_behind birth (lives_spec.lives_in kept) (subst P (sym here) (all_shown (λ y. lives_spec.birth_cmp one.0 y ≡ Less) kept sorted.0))
    by false (Some other) e rest =
        ap (λ b. cond b (Some (one.1.first, other)) (lookup (lives_spec.is_birth birth) (map (λ life. (lives_spec.birth_of life, life.sent)) (lives_spec.lives_in kept)))) e ∙ rest
    by false None e rest = rest

pub lives_are : (acts : List values.ActValue) (kept : List (Birth × Sent)) → IsStrictlySortedBy lives_spec.birth_cmp (keys_of kept) → lives_spec.AreBirthsOf acts kept → lives_spec.AreLivesOf acts (lives_spec.lives_in kept)
lives_are acts kept sorted were = record { ordered = shown_sorted kept sorted; times = λ birth. times_shown kept sorted birth ∙ ap lives_spec.two_of (were birth) }
