-- The tests of what fits, and what they mean.
use Rattle.std.proofs.Common.{◌≡◌, ◌≤◌, ◌<ℤ◌, ◌&&◌, ◌||◌, ◌==◌, ℕ, ℤ, Bool, true, false, List, [], ◌∷◌, ◌++◌, Any, Decides, IsTrue, ap, arith, inl, inr, if◌then◌else◌, nat_le, not, refl, sym, ◌∙◌, subst}
use Rattle.std.specs.Cmp.Lexicographic.{bytes_decides, pointwise}
use Rattle.std.specs.Int.Signed.{lt_z, lt_z_yes}
use Rattle.std.specs.List.{list_any}
use Rattle.std.specs.Prelude.{nat_eq}
use Rattle.std.proofs.Math.Dec.{T}
use Rattle.std.proofs.lemmas.Bool.{and_parts, false≢true}
use Rattle.std.proofs.lemmas.Bool.Decides.{Decides-and, Decides-eqb, Decides-int_eq, Decides-like, Decides-not, Decides-or, leb_tells}
use Rattle.std.proofs.lemmas.List.Folds.{Any-from_list_any, list_any-from_Any}
use Rattle.rtps_policies.specs.Durations as durations
use Rattle.rtps_policies.specs.Fitting as fitting
use Rattle.rtps_policies.specs.NamePatterns as name_patterns
use Rattle.rtps_policies.specs.Ranks as ranks
use Rattle.rtps_policies.specs.Views as views
use Rattle.rtps_policies.specs.declared.duration.Duration.{Duration}
use Rattle.rtps_policies.specs.declared.fitting.Policy.{Policy}
use Rattle.rtps_policies.specs.declared.kinds.Ownership.{Ownership}
use Rattle.rtps_policies.specs.declared.liveliness.Liveliness.{Liveliness}
use Rattle.rtps_policies.specs.declared.presentation.Presentation.{Presentation}
use Rattle.rtps_policies.proofs.PatternLemmas.{star_found, star_more, star_split}

le_decides : (a b : ℕ) → Decides (nat_le a b) (a ≤ b)
le_decides a b =
    elim (leb_tells a b) [ inl h ↦ (λ _. h.1, λ _. h.0) | inr h ↦ (λ e. absurd (false≢true (sym h.0 ∙ e)), λ le. absurd (omega arith)) ]

is_true : (test : Bool) → T test → test ≡ true
is_true true fit = refl
is_true false fit = absurd fit

lt_decides : (a b : ℤ) → Decides (lt_z a b) (a <ℤ b)
lt_decides a b = (λ e. lt_z_yes (subst T (sym e) tt), λ less. is_true (lt_z a b) less.lt)

within_decides : (one other : Duration) → Decides (durations.is_within one other) (durations.IsWithin one other)
within_decides one other =
    Decides-or _ _ (lt_decides one.seconds other.seconds) (Decides-and _ _ (Decides-int_eq one.seconds other.seconds) (le_decides one.fraction other.fraction))

-- some element has what a test decides
any_decides : {X : Type 0} (p : X → Bool) (P : X → Type 0) → ((x : X) → Decides (p x) (P x)) → (xs : List X) → Decides (list_any p xs) (Any P xs)
any_decides p P each xs = (
  λ fit. let found = Any-from_list_any p xs fit in (found.0, found.1, found.2, found.3, (each found.1).0 found.4),
  λ found. list_any-from_Any p xs (found.0, found.1, found.2, found.3, (each found.1).1 found.4),
)

-- ---- patterns

member_decides : (members : List ℕ) (octet : ℕ) → Decides (name_patterns.is_member members octet) (name_patterns.IsMember octet members)
member_decides members octet =
    any_decides (λ range. nat_le range.0 octet && nat_le octet range.1) (λ range. (range.0 ≤ octet) × (octet ≤ range.1)) (λ range. Decides-and _ _ (le_decides range.0 octet) (le_decides octet range.1)) (name_patterns.ranges_of members)

accepts_decides : (part : name_patterns.PartValue) (octet : ℕ) → Decides (name_patterns.accepts part octet) (name_patterns.IsOneOf part octet)
accepts_decides (name_patterns.PartValue.Octet own) octet = Decides-eqb octet own
accepts_decides name_patterns.PartValue.One octet = (λ _. tt, λ _. refl)
accepts_decides name_patterns.PartValue.Many octet = (λ e. absurd (false≢true e), λ bad. absurd bad)
accepts_decides (name_patterns.PartValue.Among true members) octet = Decides-not _ (member_decides members octet)
accepts_decides (name_patterns.PartValue.Among false members) octet = member_decides members octet

-- one octet that a part stands for
abbrev IsOneThen : name_patterns.PartValue → List name_patterns.PartValue → List ℕ → Type 0
IsOneThen part parts name = (front rest : List ℕ) × (name ≡ front ++ rest) × ((found : ℕ) × (front ≡ found ∷ []) × name_patterns.IsOneOf part found) × name_patterns.FitsParts parts rest

one_decides : (part : name_patterns.PartValue) (parts : List name_patterns.PartValue) → ((name : List ℕ) → Decides (name_patterns.fits_parts parts name) (name_patterns.FitsParts parts name))
    → (name : List ℕ) → Decides (name_patterns.begins_with part (name_patterns.fits_parts parts) name) (IsOneThen part parts name)
one_decides part parts onward [] = (λ e. absurd (false≢true e), λ fit. absurd (nothing fit.0 fit.1 fit.3.0 fit.2 fit.3.1))
  where
    nothing : (front rest : List ℕ) (found : ℕ) → [] ≡ front ++ rest → front ≡ found ∷ [] → ⊥
    nothing [] rest found e is = cc
    nothing (x ∷ front) rest found e is = cc
one_decides part parts onward (octet ∷ name) = (
  λ fit. let both = and_parts (name_patterns.accepts part octet) (name_patterns.fits_parts parts name) fit in
      (octet ∷ [], name, refl, (octet, refl, (accepts_decides part octet).0 both.0), (onward name).0 both.1),
  λ fit. back fit.0 fit.1 fit.2 fit.3.0 fit.3.1 fit.3.2 fit.4,
)
  where
    back : (front rest : List ℕ) → octet ∷ name ≡ front ++ rest → (found : ℕ) → front ≡ found ∷ [] → name_patterns.IsOneOf part found → name_patterns.FitsParts parts rest → name_patterns.begins_with part (name_patterns.fits_parts parts) (octet ∷ name) ≡ true
    back [] rest e found is of fit = absurd (let bad = is in cc)
    back (x ∷ y ∷ front) rest e found is of fit = absurd (let bad = is in cc)
    back (x ∷ []) rest e found is of fit =
        let same : octet ≡ found = cc in
        let behind : name ≡ rest = cc in
        let first = (accepts_decides part octet).1 (subst (name_patterns.IsOneOf part) (sym same) of) in
        let second = (onward name).1 (subst (name_patterns.FitsParts parts) (sym behind) fit) in
        ap (λ b. b && name_patterns.fits_parts parts name) first ∙ second

parts_decide : (parts : List name_patterns.PartValue) (name : List ℕ) → Decides (name_patterns.fits_parts parts name) (name_patterns.FitsParts parts name)
parts_decide [] [] = (λ _. refl, λ _. refl)
parts_decide [] (octet ∷ name) = (λ e. absurd (false≢true e), λ e. absurd (let bad = e in cc))
parts_decide (name_patterns.PartValue.Octet octet ∷ parts) name = one_decides (name_patterns.PartValue.Octet octet) parts (parts_decide parts) name
parts_decide (name_patterns.PartValue.One ∷ parts) name = one_decides name_patterns.PartValue.One parts (parts_decide parts) name
parts_decide (name_patterns.PartValue.Among outside members ∷ parts) name = one_decides (name_patterns.PartValue.Among outside members) parts (parts_decide parts) name
parts_decide (name_patterns.PartValue.Many ∷ parts) name = (
  λ fit. let found = star_split parts name fit in (found.0, found.1, found.2, tt, (parts_decide parts found.1).0 found.3),
  λ fit. subst (λ l. name_patterns.fits_parts (name_patterns.PartValue.Many ∷ parts) l ≡ true) (sym fit.2) (star_more parts fit.0 fit.1 (star_found parts fit.1 ((parts_decide parts fit.1).1 fit.4))),
)

pub fits_decides : (pattern name : List ℕ) → Decides (name_patterns.fits pattern name) (name_patterns.Fits pattern name)
fits_decides pattern name = parts_decide (name_patterns.parts_of pattern) name

names_decide : (one other : List ℕ) → Decides (name_patterns.names_fit one other) (name_patterns.NamesFit one other)
names_decide one other = by (name_patterns.is_pattern one) (name_patterns.is_pattern other) refl refl
  where
    by : (a b : Bool) → name_patterns.is_pattern one ≡ a → name_patterns.is_pattern other ≡ b → Decides (if a then not b && name_patterns.fits one other else if b then name_patterns.fits other one else pointwise nat_eq one other) (name_patterns.NamesFit one other)
    by true true e f = (
      λ bad. absurd (false≢true bad),
      λ fit. elim fit [
        | name_patterns.NamesFit.Equal h i j ↦ absurd (false≢true (sym h ∙ e))
        | name_patterns.NamesFit.Former h i j ↦ absurd (false≢true (sym i ∙ f))
        | name_patterns.NamesFit.Latter h i j ↦ absurd (false≢true (sym h ∙ e))
      ],
    )
    by true false e f = (
      λ fit. name_patterns.NamesFit.Former e f ((fits_decides one other).0 fit),
      λ fit. elim fit [
        | name_patterns.NamesFit.Equal h i j ↦ absurd (false≢true (sym h ∙ e))
        | name_patterns.NamesFit.Former h i j ↦ (fits_decides one other).1 j
        | name_patterns.NamesFit.Latter h i j ↦ absurd (false≢true (sym h ∙ e))
      ],
    )
    by false true e f = (
      λ fit. name_patterns.NamesFit.Latter e f ((fits_decides other one).0 fit),
      λ fit. elim fit [
        | name_patterns.NamesFit.Equal h i j ↦ absurd (false≢true (sym i ∙ f))
        | name_patterns.NamesFit.Former h i j ↦ absurd (false≢true (sym e ∙ h))
        | name_patterns.NamesFit.Latter h i j ↦ (fits_decides other one).1 j
      ],
    )
    by false false e f = (
      λ fit. name_patterns.NamesFit.Equal e f ((bytes_decides one other).0 fit),
      λ fit. elim fit [
        | name_patterns.NamesFit.Equal h i j ↦ (bytes_decides one other).1 j
        | name_patterns.NamesFit.Former h i j ↦ absurd (false≢true (sym e ∙ h))
        | name_patterns.NamesFit.Latter h i j ↦ absurd (false≢true (sym f ∙ i))
      ],
    )

pub names_fit_decides : (one other : List ℕ) → Decides (name_patterns.names_fit one other) (name_patterns.NamesFit one other)
names_fit_decides one other = names_decide one other

-- ---- the table

ownership_decides : (one other : Ownership) → Decides (ranks.is_same_ownership one other) (one ≡ other)
ownership_decides Ownership.Shared Ownership.Shared = (λ _. refl, λ _. refl)
ownership_decides Ownership.Exclusive Ownership.Exclusive = (λ _. refl, λ _. refl)
ownership_decides Ownership.Shared Ownership.Exclusive = (λ e. absurd (false≢true e), λ e. absurd (let bad = e in cc))
ownership_decides Ownership.Exclusive Ownership.Shared = (λ e. absurd (false≢true e), λ e. absurd (let bad = e in cc))

-- what is requested is offered
flag_decides : (requested offered : Bool) → Decides (not requested || offered) (IsTrue requested → IsTrue offered)
flag_decides false offered = (λ _ bad. absurd (false≢true bad), λ _. refl)
flag_decides true offered = (λ e _. e, λ fit. fit refl)

presentation_decides : (offered requested : Presentation) → Decides (fitting.presentation_suits offered requested) (fitting.PresentationSuits offered requested)
presentation_decides offered requested =
    Decides-like _ (λ h. record { scope = h.0; coherent = h.1.0; ordered = h.1.1 }) (λ h. (h.scope, (h.coherent, h.ordered)))
    (Decides-and _ _ (le_decides _ _) (Decides-and _ _ (flag_decides requested.coherent offered.coherent) (flag_decides requested.ordered offered.ordered)))

liveliness_decides : (offered requested : Liveliness) → Decides (fitting.liveliness_suits offered requested) (fitting.LivelinessSuits offered requested)
liveliness_decides offered requested =
    Decides-like _ (λ h. record { kind = h.0; lease = h.1 }) (λ h. (h.kind, h.lease)) (Decides-and _ _ (le_decides _ _) (within_decides offered.lease requested.lease))

pub suits_decides : (policy : Policy) (writer reader : fitting.ProfileValue) → Decides (fitting.suits policy writer reader) (fitting.Suits policy writer reader)
suits_decides Policy.Reliability writer reader = le_decides _ _
suits_decides Policy.Durability writer reader = le_decides _ _
suits_decides Policy.Deadline writer reader = within_decides writer.policies.deadline reader.policies.deadline
suits_decides Policy.LatencyBudget writer reader = within_decides writer.policies.latency_budget reader.policies.latency_budget
suits_decides Policy.Liveliness writer reader = liveliness_decides writer.policies.liveliness reader.policies.liveliness
suits_decides Policy.Ownership writer reader = ownership_decides writer.policies.ownership reader.policies.ownership
suits_decides Policy.DestinationOrder writer reader = le_decides _ _
suits_decides Policy.Presentation writer reader = presentation_decides writer.policies.presentation reader.policies.presentation
suits_decides Policy.Partition writer reader = any_decides (λ one. list_any (name_patterns.names_fit one) reader.policies.partition) (λ one. Any (name_patterns.NamesFit one) reader.policies.partition) (λ one. any_decides (name_patterns.names_fit one) (name_patterns.NamesFit one) (names_decide one) reader.policies.partition) writer.policies.partition
suits_decides Policy.DataRepresentation writer reader = any_decides (λ own. own == views.first_in writer.policies.representations) (λ own. own ≡ views.first_in writer.policies.representations) (λ own. Decides-eqb own (views.first_in writer.policies.representations)) (views.accepted_in reader.policies.representations)
suits_decides Policy.Type writer reader = bytes_decides writer.endpoint.type_name reader.endpoint.type_name
