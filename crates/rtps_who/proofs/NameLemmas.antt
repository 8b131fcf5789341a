-- Names that come to one.
use Rattle.std.proofs.Common.{◌≡◌, ◌∙◌, ◌≢◌, ℕ, Bool, true, false, if◌then◌else◌, List, [], ◌∷◌, Some, None, ap, fold, nat_eq, refl, sym}
use Rattle.std.specs.Cmp.Lexicographic.{pointwise}
use Rattle.std.specs.List.{All}
use Rattle.std.proofs.lemmas.List.Elements.{All-cons, All-head, All-nil, All-tail}
use Rattle.std.proofs.lemmas.Slice.Eq.{bytes_eq-Decides}
use Rattle.rtps_who.specs.Services as services

same_text : (one other : List ℕ) → pointwise nat_eq one other ≡ true → one ≡ other
same_text one other is = (bytes_eq-Decides one other).0 is

text_same : (one other : List ℕ) → one ≡ other → pointwise nat_eq one other ≡ true
text_same one other is = (bytes_eq-Decides one other).1 is

-- several stay several
several_stay : (names : List (List ℕ)) → fold services.with_name (Some services.NamesValue.SeveralNames) names ≡ Some services.NamesValue.SeveralNames
several_stay [] = refl
several_stay (n ∷ names) = several_stay names

several_are_not_one : (name : List ℕ) → Some services.NamesValue.SeveralNames ≡ Some (services.NamesValue.OneName name) → ⊥
several_are_not_one name is = cc

no_name_is_none : (name : List ℕ) → None ≡ Some (services.NamesValue.OneName name) → ⊥
no_name_is_none name is = cc

one_is : (one name : List ℕ) → Some (services.NamesValue.OneName one) ≡ Some (services.NamesValue.OneName name) → one ≡ name
one_is one name is = cc

to_one : (one name : List ℕ) (names : List (List ℕ)) → fold services.with_name (Some (services.NamesValue.OneName one)) names ≡ Some (services.NamesValue.OneName name) → (one ≡ name) × All (λ n. n ≡ name) names
to_one one name [] is = (one_is one name is, All-nil (λ n. n ≡ name))
to_one one name (n ∷ names) is = by (to_one one name names) (pointwise nat_eq one n) refl is
  where
    by : (fold services.with_name (Some (services.NamesValue.OneName one)) names ≡ Some (services.NamesValue.OneName name) → (one ≡ name) × All (λ m. m ≡ name) names) → (b : Bool) → pointwise nat_eq one n ≡ b
        → fold services.with_name (if b then Some (services.NamesValue.OneName one) else Some services.NamesValue.SeveralNames) names ≡ Some (services.NamesValue.OneName name) → (one ≡ name) × All (λ m. m ≡ name) (n ∷ names)
    by onward true same is = let rest = onward is in (rest.0, All-cons (λ m. m ≡ name) n names (sym (same_text one n same) ∙ rest.0) rest.1)
    by onward false differ is = absurd (several_are_not_one name (sym (several_stay names) ∙ is))

from_one : (one name : List ℕ) (names : List (List ℕ)) → one ≡ name → All (λ n. n ≡ name) names → fold services.with_name (Some (services.NamesValue.OneName one)) names ≡ Some (services.NamesValue.OneName name)
from_one one name [] same all = ap (λ text. Some (services.NamesValue.OneName text)) same
from_one one name (n ∷ names) same all =
    ap (λ (b : Bool). fold services.with_name (if b then Some (services.NamesValue.OneName one) else Some services.NamesValue.SeveralNames) names) (text_same one n (same ∙ sym (All-head (λ m. m ≡ name) n names all)))
    ∙ from_one one name names same (All-tail (λ m. m ≡ name) n names all)

pub names_come_to_one : services.NamesComeToOne
names_come_to_one names name = (to names name, from names name)
  where
    to : (names : List (List ℕ)) (name : List ℕ) → services.names_of names ≡ Some (services.NamesValue.OneName name) → (names ≢ []) × All (λ one. one ≡ name) names
    to [] name is = absurd (no_name_is_none name is)
    to (n ∷ names) name is = let rest = to_one n name names is in ((λ none. cc), All-cons (λ one. one ≡ name) n names rest.0 rest.1)

    from : (names : List (List ℕ)) (name : List ℕ) → (names ≢ []) × All (λ one. one ≡ name) names → services.names_of names ≡ Some (services.NamesValue.OneName name)
    from [] name is = absurd (is.0 refl)
    from (n ∷ names) name is = from_one n name names (All-head (λ one. one ≡ name) n names is.1) (All-tail (λ one. one ≡ name) n names is.1)
