-- What is written of items one by one, with a comma between each two.
use Rattle.std.proofs.Common.{◌≡◌, ◌++◌, ◌∷◌, [], ◌∙◌, ℕ, List, ap, append_assoc, refl}
use Rattle.std.proofs.lemmas.Grind.{put_two}
use Rattle.std.specs.Fmt.{HasWritten}
use Rattle.std.specs.List.{flat_map, join_by}
use Rattle.std.specs.Prelude.{codes}
use Rattle.std.specs.declared.fmt.Formatter.{Formatter}

-- what is still to come, with this before the next item
abbrev pub to_come : {X : Type 0} → (X → List ℕ) → List ℕ → List X → List ℕ
to_come text comma [] = []
to_come text comma (x ∷ xs) = (comma ++ text x) ++ flat_map (λ y. codes ", " ++ text y) xs

-- at the first item nothing stands before it
pub all_to_come : {X : Type 0} (text : X → List ℕ) (xs : List X) → to_come text [] xs ≡ join_by text (codes ", ") xs
all_to_come text [] = refl
all_to_come text (x ∷ xs) = refl

others_to_come : {X : Type 0} (text : X → List ℕ) (xs : List X) → to_come text (codes ", ") xs ≡ flat_map (λ y. codes ", " ++ text y) xs
others_to_come text [] = refl
others_to_come text (x ∷ xs) = refl

module _ {W X : Type 0} (took : W → List ℕ → W → Type 0) (text : X → List ℕ) where
  -- an item more is written
  pub item_written : (f g h : Formatter W) (a comma all : List ℕ) (x : X) (xs : List X) → HasWritten took f a g → a ++ to_come text comma (x ∷ xs) ≡ all → HasWritten took g (comma ++ text x) h
      → (written : List ℕ) × HasWritten took f written h × (written ++ to_come text (codes ", ") xs ≡ all)
  item_written f g h a comma all x xs first is next = (
    a ++ (comma ++ text x),
    put_two took f g h a (comma ++ text x) (a ++ (comma ++ text x)) first next refl,
    append_assoc a (comma ++ text x) (to_come text (codes ", ") xs) ∙ ap (λ rest. a ++ ((comma ++ text x) ++ rest)) (others_to_come text xs) ∙ is,
  )
