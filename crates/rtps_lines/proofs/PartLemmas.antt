-- Lists to which parts are appended, one by one.
use Rattle.std.proofs.Common.{◌≡◌, ◌<◌, ◌+◌, ◌++◌, ◌∷◌, [], ◌∙◌, ℕ, List, ap, append_assoc, get_or, length, sym, take}
use Rattle.std.proofs.lemmas.List.{flat_map_more, take_more}
use Rattle.std.specs.List.{flat_map}

-- what is made of an item more
pub item_more : {X A : Type 0} (f : X → List A) (xs : List X) (i : ℕ) (x d : X) (start one two : List A) → i < length xs → x ≡ get_or xs i d → one ≡ start ++ flat_map f (take i xs) → two ≡ one ++ f x
    → two ≡ start ++ flat_map f (take (i + 1) xs)
item_more f xs i x d start one two less is first next =
    next ∙ ap (λ all. all ++ f x) first ∙ flat_map_more f start (take i xs) x
    ∙ ap (λ all. start ++ flat_map f all) (ap (λ y. take i xs ++ y ∷ []) is ∙ sym (take_more xs i d less))

pub two_parts : {A : Type 0} {one two : List A} (start a b : List A) → one ≡ start ++ a → two ≡ one ++ b → two ≡ start ++ (a ++ b)
two_parts start a b first second = second ∙ ap (λ all. all ++ b) first ∙ append_assoc start a b

pub three_parts : {A : Type 0} {one two three : List A} (start a b c : List A) → one ≡ start ++ a → two ≡ one ++ b → three ≡ two ++ c → three ≡ start ++ (a ++ (b ++ c))
three_parts {A} {one} start a b c first second third = two_parts start a (b ++ c) first (two_parts one b c second third)

pub four_parts : {A : Type 0} {one two three four : List A} (start a b c d : List A)
    → one ≡ start ++ a → two ≡ one ++ b → three ≡ two ++ c → four ≡ three ++ d → four ≡ start ++ (a ++ (b ++ (c ++ d)))
four_parts {A} {one} start a b c d first second third fourth = two_parts start a (b ++ (c ++ d)) first (three_parts one b c d second third fourth)

pub five_parts : {A : Type 0} {one two three four five : List A} (start a b c d e : List A)
    → one ≡ start ++ a → two ≡ one ++ b → three ≡ two ++ c → four ≡ three ++ d → five ≡ four ++ e → five ≡ start ++ (a ++ (b ++ (c ++ (d ++ e))))
five_parts {A} {one} start a b c d e first second third fourth fifth = two_parts start a (b ++ (c ++ (d ++ e))) first (four_parts one b c d e second third fourth fifth)

pub six_parts : {A : Type 0} {one two three four five six : List A} (start a b c d e f : List A)
    → one ≡ start ++ a → two ≡ one ++ b → three ≡ two ++ c → four ≡ three ++ d → five ≡ four ++ e → six ≡ five ++ f → six ≡ start ++ (a ++ (b ++ (c ++ (d ++ (e ++ f)))))
six_parts {A} {one} start a b c d e f first second third fourth fifth sixth =
    two_parts start a (b ++ (c ++ (d ++ (e ++ f)))) first (five_parts one b c d e f second third fourth fifth sixth)

pub seven_parts : {A : Type 0} {one two three four five six seven : List A} (start a b c d e f g : List A)
    → one ≡ start ++ a → two ≡ one ++ b → three ≡ two ++ c → four ≡ three ++ d → five ≡ four ++ e → six ≡ five ++ f → seven ≡ six ++ g → seven ≡ start ++ (a ++ (b ++ (c ++ (d ++ (e ++ (f ++ g))))))
seven_parts {A} {one} start a b c d e f g first second third fourth fifth sixth seventh =
    two_parts start a (b ++ (c ++ (d ++ (e ++ (f ++ g))))) first (six_parts one b c d e f g second third fourth fifth sixth seventh)

pub eight_parts : {A : Type 0} {one two three four five six seven eight : List A} (start a b c d e f g h : List A)
    → one ≡ start ++ a → two ≡ one ++ b → three ≡ two ++ c → four ≡ three ++ d → five ≡ four ++ e → six ≡ five ++ f → seven ≡ six ++ g → eight ≡ seven ++ h
    → eight ≡ start ++ (a ++ (b ++ (c ++ (d ++ (e ++ (f ++ (g ++ h)))))))
eight_parts {A} {one} start a b c d e f g h first second third fourth fifth sixth seventh eighth =
    two_parts start a (b ++ (c ++ (d ++ (e ++ (f ++ (g ++ h)))))) first (seven_parts one b c d e f g h second third fourth fifth sixth seventh eighth)
