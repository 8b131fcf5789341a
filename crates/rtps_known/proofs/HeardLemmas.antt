-- One act more of what a participant hears, asks for and acknowledges.
use Rattle.std.proofs.Common.{◌≡◌, ◌∙◌, Bool, true, false, ◌||◌, List, [], ◌∷◌, ◌++◌, Option, Some, None, ap, cond, not, refl, reverse, sym}
use Rattle.std.specs.List.{find, list_any, take_while}
use Rattle.std.specs.Option.{is_some, option_map, option_or}
use Rattle.std.proofs.lemmas.Bool.{false≢true}
use Rattle.std.proofs.lemmas.List.{reverse-append}
use Rattle.std.proofs.lemmas.List.Folds.{find-append, list_any-append}
use Rattle.std.proofs.lemmas.List.Sums.{take_while-cons}
use Rattle.rtps_known.specs.Learning as learning
use Rattle.rtps_known.specs.Places as places
use Rattle.rtps_known.specs.declared.place.Place.{Place}
use Rattle.rtps_known.proofs.BoolLemmas.{or_none}

-- ---- parts of a list

before_cons : (test : places.PlacedAct → Bool) (x : places.PlacedAct) (xs : List places.PlacedAct) → places.before_first test (x ∷ xs) ≡ cond (test x) [] (x ∷ places.before_first test xs)
before_cons test x xs = take_while-cons (λ placed. not (test placed)) x xs ∙ by (test x)
  where
    by : (b : Bool) → cond (not b) (x ∷ places.before_first test xs) [] ≡ cond b [] (x ∷ places.before_first test xs)
    by true = refl
    by false = refl

before_more : (test : places.PlacedAct → Bool) (xs : List places.PlacedAct) (one : places.PlacedAct)
    → places.before_first test (xs ++ one ∷ []) ≡ cond (list_any test xs) (places.before_first test xs) (cond (test one) xs (xs ++ one ∷ []))
before_more test [] one = before_cons test one []
before_more test (x ∷ xs) one =
    before_cons test x (xs ++ one ∷ []) ∙ ap (λ l. cond (test x) [] (x ∷ l)) (before_more test xs one) ∙ by (test x) (list_any test xs) (test one)
    ∙ ap (λ l. cond (test x || list_any test xs) l (cond (test one) (x ∷ xs) (x ∷ xs ++ one ∷ []))) (sym (before_cons test x xs))
  where
    by : (here any last : Bool)
        → cond here [] (x ∷ cond any (places.before_first test xs) (cond last xs (xs ++ one ∷ [])))
        ≡ cond (here || any) (cond here [] (x ∷ places.before_first test xs)) (cond last (x ∷ xs) (x ∷ xs ++ one ∷ []))
    by true any last = refl
    by false true last = refl
    by false false true = refl
    by false false false = refl

before_all : (test : places.PlacedAct → Bool) (xs : List places.PlacedAct) → list_any test xs ≡ false → places.before_first test xs ≡ xs
before_all test [] none = refl
before_all test (x ∷ xs) none = before_cons test x xs ∙ by (test x) none (before_all test xs)
  where
    by : (b : Bool) → (b || list_any test xs) ≡ false → (list_any test xs ≡ false → places.before_first test xs ≡ xs) → cond b [] (x ∷ places.before_first test xs) ≡ x ∷ xs
    by true none rest = absurd (false≢true (sym none))
    by false none rest = ap (λ l. x ∷ l) (rest none)

behind_more : (test : places.PlacedAct → Bool) (xs : List places.PlacedAct) (one : places.PlacedAct) → places.behind_last test (xs ++ one ∷ []) ≡ cond (test one) [] (places.behind_last test xs ++ one ∷ [])
behind_more test xs one =
    let free : places.PlacedAct → Bool = λ placed. not (test placed) in
    ap (λ l. reverse (take_while free l)) (reverse-append xs (one ∷ [])) ∙ ap reverse (take_while-cons free one (reverse xs)) ∙ by (test one)
  where
    by : (b : Bool)
        → reverse (cond (not b) (one ∷ take_while (λ placed. not (test placed)) (reverse xs)) []) ≡ cond b [] (places.behind_last test xs ++ one ∷ [])
    by true = refl
    by false = reverse-append (one ∷ []) (take_while (λ placed. not (test placed)) (reverse xs))

-- ---- the first place

pub place_more : (test : places.PlacedAct → Bool) (xs : List places.PlacedAct) (one : places.PlacedAct)
    → places.place_of test (xs ++ one ∷ []) ≡ option_or (places.place_of test xs) (cond (test one) (Some one.place) None)
place_more test xs one = ap (option_map (λ placed. placed.place)) (find-append test xs (one ∷ [])) ∙ by (find test xs) (test one)
  where
    by : (found : Option places.PlacedAct) (b : Bool)
        → option_map (λ placed. placed.place) (option_or found (cond b (Some one) None)) ≡ option_or (option_map (λ placed. placed.place) found) (cond b (Some one.place) None)
    by None true = refl
    by None false = refl
    by (Some first) b = refl

pub place_any : (test : places.PlacedAct → Bool) (xs : List places.PlacedAct) → is_some (places.place_of test xs) ≡ list_any test xs
place_any test [] = refl
place_any test (x ∷ xs) = by (test x) (place_any test xs)
  where
    by : (b : Bool) → is_some (places.place_of test xs) ≡ list_any test xs
        → is_some (option_map (λ (placed : places.PlacedAct). placed.place) (cond b (Some x) (find test xs))) ≡ (b || list_any test xs)
    by true rest = refl
    by false rest = rest

pub any_more : (test : places.PlacedAct → Bool) (xs : List places.PlacedAct) (one : places.PlacedAct) → list_any test (xs ++ one ∷ []) ≡ (list_any test xs || test one)
any_more test xs one = list_any-append test xs (one ∷ []) ∙ ap (λ b. list_any test xs || b) (sym (or_none (test one)))

-- ---- where it is heard again

abbrev pub again_with : Bool → Bool → Bool → Option Place → Option Place → Option Place
again_with claimed claiming asking heard here = cond claimed heard (cond claiming heard (cond asking None (option_or heard here)))

pub heard_more : (inquiry : learning.Inquiry) (xs : List places.PlacedAct) (one : places.PlacedAct)
    → learning.heard_again inquiry (xs ++ one ∷ [])
    ≡ again_with (list_any (learning.claims inquiry) xs) (learning.claims inquiry one) (learning.asks inquiry one) (learning.heard_again inquiry xs) (cond (learning.hears inquiry one) (Some one.place) None)
heard_more inquiry xs one =
    ap (λ l. places.place_of (learning.hears inquiry) (places.behind_last (learning.asks inquiry) l)) (before_more (learning.claims inquiry) xs one) ∙ by (list_any (learning.claims inquiry) xs) refl (learning.claims inquiry one)
  where
    here : Option Place
    here = cond (learning.hears inquiry one) (Some one.place) None

    all : list_any (learning.claims inquiry) xs ≡ false → places.place_of (learning.hears inquiry) (places.behind_last (learning.asks inquiry) xs) ≡ learning.heard_again inquiry xs
    all e = ap (λ l. places.place_of (learning.hears inquiry) (places.behind_last (learning.asks inquiry) l)) (sym (before_all (learning.claims inquiry) xs e))

    asked : (b : Bool) → list_any (learning.claims inquiry) xs ≡ false
        → places.place_of (learning.hears inquiry) (cond b [] (places.behind_last (learning.asks inquiry) xs ++ one ∷ [])) ≡ cond b None (option_or (learning.heard_again inquiry xs) here)
    asked true e = refl
    asked false e = place_more (learning.hears inquiry) (places.behind_last (learning.asks inquiry) xs) one ∙ ap (λ o. option_or o here) (all e)

    by : (claimed : Bool) → list_any (learning.claims inquiry) xs ≡ claimed → (claiming : Bool)
        → places.place_of (learning.hears inquiry) (places.behind_last (learning.asks inquiry) (cond claimed (places.before_first (learning.claims inquiry) xs) (cond claiming xs (xs ++ one ∷ []))))
        ≡ again_with claimed claiming (learning.asks inquiry one) (learning.heard_again inquiry xs) here
    by true e claiming = refl
    by false e true = all e
    by false e false = ap (places.place_of (learning.hears inquiry)) (behind_more (learning.asks inquiry) xs one) ∙ asked (learning.asks inquiry one) e
