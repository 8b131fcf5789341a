-- Items, one after another: what a loop has passed, and what is still to come.
use Rattle.std.proofs.Common.{◌≡◌, ◌∙◌, ℕ, suc, ◌+◌, ◌-◌, ◌<◌, ◌≤◌, Bool, true, false, ◌||◌, cond, List, [], ◌∷◌, ◌++◌, Option, Some, None, ap, append-nil, append_assoc, arith, find, map, sym}
use Rattle.std.specs.List.{list_any}
use Rattle.std.proofs.lemmas.List.{map-append}
use Rattle.std.specs.Prelude.{option_and_then}
use Rattle.rtps_who.specs.Items as items

one_more : (count counter : ℕ) → counter < count → count - counter ≡ suc (count - (counter + 1))
one_more count counter less = omega arith

none_left : (count counter : ℕ) → count ≤ counter → count - counter ≡ 0
none_left count counter all = omega arith

-- ---- the first of so many items

rest_step : {X : Type 0} (front : List ℕ → Option (X × List ℕ)) (count counter : ℕ) (rest : List ℕ) (found : X × List ℕ) → counter < count → Some found ≡ front rest
    → items.rest_behind front (count - counter) rest ≡ items.rest_behind front (count - (counter + 1)) found.1
rest_step front count counter rest found less is =
    ap (λ n. items.rest_behind front n rest) (one_more count counter less) ∙ ap (option_and_then (λ one. items.rest_behind front (count - (counter + 1)) one.1)) (sym is)

rest_stop : {X : Type 0} (front : List ℕ → Option (X × List ℕ)) (count counter : ℕ) (rest : List ℕ) → counter < count → None ≡ front rest → items.rest_behind front (count - counter) rest ≡ None
rest_stop front count counter rest less is =
    ap (λ n. items.rest_behind front n rest) (one_more count counter less) ∙ ap (option_and_then (λ one. items.rest_behind front (count - (counter + 1)) one.1)) (sym is)

rest_end : {X : Type 0} (front : List ℕ → Option (X × List ℕ)) (count counter : ℕ) (rest : List ℕ) → count ≤ counter → items.rest_behind front (count - counter) rest ≡ Some rest
rest_end front count counter rest all = ap (λ n. items.rest_behind front n rest) (none_left count counter all)

pub items_step : {X : Type 0} (front : List ℕ → Option (X × List ℕ)) (count counter : ℕ) (rest : List ℕ) (found : X × List ℕ) → counter < count → Some found ≡ front rest
    → items.items_in front (count - counter) rest ≡ found.0 ∷ items.items_in front (count - (counter + 1)) found.1
items_step front count counter rest found less is =
    ap (λ n. items.items_in front n rest) (one_more count counter less) ∙ ap (λ one. items.item_before one (items.items_in front (count - (counter + 1)) (items.behind_of one))) (sym is)

pub items_stop : {X : Type 0} (front : List ℕ → Option (X × List ℕ)) (count counter : ℕ) (rest : List ℕ) → counter < count → None ≡ front rest → items.items_in front (count - counter) rest ≡ []
items_stop front count counter rest less is =
    ap (λ n. items.items_in front n rest) (one_more count counter less) ∙ ap (λ one. items.item_before one (items.items_in front (count - (counter + 1)) (items.behind_of one))) (sym is)

pub items_end : {X : Type 0} (front : List ℕ → Option (X × List ℕ)) (count counter : ℕ) (rest : List ℕ) → count ≤ counter → items.items_in front (count - counter) rest ≡ []
items_end front count counter rest all = ap (λ n. items.items_in front n rest) (none_left count counter all)

-- ---- what is behind all of them

-- what is behind all of them is what is behind those to come
abbrev pub RestIs : {X : Type 0} → (List ℕ → Option (X × List ℕ)) → ℕ → ℕ → List ℕ → List ℕ → Type 0
RestIs front count counter octets rest = items.rest_behind front count octets ≡ items.rest_behind front (count - counter) rest

pub rest_more : {X : Type 0} (front : List ℕ → Option (X × List ℕ)) (count counter : ℕ) (octets rest : List ℕ) (found : X × List ℕ) → counter < count → Some found ≡ front rest
    → RestIs front count counter octets rest → RestIs front count (counter + 1) octets found.1
rest_more front count counter octets rest found less is so_far = so_far ∙ rest_step front count counter rest found less is

pub rest_cut : {X : Type 0} (front : List ℕ → Option (X × List ℕ)) (count counter : ℕ) (octets rest : List ℕ) → counter < count → None ≡ front rest → RestIs front count counter octets rest
    → items.rest_behind front count octets ≡ None
rest_cut front count counter octets rest less is so_far = so_far ∙ rest_stop front count counter rest less is

pub rest_all : {X : Type 0} (front : List ℕ → Option (X × List ℕ)) (count counter : ℕ) (octets rest : List ℕ) → count ≤ counter → RestIs front count counter octets rest
    → items.rest_behind front count octets ≡ Some rest
rest_all front count counter octets rest all so_far = so_far ∙ rest_end front count counter rest all

-- ---- the first that passes a test

-- none of those that are passed does
abbrev pub FoundIs : {X : Type 0} → (X → Bool) → (List ℕ → Option (X × List ℕ)) → ℕ → ℕ → List ℕ → List ℕ → Type 0
FoundIs test front count counter octets rest = find test (items.items_in front count octets) ≡ find test (items.items_in front (count - counter) rest)

pub find_more : {X : Type 0} (test : X → Bool) (front : List ℕ → Option (X × List ℕ)) (count counter : ℕ) (octets rest : List ℕ) (found : X × List ℕ) → counter < count → Some found ≡ front rest
    → test found.0 ≡ false → FoundIs test front count counter octets rest → FoundIs test front count (counter + 1) octets found.1
find_more test front count counter octets rest found less is fails so_far =
    so_far ∙ ap (find test) (items_step front count counter rest found less is) ∙ ap (λ b. cond b (Some found.0) (find test (items.items_in front (count - (counter + 1)) found.1))) fails

pub find_here : {X : Type 0} (test : X → Bool) (front : List ℕ → Option (X × List ℕ)) (count counter : ℕ) (octets rest : List ℕ) (found : X × List ℕ) → counter < count → Some found ≡ front rest
    → test found.0 ≡ true → FoundIs test front count counter octets rest → find test (items.items_in front count octets) ≡ Some found.0
find_here test front count counter octets rest found less is passes so_far =
    so_far ∙ ap (find test) (items_step front count counter rest found less is) ∙ ap (λ b. cond b (Some found.0) (find test (items.items_in front (count - (counter + 1)) found.1))) passes

pub find_cut : {X : Type 0} (test : X → Bool) (front : List ℕ → Option (X × List ℕ)) (count counter : ℕ) (octets rest : List ℕ) → counter < count → None ≡ front rest
    → FoundIs test front count counter octets rest → find test (items.items_in front count octets) ≡ None
find_cut test front count counter octets rest less is so_far = so_far ∙ ap (find test) (items_stop front count counter rest less is)

pub find_none : {X : Type 0} (test : X → Bool) (front : List ℕ → Option (X × List ℕ)) (count counter : ℕ) (octets rest : List ℕ) → count ≤ counter → FoundIs test front count counter octets rest
    → find test (items.items_in front count octets) ≡ None
find_none test front count counter octets rest all so_far = so_far ∙ ap (find test) (items_end front count counter rest all)

-- ---- whether one passes a test

-- none of those that are passed does
abbrev pub AnyIs : {X : Type 0} → (X → Bool) → (List ℕ → Option (X × List ℕ)) → ℕ → ℕ → List ℕ → List ℕ → Type 0
AnyIs test front count counter octets rest = list_any test (items.items_in front count octets) ≡ list_any test (items.items_in front (count - counter) rest)

pub any_more : {X : Type 0} (test : X → Bool) (front : List ℕ → Option (X × List ℕ)) (count counter : ℕ) (octets rest : List ℕ) (found : X × List ℕ) → counter < count → Some found ≡ front rest
    → test found.0 ≡ false → AnyIs test front count counter octets rest → AnyIs test front count (counter + 1) octets found.1
any_more test front count counter octets rest found less is fails so_far =
    so_far ∙ ap (list_any test) (items_step front count counter rest found less is) ∙ ap (λ b. b || list_any test (items.items_in front (count - (counter + 1)) found.1)) fails

pub any_here : {X : Type 0} (test : X → Bool) (front : List ℕ → Option (X × List ℕ)) (count counter : ℕ) (octets rest : List ℕ) (found : X × List ℕ) → counter < count → Some found ≡ front rest
    → test found.0 ≡ true → AnyIs test front count counter octets rest → list_any test (items.items_in front count octets) ≡ true
any_here test front count counter octets rest found less is passes so_far =
    so_far ∙ ap (list_any test) (items_step front count counter rest found less is) ∙ ap (λ b. b || list_any test (items.items_in front (count - (counter + 1)) found.1)) passes

pub any_cut : {X : Type 0} (test : X → Bool) (front : List ℕ → Option (X × List ℕ)) (count counter : ℕ) (octets rest : List ℕ) → counter < count → None ≡ front rest
    → AnyIs test front count counter octets rest → list_any test (items.items_in front count octets) ≡ false
any_cut test front count counter octets rest less is so_far = so_far ∙ ap (list_any test) (items_stop front count counter rest less is)

pub any_none : {X : Type 0} (test : X → Bool) (front : List ℕ → Option (X × List ℕ)) (count counter : ℕ) (octets rest : List ℕ) → count ≤ counter → AnyIs test front count counter octets rest
    → list_any test (items.items_in front count octets) ≡ false
any_none test front count counter octets rest all so_far = so_far ∙ ap (list_any test) (items_end front count counter rest all)

-- ---- all of them, one behind the other

-- those that are passed, and those to come
abbrev pub MappedAre : {X Y : Type 0} → (X → Y) → (List ℕ → Option (X × List ℕ)) → ℕ → ℕ → List ℕ → List ℕ → List Y → Type 0
MappedAre view front count counter octets rest passed = map view (items.items_in front count octets) ≡ passed ++ map view (items.items_in front (count - counter) rest)

pub mapped_push : {X Y V : Type 0} (view : X → Y) (show : V → Y) (front : List ℕ → Option (X × List ℕ)) (count counter : ℕ) (octets rest : List ℕ) (found : X × List ℕ) (kept pushed : List V) (v : V)
    → counter < count → Some found ≡ front rest → pushed ≡ kept ++ v ∷ [] → show v ≡ view found.0 → MappedAre view front count counter octets rest (map show kept)
    → MappedAre view front count (counter + 1) octets found.1 (map show pushed)
mapped_push view show front count counter octets rest found kept pushed v less is more same so_far =
    so_far ∙ ap (λ l. map show kept ++ map view l) (items_step front count counter rest found less is)
    ∙ ap (λ y. map show kept ++ y ∷ map view (items.items_in front (count - (counter + 1)) found.1)) (sym same)
    ∙ sym (append_assoc (map show kept) (show v ∷ []) (map view (items.items_in front (count - (counter + 1)) found.1)))
    ∙ ap (λ l. l ++ map view (items.items_in front (count - (counter + 1)) found.1)) (sym (ap (map show) more ∙ map-append show kept (v ∷ [])))

pub mapped_cut : {X Y : Type 0} (view : X → Y) (front : List ℕ → Option (X × List ℕ)) (count counter : ℕ) (octets rest : List ℕ) (passed : List Y) → counter < count → None ≡ front rest
    → MappedAre view front count counter octets rest passed → map view (items.items_in front count octets) ≡ passed
mapped_cut view front count counter octets rest passed less is so_far =
    so_far ∙ ap (λ l. passed ++ map view l) (items_stop front count counter rest less is) ∙ append-nil passed

pub mapped_all : {X Y : Type 0} (view : X → Y) (front : List ℕ → Option (X × List ℕ)) (count counter : ℕ) (octets rest : List ℕ) (passed : List Y) → count ≤ counter
    → MappedAre view front count counter octets rest passed → map view (items.items_in front count octets) ≡ passed
mapped_all view front count counter octets rest passed all so_far =
    so_far ∙ ap (λ l. passed ++ map view l) (items_end front count counter rest all) ∙ append-nil passed
