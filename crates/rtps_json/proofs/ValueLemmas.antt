-- Lists of members and of values that grow.
use Rattle.std.proofs.Common.{◌≡◌, ◌++◌, ◌∷◌, [], ◌∙◌, ◌+◌, ◌<◌, List, ℕ, ap, get_or, length, map, sym, take}
use Rattle.std.proofs.lemmas.List.{map-append, take_all, take_more}
use Rattle.json.specs.Json.{Json}
use Rattle.rtps_json.specs.Values.{items_json, value_json}
use Rattle.rtps_json.specs.declared.values.Value.{Value}

pub ruleset joined_members = (map-append)

-- one value more
pub ruleset one_more = (map-append, take_all, take_more)

-- the same of what is seen of each item
pub view_more : {X Y : Type 0} (f : Y → Json) (g : X → Y) (xs : List X) (i : ℕ) (x d : X) (values grown : List Value) (value : Value)
    → i < length xs → x ≡ get_or xs i d → items_json values ≡ map f (map g (take i xs)) → value_json value ≡ f (g x) → grown ≡ values ++ value ∷ []
    → items_json grown ≡ map f (map g (take (i + 1) xs))
view_more f g xs i x d values grown value within is so_far made pushed =
    let taken = take_more xs i d within ∙ ap (λ item. take i xs ++ item ∷ []) (sym is) in
    ap items_json pushed ∙ map-append value_json values (value ∷ []) ∙ (λ k. so_far k ++ made k ∷ [])
    ∙ sym (ap (λ items. map f (map g items)) taken ∙ ap (map f) (map-append g (take i xs) (x ∷ [])) ∙ map-append f (map g (take i xs)) (g x ∷ []))
