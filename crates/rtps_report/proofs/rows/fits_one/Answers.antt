use Rattle.std.proofs.Common.{◌≡◌, ◌||◌, ◌==◌, ◌∷◌, [], ◌∙◌, Bool, List, ℕ, ap, map, refl, rules, sym}
use Rattle.std.proofs.lemmas.Iterator.Search.{any_from_yields_List}
use Rattle.std.proofs.lemmas.Iterator.{YieldsList-from_slice}
use Rattle.std.proofs.lemmas.List.{length-map}
use Rattle.std.specs.List.{list_any}
use Rattle.std.specs.String.{string_bytes}
use Rattle.rtps_report.specs.Rows as rows
use Rattle.rtps_report.proofs.rows.fits_one.Goals as goal

any_map : {X Y : Type 0} (p : X → Bool) (h : Y → X) (ys : List Y) → list_any p (map h ys) ≡ list_any (λ y. p (h y)) ys
any_map p h [] = refl
any_map p h (y ∷ ys) = ap (λ b. p (h y) || b) (any_map p h ys)

pub returns-else-is_empty : goal.returns-else-is_empty
returns-else-is_empty c =
    let patterns = c.args.patterns.now in
    let topic = c.args.topic.now in
    let test = λ (pattern : List ℕ). rows.fits_topic pattern topic in
    let some = ap (λ n. n == 0) (length-map patterns string_bytes) ∙ sym c.is_empty.ensures ∙ c.if-is_empty.false in
    any_from_yields_List (λ pattern. test (string_bytes pattern)) _ _ _ c.any.ensures.ran (YieldsList-from_slice patterns c.iter.ensures.rest) (λ x b q k. search rules)
    ∙ sym (any_map test string_bytes patterns) ∙ ap (λ (empty : Bool). empty || list_any test (map string_bytes patterns)) (sym some)
