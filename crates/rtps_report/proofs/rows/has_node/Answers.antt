use Rattle.std.proofs.Common.{◌≡◌, ◌||◌, ◌∷◌, [], ◌∙◌, Bool, List, ℕ, Option, ap, map, option_map, refl, rules, sym}
use Rattle.std.proofs.lemmas.Iterator.Search.{any_from_yields_List}
use Rattle.std.proofs.lemmas.Iterator.{YieldsList-from_slice}
use Rattle.std.specs.List.{list_any}
use Rattle.std.specs.String.{string_bytes}
use Rattle.rtps_who.specs.Samples as samples
use Rattle.rtps_who.specs.declared.node.Node.{Node}
use Rattle.rtps_report.specs.Patterns as patterns_spec
use Rattle.rtps_report.specs.Rows as rows
use Rattle.rtps_report.proofs.rows.has_node.Goals as goal

any_map : {X Y : Type 0} (p : X → Bool) (h : Y → X) (ys : List Y) → list_any p (map h ys) ≡ list_any (λ y. p (h y)) ys
any_map p h [] = refl
any_map p h (y ∷ ys) = ap (λ b. p (h y) || b) (any_map p h ys)

pub returns-in-Some : goal.returns-in-Some
returns-in-Some c =
    let patterns = c.args.patterns.now in
    let test = λ (pattern : List ℕ). patterns_spec.fits pattern (samples.full_name (samples.node_value c.in-Some.node)) in
    any_from_yields_List (λ pattern. test (string_bytes pattern)) _ _ _ c.any.ensures.ran (YieldsList-from_slice patterns c.iter.ensures.rest) (λ x b q k. search rules)
    ∙ sym (any_map test string_bytes patterns)
    ∙ ap (λ (node : Option Node). rows.has_node (map string_bytes patterns) (option_map samples.node_value node)) (sym c.in-Some.is)
