-- Steps of loops that keep the pairs that pass a test.
use Rattle.std.proofs.Common.{◌≡◌, ◌∙◌, ◌++◌, ◌∷◌, [], Bool, true, false, cond, List, ap, append-nil, append_assoc, filter, sym}
use Rattle.std.proofs.lemmas.List.Elements.{filter-append}
use Rattle.rtps_discovery.specs.declared.matching.Pair.{Pair}

-- one more that passes
pub kept_more : (test : Pair → Bool) (start so_far items before after : List Pair) (pair : Pair) → after ≡ before ++ pair ∷ [] → test pair ≡ true → items ≡ so_far ++ pair ∷ []
    → so_far ≡ start ++ filter test before → items ≡ start ++ filter test after
kept_more test start so_far items before after pair more passes is are =
    let step : filter test after ≡ filter test before ++ pair ∷ [] =
    ap (filter test) more ∙ filter-append test before (pair ∷ []) ∙ ap (λ b. filter test before ++ cond b (pair ∷ []) []) passes in
    is ∙ ap (λ (front : List Pair). front ++ pair ∷ []) are ∙ append_assoc start (filter test before) (pair ∷ []) ∙ ap (λ (rest : List Pair). start ++ rest) (sym step)

-- one more that does not
pub kept_skip : (test : Pair → Bool) (start so_far before after : List Pair) (pair : Pair) → after ≡ before ++ pair ∷ [] → test pair ≡ false
    → so_far ≡ start ++ filter test before → so_far ≡ start ++ filter test after
kept_skip test start so_far before after pair more fails are =
    let step : filter test after ≡ filter test before =
    ap (filter test) more ∙ filter-append test before (pair ∷ []) ∙ ap (λ b. filter test before ++ cond b (pair ∷ []) []) fails ∙ append-nil (filter test before) in
    are ∙ ap (λ (rest : List Pair). start ++ rest) (sym step)
