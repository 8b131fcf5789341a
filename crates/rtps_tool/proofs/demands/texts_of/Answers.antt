use Rattle.std.proofs.Common.{◌∙◌, ap, sym, unwrap_or, map, [], List, ℕ, Bor}
use Rattle.std.proofs.lemmas.Result.{IfOk-weaker}
use Rattle.std.specs.Option.{option_map}
use Rattle.clap.specs.Words.{found_of}
use Rattle.clap.proofs.WalkLemmas.{raw_values-rows}
use Rattle.rtps_tool.proofs.demands.texts_of.Goals as goal

pub returns-in-Some : goal.returns-in-Some
returns-in-Some c =
    let view = λ (s : Bor (List (Bor (List ℕ)))). map (λ (v : Bor (List ℕ)). v.now) s.now in
    let given = sym (ap (option_map view) c.in-Some.is) ∙ c.get_strs.ensures ∙ raw_values-rows (found_of c.args.found.now) c.args.called.now in
    IfOk-weaker c.owned.result _ _ (λ topics made. made ∙ ap (λ o. unwrap_or o []) given) c.owned.ensures

pub returns-in-None : goal.returns-in-None
returns-in-None c =
    let view = λ (s : Bor (List (Bor (List ℕ)))). map (λ (v : Bor (List ℕ)). v.now) s.now in
    let given = sym (ap (option_map view) c.in-None.is) ∙ c.get_strs.ensures ∙ raw_values-rows (found_of c.args.found.now) c.args.called.now in
    ap (map _) c.new.ensures.items ∙ ap (λ o. unwrap_or o []) given
