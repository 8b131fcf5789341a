use Rattle.std.proofs.Common.{◌∙◌, ap, codes, unwrap_or, [], List, ℕ, Bor}
use Rattle.std.proofs.lemmas.Result.{IfOk-weaker}
use Rattle.clap.specs.Words.{found_of}
use Rattle.clap.proofs.WalkLemmas.{first_value-rows}
use Rattle.rtps_tool.proofs.WordsLemmas.{unwrap_or-view}
use Rattle.rtps_tool.proofs.command.options.file_of.Goals as goal

pub returns : goal.returns
returns c =
    let view = λ (s : Bor (List ℕ)). s.now in
    let named = ap (λ o. unwrap_or o []) (c.get_str.ensures ∙ first_value-rows (found_of c.args.found.now) (codes "FILE")) in
    IfOk-weaker c.from_str.result _ _ (λ file made. made ∙ ap view c.unwrap_or.ensures ∙ unwrap_or-view view c.get_str.result _ ∙ named) c.from_str.ensures.ok
