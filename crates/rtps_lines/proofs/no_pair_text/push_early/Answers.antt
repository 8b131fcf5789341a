use Rattle.std.proofs.Common.{[], ◌∷◌, ◌++◌, ◌∙◌, ap}
use Rattle.std.specs.List.{concat}
use Rattle.std.specs.String.{string_bytes}
use Rattle.std.proofs.lemmas.Result.{on_ok_weaker}
use Rattle.rtps_parts.specs.Parts as parts
use Rattle.rtps_lines.proofs.no_pair_text.push_early.Goals as goal
use Rattle.rtps_lines.specs.declared.sentences.no_pair.TheConstants as said

pub returns : goal.returns
returns c =
    on_ok_weaker c.render.result
    (λ text. text ∙ ap (λ (words : parts.WordsValue). string_bytes c.args.text.now ++ concat (said.EARLY.now ∷ parts.amount c.args.early words ∷ said.NEVER_ANNOUNCED.now ∷ [])) c.early_words.ensures) c.render.ensures
