use Rattle.std.proofs.Common.{◌++◌, ◌∷◌, [], ◌∙◌, ℕ, List, ap, codes, decimal, string_bytes}
use Rattle.std.proofs.lemmas.Result.{on_ok_weaker}
use Rattle.std.specs.List.{concat}
use Rattle.rtps_parts.specs.Parts as parts
use Rattle.rtps_report.specs.declared.advice.Advice.{Advice}
use Rattle.rtps_lines.specs.AdviceText as advice_text
use Rattle.rtps_lines.specs.Notes as notes
use Rattle.rtps_lines.proofs.Offered.{three_parts}
use Rattle.rtps_check.proofs.tails.push_tails.Goals as goal
use Rattle.rtps_lines.specs.declared.sentences.block.TheConstants as said

pub returns : goal.returns
returns c =
    let old = string_bytes c.args.text.now in
    let head : ℕ → parts.WordsValue → List ℕ = λ longest words.
    concat (codes "\n" ∷ parts.amount c.args.pairs (record { one = said.TAIL_ONE.now; many = said.TAIL_MANY.now }) ∷ codes " of at most " ∷ parts.amount longest words ∷ []) in
    let end : List ℕ → List ℕ = λ sentence.
    concat (codes " lets them pass)" ∷ c.args.names.now ∷ codes "\n  -> " ∷ sentence ∷ codes "\n" ∷ []) in
    on_ok_weaker c.render-2.result
    (λ last. three_parts old (head c.args.longest notes.number_words) (codes " (--tail " ++ decimal c.args.longest) (end (advice_text.sentence_of Advice.Tail))
    (c.in_ok-render.ensures ∙ ap (λ longest. old ++ head longest (parts.words_value c.number_words.result)) c.from.ensures ∙ ap (λ words. old ++ head c.args.longest words) c.number_words.ensures)
    c.in_ok-push_field.ensures (last ∙ ap (λ sentence. string_bytes c.push_field.new.text ++ end sentence) c.sentence_of.ensures))
    c.render-2.ensures
