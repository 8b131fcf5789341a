use Rattle.std.proofs.Common.{◌++◌, ◌∷◌, [], ◌∙◌, ℕ, if◌then◌else◌, List, ap, codes, map, sym}
use Rattle.std.proofs.lemmas.Bool.{ne_eqb}
use Rattle.std.proofs.lemmas.Result.{on_ok_weaker}
use Rattle.std.specs.List.{concat}
use Rattle.std.specs.String.{string_bytes}
use Rattle.rtps_parts.specs.Parts as parts
use Rattle.rtps_lines.specs.Notes as notes
use Rattle.rtps_lines.proofs.notes.push_tails.Goals as goal
use Rattle.rtps_lines.specs.declared.sentences.noted.TheConstants as said

pub returns : goal.returns
returns c =
    let facts = c.args.facts.now in
    let told : ℕ → ℕ → parts.WordsValue → List (List ℕ) = λ pairs longest words. concat (parts.amount pairs (record { one = codes "pair is"; many = codes "pairs are" })
    ∷ said.TAIL.now ∷ parts.amount longest words ∷ c.args.names.now ∷ []) ∷ [] in
    let note = ap (λ pairs. told pairs c.from-2.result (parts.words_value c.number_words.result)) c.from.ensures
    ∙ ap (λ longest. told facts.tails longest (parts.words_value c.number_words.result)) c.from-2.ensures
    ∙ ap (told facts.tails facts.longest) c.number_words.ensures
    ∙ sym (ap (λ none. if none then [] else told facts.tails facts.longest notes.number_words) (ne_eqb facts.tails 0 c.if-facts-eq0.false)) in
    on_ok_weaker c.push_rendered.result (λ last. last ∙ ap (λ all. map string_bytes c.args.notes.now.items ++ all) note) c.push_rendered.ensures
