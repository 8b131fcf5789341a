use Rattle.std.proofs.Common.{◌≡◌, ◌++◌, ◌∷◌, [], ◌∙◌, ap, subst}
use Rattle.json.specs.Lex.{tokens}
use Rattle.json.specs.Print.{print}
use Rattle.rtps_json.proofs.JsonLemmas.{reads_back}
use Rattle.rtps_json.proofs.json_object.json_line.Goals as goal

pub returns : goal.returns
returns c = λ value written within.
    let writer = c.args.writer in
    let items = c.into_inner.ensures.items ∙ ap (λ all. all ++ print writer.tokens) c.requires ∙ ap print written in
    record {
      is_text = c.in_ok-push_str.ensures.bytes ∙ ap (λ all. all ++ 10 ∷ []) (ap (λ octets. octets.items) c.from_utf8_unchecked-text.ensures.value ∙ items);
      reads_back = reads_back value within (subst (λ all. tokens (print all) ≡ all) written c.into_inner.ensures.reads_back);
    }
