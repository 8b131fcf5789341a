use Rattle.std.proofs.Common.{◌++◌, ◌∙◌, List, ℕ, ap, codes}
use Rattle.std.specs.Prelude.{decimal}
use Rattle.std.proofs.lemmas.Result.{on_ok_weaker}
use Rattle.std.specs.String.{string_bytes}
use Rattle.rtps_lines.proofs.no_pair_text.push_other.Goals as goal

pub returns : goal.returns
returns c =
    on_ok_weaker c.write.result
    (λ text. text ∙ ap (λ (who : List ℕ). string_bytes c.args.text.now ++ (codes ", " ++ (who ++ (codes " in domain " ++ decimal c.args.one.domain)))) c.called-participant.ensures) c.write.ensures.bytes
