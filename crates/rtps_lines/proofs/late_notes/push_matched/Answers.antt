use Rattle.std.proofs.Common.{◌++◌, ◌∙◌, ap, map}
use Rattle.std.proofs.lemmas.Result.{on_ok_weaker}
use Rattle.std.specs.String.{string_bytes}
use Rattle.rtps_lines.proofs.NoteLemmas.{matched_told}
use Rattle.rtps_lines.proofs.late_notes.push_matched.Goals as goal

pub returns : goal.returns
returns c =
    let told = c.args.told in
    let remedy = c.late_remedy-remedy in
    on_ok_weaker c.push_rendered.result
    (λ last. last ∙ ap (λ all. map string_bytes c.args.notes.now.items ++ all)
    (matched_told c.args.arrow.now told.lines.now told.pairs told.before remedy.result _ _ c.if-told-eq0.false remedy.ensures.text remedy.ensures.both))
    c.push_rendered.ensures
