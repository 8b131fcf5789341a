use Rattle.std.proofs.Common.{◌++◌, ◌∙◌, ap, map}
use Rattle.std.proofs.lemmas.Result.{on_ok_weaker}
use Rattle.std.specs.String.{string_bytes}
use Rattle.rtps_report.specs.BestEfforts as best_efforts
use Rattle.rtps_lines.proofs.NoteLemmas.{best_effort_told}
use Rattle.rtps_lines.proofs.notes.push_best_effort.Goals as goal

pub returns : goal.returns
returns c =
    let remedy = c.best_effort_remedy-remedy in
    on_ok_weaker c.push_rendered.result
    (λ last. last ∙ ap (λ all. map string_bytes c.args.notes.now.items ++ all)
    (best_effort_told c.args.arrow.now c.args.told.1.now c.words_for.result.now (best_efforts.best_effort_value c.args.told.0.now) c.from.result remedy.result _ _ c.if-total-eq0.false
    c.from.ensures c.words_for.ensures remedy.ensures.text remedy.ensures.both))
    c.push_rendered.ensures
