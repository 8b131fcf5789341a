use Rattle.std.proofs.Common.{ℕ, List, Some, subst, sym}
use Rattle.std.proofs.lemmas.Result.{err_from_is_err_and}
use Rattle.rtps_tool.specs.Commands as commands
use Rattle.rtps_tool.proofs.BesideLemmas.{beside_unwritten, keeps_same}
use Rattle.rtps_tool.proofs.runs.run_beside.Goals as goal

pub returns-in_err-text : goal.returns-in_err-text
returns-in_err-text g c =
    let p = err_from_is_err_and c.from_residual-in_err-text.result c.from_residual-in_err-text.ensures.1 in
    rw (p.1, p.2) (keeps_same (g.W.Write.contents c.args.output.now))

pub returns-in_err-write_text : goal.returns-in_err-write_text
returns-in_err-write_text g c =
    let p = err_from_is_err_and c.from_residual-in_err-write_text.result c.from_residual-in_err-write_text.ensures.1 in
    let printed = commands.IsTextOf (commands.command_value c.args.options.now.command) in
    let other = c.in_ok-other.other in
    let own = c.in_ok-recording.recording in
    let ending = c.in_ok-text.ending in
    let is = subst (λ (text : List ℕ). printed (Some other) own text ending) (sym c.as_bytes.ensures.value) c.in_ok-text.ensures in
    rw (p.1, p.2) (beside_unwritten c.args.options.now.limits c.args.options.now.captures printed _ _ _ _ _ _ other own c.as_bytes.result.now ending _ c.in_ok-other.ensures c.in_ok-recording.ensures is c.in_err-write_text.ensures)
