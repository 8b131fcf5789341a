use Rattle.std.proofs.Common.{None}
use Rattle.std.proofs.KnownBytes.{Keeps-refl}
use Rattle.std.proofs.lemmas.Result.{err_from_is_err_and}
use Rattle.rtps_tool.specs.Commands as commands
use Rattle.rtps_tool.specs.declared.faults.RunFault.{RunFault}
use Rattle.rtps_tool.proofs.PassesLemmas.{reading_fails, runs_once}
use Rattle.rtps_tool.proofs.passes.run_once.Goals as goal

pub returns-in_err-rewind : goal.returns-in_err-rewind
returns-in_err-rewind g c =
    let p = err_from_is_err_and c.from_residual.result c.from_residual.ensures.1 in
    let options = c.args.options.now in
    let held = g.W.Write.contents c.args.output.now in
    rw (p.1, p.2, c.in_err-rewind.ensures)
    (reading_fails options.limits options.captures (commands.IsTextOf (commands.command_value options.command) None) (g.S.Source.octets c.args.input.now.source) held held RunFault.Input (Keeps-refl held) tt (λ all known. (None, tt)))

pub returns : goal.returns
returns g c =
    let options = c.args.options.now in
    runs_once options.limits options.captures (commands.IsTextOf (commands.command_value options.command) None) (g.S.Source.octets c.args.input.now.source) (g.R.Read.remaining c.rewind.new.reader) _ _ _ c.run.result
    c.in_ok-rewind.ensures c.run.ensures
