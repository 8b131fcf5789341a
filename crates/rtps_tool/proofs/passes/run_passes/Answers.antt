use Rattle.std.proofs.Common.{None}
use Rattle.std.specs.Prelude.{string_bytes}
use Rattle.std.proofs.KnownBytes.{Keeps-refl}
use Rattle.std.proofs.lemmas.Result.{err_from_is_err_and}
use Rattle.rtps_tool.specs.Commands as commands
use Rattle.rtps_tool.proofs.PassesLemmas.{reading_fails, told_runs}
use Rattle.rtps_tool.proofs.passes.run_passes.Goals as goal

pub returns-in_err-told : goal.returns-in_err-told
returns-in_err-told g c =
    let p = err_from_is_err_and c.from_residual.result c.from_residual.ensures.1 in
    let options = c.args.options.now in
    let held = g.W.Write.contents c.args.output.now in
    rw (p.1, p.2)
    (reading_fails options.limits options.captures (commands.IsTextOf (commands.command_value options.command) None) (g.S.Source.octets c.args.input.now.source) held held c.in_err-told.field-0.0 (Keeps-refl held)
    c.in_err-told.ensures.fault c.in_err-told.ensures.known)

pub returns-in-Some : goal.returns-in-Some
returns-in-Some g c =
    let options = c.args.options.now in
    let IsPrinted = commands.IsTextOf (commands.command_value options.command) None in
    told_runs options.limits options.captures IsPrinted (g.S.Source.octets c.args.input.now.source) (g.W.Write.contents c.args.output.now) (g.W.Write.contents c.write_told.new.output) (string_bytes c.in-Some.told.0) c.in-Some.told.1
    c.write_told.result c.write_told.ensures
    (λ all known. rw c.in-Some.is at (c.in_ok-told.ensures.known all known))
