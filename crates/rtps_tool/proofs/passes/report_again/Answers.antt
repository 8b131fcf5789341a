use Rattle.std.proofs.Common.{subst}
use Rattle.std.proofs.lemmas.Result.{err_from_is_err_and}
use Rattle.rtps_audit.specs.Intake as intake
use Rattle.rtps_audit.specs.Speech as speech
use Rattle.rtps_discovery.specs.Directory as directory
use Rattle.rtps_passes.specs.Judging as judging
use Rattle.rtps_tool.specs.Passes as passes
use Rattle.rtps_tool.proofs.passes.report_again.Goals as goal

pub returns-clause-known : goal.returns-clause-known
returns-clause-known g c = λ all known is surveyed.
    let octets = passes.octets_in c.args.first all in
    let acts = intake.acts_together (speech.acts_by_datagram octets) in
    let judged = c.in_ok-judging.ensures.known all acts known is (c.directory.ensures.map (intake.intake_of octets) surveyed) in
    c.compare_again.ensures.known all c.args.from known is surveyed
    (subst (λ (found : directory.DirectoryValue). judging.IsJudgingBy c.args.from (judging.pairs_in found) (speech.acts_by_datagram octets) c.in_ok-judging.judging) c.directory.ensures.value judged)

pub returns-in_err-judging-clause-known : goal.returns-in_err-judging-clause-known
returns-in_err-judging-clause-known g c = λ all known is surveyed.
    let p = err_from_is_err_and c.from_residual.result c.from_residual.ensures.1 in
    let octets = passes.octets_in c.args.first all in
    rw (p.1, p.2) (c.in_err-judging.ensures.known all (intake.acts_together (speech.acts_by_datagram octets)) known is (c.directory.ensures.map (intake.intake_of octets) surveyed))
