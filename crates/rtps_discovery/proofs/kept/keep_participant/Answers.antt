use Rattle.std.proofs.Common.{sym, ◌∙◌}
use Rattle.std.proofs.lemmas.Bool.{false≢true}
use Rattle.std.proofs.lemmas.Result.{err_from_is_err_and}
use Rattle.rtps_discovery.proofs.Participants.{Contains-has, participant_added}
use Rattle.rtps_discovery.proofs.kept.keep_participant.Goals as goal

pub returns-clause-ok : goal.returns-clause-ok
returns-clause-ok c = λ announced were.
    participant_added announced c.args.participants.now.keys c.insert.new.self.keys c.args.guid c.in_ok-insert.ensures.ordered c.in_ok-insert.ensures.updates.0 were

pub returns-in_err-insert-clause-absent : goal.returns-in_err-insert-clause-absent
returns-in_err-insert-clause-absent c =
    let p = err_from_is_err_and c.from_residual.result c.from_residual.ensures.1 in
    rw p.1 (λ there. false≢true (sym c.in_err-insert.ensures.absent ∙ Contains-has c.args.participants.now.keys c.args.guid there))
