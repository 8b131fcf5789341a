use Rattle.rtps_receiver.specs.Values as values
use Rattle.rtps_audit.proofs.account.Account.hear.Goals as goal

pub returns-clause-again : goal.returns-clause-again
returns-clause-again g c = λ n comes. c.had_payload_of-again.ensures (values.spoken_value c.args.act.now) n c.requires comes
