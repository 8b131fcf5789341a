use Rattle.std.proofs.Common.{arith}
use Rattle.rtps_receiver.specs.Values as values
use Rattle.rtps_audit.proofs.AccountsLemmas.{all_stand_on}
use Rattle.rtps_audit.proofs.accounts.Accounts.hear.Goals as goal

pub returns-clause-counted : goal.returns-clause-counted
returns-clause-counted g c = c.in_ok-take.ensures.heard.counted

pub returns-clause-stand : goal.returns-clause-stand
returns-clause-stand g c = λ from datagram writer pairs placed asks is behind known.
    all_stand_on g.C.Coverage.covered from datagram writer pairs placed asks (record { datagram = datagram; act = values.spoken_value c.args.act.now }) c.args.self.now c.take.new.self is (omega arith) behind c.in_ok-take.ensures known
