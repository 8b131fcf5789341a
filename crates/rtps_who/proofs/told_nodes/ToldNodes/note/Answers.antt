use Rattle.rtps_receiver.specs.Values as values
use Rattle.rtps_who.proofs.ToldLemmas.{nothing_told, sample_told}
use Rattle.rtps_who.proofs.told_nodes.ToldNodes.note.Goals as goal

pub returns-in_default : goal.returns-in_default
returns-in_default c = λ announcing acts introduced were. nothing_told announcing acts (values.spoken_value c.args.act.now) c.args.self.now (c.in_default.ensures announcing introduced) were

pub returns : goal.returns
returns c = λ announcing acts introduced were.
    sample_told announcing acts (values.spoken_value c.args.act.now) c.args.self.now (record { samples = c.insert.new.self; listed = c.list.new.listed }) c.args.act.now.source c.in-Some.sample (c.in-Some.ensures announcing introduced)
    (λ prefix. c.in_ok-insert.ensures.updates.0 prefix) c.in_ok-list.ensures were
