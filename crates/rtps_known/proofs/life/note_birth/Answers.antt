use Rattle.std.proofs.Common.{◌∙◌}
use Rattle.rtps_receiver.specs.Values as values
use Rattle.rtps_known.proofs.BirthLemmas.{birth_more, no_birth}
use Rattle.rtps_known.proofs.life.note_birth.Goals as goal

pub returns-in_default : goal.returns-in_default
returns-in_default c = λ acts were. no_birth acts (values.spoken_value c.args.act.now) c.args.births.now.entries c.in_default.ensures were

pub returns : goal.returns
returns c = λ acts were.
    birth_more acts (values.spoken_value c.args.act.now) c.args.births.now.entries c.insert.new.self.entries c.in-Some.birth c.in-Some.stamp c.copied-kept.result c.with_stamp-sent.result c.in-Some.ensures
    (c.copied-kept.ensures ∙ c.get.ensures.value) c.with_stamp-sent.ensures (λ other. c.in_ok-insert.ensures.updates.0 other) were
