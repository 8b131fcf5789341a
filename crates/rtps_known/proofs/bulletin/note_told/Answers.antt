use Rattle.std.proofs.Common.{refl}
use Rattle.rtps_receiver.specs.Values as values
use Rattle.rtps_known.proofs.BulletinLemmas.{timed_more, untimed}
use Rattle.rtps_known.proofs.bulletin.note_told.Goals as goal

pub returns-in_default : goal.returns-in_default
returns-in_default c = λ acts were. untimed acts (values.spoken_value c.args.act.now) c.args.time c.args.told.now.entries c.in_default.is were

pub returns : goal.returns
returns c = λ acts were.
    timed_more acts (values.spoken_value c.args.act.now) c.args.time c.in-Some.time
    (record { dest = c.args.act.now.dest; lo = c.numbers_told-numbers.result.lo; hi = c.numbers_told-numbers.result.hi })
    c.args.told.now.entries c.keep_least.new.told.entries c.in-Some.is refl c.numbers_told-numbers.ensures c.in_ok-keep_least.ensures were
