use Rattle.rtps_receiver.specs.Values as values
use Rattle.rtps_known.proofs.SendingLemmas.{asked_all, asked_more, asked_none}
use Rattle.rtps_known.proofs.asking.note_asked.Goals as goal

pub loop-number-init : goal.loop-number-init
loop-number-init c =
    asked_none c.args.sent.now c.args.bases.now (values.spoken_value c.args.act.now) c.args.again.now c.window-asked.result.lo c.window-asked.result.hi c.window-asked.ensures.among

pub loop-number-preserved : goal.loop-number-preserved
loop-number-preserved c =
    asked_more c.args.sent.now c.args.bases.now (values.spoken_value c.args.act.now) c.args.again.now c.loop-number.again c.open_if.new.again c.loop-number.number c.may_open-open.result
    c.may_open-open.ensures c.in_ok-open_if.ensures c.loop-number.invariant

pub returns : goal.returns
returns c =
    asked_all c.args.sent.now c.args.bases.now (values.spoken_value c.args.act.now) c.args.again.now c.loop-number.again c.window-asked.result.lo c.window-asked.result.hi c.loop-number.number
    c.loop-number-test.false c.window-asked.ensures.among c.loop-number.invariant
