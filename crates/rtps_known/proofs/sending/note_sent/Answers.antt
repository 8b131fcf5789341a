use Rattle.std.proofs.Common.{◌∙◌, sym}
use Rattle.rtps_known.proofs.SendingLemmas.{sent_before, sent_now}
use Rattle.rtps_known.proofs.sending.note_sent.Goals as goal

pub returns-then-was_sent : goal.returns-then-was_sent
returns-then-was_sent c = sent_before c.args.sent.now c.args.hearing.sending.number c.args.hearing.sending.dest c.args.hearing.place (sym c.was_sent.ensures ∙ c.if-was_sent.true)

pub returns : goal.returns
returns c =
    sent_now c.args.sent.now c.insert.new.self c.args.hearing.sending.number c.args.hearing.sending.dest c.args.hearing.place (sym c.was_sent.ensures ∙ c.if-was_sent.false)
    (λ other. c.in_ok-insert.ensures.updates.0 other)
