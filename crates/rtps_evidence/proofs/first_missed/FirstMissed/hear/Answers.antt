use Rattle.std.proofs.Common.{◌∙◌, ◌||◌, ap, sym}
use Rattle.rtps_audit.specs.Placed as placed
use Rattle.rtps_evidence.specs.Missed as missed
use Rattle.rtps_evidence.proofs.MissedLemmas.{missed_more}
use Rattle.rtps_evidence.proofs.first_missed.FirstMissed.hear.Goals as goal

pub returns-then-self-clause-missed : goal.returns-then-self-clause-missed
returns-then-self-clause-missed c = λ asked acts are.
    let pair = c.args.pair in
    let old = c.args.self.now in
    let x = placed.placed_value c.args.placed.now in
    missed_more pair.writer pair.reader asked acts x old c.again_with-again.result c.gone_with-gone.result old.is_sent (c.again_with-again.ensures acts) (c.gone_with-gone.ensures acts)
    (c.if-self.true ∙ ap (λ b. b || missed.brings pair.writer pair.reader old.number x) (sym c.if-self.true)) are

pub returns-else-self-clause-missed : goal.returns-else-self-clause-missed
returns-else-self-clause-missed c = λ asked acts are.
    let pair = c.args.pair in
    let old = c.args.self.now in
    let x = placed.placed_value c.args.placed.now in
    missed_more pair.writer pair.reader asked acts x old c.again_with-again.result c.gone_with-gone.result _ (c.again_with-again.ensures acts) (c.gone_with-gone.ensures acts)
    (c.brings.ensures ∙ ap (λ b. b || missed.brings pair.writer pair.reader old.number x) (sym c.if-self.false)) are
