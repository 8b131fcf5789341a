use Rattle.std.proofs.Common.{◌∙◌, Some, ap, sym}
use Rattle.rtps_audit.specs.Placed as placed
use Rattle.rtps_evidence.specs.Locations as locations
use Rattle.rtps_evidence.specs.Missed as missed
use Rattle.rtps_evidence.proofs.FindLemmas.{first_kept, first_noted, first_passed}
use Rattle.rtps_evidence.proofs.first_missed.FirstMissed.gone_with.Goals as goal

pub returns-then-is_some : goal.returns-then-is_some
returns-then-is_some c = λ acts is. first_kept locations.teller_at (missed.withdraws_behind c.args.self.now.asked c.args.pair.writer c.args.pair.reader c.args.self.now.number) acts (placed.placed_value c.args.placed.now) c.args.self.now.gone (sym c.is_some.ensures ∙ c.if-is_some.true) is

pub returns-then-withdraws_behind : goal.returns-then-withdraws_behind
returns-then-withdraws_behind c = λ acts is.
    ap Some c.teller_at.ensures ∙ first_noted locations.teller_at (missed.withdraws_behind c.args.self.now.asked c.args.pair.writer c.args.pair.reader c.args.self.now.number) acts (placed.placed_value c.args.placed.now) c.args.self.now.gone (sym c.is_some.ensures ∙ c.if-is_some.false) (sym c.withdraws_behind.ensures ∙ c.if-withdraws_behind.true) is

pub returns : goal.returns
returns c = λ acts is. first_passed locations.teller_at (missed.withdraws_behind c.args.self.now.asked c.args.pair.writer c.args.pair.reader c.args.self.now.number) acts (placed.placed_value c.args.placed.now) c.args.self.now.gone (sym c.withdraws_behind.ensures ∙ c.if-withdraws_behind.false) is
