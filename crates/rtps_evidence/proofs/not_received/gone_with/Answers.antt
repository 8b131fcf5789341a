use Rattle.std.proofs.Common.{◌∙◌, Some, ap, sym}
use Rattle.rtps_audit.specs.Placed as placed
use Rattle.rtps_evidence.specs.Locations as locations
use Rattle.rtps_evidence.specs.Received as received
use Rattle.rtps_evidence.proofs.FindLemmas.{first_kept, first_noted, first_passed}
use Rattle.rtps_evidence.proofs.not_received.gone_with.Goals as goal

pub returns-then-is_some : goal.returns-then-is_some
returns-then-is_some c = λ acts is. first_kept (locations.teller_at) (received.withdraws_before c.args.pair.writer c.args.pair.reader c.args.claimed.number c.args.claimed.datagram) acts (placed.placed_value c.args.placed.now) c.args.found (sym c.is_some.ensures ∙ c.if-is_some.true) is

pub returns-then-withdraws_before : goal.returns-then-withdraws_before
returns-then-withdraws_before c = λ acts is.
    ap Some c.teller_at.ensures ∙ first_noted (locations.teller_at) (received.withdraws_before c.args.pair.writer c.args.pair.reader c.args.claimed.number c.args.claimed.datagram) acts (placed.placed_value c.args.placed.now) c.args.found (sym c.is_some.ensures ∙ c.if-is_some.false) (sym c.withdraws_before.ensures ∙ c.if-withdraws_before.true) is

pub returns : goal.returns
returns c = λ acts is. first_passed (locations.teller_at) (received.withdraws_before c.args.pair.writer c.args.pair.reader c.args.claimed.number c.args.claimed.datagram) acts (placed.placed_value c.args.placed.now) c.args.found (sym c.withdraws_before.ensures ∙ c.if-withdraws_before.false) is
