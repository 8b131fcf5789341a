use Rattle.std.proofs.Common.{◌∙◌, Some, ap, sym}
use Rattle.rtps_audit.specs.Placed as placed
use Rattle.rtps_evidence.specs.Locations as locations
use Rattle.rtps_evidence.proofs.FindLemmas.{first_kept, first_noted, first_passed}
use Rattle.rtps_evidence.proofs.teller.teller_with.Goals as goal

pub returns-then-is_some : goal.returns-then-is_some
returns-then-is_some c = λ acts is. first_kept (locations.teller_at) (locations.tells c.args.pair.writer c.args.pair.reader c.args.number) acts (placed.placed_value c.args.placed.now) c.args.found (sym c.is_some.ensures ∙ c.if-is_some.true) is

pub returns-then-tells : goal.returns-then-tells
returns-then-tells c = λ acts is.
    ap Some c.teller_at.ensures ∙ first_noted (locations.teller_at) (locations.tells c.args.pair.writer c.args.pair.reader c.args.number) acts (placed.placed_value c.args.placed.now) c.args.found (sym c.is_some.ensures ∙ c.if-is_some.false) (sym c.tells.ensures ∙ c.if-tells.true) is

pub returns : goal.returns
returns c = λ acts is. first_passed (locations.teller_at) (locations.tells c.args.pair.writer c.args.pair.reader c.args.number) acts (placed.placed_value c.args.placed.now) c.args.found (sym c.tells.ensures ∙ c.if-tells.false) is
