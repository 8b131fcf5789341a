use Rattle.std.proofs.Common.{◌∙◌, sym}
use Rattle.rtps_audit.specs.Placed as placed
use Rattle.rtps_evidence.specs.Spans as spans
use Rattle.rtps_evidence.proofs.FindLemmas.{first_kept, first_noted, first_passed}
use Rattle.rtps_evidence.proofs.span.left_with.Goals as goal

pub returns-then-is_some : goal.returns-then-is_some
returns-then-is_some c = λ acts is. first_kept (λ (at : placed.PlacedValue). at.datagram) (spans.leaves_behind c.args.place c.args.reader) acts (placed.placed_value c.args.placed.now) c.args.left (sym c.is_some.ensures ∙ c.if-is_some.true) is

pub returns-then-leaves_behind : goal.returns-then-leaves_behind
returns-then-leaves_behind c = λ acts is.
    first_noted (λ (at : placed.PlacedValue). at.datagram) (spans.leaves_behind c.args.place c.args.reader) acts (placed.placed_value c.args.placed.now) c.args.left (sym c.is_some.ensures ∙ c.if-is_some.false) (sym c.leaves_behind.ensures ∙ c.if-leaves_behind.true) is

pub returns : goal.returns
returns c = λ acts is. first_passed (λ (at : placed.PlacedValue). at.datagram) (spans.leaves_behind c.args.place c.args.reader) acts (placed.placed_value c.args.placed.now) c.args.left (sym c.leaves_behind.ensures ∙ c.if-leaves_behind.false) is
