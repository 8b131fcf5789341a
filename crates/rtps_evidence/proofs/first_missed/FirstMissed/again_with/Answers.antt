use Rattle.std.proofs.Common.{◌∙◌, Some, ap, sym}
use Rattle.rtps_audit.specs.Placed as placed
use Rattle.rtps_evidence.specs.Locations as locations
use Rattle.rtps_evidence.specs.Missed as missed
use Rattle.rtps_evidence.proofs.FindLemmas.{first_kept, first_noted, first_passed}
use Rattle.rtps_evidence.proofs.first_missed.FirstMissed.again_with.Goals as goal

pub returns-then-is_some : goal.returns-then-is_some
returns-then-is_some c = λ acts is. first_kept locations.location_of (missed.brings_behind (Some c.args.self.now.asked) c.args.pair.writer c.args.pair.reader c.args.self.now.number) acts (placed.placed_value c.args.placed.now) c.args.self.now.again (sym c.is_some.ensures ∙ c.if-is_some.true) is

pub returns-then-brings_behind : goal.returns-then-brings_behind
returns-then-brings_behind c = λ acts is.
    ap Some c.location_of.ensures ∙ first_noted locations.location_of (missed.brings_behind (Some c.args.self.now.asked) c.args.pair.writer c.args.pair.reader c.args.self.now.number) acts (placed.placed_value c.args.placed.now) c.args.self.now.again (sym c.is_some.ensures ∙ c.if-is_some.false) (sym c.brings_behind.ensures ∙ c.if-brings_behind.true) is

pub returns : goal.returns
returns c = λ acts is. first_passed locations.location_of (missed.brings_behind (Some c.args.self.now.asked) c.args.pair.writer c.args.pair.reader c.args.self.now.number) acts (placed.placed_value c.args.placed.now) c.args.self.now.again (sym c.brings_behind.ensures ∙ c.if-brings_behind.false) is
