use Rattle.std.proofs.Common.{◌++◌, ◌∷◌, []}
use Rattle.rtps_audit.specs.Placed as placed
use Rattle.rtps_evidence.proofs.NewcomerLemmas.{spanning_more, spanning_still}
use Rattle.rtps_evidence.proofs.span.Spanning.hear.Goals as goal

pub returns-in-Some : goal.returns-in-Some
returns-in-Some c = λ from pair intake acts is.
    spanning_more from pair intake acts (acts ++ placed.placed_value c.args.placed.now ∷ []) c.args.self.now c.in-Some.newcomer c.hear.new.self c.in-Some.is (c.hear.ensures acts) is

pub returns-in_default : goal.returns-in_default
returns-in_default c = λ from pair intake acts is. spanning_still from pair intake acts (acts ++ placed.placed_value c.args.placed.now ∷ []) c.args.self.now c.in_default.is is
