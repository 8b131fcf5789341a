use Rattle.std.proofs.Common.{filter, refl}
use Rattle.rtps_audit.specs.Placed as placed
use Rattle.rtps_evidence.proofs.NewcomerLemmas.{span_elsewhere, span_here}
use Rattle.rtps_evidence.proofs.span.Spanning.span.Goals as goal

pub returns-in-Some : goal.returns-in-Some
returns-in-Some c = λ from pair intake is notes spanning.
    span_here from pair intake c.args.self.now c.in-Some.newcomer _ c.in-Some.is spanning refl refl refl (c.first_number.ensures intake is notes)

pub returns-in-None : goal.returns-in-None
returns-in-None c = λ from pair intake is notes spanning. span_elsewhere from pair intake (filter (placed.is_from pair.writer) (placed.placed_in intake.acts)) c.args.self.now c.in-None.is spanning
