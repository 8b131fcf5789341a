use Rattle.std.proofs.Common.{◌≡◌, ◌∙◌, ◌&&◌, Bool, true, false, ap, not, refl}
use Rattle.rtps_audit.specs.Placed as placed
use Rattle.rtps_coverage.specs.Stretches as stretches
use Rattle.rtps_evidence.specs.Missed as missed
use Rattle.rtps_evidence.proofs.excused.missed_of.Goals as goal

-- what is not among these and excused is not excused, of these
without_both : (b e : Bool) → (b && not (b && e)) ≡ (b && not e)
without_both true e = refl
without_both false e = refl

pub returns : goal.returns
returns c = λ recording is n low high.
    let pair = c.args.exchange.now.pair in
    let has = stretches.stretches_have c.args.unmet.now in
    let excused = missed.is_excused pair.writer pair.reader (placed.placed_in recording) in
    c.in_ok-missed.ensures n low high
    ∙ ap (λ b. has n && not b) (ap (λ l. stretches.stretches_have l n) c.deref.ensures.value ∙ c.in_ok-excused.ensures recording is n)
    ∙ without_both (has n) (excused n)
