use Rattle.std.proofs.Common.{◌∙◌, ◌+◌, ℕ, Bool, ap₂, arith, sym}
use Rattle.std.specs.BTreeSet.{contains}
use Rattle.rtps_discovery.specs.GuidOrder as guid_order
use Rattle.rtps_report.specs.declared.participant.Participant.{Participant}
use Rattle.rtps_report.proofs.NotToldLemmas.{bit_small, counted_more}
use Rattle.rtps_report.proofs.not_told.count_among.Goals as goal

pub loop-participant-preserved : goal.loop-participant-preserved
loop-participant-preserved c =
    let p : Participant → Bool = λ participant. contains guid_order.guid_cmp c.args.those.now participant.guid in
    let more = counted_more p c.args.participants.now c.loop-participant.participant-index _ c.contains.result c.loop-participant-test.true (sym c.contains.ensures) in (
      ap₂ (λ (a b : ℕ). a + b) c.loop-participant.invariant.0 c.from-count.ensures ∙ more,
      omega (arith, c.loop-participant.invariant.1, c.from-count.ensures, bit_small c.contains.result),
    )
