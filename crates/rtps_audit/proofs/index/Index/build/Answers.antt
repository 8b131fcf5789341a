use Rattle.std.proofs.Common.{◌∙◌, ap, arith, map, subst, take}
use Rattle.std.proofs.lemmas.List.{take_all}
use Rattle.rtps_wire.specs.Reading as reading
use Rattle.rtps_receiver.specs.Acts as acts
use Rattle.rtps_audit.specs.Index as index
use Rattle.rtps_audit.specs.Intake as intake
use Rattle.rtps_audit.specs.declared.report.Counts.{Counts}
use Rattle.rtps_audit.proofs.IntakeLemmas.{intake_on}
use Rattle.rtps_audit.proofs.PlacedActs.{octets_of, read_count}
use Rattle.rtps_audit.proofs.index.Index.build.Goals as goal

pub loop-datagram-init : goal.loop-datagram-init
loop-datagram-init c = c.new-index.ensures

pub note-requires : goal.note-requires
note-requires c =
    let recording = c.args.recording.now in
    let i = c.loop-datagram.datagram-index in
    let counted = ap (λ (counts : Counts). counts.datagrams) (c.loop-datagram.invariant.counts 0) ∙ read_count (λ datagram. acts.acts_of (reading.reading_of datagram)) recording i (omega (arith, c.loop-datagram-test.true)) in
    omega (arith, counted, c.loop-datagram-test.true)

pub loop-datagram-preserved : goal.loop-datagram-preserved
loop-datagram-preserved c =
    let recording = c.args.recording.now in
    let i = c.loop-datagram.datagram-index in
    subst (λ intake. index.IsIndexBy intake c.note.new.self)
    (intake_on recording i _ _ _ _ c.loop-datagram-test.true c.in_ok-tally.ensures.tally (c.acts.ensures ∙ c.in_ok-tally.ensures.acts) (c.acts-in-loop-datagram.ensures ∙ c.in_ok-tally.ensures.acts))
    (c.in_ok-note.ensures (intake.intake_of (octets_of (take i recording))) c.loop-datagram.invariant)

pub returns : goal.returns
returns c =
    subst (λ l. index.IsIndexOf (map (λ datagram. datagram.now) l) c.loop-datagram.index)
    (take_all c.loop-datagram.datagram-index c.args.recording.now (omega (arith, c.loop-datagram-test.false))) c.loop-datagram.invariant
