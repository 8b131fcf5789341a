use Rattle.std.proofs.Common.{Bor, ◌∙◌, ℕ, List, is_some, sym}
use Rattle.rtps_report.specs.Stays as stays
use Rattle.rtps_report.proofs.AnyLemmas.{any_at}
use Rattle.rtps_report.proofs.no_pair.is_rtps.Goals as goal

pub returns-then-has_header : goal.returns-then-has_header
returns-then-has_header c =
    sym (any_at (λ (one : Bor (List ℕ)). one.now) (λ datagram. is_some (stays.sender_of datagram)) c.args.recording.now c.loop-datagram.datagram-index _ c.loop-datagram-test.true
    (sym c.has_header.ensures ∙ c.if-has_header.true))
