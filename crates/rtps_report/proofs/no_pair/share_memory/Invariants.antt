use Rattle.std.proofs.Common.{◌≡◌, false, take}
use Rattle.std.specs.List.{list_any}
use Rattle.rtps_report.proofs.no_pair.share_memory.Given as goal

-- none so far shares memory
abbrev pub invariant-loop-participant : goal.invariant-loop-participant
invariant-loop-participant l = list_any (λ one. one.host.shares_memory) (take l.participant-index l.participants) ≡ false
