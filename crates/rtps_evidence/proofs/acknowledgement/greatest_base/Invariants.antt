use Rattle.std.proofs.Common.{◌≡◌, ◌<◌, ◌^◌, map, take}
use Rattle.rtps_audit.specs.Delivery as delivery
use Rattle.rtps_receiver.specs.Said as said
use Rattle.rtps_evidence.proofs.acknowledgement.greatest_base.Given as goal

-- the greatest so far
abbrev pub invariant-loop-answer : goal.invariant-loop-answer
invariant-loop-answer l = record { value : l.greatest ≡ delivery.greatest (map (λ answer. said.natural answer.base) (take l.answer-index l.answers)); in_range : l.greatest < 2 ^ 63 }
