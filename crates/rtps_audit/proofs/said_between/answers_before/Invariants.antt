use Rattle.std.proofs.Common.{◌≡◌, nat_lt, filter, take}
use Rattle.rtps_audit.specs.declared.answer.Answer.{Answer}
use Rattle.rtps_audit.proofs.said_between.answers_before.Given as goal

-- those so far stand before the datagram
abbrev pub invariant-loop-place : goal.invariant-loop-place
invariant-loop-place l = filter (λ (at : Answer). nat_lt at.datagram l.datagram) (take l.place l.answers) ≡ take l.place l.answers
