use Rattle.std.proofs.Common.{◌≡◌, ◌++◌, map, take}
use Rattle.rtps_page.proofs.chart_times.add_answered.Given as goal

abbrev pub invariant-loop-answer : goal.invariant-loop-answer
invariant-loop-answer l = l.numbers.items ≡ l.initial.numbers.items ++ map (λ answer. answer.datagram) (take l.answer-index l.answer-items)
