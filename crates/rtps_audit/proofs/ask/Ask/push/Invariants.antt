use Rattle.std.proofs.Common.{◌≡◌, ◌++◌, map, take}
use Rattle.rtps_audit.proofs.AskLemmas.{ask_at}
use Rattle.rtps_audit.proofs.ask.Ask.push.Given as goal

-- the asks of the answers so far
abbrev pub invariant-loop-answer : goal.invariant-loop-answer
invariant-loop-answer l = l.asks.items ≡ l.fn.asks.items ++ map (ask_at l.place) (take l.answer-index l.answers)
