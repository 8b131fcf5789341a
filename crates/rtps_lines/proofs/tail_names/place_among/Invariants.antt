use Rattle.std.proofs.Common.{◌≡◌, map, take}
use Rattle.std.specs.Prelude.{nat_lt}
use Rattle.std.specs.List.{position_or_len}
use Rattle.rtps_lines.specs.TailNames as tail_names
use Rattle.rtps_lines.proofs.tail_names.place_among.Given as goal

-- none so far is shorter
abbrev pub invariant-loop-place : goal.invariant-loop-place
invariant-loop-place l = position_or_len (λ one. nat_lt one.longest l.fn.longest) (map tail_names.tail_value (take l.place l.fn.tails)) ≡ l.place
