use Rattle.std.proofs.Common.{◌≡◌, filter, map, take}
use Rattle.rtps_page.proofs.chart_room.pairs_of.Given as goal

abbrev pub invariant-loop-need : goal.invariant-loop-need
invariant-loop-need l = l.pairs.items ≡ map (λ need. need.pair) (filter (λ need. need.charted) (take l.need-index l.needs))
