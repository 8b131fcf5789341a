use Rattle.std.proofs.Common.{◌≡◌, take}
use Rattle.rtps_page.specs.ChartRoom as chart_room
use Rattle.rtps_page.proofs.chart_room.give_all.Given as goal

abbrev pub invariant-loop-need : goal.invariant-loop-need
invariant-loop-need l = record {
  room : l.left ≡ (chart_room.given_from l.fn.turn l.fn.room (take l.need-index l.needs)).room;
  needs : l.given.items ≡ (chart_room.given_from l.fn.turn l.fn.room (take l.need-index l.needs)).needs;
}
