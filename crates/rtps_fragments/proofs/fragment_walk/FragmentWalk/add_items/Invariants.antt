use Rattle.std.proofs.Common.{◌≡◌, [], ◌+◌, ◌<◌, ◌^◌, length}
use Rattle.std.specs.Prelude.{◌||◌, is_some}
use Rattle.rtps_wire.specs.Reading as reading
use Rattle.rtps_wire.specs.Tally as tally
use Rattle.rtps_fragments.specs.FragmentWalk as fragment_walk
use Rattle.rtps_fragments.proofs.FragmentWalkLemmas.{IsReading}
use Rattle.rtps_fragments.proofs.fragment_walk.FragmentWalk.add_items.Given as goal

-- what is read so far and what is left are all
abbrev pub invariant-items : goal.invariant-items
invariant-items l =
    let left = reading.outcomes_left l.items in
    let all = reading.outcomes_left l.fn.items in
    record {
      few : l.self.unusable + length l.self.sents.items + length left < 2 ^ 64;
      few_skipped : l.self.plain.skipped + length left < 2 ^ 64;
      few_fragments : l.self.plain.fragments + length left < 2 ^ 64;
      skipped : l.self.plain.skipped + tally.skipped_in (reading.items_among left) ≡ tally.skipped_in (reading.items_among all);
      fragments : l.self.plain.fragments + tally.fragments_in (reading.items_among left) ≡ tally.fragments_in (reading.items_among all);
      refused : (l.self.plain.refused || is_some (reading.refusal_among left)) ≡ is_some (reading.refusal_among all);
      reading : fragment_walk.IsFragmentWalk [] 0 l.fn.self
          → IsReading (fragment_walk.piece_acts_behind l.datagram l.state (reading.items_among left)) (fragment_walk.piece_acts_behind l.datagram l.fn.start (reading.items_among all)) (fragment_walk.unusable_among l.datagram (reading.items_among left))
          (fragment_walk.unusable_among l.datagram (reading.items_among all)) l.self;
    }

abbrev pub decreases-items : goal.decreases-items
decreases-items l = length (reading.outcomes_left l.items)
