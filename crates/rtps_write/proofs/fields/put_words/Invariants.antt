use Rattle.std.proofs.Common.{◌≡◌, ◌≤◌, ◌++◌, take, vec_capacity}
use Rattle.std.specs.List.{flat_map}
use Rattle.rtps_ids.specs.Octets as octets
use Rattle.rtps_write.proofs.fields.put_words.Given as goal

-- the words up to here are written
abbrev pub invariant-loop-i : goal.invariant-loop-i
invariant-loop-i l = record {
  items : l.out.items ≡ l.initial.out.items ++ flat_map (octets.octets_of l.order 4) (take l.i l.set.words);
  room : vec_capacity l.initial.out ≤ vec_capacity l.out;
}
