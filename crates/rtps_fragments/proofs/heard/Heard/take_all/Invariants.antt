use Rattle.std.proofs.Common.{◌≡◌, ℕ, ◌-◌, ◌++◌, List, drop, take}
use Rattle.rtps_fragments.specs.Heard as heard
use Rattle.rtps_wire.specs.DataFrag as data_frag
use Rattle.rtps_fragments.proofs.heard.Heard.take_all.Given as goal

-- what came so far is kept, and the octets that are left are those of the other fragments
abbrev pub invariant-loop-place : goal.invariant-loop-place
invariant-loop-place l =
    ((came : List (ℕ × List ℕ)) → heard.IsHeard l.last came l.fn.self → heard.IsHeard l.last (came ++ heard.came_from l.fragments.first (take l.place (data_frag.parts_in l.fn.shape.fragment l.fragments.count l.fragments.octets.now))) l.self)
    × (drop l.place (data_frag.parts_in l.fn.shape.fragment l.fragments.count l.fragments.octets.now) ≡ data_frag.parts_in l.fn.shape.fragment (l.fragments.count - l.place) l.rest)
