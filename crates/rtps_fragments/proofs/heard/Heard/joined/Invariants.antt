use Rattle.std.proofs.Common.{◌≡◌, ℕ, List, Some, take}
use Rattle.std.specs.List.{concat}
use Rattle.rtps_fragments.specs.Heard as heard
use Rattle.rtps_wire.specs.DataFrag as data_frag
use Rattle.rtps_fragments.specs.Samples as samples
use Rattle.rtps_fragments.proofs.heard.Heard.joined.Given as goal

-- the octets of each fragment so far
abbrev pub invariant-loop-place : goal.invariant-loop-place
invariant-loop-place l =
    (came : List (ℕ × List ℕ)) (parts : List (List ℕ)) → heard.IsHeard (data_frag.last_fragment l.fn.shape) came l.self → samples.firsts_of came (data_frag.last_fragment l.fn.shape) ≡ Some parts → l.sample.items ≡ concat (take l.place (heard.with_part parts l.other.0 l.other.1.now))
