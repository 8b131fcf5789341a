-- What is kept of the fragments of one sample that came. own: of each fragment the octets that came first, and the first fragment that
-- came with others, are all that the samples are put together of.
use Rattle.std.specs.Prelude.{ℕ, zero, suc, ◌<◌, ◌≤◌, ◌≡◌, ◌==◌, if◌then◌else◌, List, [], ◌∷◌, Option, Some, None, length, option_copied, slice_get, slice_set}
use Rattle.std.specs.BTreeMap.{get}
use Rattle.std.specs.List.{find}
use Rattle.std.specs.Option.{option_or}
use Rattle.std.specs.Ordering.{nat_cmp}
use Rattle.rtps_fragments.specs.Samples as samples
use Rattle.rtps_fragments.specs.declared.heard.Heard.{Heard}

-- the octets that are kept for a fragment
abbrev pub kept_first : Heard → ℕ → Option (List ℕ)
kept_first kept zero = option_copied (get nat_cmp kept.ahead zero)
kept_first kept (suc i) = option_or (option_copied (slice_get kept.front.items i)) (option_copied (get nat_cmp kept.ahead (suc i)))

-- each fragment up to this one came
abbrev pub kept_front : Heard → ℕ
kept_front kept = length kept.front.items

-- the fragment that is kept with other octets
abbrev pub kept_other : Heard → Option (ℕ × List ℕ)
kept_other kept = if kept.other == 0 then None else Some (kept.other, kept.octets.now)

-- What is kept is what came, of a sample with so many fragments.
pub record IsHeard (last : ℕ) (came : List (ℕ × List ℕ)) (kept : Heard) : Type 0 where
  pub firsts : (i : ℕ) → kept_first kept i ≡ samples.first_of came i
  pub within : kept_front kept ≤ last
  pub next : kept_front kept < last → samples.first_of came (suc (kept_front kept)) ≡ None
  pub other : kept_other kept ≡ find (samples.is_other came) came

-- consecutive fragments with these octets, from this one on
abbrev pub came_from : ℕ → List (List ℕ) → List (ℕ × List ℕ)
came_from i [] = []
came_from i (octets ∷ parts) = (i, octets) ∷ came_from (suc i) parts

-- the octets of all fragments, with these in place of those of the fragment; of none where it is 0
abbrev pub with_part : List (List ℕ) → ℕ → List ℕ → List (List ℕ)
with_part parts zero octets = parts
with_part parts (suc i) octets = slice_set parts i octets
