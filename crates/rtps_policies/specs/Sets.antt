-- Sets of patterns as the code reads them, piece by piece. own: the code copies no octet of a pattern.
use Rattle.std.specs.Prelude.{ℕ, ◌≡◌, ◌<◌, List, [], ◌∷◌, Option, Some, None, drop, length}
use Rattle.std.specs.Borrow.{Bor}
use Rattle.rtps_policies.specs.NamePatterns as name_patterns
use Rattle.rtps_policies.specs.declared.name_pattern.Set.{Set}

-- the set that is read behind an opening bracket, if there is one
abbrev pub IsSetIn : List ℕ → Option Set → Type 0
IsSetIn behind None = name_patterns.set_in behind ≡ None
IsSetIn behind (Some set) =
    (size : ℕ) × (name_patterns.set_in behind ≡ Some (record { outside = set.outside; members = set.members.now; size = size })) × (set.behind.now ≡ drop size behind)

-- the first range of the members of a set, and what is behind it
abbrev pub IsFrontRange : List ℕ → Option (ℕ × ℕ × Bor (List ℕ)) → Type 0
IsFrontRange members None = members ≡ []
IsFrontRange members (Some found) = (name_patterns.ranges_of members ≡ (found.0, found.1) ∷ name_patterns.ranges_of found.2.now) × (length found.2.now < length members)
