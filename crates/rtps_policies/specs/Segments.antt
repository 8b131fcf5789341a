-- The parts of a pattern up to its first `*`, held against the beginning of a name. own: each of them stands for one octet, so
-- one place of a name is tried at a time, and what was tried is not tried again.
use Rattle.std.specs.Prelude.{ℕ, ◌≡◌, ◌≤◌, ◌<◌, true, false, if◌then◌else◌, List, [], ◌∷◌, ◌++◌, Option, Some, None, drop, length}
use Rattle.rtps_policies.specs.NamePatterns as name_patterns
use Rattle.rtps_policies.specs.declared.name_pattern.Part.{Part}
use Rattle.rtps_policies.specs.declared.name_pattern.Segment.{Segment}

-- what a part of the code stands for
abbrev pub part_value : Part → name_patterns.PartValue
part_value (Part.Octet octet) = name_patterns.PartValue.Octet octet
part_value Part.One = name_patterns.PartValue.One
part_value Part.Many = name_patterns.PartValue.Many
part_value (Part.Among outside members) = name_patterns.PartValue.Among outside members.now

-- a pattern begins with this part, and this is behind it
pub record IsFront (pattern : List ℕ) (first : name_patterns.PartValue) (behind : List ℕ) : Type 0 where
  pub parts : name_patterns.parts_of pattern ≡ first ∷ name_patterns.parts_of behind
  pub shorter : length behind < length pattern

-- an opening bracket before these octets begins this part, and this is behind it
abbrev pub IsOpened : List ℕ → name_patterns.PartValue → List ℕ → Type 0
IsOpened octets first behind = (first ≡ name_patterns.part_of_set (name_patterns.set_in octets)) × (behind ≡ drop (name_patterns.size_of_set (name_patterns.set_in octets)) octets)

-- no part is `*`
abbrev pub AreFixed : List name_patterns.PartValue → Type 0
AreFixed [] = Unit {0}
AreFixed (part ∷ parts) = (name_patterns.is_many part ≡ false) × AreFixed parts

-- what is left of a name behind the octets that parts stand for, each for one
abbrev pub left_behind : List name_patterns.PartValue → List ℕ → Option (List ℕ)
left_behind [] name = Some name
left_behind (part ∷ parts) [] = None
left_behind (part ∷ parts) (octet ∷ name) = if name_patterns.accepts part octet then left_behind parts name else None

-- a pattern has these parts before these octets, none of which is `*`
pub record BeginsWith (pattern : List ℕ) (parts : List name_patterns.PartValue) (behind : List name_patterns.PartValue) : Type 0 where
  pub whole : name_patterns.parts_of pattern ≡ parts ++ behind
  pub fixed : AreFixed parts

-- what came of the parts up to the first `*`
abbrev pub IsSegment : List ℕ → List ℕ → Segment → Type 0
IsSegment pattern name Segment.Failed = name_patterns.fits pattern name ≡ false
IsSegment pattern name Segment.Whole = name_patterns.fits pattern name ≡ true
IsSegment pattern name (Segment.Many behind left) =
    (parts : List name_patterns.PartValue) × BeginsWith pattern parts (name_patterns.PartValue.Many ∷ name_patterns.parts_of behind.now) × (left_behind parts name ≡ Some left.now)
    × (length behind.now < length pattern) × (length left.now ≤ length name)

-- what came of the parts up to the first `*` behind another `*`: at the first place of the name where they stand
abbrev pub IsLaterSegment : List ℕ → List ℕ → Segment → Type 0
IsLaterSegment pattern name Segment.Failed = name_patterns.fits_parts (name_patterns.PartValue.Many ∷ name_patterns.parts_of pattern) name ≡ false
IsLaterSegment pattern name Segment.Whole = name_patterns.fits_parts (name_patterns.PartValue.Many ∷ name_patterns.parts_of pattern) name ≡ true
IsLaterSegment pattern name (Segment.Many behind left) =
    (name_patterns.fits_parts (name_patterns.PartValue.Many ∷ name_patterns.parts_of pattern) name ≡ name_patterns.fits_parts (name_patterns.PartValue.Many ∷ name_patterns.parts_of behind.now) left.now)
    × (length behind.now < length pattern) × (length left.now ≤ length name)
