-- Names of partitions, and which of them a pattern stands for. DDS 1.4, 2.2.3.13 "PARTITION", whose patterns are those of POSIX
-- (IEEE Std 1003.1, 2.13 "Pattern Matching Notation"): `*`, `?`, and sets in brackets. own: `^` opens a set as `!` does, which POSIX
-- leaves open. A backslash stands for itself. There are no classes such as `[:alpha:]`: they depend on a locale, and names are octets.
use Rattle.std.specs.Prelude.{ℕ, zero, suc, ◌≡◌, ◌≤◌, ◌+◌, ◌==◌, ◌&&◌, ◌||◌, Any, Bool, true, false, if◌then◌else◌, List, [], ◌∷◌, ◌++◌, Option, Some, None, drop, nat_eq, nat_le, not, position, take}
use Rattle.std.specs.Cmp.Lexicographic.{pointwise}
use Rattle.std.specs.List.{list_any}
use Rattle.std.specs.Option.{option_map}
use Rattle.rtps_policies.specs.declared.layout.pattern.TheConstants as pattern

-- what one octet of a pattern stands for, or several
pub data PartValue : Type 0 where
  Octet : (octet : ℕ) → PartValue
  One : PartValue
  Many : PartValue
  Among : (outside : Bool) → (members : List ℕ) → PartValue

-- a set as it stands behind its opening bracket: whether it is of the octets outside, its members, and how many octets it takes
pub record SetValue : Type 0 where
  pub outside : Bool
  pub members : List ℕ
  pub size : ℕ

-- the set begins with a mark, and is of the octets outside
abbrev pub is_marked : List ℕ → Bool
is_marked [] = false
is_marked (octet ∷ behind) = octet == pattern.MARK || octet == pattern.CARET

-- what is behind the mark, where there is one
abbrev pub without_mark : List ℕ → List ℕ
without_mark behind = if is_marked behind then drop 1 behind else behind

-- where the first closing bracket is that is no member: one that comes first is a member
abbrev pub closing_in : List ℕ → Option ℕ
closing_in body = option_map (λ place. place + 1) (position (λ octet. octet == pattern.CLOSING) (drop 1 body))

-- the set whose opening bracket is before these octets; None where no bracket closes it
abbrev pub set_in : List ℕ → Option SetValue
set_in behind =
    option_map (λ place. record {
      outside = is_marked behind;
      members = take place (without_mark behind);
      size = (if is_marked behind then 1 else 0) + (place + 1);
    }) (closing_in (without_mark behind))

-- the part that an opening bracket begins: a set, or the bracket itself where nothing closes it
abbrev pub part_of_set : Option SetValue → PartValue
part_of_set None = Octet pattern.OPENING
part_of_set (Some set) = Among set.outside set.members

-- how many octets belong to a part behind its first one
abbrev pub size_of_set : Option SetValue → ℕ
size_of_set None = 0
size_of_set (Some set) = set.size

-- the part that begins with an octet, before others
abbrev pub part_at : ℕ → List ℕ → PartValue
part_at octet behind =
    if octet == pattern.STAR then Many else if octet == pattern.QUESTION then One else if octet == pattern.OPENING then part_of_set (set_in behind) else Octet octet

-- how many octets behind the first one belong to it
abbrev pub size_at : ℕ → List ℕ → ℕ
size_at octet behind = if octet == pattern.OPENING then size_of_set (set_in behind) else 0

-- the parts of a pattern, behind so many octets
abbrev pub parts_behind : ℕ → List ℕ → List PartValue
parts_behind skipped [] = []
parts_behind zero (octet ∷ behind) = part_at octet behind ∷ parts_behind (size_at octet behind) behind
parts_behind (suc skipped) (octet ∷ behind) = parts_behind skipped behind

-- the parts of a pattern
abbrev pub parts_of : List ℕ → List PartValue
parts_of pattern = parts_behind 0 pattern

-- the members of a set as ranges, from the first octet to the last: `-` between two octets makes one
abbrev pub ranges_of : List ℕ → List (ℕ × ℕ)
ranges_of [] = []
ranges_of (one ∷ []) = (one, one) ∷ []
ranges_of (one ∷ other ∷ []) = (one, one) ∷ (other, other) ∷ []
ranges_of (one ∷ between ∷ other ∷ members) =
    if between == pattern.HYPHEN then (one, other) ∷ ranges_of members else (one, one) ∷ ranges_of (between ∷ other ∷ members)

-- ---- what fits, as a relation

-- an octet is a member of a set
abbrev pub IsMember : ℕ → List ℕ → Type 0
IsMember octet members = Any (λ range. (range.0 ≤ octet) × (octet ≤ range.1)) (ranges_of members)

-- an octet is what a part stands for, which is no `*`
abbrev pub IsOneOf : PartValue → ℕ → Type 0
IsOneOf (Octet octet) found = found ≡ octet
IsOneOf One found = Unit {0}
IsOneOf Many found = ⊥
IsOneOf (Among false members) found = IsMember found members
IsOneOf (Among true members) found = ¬ IsMember found members

-- octets are what a part stands for: any for `*`, and else one
abbrev pub AreOf : PartValue → List ℕ → Type 0
AreOf Many octets = Unit {0}
AreOf (Octet octet) octets = (found : ℕ) × (octets ≡ found ∷ []) × IsOneOf (Octet octet) found
AreOf One octets = (found : ℕ) × (octets ≡ found ∷ []) × IsOneOf One found
AreOf (Among outside members) octets = (found : ℕ) × (octets ≡ found ∷ []) × IsOneOf (Among outside members) found

-- a name is what some parts stand for, one after another
abbrev pub FitsParts : List PartValue → List ℕ → Type 0
FitsParts [] name = name ≡ []
FitsParts (part ∷ parts) name = (front rest : List ℕ) × (name ≡ front ++ rest) × AreOf part front × FitsParts parts rest

-- a name is what a pattern stands for
abbrev pub Fits : List ℕ → List ℕ → Type 0
Fits pattern name = FitsParts (parts_of pattern) name

-- a part stands for other octets than itself
abbrev pub is_open : PartValue → Bool
is_open (Octet octet) = false
is_open One = true
is_open Many = true
is_open (Among outside members) = true

-- a name is a pattern
abbrev pub is_pattern : List ℕ → Bool
is_pattern name = list_any is_open (parts_of name)

-- two names fit: both are no patterns and equal, or one is a pattern of the other, which is none
pub data NamesFit (one other : List ℕ) : Type 0 where
  Equal : is_pattern one ≡ false → is_pattern other ≡ false → one ≡ other → NamesFit one other
  Former : is_pattern one ≡ true → is_pattern other ≡ false → Fits one other → NamesFit one other
  Latter : is_pattern one ≡ false → is_pattern other ≡ true → Fits other one → NamesFit one other

-- ---- the same as tests

-- whether an octet is a member of a set
abbrev pub is_member : List ℕ → ℕ → Bool
is_member members octet = list_any (λ range. nat_le range.0 octet && nat_le octet range.1) (ranges_of members)

-- whether a part is `*`
abbrev pub is_many : PartValue → Bool
is_many (Octet octet) = false
is_many One = false
is_many Many = true
is_many (Among outside members) = false

-- whether an octet is what a part stands for
abbrev pub accepts : PartValue → ℕ → Bool
accepts (Octet octet) found = found == octet
accepts One found = true
accepts Many found = false
accepts (Among outside members) found = if outside then not (is_member members found) else is_member members found

-- a text, and what is left of it behind each of its octets
abbrev pub ends_of : List ℕ → List (List ℕ)
ends_of [] = [] ∷ []
ends_of (octet ∷ text) = (octet ∷ text) ∷ ends_of text

-- nothing is left of a text
abbrev pub is_empty : List ℕ → Bool
is_empty [] = true
is_empty (octet ∷ text) = false

-- a text begins with an octet that a part stands for, and what is left behind it passes
abbrev pub begins_with : PartValue → (List ℕ → Bool) → List ℕ → Bool
begins_with part test [] = false
begins_with part test (octet ∷ text) = accepts part octet && test text

-- whether a name is what parts stand for
abbrev pub fits_parts : List PartValue → List ℕ → Bool
fits_parts [] name = is_empty name
fits_parts (part ∷ parts) name = if is_many part then list_any (fits_parts parts) (ends_of name) else begins_with part (fits_parts parts) name

-- whether a name is what a pattern stands for
abbrev pub fits : List ℕ → List ℕ → Bool
fits pattern name = fits_parts (parts_of pattern) name

-- whether two names fit
abbrev pub names_fit : List ℕ → List ℕ → Bool
names_fit one other =
    if is_pattern one then not (is_pattern other) && fits one other
    else if is_pattern other then fits other one
    else pointwise nat_eq one other
