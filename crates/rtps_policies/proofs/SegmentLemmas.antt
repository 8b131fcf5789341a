-- The parts of a pattern up to its first `*`, step by step.
use Rattle.std.proofs.Common.{◌≡◌, ◌∙◌, ℕ, ◌≤◌, ◌<◌, ◌+◌, ◌-◌, ◌==◌, Bool, true, false, if◌then◌else◌, List, [], ◌∷◌, ◌++◌, Option, Some, None, append_assoc, append-nil, ap, ap₂, arith, drop, length, refl, subst, sym, take, length-drop}
use Rattle.std.proofs.lemmas.Bool.Decides.{nat_tests}
use Rattle.std.proofs.lemmas.Bool.{or_left, or_right}
use Rattle.std.proofs.lemmas.List.{drop-drop, length-append}
use Rattle.std.specs.List.{list_any}
use Rattle.std.specs.Option.{option_map}
use Rattle.rtps_policies.specs.NamePatterns as name_patterns
use Rattle.rtps_policies.specs.Segments as segments
use Rattle.rtps_policies.specs.declared.layout.pattern.TheConstants as pattern_layout
use Rattle.rtps_policies.proofs.PatternLemmas.{clash, first_part, fits_front, fits_left, fixed_more, left_length, left_more, left_refused, left_short, star_failed, star_found, star_last, star_last_short, star_passed, star_taken}
use Rattle.rtps_policies.proofs.Slices.{take_behind}

-- the parts that were held against a name, and what is left of both
pub record IsHeld (pattern name rest left : List ℕ) : Type 0 where
  pub parts : List name_patterns.PartValue
  pub begins : segments.BeginsWith pattern parts (name_patterns.parts_of rest)
  pub taken : segments.left_behind parts name ≡ Some left
  pub shorter : length rest ≤ length pattern

pub none_held : (pattern name : List ℕ) → IsHeld pattern name pattern name
none_held pattern name = record { parts = []; begins = record { whole = refl; fixed = tt }; taken = refl; shorter = omega arith }

-- the next part
begins_more : (pattern rest behind : List ℕ) (parts : List name_patterns.PartValue) (part : name_patterns.PartValue) → segments.BeginsWith pattern parts (name_patterns.parts_of rest) → name_patterns.parts_of rest ≡ part ∷ name_patterns.parts_of behind → name_patterns.is_many part ≡ false
    → segments.BeginsWith pattern (parts ++ part ∷ []) (name_patterns.parts_of behind)
begins_more pattern rest behind parts part begins first one =
    record {
      whole = begins.whole ∙ ap (λ l. parts ++ l) first ∙ sym (append_assoc parts (part ∷ []) (name_patterns.parts_of behind));
      fixed = fixed_more parts part begins.fixed one;
    }

pub held_more : (pattern name rest left behind onward : List ℕ) (part : name_patterns.PartValue) (octet : ℕ) → IsHeld pattern name rest left → segments.IsFront rest part behind → name_patterns.is_many part ≡ false
    → left ≡ octet ∷ onward → name_patterns.accepts part octet ≡ true → IsHeld pattern name behind onward
held_more pattern name rest left behind onward part octet held front one at fit =
    record {
      parts = held.parts ++ part ∷ [];
      begins = begins_more pattern rest behind held.parts part held.begins front.parts one;
      taken = left_more held.parts part name octet onward (held.taken ∙ ap (λ l. Some l) at) fit;
      shorter = omega (arith, held.shorter, front.shorter);
    }

-- a name does not fit that does not begin with some parts of the pattern
refused : (pattern name : List ℕ) (parts behind : List name_patterns.PartValue) → segments.BeginsWith pattern parts behind → segments.left_behind parts name ≡ None → name_patterns.fits pattern name ≡ false
refused pattern name parts behind begins none =
    ap (λ l. name_patterns.fits_parts l name) begins.whole ∙ fits_front parts behind name begins.fixed ∙ ap (fits_left behind) none

pub held_refused : (pattern name rest left behind onward : List ℕ) (part : name_patterns.PartValue) (octet : ℕ) → IsHeld pattern name rest left → segments.IsFront rest part behind → name_patterns.is_many part ≡ false
    → left ≡ octet ∷ onward → name_patterns.accepts part octet ≡ false → name_patterns.fits pattern name ≡ false
held_refused pattern name rest left behind onward part octet held front one at unfit =
    refused pattern name (held.parts ++ part ∷ []) (name_patterns.parts_of behind) (begins_more pattern rest behind held.parts part held.begins front.parts one)
    (left_refused held.parts part name octet onward (held.taken ∙ ap (λ l. Some l) at) unfit)

pub held_short : (pattern name rest left behind : List ℕ) (part : name_patterns.PartValue) → IsHeld pattern name rest left → segments.IsFront rest part behind → name_patterns.is_many part ≡ false
    → left ≡ [] → name_patterns.fits pattern name ≡ false
held_short pattern name rest left behind part held front one at =
    refused pattern name (held.parts ++ part ∷ []) (name_patterns.parts_of behind) (begins_more pattern rest behind held.parts part held.begins front.parts one)
    (left_short held.parts part name (held.taken ∙ ap (λ l. Some l) at))

-- what is left of the name where nothing is left of the pattern
pub held_whole : (pattern name rest left : List ℕ) → IsHeld pattern name rest left → rest ≡ [] → name_patterns.fits pattern name ≡ name_patterns.is_empty left
held_whole pattern name rest left held at =
    ap (λ l. name_patterns.fits_parts l name) held.begins.whole ∙ fits_front held.parts (name_patterns.parts_of rest) name held.begins.fixed ∙ ap (fits_left (name_patterns.parts_of rest)) held.taken
    ∙ ap (λ l. name_patterns.fits_parts (name_patterns.parts_of l) left) at

pub empty_is : (text : List ℕ) → name_patterns.is_empty text ≡ (length text == 0)
empty_is [] = refl
empty_is (octet ∷ text) = grind (arith, nat_tests)

pub nothing_left : (text : List ℕ) → length text ≡ 0 → text ≡ []
nothing_left [] none = refl
nothing_left (octet ∷ text) none = absurd (omega arith)

-- a part that is `*`
pub many_is : (part : name_patterns.PartValue) → name_patterns.is_many part ≡ true → part ≡ name_patterns.PartValue.Many
many_is (name_patterns.PartValue.Octet octet) is = clash is
many_is name_patterns.PartValue.One is = clash is
many_is name_patterns.PartValue.Many is = refl
many_is (name_patterns.PartValue.Among outside members) is = clash is

pub held_many : (pattern name rest left behind : List ℕ) (part : name_patterns.PartValue) → IsHeld pattern name rest left → segments.IsFront rest part behind → name_patterns.is_many part ≡ true
    → (parts : List name_patterns.PartValue) × segments.BeginsWith pattern parts (name_patterns.PartValue.Many ∷ name_patterns.parts_of behind) × (segments.left_behind parts name ≡ Some left) × (length behind < length pattern) × (length left ≤ length name)
held_many pattern name rest left behind part held front is = (
  held.parts,
  record { whole = held.begins.whole ∙ ap (λ l. held.parts ++ l) (front.parts ∙ ap (λ p. p ∷ name_patterns.parts_of behind) (many_is part is)); fixed = held.begins.fixed },
  held.taken,
  omega (arith, held.shorter, front.shorter),
  left_length held.parts name left held.taken,
)

-- ---- what a segment says of the whole

pub many_fits : (pattern name behind left : List ℕ) (parts : List name_patterns.PartValue) → segments.BeginsWith pattern parts (name_patterns.PartValue.Many ∷ name_patterns.parts_of behind) → segments.left_behind parts name ≡ Some left
    → name_patterns.fits pattern name ≡ name_patterns.fits_parts (name_patterns.PartValue.Many ∷ name_patterns.parts_of behind) left
many_fits pattern name behind left parts begins taken =
    ap (λ l. name_patterns.fits_parts l name) begins.whole ∙ fits_front parts (name_patterns.PartValue.Many ∷ name_patterns.parts_of behind) name begins.fixed ∙ ap (fits_left (name_patterns.PartValue.Many ∷ name_patterns.parts_of behind)) taken

pub many_behind : (pattern name behind left : List ℕ) (parts : List name_patterns.PartValue) → segments.BeginsWith pattern parts (name_patterns.PartValue.Many ∷ name_patterns.parts_of behind) → segments.left_behind parts name ≡ Some left
    → name_patterns.fits_parts (name_patterns.PartValue.Many ∷ name_patterns.parts_of pattern) name ≡ name_patterns.fits_parts (name_patterns.PartValue.Many ∷ name_patterns.parts_of behind) left
many_behind pattern name behind left parts begins taken =
    ap (λ l. name_patterns.fits_parts (name_patterns.PartValue.Many ∷ l) name) begins.whole ∙ star_taken parts (name_patterns.parts_of behind) name left begins.fixed taken

pub passed_behind : (pattern name onward : List ℕ) (octet : ℕ) → name ≡ octet ∷ onward → name_patterns.fits pattern name ≡ false → name_patterns.fits_parts (name_patterns.PartValue.Many ∷ name_patterns.parts_of pattern) name ≡ name_patterns.fits_parts (name_patterns.PartValue.Many ∷ name_patterns.parts_of pattern) onward
passed_behind pattern name onward octet at unfit =
    ap (name_patterns.fits_parts (name_patterns.PartValue.Many ∷ name_patterns.parts_of pattern)) at ∙ star_passed (name_patterns.parts_of pattern) octet onward (sym (ap (name_patterns.fits pattern) at) ∙ unfit)

pub nothing_behind : (pattern name : List ℕ) → name ≡ [] → name_patterns.fits pattern name ≡ false → name_patterns.fits_parts (name_patterns.PartValue.Many ∷ name_patterns.parts_of pattern) name ≡ false
nothing_behind pattern name at unfit =
    ap (name_patterns.fits_parts (name_patterns.PartValue.Many ∷ name_patterns.parts_of pattern)) at ∙ star_failed (name_patterns.parts_of pattern) (sym (ap (name_patterns.fits pattern) at) ∙ unfit)

pub found_behind : (pattern name : List ℕ) → name_patterns.fits pattern name ≡ true → name_patterns.fits_parts (name_patterns.PartValue.Many ∷ name_patterns.parts_of pattern) name ≡ true
found_behind pattern name fit = star_found (name_patterns.parts_of pattern) name fit

-- ---- a last segment, behind a `*`

-- no part so far is `*`, and there are so many of them
pub record AreCounted (pattern rest : List ℕ) (count : ℕ) : Type 0 where
  pub parts : List name_patterns.PartValue
  pub begins : segments.BeginsWith pattern parts (name_patterns.parts_of rest)
  pub counted : count ≡ length parts
  pub room : count + length rest ≤ length pattern

pub none_counted : (pattern : List ℕ) → AreCounted pattern pattern 0
none_counted pattern = record { parts = []; begins = record { whole = refl; fixed = tt }; counted = refl; room = omega arith }

pub counted_more : (pattern rest behind : List ℕ) (part : name_patterns.PartValue) (count : ℕ) → AreCounted pattern rest count → segments.IsFront rest part behind → name_patterns.is_many part ≡ false
    → AreCounted pattern behind (count + 1)
counted_more pattern rest behind part count are front one =
    record {
      parts = are.parts ++ part ∷ [];
      begins = begins_more pattern rest behind are.parts part are.begins front.parts one;
      counted = omega (arith, are.counted, length-append are.parts (part ∷ []));
      room = omega (arith, are.room, front.shorter);
    }

-- the next part is `*`
any_behind : (parts behind : List name_patterns.PartValue) (part : name_patterns.PartValue) → name_patterns.is_many part ≡ true → list_any name_patterns.is_many (parts ++ part ∷ behind) ≡ true
any_behind [] behind part is = or_left (name_patterns.is_many part) (list_any name_patterns.is_many behind) is
any_behind (first ∷ parts) behind part is = or_right (name_patterns.is_many first) (list_any name_patterns.is_many (parts ++ part ∷ behind)) (any_behind parts behind part is)

pub counted_many : (pattern rest behind : List ℕ) (part : name_patterns.PartValue) (count : ℕ) → AreCounted pattern rest count → segments.IsFront rest part behind → name_patterns.is_many part ≡ true
    → list_any name_patterns.is_many (name_patterns.parts_of pattern) ≡ true
counted_many pattern rest behind part count are front is =
    ap (list_any name_patterns.is_many) (are.begins.whole ∙ ap (λ l. are.parts ++ l) front.parts) ∙ any_behind are.parts (name_patterns.parts_of behind) part is

pub counted_all : (pattern rest : List ℕ) (count : ℕ) → AreCounted pattern rest count → rest ≡ [] → segments.AreFixed (name_patterns.parts_of pattern) × (count ≡ length (name_patterns.parts_of pattern))
counted_all pattern rest count are none =
    let whole : name_patterns.parts_of pattern ≡ are.parts = are.begins.whole ∙ ap (λ l. are.parts ++ name_patterns.parts_of l) none ∙ append-nil are.parts in
    (subst segments.AreFixed (sym whole) are.begins.fixed, are.counted ∙ ap length (sym whole))

-- a name of fewer octets than parts does not fit
pub last_short : (pattern name : List ℕ) → segments.AreFixed (name_patterns.parts_of pattern) → length name < length (name_patterns.parts_of pattern) → name_patterns.fits_parts (name_patterns.PartValue.Many ∷ name_patterns.parts_of pattern) name ≡ false
last_short pattern name fixed less = star_last_short (name_patterns.parts_of pattern) name fixed less

-- no `*` is among the parts, so none is found
pub last_not_many : (pattern behind : List ℕ) (parts : List name_patterns.PartValue) → segments.AreFixed (name_patterns.parts_of pattern) → segments.BeginsWith pattern parts (name_patterns.PartValue.Many ∷ name_patterns.parts_of behind) → ⊥
last_not_many pattern behind parts fixed begins = many_apart parts (name_patterns.parts_of behind) (subst segments.AreFixed begins.whole fixed)
  where
    many_apart : (parts behind : List name_patterns.PartValue) → segments.AreFixed (parts ++ name_patterns.PartValue.Many ∷ behind) → ⊥
    many_apart [] behind fixed = clash (sym fixed.0)
    many_apart (part ∷ parts) behind fixed = many_apart parts behind fixed.1

pub last_is : (pattern name : List ℕ) (count : ℕ) → segments.AreFixed (name_patterns.parts_of pattern) → count ≡ length (name_patterns.parts_of pattern) → count ≤ length name
    → name_patterns.fits_parts (name_patterns.PartValue.Many ∷ name_patterns.parts_of pattern) name ≡ name_patterns.fits pattern (drop (length name - count) name)
last_is pattern name count fixed counted room =
    star_last (name_patterns.parts_of pattern) name fixed (omega (arith, counted, room)) ∙ ap (λ n. name_patterns.fits_parts (name_patterns.parts_of pattern) (drop (length name - n) name)) (sym counted)

-- ---- sets and first parts, as they are read

unmarked_is : (behind : List ℕ) (b : Bool) → (if b then drop 1 behind else behind) ≡ drop (if b then 1 else 0) behind
unmarked_is behind true = refl
unmarked_is behind false = refl

abbrev set_with : ℕ → Bool → List ℕ → Option name_patterns.SetValue
set_with size outside members = Some (record { outside = outside; members = members; size = size })

pub set_found : (behind body members rest : List ℕ) (outside : Bool) (place : ℕ) → outside ≡ name_patterns.is_marked behind → body ≡ name_patterns.without_mark behind → Some place ≡ name_patterns.closing_in body
    → members ≡ take place body → rest ≡ drop place body
    → (size : ℕ) × (name_patterns.set_in behind ≡ Some (record { outside = outside; members = members; size = size })) × (take (length rest - 1) (drop 1 rest) ≡ drop size behind)
set_found behind body members rest outside place marked unmarked closed inner outer =
    let mark : ℕ = if name_patterns.is_marked behind then 1 else 0 in
    (mark + (place + 1), found, take_behind 1 rest ∙ ap (drop 1) outer ∙ behind_all)
  where
    found : name_patterns.set_in behind ≡ Some (record { outside = outside; members = members; size = (if name_patterns.is_marked behind then 1 else 0) + (place + 1) })
    found =
        ap (option_map (λ at. record { outside = name_patterns.is_marked behind; members = take at (name_patterns.without_mark behind); size = (if name_patterns.is_marked behind then 1 else 0) + (at + 1) })) (sym (closed ∙ ap name_patterns.closing_in unmarked))
        ∙ ap₂ (set_with ((if name_patterns.is_marked behind then 1 else 0) + (place + 1))) (sym marked) (sym (inner ∙ ap (take place) unmarked))

    behind_all : drop 1 (drop place body) ≡ drop ((if name_patterns.is_marked behind then 1 else 0) + (place + 1)) behind
    behind_all =
        drop-drop 1 place body ∙ ap (drop (place + 1)) (unmarked ∙ unmarked_is behind (name_patterns.is_marked behind)) ∙ drop-drop (place + 1) (if name_patterns.is_marked behind then 1 else 0) behind

pub opened_front : (pattern behind rest : List ℕ) (part : name_patterns.PartValue) → pattern ≡ pattern_layout.OPENING ∷ behind → part ≡ name_patterns.part_of_set (name_patterns.set_in behind) → rest ≡ drop (name_patterns.size_of_set (name_patterns.set_in behind)) behind
    → segments.IsFront pattern part rest
opened_front pattern behind rest part at first after =
    record {
      parts = ap name_patterns.parts_of at ∙ first_part pattern_layout.OPENING behind ∙ ap (λ p. p ∷ name_patterns.parts_of (drop (name_patterns.size_of_set (name_patterns.set_in behind)) behind)) (sym first) ∙ ap (λ l. part ∷ name_patterns.parts_of l) (sym after);
      shorter = omega (arith, ap length at, ap length after, length-drop (name_patterns.size_of_set (name_patterns.set_in behind)) behind);
    }
