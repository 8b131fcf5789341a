-- Facts on texts that begin as a capture does.
use Rattle.std.proofs.Common.{◌≡◌, ◌==◌, ℕ, suc, ◌-◌, ◌<◌, true, false, Bool, List, [], ◌∷◌, length, take, map, Option, None, Some, Err, refl, ap, ◌∙◌, ◌⊎◌, inl, inr, arith, subst, sym}
use Rattle.std.specs.Prelude.{◌%◌, ◌||◌, is_some, nat_le, nat_lt, is_err, slice_index, if◌then◌else◌, All}
use Rattle.std.specs.Str.Lines.{strip_carriage_return}
use Rattle.std.proofs.lemmas.Bool.Decides.{nat_tests}
use Rattle.hex.specs.Hex.{decode_of, decode_pairs, hex_digit_value}
use Rattle.hex.specs.declared.error.FromHexError.TheVariants.{OddLength}
use Rattle.rtps_ids.specs.Octets as octets
use Rattle.rtps_ids.specs.declared.order.Order.{Order}
use Rattle.rtps_capture.specs.Blocks as blocks
use Rattle.rtps_capture.specs.Opening as opening
use Rattle.rtps_tool.specs.Laws as laws
use Rattle.rtps_tool.specs.Lines as lines
use Rattle.rtps_tool.specs.RecordingText as recording_text
use Rattle.rtps_capture.specs.declared.captures.Captures.{Captures}
use Rattle.rtps_tool.specs.declared.faults.RecFault.{RecFault}
use Rattle.rtps_tool.proofs.RecordingLemmas.{recording_of_lines-faulty, recording_of_lines-skipped}

-- an octet that ends no line, begins no comment and is no digit
record IsStrange (a : ℕ) : Type 0 where
  feed : lines.is_line_feed a ≡ false
  return : (a == 13) ≡ false
  comment : (a == 35) ≡ false
  digit : hex_digit_value a ≡ None

-- the first octets of captures
first_octet : (a b c d : ℕ) (rest : List ℕ) (order : Order) → a < 256 → b < 256 → c < 256 → d < 256
    → opening.order_of (a ∷ b ∷ c ∷ d ∷ rest) ≡ Some order → (a ≡ 161) ⊎ ((a ≡ 212) ⊎ (a ≡ 77))
unfolding opening.order_of octets.number_of
first_octet a b c d rest order a-small b-small c-small d-small is = grind (arith, nat_tests)

strange : (a : ℕ) → (a ≡ 161) ⊎ ((a ≡ 212) ⊎ (a ≡ 77)) → IsStrange a
strange a is =
    elim is [
      | inl e ↦ subst IsStrange (sym e) record { feed = refl; return = refl; comment = refl; digit = refl }
      | inr (inl e) ↦ subst IsStrange (sym e) record { feed = refl; return = refl; comment = refl; digit = refl }
      | inr (inr e) ↦ subst IsStrange (sym e) record { feed = refl; return = refl; comment = refl; digit = refl }
    ]

-- an octet that ends no line begins the first one
onto_first : (a : ℕ) (parts : List (List ℕ)) → (x : List ℕ) × (others : List (List ℕ)) × (lines.onto_first_line a parts ≡ (a ∷ x) ∷ others)
onto_first a [] = ([], [], refl)
onto_first a (part ∷ parts) = (part, parts, refl)

first_part : (a : ℕ) (text : List ℕ) → lines.is_line_feed a ≡ false → (x : List ℕ) × (others : List (List ℕ)) × (lines.parts_of (a ∷ text) ≡ (a ∷ x) ∷ others)
first_part a text plain = rw plain (onto_first a (lines.parts_of text))

-- a carriage return is taken from the end of a line alone
by_end : (flag : Bool) (a b : ℕ) (x : List ℕ) → (y : List ℕ) × ((if flag then take (length (a ∷ b ∷ x) - 1) (a ∷ b ∷ x) else a ∷ b ∷ x) ≡ a ∷ y)
by_end true a b x =
    let size : length (a ∷ b ∷ x) - 1 ≡ suc (length x) = omega arith in
    (take (length x) (b ∷ x), ap (λ (n : ℕ). take n (a ∷ b ∷ x)) size)
by_end false a b x = (b ∷ x, refl)

stripped : (a : ℕ) (x : List ℕ) → (a == 13) ≡ false → (y : List ℕ) × (strip_carriage_return (a ∷ x) ≡ a ∷ y)
stripped a [] plain = ([], rw plain refl)
stripped a (b ∷ x) plain = by_end (slice_index (a ∷ b ∷ x) (length (a ∷ b ∷ x) - 1) == 13) a b x

-- a line that begins with such an octet is no row of digits
by_parity : (odd : Bool) (a b : ℕ) (x : List ℕ) → hex_digit_value a ≡ None → is_err (if odd then Err OddLength else decode_pairs 0 (a ∷ b ∷ x)) ≡ true
unfolding decode_pairs
by_parity true a b x none = refl
by_parity false a b x none = rw none refl

no_digits : (a : ℕ) (x : List ℕ) → hex_digit_value a ≡ None → is_err (decode_of (a ∷ x)) ≡ true
no_digits a [] none = refl
no_digits a (b ∷ x) none = by_parity (length (a ∷ b ∷ x) % 2 == 1) a b x none

by_tests : (many long bad : Bool) → bad ≡ true
    → (fault : RecFault) × ((if many then Some RecFault.TooMany else if long then Some (RecFault.TooLong 1) else if bad then Some (RecFault.BadHex 1) else None) ≡ Some fault)
by_tests true long bad is = (RecFault.TooMany, refl)
by_tests false true bad is = (RecFault.TooLong 1, refl)
by_tests false false bad is = (RecFault.BadHex 1, rw is refl)

-- a text that begins with such an octet has a fault in its first line
strange_text : (most a : ℕ) (text : List ℕ) → IsStrange a → (fault : RecFault) × (recording_text.recording_of_text most (a ∷ text) ≡ Err fault)
unfolding recording_text.recording_of_text
strange_text most a text s =
    let part = first_part a text s.feed in
    let line = stripped a part.0 s.return in
    let others : List (List ℕ) = map strip_carriage_return part.1 in
    let lines : lines.lines_of (a ∷ text) ≡ (a ∷ line.0) ∷ others = ap (map strip_carriage_return) part.2 ∙ ap (λ (l : List ℕ). l ∷ others) line.1 in
    let taken : recording_text.is_datagram_line (a ∷ line.0) ≡ true = rw s.comment (grind (arith, nat_tests)) in
    let faulty = by_tests (nat_le most 0) (nat_lt 131070 (length (a ∷ line.0))) (is_err (decode_of (a ∷ line.0))) (no_digits a line.0 s.digit) in
    (faulty.0, ap recording_text.without_frames (ap (recording_text.recording_of_lines most 1 0) lines ∙ recording_of_lines-faulty most 1 0 (a ∷ line.0) others faulty.0 taken faulty.1))

-- octets that begin as a classic capture are no text
classic_is_no_text : (most : ℕ) (input : List ℕ) (order : Order) → All (λ octet. octet < 256) input → opening.order_of input ≡ Some order
    → (fault : RecFault) × (recording_text.recording_of_text most input ≡ Err fault)
unfolding opening.order_of
classic_is_no_text most [] order small is = absurd (grind (arith, nat_tests))
classic_is_no_text most (a ∷ []) order small is = absurd (grind (arith, nat_tests))
classic_is_no_text most (a ∷ b ∷ []) order small is = absurd (grind (arith, nat_tests))
classic_is_no_text most (a ∷ b ∷ c ∷ []) order small is = absurd (grind (arith, nat_tests))
classic_is_no_text most (a ∷ b ∷ c ∷ d ∷ rest) order small is =
    strange_text most a (b ∷ c ∷ d ∷ rest)
    (strange a (first_octet a b c d rest order (small 0 0 (omega arith)) (small 1 0 (omega arith)) (small 2 0 (omega arith)) (small 3 0 (omega arith)) is))

-- The octets of a pcapng file: an empty line, and one with a carriage return that is no digit.
second_line_fault : (most : ℕ) → (fault : RecFault) × (recording_text.line_fault most 0 2 (13 ∷ []) ≡ Some fault)
second_line_fault most = by (nat_le most 0)
  where
    by : (many : Bool) → (fault : RecFault) × ((if many then Some RecFault.TooMany else Some (RecFault.BadHex 2)) ≡ Some fault)
    by true = (RecFault.TooMany, refl)
    by false = (RecFault.BadHex 2, refl)

second_line : (most : ℕ) (others : List (List ℕ)) → (fault : RecFault) × (recording_text.recording_of_lines most 1 0 ([] ∷ (13 ∷ []) ∷ others) ≡ Err fault)
second_line most others =
    let faulty = second_line_fault most in
    (faulty.0, recording_of_lines-skipped most 1 0 [] ((13 ∷ []) ∷ others) refl ∙ recording_of_lines-faulty most 2 0 (13 ∷ []) others faulty.0 refl faulty.1)

section_text : (most : ℕ) (rest : List ℕ) → (fault : RecFault) × (recording_text.recording_of_text most (10 ∷ 13 ∷ 13 ∷ 10 ∷ rest) ≡ Err fault)
unfolding recording_text.recording_of_text
section_text most rest =
    let faulty = second_line most (lines.lines_of rest) in
    (faulty.0, ap recording_text.without_frames faulty.1)

-- the first four octets of a pcapng file
section_octets : (a b c d : ℕ) (rest : List ℕ) → a < 256 → b < 256 → c < 256 → d < 256
    → blocks.is_pcapng (a ∷ b ∷ c ∷ d ∷ rest) ≡ true → (a ≡ 10) × (b ≡ 13) × (c ≡ 13) × (d ≡ 10)
unfolding octets.number_of
section_octets a b c d rest a-small b-small c-small d-small is = grind (arith, nat_tests)

pcapng_is_no_text : (most : ℕ) (input : List ℕ) → All (λ octet. octet < 256) input → blocks.is_pcapng input ≡ true
    → (fault : RecFault) × (recording_text.recording_of_text most input ≡ Err fault)
pcapng_is_no_text most [] small is = absurd (grind (arith, nat_tests))
pcapng_is_no_text most (a ∷ []) small is = absurd (grind (arith, nat_tests))
pcapng_is_no_text most (a ∷ b ∷ []) small is = absurd (grind (arith, nat_tests))
pcapng_is_no_text most (a ∷ b ∷ c ∷ []) small is = absurd (grind (arith, nat_tests))
pcapng_is_no_text most (a ∷ b ∷ c ∷ d ∷ rest) small is =
    let same = section_octets a b c d rest (small 0 0 (omega arith)) (small 1 0 (omega arith)) (small 2 0 (omega arith)) (small 3 0 (omega arith)) is in
    rw (same.0, same.1, same.2, same.3) (section_text most rest)

-- octets that begin as a capture are no text
pub capture_is_no_text : laws.NoTextBeginsAsACapture
capture_is_no_text Captures.Classic most input small is = by (opening.order_of input) refl is
  where
    by : (order : Option Order) → opening.order_of input ≡ order → is_some order ≡ true → (fault : RecFault) × (recording_text.recording_of_text most input ≡ Err fault)
    by None known none = absurd cc
    by (Some order) known some = classic_is_no_text most input order small known
capture_is_no_text Captures.Any most input small is = by (opening.order_of input) refl is
  where
    by : (order : Option Order) → opening.order_of input ≡ order → (is_some order || blocks.is_pcapng input) ≡ true → (fault : RecFault) × (recording_text.recording_of_text most input ≡ Err fault)
    by None known pcapng = pcapng_is_no_text most input small pcapng
    by (Some order) known some = classic_is_no_text most input order small known
