-- Facts on recordings, line by line.
use Rattle.std.proofs.Common.{◌≡◌, ℕ, ◌+◌, true, false, Bool, List, [], ◌∷◌, ◌++◌, length, Option, None, Some, Result, Ok, Err, refl, sym, ap, ◌∙◌, ◌⊎◌, inl, inr, add-zero}
use Rattle.std.proofs.lemmas.List.{append_assoc, append-nil, length-append, nil_from_length}
use Rattle.rtps_digits.specs.Pairs as pairs
use Rattle.rtps_tool.specs.RecordingText as recording_text
use Rattle.rtps_tool.specs.declared.faults.RecFault.{RecFault}
use Rattle.rtps_tool.specs.Outcomes as outcomes
use Rattle.rtps_tool.specs.Lines as lines
use Rattle.rtps_tool.specs.Unfinished as unfinished

-- a fault of a text is that of its recording
pub IsFaultOf-without_frames : (r : Result (List (List ℕ)) RecFault) (fault : RecFault) → outcomes.IsFaultOf r fault → outcomes.IsFaultOf (recording_text.without_frames r) fault
IsFaultOf-without_frames r (RecFault.BadHex line) is = ap recording_text.without_frames is
IsFaultOf-without_frames r (RecFault.TooLong line) is = ap recording_text.without_frames is
IsFaultOf-without_frames r RecFault.TooMany is = ap recording_text.without_frames is
IsFaultOf-without_frames r RecFault.Memory is = tt
IsFaultOf-without_frames r RecFault.BadCapture is = ap recording_text.without_frames is
IsFaultOf-without_frames r (RecFault.CutCapture frame) is = ap recording_text.without_frames is
IsFaultOf-without_frames r (RecFault.Damaged frame) is = ap recording_text.without_frames is

pub with_front-none : (r : Result (List (List ℕ)) RecFault) → unfinished.with_front [] r ≡ r
with_front-none (Ok datagrams) = refl
with_front-none (Err fault) = refl

pub with_front-append : (a b : List (List ℕ)) (r : Result (List (List ℕ)) RecFault) → unfinished.with_front (a ++ b) r ≡ unfinished.with_front a (unfinished.with_front b r)
with_front-append a b (Ok datagrams) = ap Ok (append_assoc a b datagrams)
with_front-append a b (Err fault) = refl

unless_faulty-cons : (faults : List RecFault) (datagram : List ℕ) (datagrams : List (List ℕ))
    → recording_text.unless_faulty faults (datagram ∷ datagrams) ≡ unfinished.with_front (datagram ∷ []) (recording_text.unless_faulty faults datagrams)
unless_faulty-cons [] datagram datagrams = refl
unless_faulty-cons (fault ∷ faults) datagram datagrams = refl

-- no line stands for no datagram
pub recording_of_lines-nil : (most : ℕ) (number before : ℕ) → recording_text.recording_of_lines most number before [] ≡ Ok []
unfolding recording_text.recording_of_lines
recording_of_lines-nil most number before = refl

-- a line that is skipped
pub recording_of_lines-skipped : (most : ℕ) (number before : ℕ) (line : List ℕ) (lines : List (List ℕ)) → recording_text.is_datagram_line line ≡ false
    → recording_text.recording_of_lines most number before (line ∷ lines) ≡ recording_text.recording_of_lines most (number + 1) before lines
unfolding recording_text.recording_of_lines
recording_of_lines-skipped most number before line lines skipped = rw skipped refl

-- a line with a fault
pub recording_of_lines-faulty : (most : ℕ) (number before : ℕ) (line : List ℕ) (lines : List (List ℕ)) (fault : RecFault) → recording_text.is_datagram_line line ≡ true
    → recording_text.line_fault most before number line ≡ Some fault → recording_text.recording_of_lines most number before (line ∷ lines) ≡ Err fault
unfolding recording_text.recording_of_lines
recording_of_lines-faulty most number before line lines fault taken faulty = rw (taken, faulty) refl

-- a line that stands for a datagram
pub recording_of_lines-taken : (most : ℕ) (number before : ℕ) (line : List ℕ) (lines : List (List ℕ)) → recording_text.is_datagram_line line ≡ true
    → recording_text.line_fault most before number line ≡ None
    → recording_text.recording_of_lines most number before (line ∷ lines) ≡ unfinished.with_front (pairs.octets_of line ∷ []) (recording_text.recording_of_lines most (number + 1) (before + 1) lines)
unfolding recording_text.recording_of_lines
recording_of_lines-taken most number before line lines taken fine = rw (taken, fine) (unless_faulty-cons _ _ _)

-- the three kinds of lines
abbrev pub LineKind : (most : ℕ) → ℕ → ℕ → List ℕ → Type 0
LineKind most number before line =
    (recording_text.is_datagram_line line ≡ false) ⊎ (((fault : RecFault) × (recording_text.is_datagram_line line ≡ true) × (recording_text.line_fault most before number line ≡ Some fault)) ⊎ ((recording_text.is_datagram_line line ≡ true) × (recording_text.line_fault most before number line ≡ None)))

kind_by : (b : Bool) (o : Option RecFault) → (b ≡ false) ⊎ (((fault : RecFault) × (b ≡ true) × (o ≡ Some fault)) ⊎ ((b ≡ true) × (o ≡ None)))
kind_by false o = inl refl
kind_by true (Some fault) = inr (inl (fault, refl, refl))
kind_by true None = inr (inr (refl, refl))

pub kind_of : (most : ℕ) (number before : ℕ) (line : List ℕ) → LineKind most number before line
kind_of most number before line = kind_by (recording_text.is_datagram_line line) (recording_text.line_fault most before number line)

-- a first line with no fault, in front of the others
pub recording_of_lines-ok : (most : ℕ) (number before : ℕ) (line : List ℕ) (lines found : List (List ℕ)) → recording_text.recording_of_lines most number before (line ∷ []) ≡ Ok found
    → recording_text.recording_of_lines most number before (line ∷ lines) ≡ unfinished.with_front found (recording_text.recording_of_lines most (number + 1) (before + length found) lines)
recording_of_lines-ok most number before line lines found fine =
    elim (kind_of most number before line) [
      | inl skipped ↦
          let alone = recording_of_lines-skipped most number before line [] skipped ∙ recording_of_lines-nil most (number + 1) before in
          let none : found ≡ [] = cc in
          rw (none, add-zero, with_front-none) (recording_of_lines-skipped most number before line lines skipped)
      | inr (inl faulty) ↦ let alone = recording_of_lines-faulty most number before line [] faulty.0 faulty.1 faulty.2 in cc
      | inr (inr taken) ↦
          let alone = recording_of_lines-taken most number before line [] taken.0 taken.1 ∙ ap (unfinished.with_front (pairs.octets_of line ∷ [])) (recording_of_lines-nil most (number + 1) (before + 1)) in
          let one : found ≡ pairs.octets_of line ∷ [] = cc in
          rw one (recording_of_lines-taken most number before line lines taken.0 taken.1)
    ]

-- a fault of the first line, whatever follows
pub recording_of_lines-err : (most : ℕ) (number before : ℕ) (line : List ℕ) (lines : List (List ℕ)) (fault : RecFault) → recording_text.recording_of_lines most number before (line ∷ []) ≡ Err fault
    → recording_text.recording_of_lines most number before (line ∷ lines) ≡ Err fault
recording_of_lines-err most number before line lines fault faulty =
    elim (kind_of most number before line) [
      | inl skipped ↦ let alone = recording_of_lines-skipped most number before line [] skipped ∙ recording_of_lines-nil most (number + 1) before in cc
      | inr (inl found) ↦
          let alone = recording_of_lines-faulty most number before line [] found.0 found.1 found.2 in
          let same : found.0 ≡ fault = cc in
          rw (← same) (recording_of_lines-faulty most number before line lines found.0 found.1 found.2)
      | inr (inr taken) ↦
          let alone = recording_of_lines-taken most number before line [] taken.0 taken.1 ∙ ap (unfinished.with_front (pairs.octets_of line ∷ [])) (recording_of_lines-nil most (number + 1) (before + 1)) in
          cc
    ]

-- a line with no fault joins what was read before it
pub with_front-ok : (most : ℕ) (number : ℕ) (done found new : List (List ℕ)) (line : List ℕ) (lines : List (List ℕ))
    → recording_text.recording_of_lines most number (length done) (line ∷ []) ≡ Ok found → new ≡ done ++ found
    → unfinished.with_front new (recording_text.recording_of_lines most (number + 1) (length new) lines) ≡ unfinished.with_front done (recording_text.recording_of_lines most number (length done) (line ∷ lines))
with_front-ok most number done found new line lines fine joined =
    let size : length new ≡ length done + length found = ap length joined ∙ length-append done found in
    rw (size, joined, with_front-append) (ap (unfinished.with_front done) (sym (recording_of_lines-ok most number (length done) line lines found fine)))

-- a fault of a line is that of the whole
pub IsFaultOf-with_front : (most : ℕ) (number : ℕ) (done : List (List ℕ)) (line : List ℕ) (lines : List (List ℕ)) (fault : RecFault)
    → outcomes.IsFaultOf (recording_text.recording_of_lines most number (length done) (line ∷ [])) fault
    → outcomes.IsFaultOf (unfinished.with_front done (recording_text.recording_of_lines most number (length done) (line ∷ lines))) fault
IsFaultOf-with_front most number done line lines (RecFault.BadHex n) h = ap (unfinished.with_front done) (recording_of_lines-err most number (length done) line lines (RecFault.BadHex n) h)
IsFaultOf-with_front most number done line lines (RecFault.TooLong n) h = ap (unfinished.with_front done) (recording_of_lines-err most number (length done) line lines (RecFault.TooLong n) h)
IsFaultOf-with_front most number done line lines RecFault.TooMany h = ap (unfinished.with_front done) (recording_of_lines-err most number (length done) line lines RecFault.TooMany h)
IsFaultOf-with_front most number done line lines RecFault.Memory h = tt
IsFaultOf-with_front most number done line lines RecFault.BadCapture h = ap (unfinished.with_front done) (recording_of_lines-err most number (length done) line lines RecFault.BadCapture h)
IsFaultOf-with_front most number done line lines (RecFault.CutCapture n) h = ap (unfinished.with_front done) (recording_of_lines-err most number (length done) line lines (RecFault.CutCapture n) h)
IsFaultOf-with_front most number done line lines (RecFault.Damaged n) h = ap (unfinished.with_front done) (recording_of_lines-err most number (length done) line lines (RecFault.Damaged n) h)

-- nothing is left to read
pub with_front-all : (most : ℕ) (number before : ℕ) (done : List (List ℕ)) (rest : List ℕ) → length rest ≡ 0
    → unfinished.with_front done (recording_text.recording_of_lines most number before (lines.lines_of rest)) ≡ Ok done
with_front-all most number before done rest none =
    let empty : rest ≡ [] = nil_from_length rest none in
    rw (empty, recording_of_lines-nil) (ap Ok (append-nil done))
