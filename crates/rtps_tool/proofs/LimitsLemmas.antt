-- Limits that are raised.
use Rattle.std.proofs.Common.{◌≡◌, ℕ, ◌+◌, ◌<◌, ◌≤◌, true, false, Bool, List, [], ◌∷◌, length, None, Result, Ok, Err, refl, sym, ap, ◌∙◌, inl, inr, arith}
use Rattle.std.specs.Prelude.{if◌then◌else◌, ◌||◌, is_some, nat_lt}
use Rattle.std.proofs.lemmas.Bool.Decides.{nat_tests}
use Rattle.rtps_capture.specs.Capture as capture
use Rattle.rtps_capture.specs.Blocks as blocks
use Rattle.rtps_capture.specs.Opening as opening
use Rattle.rtps_capture.specs.declared.capture.CaptureFault.{CaptureFault}
use Rattle.rtps_capture.proofs.Offered.{capture_read-within}
use Rattle.rtps_digits.specs.Pairs as pairs
use Rattle.rtps_report.specs.Recording as recording
use Rattle.rtps_tool.specs.Forms as forms
use Rattle.rtps_tool.specs.Laws as laws
use Rattle.rtps_tool.specs.Lines as lines
use Rattle.rtps_tool.specs.RecordingCapture as recording_capture
use Rattle.rtps_tool.specs.RecordingText as recording_text
use Rattle.rtps_tool.specs.Unfinished as unfinished
use Rattle.rtps_capture.specs.declared.captures.Captures.{Captures}
use Rattle.rtps_tool.specs.declared.faults.RecFault.{RecFault}
use Rattle.rtps_tool.specs.declared.runs.Limits.{Limits}
use Rattle.rtps_tool.proofs.RecordingLemmas.{kind_of, recording_of_lines-faulty, recording_of_lines-nil, recording_of_lines-skipped, recording_of_lines-taken}
use Rattle.rtps_tool.proofs.UnfinishedLemmas.{begins_capture-short, recording_in-text, recording_of-within}

-- a line with no fault has none where there may be more datagrams
fine_within : (most more before number : ℕ) (line : List ℕ) → most ≤ more → recording_text.line_fault most before number line ≡ None → recording_text.line_fault more before number line ≡ None
fine_within most more before number line within fine = grind (arith, nat_tests)

-- what is behind the first datagram of a recording is one
behind_first : (datagram : List ℕ) (r : Result (List (List ℕ)) RecFault) (datagrams : List (List ℕ)) → unfinished.with_front (datagram ∷ []) r ≡ Ok datagrams
    → (rest : List (List ℕ)) × (r ≡ Ok rest)
behind_first datagram (Ok rest) datagrams is = (rest, refl)
behind_first datagram (Err fault) datagrams is = absurd cc

lines_within : (most more number before : ℕ) (lines datagrams : List (List ℕ)) → most ≤ more → recording_text.recording_of_lines most number before lines ≡ Ok datagrams
    → recording_text.recording_of_lines more number before lines ≡ Ok datagrams
lines_within most more number before [] datagrams within is =
    recording_of_lines-nil more number before ∙ sym (recording_of_lines-nil most number before) ∙ is
lines_within most more number before (line ∷ lines) datagrams within is =
    elim (kind_of most number before line) [
      | inl skipped ↦
          recording_of_lines-skipped more number before line lines skipped
          ∙ lines_within most more (number + 1) before lines datagrams within (sym (recording_of_lines-skipped most number before line lines skipped) ∙ is)
      | inr (inl faulty) ↦ let alone = recording_of_lines-faulty most number before line lines faulty.0 faulty.1 faulty.2 in absurd cc
      | inr (inr taken) ↦
          let one = recording_of_lines-taken most number before line lines taken.0 taken.1 in
          let rest = behind_first (pairs.octets_of line) (recording_text.recording_of_lines most (number + 1) (before + 1) lines) datagrams (sym one ∙ is) in
          let greater = lines_within most more (number + 1) (before + 1) lines rest.0 within rest.1 in
          recording_of_lines-taken more number before line lines taken.0 (fine_within most more before number line within taken.1)
          ∙ ap (unfinished.with_front (pairs.octets_of line ∷ [])) (greater ∙ sym rest.1) ∙ sym one ∙ is
    ]

-- of a text
taken_lines : (r : Result (List (List ℕ)) RecFault) (recording : recording.RecordingValue) → recording_text.without_frames r ≡ Ok recording → (datagrams : List (List ℕ)) × (r ≡ Ok datagrams)
taken_lines (Ok datagrams) recording is = (datagrams, refl)
taken_lines (Err fault) recording is = absurd cc

text_within : (most more : ℕ) (text : List ℕ) (recording : recording.RecordingValue) → most ≤ more → recording_text.recording_of_text most text ≡ Ok recording
    → recording_text.recording_of_text more text ≡ Ok recording
unfolding recording_text.recording_of_text
text_within most more text recording within is =
    let taken = taken_lines (recording_text.recording_of_lines most 1 0 (lines.lines_of text)) recording is in
    ap recording_text.without_frames (lines_within most more 1 0 (lines.lines_of text) taken.0 within taken.1 ∙ sym taken.1) ∙ is

-- a recording within a limit is no fault
few_by : (past : Bool) (whole : Result recording.RecordingValue RecFault) (recording : recording.RecordingValue) → (if past then Err RecFault.TooMany else whole) ≡ Ok recording
    → (past ≡ false) × (whole ≡ Ok recording)
few_by true whole recording is = absurd cc
few_by false whole recording is = (refl, is)

-- of a capture
told_recording : (captures : Captures) (file : List ℕ) (is : Result capture.Answer CaptureFault) (recording : recording.RecordingValue) → recording_capture.recording_told captures file is ≡ Ok recording
    → (answer : capture.Answer) × (is ≡ Ok answer)
told_recording captures file (Ok answer) recording is = (answer, refl)
told_recording captures file (Err fault) recording is = absurd cc

capture_within : (captures : Captures) (most more : ℕ) (file : List ℕ) (recording : recording.RecordingValue) → most ≤ more → recording_capture.recording_of_capture captures most file ≡ Ok recording
    → recording_capture.recording_of_capture captures more file ≡ Ok recording
unfolding recording_capture.recording_of_capture
capture_within captures most more file recording within is =
    let answer = told_recording captures file (capture.capture_read captures most file) recording is in
    ap (recording_capture.recording_told captures file) (capture_read-within captures most more file answer.0 within answer.1 ∙ sym answer.1) ∙ is

in_within : (captures : Captures) (most more : ℕ) (input : List ℕ) (recording : recording.RecordingValue) → most ≤ more → forms.recording_in captures most input ≡ Ok recording
    → forms.recording_in captures more input ≡ Ok recording
in_within captures most more input recording within = by (forms.begins_capture captures input)
  where
    by : (is_capture : Bool) → forms.recording_in_form captures most is_capture input ≡ Ok recording → forms.recording_in_form captures more is_capture input ≡ Ok recording
    by false is = text_within most more input recording within is
    by true is = capture_within captures most more input recording within is

-- an input that is a recording has no more octets than it may
few_octets : (limits : Limits) (captures : Captures) (input : List ℕ) (recording : recording.RecordingValue) → forms.recording_within limits captures input ≡ Ok recording → length input ≤ limits.octets
few_octets limits captures input recording is =
    let fits = (few_by (nat_lt limits.octets (length input)) _ recording is).0 in
    grind (arith, nat_tests)

pub stays_within : laws.StaysWithin
stays_within limits greater captures input recording within is =
    let few = few_octets limits captures input recording is in
    let fine = sym (recording_of-within limits captures input few) ∙ is in
    recording_of-within greater captures input (omega (arith, within.octets, few))
    ∙ in_within captures limits.datagrams greater.datagrams input recording within.datagrams fine

-- a text stands for the same whatever captures are read
pub texts_stay : laws.TextsStayTexts
texts_stay limits input plain =
    by (nat_lt limits.octets (length input)) (recording_in-text Captures.Any limits.datagrams input plain ∙ sym (recording_in-text Captures.Classic limits.datagrams input (classic (is_some (opening.order_of input)) (blocks.is_pcapng input) plain)))
  where
    classic : (one other : Bool) → (one || other) ≡ false → one ≡ false
    classic false other none = refl
    classic true other none = absurd cc

    by : (past : Bool) → forms.recording_in Captures.Any limits.datagrams input ≡ forms.recording_in Captures.Classic limits.datagrams input
        → (if past then Err RecFault.TooMany else forms.recording_in Captures.Any limits.datagrams input) ≡ (if past then Err RecFault.TooMany else forms.recording_in Captures.Classic limits.datagrams input)
    by true same = refl
    by false same = same

-- too few octets to begin a capture
pub recording_of-short : (limits : Limits) (captures : Captures) (input : List ℕ) → length input < 4 → forms.recording_within limits captures input ≡ forms.recording_within limits Captures.Classic input
recording_of-short limits Captures.Classic input few = refl
recording_of-short limits Captures.Any input few = texts_stay limits input (begins_capture-short Captures.Any input few)
