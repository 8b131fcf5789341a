-- Facts on a text that is read in pieces.
use Rattle.std.proofs.Common.{◌≡◌, ℕ, ◌+◌, ◌<◌, ◌≤◌, List, [], ◌++◌, false, length, take, Option, Result, Ok, sym, ap, ◌∙◌, subst, arith}
use Rattle.std.proofs.lemmas.List.{append-nil, append_assoc, length-append, length-take-le, take-append-le, take-take}
use Rattle.std.proofs.Math.Seq.{take-append-add}
use Rattle.std.proofs.KnownBytes.{Consumes-trans}
use Rattle.std.specs.Io.KnownBytes.{Consumes, IsAtEnd}
use borrow.Rule.Slice.PartMut.{put_mid, post_of}
use Rattle.rtps_capture.specs.Course as course
use Rattle.rtps_report.specs.Recording as recording
use Rattle.rtps_tool.specs.Outcomes as outcomes
use Rattle.rtps_tool.specs.Forms as forms
use Rattle.rtps_tool.specs.Lines as lines
use Rattle.rtps_tool.specs.Passes as passes
use Rattle.rtps_tool.specs.RecordingText as recording_text
use Rattle.rtps_tool.specs.RunFaults as run_faults
use Rattle.rtps_tool.specs.Runs as runs
use Rattle.rtps_tool.specs.Unfinished as unfinished
use Rattle.rtps_capture.specs.declared.captures.Captures.{Captures}
use Rattle.rtps_tool.specs.declared.faults.RecFault.{RecFault}
use Rattle.rtps_tool.specs.declared.runs.Limits.{Limits}
use Rattle.rtps_tool.proofs.UnfinishedLemmas.{begins_capture-append, recording_behind-start, recording_of-text, recording_of-past}
use Rattle.rtps_tool.proofs.RecordingLemmas.{IsFaultOf-without_frames}

-- so many octets were read of a text, enough to tell that it is one, and with whatever comes later it stands for what is told
pub record HasRead (limits : Limits) (captures : Captures) (old new : Option (List ℕ)) (total : ℕ) (told : List ℕ → Result (List (List ℕ)) RecFault) : Type 0 where
  pub text : List ℕ
  pub taken : Consumes old new text
  pub size : length text ≡ total
  pub begun : 4 ≤ length text
  pub plain : forms.begins_capture captures text ≡ false
  pub stands : (later : List ℕ) → told later ≡ recording_text.recording_of_lines limits.datagrams 1 0 (lines.lines_of (text ++ later))

-- no line was read yet
pub HasRead-start : (limits : Limits) (captures : Captures) (a b : Option (List ℕ)) (lines start : ℕ) (held : List ℕ) → lines ≡ 0
    → Consumes a b (take start held) → start ≤ length held → 4 ≤ start → forms.begins_capture captures (take start held) ≡ false
    → HasRead limits captures a b start (λ later. unfinished.recording_behind limits.datagrams [] lines (take start held ++ later))
HasRead-start limits captures a b lines start held first taken within begun plain = record {
  text = take start held;
  taken = taken;
  size = length-take-le start held within;
  begun = omega (arith, length-take-le start held within);
  plain = plain;
  stands = λ later. rw first (recording_behind-start limits.datagrams (take start held ++ later));
}

-- a piece more was read
pub HasRead-more : (limits : Limits) (captures : Captures) (a b c : Option (List ℕ)) (total got : ℕ) (told now : List ℕ → Result (List (List ℕ)) RecFault) (piece : List ℕ)
    → HasRead limits captures a b total told → Consumes b c piece → length piece ≡ got → ((later : List ℕ) → now later ≡ told (piece ++ later)) → HasRead limits captures a c (total + got) now
HasRead-more limits captures a b c total got told now piece h taken size same = record {
  text = h.text ++ piece;
  taken = Consumes-trans a b c h.text piece h.taken taken;
  size = omega (arith, length-append h.text piece, h.size);
  begun = omega (arith, length-append h.text piece, h.begun);
  plain = begins_capture-append captures h.text piece h.begun ∙ h.plain;
  stands = λ later. same later ∙ h.stands (piece ++ later)
      ∙ ap (λ (text : List ℕ). recording_text.recording_of_lines limits.datagrams 1 0 (lines.lines_of text)) (sym (append_assoc h.text piece later));
}

-- the same text is told of in another way
pub HasRead-told : (limits : Limits) (captures : Captures) (a b : Option (List ℕ)) (total : ℕ) (told now : List ℕ → Result (List (List ℕ)) RecFault)
    → HasRead limits captures a b total told → ((later : List ℕ) → now later ≡ told later) → HasRead limits captures a b total now
HasRead-told limits captures a b total told now h same = record { text = h.text; taken = h.taken; size = h.size; begun = h.begun; plain = h.plain; stands = λ later. same later ∙ h.stands later }

-- a piece was read behind what is kept
pub take_both : (kept got k : ℕ) (held buf : List ℕ) → kept ≤ length held → got ≤ length buf
    → take (kept + got) (put_mid kept k held buf) ≡ take kept held ++ take got buf
take_both kept got k held buf within some =
    let size = length-take-le kept held within in
    let rest : take got (buf ++ post_of kept k held) ≡ take got buf = take-append-le got buf (post_of kept k held) some in
    subst (λ (n : ℕ). take (n + got) (put_mid kept k held buf) ≡ take kept held ++ take got buf) size
    (take-append-add (take kept held) (buf ++ post_of kept k held) got ∙ ap (λ (piece : List ℕ). take kept held ++ piece) rest)

-- what is kept stays in front of a piece
pub take_front : (kept k : ℕ) (held buf : List ℕ) → kept ≤ length held → take kept (put_mid kept k held buf) ≡ take kept held
take_front kept k held buf within =
    take-append-le kept (take kept held) (buf ++ post_of kept k held) (omega (arith, length-take-le kept held within)) ∙ take-take kept kept held (omega arith)

pub HasRead-read : (limits : Limits) (captures : Captures) (a b c : Option (List ℕ)) (total kept got k lines : ℕ) (done : List (List ℕ)) (held buf : List ℕ)
    → HasRead limits captures a b total (λ later. unfinished.recording_behind limits.datagrams done lines (take kept held ++ later)) → Consumes b c (take got buf) → length (take got buf) ≡ got
    → kept ≤ length held → got ≤ length buf
    → HasRead limits captures a c (total + got) (λ later. unfinished.recording_behind limits.datagrams done lines (take (kept + got) (put_mid kept k held buf) ++ later))
HasRead-read limits captures a b c total kept got k lines done held buf h taken size within some =
    HasRead-more limits captures a b c total got (λ later. unfinished.recording_behind limits.datagrams done lines (take kept held ++ later))
    (λ later. unfinished.recording_behind limits.datagrams done lines (take (kept + got) (put_mid kept k held buf) ++ later)) (take got buf) h taken size
    (λ later. ap (unfinished.recording_behind limits.datagrams done lines)
    (ap (λ (text : List ℕ). text ++ later) (take_both kept got k held buf within some) ∙ append_assoc (take kept held) (take got buf) later))

-- no octet more was read
pub HasRead-last : (limits : Limits) (captures : Captures) (a b c : Option (List ℕ)) (total kept got k lines : ℕ) (done : List (List ℕ)) (held buf : List ℕ)
    → HasRead limits captures a b total (λ later. unfinished.recording_behind limits.datagrams done lines (take kept held ++ later)) → Consumes b c (take got buf) → length (take got buf) ≡ got
    → kept ≤ length held → got ≤ length buf → got ≡ 0
    → HasRead limits captures a c total (λ later. unfinished.recording_behind limits.datagrams done lines (take kept (put_mid kept k held buf) ++ later))
HasRead-last limits captures a b c total kept got k lines done held buf h taken size within some none =
    let grown = HasRead-read limits captures a b c total kept got k lines done held buf h taken size within some in
    let same : total + got ≡ total = omega arith in
    let front : kept + got ≡ kept = omega arith in
    let told : ℕ → List ℕ → Result (List (List ℕ)) RecFault = λ n later. unfinished.recording_behind limits.datagrams done lines (take n (put_mid kept k held buf) ++ later) in
    subst (λ (n : ℕ). HasRead limits captures a c total (told n)) front (subst (λ (n : ℕ). HasRead limits captures a c n (told (kept + got))) same grown)

-- the whole text was read, and is not too long
recording_of-read : (limits : Limits) (captures : Captures) (a b : Option (List ℕ)) (total : ℕ) (told : List ℕ → Result (List (List ℕ)) RecFault) (h : HasRead limits captures a b total told) → total ≤ limits.octets
    → recording_text.without_frames (told []) ≡ forms.recording_within limits captures h.text
recording_of-read limits captures a b total told h within =
    ap recording_text.without_frames (h.stands [] ∙ ap (λ (text : List ℕ). recording_text.recording_of_lines limits.datagrams 1 0 (lines.lines_of text)) (append-nil h.text))
    ∙ sym (recording_of-text limits captures h.text (omega (arith, h.size)) h.plain)

-- the datagrams of the whole text were taken
pub TakesText-last : (limits : Limits) (captures : Captures) (a b : Option (List ℕ)) (total count octets : ℕ) (done : List (List ℕ)) (left : List ℕ) (all : List (List ℕ)) (Took : List course.DatagramValue → Type 0)
    → HasRead limits captures a b total (λ later. unfinished.recording_behind limits.datagrams done count (left ++ later)) → IsAtEnd b → total ≤ limits.octets → octets ≡ total
    → Took (recording_text.untimed all) → unfinished.recording_behind limits.datagrams done count left ≡ Ok all → unfinished.TakesText limits captures a b Took octets
TakesText-last limits captures a b total count octets done left all Took h end within size took fine = record {
  text = h.text;
  datagrams = all;
  took = took;
  taken = h.taken;
  plain = h.plain;
  at_end = end;
  size = omega (arith, h.size);
  within = omega (arith, h.size);
  told = sym (h.stands [] ∙ ap (λ (text : List ℕ). recording_text.recording_of_lines limits.datagrams 1 0 (lines.lines_of text)) (append-nil h.text))
      ∙ ap (unfinished.recording_behind limits.datagrams done count) (append-nil left) ∙ fine;
}

-- these are its recording
pub ReadsRecording-text : (limits : Limits) (captures : Captures) (a b : Option (List ℕ)) (Took : List course.DatagramValue → Type 0) (octets : ℕ) (found : List (List ℕ))
    → (h : unfinished.TakesText limits captures a b Took octets) → found ≡ h.datagrams → runs.ReadsRecording limits captures a b (recording_text.unframed found)
ReadsRecording-text limits captures a b Took octets found h same = record {
  text = h.text;
  taken = h.taken;
  whole = h.at_end;
  is_read = recording_of-text limits captures h.text h.within h.plain ∙ ap recording_text.without_frames (h.told ∙ ap Ok (sym same));
}

-- what was read has this fault
pub FailsReading-text : (limits : Limits) (captures : Captures) (a b : Option (List ℕ)) (text : List ℕ) (fault : RecFault) → runs.Reads limits a b text → outcomes.IsFaultOf (forms.recording_within limits captures text) fault → runs.FailsReading limits captures a b (run_faults.run_fault_of fault)
FailsReading-text limits captures a b text (RecFault.BadHex line) reads faulty = record { text = text; reads = reads; faulty = faulty; readable = λ same. cc }
FailsReading-text limits captures a b text (RecFault.TooLong line) reads faulty = record { text = text; reads = reads; faulty = faulty; readable = λ same. cc }
FailsReading-text limits captures a b text RecFault.TooMany reads faulty = record { text = text; reads = reads; faulty = faulty; readable = λ same. cc }
FailsReading-text limits captures a b text RecFault.Memory reads faulty = tt
FailsReading-text limits captures a b text RecFault.BadCapture reads faulty = record { text = text; reads = reads; faulty = faulty; readable = λ same. cc }
FailsReading-text limits captures a b text (RecFault.CutCapture frame) reads faulty = record { text = text; reads = reads; faulty = faulty; readable = λ same. cc }
FailsReading-text limits captures a b text (RecFault.Damaged frame) reads faulty = record { text = text; reads = reads; faulty = faulty; readable = λ same. cc }

-- it is no fault of writing
pub run_fault_is_read : (fault : RecFault) → passes.IsReadFault (run_faults.run_fault_of fault)
run_fault_is_read (RecFault.BadHex line) = tt
run_fault_is_read (RecFault.TooLong line) = tt
run_fault_is_read RecFault.TooMany = tt
run_fault_is_read RecFault.Memory = tt
run_fault_is_read RecFault.BadCapture = tt
run_fault_is_read (RecFault.CutCapture frame) = tt
run_fault_is_read (RecFault.Damaged frame) = tt

pub FailsReading-end : (limits : Limits) (captures : Captures) (a b : Option (List ℕ)) (total : ℕ) (told : List ℕ → Result (List (List ℕ)) RecFault) (fault : RecFault)
    → HasRead limits captures a b total told → IsAtEnd b → total ≤ limits.octets → outcomes.IsFaultOf (told []) fault → runs.FailsReading limits captures a b (run_faults.run_fault_of fault)
FailsReading-end limits captures a b total told fault h end within faulty =
    FailsReading-text limits captures a b h.text fault record { taken = h.taken; whole = λ _. end }
    (subst (λ (all : Result recording.RecordingValue RecFault). outcomes.IsFaultOf all fault) (recording_of-read limits captures a b total told h within) (IsFaultOf-without_frames (told []) fault faulty))

pub FailsReading-last : (limits : Limits) (captures : Captures) (a b : Option (List ℕ)) (total lines : ℕ) (done : List (List ℕ)) (left : List ℕ) (fault : RecFault)
    → HasRead limits captures a b total (λ later. unfinished.recording_behind limits.datagrams done lines (left ++ later)) → IsAtEnd b → total ≤ limits.octets → outcomes.IsFaultOf (unfinished.recording_behind limits.datagrams done lines left) fault
    → runs.FailsReading limits captures a b (run_faults.run_fault_of fault)
FailsReading-last limits captures a b total lines done left fault h end within faulty =
    FailsReading-end limits captures a b total (λ later. unfinished.recording_behind limits.datagrams done lines (left ++ later)) fault h end within
    (subst (λ (text : List ℕ). outcomes.IsFaultOf (unfinished.recording_behind limits.datagrams done lines text) fault) (sym (append-nil left)) faulty)

-- after a fault of a line reading went on
pub FailsReading-on-past : (limits : Limits) (captures : Captures) (a b c : Option (List ℕ)) (total to : ℕ) (told : List ℕ → Result (List (List ℕ)) RecFault)
    → HasRead limits captures a b total told → unfinished.ReadsOn limits.octets b c total to → limits.octets < to → runs.FailsReading limits captures a c (run_faults.run_fault_of RecFault.TooMany)
FailsReading-on-past limits captures a b c total to told h more past =
    let text = h.text ++ more.text in
    let size : length text ≡ to = omega (arith, length-append h.text more.text, h.size, more.size) in
    FailsReading-text limits captures a c text RecFault.TooMany record { taken = Consumes-trans a b c h.text more.text h.taken more.taken; whole = λ few. absurd (omega arith) }
    (recording_of-past limits captures text (omega arith))

pub FailsReading-on : (limits : Limits) (captures : Captures) (a b c : Option (List ℕ)) (total to : ℕ) (told : List ℕ → Result (List (List ℕ)) RecFault) (fault : RecFault)
    → HasRead limits captures a b total told → unfinished.ReadsOn limits.octets b c total to → to ≤ limits.octets → ((later : List ℕ) → outcomes.IsFaultOf (told later) fault) → runs.FailsReading limits captures a c (run_faults.run_fault_of fault)
FailsReading-on limits captures a b c total to told fault h more within faulty =
    let text = h.text ++ more.text in
    let size : length text ≡ to = omega (arith, length-append h.text more.text, h.size, more.size) in
    FailsReading-text limits captures a c text fault record { taken = Consumes-trans a b c h.text more.text h.taken more.taken; whole = λ _. more.whole within }
    (subst (λ (all : Result recording.RecordingValue RecFault). outcomes.IsFaultOf all fault)
    (ap recording_text.without_frames (h.stands more.text) ∙ sym (recording_of-text limits captures text (omega arith) (begins_capture-append captures h.text more.text h.begun ∙ h.plain)))
    (IsFaultOf-without_frames (told more.text) fault (faulty more.text)))
