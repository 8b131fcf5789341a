-- A capture that is read by blocks stands for what the whole of it does.
use Rattle.std.proofs.Common.{◌≡◌, ◌<◌, ◌≤◌, ◌-◌, ◌⊎◌, ℕ, Bool, true, false, List, [], ◌∷◌, ◌++◌, length, take, drop, refl, sym, ap, ap₂, subst, ◌∙◌, append_assoc, append-nil, take-append-drop, inl, inr, arith}
use Rattle.std.specs.Prelude.{None, Option, Some, Result, Ok, Err, slice_range}
use Rattle.std.specs.Io.KnownBytes.{Consumes, IsAtEnd}
use Rattle.std.proofs.KnownBytes.{Consumes-trans}
use Rattle.std.proofs.lemmas.List.{length-append, length-drop, length-take-le, map-append, take_all}
use Rattle.rtps_capture.specs.Advancing as advancing
use Rattle.rtps_capture.specs.Agreement as agreement
use Rattle.rtps_capture.specs.Capture as capture
use Rattle.rtps_capture.specs.Course as course
use Rattle.rtps_capture.specs.Held as held
use Rattle.rtps_capture.specs.Left as left_spec
use Rattle.rtps_capture.specs.Noting as noting
use Rattle.rtps_capture.specs.declared.advance.Opened.{Opened}
use Rattle.rtps_capture.specs.declared.byte_range.ByteRange.{ByteRange}
use Rattle.rtps_capture.specs.declared.capture.CaptureFault.{CaptureFault}
use Rattle.rtps_capture.specs.declared.capture_reader.CaptureReader.{CaptureReader}
use Rattle.rtps_capture.specs.declared.capture_reader.Summary.{Summary}
use Rattle.rtps_capture.specs.declared.captures.Captures.{Captures}
use Rattle.rtps_capture.specs.declared.notes.Found.{Found}
use Rattle.rtps_capture.specs.declared.read_fault.ReadFault.{ReadFault}
use Rattle.rtps_report.specs.Recording as recording
use Rattle.rtps_tool.specs.CaptureBlocks as blocks
use Rattle.rtps_tool.specs.Collected as collected_spec
use Rattle.rtps_tool.specs.Forms as forms
use Rattle.rtps_tool.specs.Outcomes as outcomes
use Rattle.rtps_tool.specs.RecordingCapture as recording_capture
use Rattle.rtps_tool.specs.RunFaults as run_faults
use Rattle.rtps_tool.specs.Runs as runs
use Rattle.rtps_tool.specs.declared.faults.RecFault.{RecFault}
use Rattle.rtps_tool.specs.declared.faults.RunFault.{RunFault}
use Rattle.rtps_tool.specs.declared.form.capture_blocks.Stop.{Stop}
use Rattle.rtps_tool.specs.declared.form.whole_capture.WholeCapture.{WholeCapture}
use Rattle.rtps_tool.specs.declared.runs.Limits.{Limits}
use Rattle.rtps_tool.proofs.ReadingLemmas.{FailsReading-text}
use Rattle.rtps_tool.proofs.UnfinishedLemmas.{begins_capture-append, recording_of-capture, recording_of-past}

-- ---- the datagrams of a course

one_in : List ℕ → Option ℕ → ℕ → collected_spec.CollectedValue → collected_spec.CollectedValue
one_in octets time frame value = record { datagrams = octets ∷ value.datagrams; times = time ∷ value.times; frames = frame ∷ value.frames }

collected_in : (octets : List ℕ) (ranges : List ByteRange) (times : List (Option ℕ)) (frames : List ℕ) → length times ≡ length ranges → length frames ≡ length ranges
    → collected_spec.collected_of (agreement.datagrams_in octets ranges times frames) ≡ record { datagrams = recording_capture.octets_in octets ranges; times = times; frames = frames }
unfolding one_in
collected_in octets [] [] [] timed framed = refl
collected_in octets [] [] (frame ∷ frames) timed framed = absurd (omega arith)
collected_in octets [] (time ∷ times) frames timed framed = absurd (omega arith)
collected_in octets (range ∷ ranges) [] frames timed framed = absurd (omega arith)
collected_in octets (range ∷ ranges) (time ∷ times) [] timed framed = absurd (omega arith)
collected_in octets (range ∷ ranges) (time ∷ times) (frame ∷ frames) timed framed =
    ap (one_in (slice_range octets range.from range.to) time frame) (collected_in octets ranges times frames (omega arith) (omega arith))

-- one more was collected
pub collected_more : (datagrams : List course.DatagramValue) (one : course.DatagramValue)
    → collected_spec.with_one (collected_spec.collected_of datagrams) one.octets one.time one.frame ≡ collected_spec.collected_of (datagrams ++ one ∷ [])
collected_more datagrams one =
    let octets = sym (map-append (λ (d : course.DatagramValue). d.octets) datagrams (one ∷ [])) in
    let times = sym (map-append (λ (d : course.DatagramValue). d.time) datagrams (one ∷ [])) in
    let frames = sym (map-append (λ (d : course.DatagramValue). d.frame) datagrams (one ∷ [])) in
    λ i. record { datagrams = octets i; times = times i; frames = frames i }

-- ---- what the whole of a capture stands for

-- what is told of the frames, as an answer tells it
recording_same : (captures : Captures) (file : List ℕ) (answer : capture.Answer) (value : collected_spec.CollectedValue)
    → value ≡ record { datagrams = recording_capture.octets_in (file ++ answer.behind) answer.datagrams; times = answer.times; frames = answer.frames }
    → recording_capture.recording_told captures file (Ok answer) ≡ Ok (recording_capture.recording_collected captures value (agreement.answer_summary answer))
recording_same Captures.Classic file answer value is = ap (λ (v : collected_spec.CollectedValue). Ok (recording_capture.recording_collected Captures.Classic v (agreement.answer_summary answer))) (sym is)
recording_same Captures.Any file answer value is = ap (λ (v : collected_spec.CollectedValue). Ok (recording_capture.recording_collected Captures.Any v (agreement.answer_summary answer))) (sym is)

same_end : (one other : Summary) (end : Result Summary CaptureFault) → end ≡ Ok one → end ≡ Ok other → one ≡ other
same_end one other end first second = cc

pub whole_told : agreement.CourseIsTold → (captures : Captures) (most : ℕ) (text : List ℕ) (datagrams : List course.DatagramValue) (summary : Summary)
    → course.course_of captures most text ≡ record { datagrams = datagrams; end = Ok summary }
    → recording_capture.recording_of_capture captures most text ≡ Ok (recording_capture.recording_collected captures (collected_spec.collected_of datagrams) summary)
unfolding recording_capture.recording_of_capture
whole_told law captures most text datagrams summary told = by (capture.capture_read captures most text) (law.agrees captures most text)
  where
    end : (course.course_of captures most text).end ≡ Ok summary
    end = ap (λ (c : course.Course). c.end) told

    by : (is : Result capture.Answer CaptureFault) → agreement.AgreesWith text (course.course_of captures most text) is
        → recording_capture.recording_told captures text is ≡ Ok (recording_capture.recording_collected captures (collected_spec.collected_of datagrams) summary)
    by (Err fault) agrees = absurd cc
    by (Ok answer) agrees =
        let whole = text ++ answer.behind in
        let all : datagrams ≡ agreement.datagrams_in whole answer.datagrams answer.times answer.frames = sym (ap (λ (c : course.Course). c.datagrams) told) ∙ agrees.3 in
        let value = ap collected_spec.collected_of all ∙ collected_in whole answer.datagrams answer.times answer.frames agrees.1 agrees.2 in
        let same = same_end (agreement.answer_summary answer) summary (course.course_of captures most text).end agrees.0 end in
        recording_same captures text answer (collected_spec.collected_of datagrams) value
        ∙ ap (λ (s : Summary). Ok (recording_capture.recording_collected captures (collected_spec.collected_of datagrams) s)) same

-- and its fault
pub fault_told : agreement.CourseIsTold → (captures : Captures) (most : ℕ) (text : List ℕ) (fault : CaptureFault) → (course.course_of captures most text).end ≡ Err fault
    → recording_capture.recording_of_capture captures most text ≡ Err (recording_capture.rec_fault_of fault)
unfolding recording_capture.recording_of_capture
fault_told law captures most text fault told = by (capture.capture_read captures most text) (law.agrees captures most text)
  where
    by : (is : Result capture.Answer CaptureFault) → agreement.AgreesWith text (course.course_of captures most text) is → recording_capture.recording_told captures text is ≡ Err (recording_capture.rec_fault_of fault)
    by (Ok answer) agrees = let end = agrees.0 in absurd cc
    by (Err other) agrees = let same : other ≡ fault = cc in ap (λ (f : CaptureFault). Err (recording_capture.rec_fault_of f)) same

-- ---- a part of it was read

-- more octets were read
began_on : (captures : Captures) (a b c : Option (List ℕ)) (text more : List ℕ) → blocks.Began captures a b text → Consumes b c more → blocks.Began captures a c (text ++ more)
began_on captures a b c text more began taken = record {
  taken = Consumes-trans a b c text more began.taken taken;
  begun = omega (arith, began.begun, length-append text more);
  form = begins_capture-append captures text more began.begun ∙ began.form;
}

pub began_so : (captures : Captures) (before now : Option (List ℕ)) (text : List ℕ) → Consumes before now text → 4 ≤ length text → forms.begins_capture captures text ≡ true → blocks.Began captures before now text
began_so captures before now text taken begun form = record { taken = taken; begun = begun; form = form }

may_come : (a b : Option (List ℕ)) (old new : held.HeldValue) (more later : List ℕ) → held.Reads a b old new more → held.MayCome new later → held.MayCome old (more ++ later)
may_come a b old new more later reads may = λ is. let closed = reads.closed is in ap₂ (λ (k l : List ℕ). k ++ l) closed.0 (may closed.1)

-- its header was read
pub came_open : (limits : Limits) (captures : Captures) (a b c : Option (List ℕ)) (begun : List ℕ) (reader : CaptureReader) → blocks.Began captures a b begun
    → advancing.Opens captures limits.datagrams b c begun (Opened.Capture reader) → blocks.CameSo limits captures a c reader []
came_open limits captures a b c begun reader began opens = record {
  text = begun ++ opens.0;
  began = began_on captures a b c begun opens.0 began opens.1.taken;
  size = opens.1.counted ∙ sym (length-append begun opens.0);
  at_end = opens.1.at_end;
  stands = λ later may. ap (course.course_of captures limits.datagrams) (append_assoc begun opens.0 later) ∙ opens.2 later may;
}

pub stops_open : (limits : Limits) (captures : Captures) (a b c : Option (List ℕ)) (begun : List ℕ) (read : ℕ) (ended : Bool) → blocks.Began captures a b begun
    → advancing.Opens captures limits.datagrams b c begun (Opened.Other read ended) → blocks.StopsAt limits captures a c (record { read = read; ended = ended; fault = CaptureFault.BadCapture })
stops_open limits captures a b c begun read ended began opens = record {
  text = begun ++ opens.0;
  began = began_on captures a b c begun opens.0 began opens.1.taken;
  size = opens.1.counted ∙ sym (length-append begun opens.0);
  at_end = opens.1.at_end;
  faulty = λ later may. ap (λ (l : List ℕ). (course.course_of captures limits.datagrams l).end) (append_assoc begun opens.0 later) ∙ ap (λ (c : course.Course). c.end) (opens.2 later may);
}

-- the course behind datagrams
behind : List course.DatagramValue → course.Course → course.Course
behind datagrams rest = record { datagrams = datagrams ++ rest.datagrams; end = rest.end }

-- a datagram more was told
pub came_on : (limits : Limits) (captures : Captures) (a b c : Option (List ℕ)) (old new : CaptureReader) (datagrams : List course.DatagramValue) (one : course.DatagramValue)
    → blocks.CameSo limits captures a b old datagrams → advancing.Advances b c old new (Ok true) → advancing.last_of new ≡ Some one → blocks.CameSo limits captures a c new (datagrams ++ one ∷ [])
unfolding behind
came_on limits captures a b c old new datagrams one so on last = record {
  text = so.text ++ on.more;
  began = began_on captures a b c so.text on.more so.began on.reads.taken;
  size = omega (arith, on.reads.counted, so.size, length-append so.text on.more);
  at_end = on.reads.at_end so.at_end;
  stands = λ later may.
      let next = advancing.course_behind new later in
      let told = subst (λ (l : Option course.DatagramValue). advancing.Tells (Ok true) (advancing.course_behind old (on.more ++ later)) next (advancing.summary_of new) l) last (on.tells later may) in
      ap (course.course_of captures limits.datagrams) (append_assoc so.text on.more later) ∙ so.stands (on.more ++ later) (may_come b c old.frames.held new.frames.held on.more later on.reads may)
      ∙ ap (behind datagrams) told
      ∙ ap (λ (l : List course.DatagramValue). let whole : course.Course = record { datagrams = l; end = next.end } in whole) (sym (append_assoc datagrams (one ∷ []) next.datagrams));
}

-- where one was told, it came last
pub none_told : (b c : Option (List ℕ)) (old new : CaptureReader) → advancing.Advances b c old new (Ok true) → new.found ≡ None → ⊥
none_told b c old new on none =
    subst (λ (found : Option Found). advancing.Tells (Ok true) (advancing.course_behind old (on.more ++ [])) (advancing.course_behind new []) (advancing.summary_of new) (noting.found_datagram new.frames.held.octets new.notes found)) none
    (on.tells [] (λ is. refl))

-- no more was told
pub came_whole : (limits : Limits) (captures : Captures) (a b c : Option (List ℕ)) (old new : CaptureReader) (datagrams : List course.DatagramValue) → blocks.CameSo limits captures a b old datagrams
    → advancing.Advances b c old new (Ok false) → blocks.IsWhole limits captures a c new datagrams
unfolding behind
came_whole limits captures a b c old new datagrams so on =
    let ended = on.done refl in
    let none : held.MayCome new.frames.held [] = λ is. refl in
    let told = on.tells [] none in
    let last : course.Course = record { datagrams = []; end = Ok (advancing.summary_of new) } in
    record {
      text = so.text ++ on.more;
      began = began_on captures a b c so.text on.more so.began on.reads.taken;
      size = omega (arith, on.reads.counted, so.size, length-append so.text on.more);
      at_end = on.reads.at_end so.at_end ended;
      told =
          ap (λ (l : List ℕ). course.course_of captures limits.datagrams (so.text ++ l)) (sym (append-nil on.more))
          ∙ so.stands (on.more ++ []) (may_come b c old.frames.held new.frames.held on.more [] on.reads none) ∙ ap (behind datagrams) told
          ∙ ap (λ (l : List course.DatagramValue). let whole : course.Course = record { datagrams = l; end = last.end } in whole) (append-nil datagrams);
    }

-- a fault was told
pub came_fault : (limits : Limits) (captures : Captures) (a b c : Option (List ℕ)) (old new : CaptureReader) (datagrams : List course.DatagramValue) (fault : ReadFault)
    → blocks.CameSo limits captures a b old datagrams → advancing.IfTold (Err fault) (advancing.Advances b c old new (Err fault)) → blocks.FailsTaking limits captures a c new fault
came_fault limits captures a b c old new datagrams ReadFault.Input so on = tt
came_fault limits captures a b c old new datagrams (ReadFault.Capture fault) so on = by fault on
  where
    stop : (is : CaptureFault) → advancing.Advances b c old new (Err (ReadFault.Capture is))
        → blocks.StopsAt limits captures a c (record { read = new.frames.held.read; ended = new.frames.held.ended; fault = is })
    stop is on = record {
      text = so.text ++ on.more;
      began = began_on captures a b c so.text on.more so.began on.reads.taken;
      size = omega (arith, on.reads.counted, so.size, length-append so.text on.more);
      at_end = on.reads.at_end so.at_end;
      faulty = λ later may.
          ap (λ (l : List ℕ). (course.course_of captures limits.datagrams l).end) (append_assoc so.text on.more later)
          ∙ ap (λ (c : course.Course). c.end) (so.stands (on.more ++ later) (may_come b c old.frames.held new.frames.held on.more later on.reads may))
          ∙ ap (λ (c : course.Course). c.end) (on.tells later may);
    }

    by : (is : CaptureFault) → advancing.IfTold (Err (ReadFault.Capture is)) (advancing.Advances b c old new (Err (ReadFault.Capture is))) → blocks.FailsTaking limits captures a c new (ReadFault.Capture is)
    by CaptureFault.BadCapture on = stop CaptureFault.BadCapture on
    by (CaptureFault.Damaged frame) on = stop (CaptureFault.Damaged frame) on
    by (CaptureFault.CutCapture frame) on = stop (CaptureFault.CutCapture frame) on
    by CaptureFault.TooMany on = stop CaptureFault.TooMany on
    by CaptureFault.Memory on = tt

-- a fault that says something of the capture
pub stops_told : (limits : Limits) (captures : Captures) (before now : Option (List ℕ)) (reader : CaptureReader) (fault : CaptureFault) (read : ℕ) (ended : Bool)
    → blocks.is_memory fault ≡ false → read ≡ reader.frames.held.read → ended ≡ reader.frames.held.ended → blocks.FailsTaking limits captures before now reader (ReadFault.Capture fault)
    → blocks.StopsAt limits captures before now (record { read = read; ended = ended; fault = fault })
stops_told limits captures before now reader fault read ended other many last stops = rw (many, last) (by fault other stops)
  where
    by : (is : CaptureFault) → blocks.is_memory is ≡ false → blocks.FailsTaking limits captures before now reader (ReadFault.Capture is)
        → blocks.StopsAt limits captures before now (record { read = reader.frames.held.read; ended = reader.frames.held.ended; fault = is })
    by CaptureFault.BadCapture other stops = stops
    by (CaptureFault.Damaged frame) other stops = stops
    by (CaptureFault.CutCapture frame) other stops = stops
    by CaptureFault.TooMany other stops = stops
    by CaptureFault.Memory other stops = absurd cc

-- ---- what a run tells of it

pub whole_reads : agreement.CourseIsTold → (limits : Limits) (captures : Captures) (before now : Option (List ℕ)) (text : List ℕ) (datagrams : List course.DatagramValue) (summary : Summary) (recording : recording.RecordingValue)
    → blocks.Began captures before now text → IsAtEnd now → length text ≤ limits.octets → course.course_of captures limits.datagrams text ≡ record { datagrams = datagrams; end = Ok summary }
    → recording ≡ recording_capture.recording_collected captures (collected_spec.collected_of datagrams) summary → runs.ReadsRecording limits captures before now recording
whole_reads law limits captures before now text datagrams summary recording began end few told is = record {
  text = text;
  taken = began.taken;
  whole = end;
  is_read = recording_of-capture limits captures text few began.form ∙ whole_told law captures limits.datagrams text datagrams summary told ∙ ap Ok (sym is);
}

-- it is past the most octets that it may have
past_fails : (limits : Limits) (captures : Captures) (before now : Option (List ℕ)) (text : List ℕ) → Consumes before now text → limits.octets < length text → runs.ReadsFault limits captures before now RecFault.TooMany
past_fails limits captures before now text taken past = record {
  text = text;
  reads = record { taken = taken; whole = λ few. absurd (omega arith) };
  faulty = recording_of-past limits captures text past;
  readable = λ same. cc;
}

pub taken_past : (limits : Limits) (captures : Captures) (before now : Option (List ℕ)) (reader : CaptureReader) (datagrams : List course.DatagramValue) → limits.octets < reader.frames.held.read
    → ((limits.octets < reader.frames.held.read) × blocks.CameSo limits captures before now reader datagrams) ⊎ blocks.IsWhole limits captures before now reader datagrams
    → runs.ReadsFault limits captures before now RecFault.TooMany
taken_past limits captures before now reader datagrams past (inl (_, so)) = past_fails limits captures before now so.text so.began.taken (omega (arith, so.size, past))
taken_past limits captures before now reader datagrams past (inr whole) = past_fails limits captures before now whole.text whole.began.taken (omega (arith, whole.size, past))

-- all of it was taken
pub takes_all : (limits : Limits) (captures : Captures) (before now : Option (List ℕ)) (reader : CaptureReader) (Took : List course.DatagramValue → Type 0) (whole : WholeCapture)
    → whole.summary ≡ advancing.summary_of reader → whole.octets ≡ reader.frames.held.read → reader.frames.held.read ≤ limits.octets
    → blocks.Takes limits captures before now reader Took → blocks.TakesAll limits captures before now Took whole
takes_all limits captures before now reader Took whole summary octets within (datagrams, took, inl (past, so)) = absurd (omega (arith, past, within))
takes_all limits captures before now reader Took whole summary octets within (datagrams, took, inr is) = record {
  text = is.text;
  datagrams = datagrams;
  took = took;
  began = is.began;
  at_end = is.at_end;
  size = octets ∙ is.size;
  within = omega (arith, is.size, within);
  told = is.told ∙ ap (λ (s : Summary). let end : course.Course = record { datagrams = datagrams; end = Ok s } in end) (sym summary);
}

-- it has a fault, and the rest was read
pub stop_past : (limits : Limits) (captures : Captures) (a b c : Option (List ℕ)) (stop : Stop) (total : ℕ) → blocks.StopsAt limits captures a b stop → blocks.ReadsRest limits.octets b c stop total → limits.octets < total
    → runs.ReadsFault limits captures a c RecFault.TooMany
stop_past limits captures a b c stop total stops rest past =
    past_fails limits captures a c (stops.text ++ rest.text) (Consumes-trans a b c stops.text rest.text stops.began.taken rest.taken) (omega (arith, stops.size, rest.size, length-append stops.text rest.text, past))

pub stop_fails : agreement.CourseIsTold → (limits : Limits) (captures : Captures) (a b c : Option (List ℕ)) (stop : Stop) (total : ℕ) → blocks.StopsAt limits captures a b stop → blocks.ReadsRest limits.octets b c stop total
    → total ≤ limits.octets → runs.FailsReading limits captures a c (run_faults.run_fault_of (recording_capture.rec_fault_of stop.fault))
stop_fails law limits captures a b c stop total stops rest few =
    let text = stops.text ++ rest.text in
    let size = length-append stops.text rest.text in
    let began = began_on captures a b c stops.text rest.text stops.began rest.taken in
    let told = stops.faulty rest.text (λ is. (rest.none is).0) in
    let within : length text ≤ limits.octets = omega (arith, stops.size, rest.size, size, few) in
    let fault = recording_of-capture limits captures text within began.form ∙ fault_told law captures limits.datagrams text stop.fault told in
    FailsReading-text limits captures a c text (recording_capture.rec_fault_of stop.fault) record { taken = began.taken; whole = λ _. at_end (rest.whole few) } (is_fault (recording_capture.rec_fault_of stop.fault) fault)
  where
    at_end : (stop.ended ≡ true) ⊎ IsAtEnd c → IsAtEnd c
    at_end (inl is) = subst IsAtEnd (sym (rest.none is).1) (stops.at_end is)
    at_end (inr end) = end

    is_fault : (fault : RecFault) → forms.recording_within limits captures (stops.text ++ rest.text) ≡ Err fault → outcomes.IsFaultOf (forms.recording_within limits captures (stops.text ++ rest.text)) fault
    is_fault (RecFault.BadHex line) is = is
    is_fault (RecFault.TooLong line) is = is
    is_fault RecFault.TooMany is = is
    is_fault RecFault.Memory is = tt
    is_fault RecFault.BadCapture is = is
    is_fault (RecFault.CutCapture frame) is = is
    is_fault (RecFault.Damaged frame) is = is

-- a fault that says nothing of the capture
pub open_fails : (limits : Limits) (captures : Captures) (a b : Option (List ℕ)) (fault : ReadFault) → left_spec.IsOpenFault fault → runs.FailsReading limits captures a b (run_faults.run_fault_in fault)
open_fails limits captures a b ReadFault.Input is = tt
open_fails limits captures a b (ReadFault.Capture fault) is = subst (λ (f : CaptureFault). runs.FailsReading limits captures a b (run_faults.run_fault_of (recording_capture.rec_fault_of f))) (sym is) tt

pub rest_fails : (limits : Limits) (captures : Captures) (a b : Option (List ℕ)) (fault : RunFault) → blocks.IsNoRecFault fault → runs.FailsReading limits captures a b fault
rest_fails limits captures a b RunFault.Input is = tt
rest_fails limits captures a b RunFault.Memory is = tt
rest_fails limits captures a b (RunFault.Recording fault) is = absurd is
rest_fails limits captures a b (RunFault.Output written) is = absurd is
rest_fails limits captures a b RunFault.Changed is = absurd is

-- ---- a capture in memory

-- its first four octets begin one, too
pub front_begins : (captures : Captures) (input : List ℕ) → 4 ≤ length input → forms.begins_capture captures input ≡ true → forms.begins_capture captures (take 4 input) ≡ true
front_begins captures input long is =
    let size : 4 ≤ length (take 4 input) = omega (arith, length-take-le 4 input long, long) in
    sym (begins_capture-append captures (take 4 input) (drop 4 input) size) ∙ ap (forms.begins_capture captures) (take-append-drop 4 input) ∙ is

-- these octets, and the others
pub front_and_rest : (input : List ℕ) → input ≡ take 4 input ++ take (length input - 4) (drop 4 input)
front_and_rest input =
    let all : take (length input - 4) (drop 4 input) ≡ drop 4 input = take_all (length input - 4) (drop 4 input) (omega (arith, length-drop 4 input)) in
    sym (take-append-drop 4 input) ∙ ap (λ (l : List ℕ). take 4 input ++ l) (sym all)

-- what is left at the end is nothing, so that all was read
all_read : (input : List ℕ) (left : Option (List ℕ)) (text : List ℕ) → Consumes (Some input) left text → IsAtEnd left → text ≡ input
all_read input None text taken end = absurd taken
all_read input (Some rest) text taken end = sym (taken ∙ ap (λ (l : List ℕ). text ++ l) end ∙ append-nil text)

no_longer : (input : List ℕ) (left : Option (List ℕ)) (text : List ℕ) → Consumes (Some input) left text → length text ≤ length input
no_longer input None text taken = absurd taken
no_longer input (Some rest) text taken = omega (arith, ap (λ (l : List ℕ). length l) taken, length-append text rest)

pub slice_reads : (limits : Limits) (captures : Captures) (input : List ℕ) (left : Option (List ℕ)) (recording : recording.RecordingValue) → runs.ReadsRecording limits captures (Some input) left recording
    → forms.recording_within limits captures input ≡ Ok recording
slice_reads limits captures input left recording reads = ap (forms.recording_within limits captures) (sym (all_read input left reads.text reads.taken reads.whole)) ∙ reads.is_read

pub slice_fails : (limits : Limits) (captures : Captures) (input : List ℕ) (left : Option (List ℕ)) (fault : RecFault) → length input ≤ limits.octets → runs.ReadsFault limits captures (Some input) left fault
    → outcomes.IsFaultOf (forms.recording_within limits captures input) fault
slice_fails limits captures input left fault few reads = is_fault fault same
  where
    size : length reads.text ≤ limits.octets
    size = omega (arith, no_longer input left reads.text reads.reads.taken, few)

    same : forms.recording_within limits captures input ≡ Err fault
    same = ap (forms.recording_within limits captures) (sym (all_read input left reads.text reads.reads.taken (reads.reads.whole size))) ∙ reads.faulty

    is_fault : (is : RecFault) → forms.recording_within limits captures input ≡ Err is → outcomes.IsFaultOf (forms.recording_within limits captures input) is
    is_fault (RecFault.BadHex line) is = is
    is_fault (RecFault.TooLong line) is = is
    is_fault RecFault.TooMany is = is
    is_fault RecFault.Memory is = tt
    is_fault RecFault.BadCapture is = is
    is_fault (RecFault.CutCapture frame) is = is
    is_fault (RecFault.Damaged frame) is = is
