-- A recording that is read again gives the same, where its octets are known.
use Rattle.std.proofs.Common.{◌≡◌, ◌≤◌, ◌++◌, ◌∷◌, [], ℕ, Bool, false, true, true≢false, List, length, map, take, refl, sym, ap, subst, ◌∙◌, append-nil, arith}
use Rattle.std.specs.Prelude.{IfSome, MatchResult, None, Option, Some, Result, Ok, Err}
use Rattle.std.specs.Option.{option_map}
use Rattle.std.specs.Io.KnownBytes.{Appends, Consumes, Keeps}
use Rattle.std.proofs.lemmas.List.{length-append, map-append, take_all}
use Rattle.std.proofs.lemmas.List.Elements.{All-weaker}
use Rattle.std.proofs.lemmas.List.Folds.{flat_map-map}
use Rattle.std.proofs.lemmas.List.Sums.{fold-append}
use Rattle.rtps_wire.specs.Reading as reading
use Rattle.rtps_wire.specs.Tally as tally_spec
use Rattle.rtps_wire.specs.declared.counts.Tally.{Tally}
use Rattle.rtps_receiver.specs.Acts as acts_spec
use Rattle.rtps_receiver.specs.Values as values
use Rattle.rtps_audit.specs.Delivered as delivered
use Rattle.rtps_audit.specs.Intake as intake_spec
use Rattle.rtps_audit.specs.Report as report_spec
use Rattle.rtps_audit.specs.RunVerdict as run_verdict
use Rattle.rtps_audit.specs.Speech as speech
use Rattle.rtps_audit.specs.declared.report.Report.{Report}
use Rattle.rtps_audit.specs.declared.report.Row.{Row}
use Rattle.rtps_discovery.specs.Directory as directory_spec
use Rattle.rtps_discovery.specs.Notice as notice
use Rattle.rtps_fragments.specs.Laws as fragments_laws
use Rattle.rtps_fragments.specs.RecordedSamples as recorded_samples
use Rattle.rtps_fragments.specs.SampleReport as sample_report
use Rattle.rtps_fragments.specs.declared.fragments.Fragments.{Fragments}
use Rattle.rtps_capture.specs.Agreement as agreement
use Rattle.rtps_capture.specs.Course as course
use Rattle.rtps_capture.specs.declared.captures.Captures.{Captures}
use Rattle.rtps_report.specs.Recording as recording
use Rattle.rtps_report.specs.declared.audited.AskedAudit.{AskedAudit}
use Rattle.rtps_report.specs.declared.findings.Ending.{Ending}
use Rattle.rtps_text.specs.ListText as list_text
use Rattle.rtps_text.specs.ReportText as report_text
use Rattle.rtps_tool.specs.CaptureBlocks as blocks
use Rattle.rtps_tool.specs.Collected as collected_spec
use Rattle.rtps_tool.specs.Forms as forms
use Rattle.rtps_tool.specs.Lines as lines
use Rattle.rtps_tool.specs.Passes as passes
use Rattle.rtps_tool.specs.RecordingCapture as recording_capture
use Rattle.rtps_tool.specs.RecordingText as recording_text
use Rattle.rtps_tool.specs.Runs as runs
use Rattle.rtps_tool.specs.Sums as sums
use Rattle.rtps_tool.specs.Unfinished as unfinished
use Rattle.rtps_tool.specs.declared.faults.RecFault.{RecFault}
use Rattle.rtps_tool.specs.declared.faults.RunFault.{RunFault}
use Rattle.rtps_tool.specs.declared.form.capture_blocks.CaptureTerms.{CaptureTerms}
use Rattle.rtps_tool.specs.declared.form.whole.Whole.{Whole}
use Rattle.rtps_tool.specs.declared.form.whole_capture.WholeCapture.{WholeCapture}
use Rattle.rtps_tool.specs.declared.passes.first_pass.FirstPass.{FirstPass}
use Rattle.rtps_tool.specs.declared.runs.Limits.{Limits}
use Rattle.rtps_tool.proofs.BlocksLemmas.{whole_told}
use Rattle.rtps_tool.proofs.RunsLemmas.{all_read}
use Rattle.rtps_tool.proofs.UnfinishedLemmas.{octets_of-untimed, recording_of-capture, recording_of-text}

-- ---- what is told of a datagram more

-- the sum over one more
pub sum_more : (start : ℕ) (before : List course.DatagramValue) (one : course.DatagramValue) (now : ℕ)
    → now ≡ sums.sum_of start before → sums.sum_with now one ≡ sums.sum_of start (before ++ one ∷ [])
sum_more start before one now was = ap (λ (sum : ℕ). sums.sum_with sum one) was ∙ sym (fold-append sums.sum_with start before (one ∷ []))

octets_more : (before : List course.DatagramValue) (one : course.DatagramValue) → sums.octets_of (before ++ one ∷ []) ≡ sums.octets_of before ++ one.octets ∷ []
octets_more before one = map-append (λ (one : course.DatagramValue). one.octets) before (one ∷ [])

-- its acts
pub acts_more : (before : List course.DatagramValue) (one : course.DatagramValue) (acts : List values.ActValue) → acts ≡ acts_spec.acts_of (reading.reading_of one.octets)
    → speech.acts_by_datagram (sums.octets_of before) ++ acts ∷ [] ≡ speech.acts_by_datagram (sums.octets_of (before ++ one ∷ []))
acts_more before one acts is =
    ap (λ (acts : List values.ActValue). speech.acts_by_datagram (sums.octets_of before) ++ acts ∷ []) is
    ∙ sym (map-append (λ (octets : List ℕ). acts_spec.acts_of (reading.reading_of octets)) (sums.octets_of before) (one.octets ∷ []))
    ∙ ap speech.acts_by_datagram (sym (octets_more before one))

-- and its tally
pub intake_more : (before : List course.DatagramValue) (one : course.DatagramValue) (tally : Tally) (acts : List values.ActValue)
    → tally ≡ tally_spec.tally_of (reading.reading_of one.octets) → acts ≡ acts_spec.acts_of (reading.reading_of one.octets)
    → intake_spec.intake_more (intake_spec.intake_of (sums.octets_of before)) tally acts acts ≡ intake_spec.intake_of (sums.octets_of (before ++ one ∷ []))
intake_more before one tally acts tallied said =
    let told = acts_more before one acts said in
    let tallies = λ (octets : List ℕ). tally_spec.tally_of (reading.reading_of octets) in
    let counted = ap (λ (t : Tally). map tallies (sums.octets_of before) ++ t ∷ []) tallied ∙ sym (map-append tallies (sums.octets_of before) (one.octets ∷ [])) ∙ ap (map tallies) (sym (octets_more before one)) in
    λ i. record { tallies = counted i; acts = told i; announcing = told i }

-- ---- all of a recording

-- all of it was read
pub whole_of : (limits : Limits) (captures : Captures) (all : List ℕ) (before now : Option (List ℕ)) (Took : List course.DatagramValue → Type 0) (whole : WholeCapture) → before ≡ Some all
    → blocks.TakesAll limits captures before now Took whole → passes.IsFoundOf limits captures all Took (Whole.Capture whole)
whole_of limits captures all before now Took whole known takes =
    let taken : Consumes (Some all) now takes.text = subst (λ (b : Option (List ℕ)). Consumes b now takes.text) known takes.began.taken in
    let same : takes.text ≡ all = all_read all now takes.text taken takes.at_end in
    let size : length takes.text ≡ length all = ap (λ (l : List ℕ). length l) same in
    let told = sym (ap (course.course_of captures limits.datagrams) same) ∙ takes.told in
    let begins : forms.begins_capture captures all ≡ true = sym (ap (forms.begins_capture captures) same) ∙ takes.began.form in
    let datagrams = ap (λ (is : Bool). passes.datagrams_in_form is limits captures all) begins ∙ ap (λ (c : course.Course). c.datagrams) told in (
      record {
        begins = begins;
        within = omega (arith, takes.within, size);
        size = takes.size ∙ size;
        ends = ap (λ (c : course.Course). c.end) told;
      },
      subst Took (sym datagrams) takes.took,
    )

-- all of a text was
pub text_of : (limits : Limits) (captures : Captures) (all : List ℕ) (before now : Option (List ℕ)) (Took : List course.DatagramValue → Type 0) (octets : ℕ) → before ≡ Some all
    → unfinished.TakesText limits captures before now Took octets → passes.IsFoundOf limits captures all Took (Whole.Text octets)
text_of limits captures all before now Took octets known takes =
    let taken : Consumes (Some all) now takes.text = subst (λ (b : Option (List ℕ)). Consumes b now takes.text) known takes.taken in
    let same : takes.text ≡ all = all_read all now takes.text taken takes.at_end in
    let size : length takes.text ≡ length all = ap (λ (l : List ℕ). length l) same in
    let told = sym (ap (λ (text : List ℕ). recording_text.recording_of_lines limits.datagrams 1 0 (lines.lines_of text)) same) ∙ takes.told in
    let plain : forms.begins_capture captures all ≡ false = sym (ap (forms.begins_capture captures) same) ∙ takes.plain in
    let datagrams = ap (λ (is : Bool). passes.datagrams_in_form is limits captures all) plain
    ∙ ap (λ (found : Result (List (List ℕ)) RecFault). recording_text.untimed (passes.datagrams_or_none found)) told in (
      record { plain = plain; within = omega (arith, takes.within, size); size = takes.size ∙ size; datagrams = takes.datagrams; told = told },
      subst Took (sym datagrams) takes.took,
    )

-- what was read of it came first
pub front_of : (all : List ℕ) (before now : Option (List ℕ)) (text : List ℕ) → before ≡ Some all → Consumes before now text → (rest : List ℕ) × (all ≡ text ++ rest)
front_of all before now text known taken = by now (subst (λ (b : Option (List ℕ)). Consumes b now text) known taken)
  where
    by : (now : Option (List ℕ)) → Consumes (Some all) now text → (rest : List ℕ) × (all ≡ text ++ rest)
    by None taken = absurd taken
    by (Some rest) taken = (rest, taken)

-- a recording of these octets, as it was found
pub record StandsFor (limits : Limits) (captures : Captures) (all : List ℕ) (whole : Whole) : Type 0 where
  pub recording : recording.RecordingValue
  pub is : forms.recording_within limits captures all ≡ Ok recording
  pub datagrams : recording.datagrams ≡ sums.octets_of (passes.datagrams_of limits captures all)
  pub ignored : recording.ignored ≡ passes.ignored_in whole

-- it stands for a recording
pub whole_recording : agreement.CourseIsTold → (limits : Limits) (captures : Captures) (all : List ℕ) (whole : Whole) → passes.IsAllOf limits captures all whole → StandsFor limits captures all whole
whole_recording law limits captures all (Whole.Capture whole) is =
    let datagrams = (course.course_of captures limits.datagrams all).datagrams in
    record {
      recording = recording_capture.recording_collected captures (collected_spec.collected_of datagrams) whole.summary;
      is = recording_of-capture limits captures all is.within is.begins
          ∙ whole_told law captures limits.datagrams all datagrams whole.summary
          (ap (λ (end : Result _ _). let told : course.Course = record { datagrams = datagrams; end = end } in told) is.ends);
      datagrams = ap (λ (form : Bool). sums.octets_of (passes.datagrams_in_form form limits captures all)) (sym is.begins);
      ignored = refl;
    }
whole_recording law limits captures all (Whole.Text octets) is =
    let found = λ (found : Result (List (List ℕ)) RecFault). sums.octets_of (recording_text.untimed (passes.datagrams_or_none found)) in
    record {
      recording = recording_text.unframed is.datagrams;
      is = recording_of-text limits captures all is.within is.plain ∙ ap recording_text.without_frames is.told;
      datagrams = sym (ap (λ (form : Bool). sums.octets_of (passes.datagrams_in_form form limits captures all)) is.plain ∙ ap found is.told ∙ octets_of-untimed is.datagrams);
      ignored = refl;
    }

-- how long it is
pub size_of_whole : (limits : Limits) (captures : Captures) (all : List ℕ) (whole : Whole) → passes.IsAllOf limits captures all whole → passes.size_of whole ≡ length all
size_of_whole limits captures all (Whole.Capture whole) is = is.size
size_of_whole limits captures all (Whole.Text octets) is = is.size

pub within_of_whole : (limits : Limits) (captures : Captures) (all : List ℕ) (whole : Whole) → passes.IsAllOf limits captures all whole → length all ≤ limits.octets
within_of_whole limits captures all (Whole.Capture whole) is = is.within
within_of_whole limits captures all (Whole.Text octets) is = is.within

-- so it has no fault
pub no_fault : agreement.CourseIsTold → (limits : Limits) (captures : Captures) (all : List ℕ) (whole : Whole) (fault : RecFault) → passes.IsAllOf limits captures all whole
    → passes.FailsOn limits captures all (RunFault.Recording fault) → ⊥
no_fault law limits captures all whole fault is (left, fails) =
    let front = front_of all (Some all) left fails.text refl fails.reads.taken in
    let size : length fails.text ≤ length all = omega (arith, ap (λ (l : List ℕ). length l) front.1, length-append fails.text front.0) in
    let within = within_of_whole limits captures all whole is in
    let same : fails.text ≡ all = all_read all left fails.text fails.reads.taken (fails.reads.whole (omega (arith, size, within))) in
    let told = (whole_recording law limits captures all whole is).is in
    let faulty = ap (forms.recording_within limits captures) (sym same) ∙ fails.faulty in
    absurd cc

-- and a fault behind the first pass is of reading alone
pub fails_again : agreement.CourseIsTold → (all : List ℕ) (first : FirstPass) (fault : RunFault) → passes.IsFirstOf all first → passes.FailsOn first.terms.limits first.terms.captures all fault
    → blocks.IsNoRecFault (passes.fault_again fault)
fails_again law all first (RunFault.Recording fault) is fails = absurd (no_fault law first.terms.limits first.terms.captures all first.whole fault is.whole fails)
fails_again law all first RunFault.Input is fails = tt
fails_again law all first (RunFault.Output written) is fails = absurd fails.1
fails_again law all first RunFault.Memory is fails = tt
fails_again law all first RunFault.Changed is fails = absurd fails.1

pub read_fault_again : (fault : RunFault) → passes.IsReadFault fault → passes.IsReadFault (passes.fault_again fault)
read_fault_again (RunFault.Recording fault) is = tt
read_fault_again RunFault.Input is = tt
read_fault_again (RunFault.Output written) is = is
read_fault_again RunFault.Memory is = tt
read_fault_again RunFault.Changed is = tt

-- what a reader has that was taken to the start of known octets
pub of_known : (octets left : Option (List ℕ)) (all : List ℕ) → IfSome octets (λ all. left ≡ Some all) → octets ≡ Some all → left ≡ Some all
of_known octets left all is known = subst (λ (octets : Option (List ℕ)). IfSome octets (λ all. left ≡ Some all)) known is

-- so many octets of it are all
pub all_within : (n : ℕ) (all : List ℕ) (left : Option (List ℕ)) → left ≡ Some all → length all ≤ n → option_map (take n) left ≡ Some all
all_within n all left known few = ap (option_map (take n)) known ∙ ap Some (take_all n all few)

-- whatever was read, nothing was written
pub nothing_written : (limits : Limits) (captures : Captures) (before now : Option (List ℕ)) (fault : RunFault) → runs.FailsReading limits captures before now fault → passes.IsReadFault fault
nothing_written limits captures before now (RunFault.Recording fault) is = tt
nothing_written limits captures before now RunFault.Input is = tt
nothing_written limits captures before now (RunFault.Output written) is = is
nothing_written limits captures before now RunFault.Memory is = tt
nothing_written limits captures before now RunFault.Changed is = absurd is

-- and it is found again
pub not_changed : (all : List ℕ) (first : FirstPass) (Took : List course.DatagramValue → Type 0) (state : ℕ) (whole : Whole) (sum : ℕ) → passes.IsFirstOf all first
    → passes.IsFoundOf first.terms.limits first.terms.captures all (λ datagrams. Took datagrams × (state ≡ sums.sum_of sums.initial datagrams)) whole → sum ≡ state
    → passes.is_found_again first whole sum ≡ false → ⊥
not_changed all first Took state whole sum is found summed differs =
    let octets : passes.size_of whole ≡ passes.size_of first.whole =
    size_of_whole first.terms.limits first.terms.captures all whole found.0 ∙ sym (size_of_whole first.terms.limits first.terms.captures all first.whole is.whole) in
    let same : sum ≡ first.sum = summed ∙ found.1.1 ∙ sym is.sum in
    let both : passes.is_found_again first whole sum ≡ true = rw (octets, same) (grind arith) in
    true≢false (sym both ∙ differs)

-- the acts of its datagrams
pub acts_together : (octets : List (List ℕ)) → intake_spec.acts_together (speech.acts_by_datagram octets) ≡ acts_spec.acts_in octets
acts_together octets = flat_map-map (λ (acts : List values.ActValue). acts) (λ (datagram : List ℕ). acts_spec.acts_of (reading.reading_of datagram)) octets

-- where no act sends fragments, the report by the acts as they are sent is the one by what each reader hears
pub plain_report : fragments_laws.ActsAreHeardWithoutFragments → (from : ℕ) (intake : intake_spec.Intake) (report : Report) → fragments_laws.SendNoFragments intake.acts → report_spec.IsReportBy from intake report → sample_report.IsReportHeard from intake report
plain_report stay from intake report none is = record {
  directory = is.directory;
  is_map = is.is_map;
  pairs = is.pairs;
  judged = All-weaker (report_spec.IsJudgedFrom from intake.acts) (sample_report.IsHeardFrom from intake.acts)
      (λ (row : Row) judged. subst (λ (acts : List (List values.ActValue)). run_verdict.IsVerdictFrom from (speech.speech_by row.pair.writer row.pair.reader acts) row.verdict) (sym (stay row.pair.reader intake.acts none)) judged) report.rows.items is.judged;
  counts = is.counts;
}

-- ---- a run

-- a run of known octets ends well
pub tells_run : (limits : Limits) (captures : Captures) (IsPrinted : recording.RecordingValue → List ℕ → Ending → Type 0) (octets held holds : Option (List ℕ)) (text : List ℕ) (ending : Ending) → Appends held holds text
    → ((all : List ℕ) → octets ≡ Some all → passes.Tells limits captures IsPrinted all text ending) → passes.RunsSource limits captures IsPrinted octets held holds (Ok ending)
tells_run limits captures IsPrinted None held holds text ending wrote told = (text, wrote)
tells_run limits captures IsPrinted (Some all) held holds text ending wrote told =
    let is = told all refl in
    (Some [], (is.0, text, record { text = all; taken = sym (append-nil all); whole = refl; is_read = is.1 }, is.2, wrote))

-- or a write fails
pub writing_fails : (limits : Limits) (captures : Captures) (IsPrinted : recording.RecordingValue → List ℕ → Ending → Type 0) (octets held holds : Option (List ℕ)) (text : List ℕ) (ending : Ending) (fault : RunFault)
    → runs.FailsWriting held holds text fault → ((all : List ℕ) → octets ≡ Some all → passes.Tells limits captures IsPrinted all text ending) → passes.RunsSource limits captures IsPrinted octets held holds (Err fault)
writing_fails limits captures IsPrinted None held holds text ending (RunFault.Output written) fails told = (text, fails)
writing_fails limits captures IsPrinted (Some all) held holds text ending (RunFault.Output written) fails told =
    let is = told all refl in
    (Some [], (is.0, text, ending, record { text = all; taken = sym (append-nil all); whole = refl; is_read = is.1 }, is.2, fails))
writing_fails limits captures IsPrinted octets held holds text ending (RunFault.Recording fault) fails told = absurd fails
writing_fails limits captures IsPrinted octets held holds text ending RunFault.Input fails told = absurd fails
writing_fails limits captures IsPrinted octets held holds text ending RunFault.Memory fails told = absurd fails
writing_fails limits captures IsPrinted octets held holds text ending RunFault.Changed fails told = absurd fails

-- or reading does
pub reading_fails : (limits : Limits) (captures : Captures) (IsPrinted : recording.RecordingValue → List ℕ → Ending → Type 0) (octets held holds : Option (List ℕ)) (fault : RunFault) → Keeps held holds → passes.IsReadFault fault
    → ((all : List ℕ) → octets ≡ Some all → passes.FailsOn limits captures all fault) → passes.RunsSource limits captures IsPrinted octets held holds (Err fault)
reading_fails limits captures IsPrinted None held holds (RunFault.Recording fault) keeps before fails = keeps
reading_fails limits captures IsPrinted None held holds RunFault.Input keeps before fails = keeps
reading_fails limits captures IsPrinted None held holds RunFault.Memory keeps before fails = keeps
reading_fails limits captures IsPrinted None held holds RunFault.Changed keeps before fails = keeps
reading_fails limits captures IsPrinted None held holds (RunFault.Output written) keeps before fails = absurd before
reading_fails limits captures IsPrinted (Some all) held holds (RunFault.Recording fault) keeps before fails = let is = fails all refl in (is.0, (is.1, keeps))
reading_fails limits captures IsPrinted (Some all) held holds RunFault.Input keeps before fails = let is = fails all refl in (is.0, keeps)
reading_fails limits captures IsPrinted (Some all) held holds RunFault.Memory keeps before fails = let is = fails all refl in (is.0, keeps)
reading_fails limits captures IsPrinted (Some all) held holds RunFault.Changed keeps before fails = absurd (fails all refl).1
reading_fails limits captures IsPrinted (Some all) held holds (RunFault.Output written) keeps before fails = absurd before

-- a run that reads once
pub runs_once : (limits : Limits) (captures : Captures) (IsPrinted : recording.RecordingValue → List ℕ → Ending → Type 0) (octets unread left held holds : Option (List ℕ)) (result : Result Ending RunFault) → IfSome octets (λ all. unread ≡ Some all)
    → runs.RunsWithin limits captures IsPrinted unread left held holds result → passes.RunsSource limits captures IsPrinted octets held holds result
runs_once limits captures IsPrinted (Some all) unread left held holds result same is = (left, subst (λ (u : Option (List ℕ)). runs.RunsWithin limits captures IsPrinted u left held holds result) same is)
runs_once limits captures IsPrinted None unread left held holds (Ok ending) same is = (is.1, is.4)
runs_once limits captures IsPrinted None unread left held holds (Err (RunFault.Recording fault)) same is = is.1
runs_once limits captures IsPrinted None unread left held holds (Err RunFault.Input) same is = is
runs_once limits captures IsPrinted None unread left held holds (Err (RunFault.Output written)) same is = (is.1, is.5)
runs_once limits captures IsPrinted None unread left held holds (Err RunFault.Memory) same is = is
runs_once limits captures IsPrinted None unread left held holds (Err RunFault.Changed) same is = absurd is

-- a fault behind the first pass over known octets
pub again_fails : (limits : Limits) (captures : Captures) (all : List ℕ) (fault : RunFault) → blocks.IsNoRecFault fault → passes.FailsOn limits captures all fault
again_fails limits captures all RunFault.Input is = (None, tt)
again_fails limits captures all RunFault.Memory is = (None, tt)
again_fails limits captures all (RunFault.Recording fault) is = absurd is
again_fails limits captures all (RunFault.Output written) is = absurd is
again_fails limits captures all RunFault.Changed is = absurd is

-- a run that writes what was told
pub told_runs : (limits : Limits) (captures : Captures) (IsPrinted : recording.RecordingValue → List ℕ → Ending → Type 0) (octets held holds : Option (List ℕ)) (text : List ℕ) (ending : Ending) (result : Result Ending RunFault)
    → MatchResult result (λ ends. (ends ≡ ending) × Appends held holds text) (runs.FailsWriting held holds text)
    → ((all : List ℕ) → octets ≡ Some all → passes.Tells limits captures IsPrinted all text ending) → passes.RunsSource limits captures IsPrinted octets held holds result
told_runs limits captures IsPrinted octets held holds text ending (Ok ends) wrote told =
    subst (λ (e : Ending). passes.RunsSource limits captures IsPrinted octets held holds (Ok e)) (sym wrote.0) (tells_run limits captures IsPrinted octets held holds text ending wrote.1 told)
told_runs limits captures IsPrinted octets held holds text ending (Err fault) fails told = writing_fails limits captures IsPrinted octets held holds text ending fault fails told

-- ---- what is told of all of a capture

-- the first pass was by these terms
of_terms : (first : FirstPass) (terms : CaptureTerms) (IsPrinted : recording.RecordingValue → List ℕ → Ending → Type 0) (all text : List ℕ) (ending : Ending) → first.terms ≡ terms
    → passes.Tells first.terms.limits first.terms.captures IsPrinted all text ending → passes.Tells terms.limits terms.captures IsPrinted all text ending
of_terms first terms IsPrinted all text ending same told = subst (λ (t : CaptureTerms). passes.Tells t.limits t.captures IsPrinted all text ending) same told

pub list_tells : agreement.CourseIsTold → (terms : CaptureTerms) (all : List ℕ) (first : FirstPass) (fragments : Fragments) (directory : directory_spec.DirectoryValue) (faults : ℕ) (text : List ℕ) → first.terms ≡ terms → passes.IsFirstOf all first
    → fragments ≡ Fragments.Skipped → directory_spec.IsMapOf (intake_spec.acts_together (speech.acts_by_datagram (passes.octets_in first all))) directory
    → faults ≡ notice.faults_in (intake_spec.acts_together (speech.acts_by_datagram (passes.octets_in first all))) → text ≡ list_text.directory_text directory faults
    → passes.Tells terms.limits terms.captures (list_text.IsListedWith fragments) all text Ending.Clean
list_tells law terms all first fragments directory faults text same is skipped map counted told =
    let stands = whole_recording law first.terms.limits first.terms.captures all first.whole is.whole in
    let acts = acts_together (passes.octets_in first all) ∙ ap acts_spec.acts_in (sym stands.datagrams) in
    let listed : list_text.IsListedWith Fragments.Skipped stands.recording text Ending.Clean = (
      (
        directory,
        subst (λ (acts : List values.ActValue). directory_spec.IsMapOf acts directory) acts map,
        told ∙ ap (list_text.directory_text directory) (counted ∙ ap notice.faults_in acts),
      ),
      refl,
    ) in
    of_terms first terms (list_text.IsListedWith fragments) all text Ending.Clean same (
      stands.recording,
      stands.is,
      subst (λ (f : Fragments). list_text.IsListedWith f stands.recording text Ending.Clean) (sym skipped) listed,
    )

pub audit_tells : agreement.CourseIsTold → fragments_laws.ActsAreHeardWithoutFragments → (terms : CaptureTerms) (all : List ℕ) (first : FirstPass) (asked : AskedAudit) (report : Report) (text : List ℕ) (ending : Ending) → first.terms ≡ terms
    → passes.IsFirstOf all first → asked.fragments ≡ Fragments.Skipped → fragments_laws.SendNoFragments (speech.acts_by_datagram (passes.octets_in first all))
    → delivered.IsExactReportBy asked.from (intake_spec.intake_of (passes.octets_in first all)) report
    → text ≡ report_text.report_text report.rows.items report.counts (passes.ignored_in first.whole) → ending ≡ report_text.ending_of report.rows.items
    → passes.Tells terms.limits terms.captures (report_text.IsAuditedAs asked) all text ending
audit_tells law stay terms all first asked report text ending same is skipped unsent exact told ends =
    let octets = passes.octets_in first all in
    let stands = whole_recording law first.terms.limits first.terms.captures all first.whole is.whole in
    let heard = plain_report stay asked.from (intake_spec.intake_of octets) report unsent exact.report in
    of_terms first terms (report_text.IsAuditedAs asked) all text ending same (
      stands.recording,
      stands.is,
      record {
        report = report;
        reports = subst (λ (datagrams : List (List ℕ)). sample_report.IsReportHeard asked.from (recorded_samples.intake_as asked.fragments datagrams) report) (sym stands.datagrams)
            (subst (λ (f : Fragments). sample_report.IsReportHeard asked.from (recorded_samples.intake_as f octets) report) (sym skipped) heard);
        is_text = told ∙ ap (report_text.report_text report.rows.items report.counts) (sym stands.ignored);
        ends = ends;
      },
    )
