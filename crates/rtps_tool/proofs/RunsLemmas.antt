-- Runs over one input.
use Rattle.std.proofs.Common.{◌≡◌, ℕ, List, ◌++◌, Option, Some, None, Ok, Result, sym, ◌∙◌, ap, subst, append-nil, arith}
use Rattle.std.specs.Prelude.{max}
use Rattle.std.specs.Io.KnownBytes.{Appends, Consumes, IsAtEnd}
use Rattle.rtps_report.specs.Laws as report_laws
use Rattle.rtps_report.specs.Recording as recording
use Rattle.rtps_report.specs.declared.findings.Ending.{Ending}
use Rattle.rtps_tool.specs.Choices as choices
use Rattle.rtps_tool.specs.Commands as commands
use Rattle.rtps_tool.specs.Options as options_spec
use Rattle.rtps_tool.specs.Laws as laws
use Rattle.rtps_tool.specs.Forms as forms
use Rattle.rtps_tool.specs.Limits as limits
use Rattle.rtps_tool.specs.Runs as runs
use Rattle.clap.specs.Words.{Text}
use Rattle.rtps_tool.specs.declared.faults.BesideFault.{BesideFault}
use Rattle.rtps_capture.specs.declared.captures.Captures.{Captures}
use Rattle.rtps_tool.specs.declared.runs.Limits.{Limits}
use Rattle.rtps_tool.proofs.LimitsLemmas.{stays_within}

-- where nothing is left, all was read
pub all_read : (input : List ℕ) (left : Option (List ℕ)) (text : List ℕ) → Consumes (Some input) left text → IsAtEnd left → text ≡ input
all_read input None text taken end = absurd taken
all_read input (Some rest) text taken end = sym (taken ∙ ap (λ xs. text ++ xs) end ∙ append-nil text)

-- limits that have room for both
abbrev both : Limits → Limits → Limits
both limits limits' = record { datagrams = max limits.datagrams limits'.datagrams; octets = max limits.octets limits'.octets }

first_within : (limits limits' : Limits) → laws.AreWithin limits (both limits limits')
first_within limits limits' = record { datagrams = omega arith; octets = omega arith }

second_within : (limits limits' : Limits) → laws.AreWithin limits' (both limits limits')
second_within limits limits' = record { datagrams = omega arith; octets = omega arith }

-- what was read within some limits, within greater ones
within_both : (limits greater : Limits) (captures : Captures) (input : List ℕ) (left : Option (List ℕ)) (recording : recording.RecordingValue) → laws.AreWithin limits greater
    → runs.ReadsRecording limits captures (Some input) left recording → forms.recording_within greater captures input ≡ Ok recording
within_both limits greater captures input left recording within reads =
    ap (forms.recording_within greater captures) (sym (all_read input left reads.text reads.taken reads.whole))
    ∙ stays_within limits greater captures reads.text recording within reads.is_read

one_recording : (limits limits' : Limits) (captures : Captures) (input : List ℕ) (left left' : Option (List ℕ)) (recording recording' : recording.RecordingValue)
    → runs.ReadsRecording limits captures (Some input) left recording → runs.ReadsRecording limits' captures (Some input) left' recording' → recording ≡ recording'
one_recording limits limits' captures input left left' recording recording' one other =
    let greater = both limits limits' in
    let first = within_both limits greater captures input left recording (first_within limits limits') one in
    let second = within_both limits' greater captures input left' recording' (second_within limits limits') other in
    cc

pub runs_agree_within : (Answers : recording.RecordingValue → List ℕ → Ending → Type 0) → report_laws.HasOneText Answers → laws.RunsAgreeWithin Answers
runs_agree_within Answers one_text limits limits' captures input left held holds left' held' holds' ending ending' (datagrams, text, reads, answers, wrote) (datagrams', text', reads', answers', wrote') =
    let recording : datagrams' ≡ datagrams = sym (one_recording limits limits' captures input left left' datagrams datagrams' reads reads') in
    let same = one_text datagrams text text' ending ending' answers (subst (λ ds. Answers ds text' ending') recording answers') in
    (same.1, (text, wrote, subst (Appends held' holds') (sym same.0) wrote'))

pub runs_agree : (Answers : recording.RecordingValue → List ℕ → Ending → Type 0) → report_laws.HasOneText Answers → laws.RunsAgree Answers
runs_agree Answers one_text = runs_agree_within Answers one_text limits.usual limits.usual Captures.Classic

-- a run of FILE alone, as the words chose it
pub runs_by : (options : options_spec.OptionsValue) (chosen : Option options_spec.OptionsValue) (name : Option Text) (unread left theirs rest held holds : Option (List ℕ)) (result : Result Ending BesideFault)
    → Some options ≡ chosen → None ≡ name
    → runs.RunsAlone (runs.RunsWithin options.limits options.captures (commands.IsTextOf options.command None) unread left held holds) theirs rest result
    → choices.RunsBy chosen name unread left theirs rest held holds result
runs_by options chosen name unread left theirs rest held holds result same none run =
    subst (λ found. choices.RunsBy found name unread left theirs rest held holds result) same
    (subst (λ name. choices.RunsBy (Some options) name unread left theirs rest held holds result) none run)

-- and one beside another recording
pub runs_beside_by : (options : options_spec.OptionsValue) (chosen : Option options_spec.OptionsValue) (given : Text) (name : Option Text) (unread left theirs rest held holds : Option (List ℕ)) (result : Result Ending BesideFault)
    → Some options ≡ chosen → Some given ≡ name
    → runs.RunsBeside options.limits options.captures (commands.IsTextOf options.command) unread left theirs rest held holds result
    → choices.RunsBy chosen name unread left theirs rest held holds result
runs_beside_by options chosen given name unread left theirs rest held holds result same named run =
    subst (λ found. choices.RunsBy found name unread left theirs rest held holds result) same
    (subst (λ name. choices.RunsBy (Some options) name unread left theirs rest held holds result) named run)
