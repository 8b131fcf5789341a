-- What `list` prints of a recording.
-- own: one line for each participant, endpoint and pair, of fields with one space between them, and counts at the end.
use Rattle.std.specs.Prelude.{ℕ, ◌≡◌, ◌++◌, Bool, true, false, List, [], ◌∷◌, codes, length, decimal, flat_map}
use Rattle.rtps_fragments.specs.declared.fragments.Fragments.{Fragments}
use Rattle.rtps_receiver.specs.Acts as acts
use Rattle.rtps_audit.specs.Intake as intake
use Rattle.rtps_fragments.specs.RecordedSamples as recorded_samples
use Rattle.rtps_receiver.specs.Values as values
use Rattle.rtps_report.specs.declared.findings.Ending.{Ending}
use Rattle.rtps_ids.specs.declared.identity.Guid.{Guid}
use Rattle.rtps_discovery.specs.Directory as directory_spec
use Rattle.rtps_discovery.specs.Endpoint as endpoint
use Rattle.rtps_discovery.specs.Matching as matching
use Rattle.rtps_discovery.specs.Notice as notice
use Rattle.rtps_discovery.specs.declared.matching.Match.{Match}
use Rattle.rtps_report.specs.Recording as recording
use Rattle.rtps_lines.specs.Lines as lines
use Rattle.rtps_lines.specs.QosNames as qos_names
use Rattle.rtps_parts.specs.Names as names

-- the word for whether both of a match are reliable
unfoldable pub match_text : Bool → List ℕ
match_text true = codes "reliable"
match_text false = codes "best-effort"

-- the line of a participant
abbrev pub participant_line : Guid → List ℕ
participant_line guid = lines.line_of (codes "participant" ∷ names.guid_text guid ∷ [])

-- the line of an endpoint
abbrev pub endpoint_line : endpoint.EndpointValue → List ℕ
endpoint_line endpoint = lines.line_of (qos_names.side_text endpoint.side ∷ names.guid_text endpoint.guid
    ∷ codes "topic" ∷ names.name_text endpoint.topic ∷ codes "type" ∷ names.name_text endpoint.type_name
    ∷ qos_names.reliability_text endpoint.reliability ∷ qos_names.durability_text endpoint.durability ∷ [])

-- the line of a pair that matches
abbrev pub match_line : Match → List ℕ
match_line found = lines.line_of (codes "pair" ∷ names.guid_text found.pair.writer ∷ names.guid_text found.pair.reader ∷ match_text found.reliable ∷ [])

-- the last line: how many participants, settled endpoints, GUIDs whose announcements disagree, and acts with a fault
abbrev pub counts_line : ℕ → ℕ → ℕ → ℕ → List ℕ
counts_line participants endpoints unsettled faults = lines.line_of (codes "participants" ∷ decimal participants ∷ codes "endpoints" ∷ decimal endpoints
    ∷ codes "unsettled" ∷ decimal unsettled ∷ codes "faults" ∷ decimal faults ∷ [])

-- the lines of a directory, and of so many faults
abbrev pub directory_text : directory_spec.DirectoryValue → ℕ → List ℕ
directory_text directory faults =
    flat_map participant_line directory.participants
    ++ (flat_map endpoint_line (directory_spec.settled_in directory.endpoints)
    ++ (flat_map match_line (matching.matches_among (directory_spec.settled_in directory.endpoints))
    ++ counts_line (length directory.participants) (length (directory_spec.settled_in directory.endpoints)) (length (directory_spec.unsettled_in directory.endpoints)) faults))

-- the acts that may announce something: where fragments are read, those of the samples that come in fragments are among them
abbrev pub announcing_in : Fragments → List (List ℕ) → List values.ActValue
announcing_in Fragments.Skipped recording = acts.acts_in recording
announcing_in Fragments.Read recording = intake.acts_together (recorded_samples.intake_as Fragments.Read recording).announcing

-- what `list` answers where these are the acts: the text of their map, and it is clean
abbrev pub IsListOf : List values.ActValue → List ℕ → Ending → Type 0
IsListOf acts text ending = ((directory : directory_spec.DirectoryValue) × directory_spec.IsMapOf acts directory × (text ≡ directory_text directory (notice.faults_in acts))) × (ending ≡ Ending.Clean)

-- what it answers of a recording
abbrev pub IsListedWith : Fragments → recording.RecordingValue → List ℕ → Ending → Type 0
IsListedWith fragments recording text ending = IsListOf (announcing_in fragments recording.datagrams) text ending

-- the same where fragments are skipped
abbrev pub IsListed : recording.RecordingValue → List ℕ → Ending → Type 0
IsListed recording text ending = IsListedWith Fragments.Skipped recording text ending
