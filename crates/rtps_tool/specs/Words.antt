-- The words of the command line, as `clap` reads them.
-- own: a subcommand and one FILE; `sample` reads none. Two options say how large a recording may be. Of `show`, `list` and `audit` a flag
-- asks for any capture to be read, and another for samples in fragments. `check`, `why` and `page` read both; their options, which are the
-- same, say from which number on is asked, which rows are asked for, when a row is clean, and how many rows there have to be. One names
-- another recording, made at the host of readers: of it and FILE one at most is standard input, which can be read once. A flag of `check`
-- and of `audit` asks for JSON, and an option of `audit` says from which number on it asks.
use Rattle.std.specs.Prelude.{ℕ, ◌≡◌, ◌≢◌, ◌⊎◌, ◌-◌, ◌^◌, codes, Bool, true, false, List, [], ◌∷◌, IfSome, Option, None, Some, map, unwrap_or}
use Rattle.std.specs.Option.{option_and_then, option_map}
use Rattle.std.specs.Str.Parse.{digits_value, without_leading_plus}
use Rattle.clap.specs.Words.{App, IsAmong, IsUnsignedIn, Kinds, Row, Rule, Text, all_of, fault_of, first_of, kind_of, one_of, new_app, new_rule, subcommand_of, with_rule, with_subcommand}
use Rattle.clap.specs.declared.builder.action.ArgAction.TheVariants.{Append, Set, SetTrue}
use Rattle.clap.specs.declared.builder.value_parser.ValueParser.TheVariants.{Unsigned}
use Rattle.clap.specs.declared.error.Error.{Error}
use Rattle.clap.specs.declared.error.kind.ErrorKind.{ErrorKind}
use Rattle.clap.specs.declared.error.kind.ErrorKind.TheVariants.{DisplayHelp, DisplayVersion, MissingRequiredArgument, MissingSubcommand, OutOfMemory, UnknownArgument, ValueValidation}
use Rattle.std.specs.String.{string_bytes}
use Rattle.rtps_fragments.specs.declared.fragments.Fragments.{Fragments}
use Rattle.rtps_report.specs.Asked as asked
use Rattle.rtps_report.specs.declared.audited.AskedAudit.{AskedAudit}
use Rattle.rtps_tool.specs.Limits as limits_spec
use Rattle.rtps_capture.specs.declared.captures.Captures.{Captures}
use Rattle.rtps_tool.specs.declared.command.Choice.{Choice}
use Rattle.rtps_tool.specs.declared.command.AuditForm.{AuditForm}
use Rattle.rtps_tool.specs.declared.command.WordFault.{WordFault}
use Rattle.rtps_tool.specs.declared.demands.Demands.{Demands}
use Rattle.rtps_tool.specs.declared.runs.Form.{Form}
use Rattle.rtps_tool.specs.declared.runs.Limits.{Limits}

-- a file's name, or `-` for standard input, must be given
abbrev pub file_rule : Rule
file_rule = record (new_rule (codes "FILE")) { action = Some Set; required = true }

-- an option of this name that takes a number, which is called so
abbrev pub number_rule : (called name : Text) → Rule
number_rule called name = record (new_rule called) { long = Some name; action = Some Set; parser = Some (Unsigned 1 (2 ^ 63 - 1)) }

-- a flag of this name
abbrev pub flag_rule : (name : Text) → Rule
flag_rule name = record (new_rule name) { long = Some name; action = Some SetTrue }

-- a subcommand that reads a file within two limits
abbrev pub limited_app : Text → App
limited_app name =
    with_rule (with_rule (with_rule (new_app name) file_rule) (number_rule (codes "DATAGRAMS") (codes "max-datagrams")))
    (number_rule (codes "OCTETS") (codes "max-octets"))

-- and any capture where it is asked to
abbrev pub reading_app : Text → App
reading_app name = with_rule (limited_app name) (flag_rule (codes "any"))

-- and samples in fragments where it is asked to
abbrev pub fragments_app : Text → App
fragments_app name = with_rule (reading_app name) (flag_rule (codes "fragments"))

-- the number from which on verdicts ask: a sequence number
abbrev pub from_rule : Rule
from_rule = number_rule (codes "N") (codes "from")

-- patterns of topics: the option may be given again
abbrev pub pattern_rule : Rule
pattern_rule = record (new_rule (codes "PATTERN")) { long = Some (codes "topic"); action = Some Append }

-- patterns of nodes, in the same way
abbrev pub node_rule : Rule
node_rule = record (new_rule (codes "NODE")) { long = Some (codes "node"); action = Some Append }

-- how many rows there have to be, which may be none
abbrev pub expect_rule : Rule
expect_rule = record (new_rule (codes "PAIRS")) { long = Some (codes "expect"); action = Some Set; parser = Some (Unsigned 0 (2 ^ 63 - 1)) }

-- how many numbers a tail may have, which may be none
abbrev pub tail_rule : Rule
tail_rule = record (new_rule (codes "TAIL")) { long = Some (codes "tail"); action = Some Set; parser = Some (Unsigned 0 (2 ^ 63 - 1)) }

-- another recording, made at the host of readers: a file's name, or `-` for standard input
abbrev pub arrived_rule : Rule
arrived_rule = record (new_rule (codes "OTHER")) { long = Some (codes "arrived"); action = Some Set }

-- a subcommand that tells a report: it reads any capture and samples in fragments
abbrev pub report_app : Text → App
report_app name =
    with_rule
    (with_rule
    (with_rule (with_rule (with_rule (with_rule (with_rule (limited_app name) from_rule) pattern_rule) node_rule) expect_rule) tail_rule)
    (flag_rule (codes "certain")))
    arrived_rule

-- the subcommand `check`, which has a flag that asks for JSON
abbrev pub check_app : App
check_app = with_rule (report_app (codes "check")) (flag_rule (codes "json"))

-- the subcommand `audit`, which asks for numbers from some number on, and has such a flag too
abbrev pub audit_app : App
audit_app = with_rule (with_rule (fragments_app (codes "audit")) from_rule) (flag_rule (codes "json"))

-- a program that has a version and wants a subcommand
abbrev pub bare_program : App
bare_program = record (new_app (codes "rtps-audit")) { top = record (new_app (codes "rtps-audit")).top { has_version = true; subcommand_required = true } }

-- the program with its commands
abbrev pub program : App
program =
    with_subcommand
    (with_subcommand
    (with_subcommand
    (with_subcommand
    (with_subcommand (with_subcommand (with_subcommand bare_program check_app.top) (fragments_app (codes "show")).top) (fragments_app (codes "list")).top)
    audit_app.top)
    (report_app (codes "why")).top)
    (report_app (codes "page")).top)
    (new_app (codes "sample")).top

-- the subcommand of a form of the report
abbrev pub form_name : Form → Text
form_name Form.Check = codes "check"
form_name Form.CheckJson = codes "check"
form_name Form.Why = codes "why"
form_name Form.Page = codes "page"

-- the subcommand that was chosen
abbrev pub subcommand_name : Choice → Text
subcommand_name (Choice.Report file arrived limits form demands) = form_name form
subcommand_name (Choice.Show file limits captures fragments) = codes "show"
subcommand_name (Choice.List file limits captures fragments) = codes "list"
subcommand_name (Choice.Audit file limits captures form asked) = codes "audit"
subcommand_name Choice.Sample = codes "sample"

-- the file that was chosen; `sample` has none
abbrev pub file_name : Choice → Option Text
file_name (Choice.Report file arrived limits form demands) = Some (string_bytes file)
file_name (Choice.Show file limits captures fragments) = Some (string_bytes file)
file_name (Choice.List file limits captures fragments) = Some (string_bytes file)
file_name (Choice.Audit file limits captures form asked) = Some (string_bytes file)
file_name Choice.Sample = None

-- its FILE is the one that was given, and empty where none was
abbrev pub HasItsFile : Choice → List Row → Type 0
HasItsFile choice rows = IfSome (file_name choice) (λ name. name ≡ unwrap_or (first_of (codes "FILE") rows) [])

-- the other recording that was chosen; only a report has one
abbrev pub arrived_name : Choice → Option Text
arrived_name (Choice.Report file arrived limits form demands) = option_map string_bytes arrived
arrived_name (Choice.Show file limits captures fragments) = None
arrived_name (Choice.List file limits captures fragments) = None
arrived_name (Choice.Audit file limits captures form asked) = None
arrived_name Choice.Sample = None

-- its other recording is the one that was given, and none where none was
abbrev pub HasItsOther : Choice → List Row → Type 0
HasItsOther (Choice.Report file arrived limits form demands) rows = option_map string_bytes arrived ≡ first_of (codes "OTHER") rows
HasItsOther (Choice.Show file limits captures fragments) rows = Unit {0}
HasItsOther (Choice.List file limits captures fragments) rows = Unit {0}
HasItsOther (Choice.Audit file limits captures form asked) rows = Unit {0}
HasItsOther Choice.Sample rows = Unit {0}

-- FILE and the other recording are both standard input
abbrev pub IsReadTwice : Choice → Type 0
IsReadTwice choice = (file_name choice ≡ Some (codes "-")) × (arrived_name choice ≡ Some (codes "-"))

-- The number is the one that was given, and the usual one where none was. `clap` takes no text that is none from 1 to
-- 2^63 - 1; such a text would be as none.
abbrev pub IsGivenOr : (usually : ℕ) → Option Text → ℕ → Type 0
IsGivenOr usually None n = n ≡ usually
IsGivenOr usually (Some text) n =
    (IsUnsignedIn 1 (2 ^ 63 - 1) text → n ≡ digits_value 10 (without_leading_plus text)) × (¬ IsUnsignedIn 1 (2 ^ 63 - 1) text → n ≡ usually)

-- of the number from which on verdicts ask, that is 1
abbrev pub IsNumberGiven : Option Text → ℕ → Type 0
IsNumberGiven text n = IsGivenOr 1 text n

-- The flag was given, or not: `clap` gives it the text `true` where it was, and `false` where not.
abbrev pub IsFlagGiven : Option Text → Bool → Type 0
IsFlagGiven None given = given ≡ false
IsFlagGiven (Some text) given = (text ≡ codes "true" → given ≡ true) × (text ≡ codes "false" → given ≡ false)

-- the form of an audit that is asked for by the flag
abbrev pub is_json : AuditForm → Bool
is_json AuditForm.Lines = false
is_json AuditForm.Json = true

-- the form of a report that is asked for by the flag; only `check` has it
abbrev pub IsFormGiven : List Row → Form → Type 0
IsFormGiven rows Form.Check = IsFlagGiven (one_of (codes "json") rows) false
IsFormGiven rows Form.CheckJson = IsFlagGiven (one_of (codes "json") rows) true
IsFormGiven rows Form.Why = Unit {0}
IsFormGiven rows Form.Page = Unit {0}

-- the captures that are asked for by the flag
abbrev pub is_any : Captures → Bool
is_any Captures.Classic = false
is_any Captures.Any = true

-- its form is the one that was asked for; only a report and `audit` have one
abbrev pub HasItsFlag : Choice → List Row → Type 0
HasItsFlag (Choice.Report file arrived limits form demands) rows = IsFormGiven rows form
HasItsFlag (Choice.Show file limits captures fragments) rows = Unit {0}
HasItsFlag (Choice.List file limits captures fragments) rows = Unit {0}
HasItsFlag (Choice.Audit file limits captures form asked) rows = IsFlagGiven (one_of (codes "json") rows) (is_json form)
HasItsFlag Choice.Sample rows = Unit {0}

-- it reads the captures that were asked for; a report reads any
abbrev pub HasItsCaptures : Choice → List Row → Type 0
HasItsCaptures (Choice.Report file arrived limits form demands) rows = Unit {0}
HasItsCaptures (Choice.Show file limits captures fragments) rows = IsFlagGiven (one_of (codes "any") rows) (is_any captures)
HasItsCaptures (Choice.List file limits captures fragments) rows = IsFlagGiven (one_of (codes "any") rows) (is_any captures)
HasItsCaptures (Choice.Audit file limits captures form asked) rows = IsFlagGiven (one_of (codes "any") rows) (is_any captures)
HasItsCaptures Choice.Sample rows = Unit {0}

-- the number of rows that was given, and none where none was. `clap` takes no text that is none from 0 to 2^63 - 1; such a text
-- would be as none.
abbrev pub IsExpectGiven : Option Text → Option ℕ → Type 0
IsExpectGiven None expect = expect ≡ None
IsExpectGiven (Some text) expect =
    (IsUnsignedIn 0 (2 ^ 63 - 1) text → expect ≡ Some (digits_value 10 (without_leading_plus text))) × (¬ IsUnsignedIn 0 (2 ^ 63 - 1) text → expect ≡ None)

-- the number of a tail that was given, and 0 where none was, with texts as above
abbrev pub IsTailGiven : Option Text → ℕ → Type 0
IsTailGiven text tail = (expect : Option ℕ) × IsExpectGiven text expect × (tail ≡ unwrap_or expect 0)

-- what was given that is asked of a report: the first number, all patterns, in their order, two numbers, and a flag
pub record AreDemandsGiven (rows : List Row) (demands : Demands) : Type 0 where
  pub from : IsNumberGiven (first_of (codes "N") rows) demands.from
  pub topics : map string_bytes demands.topics.items ≡ unwrap_or (all_of (codes "PATTERN") rows) []
  pub nodes : map string_bytes demands.nodes.items ≡ unwrap_or (all_of (codes "NODE") rows) []
  pub expect : IsExpectGiven (first_of (codes "PAIRS") rows) demands.expect
  pub tail : IsTailGiven (first_of (codes "TAIL") rows) demands.tail
  pub certain : IsFlagGiven (one_of (codes "certain") rows) demands.certain

-- fragments are read where that was asked for
abbrev pub AreFragmentsGiven : List Row → Fragments → Type 0
AreFragmentsGiven rows fragments = IsFlagGiven (one_of (codes "fragments") rows) (asked.are_read fragments)

-- what was given that is asked of an audit
pub record IsAuditGiven (rows : List Row) (asked : AskedAudit) : Type 0 where
  pub from : IsNumberGiven (first_of (codes "N") rows) asked.from
  pub fragments : AreFragmentsGiven rows asked.fragments

-- it asks what was given
abbrev pub HasItsDemands : Choice → List Row → Type 0
HasItsDemands (Choice.Report file arrived limits form demands) rows = AreDemandsGiven rows demands
HasItsDemands (Choice.Show file limits captures fragments) rows = AreFragmentsGiven rows fragments
HasItsDemands (Choice.List file limits captures fragments) rows = AreFragmentsGiven rows fragments
HasItsDemands (Choice.Audit file limits captures form asked) rows = IsAuditGiven rows asked
HasItsDemands Choice.Sample rows = Unit {0}

-- the limits are those that were given; one that was not is that of `unchosen`
pub record AreLimitsGiven (unchosen : Limits) (rows : List Row) (limits : Limits) : Type 0 where
  pub datagrams : IsGivenOr unchosen.datagrams (first_of (codes "DATAGRAMS") rows) limits.datagrams
  pub octets : IsGivenOr unchosen.octets (first_of (codes "OCTETS") rows) limits.octets

-- FILE or the other recording is standard input
abbrev pub IsStandardRead : Text → Option Text → Type 0
IsStandardRead file arrived = (file ≡ codes "-") ⊎ (arrived ≡ Some (codes "-"))

-- The limits of a report are those that were given. One that was not is the usual one where standard input is read; else both
-- recordings are files, and it is that of files.
pub record AreReportLimits (file : Text) (arrived : Option Text) (rows : List Row) (limits : Limits) : Type 0 where
  pub standard : IsStandardRead file arrived → AreLimitsGiven limits_spec.usual rows limits
  pub files : ¬ IsStandardRead file arrived → AreLimitsGiven limits_spec.of_files rows limits

-- its limits are those that were given
abbrev pub HasItsLimits : Choice → List Row → Type 0
HasItsLimits (Choice.Report file arrived limits form demands) rows = AreReportLimits (string_bytes file) (option_map string_bytes arrived) rows limits
HasItsLimits (Choice.Show file limits captures fragments) rows = AreLimitsGiven limits_spec.usual rows limits
HasItsLimits (Choice.List file limits captures fragments) rows = AreLimitsGiven limits_spec.usual rows limits
HasItsLimits (Choice.Audit file limits captures form asked) rows = AreLimitsGiven limits_spec.usual rows limits
HasItsLimits Choice.Sample rows = Unit {0}

-- the choice has the name of the subcommand that was found, its FILE, its other recording, its flag, its limits, its captures, and what it
-- asks
abbrev pub IsChoice : Option (Text × List Row) → Choice → Type 0
IsChoice found choice =
    (rows : List Row) × (found ≡ Some (subcommand_name choice, rows)) × HasItsFile choice rows × HasItsOther choice rows × HasItsFlag choice rows × HasItsLimits choice rows × HasItsCaptures choice rows × HasItsDemands choice rows

-- help and the version are answers, want of memory has no text, and any other error of `clap` refuses the words
abbrev pub word_fault_by : ErrorKind → Error → WordFault
word_fault_by OutOfMemory error = WordFault.Memory
word_fault_by DisplayHelp error = WordFault.Help error
word_fault_by DisplayVersion error = WordFault.Version error
word_fault_by kind error = WordFault.Refused error

-- why the words are refused, or that they ask for help
abbrev pub word_fault_of : Error → WordFault
word_fault_of error = word_fault_by (kind_of error) error

-- help is an answer of its own, and so are the version and want of memory
abbrev pub HasItsKind : WordFault → Type 0
HasItsKind (WordFault.Refused error) = (kind_of error ≢ DisplayHelp) × (kind_of error ≢ DisplayVersion) × (kind_of error ≢ OutOfMemory)
HasItsKind (WordFault.Help error) = kind_of error ≡ DisplayHelp
HasItsKind (WordFault.Version error) = kind_of error ≡ DisplayVersion
HasItsKind WordFault.BothInput = Unit {0}
HasItsKind WordFault.Memory = Unit {0}

-- the fault is one of these kinds, unless it is want of memory; that both are standard input is none that `clap` finds
abbrev pub IsOneOf : Kinds → WordFault → Type 0
IsOneOf kinds (WordFault.Refused error) = IsAmong (kind_of error) kinds
IsOneOf kinds (WordFault.Help error) = IsAmong DisplayHelp kinds
IsOneOf kinds (WordFault.Version error) = IsAmong DisplayVersion kinds
IsOneOf kinds WordFault.BothInput = ⊥
IsOneOf kinds WordFault.Memory = Unit {0}

-- the text of a flag of this name among these words, behind the program's name
abbrev pub flag_of_words : (name : Text) → List Text → Option Text
flag_of_words name words = option_and_then (λ found. one_of name found.1) (subcommand_of program (codes "rtps-audit" ∷ words))

-- the texts of an option that is called so among these words
abbrev pub rows_of_words : (called : Text) → List Text → Option (List Text)
rows_of_words called words = option_and_then (λ found. all_of called found.1) (subcommand_of program (codes "rtps-audit" ∷ words))

-- what is wrong with these words, behind the program's name
abbrev pub faults_of_words : List Text → Kinds
faults_of_words words = fault_of program (codes "rtps-audit" ∷ words)

-- Examples of command lines, and what is wrong with each, behind the program's name. Taken are lines with nothing wrong.
-- Refused are one without a subcommand, and some without the FILE, with a FILE of `sample`, with a number that is none from 1 to
-- 2^63 - 1, or with an option that the subcommand does not have; `--help` and `--version` are answered. Of some lines: whether
-- JSON, or any capture, is asked for.
pub record WordsAreWanted : Type 0 where
  pub no_subcommand : faults_of_words [] ≡ MissingSubcommand ∷ []
  pub no_file_to_check : faults_of_words (codes "check" ∷ []) ≡ MissingRequiredArgument ∷ []
  pub whole_check : faults_of_words (codes "check" ∷ codes "a.pcapng" ∷ []) ≡ []
  pub topic_of_check : faults_of_words (codes "check" ∷ codes "--topic" ∷ codes "rt/*" ∷ codes "--expect" ∷ codes "3" ∷ codes "--from" ∷ codes "2" ∷ codes "a.rec" ∷ []) ≡ []
  pub json_of_check : faults_of_words (codes "check" ∷ codes "--json" ∷ codes "a.rec" ∷ []) ≡ []
  pub fragments_of_check : faults_of_words (codes "check" ∷ codes "--fragments" ∷ codes "a.rec" ∷ []) ≡ UnknownArgument ∷ []
  pub no_file_to_show : faults_of_words (codes "show" ∷ []) ≡ MissingRequiredArgument ∷ []
  pub no_file_to_list : faults_of_words (codes "list" ∷ []) ≡ MissingRequiredArgument ∷ []
  pub no_file_to_audit : faults_of_words (codes "audit" ∷ []) ≡ MissingRequiredArgument ∷ []
  pub no_file_to_explain : faults_of_words (codes "why" ∷ []) ≡ MissingRequiredArgument ∷ []
  pub no_file_to_page : faults_of_words (codes "page" ∷ []) ≡ MissingRequiredArgument ∷ []
  pub page : faults_of_words (codes "page" ∷ codes "--from" ∷ codes "3" ∷ codes "--topic" ∷ codes "rt/*" ∷ codes "a.pcapng" ∷ []) ≡ []
  pub json_of_page : faults_of_words (codes "page" ∷ codes "--json" ∷ codes "a.rec" ∷ []) ≡ UnknownArgument ∷ []
  pub help : faults_of_words (codes "--help" ∷ []) ≡ DisplayHelp ∷ []
  pub version : faults_of_words (codes "--version" ∷ []) ≡ DisplayVersion ∷ []
  pub whole : faults_of_words (codes "audit" ∷ codes "a.rec" ∷ []) ≡ []
  pub sample : faults_of_words (codes "sample" ∷ []) ≡ []
  pub no_file_of_sample : faults_of_words (codes "sample" ∷ codes "a.rec" ∷ []) ≡ UnknownArgument ∷ []
  pub least : faults_of_words (codes "audit" ∷ codes "--from" ∷ codes "1" ∷ codes "a.rec" ∷ []) ≡ []
  pub greatest : faults_of_words (codes "audit" ∷ codes "--from" ∷ codes "9223372036854775807" ∷ codes "a.rec" ∷ []) ≡ []
  pub none : faults_of_words (codes "audit" ∷ codes "--from" ∷ codes "0" ∷ codes "a.rec" ∷ []) ≡ ValueValidation ∷ []
  pub too_great : faults_of_words (codes "audit" ∷ codes "--from" ∷ codes "9223372036854775808" ∷ codes "a.rec" ∷ []) ≡ ValueValidation ∷ []
  pub no_number : faults_of_words (codes "audit" ∷ codes "--from" ∷ codes "1x" ∷ codes "a.rec" ∷ []) ≡ ValueValidation ∷ []
  pub from_of_why : faults_of_words (codes "why" ∷ codes "--from" ∷ codes "3" ∷ codes "a.rec" ∷ []) ≡ []
  pub none_of_why : faults_of_words (codes "why" ∷ codes "--from" ∷ codes "0" ∷ codes "a.rec" ∷ []) ≡ ValueValidation ∷ []
  pub from_of_show : faults_of_words (codes "show" ∷ codes "--from" ∷ codes "1" ∷ codes "a.rec" ∷ []) ≡ UnknownArgument ∷ []
  pub from_of_list : faults_of_words (codes "list" ∷ codes "--from" ∷ codes "1" ∷ codes "a.rec" ∷ []) ≡ UnknownArgument ∷ []
  pub least_limits : faults_of_words (codes "show" ∷ codes "--max-datagrams" ∷ codes "1" ∷ codes "--max-octets" ∷ codes "1" ∷ codes "a.rec" ∷ []) ≡ []
  pub greatest_datagrams : faults_of_words (codes "list" ∷ codes "--max-datagrams" ∷ codes "9223372036854775807" ∷ codes "a.rec" ∷ []) ≡ []
  pub greatest_octets : faults_of_words (codes "audit" ∷ codes "--max-octets" ∷ codes "9223372036854775807" ∷ codes "a.rec" ∷ []) ≡ []
  pub no_datagrams : faults_of_words (codes "show" ∷ codes "--max-datagrams" ∷ codes "0" ∷ codes "a.rec" ∷ []) ≡ ValueValidation ∷ []
  pub no_octets : faults_of_words (codes "list" ∷ codes "--max-octets" ∷ codes "0" ∷ codes "a.rec" ∷ []) ≡ ValueValidation ∷ []
  pub too_many_datagrams : faults_of_words (codes "audit" ∷ codes "--max-datagrams" ∷ codes "9223372036854775808" ∷ codes "a.rec" ∷ []) ≡ ValueValidation ∷ []
  pub too_many_octets : faults_of_words (codes "audit" ∷ codes "--max-octets" ∷ codes "9223372036854775808" ∷ codes "a.rec" ∷ []) ≡ ValueValidation ∷ []
  pub no_octets_of_why : faults_of_words (codes "why" ∷ codes "--max-octets" ∷ codes "0" ∷ codes "a.rec" ∷ []) ≡ ValueValidation ∷ []
  pub json : faults_of_words (codes "audit" ∷ codes "--json" ∷ codes "a.rec" ∷ []) ≡ []
  pub json_is_asked : flag_of_words (codes "json") (codes "audit" ∷ codes "--json" ∷ codes "a.rec" ∷ []) ≡ Some (codes "true")
  pub no_json_is_asked : flag_of_words (codes "json") (codes "audit" ∷ codes "a.rec" ∷ []) ≡ Some (codes "false")
  pub json_of_show : faults_of_words (codes "show" ∷ codes "--json" ∷ codes "a.rec" ∷ []) ≡ UnknownArgument ∷ []
  pub json_of_list : faults_of_words (codes "list" ∷ codes "--json" ∷ codes "a.rec" ∷ []) ≡ UnknownArgument ∷ []
  pub json_of_why : faults_of_words (codes "why" ∷ codes "--json" ∷ codes "a.rec" ∷ []) ≡ UnknownArgument ∷ []
  pub any_to_show : faults_of_words (codes "show" ∷ codes "--any" ∷ codes "a.pcapng" ∷ []) ≡ []
  pub any_to_list : faults_of_words (codes "list" ∷ codes "--any" ∷ codes "a.pcapng" ∷ []) ≡ []
  pub any_to_audit : faults_of_words (codes "audit" ∷ codes "--any" ∷ codes "--json" ∷ codes "a.pcapng" ∷ []) ≡ []
  pub any_of_why : faults_of_words (codes "why" ∷ codes "a.pcapng" ∷ codes "--any" ∷ []) ≡ UnknownArgument ∷ []
  pub any_is_asked : flag_of_words (codes "any") (codes "audit" ∷ codes "--any" ∷ codes "a.pcapng" ∷ []) ≡ Some (codes "true")
  pub no_any_is_asked : flag_of_words (codes "any") (codes "audit" ∷ codes "--json" ∷ codes "a.rec" ∷ []) ≡ Some (codes "false")
  pub fragments_to_show : faults_of_words (codes "show" ∷ codes "--fragments" ∷ codes "a.rec" ∷ []) ≡ []
  pub fragments_to_audit : faults_of_words (codes "audit" ∷ codes "--any" ∷ codes "--fragments" ∷ codes "--json" ∷ codes "a.pcapng" ∷ []) ≡ []
  pub fragments_to_list : faults_of_words (codes "list" ∷ codes "--fragments" ∷ codes "a.rec" ∷ []) ≡ []
  pub fragments_are_asked : flag_of_words (codes "fragments") (codes "list" ∷ codes "--fragments" ∷ codes "a.rec" ∷ []) ≡ Some (codes "true")
  pub no_fragments_are_asked : flag_of_words (codes "fragments") (codes "audit" ∷ codes "--any" ∷ codes "a.pcapng" ∷ []) ≡ Some (codes "false")
  pub node_of_audit : faults_of_words (codes "audit" ∷ codes "--node" ∷ codes "/talker" ∷ codes "a.rec" ∷ []) ≡ UnknownArgument ∷ []
  pub nodes : rows_of_words (codes "NODE") (codes "check" ∷ codes "--node" ∷ codes "/talker" ∷ codes "a.rec" ∷ codes "--node" ∷ codes "/ns/*" ∷ []) ≡ Some (codes "/talker" ∷ codes "/ns/*" ∷ [])
  pub topic_of_audit : faults_of_words (codes "audit" ∷ codes "--topic" ∷ codes "rt/*" ∷ codes "a.rec" ∷ []) ≡ UnknownArgument ∷ []
  pub topics : rows_of_words (codes "PATTERN") (codes "why" ∷ codes "--topic" ∷ codes "rt/*" ∷ codes "a.rec" ∷ codes "--topic" ∷ codes "" ∷ []) ≡ Some (codes "rt/*" ∷ codes "" ∷ [])
  pub topic_of_show : faults_of_words (codes "show" ∷ codes "--topic" ∷ codes "rt/*" ∷ codes "a.rec" ∷ []) ≡ UnknownArgument ∷ []
  pub observed_of_why : faults_of_words (codes "why" ∷ codes "--observed" ∷ codes "a.rec" ∷ []) ≡ UnknownArgument ∷ []
  pub least_expected : faults_of_words (codes "check" ∷ codes "--json" ∷ codes "--expect" ∷ codes "0" ∷ codes "a.rec" ∷ []) ≡ []
  pub too_many_expected : faults_of_words (codes "why" ∷ codes "--expect" ∷ codes "9223372036854775808" ∷ codes "a.rec" ∷ []) ≡ ValueValidation ∷ []
  pub no_number_expected : faults_of_words (codes "page" ∷ codes "--expect" ∷ codes "x" ∷ codes "a.rec" ∷ []) ≡ ValueValidation ∷ []
  pub expect_of_audit : faults_of_words (codes "audit" ∷ codes "--expect" ∷ codes "1" ∷ codes "a.rec" ∷ []) ≡ UnknownArgument ∷ []
  pub strict_of_audit : faults_of_words (codes "audit" ∷ codes "--strict" ∷ codes "a.rec" ∷ []) ≡ UnknownArgument ∷ []
  pub any_of_sample : faults_of_words (codes "sample" ∷ codes "--any" ∷ []) ≡ UnknownArgument ∷ []
  pub limit_of_sample : faults_of_words (codes "sample" ∷ codes "--max-octets" ∷ codes "1" ∷ []) ≡ UnknownArgument ∷ []
  pub spans_of_audit : faults_of_words (codes "audit" ∷ codes "--spans" ∷ codes "--json" ∷ codes "a.rec" ∷ []) ≡ UnknownArgument ∷ []
  pub spans_of_page : faults_of_words (codes "page" ∷ codes "--spans" ∷ codes "a.rec" ∷ []) ≡ UnknownArgument ∷ []
  pub tail : faults_of_words (codes "check" ∷ codes "--tail" ∷ codes "0" ∷ codes "--certain" ∷ codes "a.rec" ∷ []) ≡ []
  pub no_number_of_a_tail : faults_of_words (codes "check" ∷ codes "--tail" ∷ codes "x" ∷ codes "a.rec" ∷ []) ≡ ValueValidation ∷ []
  pub arrived : faults_of_words (codes "check" ∷ codes "--arrived" ∷ codes "b.pcap" ∷ codes "a.pcap" ∷ []) ≡ []
  pub arrived_is_named : rows_of_words (codes "OTHER") (codes "check" ∷ codes "--arrived" ∷ codes "b.pcap" ∷ codes "a.pcap" ∷ []) ≡ Some (codes "b.pcap" ∷ [])
  pub arrived_of_page : faults_of_words (codes "page" ∷ codes "--arrived" ∷ codes "-" ∷ codes "a.pcap" ∷ []) ≡ []
  pub arrived_of_audit : faults_of_words (codes "audit" ∷ codes "--arrived" ∷ codes "b.pcap" ∷ codes "a.pcap" ∷ []) ≡ UnknownArgument ∷ []
  pub arrived_of_why : faults_of_words (codes "why" ∷ codes "--arrived" ∷ codes "b.pcap" ∷ codes "a.pcap" ∷ []) ≡ []
  pub tail_of_audit : faults_of_words (codes "audit" ∷ codes "--tail" ∷ codes "1" ∷ codes "a.rec" ∷ []) ≡ UnknownArgument ∷ []
  pub certain_of_why : faults_of_words (codes "why" ∷ codes "--certain" ∷ codes "--tail" ∷ codes "3" ∷ codes "a.rec" ∷ []) ≡ []
