-- What weakens a report, each with what to do. own: what was not read, and which pairs were not seen, is told beside the rows.
use Rattle.std.specs.Prelude.{ℕ, ◌++◌, ◌==◌, Bool, true, false, if◌then◌else◌, is_none, nat_lt, List, [], ◌∷◌, codes, filter, length, map, Option, Some, None}
use Rattle.std.specs.List.{concat, flat_map, join_by}
use Rattle.rtps_evidence.specs.Explanation as explanation
use Rattle.rtps_evidence.specs.Times as times
use Rattle.rtps_parts.specs.Parts as parts
use Rattle.rtps_parts.specs.RosNames as ros_names
use Rattle.rtps_discovery.specs.declared.matching.Pair.{Pair}
use Rattle.rtps_policies.specs.declared.silence.Silence.{Silence}
use Rattle.rtps_report.specs.BestEfforts as best_efforts
use Rattle.rtps_report.specs.LateRows as late_rows
use Rattle.rtps_report.specs.Participants as participants_spec
use Rattle.rtps_report.specs.RowFacts as row_facts
use Rattle.rtps_report.specs.Talk as talk_spec
use Rattle.rtps_policies.specs.Unmatched as unmatched
use Rattle.rtps_policies.specs.declared.fitting.Policy.{Policy}
use Rattle.rtps_report.specs.declared.participant.Participant.{Participant}
use Rattle.rtps_report.specs.ByTopic as by_topic
use Rattle.rtps_report.specs.declared.note_facts.NoteFacts.{NoteFacts}
use Rattle.rtps_report.specs.declared.side_facts.SideFacts.{SideFacts}
use Rattle.rtps_lines.specs.LateNotes as late_notes
use Rattle.rtps_lines.specs.Lines as lines
use Rattle.rtps_lines.specs.PolicyValues as policy_values
use Rattle.rtps_lines.specs.TailNames as tail_names
use Rattle.rtps_lines.specs.WayNotes as way_notes
use Rattle.std.specs.Str.{bytes_eq}
use Rattle.rtps_lines.specs.declared.notes.NotedRows.{NotedRows}
use Rattle.rtps_lines.specs.declared.side_notes.Unread.{Unread}
use Rattle.rtps_lines.specs.declared.notes.Weakness.{Weakness}
use Rattle.rtps_lines.specs.declared.sentences.noted.TheConstants as said
use Rattle.rtps_lines.specs.declared.sentences.no_pair.TheConstants as no_pair

-- the words for so much of a weakness
unfoldable pub words_of : Weakness → parts.WordsValue
words_of Weakness.Likely = record { one = said.LIKELY_ONE.now; many = said.LIKELY_MANY.now }
words_of Weakness.Pieces =
    record { one = said.PIECES_ONE.now; many = said.PIECES_MANY.now }
words_of Weakness.Cut = record { one = said.CUT_ONE.now; many = said.CUT_MANY.now }
words_of (Weakness.Links first) = record { one = said.LINKS_ONE.now; many = said.LINKS_MANY.now }
words_of Weakness.Other = record { one = said.OTHER_ONE.now; many = said.OTHER_MANY.now }
words_of Weakness.Fragments = record { one = said.FRAGMENTS_ONE.now; many = said.FRAGMENTS_MANY.now }
words_of Weakness.Unsettled = record { one = said.UNSETTLED_ONE.now; many = said.UNSETTLED_MANY.now }
words_of Weakness.Refused = record { one = said.REFUSED_ONE.now; many = said.REFUSED_MANY.now }

-- what to do
unfoldable pub remedy_of : Weakness → List ℕ
remedy_of Weakness.Likely = said.LIKELY_REMEDY.now
remedy_of Weakness.Pieces = said.PIECES_REMEDY.now
remedy_of Weakness.Cut = said.CUT_REMEDY.now
remedy_of (Weakness.Links first) = said.LINKS_REMEDY.now
remedy_of Weakness.Other = said.OTHER_REMEDY.now
remedy_of Weakness.Fragments = said.FRAGMENTS_REMEDY.now
remedy_of Weakness.Unsettled = said.UNSETTLED_REMEDY.now
remedy_of Weakness.Refused = said.REFUSED_REMEDY.now

-- what is said behind so much of it: the link type of the first frame, where it is known
unfoldable pub detail_of : ℕ → Weakness → List (List ℕ)
detail_of number (Weakness.Links (Some first)) = (if number == 1 then said.OF_TYPE.now else said.FIRST_OF_TYPE.now) ∷ parts.grouped first ∷ []
detail_of number weakness = [] ∷ [] ∷ []

-- the words for pairs
abbrev pub pair_words : parts.WordsValue
pair_words = record { one = codes "pair"; many = codes "pairs" }

-- the words for numbers
abbrev pub number_words : parts.WordsValue
number_words = record { one = codes "number"; many = codes "numbers" }

-- how much of each there is
abbrev pub weaknesses : NoteFacts → List (ℕ × Weakness)
weaknesses facts = (facts.likely, Weakness.Likely) ∷ (facts.pieces, Weakness.Pieces) ∷ (facts.cut, Weakness.Cut) ∷ (facts.links.number, Weakness.Links facts.links.first) ∷ (facts.other, Weakness.Other) ∷ (facts.fragments, Weakness.Fragments)
    ∷ (facts.unsettled, Weakness.Unsettled) ∷ (facts.refused, Weakness.Refused) ∷ []

-- how much of a weakness there is, and behind an arrow what to do; nothing where there is none
abbrev pub note : List ℕ → ℕ × Weakness → List (List ℕ)
note arrow found = if found.0 == 0 then [] else concat (parts.amount found.0 (words_of found.1) ∷ (detail_of found.0 found.1 ++ (arrow ∷ remedy_of found.1 ∷ []))) ∷ []

-- the name of the topic of rows, by ROS 2, as `list` writes one between quotes
abbrev pub topic_name : List explanation.ExplanationValue → List ℕ
topic_name [] = []
topic_name (row ∷ rows) = ros_names.topic_text row.topic

-- the names of topics behind a colon, with a comma between each two; nothing where there is none
abbrev pub joined_names : List (List explanation.ExplanationValue) → List ℕ
joined_names [] = []
joined_names (topic ∷ topics) = codes ": " ++ join_by topic_name (codes ", ") (topic ∷ topics)

-- the names of the topics of rows, where topics are named
abbrev pub names_if : Bool → List explanation.ExplanationValue → List ℕ
names_if named rows = if named then joined_names (by_topic.topics_of rows) else []

-- why pairs are silent, and what that says of them
unfoldable pub silence_words : Silence → List ℕ
silence_words Silence.OneParticipant = said.ONE_PARTICIPANT.now
silence_words Silence.TwoDomains = said.TWO_DOMAINS.now
silence_words Silence.OneWay = said.ONE_WAY.now
silence_words Silence.Silent = said.SILENT.now

-- so many pairs that are left out for this reason, and the names of their topics
abbrev pub left_out_by : Silence → ℕ → List ℕ → List ℕ
left_out_by silence pairs names =
    concat (parts.amount pairs (record { one = said.LEFT_OUT_ONE.now; many = said.LEFT_OUT_MANY.now }) ∷ silence_words silence ∷ names ∷ [])

-- two reasons are the same
abbrev pub is_silence : Silence → Silence → Bool
is_silence Silence.OneParticipant Silence.OneParticipant = true
is_silence Silence.TwoDomains Silence.TwoDomains = true
is_silence Silence.OneWay Silence.OneWay = true
is_silence Silence.Silent Silence.Silent = true
is_silence _ _ = false

-- the pairs that are silent for this reason
abbrev pub silent_in : (Pair → Silence) → Silence → List talk_spec.LeftOutValue → List talk_spec.LeftOutValue
silent_in silence_of silence pairs = filter (λ one. is_silence (silence_of one.pair) silence) pairs

-- the name of a topic behind that of the pair before, if there is one: nothing where that is the same
abbrev pub name_behind : Option (List ℕ) → List ℕ → List ℕ
name_behind None topic = codes ": " ++ ros_names.topic_text topic
name_behind (Some before) topic = if bytes_eq before topic then [] else codes ", " ++ ros_names.topic_text topic

-- the names of the topics of pairs, which stand by topic, behind that pair
abbrev pub names_behind : Option (List ℕ) → List talk_spec.LeftOutValue → List ℕ
names_behind before [] = []
names_behind before (one ∷ more) = name_behind before one.topic ++ names_behind (Some one.topic) more

-- the same behind a colon, where topics are named
abbrev pub left_names : Bool → List talk_spec.LeftOutValue → List ℕ
left_names named pairs = if named then names_behind None pairs else []

-- the note on pairs that are silent for a reason, by topic; none where there is no such pair
abbrev pub silent_by : Bool → Silence → List talk_spec.LeftOutValue → List (List ℕ)
silent_by named reason [] = []
silent_by named reason (one ∷ more) = left_out_by reason (length (one ∷ more)) (left_names named (one ∷ more)) ∷ []

-- the note on those of these pairs that are silent for a reason
abbrev pub silent_note : Bool → (Pair → Silence) → List talk_spec.LeftOutValue → Silence → List (List ℕ)
silent_note named silence_of pairs silence = silent_by named silence (silent_in silence_of silence pairs)

-- the reasons, in the order in which they are told
abbrev pub silences : List Silence
silences = Silence.OneParticipant ∷ Silence.TwoDomains ∷ Silence.OneWay ∷ Silence.Silent ∷ []

-- the notes on pairs that are left out
abbrev pub left_out_notes : Bool → (Pair → Silence) → List talk_spec.LeftOutValue → List (List ℕ)
left_out_notes named silence_of pairs = flat_map (silent_note named silence_of pairs) silences

-- the names of policies
abbrev pub policies_text : List Policy → List ℕ
policies_text [] = []
policies_text (policy ∷ policies) = policy_values.policy_words policy ++ flat_map (λ other. codes ", " ++ policy_values.policy_words other) policies

-- the name of the topic of two that talk though they do not match, and for which policies they do not
abbrev pub talking_text : List ℕ → unmatched.UnmatchedValue → List ℕ
talking_text separator one = separator ++ (ros_names.topic_text one.writer.endpoint.topic ++ (codes " (" ++ (policies_text one.reasons ++ codes ")")))

-- those of more, the first one behind this separator
abbrev pub talking_behind : List ℕ → List unmatched.UnmatchedValue → List ℕ
talking_behind separator [] = []
talking_behind separator (one ∷ more) = talking_text separator one ++ talking_behind (codes ", ") more

-- those behind a colon; nothing where there are none
abbrev pub talking_names : List unmatched.UnmatchedValue → List ℕ
talking_names pairs = talking_behind (codes ": ") pairs

-- the note on so many pairs that talk though they do not match, and their names; none where there is no such pair
abbrev pub talking_note : ℕ → List ℕ → List (List ℕ)
talking_note pairs names =
    if pairs == 0 then []
    else concat (parts.amount pairs (record { one = said.TALKING_ONE.now; many = said.TALKING_MANY.now })
    ∷ names ∷ []) ∷ []

-- that times go back by so many seconds, and behind an arrow what to do
abbrev pub back_by : List ℕ → List ℕ → List ℕ
back_by seconds arrow =
    concat (said.BACK.now ∷ seconds ∷ codes " s" ∷ arrow
    ∷ said.BACK_REMEDY.now ∷ [])

-- the note on times that go back by so many nanoseconds; none where they do not
abbrev pub order_note : List ℕ → ℕ → List (List ℕ)
order_note arrow back = if back == 0 then [] else back_by (lines.seconds_text (times.seconds_of back)) arrow ∷ []

-- that all participants are on one host, if it is so
abbrev pub host_note : List ℕ → List Participant → List (List ℕ)
host_note arrow participants =
    if participants_spec.are_on_one_host participants
    then concat (no_pair.ONE_HOST.now ∷ arrow ∷ said.ONE_HOST_REMEDY.now ∷ []) ∷ []
    else []

-- the name of a topic of best effort, and how many of its numbers are recorded
abbrev pub share_text : List ℕ → best_efforts.BestEffortValue → List ℕ
share_text separator sum = concat (separator ∷ ros_names.topic_text sum.topic ∷ codes " " ∷ parts.share sum.recorded sum.numbers ∷ [])

-- those of topics behind a colon; nothing where there is none
abbrev pub shares_text : List best_efforts.BestEffortValue → List ℕ
shares_text [] = []
shares_text (sum ∷ sums) = share_text (codes ": ") sum ++ flat_map (share_text (codes ", ")) sums

-- the same, where topics are named
abbrev pub shares_if : Bool → List best_efforts.BestEffortValue → List ℕ
shares_if named sums = if named then shares_text sums else []

-- what is to be done where not all numbers are recorded, behind an arrow
abbrev pub best_effort_remedy : List ℕ → best_efforts.BestEffortValue → List ℕ
best_effort_remedy arrow total =
    if nat_lt total.recorded total.numbers
    then arrow ++ said.BEST_EFFORT_REMEDY.now
    else []

-- how many numbers of all pairs of best effort are recorded, and then this of their topics; none where there is no such pair
abbrev pub best_effort_note : List ℕ → best_efforts.BestEffortValue → List ℕ → List (List ℕ)
best_effort_note arrow total shares =
    if total.pairs == 0 then []
    else concat (parts.amount total.pairs (record { one = said.BEST_EFFORT_ONE.now; many = said.BEST_EFFORT_MANY.now })
    ∷ parts.share total.recorded total.numbers
    ∷ parts.words_for total.numbers (record { one = said.RECORDED_ONE.now; many = said.RECORDED_MANY.now })
    ∷ shares ∷ best_effort_remedy arrow total ∷ []) ∷ []

-- for so many pairs the writer wrote nothing since the reader joined, the names of their topics, and behind an arrow what to do
abbrev pub late_by : ℕ → List ℕ → List ℕ → List ℕ
late_by pairs names arrow =
    concat (said.LATE.now ∷ parts.amount pairs pair_words ∷ names ∷ arrow
    ∷ said.LATE_REMEDY.now ∷ [])

-- the note on so many pairs; none where there is no such pair
abbrev pub late_note : List ℕ → ℕ → List ℕ → List (List ℕ)
late_note arrow pairs names = if pairs == 0 then [] else late_by pairs names arrow ∷ []

-- the note on rows that are clean with a tail, and on the longest, and then this of their topics; none where there is no such row
abbrev pub tail_note : NoteFacts → List ℕ → List (List ℕ)
tail_note facts names =
    if facts.tails == 0 then []
    else concat (parts.amount facts.tails (record { one = codes "pair is"; many = codes "pairs are" }) ∷ said.TAIL.now
    ∷ parts.amount facts.longest number_words ∷ names ∷ []) ∷ []

-- the topics of rows with tails, where topics are named
abbrev pub tail_names_if : Bool → List explanation.ExplanationValue → List ℕ
tail_names_if named rows = if named then tail_names.tail_names rows else []

-- ---- what another recording shows, made at the reader's host

-- how many numbers of all pairs of best effort arrived, and then this of their topics; none where no such pair is held
abbrev pub held_note : best_efforts.BestEffortValue → List ℕ → List (List ℕ)
held_note total shares =
    if total.pairs == 0 then []
    else concat (parts.amount total.pairs (record { one = said.BEST_EFFORT_ONE.now; many = said.BEST_EFFORT_MANY.now })
    ∷ parts.share total.recorded total.numbers
    ∷ parts.words_for total.numbers (record { one = said.HELD_ONE.now; many = said.HELD_MANY.now })
    ∷ shares ∷ []) ∷ []

-- the rows of which it has nothing
abbrev pub alone_in : List explanation.ExplanationValue → List explanation.ExplanationValue
alone_in rows = filter (λ row. is_none (row_facts.way_in row.evidence.in_span)) rows

-- of so many rows it has nothing, the names of their topics, and behind an arrow what to do; none where it has something of each
abbrev pub alone_note : List ℕ → ℕ → List ℕ → List (List ℕ)
alone_note arrow alone names =
    if alone == 0 then []
    else concat (parts.amount alone (record { one = said.ALONE_ONE.now; many = said.ALONE_MANY.now })
    ∷ names ∷ arrow
    ∷ said.ALONE_REMEDY.now ∷ []) ∷ []

-- the rows of which numbers are received for certain though the other recording has none of them
abbrev pub absent_rows : List explanation.ExplanationValue → List explanation.ExplanationValue
absent_rows rows = filter (λ row. nat_lt 0 (row_facts.absent_in row.evidence.in_span)) rows

-- how many such numbers there are, in how many rows, the names of their topics, and behind an arrow what to do; none where there is none
abbrev pub absent_note : List ℕ → SideFacts → List ℕ → List (List ℕ)
absent_note arrow side names =
    if side.absent_pairs == 0 then []
    else concat (parts.amount side.absent (record { one = said.ABSENT_ONE.now; many = said.ABSENT_MANY.now })
    ∷ codes " " ∷ parts.amount side.absent_pairs pair_words
    ∷ said.ABSENT.now
    ∷ names ∷ arrow ∷ said.ABSENT_REMEDY.now ∷ []) ∷ []

-- what of the other recording was not read: how much, the words for it, and what to do
pub record UnreadValue : Type 0 where
  pub number : ℕ
  pub words : parts.WordsValue
  pub remedy : List ℕ

-- that of the code, as a value
abbrev pub unread_value : Unread → UnreadValue
unread_value unread = record { number = unread.number; words = parts.words_value unread.words; remedy = unread.remedy.now }

-- the note on it; none where there is nothing
abbrev pub unread_note : List ℕ → UnreadValue → List (List ℕ)
unread_note arrow unread =
    if unread.number == 0 then []
    else concat (said.THERE.now ∷ parts.amount unread.number unread.words ∷ arrow ∷ unread.remedy ∷ []) ∷ []

-- frames of it that gave no datagram
abbrev pub unread_there : SideFacts → List UnreadValue
unread_there side =
    record { number = side.pieces; words = words_of Weakness.Pieces; remedy = said.PIECES_THERE.now }
    ∷ record {
      number = side.cut;
      words = words_of Weakness.Cut;
      remedy = said.CUT_THERE.now;
    }
    ∷ record {
      number = side.links.number;
      words = words_of (Weakness.Links side.links.first);
      remedy = said.LINKS_THERE.now;
    } ∷ []

-- ---- all of them

-- of what notes tell: who does not talk, the names of those that talk though they do not match, the pairs that are left out, the rows whose writer wrote nothing since their reader joined and
-- whose two did not match late, those whose two matched late, the lines of these, those that are clean with a tail, and all rows, each by topic; what another recording shows, if there is one; and whether topics are named
pub record NotedValue : Type 0 where
  pub talk : talk_spec.TalkValue
  pub talking : List ℕ
  pub left_out : List talk_spec.LeftOutValue
  pub late : List explanation.ExplanationValue
  pub matched_late : List late_rows.LateRowValue
  pub late_lines : List ℕ
  pub tails : List explanation.ExplanationValue
  pub rows : List explanation.ExplanationValue
  pub side : Option SideFacts
  pub named : Bool

-- that of the code, as a value
abbrev pub noted_value : NotedRows → NotedValue
noted_value rows =
    record {
      talk = talk_spec.talk_value rows.talk.now;
      talking = rows.talking.now;
      left_out = map talk_spec.left_out_value rows.left_out.now;
      late = map explanation.explanation_value rows.late.now;
      matched_late = map late_rows.late_row_value rows.matched_late.now;
      late_lines = rows.late_lines.now;
      tails = map explanation.explanation_value rows.tails.now;
      rows = map explanation.explanation_value rows.rows.now;
      side = rows.side;
      named = rows.named;
    }

-- the notes on the other recording, by what it shows
abbrev pub notes_beside : List ℕ → NotedValue → SideFacts → List (List ℕ)
notes_beside arrow noted side =
    held_note noted.talk.held_total (shares_if noted.named noted.talk.held_sums)
    ++ (alone_note arrow side.alone (names_if noted.named (alone_in noted.rows))
    ++ (absent_note arrow side (names_if noted.named (absent_rows noted.rows)) ++ (flat_map (unread_note arrow) (unread_there side) ++ way_notes.way_notes arrow side.order)))

-- the same, where there is another recording
abbrev pub side_notes : List ℕ → NotedValue → Option SideFacts → List (List ℕ)
side_notes arrow noted None = []
side_notes arrow noted (Some side) = notes_beside arrow noted side

-- all notes, with an arrow before what is to be done
abbrev pub notes : List ℕ → NoteFacts → NotedValue → List (List ℕ)
notes arrow facts noted =
    order_note arrow facts.back
    ++ (host_note arrow noted.talk.participants
    ++ (talking_note (length noted.talk.talking) noted.talking
    ++ (left_out_notes noted.named noted.talk.silence noted.left_out
    ++ (best_effort_note arrow noted.talk.best_effort_total (shares_if noted.named noted.talk.best_effort)
    ++ (side_notes arrow noted noted.side
    ++ (late_note arrow facts.late (names_if noted.named noted.late)
    ++ (late_notes.matched_note arrow (length noted.matched_late) facts.late_before noted.late_lines
    ++ (tail_note facts (tail_names_if noted.named noted.tails) ++ flat_map (note arrow) (weaknesses facts)))))))))
