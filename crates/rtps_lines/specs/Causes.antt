-- How a run ends, in words: what is known of its numbers where it is clean, or why it is not. own: the last line is all that a job's log
-- may keep, and no number is called received that may not be.
use Rattle.std.specs.Prelude.{ℕ, ◌-◌, ◌++◌, ◌==◌, nat_le, Bool, if◌then◌else◌, List, [], ◌∷◌, codes, Option, None, Some}
use Rattle.std.specs.List.{concat}
use Rattle.rtps_parts.specs.Parts as parts
use Rattle.rtps_report.specs.Findings as findings
use Rattle.rtps_report.specs.declared.best_effort.BestEffortNumbers.{BestEffortNumbers}
use Rattle.rtps_report.specs.declared.findings.Ending.{Ending}
use Rattle.rtps_report.specs.declared.findings.FewRows.{FewRows}
use Rattle.rtps_report.specs.declared.findings.Findings.{Findings}
use Rattle.rtps_report.specs.declared.not_told.NotToldCounts.{NotToldCounts}
use Rattle.rtps_report.specs.declared.totals.Totals.{Totals}
use Rattle.rtps_report.specs.declared.recording.Links.{Links as LinksFound}
use Rattle.rtps_lines.specs.Notes as notes
use Rattle.rtps_lines.specs.WayNotes as way_notes
use Rattle.rtps_lines.specs.declared.causes.Lost.{Lost}
use Rattle.rtps_lines.specs.declared.notes.Weakness.{Weakness}
use Rattle.rtps_lines.specs.declared.sentences.reason.TheConstants as said
use Rattle.rtps_lines.specs.declared.sentences.noted.TheConstants as noted

-- what is found by an ending
abbrev pub findings_in : Ending → Findings
findings_in (Ending.Unmet findings) = findings
findings_in ending = findings.no_findings

-- the words for pairs that are not complete
abbrev pub incomplete_words : parts.WordsValue
incomplete_words = record { one = said.INCOMPLETE_ONE.now; many = said.INCOMPLETE_MANY.now }

-- for pairs that do not match
abbrev pub unmatched_words : parts.WordsValue
unmatched_words = record { one = said.UNMATCHED_ONE.now; many = said.UNMATCHED_MANY.now }

-- for numbers that were missed
abbrev pub missed_words : parts.WordsValue
missed_words = record { one = said.MISSED_ONE.now; many = said.MISSED_MANY.now }

-- that were unsent
abbrev pub unsent_words : parts.WordsValue
unsent_words = record { one = said.UNSENT_ONE.now; many = said.UNSENT_MANY.now }

-- that were unanswered
abbrev pub unanswered_words : parts.WordsValue
unanswered_words = record { one = said.UNANSWERED_ONE.now; many = said.UNANSWERED_MANY.now }

-- that did not arrive
abbrev pub lost_words : parts.WordsValue
lost_words = record { one = said.LOST_ONE.now; many = said.LOST_MANY.now }

-- that are not certain
abbrev pub uncertain_words : parts.WordsValue
uncertain_words = record { one = said.UNCERTAIN_ONE.now; many = said.UNCERTAIN_MANY.now }

-- how many there are of a thing; nothing where there is none
abbrev pub cause : ℕ → parts.WordsValue → List (List ℕ)
cause number words = if number == 0 then [] else concat (parts.amount number words ∷ []) ∷ []

-- frames of links that are not read
abbrev pub links_cause : LinksFound → List (List ℕ)
links_cause links =
    if links.number == 0 then []
    else concat (parts.amount links.number (notes.words_of (Weakness.Links links.first)) ∷ notes.detail_of links.number (Weakness.Links links.first)) ∷ []

-- there is no pair
abbrev pub empty_cause : Bool → List (List ℕ)
empty_cause empty = if empty then said.EMPTY.now ∷ [] else []

-- there are fewer pairs than were expected
abbrev pub few_cause : Option FewRows → List (List ℕ)
few_cause None = []
few_cause (Some few) = concat (parts.amount few.rows notes.pair_words ∷ codes " of " ∷ parts.grouped few.expected ∷ codes " expected" ∷ []) ∷ []

-- how many numbers pairs of best effort have, and how many of these are recorded
abbrev pub best_effort_text : BestEffortNumbers → List ℕ
best_effort_text told =
    concat (parts.amount told.pairs (record { one = noted.BEST_EFFORT_ONE.now; many = noted.BEST_EFFORT_MANY.now }) ∷ parts.share told.recorded told.numbers
    ∷ parts.words_for told.numbers (record { one = noted.RECORDED_ONE.now; many = noted.RECORDED_MANY.now }) ∷ [])

-- there is no row, and not all numbers of pairs of best effort are recorded
abbrev pub lossy_cause : Option BestEffortNumbers → List (List ℕ)
lossy_cause None = []
lossy_cause (Some told) = (said.BEST_EFFORT.now ++ best_effort_text told) ∷ []

-- so many numbers were lost, in so many pairs
abbrev pub lost_cause : Lost → parts.WordsValue → List (List ℕ)
lost_cause lost words = if lost.pairs == 0 then [] else concat (parts.amount lost.numbers words ∷ codes " " ∷ parts.amount lost.pairs notes.pair_words ∷ []) ∷ []

-- how many numbers are not received for certain, where that is asked
abbrev pub uncertain_of : Totals → Bool → Lost
uncertain_of totals certain =
    if certain then record { numbers = totals.numbers - totals.received; pairs = totals.uncertain_pairs } else record { numbers = 0; pairs = 0 }

-- rows that are not what they have to be: how many are not clean for their verdict, and what they lost
abbrev pub row_causes : Totals → Bool → List (List ℕ)
row_causes totals certain =
    cause totals.unclean_pairs incomplete_words
    ++ (lost_cause (record { numbers = totals.missed; pairs = totals.missed_pairs }) missed_words
    ++ (lost_cause (record { numbers = totals.unsent; pairs = totals.unsent_pairs }) unsent_words
    ++ (lost_cause (record { numbers = totals.unanswered; pairs = totals.unanswered_pairs }) unanswered_words
    ++ (lost_cause (record { numbers = totals.lost; pairs = totals.lost_pairs }) lost_words
    ++ lost_cause (uncertain_of totals certain) uncertain_words))))

-- something of the recording was not read, or is in no row
abbrev pub unread_causes : Findings → List (List ℕ)
unread_causes findings =
    cause findings.unsettled (notes.words_of Weakness.Unsettled)
    ++ (cause findings.pieces (notes.words_of Weakness.Pieces)
    ++ (cause findings.cut (notes.words_of Weakness.Cut) ++ links_cause findings.links))

-- two recordings look swapped, or are one
abbrev pub order_causes : Findings → List (List ℕ)
order_causes findings = way_notes.swapped_cause findings.swapped ++ way_notes.twice_cause findings.twice

-- the words for participants that were not told of something
abbrev pub told_words : parts.WordsValue
told_words = record { one = said.NOT_TOLD_ONE.now; many = said.NOT_TOLD_MANY.now }

-- for endpoints
abbrev pub endpoint_words : parts.WordsValue
endpoint_words = record { one = codes "endpoint"; many = codes "endpoints" }

-- for participants with two lives
abbrev pub lives_words : parts.WordsValue
lives_words = record { one = said.LIVES_ONE.now; many = said.LIVES_MANY.now }

-- so many participants were not told of so many endpoints
abbrev pub not_told_cause : NotToldCounts → List (List ℕ)
not_told_cause counts =
    if counts.participants == 0 then [] else concat (parts.amount counts.participants told_words ∷ parts.amount counts.endpoints endpoint_words ∷ []) ∷ []

-- what discovery did not tell, and who has two lives
abbrev pub discovery_causes : Findings → List (List ℕ)
discovery_causes findings = not_told_cause findings.not_told ++ cause findings.lives lives_words

-- all of them, for rows of which this is counted, where each number has to be certain or not
abbrev pub causes_of : Bool → Totals → Findings → List (List ℕ)
causes_of certain totals findings =
    empty_cause findings.empty
    ++ (row_causes totals certain
    ++ (cause findings.unmatched unmatched_words
    ++ (discovery_causes findings ++ (order_causes findings ++ (lossy_cause findings.lossy ++ (few_cause findings.few ++ unread_causes findings))))))

-- the words for all numbers, of which so many are received for certain
abbrev pub certain_words : parts.WordsValue
certain_words =
    record {
      one = said.CERTAIN_ONE.now;
      many = said.CERTAIN_MANY.now;
    }

-- what stands behind `clean`: how many numbers are received for certain, where any other did not arrive
abbrev pub certain_detail : Totals → List ℕ
certain_detail totals =
    if nat_le (totals.numbers - totals.received) totals.arrived then []
    else concat (codes ": " ∷ parts.share totals.received totals.numbers ∷ parts.words_for totals.numbers certain_words ∷ [])

-- the same, or what pairs of best effort have, where there is no row
abbrev pub clean_detail : Totals → BestEffortNumbers → List ℕ
clean_detail totals best_effort = if totals.pairs == 0 then said.CLEAN_BEST_EFFORT.now ++ best_effort_text best_effort else certain_detail totals

-- the last line, of a report of whose rows this is counted, and of whose pairs of best effort that
abbrev pub last_line : Totals → BestEffortNumbers → Ending → List (List ℕ) → List ℕ
last_line totals best_effort Ending.Clean causes = codes "clean" ++ (clean_detail totals best_effort ++ codes "\n")
last_line totals best_effort ending causes = concat (codes "not clean: " ∷ parts.joined (codes "; ") causes ∷ codes "\n" ∷ [])
