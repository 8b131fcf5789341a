-- Which pairs have a row. own: a reader that acknowledges numbers of a writer has matched it, so what talks is judged, whatever the standard
-- says of the two. If two match and the reader's participant never names the writer's (DDSI-RTPS 2.5, 8.3.8.8 "InfoDestination"), a
-- recording can say nothing of them.
use Rattle.std.specs.Prelude.{ℕ, ◌≡◌, ◌↔◌, ◌&&◌, Bool, true, false, not, Contains, List}
use Rattle.std.specs.BTreeSet.{contains}
use Rattle.std.specs.List.Sorted.{IsStrictlySortedBy}
use Rattle.rtps_discovery.specs.Directory as directory
use Rattle.rtps_discovery.specs.Listings as listings
use Rattle.rtps_discovery.specs.Matching as matching
use Rattle.rtps_policies.specs.Silence as silence
use Rattle.rtps_report.specs.Asked as asked
use Rattle.rtps_report.specs.Rows as rows
use Rattle.rtps_report.specs.Talk as talk
use Rattle.rtps_audit.specs.Intake as intake
use Rattle.rtps_discovery.specs.declared.matching.Pair.{Pair}
use Rattle.rtps_evidence.specs.Explanation as explanation
use Rattle.rtps_report.specs.declared.talk.Talk.{Talk}

-- a pair is asked for
abbrev pub is_pair_asked : rows.Choice → directory.Entries → Pair → Bool
is_pair_asked chosen entries pair = chosen (explanation.topic_of (directory.settled_at entries pair.writer)) pair

-- two that do not match have a row if they talk; others, if they are a reliable match of which the recording can speak
abbrev pub IsJudged : Bool → intake.Intake → silence.Traffic → directory.Entries → Pair → Type 0
IsJudged true intake traffic entries pair = talk.talks intake pair ≡ true
IsJudged false intake traffic entries pair = Contains (matching.reliable_pairs (matching.matches_among (directory.settled_in entries))) pair × (talk.is_named traffic pair ≡ true)

-- a pair has a row
pub record IsRowPair (asked : asked.AskedValue) (intake : intake.Intake) (traffic : silence.Traffic) (entries : directory.Entries) (pair : Pair) : Type 0 where
  pub chosen : is_pair_asked (talk.choice_in asked intake entries) entries pair ≡ true
  pub judged : IsJudged (talk.is_unfit (talk.unfit_in (talk.choice_in asked intake entries) traffic entries) pair) intake traffic entries pair

-- all of them, by writer and then by reader, each once
pub record AreRowPairs (asked : asked.AskedValue) (intake : intake.Intake) (traffic : silence.Traffic) (entries : directory.Entries) (pairs : List Pair) : Type 0 where
  pub in_order : IsStrictlySortedBy listings.pair_cmp pairs
  pub each : (pair : Pair) → Contains pairs pair ↔ IsRowPair asked intake traffic entries pair

-- a reliable match has a row, by what is kept
abbrev pub is_match_told : Talk → rows.Choice → directory.Entries → Pair → Bool
is_match_told talk chosen entries pair = not (contains listings.pair_cmp talk.unfit pair) && (rows.is_named_by talk.namings pair && is_pair_asked chosen entries pair)
