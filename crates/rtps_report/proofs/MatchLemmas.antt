-- What becomes of each match that discovery finds.
use Rattle.std.proofs.Common.{◌≡◌, ◌↔◌, ◌⊎◌, ◌∙◌, ◌&&◌, Bool, true, false, cond, inl, inr, List, Contains, Option, ap, ap₂, filter, map, not, refl, subst, sym}
use Rattle.std.proofs.lemmas.Bool.{false≢true}
use Rattle.rtps_discovery.specs.Directory as directory_spec
use Rattle.rtps_discovery.specs.Endpoint as endpoint
use Rattle.rtps_discovery.specs.Listings as listings
use Rattle.rtps_discovery.specs.Matching as matching
use Rattle.rtps_discovery.specs.Notice as notice
use Rattle.rtps_discovery.specs.declared.endpoint.Reliability.{Reliability}
use Rattle.rtps_discovery.specs.declared.matching.Match.{Match}
use Rattle.rtps_discovery.proofs.Offered.{from_map, into_map}
use Rattle.rtps_evidence.proofs.Offered.{HasOneMap}
use Rattle.rtps_policies.specs.Silence as silence
use Rattle.rtps_policies.specs.Unmatched as unmatched
use Rattle.rtps_receiver.specs.Values as values
use Rattle.rtps_evidence.specs.declared.explanation.Explanation.{Explanation}
use Rattle.rtps_evidence.specs.Explanation as explanation
use Rattle.rtps_audit.specs.Intake as intake_spec
use Rattle.rtps_discovery.specs.declared.matching.Pair.{Pair}
use Rattle.rtps_fragments.specs.declared.fragments.Fragments.{Fragments}
use Rattle.rtps_fragments.specs.RecordedSamples as recorded_samples
use Rattle.rtps_report.specs.Asked as asked
use Rattle.rtps_report.specs.FullReport as full_report
use Rattle.rtps_report.specs.Recording as recording
use Rattle.rtps_report.specs.Laws as laws
use Rattle.rtps_report.specs.RowPairs as row_pairs
use Rattle.rtps_report.specs.Talk as talk
use Rattle.rtps_report.proofs.RowPairLemmas.{unfit_tested}

-- ---- a match is reliable where its pair is one of reliable ones

-- which matches and which pairs are listed
pub record AreListed : Type 0 where
  pub matches : (acts : List values.ActValue) (map : directory_spec.DirectoryValue) (found : Match) → directory_spec.IsMapOf acts map → Contains (matching.matches_among (directory_spec.settled_in map.endpoints)) found ↔ listings.IsMatchAmong (notice.endpoints_among acts) found
  pub pairs : (acts : List values.ActValue) (map : directory_spec.DirectoryValue) (pair : Pair) → directory_spec.IsMapOf acts map
      → Contains (matching.reliable_pairs (matching.matches_among (directory_spec.settled_in map.endpoints))) pair ↔ listings.IsReliablePair (notice.endpoints_among acts) pair

both_reliable : (one other : Reliability) → (matching.is_reliable one && matching.is_reliable other) ≡ true → (one ≡ Reliability.Reliable) × (other ≡ Reliability.Reliable)
both_reliable Reliability.Reliable Reliability.Reliable is = (refl, refl)
both_reliable Reliability.Reliable Reliability.BestEffort is = absurd (false≢true is)
both_reliable Reliability.BestEffort other is = absurd (false≢true is)

reliable_there : (announced : List endpoint.EndpointValue) (found : Match) → listings.IsMatchAmong announced found → found.reliable ≡ true → listings.IsReliablePair announced found.pair
reliable_there announced found is reliable =
    let both = both_reliable is.writer.reliability is.reader.reliability (sym (ap (λ (one : Match). one.reliable) is.is_theirs) ∙ reliable) in
    record {
      writer = is.writer;
      reader = is.reader;
      writer_settled = is.writer_settled;
      reader_settled = is.reader_settled;
      they_match = is.they_match;
      writer_reliable = both.0;
      reader_reliable = both.1;
      is_theirs = ap (λ (one : Match). one.pair) is.is_theirs;
    }

reliable_back : (announced : List endpoint.EndpointValue) (found : Match) → listings.IsMatchAmong announced found → listings.IsReliablePair announced found.pair → found.reliable ≡ true
reliable_back announced found is pair =
    let writer : is.writer ≡ pair.writer =
    pair.writer_settled.alone is.writer is.writer_settled.is_announced (sym (ap (λ (one : Match). one.pair.writer) is.is_theirs) ∙ ap (λ (one : Pair). one.writer) pair.is_theirs) in
    let reader : is.reader ≡ pair.reader =
    pair.reader_settled.alone is.reader is.reader_settled.is_announced (sym (ap (λ (one : Match). one.pair.reader) is.is_theirs) ∙ ap (λ (one : Pair). one.reader) pair.is_theirs) in
    let first : is.writer.reliability ≡ Reliability.Reliable = ap (λ (one : endpoint.EndpointValue). one.reliability) writer ∙ pair.writer_reliable in
    let second : is.reader.reliability ≡ Reliability.Reliable = ap (λ (one : endpoint.EndpointValue). one.reliability) reader ∙ pair.reader_reliable in
    ap (λ (one : Match). one.reliable) is.is_theirs ∙ ap₂ (λ (one other : Reliability). matching.is_reliable one && matching.is_reliable other) first second

-- ---- which matches are rows

-- whether one is, by whether the two do not match by all policies, whether they talk, whether both are reliable, and whether the recording can
-- speak of them
abbrev judged : Bool → Bool → Bool → Bool → Bool
judged unfit talking reliable named = cond unfit talking (reliable && named)

both : (reliable named : Bool) → reliable ≡ true → named ≡ true → (reliable && named) ≡ true
both true true r n = refl
both false named r n = absurd (false≢true r)
both true false r n = absurd (false≢true n)

both_parts : (reliable named : Bool) → (reliable && named) ≡ true → (reliable ≡ true) × (named ≡ true)
both_parts true true is = (refl, refl)
both_parts false named is = absurd (false≢true is)
both_parts true false is = absurd (false≢true is)

judged_there : (intake : intake_spec.Intake) (traffic : silence.Traffic) (entries : directory_spec.Entries) (pair : Pair) (reliable unfit : Bool) → (Contains (matching.reliable_pairs (matching.matches_among (directory_spec.settled_in entries))) pair → reliable ≡ true)
    → row_pairs.IsJudged unfit intake traffic entries pair → judged unfit (talk.talks intake pair) reliable (talk.is_named traffic pair) ≡ true
judged_there intake traffic entries pair reliable true listed said = said
judged_there intake traffic entries pair reliable false listed said = both reliable (talk.is_named traffic pair) (listed said.0) said.1

judged_back : (intake : intake_spec.Intake) (traffic : silence.Traffic) (entries : directory_spec.Entries) (pair : Pair) (reliable unfit : Bool) → (reliable ≡ true → Contains (matching.reliable_pairs (matching.matches_among (directory_spec.settled_in entries))) pair)
    → judged unfit (talk.talks intake pair) reliable (talk.is_named traffic pair) ≡ true → row_pairs.IsJudged unfit intake traffic entries pair
judged_back intake traffic entries pair reliable true listed said = said
judged_back intake traffic entries pair reliable false listed said = let parts = both_parts reliable (talk.is_named traffic pair) said in (listed parts.0, parts.1)

module _ (listed : AreListed) (unique : HasOneMap) (asked : asked.AskedValue) (other : Option recording.RecordingValue) (recording : recording.RecordingValue) (report : full_report.ReportValue) (directory : directory_spec.DirectoryValue) (found : Match)
    (is : full_report.IsFullReport asked other recording report) (there : laws.IsFoundIn asked recording directory found) where
  abbrev traffic : silence.Traffic
  traffic = talk.traffic_of recording.datagrams

  abbrev intake : intake_spec.Intake
  intake = recorded_samples.intake_as Fragments.Read recording.datagrams

  abbrev unfit : List unmatched.UnmatchedValue
  unfit = talk.unfit_in (talk.choice_of asked recording.datagrams directory.endpoints) traffic directory.endpoints

  same : is.talks.directory ≡ directory
  same = unique traffic.announcing is.talks.directory directory is.talks.is_map there.is_map

  pairs : row_pairs.AreRowPairs asked intake traffic directory.endpoints is.rows.pairs
  pairs = subst (λ (of : directory_spec.DirectoryValue). row_pairs.AreRowPairs asked intake traffic of.endpoints is.rows.pairs) (unique traffic.announcing is.rows.directory directory is.rows.is_map there.is_map) is.rows.are_pairs

  is_reliable_there : Contains (matching.reliable_pairs (matching.matches_among (directory_spec.settled_in directory.endpoints))) found.pair → found.reliable ≡ true
  is_reliable_there has =
      reliable_back (notice.endpoints_among traffic.announcing) found ((listed.matches traffic.announcing directory found there.is_map).0 there.among)
      ((listed.pairs traffic.announcing directory found.pair there.is_map).0 has)

  is_listed : found.reliable ≡ true → Contains (matching.reliable_pairs (matching.matches_among (directory_spec.settled_in directory.endpoints))) found.pair
  is_listed reliable =
      (listed.pairs traffic.announcing directory found.pair there.is_map).1
      (reliable_there (notice.endpoints_among traffic.announcing) found ((listed.matches traffic.announcing directory found there.is_map).0 there.among) reliable)

  row_there : laws.IsRowOf report found.pair → judged (talk.is_unfit unfit found.pair) (talk.talks intake found.pair) found.reliable (talk.is_named traffic found.pair) ≡ true
  row_there has =
      let value = from_map (λ (row : explanation.ExplanationValue). row.pair) (full_report.rows_of report) found.pair has in
      let made = from_map explanation.explanation_value report.explained.rows.items value.0 value.1 in
      let pair : made.0.pair ≡ found.pair = ap (λ (one : explanation.ExplanationValue). one.pair) made.2 ∙ value.2 in
      let among = subst (Contains (map (λ (row : Explanation). row.pair) report.explained.rows.items)) pair (into_map (λ (row : Explanation). row.pair) report.explained.rows.items made.0 made.1) in
      let row = (pairs.each found.pair).0 (subst (λ (pairs : List Pair). Contains pairs found.pair) is.rows.rows.of_pairs among) in
      judged_there intake traffic directory.endpoints found.pair found.reliable (talk.is_unfit unfit found.pair) is_reliable_there row.judged

  row_back : judged (talk.is_unfit unfit found.pair) (talk.talks intake found.pair) found.reliable (talk.is_named traffic found.pair) ≡ true → laws.IsRowOf report found.pair
  row_back said =
      let row : row_pairs.IsRowPair asked intake traffic directory.endpoints found.pair = record { chosen = there.chosen; judged = judged_back intake traffic directory.endpoints found.pair found.reliable (talk.is_unfit unfit found.pair) is_listed said } in
      let among = subst (λ (pairs : List Pair). Contains pairs found.pair) (sym is.rows.rows.of_pairs) ((pairs.each found.pair).1 row) in
      let made = from_map (λ (row : Explanation). row.pair) report.explained.rows.items found.pair among in
      subst (Contains (map (λ (row : explanation.ExplanationValue). row.pair) (full_report.rows_of report))) made.2
      (into_map (λ (row : explanation.ExplanationValue). row.pair) (full_report.rows_of report) (explanation.explanation_value made.0) (into_map explanation.explanation_value report.explained.rows.items made.0 made.1))

  -- those that are told as not matching do not talk
  told_unfit : (talk.is_unfit report.talk.unmatched found.pair ≡ true) ↔ ((talk.is_unfit unfit found.pair ≡ true) × (not (talk.talks intake found.pair) ≡ true))
  told_unfit =
      subst (λ (those : List unmatched.UnmatchedValue). (talk.is_unfit those found.pair ≡ true) ↔ ((talk.is_unfit unfit found.pair ≡ true) × (not (talk.talks intake found.pair) ≡ true)))
      (sym (is.talks.unmatched ∙ ap (λ (of : directory_spec.DirectoryValue). filter (λ (one : unmatched.UnmatchedValue). not (talk.talks intake (unmatched.pair_of one))) (talk.unfit_in (talk.choice_of asked recording.datagrams of.endpoints) traffic of.endpoints)) same))
      (unfit_tested (λ pair. not (talk.talks intake pair)) unfit found.pair)

-- ---- exactly one

clash : (b : Bool) → b ≡ true → b ≡ false → ⊥
clash b is other = false≢true (sym other ∙ is)

is_on : (b : Bool) → not b ≡ true → b ≡ false
is_on false is = refl
is_on true is = absurd (false≢true is)

left_parts : (unfit fits named : Bool) → (not unfit && (fits && not named)) ≡ true → (unfit ≡ false) × (named ≡ false)
left_parts false true false is = (refl, refl)
left_parts true fits named is = absurd (false≢true is)
left_parts false false named is = absurd (false≢true is)
left_parts false true true is = absurd (false≢true is)

counted_parts : (reliable unfit fits named : Bool) → (not reliable && (not unfit && (fits && named))) ≡ true → (reliable ≡ false) × (unfit ≡ false) × (named ≡ true)
counted_parts false false true true is = (refl, refl, refl)
counted_parts true unfit fits named is = absurd (false≢true is)
counted_parts false true fits named is = absurd (false≢true is)
counted_parts false false false named is = absurd (false≢true is)
counted_parts false false true false is = absurd (false≢true is)

judged_parts : (unfit talking reliable named : Bool) → judged unfit talking reliable named ≡ true
    → ((unfit ≡ true) × (talking ≡ true)) ⊎ ((unfit ≡ false) × (reliable ≡ true) × (named ≡ true))
judged_parts true talking reliable named is = inl (refl, is)
judged_parts false talking reliable named is = let parts = both_parts reliable named is in inr (refl, parts.0, parts.1)

module _ (reliable unfit talking named fits : Bool) (Row Told : Type 0) (asked : fits ≡ true) (row : Row ↔ (judged unfit talking reliable named ≡ true)) (told : Told ↔ ((unfit ≡ true) × (not talking ≡ true))) where
  abbrev Left : Type 0
  Left = (not unfit && (fits && not named)) ≡ true

  abbrev Counted : Type 0
  Counted = (not reliable && (not unfit && (fits && named))) ≡ true

  row_alone : ((unfit ≡ true) × (talking ≡ true)) ⊎ ((unfit ≡ false) × (reliable ≡ true) × (named ≡ true)) → (¬ Told) × (¬ Left) × (¬ Counted)
  row_alone (inl is) = (
    λ second. clash talking is.1 (is_on talking (told.0 second).1),
    λ third. clash unfit is.0 (left_parts unfit fits named third).0,
    λ fourth. clash unfit is.0 (counted_parts reliable unfit fits named fourth).1,
  )
  row_alone (inr is) = (
    λ second. clash unfit (told.0 second).0 is.0,
    λ third. clash named is.2 (left_parts unfit fits named third).1,
    λ fourth. clash reliable is.1 (counted_parts reliable unfit fits named fourth).0,
  )

some : (reliable unfit talking named fits : Bool) → fits ≡ true
    → (judged unfit talking reliable named ≡ true)
    ⊎ (((unfit ≡ true) × (not talking ≡ true)) ⊎ (((not unfit && (fits && not named)) ≡ true) ⊎ ((not reliable && (not unfit && (fits && named))) ≡ true)))
some reliable unfit talking named false asked = absurd (false≢true asked)
some reliable true true named true asked = inl refl
some reliable true false named true asked = inr (inl (refl, refl))
some reliable false talking false true asked = inr (inr (inl refl))
some true false talking true true asked = inl refl
some false false talking true true asked = inr (inr (inr refl))

exactly : (reliable unfit talking named fits : Bool) (Row Told : Type 0) → fits ≡ true → Row ↔ (judged unfit talking reliable named ≡ true) → Told ↔ ((unfit ≡ true) × (not talking ≡ true))
    → laws.IsOneOf Row Told ((not unfit && (fits && not named)) ≡ true) ((not reliable && (not unfit && (fits && named))) ≡ true)
exactly reliable unfit talking named fits Row Told asked row told =
    record {
      some = by (some reliable unfit talking named fits asked);
      first_alone = λ first. row_alone reliable unfit talking named fits Row Told asked row told (judged_parts unfit talking reliable named (row.0 first));
      second_alone = λ second. (
        λ third. clash unfit (told.0 second).0 (left_parts unfit fits named third).0,
        λ fourth. clash unfit (told.0 second).0 (counted_parts reliable unfit fits named fourth).1,
      );
      third_alone = λ third fourth. clash named (counted_parts reliable unfit fits named fourth).2 (left_parts unfit fits named third).1;
    }
  where
    by : (judged unfit talking reliable named ≡ true)
        ⊎ (((unfit ≡ true) × (not talking ≡ true)) ⊎ (((not unfit && (fits && not named)) ≡ true) ⊎ ((not reliable && (not unfit && (fits && named))) ≡ true)))
        → Row ⊎ (Told ⊎ (((not unfit && (fits && not named)) ≡ true) ⊎ ((not reliable && (not unfit && (fits && named))) ≡ true)))
    by (inl first) = inl (row.1 first)
    by (inr (inl second)) = inr (inl (told.1 second))
    by (inr (inr rest)) = inr (inr rest)

pub each_match : AreListed → HasOneMap → laws.EachMatchIsTold
each_match listed unique asked other recording report directory found is there =
    let traffic = talk.traffic_of recording.datagrams in
    let chosen = talk.choice_of asked recording.datagrams directory.endpoints in
    exactly found.reliable (talk.is_unfit (talk.unfit_in chosen traffic directory.endpoints) found.pair) (talk.talks (recorded_samples.intake_as Fragments.Read recording.datagrams) found.pair) (talk.is_named traffic found.pair)
    (chosen (explanation.topic_of (directory_spec.settled_at directory.endpoints found.pair.writer)) found.pair)
    (laws.IsRowOf report found.pair) (talk.is_unfit report.talk.unmatched found.pair ≡ true) there.chosen
    (row_there listed unique asked other recording report directory found is there, row_back listed unique asked other recording report directory found is there)
    (told_unfit listed unique asked other recording report directory found is there)
