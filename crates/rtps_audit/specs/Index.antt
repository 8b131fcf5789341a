-- What an index is of. own: all that is asked of a recording is found by one walk over it.
use Rattle.std.specs.Prelude.{ℕ, ◌≡◌, List, filter, length, map}
use Rattle.rtps_ids.specs.declared.identity.Guid.{Guid}
use Rattle.rtps_discovery.specs.Directory as directory
use Rattle.rtps_discovery.specs.GuidOrder as guid_order
use Rattle.rtps_discovery.specs.declared.matching.Pair.{Pair}
use Rattle.rtps_audit.specs.Placed as placed
use Rattle.rtps_audit.specs.Intake as intake_spec
use Rattle.rtps_audit.specs.Report as report
use Rattle.rtps_audit.specs.declared.index.Index.{Index}
use Rattle.rtps_audit.specs.declared.report.Counts.{Counts}
use Rattle.rtps_audit.specs.declared.tallies.Tallies.{Tallies}

-- the counts by these sums, where so many GUIDs are unsettled
abbrev pub counts_with : Tallies → ℕ → Counts
counts_with tallies unsettled =
    record {
      datagrams = tallies.datagrams;
      refused = tallies.refused;
      skipped = tallies.skipped;
      fragments = tallies.fragments;
      undirected = tallies.undirected;
      unsettled = unsettled;
    }

-- The index has taken in this, and no more. What is announced stands in as many datagrams as what is said.
pub record IsIndexBy (intake : intake_spec.Intake) (index : Index) : Type 0 where
  pub acts : (origin : Guid) → map placed.placed_value (placed.values_at guid_order.guid_cmp index.acts.map origin) ≡ filter (placed.is_from origin) (placed.placed_in intake.acts)
  pub answers : (pair : Pair) → placed.answers_kept index.answers.readers pair ≡ placed.answers_among pair (placed.placed_in intake.acts)
  pub even : length intake.announcing ≡ length intake.acts
  pub announced : (guid : Guid) → placed.values_at guid_order.guid_cmp index.announced.map guid ≡ placed.announced_among guid (placed.placed_in intake.announcing)
  pub directory : directory.IsMapOf (intake_spec.acts_together intake.announcing) index.directory
  pub counts : (unsettled : ℕ) → counts_with index.tallies unsettled ≡ report.counts_of intake unsettled

-- the index is of this recording, which is the octets of its datagrams in the order of sending
abbrev pub IsIndexOf : List (List ℕ) → Index → Type 0
IsIndexOf recording index = IsIndexBy (intake_spec.intake_of recording) index
