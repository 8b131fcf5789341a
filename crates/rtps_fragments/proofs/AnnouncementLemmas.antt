-- The acts of a recording that may announce something, with one datagram more.
use Rattle.std.proofs.lemmas.Grind.{common_steps}
use Rattle.std.proofs.lemmas.Bool.Decides.{nat_tests}
use Rattle.std.proofs.Common.{◌≡◌, ◌∙◌, ℕ, ◌+◌, List, [], ◌∷◌, ◌++◌, drop, filter, length, map, sym, ap, arith}
use Rattle.std.proofs.lemmas.List.Elements.{filter-append}
use Rattle.rtps_wire.specs.declared.counts.Tally.{Tally}
use Rattle.rtps_receiver.specs.Values as values
use Rattle.rtps_audit.specs.Index as index
use Rattle.rtps_audit.specs.Intake as intake_spec
use Rattle.rtps_audit.specs.Placed as placed
use Rattle.rtps_audit.specs.declared.placed.Placed.{Placed}
use Rattle.rtps_audit.proofs.Offered.{placed_push}
use Rattle.rtps_fragments.specs.Announcements as announcements
use Rattle.rtps_fragments.specs.declared.announcements.Indexed.{Indexed}

-- those of one datagram
abbrev pub announcements_at : ℕ → List values.ActValue → List placed.PlacedValue
announcements_at datagram acts = filter announcements.is_announcement (placed.placed_at datagram acts)

datagram_next : (recording : List (List values.ActValue)) (acts : List values.ActValue) (place : ℕ) → place ≡ length recording
    → announcements.announcements_in (recording ++ acts ∷ []) ≡ announcements.announcements_in recording ++ announcements_at (place + 1) acts
datagram_next recording acts place at = ap (filter announcements.is_announcement) (sym (placed_push recording acts place at)) ∙ filter-append announcements.is_announcement (placed.placed_in recording) (placed.placed_at (place + 1) acts)

-- what is indexed, with one datagram more
pub indexed_more : (intake : intake_spec.Intake) (tally : Tally) (acts announcing : List values.ActValue) (old new : Indexed) (datagram : ℕ) → datagram ≡ length intake.announcing + 1 → announcements.IsIndexedBy intake old
    → index.IsIndexBy (intake_spec.intake_more intake tally acts announcing) new.index → map placed.placed_value new.announcements.items ≡ map placed.placed_value old.announcements.items ++ announcements_at datagram announcing
    → announcements.IsIndexedBy (intake_spec.intake_more intake tally acts announcing) new
indexed_more intake tally acts announcing old new datagram number was is found = grind (arith, nat_tests, common_steps, datagram_next)

-- what was found is what stands behind what was there
pub found_behind : (old new : List Placed) (found : List placed.PlacedValue) → map placed.placed_value new ≡ map placed.placed_value old ++ found → map placed.placed_value (drop (length old) new) ≡ found
found_behind [] new found grown = grown
found_behind (one ∷ old) [] found grown = absurd (let clash = ap length grown in omega (arith, clash))
found_behind (one ∷ old) (other ∷ new) found grown = found_behind old new found (ap (drop 1) grown)
