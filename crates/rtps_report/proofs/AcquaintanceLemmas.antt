-- Who heard of each datagram of a recording knows who knows whom in it.
use Rattle.std.proofs.Common.{◌≡◌, ℕ, List, Option, subst}
use Rattle.rtps_fragments.specs.ReadDatagrams as read_datagrams
use Rattle.rtps_fragments.specs.RecordedSamples as recorded_samples
use Rattle.rtps_fragments.specs.declared.fragments.Fragments.{Fragments}
use Rattle.rtps_known.specs.Matched as matched
use Rattle.rtps_known.specs.Places as places
use Rattle.rtps_known.specs.Recorded as recorded
use Rattle.rtps_known.specs.Tellings as tellings
use Rattle.rtps_policies.specs.Namings as namings
use Rattle.rtps_receiver.specs.Values as values
use Rattle.rtps_report.specs.Acquaintance as acquaintance
use Rattle.rtps_report.specs.declared.acquaintance.Acquaintance.{Acquaintance}
use Rattle.rtps_report.proofs.MatchingLemmas.{acts_from, placed_all, timed_from}

pub heard_all : (recording : List (List ℕ)) (times : List (Option ℕ)) (start kept : Acquaintance) → start.times.now.of_datagrams ≡ times → acquaintance.HasHeard start (read_datagrams.read_of Fragments.Read recording) kept
    → acquaintance.IsAcquaintanceOf recording times kept
heard_all recording times start kept then is =
    let came = start.times.now.of_datagrams in
    let announcing = (recorded_samples.intake_as Fragments.Read recording).announcing in
    subst (λ (times : List (Option ℕ)). acquaintance.IsAcquaintanceOf recording times kept) then
    (record {
      namings = subst (λ (all : List (List values.ActValue)). namings.AreNamingsOf all kept.namings) (acts_from 0 recording announcing) is.namings;
      known = subst (λ (acts : List tellings.TimedAct). recorded.IsKnownOf acts kept.known) (timed_from came 0 recording announcing) is.known;
      matches = subst (λ (acts : List places.PlacedAct). matched.AreMatchesOf acts kept.matches) (placed_all came recording announcing) is.matches;
    })
