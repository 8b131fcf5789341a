use Rattle.std.proofs.Common.{◌≡◌, ◌∙◌, ◌++◌, List, ap, arith, map, subst, sym}
use Rattle.std.specs.List.{flat_map}
use Rattle.std.proofs.lemmas.List.{length-map, map_push}
use Rattle.rtps_evidence.specs.Times as times_spec
use Rattle.rtps_fragments.specs.ReadDatagrams as read_datagrams
use Rattle.rtps_known.specs.Matched as matched
use Rattle.rtps_known.specs.Places as places
use Rattle.rtps_known.specs.Recorded as recorded
use Rattle.rtps_known.specs.Tellings as tellings
use Rattle.rtps_policies.specs.Namings as namings
use Rattle.rtps_receiver.specs.Values as values
use Rattle.rtps_report.specs.Acquaintance as acquaintance
use Rattle.rtps_report.specs.ActsRead as acts_read
use Rattle.rtps_report.specs.MatchingActs as matching_acts
use Rattle.rtps_report.specs.declared.acquaintance.Came.{Came}
use Rattle.rtps_report.proofs.MatchingLemmas.{flat_map_push}
use Rattle.rtps_report.proofs.NamingWalkLemmas.{few_heard}
use Rattle.rtps_report.proofs.acquaintance.AcquaintanceListen.hear.Goals as goal

pub note-requires : goal.note-requires
note-requires c = λ naming.
    let (start, before, was, number) = c.requires in
    let few = few_heard (map (λ (read : read_datagrams.ReadDatagramValue). read.acts) before) c.args.self.now.namings naming was.namings in
    let size = length-map before (λ (read : read_datagrams.ReadDatagramValue). read.acts) in
    omega (arith, few, size, number)

pub returns : goal.returns
returns c = λ start before was.
    let read = read_datagrams.read_datagram_value c.args.read.now in
    let times = start.times.now.of_datagrams in
    let came : c.came_as-came.result ≡ matching_acts.came_as times read.datagram = c.came_as-came.ensures ∙ ap (λ (then : times_spec.TimesValue). matching_acts.came_as then.of_datagrams read.datagram) was.times in
    record {
      times = was.times;
      namings = subst (λ (all : List (List values.ActValue)). namings.AreNamingsOf all c.note.new.self) (sym (map_push (λ (one : read_datagrams.ReadDatagramValue). one.acts) before read))
          (c.in_ok-note.ensures (map (λ (one : read_datagrams.ReadDatagramValue). one.acts) before) was.namings);
      known = subst (λ (acts : List tellings.TimedAct). recorded.IsKnownOf acts c.note_known.new.known)
          (ap (λ (came : Came). flat_map (acquaintance.timed_heard times) before ++ acts_read.acts_at came.time read.acts) came ∙ sym (flat_map_push (acquaintance.timed_heard times) before read))
          (c.in_ok-note_known.ensures (flat_map (acquaintance.timed_heard times) before) was.known);
      matches = subst (λ (acts : List places.PlacedAct). matched.AreMatchesOf acts c.note_matches.new.matches)
          (ap (λ (came : Came). flat_map (acquaintance.placed_heard times) before ++ acquaintance.acts_heard came read.announcements read.acts) came ∙ sym (flat_map_push (acquaintance.placed_heard times) before read))
          (c.in_ok-note_matches.ensures (flat_map (acquaintance.placed_heard times) before) was.matches);
    }
