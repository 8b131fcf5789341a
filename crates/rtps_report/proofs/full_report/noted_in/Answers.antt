use Rattle.std.proofs.Common.{Bor, ◌≡◌, ◌∙◌, ℕ, List, ap, map, subst, sym}
use Rattle.rtps_audit.specs.Intake as intake_spec
use Rattle.rtps_audit.specs.Placed as placed_spec
use Rattle.rtps_audit.specs.declared.placed.Placed.{Placed}
use Rattle.rtps_discovery.specs.Directory as directory
use Rattle.rtps_evidence.specs.Times as times
use Rattle.rtps_fragments.specs.Announcements as announcements
use Rattle.rtps_fragments.specs.ReadDatagrams as read_datagrams
use Rattle.rtps_fragments.specs.RecordedSamples as recorded_samples
use Rattle.rtps_fragments.specs.declared.fragments.Fragments.{Fragments}
use Rattle.rtps_report.specs.Acquaintance as acquaintance
use Rattle.rtps_report.specs.Asked as asked
use Rattle.rtps_report.specs.Talk as talk_spec
use Rattle.rtps_report.proofs.AcquaintanceLemmas.{heard_all}
use Rattle.rtps_report.proofs.full_report.noted_in.Goals as goal

-- the octets of these datagrams
abbrev octets_in : List (Bor (List ℕ)) → List (List ℕ)
octets_in datagrams = map (λ datagram. datagram.now) datagrams

pub talk_in-requires : goal.talk_in-requires
talk_in-requires c =
    let then = c.times.ensures ∙ sym c.times-2.ensures in
    heard_all (octets_in c.deref-2.result.now) c.times-2.result.now.of_datagrams c.new-acquaintance.result c.index_told.new.listener (ap (λ (times : times.TimesValue). times.of_datagrams) (c.new-acquaintance.ensures.times ∙ then))
    (subst (λ (datagrams : List (List ℕ)). acquaintance.HasHeard c.new-acquaintance.result (read_datagrams.read_of Fragments.Read datagrams) c.index_told.new.listener) (ap octets_in (c.deref.ensures.value ∙ sym c.deref-2.ensures.value)) c.in_ok-indexed.ensures.heard)

pub returns : goal.returns
returns c = λ theirs held.
    let recording = c.args.inquiry.recording.now in
    let asked = asked.asked_value c.args.inquiry.asked.now in
    let indexed = c.in_ok-indexed.indexed in
    let talk = c.in_ok-talk.talk in
    let first : octets_in c.deref.result.now ≡ recording.datagrams = ap octets_in c.deref.ensures.value ∙ c.in_ok-datagrams.ensures in
    let second : octets_in c.deref-2.result.now ≡ recording.datagrams = ap octets_in c.deref-2.ensures.value ∙ c.in_ok-datagrams.ensures in
    let by_own = subst (λ (datagrams : List (List ℕ)). announcements.IsIndexedBy (recorded_samples.intake_as Fragments.Read datagrams) indexed) first c.in_ok-indexed.ensures.index in
    let by_second = subst (λ (datagrams : List (List ℕ)). announcements.IsIndexedBy (recorded_samples.intake_as Fragments.Read datagrams) indexed) (sym second) by_own in
    let intake = recorded_samples.intake_as Fragments.Read recording.datagrams in
    let there = c.directory.ensures (recorded_samples.intake_as Fragments.Read (octets_in c.deref-2.result.now)) by_second.index in
    let told = ap (λ (placed : List Placed). map placed_spec.placed_value placed) c.deref-3.ensures.value ∙ by_second.announcements in
    let same : c.directory.result.now ≡ indexed.index.directory =
    c.one_map.ensures.unique (intake_spec.acts_together intake.announcing) c.directory.result.now indexed.index.directory (c.directory.ensures intake by_own.index) by_own.index.directory in (
      by_own.index,
      subst (λ (datagrams : List (List ℕ)). talk_spec.IsTalkOf asked theirs datagrams recording.times (talk_spec.talk_value talk)) second
          (subst (λ (times : times.TimesValue). talk_spec.IsTalkOf asked theirs (octets_in c.deref-2.result.now) times (talk_spec.talk_value talk)) c.times-2.ensures (c.in_ok-talk.ensures.talks theirs (record { index = by_second.index; beside = held; directory = there; announcements = told }))),
      subst (λ (of : directory.DirectoryValue). talk_spec.IsKeptOf asked intake (talk_spec.traffic_of recording.datagrams) of.endpoints talk) same
          (subst (λ (datagrams : List (List ℕ)). talk_spec.IsKeptOf asked (recorded_samples.intake_as Fragments.Read datagrams) (talk_spec.traffic_of datagrams) c.directory.result.now.endpoints talk) second (c.in_ok-talk.ensures.kept theirs (record { index = by_second.index; beside = held; directory = there; announcements = told }))),
    )
