use Rattle.std.proofs.Common.{◌≡◌, ◌∙◌, Bor, ℕ, List, ap, map, subst}
use Rattle.std.proofs.lemmas.Result.{IfOk-weaker, on_ok_weaker}
use Rattle.rtps_audit.specs.Placed as placed_spec
use Rattle.rtps_audit.specs.declared.placed.Placed.{Placed}
use Rattle.rtps_discovery.specs.Directory as directory_spec
use Rattle.rtps_discovery.specs.Notice as notice
use Rattle.rtps_fragments.specs.Announcements as announcements
use Rattle.rtps_receiver.specs.Values as values
use Rattle.rtps_fragments.specs.declared.fragments.Fragments.{Fragments}
use Rattle.rtps_fragments.specs.RecordedSamples as recorded_samples
use Rattle.rtps_text.proofs.ListLemmas.{acts_of_placed, faults_alone, map_alone}
use Rattle.rtps_text.proofs.text.list_text.note_samples.Goals as goal

-- the acts that are noted
abbrev told : List (List ℕ) → List values.ActValue
told datagrams = acts_of_placed (announcements.announcements_in (recorded_samples.intake_as Fragments.Read datagrams).announcing)

pub returns-clause-map : goal.returns-clause-map
returns-clause-map c =
    let read = ap (λ (datagrams : List (Bor (List ℕ))). map (λ datagram. datagram.now) datagrams) c.deref.ensures.value ∙ c.in_ok-datagrams.ensures in
    let same = ap (λ (placed : List Placed). acts_of_placed (map placed_spec.placed_value placed)) c.deref-2.ensures.value
    ∙ ap acts_of_placed c.in_ok-indexed.ensures.announcements ∙ ap told read in
    let directory = c.note_announcements.new.directory in
    on_ok_weaker c.note_announcements.result
    (λ noted. map_alone (recorded_samples.intake_as Fragments.Read c.args.recording.now.datagrams).announcing directory (subst (λ (acts : List values.ActValue). directory_spec.IsMapOf acts directory) same noted))
    c.note_announcements.ensures.map

pub returns-clause-faults : goal.returns-clause-faults
returns-clause-faults c =
    let read = ap (λ (datagrams : List (Bor (List ℕ))). map (λ datagram. datagram.now) datagrams) c.deref.ensures.value ∙ c.in_ok-datagrams.ensures in
    let same = ap (λ (placed : List Placed). acts_of_placed (map placed_spec.placed_value placed)) c.deref-2.ensures.value
    ∙ ap acts_of_placed c.in_ok-indexed.ensures.announcements ∙ ap told read in
    IfOk-weaker c.note_announcements.result _ _
    (λ (faults : ℕ) is. is ∙ ap notice.faults_in same ∙ faults_alone (recorded_samples.intake_as Fragments.Read c.args.recording.now.datagrams).announcing) c.note_announcements.ensures.faults
