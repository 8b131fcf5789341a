-- What `list` notes: the announcements of a recording are all that its directory and its faults are by.
use Rattle.std.proofs.Common.{◌≡◌, ◌∙◌, ◌+◌, ◌++◌, ◌∷◌, [], ℕ, Bool, true, false, cond, List, ap, arith, filter, filter_map, if◌then◌else◌, map, refl, subst, sym}
use Rattle.std.proofs.lemmas.List.Sums.{sum_by-append, sum_by-cons}
use Rattle.rtps_audit.specs.Placed as placed_spec
use Rattle.rtps_discovery.specs.Directory as directory_spec
use Rattle.rtps_discovery.specs.Notice as notice
use Rattle.rtps_fragments.specs.Announcements as announcements
use Rattle.rtps_receiver.specs.Values as values
use Rattle.rtps_audit.specs.Intake as intake
use Rattle.rtps_report.proofs.Offered.{acts_behind, says_nothing, told_alone}

-- the acts of these
abbrev pub acts_of_placed : List placed_spec.PlacedValue → List values.ActValue
acts_of_placed placed = map (λ (one : placed_spec.PlacedValue). one.act) placed

pub faults_in-append : (acts more : List values.ActValue) → notice.faults_in (acts ++ more) ≡ notice.faults_in acts + notice.faults_in more
faults_in-append acts more = sum_by-append (λ act. if notice.is_fault (notice.answer_of (notice.announcement_of act)) then 1 else 0) acts more

faults_more : (act : values.ActValue) (acts : List values.ActValue) → notice.faults_in (act ∷ acts) ≡ cond (notice.is_fault (notice.answer_of (notice.announcement_of act))) 1 0 + notice.faults_in acts
faults_more act acts = sum_by-cons (λ (one : values.ActValue). if notice.is_fault (notice.answer_of (notice.announcement_of one)) then 1 else 0) act acts

no_fault : (act : values.ActValue) → announcements.is_of_built_in act.body ≡ false → notice.is_fault (notice.answer_of (notice.announcement_of act)) ≡ false
no_fault act other = ap (λ said. notice.is_fault (notice.answer_of said)) (says_nothing act other)

faults_kept : (placed : List placed_spec.PlacedValue) → notice.faults_in (acts_of_placed (filter announcements.is_announcement placed)) ≡ notice.faults_in (acts_of_placed placed)
faults_kept [] = refl
faults_kept (one ∷ placed) = by (announcements.is_of_built_in one.act.body) refl (faults_kept placed)
  where
    rest : List values.ActValue
    rest = acts_of_placed placed

    by : (is : Bool) → announcements.is_of_built_in one.act.body ≡ is → notice.faults_in (acts_of_placed (filter announcements.is_announcement placed)) ≡ notice.faults_in (acts_of_placed placed)
        → notice.faults_in (acts_of_placed (cond is (one ∷ filter announcements.is_announcement placed) (filter announcements.is_announcement placed))) ≡ notice.faults_in (one.act ∷ acts_of_placed placed)
    by true is same =
        faults_more one.act (acts_of_placed (filter announcements.is_announcement placed)) ∙ ap (λ n. cond (notice.is_fault (notice.answer_of (notice.announcement_of one.act))) 1 0 + n) same
        ∙ sym (faults_more one.act (acts_of_placed placed))
    by false is same =
        let one_if : Bool → ℕ = λ b. cond b 1 0 in
        let none : one_if (notice.is_fault (notice.answer_of (notice.announcement_of one.act))) ≡ one_if false = ap one_if (no_fault one.act is) in
        omega (arith, same, faults_more one.act (acts_of_placed placed), none)

-- as many have a fault as among all acts
pub faults_alone : (datagrams : List (List values.ActValue)) → notice.faults_in (acts_of_placed (announcements.announcements_in datagrams)) ≡ notice.faults_in (intake.acts_together datagrams)
faults_alone datagrams = faults_kept (placed_spec.placed_in datagrams) ∙ ap notice.faults_in (acts_behind 0 datagrams)

-- and their map is that of all
pub map_alone : (datagrams : List (List values.ActValue)) (directory : directory_spec.DirectoryValue) → directory_spec.IsMapOf (acts_of_placed (announcements.announcements_in datagrams)) directory → directory_spec.IsMapOf (intake.acts_together datagrams) directory
unfolding notice.participants_among notice.endpoints_among
map_alone datagrams directory is =
    let participant = λ (act : values.ActValue). notice.participant_in (notice.announcement_of act) in
    let endpoint = λ (act : values.ActValue). notice.endpoint_in (notice.announcement_of act) in
    record {
      participants = subst (λ guids. directory_spec.AreParticipants guids directory.participants)
          (told_alone participant (λ act other. ap notice.participant_in (says_nothing act other)) (placed_spec.placed_in datagrams) ∙ ap (filter_map participant) (acts_behind 0 datagrams)) is.participants;
      endpoints = subst (λ endpoints. directory_spec.AreEntries endpoints directory.endpoints)
          (told_alone endpoint (λ act other. ap notice.endpoint_in (says_nothing act other)) (placed_spec.placed_in datagrams) ∙ ap (filter_map endpoint) (acts_behind 0 datagrams)) is.endpoints;
    }
