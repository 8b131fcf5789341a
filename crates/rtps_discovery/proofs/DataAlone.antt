-- Only DATA are announcements.
use Rattle.std.proofs.Common.{◌≡◌, List, [], ◌∷◌, ◌++◌, ◌+◌, cond, refl, ap, sym, ◌∙◌, subst}
use Rattle.std.proofs.lemmas.List.Elements.{filter_map-append}
use Rattle.std.proofs.lemmas.List.Sums.{sum_by-cons}
use Rattle.rtps_receiver.specs.Acts as acts_spec
use Rattle.rtps_receiver.specs.Values as values
use Rattle.rtps_discovery.specs.Directory as directory
use Rattle.rtps_discovery.specs.Notice as notice

participants_alone : (acts : List values.ActValue) → notice.participants_among (acts_spec.data_among acts) ≡ notice.participants_among acts
unfolding notice.participants_among
participants_alone [] = refl
participants_alone (act ∷ acts) = by_body act.body refl (participants_alone acts)
  where
    by_body : (body : values.ActBodyValue) → act.body ≡ body → notice.participants_among (acts_spec.data_among acts) ≡ notice.participants_among acts
        → notice.participants_among (acts_spec.data_among (act ∷ acts)) ≡ notice.participants_among (act ∷ acts)
    by_body (values.ActBodyValue.Data value) is rest = rw is (rw rest refl)
    by_body (values.ActBodyValue.Heartbeat value) is rest = rw is rest
    by_body (values.ActBodyValue.AckNack value) is rest = rw is rest
    by_body (values.ActBodyValue.Gap value) is rest = rw is rest
    by_body (values.ActBodyValue.DataFrag value) is rest = rw is rest
    by_body (values.ActBodyValue.NackFrag value) is rest = rw is rest

endpoints_alone : (acts : List values.ActValue) → notice.endpoints_among (acts_spec.data_among acts) ≡ notice.endpoints_among acts
unfolding notice.endpoints_among
endpoints_alone [] = refl
endpoints_alone (act ∷ acts) = by_body act.body refl (endpoints_alone acts)
  where
    by_body : (body : values.ActBodyValue) → act.body ≡ body → notice.endpoints_among (acts_spec.data_among acts) ≡ notice.endpoints_among acts
        → notice.endpoints_among (acts_spec.data_among (act ∷ acts)) ≡ notice.endpoints_among (act ∷ acts)
    by_body (values.ActBodyValue.Data value) is rest = rw is (rw rest refl)
    by_body (values.ActBodyValue.Heartbeat value) is rest = rw is rest
    by_body (values.ActBodyValue.AckNack value) is rest = rw is rest
    by_body (values.ActBodyValue.Gap value) is rest = rw is rest
    by_body (values.ActBodyValue.DataFrag value) is rest = rw is rest
    by_body (values.ActBodyValue.NackFrag value) is rest = rw is rest

counted : (act : values.ActValue) (acts : List values.ActValue) → notice.faults_in (act ∷ acts) ≡ cond (notice.is_fault (notice.answer_of (notice.announcement_of act))) 1 0 + notice.faults_in acts
counted = sum_by-cons (λ act. cond (notice.is_fault (notice.answer_of (notice.announcement_of act))) 1 0)

pub faults_alone : (acts : List values.ActValue) → notice.faults_in (acts_spec.data_among acts) ≡ notice.faults_in acts
faults_alone [] = refl
faults_alone (act ∷ acts) = by_body act.body refl (faults_alone acts)
  where
    by_body : (body : values.ActBodyValue) → act.body ≡ body → notice.faults_in (acts_spec.data_among acts) ≡ notice.faults_in acts
        → notice.faults_in (acts_spec.data_among (act ∷ acts)) ≡ notice.faults_in (act ∷ acts)
    by_body (values.ActBodyValue.Data value) is rest =
        let first : acts_spec.data_among (act ∷ acts) ≡ act ∷ acts_spec.data_among acts = ap (λ body. cond (acts_spec.is_data body) (act ∷ acts_spec.data_among acts) (acts_spec.data_among acts)) is in
        ap notice.faults_in first ∙ counted act (acts_spec.data_among acts) ∙ ap (λ n. cond (notice.is_fault (notice.answer_of (notice.announcement_of act))) 1 0 + n) rest ∙ sym (counted act acts)
    by_body (values.ActBodyValue.Heartbeat value) is rest = rw is rest
    by_body (values.ActBodyValue.AckNack value) is rest = rw is rest
    by_body (values.ActBodyValue.Gap value) is rest = rw is rest
    by_body (values.ActBodyValue.DataFrag value) is rest = rw is rest
    by_body (values.ActBodyValue.NackFrag value) is rest = rw is rest

-- acts noted behind others make the map that their DATA make
pub map_alone : (before acts : List values.ActValue) (map : directory.DirectoryValue) → directory.IsMapOf (before ++ acts_spec.data_among acts) map → directory.IsMapOf (before ++ acts) map
unfolding notice.participants_among notice.endpoints_among
map_alone before acts map is =
    record {
      participants = subst (λ guids. directory.AreParticipants guids map.participants)
          (filter_map-append (λ act. notice.participant_in (notice.announcement_of act)) before (acts_spec.data_among acts)
          ∙ ap (λ more. notice.participants_among before ++ more) (participants_alone acts)
          ∙ sym (filter_map-append (λ act. notice.participant_in (notice.announcement_of act)) before acts)) is.participants;
      endpoints = subst (λ found. directory.AreEntries found map.endpoints)
          (filter_map-append (λ act. notice.endpoint_in (notice.announcement_of act)) before (acts_spec.data_among acts)
          ∙ ap (λ more. notice.endpoints_among before ++ more) (endpoints_alone acts)
          ∙ sym (filter_map-append (λ act. notice.endpoint_in (notice.announcement_of act)) before acts)) is.endpoints;
    }
