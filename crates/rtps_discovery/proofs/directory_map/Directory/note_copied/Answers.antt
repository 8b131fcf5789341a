use Rattle.std.proofs.Common.{[], ◌∷◌, ◌++◌, refl, sym, ap, ◌∙◌, Some, None, Ok, Err}
use Rattle.rtps_discovery.proofs.MapLaws.{entry_there, one_map, participant_there, repeated}
use Rattle.rtps_discovery.specs.Directory as directory
use Rattle.rtps_discovery.specs.Notice as notice_spec
use Rattle.rtps_receiver.specs.Values as values
use Rattle.rtps_discovery.specs.Endpoint as endpoint
use Rattle.rtps_discovery.proofs.MapSteps.{announces_endpoint, announces_nothing, announces_participant, map_step}
use Rattle.rtps_discovery.proofs.directory_map.Directory.note_copied.Goals as goal

pub returns-in_default-clause-map : goal.returns-in_default-clause-map
returns-in_default-clause-map c = λ acts were.
    map_step acts (values.spoken_value c.args.act.now) None _ _ (announces_nothing (values.spoken_value c.args.act.now) c.in_default.ensures) refl were

pub returns-in_ok-keep_participant-in-Ok-clause-map : goal.returns-in_ok-keep_participant-in-Ok-clause-map
returns-in_ok-keep_participant-in-Ok-clause-map c = λ acts were.
    let notice = rw c.in-Participant.is at c.in-Some.ensures in
    map_step acts (values.spoken_value c.args.act.now) (Some (Ok (notice_spec.Announced.Participant c.in-Ok.guid))) _ _
    (announces_participant (values.spoken_value c.args.act.now) c.in-Some.payload.now _ notice c.in-Ok.ensures)
    (c.in_ok-keep_participant-in-Ok.ensures.ok, refl) (rw c.self.view_is were)

pub returns-in-Err-clause-map : goal.returns-in-Err-clause-map
returns-in-Err-clause-map c = λ acts were.
    let notice = rw c.in-Participant.is at c.in-Some.ensures in
    map_step acts (values.spoken_value c.args.act.now) (Some (Err c.in-Err.fault)) _ _
    (announces_participant (values.spoken_value c.args.act.now) c.in-Some.payload.now _ notice c.in-Err.ensures) refl were

pub returns-in_ok-keep_copied-in-Ok-read_endpoint-clause-map : goal.returns-in_ok-keep_copied-in-Ok-read_endpoint-clause-map
returns-in_ok-keep_copied-in-Ok-read_endpoint-clause-map c = λ acts were.
    let notice = rw c.in-Endpoint.is at c.in-Some.ensures in
    map_step acts (values.spoken_value c.args.act.now) (Some (Ok (notice_spec.Announced.Endpoint (endpoint.endpoint_value c.in-Ok-read_endpoint.endpoint)))) _ _
    (announces_endpoint (values.spoken_value c.args.act.now) c.in-Endpoint.side c.in-Some.payload.now _ notice c.in-Ok-read_endpoint.ensures)
    (c.in_ok-keep_copied-in-Ok-read_endpoint.ensures.ok, refl) (rw c.self.view_is were)

pub returns-in-Err-read_endpoint-clause-map : goal.returns-in-Err-read_endpoint-clause-map
returns-in-Err-read_endpoint-clause-map c = λ acts were.
    let notice = rw c.in-Endpoint.is at c.in-Some.ensures in
    map_step acts (values.spoken_value c.args.act.now) (Some (Err c.in-Err-read_endpoint.fault)) _ _
    (announces_endpoint (values.spoken_value c.args.act.now) c.in-Endpoint.side c.in-Some.payload.now _ notice c.in-Err-read_endpoint.ensures) refl were

pub returns-in_ok-keep_participant-in-Ok-clause-again : goal.returns-in_ok-keep_participant-in-Ok-clause-again
returns-in_ok-keep_participant-in-Ok-clause-again c = λ acts were seen.
    let act = values.spoken_value c.args.act.now in
    let notice = rw c.in-Participant.is at c.in-Some.ensures in
    let said = announces_participant act c.in-Some.payload.now _ notice c.in-Ok.ensures in (
      ap (λ x. Ok (notice_spec.answer_of x)) (sym said),
      one_map (acts ++ act ∷ []) _ c.args.self.now (returns-in_ok-keep_participant-in-Ok-clause-map c acts were) ((repeated acts act c.args.self.now seen).0 were),
    )

pub returns-in_ok-keep_copied-in-Ok-read_endpoint-clause-again : goal.returns-in_ok-keep_copied-in-Ok-read_endpoint-clause-again
returns-in_ok-keep_copied-in-Ok-read_endpoint-clause-again c = λ acts were seen.
    let act = values.spoken_value c.args.act.now in
    let notice = rw c.in-Endpoint.is at c.in-Some.ensures in
    let said = announces_endpoint act c.in-Endpoint.side c.in-Some.payload.now _ notice c.in-Ok-read_endpoint.ensures in (
      ap (λ x. Ok (notice_spec.answer_of x)) (sym said),
      one_map (acts ++ act ∷ []) _ c.args.self.now (returns-in_ok-keep_copied-in-Ok-read_endpoint-clause-map c acts were) ((repeated acts act c.args.self.now seen).0 were),
    )

pub returns-in_err-keep_participant-in-Ok-clause-again : goal.returns-in_err-keep_participant-in-Ok-clause-again
returns-in_err-keep_participant-in-Ok-clause-again c = λ acts were seen.
    let act = values.spoken_value c.args.act.now in
    let notice = rw c.in-Participant.is at c.in-Some.ensures in
    absurd (c.in_err-keep_participant-in-Ok.ensures.absent
    (rw (ap (λ (directory : directory.DirectoryValue). directory.participants) c.self.view_is) (participant_there acts seen.first c.in-Ok.guid c.args.self.now were seen.is_among (sym seen.says_the_same ∙ announces_participant act c.in-Some.payload.now _ notice c.in-Ok.ensures))))

pub returns-in_err-keep_copied-in-Ok-read_endpoint-clause-again : goal.returns-in_err-keep_copied-in-Ok-read_endpoint-clause-again
returns-in_err-keep_copied-in-Ok-read_endpoint-clause-again c = λ acts were seen.
    let act = values.spoken_value c.args.act.now in
    let notice = rw c.in-Endpoint.is at c.in-Some.ensures in
    absurd (entry_there acts seen.first (endpoint.endpoint_value c.in-Ok-read_endpoint.endpoint) c.args.self.now were seen.is_among (sym seen.says_the_same ∙ announces_endpoint act c.in-Endpoint.side c.in-Some.payload.now _ notice c.in-Ok-read_endpoint.ensures)
    (rw (← c.self.view_is) c.in_err-keep_copied-in-Ok-read_endpoint.ensures.absent))
