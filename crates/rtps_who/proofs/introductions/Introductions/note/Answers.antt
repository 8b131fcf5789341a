use Rattle.std.proofs.Common.{◌++◌, ◌∷◌, [], List, refl}
use Rattle.rtps_receiver.specs.Values as values
use Rattle.rtps_discovery.specs.Endpoint as endpoint
use Rattle.rtps_who.specs.Introducing as introducing
use Rattle.rtps_policies.specs.Told as told
use Rattle.rtps_who.proofs.TableLemmas.{endpoint_noted, nothing_noted, on_ok, participant_noted}
use Rattle.rtps_who.proofs.introductions.Introductions.note.Goals as goal

pub returns-in-Some : goal.returns-in-Some
returns-in-Some c =
    on_ok (introducing.KeepsEndpoint c.args.self.now c.note_endpoint.new.self (endpoint.endpoint_value c.in-Some.endpoint))
    ((acts : List values.ActValue) → introducing.IsIntroducedBy acts c.args.self.now → introducing.IsIntroducedBy (acts ++ values.spoken_value c.args.act.now ∷ []) c.note_endpoint.new.self)
    c.note_endpoint.result
    (λ kept acts were. endpoint_noted acts (values.spoken_value c.args.act.now) c.args.self.now c.note_endpoint.new.self (endpoint.endpoint_value c.in-Some.endpoint) c.in-Some.ensures kept were)
    c.note_endpoint.ensures

pub returns-in-Some-process_told : goal.returns-in-Some-process_told
returns-in-Some-process_told c =
    on_ok (told.KeepsFirst c.args.self.now.processes.entries c.keep_first.new.kept.entries c.in-Some-process_told.guid c.in-Some-process_told.process)
    ((acts : List values.ActValue) → introducing.IsIntroducedBy acts c.args.self.now → introducing.IsIntroducedBy (acts ++ values.spoken_value c.args.act.now ∷ []) (record c.args.self.now { processes = c.keep_first.new.kept }))
    c.keep_first.result
    (λ kept acts were. participant_noted acts (values.spoken_value c.args.act.now) c.args.self.now (record c.args.self.now { processes = c.keep_first.new.kept }) c.in-Some-process_told.guid c.in-Some-process_told.process
    c.in_default.ensures c.in-Some-process_told.ensures kept refl refl were)
    c.keep_first.ensures.ok

pub returns-in-None : goal.returns-in-None
returns-in-None c = λ acts were. nothing_noted acts (values.spoken_value c.args.act.now) c.args.self.now c.in_default.ensures c.in-None.ensures were
