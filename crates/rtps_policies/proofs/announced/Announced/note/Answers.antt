use Rattle.std.proofs.Common.{◌++◌, ◌∷◌, [], List, refl}
use Rattle.rtps_receiver.specs.Values as values
use Rattle.rtps_policies.specs.Announcing as announcing
use Rattle.rtps_policies.specs.Told as told
use Rattle.rtps_policies.proofs.TableLemmas.{endpoint_noted, nothing_noted, on_ok, participant_noted}
use Rattle.rtps_policies.proofs.announced.Announced.note.Goals as goal

pub returns-in-Some-clause-ok : goal.returns-in-Some-clause-ok
returns-in-Some-clause-ok c =
    on_ok (told.KeepsFirst c.args.self.now.policies.entries c.keep_first.new.kept.entries c.in-Some.guid c.in-Some.policies)
    ((acts : List values.ActValue) → announcing.IsAnnouncedBy acts c.args.self.now → announcing.IsAnnouncedBy (acts ++ values.spoken_value c.args.act.now ∷ []) (record c.args.self.now { policies = c.keep_first.new.kept }))
    c.keep_first.result
    (λ kept acts were. endpoint_noted acts (values.spoken_value c.args.act.now) c.args.self.now (record c.args.self.now { policies = c.keep_first.new.kept }) c.in-Some.guid c.in-Some.policies c.in-Some.ensures kept refl were)
    c.keep_first.ensures.ok

pub returns-in-Some-participant_told-clause-ok : goal.returns-in-Some-participant_told-clause-ok
returns-in-Some-participant_told-clause-ok c =
    on_ok (told.KeepsFirst c.args.self.now.hosts.entries c.keep_first-in-Some-participant_told.new.kept.entries c.in-Some-participant_told.guid c.in-Some-participant_told.host)
    ((acts : List values.ActValue) → announcing.IsAnnouncedBy acts c.args.self.now → announcing.IsAnnouncedBy (acts ++ values.spoken_value c.args.act.now ∷ []) (record c.args.self.now { hosts = c.keep_first-in-Some-participant_told.new.kept }))
    c.keep_first-in-Some-participant_told.result
    (λ kept acts were. participant_noted acts (values.spoken_value c.args.act.now) c.args.self.now (record c.args.self.now { hosts = c.keep_first-in-Some-participant_told.new.kept }) c.in-Some-participant_told.guid c.in-Some-participant_told.host
    c.in_default.ensures c.in-Some-participant_told.ensures refl kept were)
    c.keep_first-in-Some-participant_told.ensures.ok

pub returns-in-None-clause-ok : goal.returns-in-None-clause-ok
returns-in-None-clause-ok c = λ acts were. nothing_noted acts (values.spoken_value c.args.act.now) c.args.self.now c.in_default.ensures c.in-None.ensures were
