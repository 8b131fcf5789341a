use Rattle.std.proofs.Common.{refl}
use Rattle.rtps_discovery.specs.Endpoint as endpoint
use Rattle.rtps_who.specs.Introducing as introducing
use Rattle.rtps_who.proofs.TableLemmas.{on_ok}
use Rattle.rtps_who.proofs.introductions.Introductions.note_endpoint.Goals as goal

pub returns : goal.returns
returns c =
    on_ok (introducing.KeepsService c.args.self.now.services.entries c.note_service.new.services.entries (endpoint.endpoint_value c.args.endpoint.now))
    (introducing.KeepsEndpoint c.args.self.now (record c.args.self.now { tellers = c.note_teller.new.tellers; services = c.note_service.new.services }) (endpoint.endpoint_value c.args.endpoint.now))
    c.note_service.result (λ kept. record { processes = refl; tellers = c.in_ok-note_teller.ensures; services = kept }) c.note_service.ensures
