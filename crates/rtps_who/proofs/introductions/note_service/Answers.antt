use Rattle.std.proofs.Common.{sym}
use Rattle.rtps_discovery.specs.Endpoint as endpoint
use Rattle.rtps_who.proofs.ToldLemmas.{service_more, service_same}
use Rattle.rtps_who.proofs.introductions.note_service.Goals as goal

pub returns-in_default : goal.returns-in_default
returns-in_default c = service_same c.args.services.now.entries (endpoint.endpoint_value c.args.endpoint.now) (sym c.in_default.ensures)

pub returns : goal.returns
returns c =
    service_more c.args.services.now.entries c.insert.new.self.entries (endpoint.endpoint_value c.args.endpoint.now) c.in-Some.name.now c.copied-kept.result c.with_name_more.result c.in-Some.ensures (cc) c.with_name_more.ensures
    (λ prefix. c.in_ok-insert.ensures.updates.0 prefix)
