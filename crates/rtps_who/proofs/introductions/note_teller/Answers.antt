use Rattle.std.proofs.Common.{◌∙◌, sym}
use Rattle.rtps_discovery.specs.Endpoint as endpoint
use Rattle.rtps_who.proofs.ToldLemmas.{teller_more, teller_same}
use Rattle.rtps_who.proofs.introductions.note_teller.Goals as goal

pub returns-then-not-tells_nodes : goal.returns-then-not-tells_nodes
returns-then-not-tells_nodes c = teller_same c.args.tellers.now (endpoint.endpoint_value c.args.endpoint.now) (sym c.tells_nodes.ensures ∙ c.if-not-tells_nodes.true)

pub returns : goal.returns
returns c =
    teller_more c.args.tellers.now c.insert.new.self (endpoint.endpoint_value c.args.endpoint.now) (sym c.tells_nodes.ensures ∙ c.if-not-tells_nodes.false)
    (λ guid. c.in_ok-insert.ensures.updates.0 guid)
