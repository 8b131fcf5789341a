use Rattle.std.proofs.Common.{◌≡◌, ◌∙◌, List, ap, filter, flat_map, map, subst, sym}
use Rattle.std.proofs.lemmas.List.{take_all}
use Rattle.rtps_discovery.specs.Directory as directory
use Rattle.rtps_discovery.specs.Endpoint as endpoint
use Rattle.rtps_discovery.specs.declared.endpoint.Endpoint.{Endpoint}
use Rattle.rtps_who.specs.Introducing as introducing
use Rattle.rtps_who.specs.Telling as telling
use Rattle.rtps_report.specs.Ends as ends
use Rattle.rtps_report.proofs.EndLemmas.{endpoints_told, told_to, writer_more, writer_skip, writer_told}
use Rattle.rtps_report.proofs.end.told_of.Goals as goal
use Rattle.rtps_report.proofs.end.told_of.Goals.{then-tells_nodes+in_ok-note_overheard, else-tells_nodes}

pub loop-endpoint-preserved : goal.loop-endpoint-preserved
loop-endpoint-preserved c = λ intake announcing index introduced.
    let endpoints = c.deref-endpoint-items.result.now in
    let place = c.loop-endpoint.endpoint-index in
    elim c.if-tells_nodes.branch [
      | then-tells_nodes+in_ok-note_overheard w ↦
          rw w.told-is
          (writer_told intake announcing endpoints place _ w.acts_of-acts.result.now w.note_overheard.new.told c.loop-endpoint-test.true (sym c.tells_nodes.ensures ∙ w.if-tells_nodes.true) (w.acts_of-acts.ensures intake index)
          (w.in_ok-note_overheard.ensures announcing _ introduced (c.loop-endpoint.invariant intake announcing index introduced)))
      | else-tells_nodes w ↦
          rw w.told-is
          (subst (λ acts. telling.IsToldBy announcing acts c.loop-endpoint.told) (writer_skip intake endpoints place _ c.loop-endpoint-test.true (sym c.tells_nodes.ensures ∙ w.if-tells_nodes.false))
          (c.loop-endpoint.invariant intake announcing index introduced))
    ]

pub returns : goal.returns
returns c = λ intake announcing index introduced.
    let endpoints = c.deref-endpoint-items.result.now in
    let all = take_all c.loop-endpoint.endpoint-index endpoints c.loop-endpoint-test.false in
    subst (λ acts. telling.IsToldBy announcing acts c.loop-endpoint.told)
    (ap (told_to intake) all ∙ ap (λ (values : List endpoint.EndpointValue). flat_map (ends.acts_by intake) (filter introducing.tells_nodes values))
    (endpoints_told endpoints c.in_ok-endpoints.field-0.items (directory.settled_in c.args.read.now.directory.now.endpoints) c.deref-endpoint-items.ensures.value c.in_ok-endpoints.ensures))
    (c.loop-endpoint.invariant intake announcing index introduced)
