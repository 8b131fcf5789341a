use Rattle.std.proofs.Common.{◌≡◌, ◌∙◌, ◌++◌, List, ap, append-nil, subst, sym}
use Rattle.std.specs.List.Sorted.{IsStrictlySortedBy}
use Rattle.std.proofs.lemmas.Map.Iter.{rest_all}
use Rattle.rtps_ids.specs.declared.identity.Guid.{Guid}
use Rattle.rtps_discovery.specs.GuidOrder as guid_order
use Rattle.rtps_known.proofs.lacking.listed.Goals as goal

pub returns-clause-items : goal.returns-clause-items
returns-clause-items c =
    let ended = rest_all _ c.loop-endpoint.endpoint-iterator c.next.new.self c.next.result c.in-None.is c.next.ensures.steps in
    sym (append-nil c.loop-endpoint.listed.items) ∙ ap (λ l. c.loop-endpoint.listed.items ++ l) (sym ended) ∙ c.loop-endpoint.invariant

pub returns-clause-ordered : goal.returns-clause-ordered
returns-clause-ordered c =
    let ended = rest_all _ c.loop-endpoint.endpoint-iterator c.next.new.self c.next.result c.in-None.is c.next.ensures.steps in
    let all : c.loop-endpoint.listed.items ≡ c.args.endpoints.now.keys = sym (append-nil c.loop-endpoint.listed.items) ∙ ap (λ l. c.loop-endpoint.listed.items ++ l) (sym ended) ∙ c.loop-endpoint.invariant in
    let P : List Guid → Type 0 = λ l. IsStrictlySortedBy guid_order.guid_cmp l in
    subst P (sym all) c.iter-endpoint-items.ensures.ordered
