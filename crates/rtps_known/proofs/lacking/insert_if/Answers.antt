use Rattle.std.proofs.Common.{◌∙◌, ◌||◌, ◌&&◌, ap, sym}
use Rattle.std.specs.BTreeMap.{is_at}
use Rattle.std.specs.BTreeSet.{contains}
use Rattle.std.specs.List.{list_any}
use Rattle.rtps_discovery.specs.GuidOrder as guid_order
use Rattle.rtps_known.specs.Tellings as tellings
use Rattle.rtps_known.proofs.BoolLemmas.{and_all}
use Rattle.rtps_known.proofs.KeyLemmas.{any_key}
use Rattle.rtps_known.proofs.KnownLemmas.{guids_alike}
use Rattle.rtps_known.proofs.OrderLemmas.{exact_guids}
use Rattle.rtps_known.proofs.lacking.insert_if.Goals as goal

pub returns-in_ok-insert : goal.returns-in_ok-insert
returns-in_ok-insert c = λ guid.
    ap (list_any (is_at (guid_order.guid_cmp guid))) c.in_ok-insert.ensures.keys ∙ any_key guid_order.guid_cmp exact_guids (is_at (guid_order.guid_cmp guid)) c.args.endpoints.now.keys c.args.endpoint
    ∙ ap (λ b. contains guid_order.guid_cmp c.args.endpoints.now guid || b)
    (guids_alike guid c.args.endpoint ∙ and_all (tellings.is_guid guid c.args.endpoint) ∙ ap (λ b. tellings.is_guid guid c.args.endpoint && b) (sym c.if-holds.true))
