use Rattle.std.proofs.Common.{◌≡◌, None, Some, ap, refl, subst, sym, true}
use Rattle.rtps_discovery.specs.Directory as directory
use Rattle.rtps_discovery.specs.Endpoint as endpoint
use Rattle.rtps_discovery.specs.Kept as kept_spec
use Rattle.rtps_discovery.proofs.Entries.{first_added}
use Rattle.rtps_discovery.proofs.kept.keep_endpoint.Goals as goal

pub returns-then-is_there-clause-ok : goal.returns-then-is_there-clause-ok
returns-then-is_there-clause-ok c = c.is_there.ensures.there c.if-is_there.true

pub returns-clause-ok : goal.returns-clause-ok
returns-clause-ok c = λ announced were.
    let old = c.is_there.new.endpoints in
    let same = c.is_there.ensures.same c.if-is_there.false in
    let absent = subst (λ m. directory.entry_at (kept_spec.entries_value m.entries) c.args.endpoint.guid ≡ None) (sym same) (c.is_there.ensures.absent c.if-is_there.false) in
    first_added announced old.entries c.insert.new.self.entries (endpoint.endpoint_value c.args.endpoint) (record { endpoint = c.args.endpoint; settled = true }) c.in_ok-insert.ensures.ordered c.in_ok-insert.ensures.updates.0
    absent (refl) (subst (λ m. directory.AreEntries announced (kept_spec.entries_value m.entries)) (sym same) were)
