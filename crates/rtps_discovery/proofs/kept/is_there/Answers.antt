use Rattle.std.proofs.Common.{ap, sym, ◌∙◌, false, refl}
use Rattle.std.specs.Option.{option_copied_mut, option_map}
use Rattle.rtps_discovery.specs.Endpoint as endpoint_spec
use Rattle.rtps_discovery.specs.Kept as kept_spec
use Rattle.rtps_discovery.specs.declared.kept.Kept.{Kept}
use Rattle.rtps_discovery.proofs.Entries.{entry_added, entry_at-entries_value, joined_alike, joined_otherwise}
use Rattle.rtps_discovery.proofs.kept.is_there.Goals as goal

pub returns-in-None-clause-absent : goal.returns-in-None-clause-absent
returns-in-None-clause-absent c = λ no.
    let none = sym c.get_mut.ensures.value ∙ ap option_copied_mut c.in-None.is in
    entry_at-entries_value c.args.endpoints.now.entries c.args.endpoint.now.guid ∙ ap (option_map kept_spec.kept_value) none

pub returns-then-not-is_same-clause-there : goal.returns-then-not-is_same-clause-there
returns-then-not-is_same-clause-there c = λ yes announced were.
    let kept : Kept = record { endpoint = c.in-Some.kept.now.endpoint; settled = false } in
    let there = sym c.get_mut.ensures.value ∙ ap option_copied_mut c.in-Some.is in
    let written = c.get_mut.follows.holds kept in
    entry_added announced c.args.endpoints.now.entries (c.get_mut.follows.lender kept).entries (endpoint_spec.endpoint_value c.args.endpoint.now) kept written.4 (written.3 (rw there refl)).0
    (rw (there) (joined_otherwise c.in-Some.kept.now (endpoint_spec.endpoint_value c.args.endpoint.now) c.if-not-is_same.ensures)) were

pub returns-else-not-is_same-clause-there : goal.returns-else-not-is_same-clause-there
returns-else-not-is_same-clause-there c = λ yes announced were.
    let kept = c.in-Some.kept.now in
    let there = sym c.get_mut.ensures.value ∙ ap option_copied_mut c.in-Some.is in
    let written = c.get_mut.follows.holds kept in
    entry_added announced c.args.endpoints.now.entries (c.get_mut.follows.lender kept).entries (endpoint_spec.endpoint_value c.args.endpoint.now) kept written.4 (written.3 (rw there refl)).0
    (rw (there) (joined_alike kept (endpoint_spec.endpoint_value c.args.endpoint.now) c.if-not-is_same.ensures)) were
