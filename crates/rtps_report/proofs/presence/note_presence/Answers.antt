use Rattle.std.proofs.Common.{◌≡◌, ◌∙◌, ℕ, IsSome, Option, None, Some, ap, cond, refl, subst, sym, true}
use Rattle.std.specs.BTreeMap.{BTreeMap, get}
use Rattle.std.specs.Option.{option_copied_mut}
use Rattle.std.specs.Ordering.{is_eq}
use Rattle.rtps_ids.specs.declared.identity.GuidPrefix.{GuidPrefix}
use Rattle.rtps_report.specs.Stays as stays
use Rattle.rtps_report.specs.declared.presence.Presence.{Presence}
use Rattle.rtps_report.proofs.PresenceLemmas.{presence_written}
use Rattle.rtps_report.proofs.presence.note_presence.Goals as goal

pub returns-in-Some : goal.returns-in-Some
returns-in-Some c = λ prefix.
    let old = c.args.presences.now in
    let was = c.in-Some.presence.now in
    let presence : Presence = record { stay = record { first = was.stay.first; last = c.args.datagram }; latest = c.later_of_both-presence.result } in
    let there : get stays.prefix_cmp old c.args.source ≡ Some was = sym c.get_mut.ensures.value ∙ ap option_copied_mut c.in-Some.is in
    let updates = (c.get_mut.follows.holds presence).3 (subst IsSome (sym there) refl) in
    let noted : Some presence ≡ stays.presence_with c.args.datagram c.args.time true (Some was) =
    ap (λ (latest : Option ℕ). Some (stays.present latest (record { first = was.stay.first; last = c.args.datagram }))) c.later_of_both-presence.ensures in
    updates.0 prefix
    ∙ presence_written (get stays.prefix_cmp old) c.args.datagram c.args.time c.args.source prefix presence (noted ∙ sym (ap (stays.presence_with c.args.datagram c.args.time true) there))

pub returns : goal.returns
returns c = λ prefix.
    let old = c.args.presences.now in
    let presence : Presence = record { stay = record { first = c.args.datagram; last = c.args.datagram }; latest = c.args.time } in
    let none : get stays.prefix_cmp old c.args.source ≡ None = sym c.get_mut.ensures.value ∙ ap option_copied_mut c.in_default.is in
    c.in_ok-insert.ensures.updates.0 prefix
    ∙ ap (λ (presences : BTreeMap GuidPrefix Presence). cond (is_eq (stays.prefix_cmp c.args.source prefix)) (Some presence) (get stays.prefix_cmp presences prefix)) c.get_mut.follows.holds-at-none
    ∙ presence_written (get stays.prefix_cmp old) c.args.datagram c.args.time c.args.source prefix presence (sym (ap (stays.presence_with c.args.datagram c.args.time true) none))
