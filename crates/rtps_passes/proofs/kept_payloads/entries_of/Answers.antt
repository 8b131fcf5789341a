use Rattle.std.proofs.Common.{◌∙◌, ◌++◌, ◌∷◌, [], ap, arith, refl, subst, sym, take}
use Rattle.std.specs.List.{All}
use Rattle.std.proofs.lemmas.List.{take_all, take_more}
use Rattle.std.proofs.lemmas.List.Elements.{All-nil, All-push}
use Rattle.rtps_audit.specs.PayloadConflict as payload_conflict
use Rattle.rtps_passes.specs.declared.kept_payload.KeptPayload.{KeptPayload}
use Rattle.rtps_passes.proofs.KeptLemmas.{AreEntries, entries_more, entries_sent, no_entries}
use Rattle.rtps_passes.proofs.kept_payloads.entries_of.Goals as goal

pub loop-one-preserved : goal.loop-one-preserved
loop-one-preserved c =
    let kept = c.args.kept.now in
    let k = c.loop-one.one-index in
    let one = c.one-item.result in
    let next = take_more kept k one c.loop-one-test.true ∙ ap (λ (p : KeptPayload). take k kept ++ p ∷ []) (sym c.one-item.is) in
    record {
      in_range = subst (All payload_conflict.IsInRange) (sym c.in_ok-push.ensures.items) (All-push payload_conflict.IsInRange c.loop-one.entries.items _ c.loop-one.invariant.in_range one.in_range);
      of = subst (AreEntries c.push.new.self.items) (sym next) (entries_more c.loop-one.entries.items c.push.new.self.items (take k kept) _ one c.in_ok-push.ensures.items (record { number = refl; dest = refl; reader = refl; payload = refl }) c.loop-one.invariant.of);
    }

pub loop-one-init : goal.loop-one-init
loop-one-init c = record { in_range = subst (All payload_conflict.IsInRange) (sym c.in_ok-entries.ensures.items) (All-nil payload_conflict.IsInRange); of = no_entries c.in_ok-entries.entries.items c.in_ok-entries.ensures.items }

pub returns-clause-sent : goal.returns-clause-sent
returns-clause-sent c = λ wanted placed known.
    entries_sent wanted placed c.loop-one.entries.items c.args.kept.now (subst (AreEntries c.loop-one.entries.items) (take_all c.loop-one.one-index c.args.kept.now (omega (arith, c.loop-one-test.false))) c.loop-one.invariant.of) known
