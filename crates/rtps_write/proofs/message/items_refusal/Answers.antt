use Rattle.std.proofs.Common.{◌+◌, map, drop, sym, ◌∙◌, ap, arith}
use Rattle.std.proofs.lemmas.List.{take_all}
use Rattle.rtps_wire.specs.Values as values
use Rattle.rtps_write.proofs.WrittenItems.{fault_step, held_more}
use Rattle.rtps_write.specs.Writable as writable
use Rattle.rtps_write.proofs.message.items_refusal.Goals as goal

pub returns-in-Some-clause-fault : goal.returns-in-Some-clause-fault
returns-in-Some-clause-fault c =
    let items = c.args.items.now in
    let step = fault_step items c.loop-i.i c.index-items-i.result c.loop-i-test.true c.index-items-i.is in
    let behind = writable.items_fault (map values.item_value (drop (c.loop-i.i + 1) items)) in
    ap (λ f. writable.first_of f behind) c.in-Some.ensures.fault ∙ (sym step ∙ c.loop-i.invariant.fault)

pub loop-i-preserved : goal.loop-i-preserved
loop-i-preserved c =
    let items = c.args.items.now in
    let step = fault_step items c.loop-i.i c.index-items-i.result c.loop-i-test.true c.index-items-i.is in
    let behind = writable.items_fault (map values.item_value (drop (c.loop-i.i + 1) items)) in
    record {
      fault = ap (λ f. writable.first_of f behind) c.in_default.ensures.fault ∙ (sym step ∙ c.loop-i.invariant.fault);
      held = held_more items c.loop-i.i c.index-items-i.result c.loop-i-test.true c.index-items-i.is c.loop-i.invariant.held c.in_default.ensures.held;
    }

pub returns-clause-held : goal.returns-clause-held
returns-clause-held c = let all = take_all c.loop-i.i c.args.items.now (omega arith) in rw all at c.loop-i.invariant.held
