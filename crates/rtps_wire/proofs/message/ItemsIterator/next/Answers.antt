use Rattle.std.proofs.Common.{◌≡◌, ◌<◌, ap, arith, length, refl}
use Rattle.std.proofs.lemmas.Bool.Decides.{nat_tests}
use Rattle.rtps_wire.proofs.Readings.{outcomes-done, outcomes-empty, outcomes-refused, outcomes-taken}
use Rattle.rtps_wire.proofs.message.ItemsIterator.next.Goals as goal

pub returns-then-is_empty-clause-steps : goal.returns-then-is_empty-clause-steps
returns-then-is_empty-clause-steps c =
    let none : length c.self.inside.rest.now ≡ 0 = grind (arith, nat_tests) in
    rw (← c.self.view_is) (let e = outcomes-empty c.self.inside.rest.now c.self.inside.at none in (e, e))

pub returns-in-Ok-clause-steps : goal.returns-in-Ok-clause-steps
returns-in-Ok-clause-steps c =
    let some : 0 < length c.self.inside.rest.now = grind (arith, nat_tests) in
    rw (← c.self.view_is) (outcomes-taken _ _ _ _ _ _ some c.in-Ok.ensures.item.0 c.in-Ok.ensures.item.1 c.in-Ok.ensures.size.0 c.rest_at-self-inside.ensures refl)

pub returns-in-Ok-clause-goes : goal.returns-in-Ok-clause-goes
returns-in-Ok-clause-goes c =
    let left = ap length (returns-in-Ok-clause-steps c) in
    record { on = λ _. (tt, tt, omega (arith, left)); keeps = tt; rests = λ _. tt }

pub returns-in-Err-clause-steps : goal.returns-in-Err-clause-steps
returns-in-Err-clause-steps c =
    let some : 0 < length c.self.inside.rest.now = grind (arith, nat_tests) in
    rw (← c.self.view_is) (rw (outcomes-done c.self.inside.at) (outcomes-refused _ _ _ some c.in-Err.ensures.item))

pub returns-in-Err-clause-goes : goal.returns-in-Err-clause-goes
returns-in-Err-clause-goes c =
    let left = ap length (returns-in-Err-clause-steps c) in
    record { on = λ _. (tt, tt, omega (arith, left)); keeps = tt; rests = λ _. tt }
