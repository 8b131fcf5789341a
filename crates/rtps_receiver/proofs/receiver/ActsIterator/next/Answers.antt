use Rattle.std.proofs.Common.{◌∷◌, Ok, arith, ap, length, sym, ◌∙◌}
use Rattle.rtps_wire.specs.Reading as reading
use Rattle.rtps_receiver.proofs.ActSteps.{acts_left-act, acts_left-done, acts_left-heard, acts_left-refused}
use Rattle.rtps_receiver.specs.Acts as acts
use Rattle.rtps_receiver.proofs.receiver.ActsIterator.next.Goals as goal

pub returns-in-Some-act-clause-steps : goal.returns-in-Some-act-clause-steps
returns-in-Some-act-clause-steps c =
    let next = c.in-Some.ensures.steps ∙ ap (λ o. reading.outcome_value o ∷ reading.outcomes_left c.next.new.self) c.in-Ok.is in
    let is = c.in-Some-act.ensures in
    sym c.loop-outcome.invariant
    ∙ (acts_left-act c.loop-outcome.self-inside.state _ _ _ is.0 next is.1
    ∙ ap (λ act. Ok act ∷ acts.acts_left (record { state = c.loop-outcome.self-inside.state; unread = c.next.new.self })) (sym is.2))

pub returns-in-Some-act-clause-goes : goal.returns-in-Some-act-clause-goes
returns-in-Some-act-clause-goes c =
    let left = ap length (returns-in-Some-act-clause-steps c) in
    record { on = λ _. (tt, tt, omega (arith, left)); keeps = tt; rests = λ _. tt }

pub loop-outcome-preserved : goal.loop-outcome-preserved
loop-outcome-preserved c =
    let next = c.in-Some.ensures.steps ∙ ap (λ o. reading.outcome_value o ∷ reading.outcomes_left c.next.new.self) c.in-Ok.is in
    ap (λ state. acts.acts_left (record { state = state; unread = c.next.new.self })) c.interpret.ensures
    ∙ (sym (acts_left-heard c.loop-outcome.self-inside.state _ _ _ next c.in_default-act.ensures) ∙ c.loop-outcome.invariant)

pub returns-in-Err-clause-steps : goal.returns-in-Err-clause-steps
returns-in-Err-clause-steps c =
    let next = c.in-Some.ensures.steps ∙ ap (λ o. reading.outcome_value o ∷ reading.outcomes_left c.next.new.self) c.in-Err.is in
    sym c.loop-outcome.invariant ∙ acts_left-refused c.loop-outcome.self-inside.state _ _ _ next

pub returns-in-Err-clause-goes : goal.returns-in-Err-clause-goes
returns-in-Err-clause-goes c =
    let left = ap length (returns-in-Err-clause-steps c) in
    record { on = λ _. (tt, tt, omega (arith, left)); keeps = tt; rests = λ _. tt }

pub returns-clause-steps : goal.returns-clause-steps
returns-clause-steps c =
    (sym c.loop-outcome.invariant ∙ acts_left-done _ _ c.in_default.ensures.steps.0, acts_left-done _ _ c.in_default.ensures.steps.1)
