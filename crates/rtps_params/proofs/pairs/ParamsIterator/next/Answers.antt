use Rattle.std.proofs.Common.{arith, sym, ap, ◌∙◌, length}
use Rattle.rtps_params.proofs.Front.{BeginsWith-found, pairs_of-behind_pad, pairs_of-in_front, pairs_of-none_found}
use Rattle.rtps_params.proofs.pairs.ParamsIterator.next.Goals as goal

pub returns-then-parameter-ne-PAD-clause-steps : goal.returns-then-parameter-ne-PAD-clause-steps
returns-then-parameter-ne-PAD-clause-steps c =
    let inside = c.loop-parameter.self-inside in
    let begins = BeginsWith-found inside.order inside.rest.now c.front.result c.in-Some.parameter c.front.ensures (sym c.in-Some.ensures) in
    sym c.self.view_is ∙ c.loop-parameter.invariant ∙ pairs_of-in_front inside.order inside.rest.now c.in-Some.parameter begins c.if-parameter-ne-PAD.true

pub returns-then-parameter-ne-PAD-clause-goes : goal.returns-then-parameter-ne-PAD-clause-goes
returns-then-parameter-ne-PAD-clause-goes c =
    let inside = c.loop-parameter.self-inside in
    let begins = BeginsWith-found inside.order inside.rest.now c.front.result c.in-Some.parameter c.front.ensures (sym c.in-Some.ensures) in
    let shown = sym c.self.view_is ∙ c.loop-parameter.invariant ∙ pairs_of-in_front inside.order inside.rest.now c.in-Some.parameter begins c.if-parameter-ne-PAD.true in
    record { on = λ _. (tt, tt, omega (arith, ap length shown)); keeps = tt; rests = λ _. tt }

pub loop-parameter-preserved : goal.loop-parameter-preserved
loop-parameter-preserved c =
    let inside = c.loop-parameter.self-inside in
    let begins = BeginsWith-found inside.order inside.rest.now c.front.result c.in-Some.parameter c.front.ensures (sym c.in-Some.ensures) in
    c.loop-parameter.invariant ∙ pairs_of-behind_pad inside.order inside.rest.now c.in-Some.parameter begins c.if-parameter-ne-PAD.false

pub returns-clause-steps : goal.returns-clause-steps
returns-clause-steps c =
    let inside = c.loop-parameter.self-inside in
    let none = pairs_of-none_found inside.order inside.rest.now c.front.result c.front.ensures (sym c.unwrap_or.ensures ∙ c.in_default.is) in
    (sym c.self.view_is ∙ c.loop-parameter.invariant ∙ none, none)
