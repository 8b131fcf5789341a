use Rattle.std.proofs.Common.{◌∙◌, refl, subst, sym, List, Some, None}
use Rattle.std.specs.List.{list_any}
use Rattle.rtps_audit.specs.Placed as placed
use Rattle.rtps_evidence.specs.Missed as missed
use Rattle.rtps_evidence.specs.Spans as spans
use Rattle.rtps_evidence.proofs.NewcomerLemmas.{first_owed_by, positive_lesser}
use Rattle.rtps_evidence.proofs.span.first_owed.Goals as goal

pub returns-in-Some-clause-first : goal.returns-in-Some-clause-first
returns-in-Some-clause-first c = λ intake is notes owes.
    let newcomer = c.args.newcomer.now in
    let all = placed.placed_in intake.acts in
    let asked = c.least_asked_of-asked.ensures.least intake is notes in
    first_owed_by newcomer c.args.owing.now all _ c.owed-owed.result c.brought-brought.result c.least_asked_of-asked.result (Some c.in-Some.number) c.in-Some.number (c.acts_of.ensures intake is) c.brought-brought.ensures.least asked c.owed-owed.ensures.owed
    (sym c.in-Some.is ∙ c.lesser.ensures) refl owes

pub returns-in-None-clause-first : goal.returns-in-None-clause-first
returns-in-None-clause-first c = λ intake is notes owes.
    let newcomer = c.args.newcomer.now in
    let all = placed.placed_in intake.acts in
    let asked = c.least_asked_of-asked.ensures.least intake is notes in
    first_owed_by newcomer c.args.owing.now all _ c.owed-owed.result c.brought-brought.result c.least_asked_of-asked.result None c.owed-owed.result (c.acts_of.ensures intake is) c.brought-brought.ensures.least asked c.owed-owed.ensures.owed
    (sym c.in-None.is ∙ c.lesser.ensures) refl owes

pub returns-in-Some-clause-positive : goal.returns-in-Some-clause-positive
returns-in-Some-clause-positive c =
    positive_lesser c.brought-brought.result c.least_asked_of-asked.result c.owed-owed.result c.in-Some.number (sym c.in-Some.is ∙ c.lesser.ensures) c.brought-brought.ensures.in_range c.owed-owed.ensures.positive c.least_asked_of-asked.ensures.high
