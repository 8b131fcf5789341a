use Rattle.std.proofs.Common.{◌≡◌, ◌∙◌, ◌++◌, List, ap, map, subst, sym}
use Rattle.rtps_discovery.specs.declared.matching.Pair.{Pair}
use Rattle.rtps_evidence.specs.Together as together
use Rattle.rtps_evidence.specs.declared.docket.Docket.{Docket}
use Rattle.rtps_evidence.proofs.TogetherLemmas.{none_behind}
use Rattle.rtps_evidence.proofs.explanation.ExplainedRows.add_dockets.Goals as goal

pub returns-then-is_empty : goal.returns-then-is_empty
returns-then-is_empty c = λ setting pairs sides dockets rows.
    subst (λ (l : List Pair). together.AreRows setting l c.args.self.now)
    (none_behind (λ (docket : Docket). docket.judgement.pair) pairs c.args.dockets.now (sym c.is_empty.ensures ∙ c.if-is_empty.true)) rows

pub returns : goal.returns
returns c = λ setting pairs sides dockets rows.
    let yes = c.if-not-are_plain.false in
    let closed = c.in_ok-cases.ensures.closed setting _ sides dockets (c.acts_of-acts.ensures setting.intake sides.index) (c.are_plain.ensures.writer yes)
    (c.are_plain.ensures.sends yes setting sides.index) (c.are_plain.ensures.plain yes setting dockets) in
    subst (λ (l : List Pair). together.AreRows setting (pairs ++ l) c.add_cases.new.self) c.in_ok-cases.ensures.pairs
    (c.in_ok-add_cases.ensures setting pairs (c.directory.ensures setting.intake sides.index) closed rows)
