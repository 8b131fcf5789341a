use Rattle.std.proofs.Common.{◌∙◌, [], List, ap, map, not, subst, sym, take}
use Rattle.std.proofs.lemmas.List.{take_all}
use Rattle.rtps_audit.specs.Placed as placed
use Rattle.rtps_audit.specs.declared.placed.Placed.{Placed}
use Rattle.rtps_evidence.specs.Newcomers as newcomers
use Rattle.rtps_evidence.proofs.NewcomerLemmas.{none_there, span_elsewhere}
use Rattle.rtps_evidence.proofs.RequestLemmas.{taken_more}
use Rattle.rtps_evidence.proofs.span.Span.of.Goals as goal

pub returns-then-is_none : goal.returns-then-is_none
returns-then-is_none c = λ intake is notes. span_elsewhere c.args.from c.args.pair intake [] c.new-spanning.result (none_there c.new-spanning.result.newcomer (c.is_none.ensures ∙ ap not c.if-is_none.true)) (c.new-spanning.ensures intake is)

pub loop-placed-init : goal.loop-placed-init
loop-placed-init c = λ intake is. c.new-spanning.ensures intake is

pub loop-placed-preserved : goal.loop-placed-preserved
loop-placed-preserved c = λ intake is.
    let acts = c.acts_of-placed-items.result.now in
    let i = c.loop-placed.placed-index in
    subst (λ (l : List placed.PlacedValue). newcomers.IsSpanning c.args.from c.args.pair intake l c.hear.new.self) (sym (taken_more acts i c.placed-item.result c.loop-placed-test.true c.placed-item.is))
    (c.hear.ensures c.args.from c.args.pair intake (map placed.placed_value (take i acts)) (c.loop-placed.invariant intake is))

pub returns : goal.returns
returns c = λ intake is notes.
    let acts = c.acts_of-placed-items.result.now in
    let all = take_all c.loop-placed.placed-index acts c.loop-placed-test.false in
    let told = subst (λ (l : List Placed). newcomers.IsSpanning c.args.from c.args.pair intake (map placed.placed_value l) c.loop-placed.spanning) all (c.loop-placed.invariant intake is) in
    c.span.ensures c.args.from c.args.pair intake is notes (subst (λ (l : List placed.PlacedValue). newcomers.IsSpanning c.args.from c.args.pair intake l c.loop-placed.spanning) (c.acts_of-placed-items.ensures intake is) told)
