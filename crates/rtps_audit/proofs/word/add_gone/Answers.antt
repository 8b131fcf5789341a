use Rattle.std.proofs.Common.{◌∙◌, ◌||◌, ap}
use Rattle.rtps_receiver.specs.Said as said
use Rattle.rtps_receiver.proofs.Offered.{below, no_more, none_below, range_more}
use Rattle.rtps_audit.proofs.WordLemmas.{from_one, tells_both, tells_none, tells_same}
use Rattle.rtps_audit.proofs.word.add_gone.Goals as goal

pub apart-init : goal.apart-init
apart-init g c = tells_none _ _ (none_below (said.numbers_have c.args.gone.now))

pub apart-preserved : goal.apart-preserved
apart-preserved g c =
    let gone = c.args.gone.now in
    let range = c.in-Some.range in
    tells_both _ _ _ _ _ _
    (λ n positive. range_more gone c.apart.at range.start range.end c.in-Some.ensures.range n ∙ ap (λ b. below (said.numbers_have gone) c.apart.at n || b) (from_one range.start range.end c.max.result n c.max.ensures positive))
    c.apart.invariant c.in_ok-add_range.ensures

pub returns : goal.returns
returns g c = tells_same _ _ _ _ (λ n positive. no_more (said.numbers_have c.args.gone.now) c.apart.at c.in_default.ensures.range n) c.apart.invariant
