use Rattle.rtps_capture.specs.declared.assembly.Making.{Making}
use Rattle.rtps_capture.proofs.MovedLemmas.{grows_twice, making_moved}
use Rattle.rtps_capture.proofs.assembly.Making.moved.Goals as goal

pub returns-clause-moved : goal.returns-clause-moved
returns-clause-moved c =
    let other : Making = record { making = c.in_ok-making.making; given = c.in_ok-given.given } in
    making_moved c.args.from.now c.moved.new.to.items c.moved-2.new.to.items c.args.self other c.in_ok-making.ensures.moved c.in_ok-given.ensures.behind c.in_ok-given.ensures.moved

pub returns-clause-behind : goal.returns-clause-behind
returns-clause-behind c =
    grows_twice c.args.to.now.items c.moved.new.to.items c.moved-2.new.to.items c.in_ok-making.ensures.behind c.in_ok-given.ensures.behind
