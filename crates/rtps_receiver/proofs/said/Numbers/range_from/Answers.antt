use Rattle.std.proofs.Common.{ap, rules}
use Rattle.std.specs.Option.{option_map}
use Rattle.rtps_receiver.proofs.NumbersLemmas.{first_listed}
use Rattle.rtps_receiver.proofs.said.Numbers.range_from.Goals as goal

pub returns-clause-range : goal.returns-clause-range
returns-clause-range c =
    first_listed c.args.self.now c.in_ok-self.field-0.now c.args.at (ap (option_map (λ list. list.now)) c.in_ok-self.was) (search rules)
    c.range_from.result c.range_from.ensures.range
