use Rattle.std.proofs.Common.{rules, nat_lt}
use Rattle.std.proofs.lemmas.Fn.{filter_same}
use Rattle.rtps_coverage.proofs.plain_ranges.keep_past.Goals as goal

pub returns : goal.returns
returns c = filter_same _ (λ stretch. nat_lt c.args.front stretch.lo) _ (λ x b f' k. search rules) _ _ c.retain.ensures.filtered
