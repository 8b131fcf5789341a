use Rattle.std.proofs.Common.{◌∙◌, ap, arith, sym}
use Rattle.std.specs.Prelude.{option_copied}
use Rattle.rtps_who.specs.Samples as samples
use Rattle.rtps_who.proofs.ItemLemmas.{rest_cut, rest_more}
use Rattle.rtps_who.proofs.sample.behind_entries.Goals as goal

pub loop-preserved : goal.loop-preserved
loop-preserved c =
    rest_more (samples.front_entry c.args.order c.args.width) c.args.count c.loop.counter c.args.octets.now c.loop.rest.now (samples.entry_value c.in_ok-behind.field-0-0, c.in_ok-behind.behind.now) (omega arith) c.in_ok-behind.ensures
    c.loop.invariant

pub returns-in_err-behind : goal.returns-in_err-behind
returns-in_err-behind c =
    ap option_copied c.from_residual.ensures
    ∙ sym (rest_cut (samples.front_entry c.args.order c.args.width) c.args.count c.loop.counter c.args.octets.now c.loop.rest.now (omega arith) c.in_err-behind.ensures c.loop.invariant)
