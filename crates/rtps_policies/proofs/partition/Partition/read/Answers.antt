use Rattle.std.proofs.Common.{◌≡◌, ◌∙◌, Some, ap, drop, sym}
use Rattle.std.specs.Prelude.{option_and_then}
use Rattle.rtps_params.specs.Values as values
use Rattle.rtps_policies.specs.Sequences as sequences
use Rattle.rtps_policies.proofs.TextLemmas.{unnamed}
use Rattle.rtps_policies.proofs.partition.Partition.read.Goals as goal

pub returns-then-count-eq0 : goal.returns-then-count-eq0
returns-then-count-eq0 c =
    let none : values.u32_of c.args.order c.args.value.now ≡ Some 0 = sym c.in_ok-count.ensures ∙ ap (λ n. Some n) c.if-count-eq0.true in
    ap (λ names. Some names) unnamed ∙ sym (ap (option_and_then (λ count. sequences.names_of count (sequences.texts_in count c.args.order (drop 4 c.args.value.now)))) none)
