use Rattle.std.proofs.Common.{[], rules}
use Rattle.std.specs.Prelude.{nat_lt}
use Rattle.rtps_lines.specs.TailNames as tail_names
use Rattle.rtps_lines.proofs.TailLemmas.{place_is}
use Rattle.rtps_lines.proofs.tail_names.place_among.Goals as goal

pub returns-then-tails-place-clause-place : goal.returns-then-tails-place-clause-place
returns-then-tails-place-clause-place c =
    place_is tail_names.tail_value (λ one. nat_lt one.longest c.args.longest) c.args.tails.now c.loop-place.place (record { topic = record { ref_ptr = (0, 0); now = [] }; longest = 0 }) c.loop-place-test.true (search rules) c.loop-place.invariant
