use Rattle.std.proofs.Common.{arith}
use Rattle.std.proofs.lemmas.List.FromFn.{fill_by_all}
use Rattle.rtps_wire.specs.NackFrag as nack_frag
use Rattle.rtps_wire.proofs.read.nack_frag.words_at.Goals as goal

pub returns : goal.returns
returns c = fill_by_all (nack_frag.fragment_word c.args.order c.args.body.now) c.loop-i.words 8 0 c.loop-i.invariant.0 (λ k below. c.loop-i.invariant.1 k (omega arith))
