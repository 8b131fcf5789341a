use Rattle.std.proofs.Common.{arith, sym}
use Rattle.rtps_who.proofs.TextLemmas.{place_here, place_nowhere}
use Rattle.rtps_who.proofs.texts.place_of.Goals as goal

pub returns-clause-place : goal.returns-clause-place
returns-clause-place c = sym (place_nowhere c.args.mark c.args.octets.now (λ before less. c.loop-place.invariant before (omega arith)))

pub returns-then-octets-place-clause-place : goal.returns-then-octets-place-clause-place
returns-then-octets-place-clause-place c = sym (place_here c.args.mark c.args.octets.now c.loop-place.place (omega arith) c.loop-place.invariant c.if-octets-place.true)
