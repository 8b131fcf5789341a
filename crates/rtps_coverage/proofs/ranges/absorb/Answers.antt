use Rattle.std.proofs.Common.{◌∙◌, ◌+◌, sym, subst, drop, max, refl, arith}
use Rattle.rtps_coverage.specs.Ranges as ranges
use Rattle.rtps_coverage.proofs.RangesLemmas.{absorbs_none, absorbs_more, removed_at, place_of_first}
use Rattle.rtps_coverage.proofs.ranges.absorb.Goals as goal

pub loop-next-init : goal.loop-next-init
loop-next-init c = record {
  place = c.requires.place;
  front = refl;
  apart = c.requires.apart;
  absorbs = absorbs_none (drop c.args.place c.args.ranges.now.items) c.args.hi;
}

pub loop-next-preserved : goal.loop-next-preserved
loop-next-preserved c =
    let place = c.args.place in
    let was = drop place c.args.ranges.now.items in
    let old = c.loop-next.ranges.items in
    let new = c.remove.new.self.items in
    let next = c.in-Some.next in
    let end = c.loop-next.end in
    let known = c.loop-next.invariant in
    let others = drop (place + 1) old in
    let here : ranges.IsBegun end (drop place c.deref.result.now) (drop (place + 1) c.deref.result.now) next = c.in-Some.ensures in
    let begun = subst (λ l. ranges.IsBegun end (drop place l) (drop (place + 1) l) next) c.deref.ensures.value here in
    let lt = place_of_first old others next place begun.is in
    let gone = removed_at old new place lt c.remove.ensures.items in
    let taken = absorbs_more was (drop place old) others next c.args.hi end known.absorbs begun.is begun.begins in
    record {
      place = (let count = gone.2 in omega arith);
      front = gone.0 ∙ known.front;
      apart = subst ranges.AreApart (sym gone.1) (subst ranges.AreApart begun.is known.apart).2;
      absorbs = subst (λ m. ranges.Absorbs was (drop place new) c.args.hi m) (sym c.max-end.ensures) (subst (λ l. ranges.Absorbs was l c.args.hi (max end next.hi)) (sym gone.1) taken);
    }
