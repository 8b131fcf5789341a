use Rattle.std.proofs.Common.{◌≤◌, inl, inr, arith}
use Rattle.std.proofs.lemmas.Bool.{cases_lt}
use Rattle.rtps_evidence.proofs.GoneLemmas.{in_left, kept_after}
use Rattle.rtps_evidence.proofs.gone_ranges.take_out.Goals as goal

pub overlapping-preserved : goal.overlapping-preserved
overlapping-preserved c =
    let old = c.args.ranges.now in
    let now = c.overlapping.ranges in
    let new = c.remove.new.self in
    let end = c.in-Some.end in
    let first = c.in-Some.first in
    let begin = c.overlapping.begin in
    let so_far = c.overlapping.invariant in
    let found = c.in-Some.ensures in
    let within = c.if-hi-end.false in
    let back = kept_after now new end c.remove.ensures.updates in
    let here = so_far.kept end first found.here in
    let least = c.min-begin.ensures in
    let both : (c.min-begin.result ≤ begin) × (c.min-begin.result ≤ first) = (omega (arith, least), omega (arith, least)) in
    record {
      onward = let low = both.0 in let on = so_far.onward in omega arith;
      kept = λ k b e. so_far.kept k b (back k b e);
      numbers = λ n is. elim (so_far.numbers n is) [
        | inl left ↦ elim (in_left now new end first c.remove.ensures.updates found.here n left) [
          | inl stays ↦ inl stays
          | inr out ↦ inr (let low = both.1 in let from = out.0 in omega arith, let to = out.1 in omega arith)
        ]
        | inr out ↦ inr (let low = both.0 in let from = out.0 in omega arith, out.1)
      ];
      covered = λ n from to. elim (cases_lt n begin) [
        | inl lt ↦ record { end = end; begin = first; here = here; from = omega (arith, least, from, lt); to = let past = found.past in omega arith }
        | inr ge ↦ so_far.covered n ge to
      ];
    }
