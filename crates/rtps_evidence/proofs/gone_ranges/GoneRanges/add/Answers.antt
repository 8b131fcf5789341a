use Rattle.std.proofs.Common.{◌≤◌, ◌<◌, inl, inr, arith}
use Rattle.std.proofs.lemmas.Bool.{cases_lt}
use Rattle.std.proofs.lemmas.Result.{on_ok_weaker}
use Rattle.rtps_evidence.specs.GoneRanges as gone_ranges
use Rattle.rtps_evidence.proofs.GoneLemmas.{taken_in}
use Rattle.rtps_evidence.proofs.gone_ranges.GoneRanges.add.Goals as goal

pub returns-in-Some : goal.returns-in-Some
returns-in-Some c = λ n.
    let new = c.take_out-begin.new.ranges in
    let begin = c.take_out-begin.result in
    let taken = c.take_out-begin.ensures.taken in
    let found = c.in-Some.ensures in
    let end = c.in-Some.field-0-0 in
    let same = taken_in c.args.self.now.by_end new c.args.lo c.args.hi begin n taken in
    let behind : c.args.hi < end = elim (cases_lt c.args.hi end) [
      | inl lt ↦ lt
      | inr ge ↦ let early = taken.before end c.in-Some.first found.here ge in let past = found.past in absurd (omega arith)
    ] in
    let within : (begin ≤ n) × (n < c.args.hi) → gone_ranges.IsIn new n = λ is.
    record { end = end; begin = c.in-Some.first; here = found.here; from = let low = c.if-first-begin.true in let from = is.0 in omega arith; to = let to = is.1 in omega arith } in
    (λ is. same.0 (inl is), λ is. elim (same.1 is) [ inl left ↦ left | inr range ↦ within range ])

pub returns-in_default : goal.returns-in_default
returns-in_default c =
    on_ok_weaker c.put.result (λ numbers n.
    let same = taken_in c.args.self.now.by_end c.take_out-begin.new.ranges c.args.lo c.args.hi c.take_out-begin.result n c.take_out-begin.ensures.taken in
    (λ is. same.0 ((numbers n).0 is), λ is. (numbers n).1 (same.1 is))) c.put.ensures.numbers
