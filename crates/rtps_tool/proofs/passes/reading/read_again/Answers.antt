use Rattle.std.proofs.Common.{MutBor, ◌∙◌, List, ap, arith, sym}
use Rattle.rtps_capture.specs.Course as course
use Rattle.rtps_tool.specs.Sums as sums
use Rattle.rtps_tool.specs.declared.passes.pass.Pass.{Pass}
use Rattle.rtps_tool.proofs.PassesLemmas.{all_within, fails_again, not_changed, of_known, read_fault_again, size_of_whole}
use Rattle.rtps_tool.proofs.passes.reading.read_again.Goals as goal

pub returns-in-Err-clause-known : goal.returns-in-Err-clause-known
returns-in-Err-clause-known g c = λ all start known is fresh was.
    let first = c.args.first in
    let begun : Pass g.row.T.Denot = record { number = c.args.pass.now.number; taker = start; sum = sums.initial } in
    let left = ap (λ (reader : MutBor _). g.R.Read.remaining reader.now) c.take-input.ensures.inner ∙ of_known (g.S.Source.octets c.args.source.now) (g.R.Read.remaining c.rewind.new.reader) all c.in_ok-rewind.ensures known in
    let limited = all_within c.take-input.result.limit all (g.R.Read.remaining c.take-input.result.inner.now) left (omega (arith, c.take-input.ensures.limit, c.octets.ensures, size_of_whole first.terms.limits first.terms.captures all first.whole is.whole)) in
    rw c.fault_again.ensures (fails_again c.course_is_told.ensures all first c.in-Err.fault is (c.in-Err.ensures.known all begun limited (was, fresh)))

pub returns-in-Err-clause-fault : goal.returns-in-Err-clause-fault
returns-in-Err-clause-fault g c = rw c.fault_again.ensures (read_fault_again c.in-Err.fault c.in-Err.ensures.fault)

pub returns-then-is_found_again-clause-known : goal.returns-then-is_found_again-clause-known
returns-then-is_found_again-clause-known g c = λ all start known is fresh was.
    let first = c.args.first in
    let begun : Pass g.row.T.Denot = record { number = c.args.pass.now.number; taker = start; sum = sums.initial } in
    let left = ap (λ (reader : MutBor _). g.R.Read.remaining reader.now) c.take-input.ensures.inner ∙ of_known (g.S.Source.octets c.args.source.now) (g.R.Read.remaining c.rewind.new.reader) all c.in_ok-rewind.ensures known in
    let limited = all_within c.take-input.result.limit all (g.R.Read.remaining c.take-input.result.inner.now) left (omega (arith, c.take-input.ensures.limit, c.octets.ensures, size_of_whole first.terms.limits first.terms.captures all first.whole is.whole)) in
    (c.in-Ok.ensures.known all begun limited (was, fresh)).1.0

pub returns-else-is_found_again-clause-known : goal.returns-else-is_found_again-clause-known
returns-else-is_found_again-clause-known g c = λ all start known is fresh was.
    let first = c.args.first in
    let begun : Pass g.row.T.Denot = record { number = c.args.pass.now.number; taker = start; sum = sums.initial } in
    let now = c.read_pass.new.taker in
    let left = ap (λ (reader : MutBor _). g.R.Read.remaining reader.now) c.take-input.ensures.inner ∙ of_known (g.S.Source.octets c.args.source.now) (g.R.Read.remaining c.rewind.new.reader) all c.in_ok-rewind.ensures known in
    let limited = all_within c.take-input.result.limit all (g.R.Read.remaining c.take-input.result.inner.now) left (omega (arith, c.take-input.ensures.limit, c.octets.ensures, size_of_whole first.terms.limits first.terms.captures all first.whole is.whole)) in
    absurd (not_changed all first (λ (datagrams : List course.DatagramValue). g.T.Take.has_taken start datagrams now.taker) now.sum c.in-Ok.found c.sum.result is
    (c.in-Ok.ensures.known all begun limited (was, fresh)) c.sum.ensures (sym c.is_found_again.ensures ∙ c.if-is_found_again.false))
