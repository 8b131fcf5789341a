use Rattle.std.proofs.Common.{◌∙◌, refl}
use Rattle.std.proofs.lemmas.Result.{err_from_is_err_and}
use Rattle.rtps_tool.specs.Sums as sums
use Rattle.rtps_tool.specs.declared.passes.pass.Pass.{Pass}
use Rattle.rtps_tool.proofs.PassesLemmas.{of_known}
use Rattle.rtps_tool.proofs.passes.reading.first_pass.Goals as goal

pub returns-clause-known : goal.returns-clause-known
returns-clause-known g c = λ all start known fresh was.
    let begun : Pass g.row.T.Denot = record { number = c.args.pass.now.number; taker = start; sum = sums.initial } in
    let found = c.in_ok-whole.ensures.known all begun (of_known (g.S.Source.octets c.args.source.now) (g.R.Read.remaining c.rewind.new.reader) all c.in_ok-rewind.ensures known) (was, fresh) in
    (refl, record { whole = found.0; sum = c.sum.ensures ∙ found.1.1 }, found.1.0)

pub returns-in_err-whole-clause-known : goal.returns-in_err-whole-clause-known
returns-in_err-whole-clause-known g c = λ all start known fresh was.
    let p = err_from_is_err_and c.from_residual-in_err-whole.result c.from_residual-in_err-whole.ensures.1 in
    let begun : Pass g.row.T.Denot = record { number = c.args.pass.now.number; taker = start; sum = sums.initial } in
    rw (p.1, p.2) (c.in_err-whole.ensures.known all begun (of_known (g.S.Source.octets c.args.source.now) (g.R.Read.remaining c.rewind.new.reader) all c.in_ok-rewind.ensures known) (was, fresh))
