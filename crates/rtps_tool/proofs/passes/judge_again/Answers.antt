use Rattle.std.proofs.Common.{[], subst, sym}
use Rattle.std.proofs.lemmas.Result.{err_from_is_err_and}
use Rattle.rtps_passes.specs.Judging as judging
use Rattle.rtps_tool.specs.declared.passes.takers.Judged.{Judged}
use Rattle.rtps_tool.proofs.passes.judge_again.Goals as goal

pub returns-clause-known : goal.returns-clause-known
returns-clause-known g c = λ all acts known is map.
    let start = c.new-pass.result.taker in
    let pairs = judging.pairs_in c.args.directory.now in
    let begun = subst (λ (judged : Judged). judging.IsJudgingBy c.args.from pairs [] judged.judging) (sym c.new-pass.ensures.taker) (c.in_ok-judging.ensures acts map) in
    rw c.into_taker.ensures (c.in_ok-read_again.ensures.known all start known is c.new-pass.ensures.sum (λ from pairs is. is) c.args.from pairs begun)

pub returns-in_err-read_again-clause-known : goal.returns-in_err-read_again-clause-known
returns-in_err-read_again-clause-known g c = λ all acts known is map.
    let p = err_from_is_err_and c.from_residual-in_err-read_again.result c.from_residual-in_err-read_again.ensures.1 in
    rw (p.1, p.2) (c.in_err-read_again.ensures.known all c.new-pass.result.taker known is c.new-pass.ensures.sum (λ from pairs is. is))
