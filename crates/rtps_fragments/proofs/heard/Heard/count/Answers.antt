use Rattle.std.proofs.Common.{◌≡◌, ◌∙◌, ◌<◌, ◌≤◌, ap, arith, cond, subst, sym}
use Rattle.std.specs.Prelude.{◌==◌, nat_lt, true, false}
use Rattle.std.proofs.lemmas.Bool.Decides.{nat_tests}
use Rattle.rtps_fragments.specs.Heard as heard
use Rattle.rtps_fragments.proofs.KeptLemmas.{below, not_below, samples_counted}
use Rattle.rtps_fragments.proofs.heard.Heard.count.Goals as goal

pub returns-then-front-last-clause-samples : goal.returns-then-front-last-clause-samples
returns-then-front-last-clause-samples c = λ came is.
    let less : nat_lt (heard.kept_front c.args.self.now) c.args.last ≡ true = below (heard.kept_front c.args.self.now) c.args.last (subst (λ n. n < c.args.last) c.front.ensures c.if-front-last.true) in
    sym (samples_counted c.args.last came c.args.self.now is c.requires ∙ ap (λ b. cond b 0 (cond (c.args.self.now.other == 0) 1 2)) less)

pub returns-then-self-eq0-clause-samples : goal.returns-then-self-eq0-clause-samples
returns-then-self-eq0-clause-samples c = λ came is.
    let whole : nat_lt (heard.kept_front c.args.self.now) c.args.last ≡ false = not_below (heard.kept_front c.args.self.now) c.args.last (subst (λ n. c.args.last ≤ n) c.front.ensures (omega (arith, c.if-front-last.false))) in
    let none : (c.args.self.now.other == 0) ≡ true = grind (arith, nat_tests) in
    sym (samples_counted c.args.last came c.args.self.now is c.requires ∙ ap (λ b. cond b 0 (cond (c.args.self.now.other == 0) 1 2)) whole ∙ ap (λ b. cond b 1 2) none)

pub returns-else-self-eq0-clause-samples : goal.returns-else-self-eq0-clause-samples
returns-else-self-eq0-clause-samples c = λ came is.
    let whole : nat_lt (heard.kept_front c.args.self.now) c.args.last ≡ false = not_below (heard.kept_front c.args.self.now) c.args.last (subst (λ n. c.args.last ≤ n) c.front.ensures (omega (arith, c.if-front-last.false))) in
    let some : (c.args.self.now.other == 0) ≡ false = grind (arith, nat_tests) in
    sym (samples_counted c.args.last came c.args.self.now is c.requires ∙ ap (λ b. cond b 0 (cond (c.args.self.now.other == 0) 1 2)) whole ∙ ap (λ b. cond b 1 2) some)
