use Rattle.std.proofs.Common.{◌≡◌, ◌++◌, ◌∷◌, [], subst, sym, true}
use Rattle.rtps_passes.specs.Comparison as comparison
use Rattle.rtps_passes.proofs.KeptLemmas.{kept_again, kept_more, told_of_sent}
use Rattle.rtps_passes.proofs.kept_payloads.KeptPayloads.keep.Goals as goal

pub returns-then-has : goal.returns-then-has
returns-then-has c = λ wanted placed at sent asked known.
    let found = c.has.ensures c.if-has.true in
    kept_again wanted placed c.args.self.now.payloads.items at found.0 found.1 (told_of_sent at.act c.args.entry.now found.0 found.2 sent) known

pub returns : goal.returns
returns c = λ wanted placed at sent asked known.
    let one = c.in_ok-kept.kept in
    let is = c.in_ok-kept.ensures in
    subst (comparison.AreKept wanted (placed ++ at ∷ [])) (sym c.in_ok-push.ensures.items)
    (kept_more wanted placed c.args.self.now.payloads.items at one (told_of_sent at.act c.args.entry.now one is sent) (subst (λ n. wanted n ≡ true) (sym is.number) asked) known)
