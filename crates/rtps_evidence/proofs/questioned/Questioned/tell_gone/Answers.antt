use Rattle.std.proofs.Common.{◌≡◌, ◌≤◌, ◌<◌, ◌⊎◌, arith, max, min, refl, subst}
use Rattle.std.specs.Prelude.{◌↔◌}
use Rattle.std.proofs.lemmas.Result.{on_ok_weaker}
use Rattle.rtps_coverage.specs.Stretches as stretches
use Rattle.rtps_evidence.specs.Silences as silences
use Rattle.rtps_evidence.specs.declared.questioned.Questioned.{Questioned}
use Rattle.rtps_evidence.proofs.QuestionedLemmas.{told_so}
use Rattle.rtps_evidence.proofs.questioned.Questioned.tell_gone.Goals as goal

pub returns : goal.returns
returns c =
    let old = c.args.self.now in
    let moment = c.args.moment.now in
    let lo = c.args.numbers.start in
    let hi = c.args.numbers.end in
    let was = stretches.stretches_have c.args.silent.now.items in
    let is = stretches.stretches_have c.push_silent.new.silent.items in
    let new : Questioned = record { asked = old.asked; once = old.once; again = old.again; answered = old.answered; gone = c.add.new.self } in
    let start : c.max-start.result ≡ max lo old.answered = (let one = c.max-start.ensures in omega (arith, one)) in
    let top : c.min.result ≡ min hi old.again = (let one = c.min.ensures in omega (arith, one)) in
    let hush : silences.AreHushed old moment (max lo old.answered) (min hi old.again) was is =
    subst (λ s. silences.AreHushed old moment s (min hi old.again) was is) start (subst (λ t. silences.AreHushed old moment c.max-start.result t was is) top c.in_ok-push_silent.ensures) in
    on_ok_weaker c.add.result (λ gone n silence at.
    told_so moment old new n silence lo hi was is refl refl refl refl hush (subst (λ s. silences.IsGone new n ↔ (silences.IsGone old n ⊎ ((s ≤ n) × (n < hi)))) start (gone n)) at) c.add.ensures
