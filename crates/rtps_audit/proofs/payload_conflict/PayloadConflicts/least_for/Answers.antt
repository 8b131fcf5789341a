use Rattle.std.proofs.Common.{◌≡◌, ◌<◌, ◌≤◌, ◌+◌, ◌++◌, ◌∷◌, [], Some, ◌∙◌, ap, arith, length, rules, subst, sym, take}
use Rattle.std.proofs.lemmas.List.{take_all, take_more}
use Rattle.rtps_audit.specs.PayloadConflict as payload_conflict
use Rattle.rtps_audit.proofs.PayloadHearing.{IsHeardSoFar, heard_least, heard_more, heard_skip, two_heard, two_kept}
use Rattle.rtps_audit.proofs.PayloadRuns.{none_greater}
use Rattle.rtps_audit.proofs.payload_conflict.PayloadConflicts.least_for.Goals as goal
use Rattle.rtps_audit.proofs.payload_conflict.PayloadConflicts.least_for.Goals.{then-has+else-is_another, else-has}

pub returns-then-is_another-clause-conflict : goal.returns-then-is_another-clause-conflict
returns-then-is_another-clause-conflict c = λ from wanted writer placed known writers asks two_wanted.
    let xs = c.args.self.now.payloads.items in
    let within : c.loop-place.place < length xs = omega (arith, c.loop-place-test.true, c.len-place-end.ensures) in
    let least = heard_least xs c.loop-place.place c.args.reader c.loop-place.before c.index-here.result.now c.args.self.now.sorted within c.index-here.ensures (sym c.has.ensures ∙ c.if-has.true) (c.is_another.ensures.0 (search rules)) c.loop-place.invariant in
    record { holds = two_heard from wanted xs writer c.args.reader placed _ known writers asks least.holds; least = λ m two. least.least m (two_kept from wanted xs writer c.args.reader placed m known (two_wanted m two) two) }

pub loop-place-preserved : goal.loop-place-preserved
loop-place-preserved c =
    let xs = c.args.self.now.payloads.items in
    let place = c.loop-place.place in
    let here = c.index-here.result.now in
    let within : place < length xs = omega (arith, c.loop-place-test.true, c.len-place-end.ensures) in
    let more : take place xs ++ here ∷ [] ≡ take (place + 1) xs = ap (λ x. take place xs ++ x ∷ []) c.index-here.ensures ∙ sym (take_more xs place here within) in
    elim c.if-has.branch [
      | then-has+else-is_another w ↦ subst (λ b. IsHeardSoFar (take (place + 1) xs) c.args.reader b) (sym w.before-is)
          (subst (λ l. IsHeardSoFar l c.args.reader (Some here)) more
          (heard_more (take place xs) c.args.reader c.loop-place.before here (sym c.has.ensures ∙ w.if-has.true)
          (λ e among. subst (λ x. payload_conflict.number_in e ≤ payload_conflict.number_in x) (sym c.index-here.ensures) (none_greater xs place here e c.args.self.now.sorted within among)) (λ other. let no = w.is_another.ensures.1 other in search rules) c.loop-place.invariant))
      | else-has w ↦ subst (λ b. IsHeardSoFar (take (place + 1) xs) c.args.reader b) (sym w.before-is)
          (subst (λ l. IsHeardSoFar l c.args.reader c.loop-place.before) more (heard_skip (take place xs) c.args.reader c.loop-place.before here (sym c.has.ensures ∙ w.if-has.false) c.loop-place.invariant))
    ]

pub returns-clause-conflict : goal.returns-clause-conflict
returns-clause-conflict c = λ from wanted writer placed known writers asks two_wanted n two.
    let xs = c.args.self.now.payloads.items in
    let all : take c.loop-place.place xs ≡ xs = take_all c.loop-place.place xs (omega (arith, c.loop-place-test.false, c.len-place-end.ensures)) in
    let agree = subst (λ l. IsHeardSoFar l c.args.reader c.loop-place.before) all c.loop-place.invariant in
    agree.agree n (two_kept from wanted xs writer c.args.reader placed n known (two_wanted n two) two)
