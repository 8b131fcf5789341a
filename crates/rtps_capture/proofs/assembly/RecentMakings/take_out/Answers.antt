use Rattle.std.proofs.Common.{◌<◌, ◌≤◌, ◌∙◌, length, refl, sym, subst, ap, ap₂, arith, ℕ}
use Rattle.std.specs.Prelude.{IsSome, Option}
use Rattle.std.specs.Option.{unwrap_or}
use Rattle.rtps_capture.proofs.RecentLemmas.{none_out, not_within, one_out}
use Rattle.rtps_capture.proofs.assembly.RecentMakings.take_out.Goals as goal

pub returns-in-Some-clause-making : goal.returns-in-Some-clause-making
returns-in-Some-clause-making c =
    let recent = c.args.self.now.makings in
    let is = c.unwrap_or-place.ensures ∙ ap₂ (λ (o : Option ℕ) (n : ℕ). unwrap_or o n) c.place_of.ensures (c.len.ensures ∙ recent.ok.0) in
    let within : c.unwrap_or-place.result < length recent.items = omega (arith, c.remove.ensures.variant.0 (subst IsSome (sym c.in-Some.is) refl), recent.ok.0) in
    (one_out c.args.identification recent.items c.unwrap_or-place.result c.in-Some.there is within c.in-Some.ensures.value).0

pub returns-in-Some-clause-others : goal.returns-in-Some-clause-others
returns-in-Some-clause-others c =
    let recent = c.args.self.now.makings in
    let is = c.unwrap_or-place.ensures ∙ ap₂ (λ (o : Option ℕ) (n : ℕ). unwrap_or o n) c.place_of.ensures (c.len.ensures ∙ recent.ok.0) in
    let within : c.unwrap_or-place.result < length recent.items = omega (arith, c.remove.ensures.variant.0 (subst IsSome (sym c.in-Some.is) refl), recent.ok.0) in
    c.in-Some.ensures.items ∙ (one_out c.args.identification recent.items c.unwrap_or-place.result c.in-Some.there is within c.in-Some.ensures.value).1

pub returns-in-None-clause-making : goal.returns-in-None-clause-making
returns-in-None-clause-making c =
    let recent = c.args.self.now.makings in
    let is = c.unwrap_or-place.ensures ∙ ap₂ (λ (o : Option ℕ) (n : ℕ). unwrap_or o n) c.place_of.ensures (c.len.ensures ∙ recent.ok.0) in
    let past : length recent.items ≤ c.unwrap_or-place.result =
    not_within c.unwrap_or-place.result (length recent.items)
    (λ less. let some = subst IsSome c.in-None.is (c.remove.ensures.variant.1 (omega (arith, less, recent.ok.0))) in cc) in
    c.new.ensures ∙ (none_out c.args.identification recent.items c.unwrap_or-place.result is past).0

pub returns-in-None-clause-others : goal.returns-in-None-clause-others
returns-in-None-clause-others c =
    let recent = c.args.self.now.makings in
    let is = c.unwrap_or-place.ensures ∙ ap₂ (λ (o : Option ℕ) (n : ℕ). unwrap_or o n) c.place_of.ensures (c.len.ensures ∙ recent.ok.0) in
    let past : length recent.items ≤ c.unwrap_or-place.result =
    not_within c.unwrap_or-place.result (length recent.items)
    (λ less. let some = subst IsSome c.in-None.is (c.remove.ensures.variant.1 (omega (arith, less, recent.ok.0))) in cc) in
    ap (λ q. q.items) c.in-None.ensures.unchanged ∙ (none_out c.args.identification recent.items c.unwrap_or-place.result is past).1
