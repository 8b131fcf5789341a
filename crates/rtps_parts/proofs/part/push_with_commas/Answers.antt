use Rattle.std.proofs.Common.{◌≡◌, ◌<◌, ◌++◌, ◌∷◌, [], ◌∙◌, ap, subst, suc, sym}
use Rattle.std.specs.Str.{IsAscii}
use Rattle.std.specs.String.{string_bytes}
use Rattle.rtps_parts.proofs.CommaLemmas.{digit_more}
use Rattle.rtps_parts.proofs.part.push_with_commas.Goals as goal

pub digits-preserved : goal.digits-preserved
digits-preserved c =
    let is = c.in-Some.ensures.cases.0 in
    let all : IsAscii (c.in-Some.digit.now ∷ c.in-Some.more.now) = subst IsAscii is c.digits.invariant.ascii in
    let small : c.from.result < 128 = subst (λ code. code < 128) (sym c.from.ensures) (all 0) in
    let text = string_bytes c.digits.text in
    let pushed : string_bytes c.push.new.self ≡ text ++ c.in-Some.digit.now ∷ [] =
    c.in_ok-push.ensures.bytes ∙ ap (λ code. text ++ code) (c.push.ensures.ascii small ∙ ap (λ code. code ∷ []) c.from.ensures) in
    record {
      ascii = λ i. all (suc i);
      same = digit_more _ text _ _ _ c.in-Some.more.now c.in-Some.digit.now is pushed c.in_ok-push_comma.ensures c.digits.invariant.same;
    }
