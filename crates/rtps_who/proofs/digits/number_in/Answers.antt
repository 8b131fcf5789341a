use Rattle.std.proofs.Common.{◌∙◌, ap, arith, get_or, sym}
use Rattle.std.proofs.lemmas.Bool.{eqb-true}
use Rattle.rtps_who.specs.Digits as digits
use Rattle.rtps_who.proofs.DigitLemmas.{all_read, decimal_more, digits_more, no_digit, no_text, not_empty, too_large}
use Rattle.rtps_who.proofs.digits.number_in.Goals as goal

pub returns-then-not-is_digit : goal.returns-then-not-is_digit
returns-then-not-is_digit c = no_digit c.args.octets.now c.loop-octet.octet-index (omega arith) (sym c.is_digit.ensures ∙ c.if-not-is_digit.true)

pub returns-in_err-value : goal.returns-in_err-value
returns-in_err-value c = c.from_residual.ensures ∙ too_large c.args.octets.now c.loop-octet.octet-index c.loop-octet.value (omega arith) c.loop-octet.invariant.1 c.in_err-value.ensures

pub loop-octet-preserved : goal.loop-octet-preserved
loop-octet-preserved c = (
  digits_more c.args.octets.now c.loop-octet.octet-index (omega arith) c.loop-octet.invariant.0 (sym c.is_digit.ensures ∙ c.if-not-is_digit.false),
  c.in_ok-value.ensures.1 ∙ ap (λ v. digits.digit_more v (get_or c.args.octets.now c.loop-octet.octet-index 0)) c.loop-octet.invariant.1 ∙ sym (decimal_more c.args.octets.now c.loop-octet.octet-index (omega arith)),
  omega (arith, c.in_ok-value.ensures.0, c.in_ok-value.ensures.1),
)

pub returns-then-is_empty : goal.returns-then-is_empty
returns-then-is_empty c = no_text c.args.octets.now (eqb-true _ _ (sym c.is_empty.ensures ∙ c.if-is_empty.true))

pub returns : goal.returns
returns c =
    all_read c.args.octets.now c.loop-octet.octet-index c.loop-octet.value (not_empty _ (sym c.is_empty.ensures ∙ c.if-is_empty.false)) (omega arith) c.loop-octet.invariant.0 c.loop-octet.invariant.1 c.loop-octet.invariant.2
