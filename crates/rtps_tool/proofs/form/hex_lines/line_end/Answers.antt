use Rattle.std.proofs.Common.{◌≡◌, ℕ, List, Bool, true, false, not, cond, ltb, Option, Some, None, length, get_or, refl, sym, ap, ◌∙◌, arith}
use Rattle.std.proofs.lemmas.List.Sums.{prefix_len_is}
use Rattle.std.specs.List.{position, position_or_len}
use Rattle.memchr.specs.Find.{IsFirstByte, is_byte}
use Rattle.rtps_tool.specs.Lines as lines
use Rattle.rtps_tool.proofs.form.hex_lines.line_end.Goals as goal

flipped : (b : Bool) → (b ≡ true → ⊥) → not b ≡ true
flipped true h = absurd (h refl)
flipped false h = refl

first_is : (text : List ℕ) (r : Option ℕ) → IsFirstByte (is_byte 10) text r → r ≡ position lines.is_line_feed text
first_is text None h =
    let n = prefix_len_is (λ x. not (lines.is_line_feed x)) text (length text) 0 (omega arith) (λ k lt. flipped (lines.is_line_feed (get_or text k 0)) (h k (omega arith) lt)) (λ lt. absurd (omega arith)) in
    let past : ltb (position_or_len lines.is_line_feed text) (length text) ≡ false = rw n (search arith) in
    ap (λ (b : Bool). cond b (Some (position_or_len lines.is_line_feed text)) None) (sym past)
first_is text (Some k) h =
    let n = prefix_len_is (λ x. not (lines.is_line_feed x)) text k 0 (omega (arith, h.0.high)) (λ j lt. flipped (lines.is_line_feed (get_or text j 0)) (h.0.before j (omega arith) lt)) (λ lt. ap not h.1) in
    let within : ltb (position_or_len lines.is_line_feed text) (length text) ≡ true = rw n (search (arith, h.0.high)) in
    ap Some (sym n) ∙ ap (λ (b : Bool). cond b (Some (position_or_len lines.is_line_feed text)) None) (sym within)

pub returns : goal.returns
returns c = first_is c.args.text.now c.memchr.result c.memchr.ensures
