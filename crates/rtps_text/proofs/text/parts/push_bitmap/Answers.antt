use Rattle.std.proofs.Common.{◌≡◌, ◌++◌, ◌+◌, ◌∙◌, ℕ, sym, ap, rules, arith, append_assoc, slice_index, [], flat_map, string_bytes}
use Rattle.std.proofs.lemmas.List.{flat_map_more}
use Rattle.std.proofs.lemmas.List.FromFn.{map-range_with_len_more}
use Rattle.hex.specs.Hex.{encode_lower}
use Rattle.rtps_ids.specs.NumberSet as number_set
use Rattle.rtps_text.specs.ShowText as show_text
use Rattle.rtps_text.proofs.text.parts.push_bitmap.Goals as goal

-- one long more
digits_more : (set : number_set.NumberSetValue) (i : ℕ) → flat_map show_text.long_digits (show_text.first_longs set i) ++ show_text.long_digits (slice_index set.words i) ≡ flat_map show_text.long_digits (show_text.first_longs set (i + 1))
digits_more set i =
    flat_map_more show_text.long_digits [] (show_text.first_longs set i) (slice_index set.words i)
    ∙ ap (flat_map show_text.long_digits) (sym (map-range_with_len_more (λ k. slice_index set.words k) 0 i i (omega arith)))

pub loop-i-preserved : goal.loop-i-preserved
loop-i-preserved c =
    let long : encode_lower c.to_be_bytes.result ≡ show_text.long_digits (slice_index c.args.set.now.words c.loop-i.i) = search rules in
    c.in_ok-push_digits.ensures
    ∙ (ap (λ bytes. string_bytes c.loop-i.text ++ bytes) long
    ∙ (ap (λ bytes. bytes ++ show_text.long_digits (slice_index c.args.set.now.words c.loop-i.i)) c.loop-i.invariant
    ∙ (append_assoc (string_bytes c.args.text.now) _ _ ∙ ap (λ bytes. string_bytes c.args.text.now ++ bytes) (digits_more c.args.set.now c.loop-i.i))))
