-- The lines of participants that talk one way.
use Rattle.std.proofs.Common.{◌≡◌, ◌<◌, ◌∙◌, ◌+◌, ◌++◌, ◌==◌, ℕ, List, [], ◌∷◌, ap, append-nil, append_assoc, codes, false, flat_map, get_or, length, sym, take, true≢false}
use Rattle.std.proofs.lemmas.List.{take_more}
use Rattle.std.proofs.lemmas.List.Concat.{flat_map-append}
use Rattle.std.specs.List.{concat}
use Rattle.rtps_ids.specs.declared.identity.Guid.{Guid}
use Rattle.rtps_lines.proofs.Offered.{two_parts}
use Rattle.rtps_parts.specs.Parts as parts
use Rattle.rtps_policies.specs.declared.one_way.OneWay.{OneWay}
use Rattle.rtps_report.specs.Ends as ends
use Rattle.rtps_check.specs.TalkText as talk_text
use Rattle.rtps_lines.specs.declared.sentences.block.TheConstants as said

-- parts behind others
pub parts_behind : {A : Type 0} (a b c d e more : List A) → (a ++ (b ++ (c ++ (d ++ e)))) ++ more ≡ a ++ (b ++ (c ++ (d ++ (e ++ more))))
parts_behind a b c d e more =
    append_assoc a (b ++ (c ++ (d ++ e))) more
    ∙ ap (λ all. a ++ all) (append_assoc b (c ++ (d ++ e)) more ∙ ap (λ all. b ++ all) (append_assoc c (d ++ e) more ∙ ap (λ all. c ++ all) (append_assoc d e more)))

-- the lines of one more
pub lines_more : {X : Type 0} (line : X → List ℕ) (items : List X) (i : ℕ) (one : X) (start told new : List ℕ) → i < length items
    → told ≡ start ++ flat_map line (take i items) → new ≡ told ++ line (get_or items i one) → new ≡ start ++ flat_map line (take (i + 1) items)
lines_more line items i one start told new within so_far more =
    two_parts start (flat_map line (take i items)) (line (get_or items i one)) so_far more
    ∙ ap (λ last. start ++ (flat_map line (take i items) ++ last)) (sym (append-nil (line (get_or items i one))))
    ∙ ap (λ all. start ++ all) (sym (flat_map-append line (take i items) (get_or items i one ∷ [])))
    ∙ ap (λ all. start ++ flat_map line all) (sym (take_more items i one within))

-- the lines of some
pub some_one_way : (ends : Guid → ends.EndValue) (ones : List OneWay) (number : ℕ) → length ones ≡ number → (number == 0) ≡ false
    → concat (codes "\n" ∷ parts.amount number (record { one = said.ONE_WAY_ONE.now; many = said.ONE_WAY_MANY.now }) ∷ codes "\n" ∷ [])
    ++ (flat_map (talk_text.one_way_lines ends) ones ++ talk_text.remedy_line said.ONE_WAY_REMEDY.now) ≡ talk_text.one_way_by ends ones
some_one_way ends [] number long some = absurd (true≢false (ap (λ n. n == 0) long ∙ some))
some_one_way ends (one ∷ more) number long some =
    ap (λ n. concat (codes "\n" ∷ parts.amount n (record { one = said.ONE_WAY_ONE.now; many = said.ONE_WAY_MANY.now }) ∷ codes "\n" ∷ [])
    ++ (flat_map (talk_text.one_way_lines ends) (one ∷ more) ++ talk_text.remedy_line said.ONE_WAY_REMEDY.now)) (sym long)
