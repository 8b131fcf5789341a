-- The lines of what discovery did not tell, and of two lives.
use Rattle.std.proofs.Common.{◌≡◌, ◌<◌, ◌∙◌, ◌+◌, ◌++◌, ◌==◌, ℕ, List, [], ◌∷◌, ap, append_assoc, codes, false, flat_map, get_or, length, map, refl, sym, take, true≢false}
use Rattle.std.proofs.lemmas.List.Folds.{flat_map-map}
use Rattle.std.specs.List.{concat}
use Rattle.rtps_evidence.specs.Times as times
use Rattle.rtps_lines.specs.Causes as causes
use Rattle.rtps_parts.specs.Parts as parts
use Rattle.rtps_report.specs.NotTold as not_told
use Rattle.rtps_report.specs.Talk as talk
use Rattle.rtps_report.specs.declared.two_lives.TwoLives.{TwoLives}
use Rattle.rtps_check.specs.DiscoveryText as discovery_text
use Rattle.rtps_check.specs.TalkText as talk_text
use Rattle.rtps_check.proofs.OneWayLemmas.{lines_more}
use Rattle.rtps_lines.specs.declared.sentences.block.TheConstants as said

-- the lines of some participants with two lives
pub some_lives : (times : times.TimesValue) (talk : talk.TalkValue) (ones : List TwoLives) (number : ℕ) → length ones ≡ number → (number == 0) ≡ false
    → concat (codes "\n" ∷ parts.amount number causes.lives_words ∷ codes "\n" ∷ [])
    ++ (flat_map (discovery_text.lives_line times talk) ones ++ talk_text.remedy_line said.LIVES_REMEDY.now)
    ≡ discovery_text.lives_by times talk ones
some_lives times talk [] number long some = absurd (true≢false (ap (λ n. n == 0) long ∙ some))
some_lives times talk (one ∷ more) number long some =
    ap (λ n. concat (codes "\n" ∷ parts.amount n causes.lives_words ∷ codes "\n" ∷ [])
    ++ (flat_map (discovery_text.lives_line times talk) (one ∷ more) ++ talk_text.remedy_line said.LIVES_REMEDY.now))
    (sym long)

-- the lines of one more, of values
pub values_more : {X Y : Type 0} (line : Y → List ℕ) (value : X → Y) (items : List X) (i : ℕ) (one : X) (start told new : List ℕ) → i < length items
    → told ≡ start ++ flat_map line (map value (take i items)) → new ≡ told ++ line (value (get_or items i one)) → new ≡ start ++ flat_map line (map value (take (i + 1) items))
values_more {X} line value items i one start told new within so_far more =
    lines_more (λ (x : X). line (value x)) items i one start told new within (so_far ∙ ap (λ all. start ++ all) (flat_map-map line value (take i items))) more
    ∙ ap (λ all. start ++ all) (sym (flat_map-map line value (take (i + 1) items)))

-- the lines of some of whom not all was told
pub some_not_told : (talk : talk.TalkValue) (ones : List not_told.NotToldValue) (number : ℕ) → length ones ≡ number → (number == 0) ≡ false
    → codes "\ndiscovery is not complete\n" ++ flat_map (discovery_text.not_told_lines talk) ones ≡ discovery_text.not_told_by talk ones
some_not_told talk [] number long some = absurd (true≢false (ap (λ n. n == 0) long ∙ some))
some_not_told talk (one ∷ more) number long some = refl

-- parts behind parts
pub parts_joined : {A : Type 0} (a b c d e f : List A) → (a ++ (b ++ c)) ++ ((d ++ e) ++ f) ≡ a ++ (b ++ (c ++ (d ++ (e ++ f))))
parts_joined a b c d e f =
    append_assoc a (b ++ c) ((d ++ e) ++ f) ∙ ap (λ all. a ++ all) (append_assoc b c ((d ++ e) ++ f) ∙ ap (λ all. b ++ (c ++ all)) (append_assoc d e f))
