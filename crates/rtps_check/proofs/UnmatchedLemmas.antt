-- The lines of writers and readers that do not match, one after another.
use Rattle.std.proofs.Common.{◌≡◌, ◌∙◌, ◌++◌, ◌==◌, ℕ, true, false, List, [], ◌∷◌, Option, None, Some, ap, arith, codes, eqb-true, length, refl, sym, true≢false}
use Rattle.std.proofs.lemmas.List.Sorted.{IsPermutation-refl}
use Rattle.rtps_ids.specs.declared.identity.Guid.{Guid}
use Rattle.rtps_lines.proofs.Offered.{three_parts}
use Rattle.rtps_lines.specs.Causes as causes
use Rattle.rtps_parts.specs.Parts as parts
use Rattle.rtps_policies.specs.Unmatched as unmatched
use Rattle.rtps_report.specs.Ends as ends
use Rattle.rtps_check.specs.TalkText as talk_text
use Rattle.rtps_lines.specs.declared.sentences.block.TheConstants as said

-- the lines of one more
pub pairs_more : (ends : Guid → ends.EndValue) (before : Option (List ℕ)) (one : unmatched.UnmatchedValue) (more : List unmatched.UnmatchedValue) (start headed told all : List ℕ)
    → start ++ talk_text.unmatched_pairs ends before (one ∷ more) ≡ all → headed ≡ start ++ talk_text.topic_line before one.writer.endpoint.topic → told ≡ headed ++ talk_text.unmatched_pair ends one
    → told ++ talk_text.unmatched_pairs ends (Some one.writer.endpoint.topic) more ≡ all
pairs_more ends before one more start headed told all so_far head pair =
    three_parts start (talk_text.topic_line before one.writer.endpoint.topic) (talk_text.unmatched_pair ends one) (talk_text.unmatched_pairs ends (Some one.writer.endpoint.topic) more) head pair refl ∙ so_far

-- there is none
pub none_by_topic : (unmatched : List unmatched.UnmatchedValue) → (length unmatched == 0) ≡ true → talk_text.AreByTopic unmatched []
none_by_topic [] none = record { all = IsPermutation-refl []; by_topic = λ k d from within. absurd (omega arith); in_order = λ one. refl }
none_by_topic (one ∷ more) none = absurd (omega (arith, eqb-true (length (one ∷ more)) 0 none))

-- the lines of some
pub some_lines : (ends : Guid → ends.EndValue) (sorted : List unmatched.UnmatchedValue) (number : ℕ) → length sorted ≡ number → (number == 0) ≡ false
    → (codes "\n" ++ (parts.amount number causes.unmatched_words ++ (codes "\n" ++ []))) ++ (talk_text.unmatched_pairs ends None sorted
    ++ talk_text.remedy_line said.UNMATCHED_REMEDY.now) ≡ talk_text.unmatched_lines ends sorted
some_lines ends [] number long some = absurd (true≢false (ap (λ n. n == 0) long ∙ some))
some_lines ends (one ∷ more) number long some =
    ap (λ n. (codes "\n" ++ (parts.amount n causes.unmatched_words ++ (codes "\n" ++ []))) ++ (talk_text.unmatched_pairs ends None (one ∷ more)
    ++ talk_text.remedy_line said.UNMATCHED_REMEDY.now)) (sym long)
