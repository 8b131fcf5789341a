-- The lines of pairs of best effort of which not all numbers arrived, one after another.
use Rattle.std.proofs.Common.{◌≡◌, ◌∙◌, ◌++◌, ◌==◌, ℕ, true, false, List, [], ◌∷◌, Option, None, Some, ap, arith, eqb-true, length, refl, sum_by, sym, true≢false}
use Rattle.rtps_ids.specs.declared.identity.Guid.{Guid}
use Rattle.rtps_lines.proofs.Offered.{three_parts}
use Rattle.rtps_report.specs.Ends as ends
use Rattle.rtps_report.specs.BestEfforts as best_efforts
use Rattle.rtps_check.specs.ArrivedText as arrived_text
use Rattle.rtps_check.specs.TalkText as talk_text
use Rattle.rtps_lines.specs.declared.sentences.block.TheConstants as said

pub empty_list : {X : Type 0} (xs : List X) → (length xs == 0) ≡ true → xs ≡ []
empty_list [] none = refl
empty_list (x ∷ xs) none = absurd (omega (arith, eqb-true (length (x ∷ xs)) 0 none))

pub nothing_left : {X : Type 0} (xs : List X) → length xs ≡ 0 → xs ≡ []
nothing_left [] none = refl
nothing_left (x ∷ xs) none = absurd (omega arith)

-- the lines of one more
pub pairs_more : (ends : Guid → ends.EndValue) (before : Option (List ℕ)) (one : best_efforts.HeldValue) (more : List best_efforts.HeldValue) (start headed told all : List ℕ)
    → start ++ arrived_text.lossy_pairs ends before (one ∷ more) ≡ all → headed ≡ start ++ talk_text.topic_line before one.topic → told ≡ headed ++ arrived_text.lossy_pair ends one
    → told ++ arrived_text.lossy_pairs ends (Some one.topic) more ≡ all
pairs_more ends before one more start headed told all so_far head pair =
    three_parts start (talk_text.topic_line before one.topic) (arrived_text.lossy_pair ends one) (arrived_text.lossy_pairs ends (Some one.topic) more) head pair refl ∙ so_far

-- the lines of some
pub some_lossy : (ends : Guid → ends.EndValue) (sorted : List best_efforts.HeldValue) (lost number : ℕ) → sum_by arrived_text.lost_of sorted ≡ lost → length sorted ≡ number → (number == 0) ≡ false
    → arrived_text.lossy_head lost number ++ (arrived_text.lossy_pairs ends None sorted ++ talk_text.remedy_line said.LOST_REMEDY.now) ≡ arrived_text.lossy_lines ends sorted
some_lossy ends [] lost number sum long some = absurd (true≢false (ap (λ n. n == 0) long ∙ some))
some_lossy ends (one ∷ more) lost number sum long some =
    let end = talk_text.remedy_line said.LOST_REMEDY.now in
    ap (λ n. arrived_text.lossy_head lost n ++ (arrived_text.lossy_pairs ends None (one ∷ more) ++ end)) (sym long)
    ∙ ap (λ n. arrived_text.lossy_head n (length (one ∷ more)) ++ (arrived_text.lossy_pairs ends None (one ∷ more) ++ end)) (sym sum)
