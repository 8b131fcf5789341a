-- Notes on pairs that are silent for one reason, and on pairs of best effort.
use Rattle.std.proofs.Common.{◌≡◌, ◌++◌, ◌∷◌, [], ◌∙◌, ◌==◌, ℕ, Bool, List, Option, Some, ap, append-nil, append_assoc, arith, codes, false, get_or, if◌then◌else◌, length, map, refl, sym, true}
use Rattle.std.proofs.lemmas.Bool.Decides.{nat_tests}
use Rattle.std.proofs.lemmas.Bool.{ne_eqb}
use Rattle.std.proofs.lemmas.List.{length-map}
use Rattle.std.specs.List.{flat_map}
use Rattle.rtps_parts.specs.Parts as parts_spec
use Rattle.rtps_parts.specs.declared.part.Part.{Part}
use Rattle.rtps_policies.specs.Unmatched as unmatched
use Rattle.rtps_policies.specs.declared.silence.Silence.{Silence}
use Rattle.rtps_report.specs.BestEfforts as best_efforts
use Rattle.rtps_report.specs.Talk as talk
use Rattle.rtps_report.specs.declared.talk.LeftOut.{LeftOut}
use Rattle.rtps_lines.specs.LateNotes as late_notes
use Rattle.rtps_lines.specs.Notes as notes
use Rattle.rtps_lines.specs.declared.sentences.noted.TheConstants as said

-- a note is told where there is some of it
pub some_note : (n : ℕ) (text : List ℕ) → (n ≡ 0 → ⊥) → text ∷ [] ≡ (if n == 0 then [] else text ∷ [])
some_note n text some = sym (ap (λ (none : Bool). if none then [] else text ∷ []) (ne_eqb n 0 some))

-- notes that are told one behind the other
pub behind : (before after last part rest : List (List ℕ)) → after ≡ before ++ part → last ≡ after ++ rest → last ≡ before ++ (part ++ rest)
behind before after last part rest this those = those ∙ ap (λ all. all ++ rest) this ∙ append_assoc before part rest

-- ---- pairs that are silent

pub some_silent : (named : Bool) (reason : Silence) (pairs : List LeftOut) → (length pairs == 0) ≡ false
    → notes.left_out_by reason (length pairs) (notes.left_names named (map talk.left_out_value pairs)) ∷ [] ≡ notes.silent_by named reason (map talk.left_out_value pairs)
some_silent named reason [] some = absurd (let bad = some in cc)
some_silent named reason (one ∷ more) some =
    ap (λ n. notes.left_out_by reason n (notes.left_names named (map talk.left_out_value (one ∷ more))) ∷ []) (sym (length-map (one ∷ more) talk.left_out_value))

pub none_silent : (named : Bool) (reason : Silence) (pairs : List LeftOut) → (length pairs == 0) ≡ true → [] ≡ notes.silent_by named reason (map talk.left_out_value pairs)
none_silent named reason [] none = refl
none_silent named reason (one ∷ more) none = absurd (grind (arith, nat_tests))

-- the name of one more
pub names_more : (before : Option (List ℕ)) (one : talk.LeftOutValue) (more : List talk.LeftOutValue) (start named all : List ℕ)
    → start ++ notes.names_behind before (one ∷ more) ≡ all → named ≡ start ++ notes.name_behind before one.topic → named ++ notes.names_behind (Some one.topic) more ≡ all
names_more before one more start named all so_far next =
    ap (λ text. text ++ notes.names_behind (Some one.topic) more) next ∙ append_assoc start (notes.name_behind before one.topic) (notes.names_behind (Some one.topic) more) ∙ so_far

-- those of one more that talk though they do not match
pub talking_more : (separator : List ℕ) (one : unmatched.UnmatchedValue) (more : List unmatched.UnmatchedValue) (start named all : List ℕ)
    → start ++ notes.talking_behind separator (one ∷ more) ≡ all → named ≡ start ++ notes.talking_text separator one → named ++ notes.talking_behind (codes ", ") more ≡ all
talking_more separator one more start named all so_far next =
    ap (λ text. text ++ notes.talking_behind (codes ", ") more) next ∙ append_assoc start (notes.talking_text separator one) (notes.talking_behind (codes ", ") more) ∙ so_far

-- of so many as none, none is left
pub nothing_left : {X : Type 0} (xs : List X) → length xs ≡ 0 → xs ≡ []
nothing_left [] none = refl
nothing_left (x ∷ xs) none = absurd (omega arith)

-- ---- pairs of best effort

two_texts : (parts : List Part) (d e : Part) → length parts ≡ 2 → parts_spec.part_text (get_or parts 0 d) ++ (parts_spec.part_text (get_or parts 1 e) ++ []) ≡ flat_map parts_spec.part_text parts
two_texts [] d e both = absurd (omega (arith, both))
two_texts (one ∷ []) d e both = absurd (omega (arith, both))
two_texts (one ∷ other ∷ []) d e both = refl
two_texts (one ∷ other ∷ more ∷ parts) d e both = absurd (omega (arith, both))

pub best_effort_told : (arrow shares word : List ℕ) (total : best_efforts.BestEffortValue) (pairs : ℕ) (remedy : List Part) (d e : Part) → (total.pairs ≡ 0 → ⊥) → pairs ≡ total.pairs
    → word ≡ parts_spec.words_for total.numbers (record { one = said.RECORDED_ONE.now; many = said.RECORDED_MANY.now })
    → flat_map parts_spec.part_text remedy ≡ notes.best_effort_remedy arrow total → length remedy ≡ 2
    → (parts_spec.amount pairs (record { one = said.BEST_EFFORT_ONE.now; many = said.BEST_EFFORT_MANY.now })
    ++ (parts_spec.share total.recorded total.numbers ++ (word ++ (shares ++ (parts_spec.part_text (get_or remedy 0 d) ++ (parts_spec.part_text (get_or remedy 1 e) ++ [])))))) ∷ []
    ≡ notes.best_effort_note arrow total shares
best_effort_told arrow shares word total pairs remedy d e some count words text both =
    let names : parts_spec.WordsValue = record { one = said.BEST_EFFORT_ONE.now; many = said.BEST_EFFORT_MANY.now } in
    let numbers : parts_spec.WordsValue = record { one = said.RECORDED_ONE.now; many = said.RECORDED_MANY.now } in
    let told : ℕ → List ℕ → List ℕ → List (List ℕ) = λ n w last. (parts_spec.amount n names ++ (parts_spec.share total.recorded total.numbers ++ (w ++ (shares ++ last)))) ∷ [] in
    let texts : List ℕ = parts_spec.part_text (get_or remedy 0 d) ++ (parts_spec.part_text (get_or remedy 1 e) ++ []) in
    let last : texts ≡ notes.best_effort_remedy arrow total ++ [] = two_texts remedy d e both ∙ text ∙ sym (append-nil (notes.best_effort_remedy arrow total)) in
    ap (λ n. told n word texts) count ∙ ap (λ w. told total.pairs w texts) words ∙ ap (told total.pairs (parts_spec.words_for total.numbers numbers)) last
    ∙ sym (ap (λ (none : Bool). if none then [] else told total.pairs (parts_spec.words_for total.numbers numbers) (notes.best_effort_remedy arrow total ++ [])) (ne_eqb total.pairs 0 some))

-- ---- pairs that matched late

pub matched_told : (arrow lines : List ℕ) (pairs before : ℕ) (remedy : List Part) (d e : Part) → (pairs ≡ 0 → ⊥) → flat_map parts_spec.part_text remedy ≡ late_notes.late_remedy arrow before → length remedy ≡ 2
    → (parts_spec.amount pairs (record { one = said.MATCHED_LATE_ONE.now; many = said.MATCHED_LATE_MANY.now })
    ++ (lines ++ (parts_spec.part_text (get_or remedy 0 d) ++ (parts_spec.part_text (get_or remedy 1 e) ++ [])))) ∷ []
    ≡ late_notes.matched_note arrow pairs before lines
matched_told arrow lines pairs before remedy d e some text both =
    let names : parts_spec.WordsValue = record { one = said.MATCHED_LATE_ONE.now; many = said.MATCHED_LATE_MANY.now } in
    let told : List ℕ → List (List ℕ) = λ last. (parts_spec.amount pairs names ++ (lines ++ last)) ∷ [] in
    let texts : List ℕ = parts_spec.part_text (get_or remedy 0 d) ++ (parts_spec.part_text (get_or remedy 1 e) ++ []) in
    let last : texts ≡ late_notes.late_remedy arrow before ++ [] = two_texts remedy d e both ∙ text ∙ sym (append-nil (late_notes.late_remedy arrow before)) in
    ap told last ∙ some_note pairs (parts_spec.amount pairs names ++ (lines ++ (late_notes.late_remedy arrow before ++ []))) some
