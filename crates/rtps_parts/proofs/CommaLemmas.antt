-- Commas between digits that are appended one by one.
use Rattle.std.proofs.Common.{◌≡◌, ◌++◌, ◌∷◌, [], ◌∙◌, ℕ, List, ap, append_assoc, length, sym}
use Rattle.rtps_parts.specs.Parts as parts

pub digit_more : (start text one two rest more : List ℕ) (digit : ℕ) → rest ≡ digit ∷ more → one ≡ text ++ digit ∷ []
    → two ≡ one ++ parts.comma_before (length more) → text ++ parts.with_commas rest ≡ start → two ++ parts.with_commas more ≡ start
digit_more start text one two rest more digit is first second same =
    let comma = parts.comma_before (length more) in
    let left = parts.with_commas more in
    ap (λ all. all ++ left) (second ∙ ap (λ all. all ++ comma) first)
    ∙ append_assoc (text ++ digit ∷ []) comma left ∙ append_assoc text (digit ∷ []) (comma ++ left)
    ∙ sym (ap (λ all. text ++ parts.with_commas all) is) ∙ same
