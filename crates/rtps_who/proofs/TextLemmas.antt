-- The first place of an octet.
use Rattle.std.proofs.Common.{◌≡◌, ◌∙◌, ℕ, zero, suc, ◌+◌, ◌<◌, Bool, if◌then◌else◌, List, [], ◌∷◌, Some, None, ap, arith, get_or, length, refl}
use Rattle.std.specs.Option.{option_map}
use Rattle.std.proofs.lemmas.Bool.{eq-eqb, ne_eqb}
use Rattle.rtps_who.specs.Texts as texts

pub place_here : (mark : ℕ) (octets : List ℕ) (place : ℕ) → place < length octets → ((before : ℕ) → before < place → get_or octets before 0 ≡ mark → ⊥) → get_or octets place 0 ≡ mark
    → texts.place_of mark octets ≡ Some place
place_here mark [] place less none here = absurd (omega arith)
place_here mark (octet ∷ octets) zero less none here = ap (λ (same : Bool). if same then Some 0 else option_map (λ place. place + 1) (texts.place_of mark octets)) (eq-eqb octet mark here)
place_here mark (octet ∷ octets) (suc place) less none here =
    ap (λ (same : Bool). if same then Some 0 else option_map (λ place. place + 1) (texts.place_of mark octets)) (ne_eqb octet mark (none 0 (omega arith)))
    ∙ ap (option_map (λ place. place + 1)) (place_here mark octets place (omega arith) (λ before less. none (suc before) (omega arith)) here)
    ∙ ap (λ place. Some place) (omega arith)

pub place_nowhere : (mark : ℕ) (octets : List ℕ) → ((before : ℕ) → before < length octets → get_or octets before 0 ≡ mark → ⊥) → texts.place_of mark octets ≡ None
place_nowhere mark [] none = refl
place_nowhere mark (octet ∷ octets) none =
    ap (λ (same : Bool). if same then Some 0 else option_map (λ place. place + 1) (texts.place_of mark octets)) (ne_eqb octet mark (none 0 (omega arith)))
    ∙ ap (option_map (λ place. place + 1)) (place_nowhere mark octets (λ before less. none (suc before) (omega arith)))
