-- Where a mark is, and what topics are named.
use Rattle.std.proofs.Common.{◌≡◌, ◌∙◌, ◌<◌, ◌≤◌, ◌+◌, ◌-◌, ◌++◌, ℕ, zero, suc, Bool, true, false, if◌then◌else◌, List, [], ◌∷◌, Option, Some, None, ap, append_assoc, arith, drop, length, nat_eq, refl, sym, take}
use Rattle.std.specs.Fmt.{HasWritten}
use Rattle.std.specs.List.{ends_with, flat_map, starts_with}
use Rattle.std.specs.Option.{option_map}
use Rattle.std.specs.Prelude.{codes}
use Rattle.std.specs.declared.fmt.Formatter.{Formatter}
use Rattle.std.proofs.lemmas.Bool.Decides.{Decides-eqb}
use Rattle.std.proofs.lemmas.Grind.{flat_map-append, put_two}
use Rattle.std.proofs.lemmas.List.{length-append, take_at}
use Rattle.std.proofs.lemmas.Slice.Eq.{ends_is}
use Rattle.rtps_parts.specs.Names as names
use Rattle.rtps_parts.specs.RosNames as ros_names

-- the first place at which a mark begins
pub mark_here : (kind : List ℕ) (place : ℕ) → place < length kind → ((before : ℕ) → before < place → starts_with nat_eq (drop before kind) ros_names.mark ≡ false)
    → starts_with nat_eq (drop place kind) ros_names.mark ≡ true → ros_names.mark_place kind ≡ Some place
mark_here [] place less none here = absurd (omega arith)
mark_here (octet ∷ octets) zero less none here = ap (λ (begins : Bool). if begins then Some 0 else option_map (λ place. place + 1) (ros_names.mark_place octets)) here
mark_here (octet ∷ octets) (suc place) less none here =
    ap (λ (begins : Bool). if begins then Some 0 else option_map (λ place. place + 1) (ros_names.mark_place octets)) (none 0 (omega arith))
    ∙ ap (option_map (λ place. place + 1)) (mark_here octets place (omega arith) (λ before less. none (suc before) (omega arith)) here)
    ∙ ap (λ place. Some place) (omega arith)

-- there is none
pub mark_nowhere : (kind : List ℕ) → ((before : ℕ) → before < length kind → starts_with nat_eq (drop before kind) ros_names.mark ≡ false) → ros_names.mark_place kind ≡ None
mark_nowhere [] none = refl
mark_nowhere (octet ∷ octets) none =
    ap (λ (begins : Bool). if begins then Some 0 else option_map (λ place. place + 1) (ros_names.mark_place octets)) (none 0 (omega arith))
    ∙ ap (option_map (λ place. place + 1)) (mark_nowhere octets (λ before less. none (suc before) (omega arith)))

-- ---- what is written part by part

-- a scope, a slash and a name
pub type_parts : (scope name : List ℕ) → flat_map names.octet_text (scope ++ (codes "/" ++ name)) ≡ flat_map names.octet_text scope ++ (codes "/" ++ flat_map names.octet_text name)
unfolding names.octet_text
type_parts scope name = flat_map-append names.octet_text scope (47 ∷ name)

module _ {W : Type 0} (took : W → List ℕ → W → Type 0) where
  -- what is written, then what is written behind it, and what is left
  pub more_written : (f g h : Formatter W) (a b rest left all : List ℕ) → HasWritten took f a g → a ++ rest ≡ all → HasWritten took g b h → rest ≡ b ++ left
      → (written : List ℕ) × HasWritten took f written h × (written ++ left ≡ all)
  more_written f g h a b rest left all first is next parts =
      (a ++ b, put_two took f g h a b (a ++ b) first next refl, append_assoc a b left ∙ ap (λ text. a ++ text) (sym parts) ∙ is)

-- ---- the names of topics

ends_here : (front ends : List ℕ) → ends_with nat_eq (front ++ ends) ends ≡ true
ends_here front ends = (ends_is Decides-eqb (front ++ ends) ends _ refl).1 front refl

-- what is between the slash and an end
between : (x ends : List ℕ) (count : ℕ) → length (47 ∷ x) ≡ count → take count (47 ∷ (x ++ ends)) ≡ 47 ∷ x
between x ends count is = take_at (47 ∷ x) ends count is

pub topics_named : ros_names.TopicsAreNamed
topics_named = record {
  topic = λ x. refl;
  request = λ x.
      let end = codes "Request" in
      let topic = codes "rq/" ++ (x ++ end) in
      let long : length (x ++ end) ≡ length x + length end = length-append x end in
      ap (λ (service : Bool). if service then ros_names.service_of end topic ++ codes " request" else topic) (ends_here x end)
      ∙ ap (λ (name : List ℕ). name ++ codes " request") (between x end _ (omega arith));
  reply = λ x.
      let end = codes "Reply" in
      let topic = codes "rr/" ++ (x ++ end) in
      let long : length (x ++ end) ≡ length x + length end = length-append x end in
      ap (λ (service : Bool). if service then ros_names.service_of end topic ++ codes " reply" else topic) (ends_here x end)
      ∙ ap (λ (name : List ℕ). name ++ codes " reply") (between x end _ (omega arith));
}
