-- One act more of what is kept of matches, and what that tells.
use Rattle.std.proofs.Common.{◌≡◌, ◌∙◌, ℕ, Bool, true, false, List, [], ◌∷◌, ◌++◌, Option, Some, None, ap, ap₂, cond, refl, sym}
use Rattle.std.specs.BTreeMap.{get, is_at}
use Rattle.std.specs.List.{cons_option, filter_map}
use Rattle.std.specs.Map.{lookup}
use Rattle.std.specs.Option.{option_or}
use Rattle.std.proofs.lemmas.List.Elements.{filter_map-append}
use Rattle.rtps_ids.specs.declared.identity.Guid.{Guid}
use Rattle.rtps_ids.specs.declared.identity.GuidPrefix.{GuidPrefix}
use Rattle.rtps_discovery.specs.GuidOrder as guid_order
use Rattle.rtps_policies.specs.Announcing as announcing
use Rattle.rtps_policies.specs.Told as told_spec
use Rattle.rtps_known.specs.Bulletins as bulletins
use Rattle.rtps_known.specs.Learning as learning
use Rattle.rtps_known.specs.Places as places
use Rattle.rtps_known.specs.Spreads as spreads
use Rattle.rtps_known.specs.declared.spread.Spread.{Spread}

-- ---- the first value of a GUID

lookup_append : {X : Type 0} (test : Guid → Bool) (xs ys : List (Guid × X)) → lookup test (xs ++ ys) ≡ option_or (lookup test xs) (lookup test ys)
lookup_append test [] ys = refl
lookup_append test (x ∷ xs) ys = by (test x.0) (lookup_append test xs ys)
  where
    by : (b : Bool) → lookup test (xs ++ ys) ≡ option_or (lookup test xs) (lookup test ys)
        → cond b (Some x.1) (lookup test (xs ++ ys)) ≡ option_or (cond b (Some x.1) (lookup test xs)) (lookup test ys)
    by true onward = refl
    by false onward = onward

nothing_more : {X : Type 0} (one : Option X) → option_or one None ≡ one
nothing_more None = refl
nothing_more (Some x) = refl

told_more : {X : Type 0} (tells : places.PlacedAct → Option (Guid × X)) (acts : List places.PlacedAct) (placed : places.PlacedAct) (guid : Guid)
    → announcing.first_of guid (filter_map tells (acts ++ placed ∷ [])) ≡ option_or (announcing.first_of guid (filter_map tells acts)) (announcing.first_of guid (cons_option (tells placed) []))
told_more tells acts placed guid =
    ap (announcing.first_of guid) (filter_map-append tells acts (placed ∷ [])) ∙ lookup_append (is_at (guid_order.guid_cmp guid)) (filter_map tells acts) (cons_option (tells placed) [])

-- an act tells one
pub first_more : {X : Type 0} (tells : places.PlacedAct → Option (Guid × X)) (acts : List places.PlacedAct) (placed : places.PlacedAct) (old new : List (Guid × X)) (told : Guid × X) → Some told ≡ tells placed
    → told_spec.KeepsFirst old new told.0 told.1 → ((guid : Guid) → announcing.first_of guid old ≡ announcing.first_of guid (filter_map tells acts))
    → (guid : Guid) → announcing.first_of guid new ≡ announcing.first_of guid (filter_map tells (acts ++ placed ∷ []))
first_more tells acts placed old new told is kept were guid =
    kept guid ∙ ap (λ o. option_or o (announcing.first_of guid (told ∷ []))) (were guid)
    ∙ ap (λ t. option_or (announcing.first_of guid (filter_map tells acts)) (announcing.first_of guid (cons_option t []))) is ∙ sym (told_more tells acts placed guid)

-- an act tells none
pub first_same : {X : Type 0} (tells : places.PlacedAct → Option (Guid × X)) (acts : List places.PlacedAct) (placed : places.PlacedAct) (old : List (Guid × X)) → None ≡ tells placed
    → ((guid : Guid) → announcing.first_of guid old ≡ announcing.first_of guid (filter_map tells acts)) → (guid : Guid) → announcing.first_of guid old ≡ announcing.first_of guid (filter_map tells (acts ++ placed ∷ []))
first_same tells acts placed old none were guid =
    were guid ∙ sym (nothing_more (announcing.first_of guid (filter_map tells acts)))
    ∙ ap (λ t. option_or (announcing.first_of guid (filter_map tells acts)) (announcing.first_of guid (cons_option t []))) none ∙ sym (told_more tells acts placed guid)

-- ---- what is kept tells

learned_same : (inquiry : learning.Inquiry) (one other : List places.PlacedAct) → spreads.TellsTheSame inquiry one other → learning.learned inquiry one ≡ learning.learned inquiry other
learned_same inquiry one other same = ap₂ option_or same.again same.first

pub learned_never : (acts : List places.PlacedAct) (writer : Guid) (prefix : GuidPrefix) (n : ℕ) → spreads.IsQuietIn writer acts → None ≡ learning.learned (spreads.inquiry_of writer prefix n) acts
learned_never acts writer prefix n were = learned_same (spreads.inquiry_of writer prefix n) [] acts (were prefix n)

pub claimed_kept : (acts : List places.PlacedAct) (writer : Guid) (prefix : GuidPrefix) (spread : Spread) → spreads.IsSpreadOf writer acts spread
    → get bulletins.prefix_cmp spread.firsts prefix ≡ places.place_of (learning.claims (spreads.inquiry_of writer prefix 1)) acts
claimed_kept acts writer prefix spread were = were.firsts prefix

pub claimed_never : (acts : List places.PlacedAct) (writer : Guid) (prefix : GuidPrefix) (n : ℕ) → spreads.IsQuietIn writer acts → None ≡ places.place_of (learning.claims (spreads.inquiry_of writer prefix n)) acts
claimed_never acts writer prefix n were = (were prefix n).claimed
