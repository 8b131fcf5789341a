-- An act that names a destination is one naming more, and counts once for its datagram.
use Rattle.std.proofs.Common.{◌≡◌, ◌∙◌, ℕ, ◌+◌, Bool, true, false, ◌&&◌, ◌||◌, cond, if◌then◌else◌, List, Option, Some, None, ap, arith, not, refl, sym, unwrap_or}
use Rattle.std.specs.Cmp.{both_tied}
use Rattle.std.specs.Cmp.Lexicographic.{slice_cmp, texts_ties}
use Rattle.std.specs.Ordering.{is_eq, nat_cmp}
use Rattle.std.proofs.lemmas.Bool.{false≢true}
use Rattle.std.proofs.lemmas.Map.Lookups.{CmpEqualImpliesEq, exact_bytes, exact_pairs}
use Rattle.std.proofs.lemmas.Map.Views.{tells_apart}
use Rattle.rtps_ids.specs.declared.identity.GuidPrefix.{GuidPrefix}
use Rattle.rtps_receiver.specs.Speech as speech
use Rattle.rtps_receiver.specs.Values as values
use Rattle.rtps_policies.specs.Namings as namings
use Rattle.rtps_policies.specs.declared.naming.Naming.{Naming}

-- namings that compare alike are one
naming_of_parts : List ℕ × List ℕ → Naming
naming_of_parts parts = record { source = record { 0 = parts.0 }; dest = record { 0 = parts.1 } }

pub exact_namings : CmpEqualImpliesEq namings.naming_cmp
unfolding naming_of_parts
exact_namings a b h =
    ap naming_of_parts (exact_pairs (slice_cmp nat_cmp) (slice_cmp nat_cmp) exact_bytes exact_bytes (a.source.0, a.dest.0) (b.source.0, b.dest.0) h)

-- and those compare alike that have the same octets
alike : (one other : Naming) → is_eq (namings.naming_cmp one other) ≡ (speech.is_prefix one.source other.source && speech.is_prefix one.dest other.dest)
alike one other = sym (both_tied _ _ (slice_cmp nat_cmp one.source.0 other.source.0) (slice_cmp nat_cmp one.dest.0 other.dest.0) (texts_ties one.source.0 other.source.0) (texts_ties one.dest.0 other.dest.0))

-- the naming of an act
pub named_is : (act : values.ActValue) (dest : GuidPrefix) (naming : Naming) → act.dest ≡ Some dest → is_eq (namings.naming_cmp (record { source = act.source; dest = dest }) naming) ≡ namings.names naming act
named_is act dest naming is =
    alike (record { source = act.source; dest = dest }) naming ∙ ap (λ d. speech.is_prefix act.source naming.source && speech.is_for d naming.dest) (sym is)

none_of : (one : Bool) → (one && false) ≡ false
none_of true = refl
none_of false = refl

pub unnamed_is : (act : values.ActValue) (naming : Naming) → act.dest ≡ None → namings.names naming act ≡ false
unnamed_is act naming is = ap (λ d. speech.is_prefix act.source naming.source && speech.is_for d naming.dest) is ∙ none_of (speech.is_prefix act.source naming.source)

either : (one old : Bool) → cond one true old ≡ (old || one)
either true true = refl
either true false = refl
either false true = refl
either false false = refl

or_none : (old : Bool) → old ≡ (old || false)
or_none true = refl
or_none false = refl

-- ---- one act

pub seen_none : (act : values.ActValue) (naming : Naming) (old : Bool) → act.dest ≡ None → old ≡ (old || namings.names naming act)
seen_none act naming old is = or_none old ∙ ap (λ b. old || b) (sym (unnamed_is act naming is))

pub count_none : (act : values.ActValue) (naming : Naming) (old : Bool) (count : ℕ) → act.dest ≡ None → count ≡ count + (if namings.names naming act && not old then 1 else 0)
count_none act naming old count is = let zero_more : count ≡ count + 0 = omega arith in zero_more ∙ ap (λ (b : Bool). count + (if b && not old then 1 else 0)) (sym (unnamed_is act naming is))

pub seen_one : (act : values.ActValue) (dest : GuidPrefix) (naming : Naming) (old new : Bool) → act.dest ≡ Some dest → new ≡ cond (is_eq (namings.naming_cmp (record { source = act.source; dest = dest }) naming)) true old
    → new ≡ (old || namings.names naming act)
seen_one act dest naming old new is updates = updates ∙ either (is_eq (namings.naming_cmp (record { source = act.source; dest = dest }) naming)) old ∙ ap (λ b. old || b) (named_is act dest naming is)

-- a naming that was seen counts no more
pub count_seen : (act : values.ActValue) (dest : GuidPrefix) (seen : Naming → Bool) (count : ℕ) (naming : Naming) → act.dest ≡ Some dest → seen (record { source = act.source; dest = dest }) ≡ true
    → count ≡ count + (if namings.names naming act && not (seen naming) then 1 else 0)
count_seen act dest seen count naming is there =
    by (is_eq (namings.naming_cmp (record { source = act.source; dest = dest }) naming)) refl ∙ ap (λ (b : Bool). count + (if b && not (seen naming) then 1 else 0)) (named_is act dest naming is)
  where
    by : (same : Bool) → is_eq (namings.naming_cmp (record { source = act.source; dest = dest }) naming) ≡ same → count ≡ count + (if same && not (seen naming) then 1 else 0)
    by false e = omega arith
    by true e =
        let one : record { source = act.source; dest = dest } ≡ naming = tells_apart exact_namings (record { source = act.source; dest = dest }) naming e in
        let zero_more : count ≡ count + 0 = omega arith in
        zero_more ∙ ap (λ (b : Bool). count + (if not b then 1 else 0)) (sym (ap seen (sym one) ∙ there))

-- a naming that was not seen counts
pub count_new : (act : values.ActValue) (dest : GuidPrefix) (seen : Naming → Bool) (old new : Naming → Option ℕ) (count : ℕ) (naming : Naming) → act.dest ≡ Some dest
    → seen (record { source = act.source; dest = dest }) ≡ false → count ≡ unwrap_or (old (record { source = act.source; dest = dest })) 0
    → new naming ≡ cond (is_eq (namings.naming_cmp (record { source = act.source; dest = dest }) naming)) (Some (count + 1)) (old naming)
    → unwrap_or (new naming) 0 ≡ unwrap_or (old naming) 0 + (if namings.names naming act && not (seen naming) then 1 else 0)
count_new act dest seen old new count naming is absent counted updates =
    ap (λ o. unwrap_or o 0) updates ∙ by (is_eq (namings.naming_cmp (record { source = act.source; dest = dest }) naming)) refl
    ∙ ap (λ (b : Bool). unwrap_or (old naming) 0 + (if b && not (seen naming) then 1 else 0)) (named_is act dest naming is)
  where
    by : (same : Bool) → is_eq (namings.naming_cmp (record { source = act.source; dest = dest }) naming) ≡ same
        → unwrap_or (cond same (Some (count + 1)) (old naming)) 0 ≡ unwrap_or (old naming) 0 + (if same && not (seen naming) then 1 else 0)
    by false e = omega arith
    by true e =
        let one : record { source = act.source; dest = dest } ≡ naming = tells_apart exact_namings (record { source = act.source; dest = dest }) naming e in
        ap (λ n. n + 1) (counted ∙ ap (λ n. unwrap_or (old n) 0) one) ∙ ap (λ (b : Bool). unwrap_or (old naming) 0 + (if not b then 1 else 0)) (sym (ap seen (sym one) ∙ absent))

-- ---- the acts of a datagram

pub count_more : (start before after : ℕ) (so_far here : Bool) → before ≡ start + (if so_far then 1 else 0) → after ≡ before + (if here && not so_far then 1 else 0)
    → after ≡ start + (if so_far || here then 1 else 0)
count_more start before after true true was is = omega arith
count_more start before after true false was is = omega arith
count_more start before after false true was is = omega arith
count_more start before after false false was is = omega arith

pub not_false : (test : Bool) → not test ≡ false → test ≡ true
not_false true is = refl
not_false false is = absurd (false≢true (sym is))
