-- Which pairs matched late, with one pair more, and the rows of them, with one row more.
use Rattle.std.proofs.Common.{◌≡◌, ◌∙◌, ℕ, ◌+◌, ◌<◌, Bool, true, false, ◌||◌, cond, List, [], ◌∷◌, ◌++◌, Option, Some, None, ap, arith, count_by, get_or, length, map, refl, sym, take}
use mir.Val.{bool_byte}
use Rattle.std.specs.List.{filter_map, list_any}
use Rattle.std.specs.Ordering.{is_eq}
use Rattle.std.proofs.lemmas.List.Folds.{list_any_more}
use Rattle.rtps_discovery.specs.Listings as listings
use Rattle.rtps_discovery.specs.declared.matching.Pair.{Pair}
use Rattle.rtps_known.specs.Places as places
use Rattle.rtps_report.specs.LateMatches as late_matches
use Rattle.rtps_report.specs.Talk as talk
use Rattle.rtps_report.specs.declared.late_matches.LateMatch.{LateMatch}
use Rattle.rtps_report.specs.declared.two_lives.TwoLives.{TwoLives}
use Rattle.std.proofs.lemmas.List.{get_or-map, length-map, map_more, take-map}
use Rattle.std.proofs.lemmas.List.Elements.{filter_map-append}
use Rattle.rtps_report.proofs.NotToldLemmas.{counted_more}
use Rattle.rtps_report.proofs.RowPairLemmas.{one_pair}
use Rattle.rtps_report.proofs.TalkLemmas.{pair_alike}

-- a match that is kept
kept_or : (any : Bool) (found : Option LateMatch) → talk.late_kept true found (cond any found None) ≡ cond (any || true) found None
kept_or true None = refl
kept_or true (Some found) = refl
kept_or false None = refl
kept_or false (Some found) = refl

-- what is kept under another pair is nothing of this one
not_kept : (any : Bool) (other found : Option LateMatch) → talk.late_kept false other (cond any found None) ≡ cond (any || false) found None
not_kept true other found = refl
not_kept false other found = refl

-- a match is kept under its pair
pub late_written : (pair other : Pair) (found : LateMatch) (kept : Option LateMatch)
    → cond (is_eq (listings.pair_cmp pair other)) (Some found) kept ≡ talk.late_kept (talk.is_pair pair other) (Some found) kept
late_written pair other found kept = by (is_eq (listings.pair_cmp pair other)) ∙ ap (λ (b : Bool). talk.late_kept b (Some found) kept) (sym (pair_alike pair other))
  where
    by : (b : Bool) → cond b (Some found) kept ≡ talk.late_kept b (Some found) kept
    by true = refl
    by false = refl

-- those of some pairs, with one more
pub late_more : (acts : List places.PlacedAct) (lives : List TwoLives) (pairs : List Pair) (i : ℕ) (d : Pair) (pair : Pair) (found old new : Option LateMatch) → i < length pairs
    → new ≡ talk.late_kept (talk.is_pair (get_or pairs i d) pair) found old → found ≡ late_matches.late_of acts lives (get_or pairs i d)
    → old ≡ talk.late_among acts lives (take i pairs) pair → new ≡ talk.late_among acts lives (take (i + 1) pairs) pair
late_more acts lives pairs i d pair found old new within added is so_far =
    added
    ∙ ap (λ (match : Option LateMatch). talk.late_kept (talk.is_pair one pair) match old) is
    ∙ ap (talk.late_kept (talk.is_pair one pair) (late_matches.late_of acts lives one)) so_far
    ∙ by (talk.is_pair one pair) refl
    ∙ ap (λ (some : Bool). cond some (late_matches.late_of acts lives pair) None) (sym (list_any_more (λ (other : Pair). talk.is_pair other pair) pairs i d within))
  where
    one : Pair
    one = get_or pairs i d

    any : Bool
    any = list_any (λ (other : Pair). talk.is_pair other pair) (take i pairs)

    by : (b : Bool) → talk.is_pair one pair ≡ b → talk.late_kept b (late_matches.late_of acts lives one) (cond any (late_matches.late_of acts lives pair) None) ≡ cond (any || b) (late_matches.late_of acts lives pair) None
    by true e =
        ap (λ (that : Pair). talk.late_kept true (late_matches.late_of acts lives that) (cond any (late_matches.late_of acts lives pair) None)) (one_pair one pair e)
        ∙ kept_or any (late_matches.late_of acts lives pair)
    by false e = not_kept any (late_matches.late_of acts lives one) (late_matches.late_of acts lives pair)

-- how many of some rows pass a test, with one more
pub counted_row : {X Y : Type 0} (view : X → Y) (p : Y → Bool) (xs : List X) (i : ℕ) (d : X) (b : Bool) → i < length xs → p (view (get_or xs i d)) ≡ b
    → count_by p (map view (take i xs)) + bool_byte b ≡ count_by p (map view (take (i + 1) xs))
counted_row view p xs i d b within e =
    let size : length (map view xs) ≡ length xs = length-map xs view in
    ap (λ (those : List _). count_by p those + bool_byte b) (sym (take-map view i xs))
    ∙ counted_more p (map view xs) i (view d) b (omega (arith, within, size)) (ap p (get_or-map view xs i d (view d) within) ∙ e) ∙ ap (count_by p) (take-map view (i + 1) xs)

-- of some rows those that are found, with one more
pub found_more : {X Y V : Type 0} (view : X → Y) (h : Y → Option V) (xs : List X) (i : ℕ) (d : X) (found : Option V) (old : List V) → i < length xs → found ≡ h (view (get_or xs i d))
    → old ≡ filter_map h (map view (take i xs)) → old ++ filter_map (λ (one : Option V). one) (found ∷ []) ≡ filter_map h (map view (take (i + 1) xs))
found_more {V = V} view h xs i d found old within is so_far =
    ap (λ (front : List V). front ++ filter_map (λ (one : Option V). one) (found ∷ [])) so_far
    ∙ ap (λ (one : Option V). filter_map h (map view (take i xs)) ++ filter_map (λ (other : Option V). other) (one ∷ [])) is
    ∙ sym (ap (filter_map h) (map_more view xs i d within) ∙ filter_map-append h (map view (take i xs)) (view (get_or xs i d) ∷ []))
