-- What an answer claims behind the last one that passes is claimed.
use Rattle.std.proofs.Common.{◌≡◌, ◌||◌, ℕ, Bool, true, false, cond, List, [], ◌∷◌, Option, Some, None, refl, ap, ◌∙◌}
use Rattle.std.specs.Prelude.{is_some, not}
use Rattle.std.specs.List.{find, list_any}
use Rattle.std.proofs.lemmas.Bool.{and_parts}
use Rattle.rtps_discovery.specs.declared.matching.Pair.{Pair}
use Rattle.rtps_audit.specs.Placed as placed
use Rattle.rtps_evidence.specs.Locations as locations
use Rattle.rtps_evidence.specs.LostAnswers as lost_answers
use Rattle.rtps_evidence.specs.Missed as missed
use Rattle.rtps_evidence.specs.Received as received

-- what is behind the last one that passes is among all
any_behind : (passes has : placed.PlacedValue → Bool) (acts : List placed.PlacedValue) → list_any has (lost_answers.behind_last passes acts) ≡ true → list_any has acts ≡ true
any_behind passes has [] is = is
any_behind passes has (x ∷ xs) is = by (any_behind passes has xs) (list_any passes xs) (passes x) is
  where
    or_yes : (b : Bool) → (b || true) ≡ true
    or_yes true = refl
    or_yes false = refl

    more : list_any has xs ≡ true → (has x || list_any has xs) ≡ true
    more among = ap (λ b. has x || b) among ∙ or_yes (has x)

    by : (list_any has (lost_answers.behind_last passes xs) ≡ true → list_any has xs ≡ true) → (later here : Bool) → list_any has (cond later (lost_answers.behind_last passes xs) (cond here xs [])) ≡ true → (has x || list_any has xs) ≡ true
    by onward true here is = more (onward is)
    by onward false true is = more is
    by onward false false is = absurd (let no : false ≡ true = is in cc)

found_some : (has : placed.PlacedValue → Bool) (acts : List placed.PlacedValue) → list_any has acts ≡ true → is_some (find has acts) ≡ true
found_some has [] is = is
found_some has (x ∷ xs) is = by (found_some has xs) (has x) is
  where
    by : (list_any has xs ≡ true → is_some (find has xs) ≡ true) → (b : Bool) → (b || list_any has xs) ≡ true → is_some (cond b (Some x) (find has xs)) ≡ true
    by onward true is = refl
    by onward false is = onward is

-- a number that is excused is claimed
pub excused_is_claimed : (pair : Pair) (acts : List placed.PlacedValue) (n : ℕ) → missed.is_excused pair.writer pair.reader acts n ≡ true → is_some (received.first_claiming pair.writer pair.reader n acts) ≡ true
excused_is_claimed pair acts n is =
    by (locations.find_last (lost_answers.lacks_by_answer pair.writer pair.reader n) acts)
    (and_parts (not (list_any (lost_answers.answers_another pair.writer pair.reader) acts)) (missed.is_excused_by pair.writer pair.reader acts n (locations.find_last (lost_answers.lacks_by_answer pair.writer pair.reader n) acts)) is).1
  where
    by : (asking : Option placed.PlacedValue) → missed.is_excused_by pair.writer pair.reader acts n asking ≡ true → is_some (received.first_claiming pair.writer pair.reader n acts) ≡ true
    by None is = absurd (let no : false ≡ true = is in cc)
    by (Some asking) is =
        found_some (received.claims pair.writer pair.reader n) acts (any_behind (lost_answers.lacks_by_answer pair.writer pair.reader n) (received.claims pair.writer pair.reader n) acts
        (and_parts (lost_answers.is_claimed_then pair.writer pair.reader acts n) (missed.lacks_there pair.writer pair.reader acts (missed.again_behind (locations.location_of asking) pair.writer pair.reader n acts)) is).0)
