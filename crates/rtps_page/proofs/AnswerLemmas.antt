-- The acts of the answers of a pair among the acts of its reader.
use Rattle.std.proofs.Common.{◌≡◌, ◌+◌, ◌<◌, ◌≤◌, ◌&&◌, ◌++◌, ◌∷◌, [], ◌∙◌, ℕ, suc, List, Bool, true, false, Option, Some, None, ap, append-nil, arith, cond, drop, get_or, if◌then◌else◌, is_some, length, map, refl, sym, take}
use Rattle.std.proofs.lemmas.Bool.Decides.{nat_tests}
use Rattle.std.proofs.lemmas.List.{length-append, length_push, map-append, nil_from_length, take-append-drop, take-take}
use Rattle.std.proofs.lemmas.List.Elements.{filter-append}
use Rattle.rtps_discovery.specs.declared.matching.Pair.{Pair}
use Rattle.rtps_ids.specs.declared.identity.Guid.{Guid}
use Rattle.rtps_ids.specs.declared.identity.GuidPrefix.{GuidPrefix}
use Rattle.rtps_receiver.specs.Speech as receiver_speech
use Rattle.rtps_receiver.specs.Values as values
use Rattle.rtps_audit.specs.Placed as placed
use Rattle.rtps_audit.specs.Speech as audit_speech
use Rattle.rtps_audit.specs.declared.placed.Placed.{Placed}
use Rattle.std.specs.List.{cons_option}
use Rattle.rtps_page.specs.ChartEntries as chart_entries
use Rattle.rtps_page.proofs.EntryLemmas.{answers_yes}

-- ---- there are as many answers as acts of answers

answer_has_base : (writer reader : Guid) (source : GuidPrefix) (dest : Option GuidPrefix) (body : values.ActBodyValue)
    → is_some (if receiver_speech.is_prefix source reader.prefix && (receiver_speech.is_for dest writer.prefix && receiver_speech.names_pair body reader.entity writer.entity) then audit_speech.base_of_body body else None)
    ≡ (receiver_speech.is_prefix source reader.prefix && (receiver_speech.is_for dest writer.prefix && receiver_speech.names_pair body reader.entity writer.entity))
answer_has_base writer reader source dest body = grind (arith, nat_tests)

pub as_many : (pair : Pair) (acts : List placed.PlacedValue) → length (placed.answers_among pair acts) ≡ length (chart_entries.answers_in pair acts)
as_many pair [] = refl
as_many pair (x ∷ acts) =
    by (audit_speech.base_for pair.writer pair.reader x.act) (receiver_speech.is_answer x.act pair.reader pair.writer) (answer_has_base pair.writer pair.reader x.act.source x.act.dest x.act.body) (as_many pair acts)
  where
    by : (base : Option ℕ) (b : Bool) → is_some base ≡ b → length (placed.answers_among pair acts) ≡ length (chart_entries.answers_in pair acts)
        → length (cons_option (placed.answer_at x.datagram x.act.at base) (placed.answers_among pair acts)) ≡ length (cond b (x ∷ chart_entries.answers_in pair acts) (chart_entries.answers_in pair acts))
    by None true e same = absurd (let clash : false ≡ true = e in cc)
    by None false e same = same
    by (Some base) true e same = ap (λ n. suc n) same
    by (Some base) false e same = absurd (let clash : true ≡ false = e in cc)

-- ---- some of the acts, as many as there are of the front, are all of it

nothing_more : {X : Type 0} (found front rest : List X) → length found ≤ length front → length found ≡ length (front ++ rest) → rest ≡ []
nothing_more found front rest few all = nil_from_length rest (omega (arith, few, all, length-append front rest))

same_with : {X : Type 0} (found front rest : List X) → length found ≤ length front → (length found ≡ length front → found ≡ front) → length found ≡ length (front ++ rest) → found ≡ front ++ rest
same_with found front rest few same all =
    same (omega (arith, few, all, length-append front rest)) ∙ sym (append-nil front) ∙ ap (λ l. front ++ l) (sym (nothing_more found front rest few all))

-- the answers among acts up to a place are those up to an earlier one, and others
abbrev later : Pair → List Placed → ℕ → ℕ → List placed.PlacedValue
later pair acts n m = chart_entries.answers_in pair (map placed.placed_value (drop n (take m acts)))

up_to : (pair : Pair) (acts : List Placed) (n m : ℕ) → n ≤ m → chart_entries.answers_in pair (map placed.placed_value (take m acts)) ≡ chart_entries.answers_in pair (map placed.placed_value (take n acts)) ++ later pair acts n m
up_to pair acts n m le =
    ap (λ (l : List Placed). chart_entries.answers_in pair (map placed.placed_value l)) (sym (take-append-drop n (take m acts)) ∙ ap (λ (l : List Placed). l ++ drop n (take m acts)) (take-take n m acts le))
    ∙ ap (chart_entries.answers_in pair) (map-append placed.placed_value (take n acts) (drop n (take m acts)))
    ∙ filter-append (λ placed. receiver_speech.is_answer placed.act pair.reader pair.writer) (map placed.placed_value (take n acts)) (map placed.placed_value (drop n (take m acts)))

all_of : (pair : Pair) (acts : List Placed) (n : ℕ) → chart_entries.answers_in pair (map placed.placed_value acts) ≡ chart_entries.answers_in pair (map placed.placed_value (take n acts)) ++ chart_entries.answers_in pair (map placed.placed_value (drop n acts))
all_of pair acts n =
    ap (λ (l : List Placed). chart_entries.answers_in pair (map placed.placed_value l)) (sym (take-append-drop n acts))
    ∙ ap (chart_entries.answers_in pair) (map-append placed.placed_value (take n acts) (drop n acts))
    ∙ filter-append (λ placed. receiver_speech.is_answer placed.act pair.reader pair.writer) (map placed.placed_value (take n acts)) (map placed.placed_value (drop n acts))

-- acts of answers that were found in front of a place: no more than there are, and all of them where they are as many
pub record AreFound (pair : Pair) (acts : List Placed) (next : ℕ) (found : List placed.PlacedValue) : Type 0 where
  pub few : length found ≤ length (chart_entries.answers_in pair (map placed.placed_value (take next acts)))
  pub same : length found ≡ length (chart_entries.answers_in pair (map placed.placed_value (take next acts))) → found ≡ chart_entries.answers_in pair (map placed.placed_value (take next acts))

pub none_found : (pair : Pair) (acts : List Placed) → AreFound pair acts 0 []
none_found pair acts = record { few = omega arith; same = λ e. refl }

pub found_more : (pair : Pair) (acts : List Placed) (next place : ℕ) (x : Placed) (found : List placed.PlacedValue) → AreFound pair acts next found → next ≤ place → place < length acts → x ≡ get_or acts place x
    → receiver_speech.is_answer (placed.placed_value x).act pair.reader pair.writer ≡ true → AreFound pair acts (place + 1) (found ++ placed.placed_value x ∷ [])
found_more pair acts next place x found are le lt at is =
    let front = chart_entries.answers_in pair (map placed.placed_value (take next acts)) in
    let rest = later pair acts next place in
    let one = placed.placed_value x in
    let before = up_to pair acts next place le in
    let now : chart_entries.answers_in pair (map placed.placed_value (take (place + 1) acts)) ≡ (front ++ rest) ++ one ∷ [] = answers_yes pair acts place x lt at is ∙ ap (λ l. l ++ one ∷ []) before in
    record {
      few = omega (arith, are.few, ap length now, length_push found one, length_push (front ++ rest) one, length-append front rest);
      same = λ e.
          let long : length found ≡ length (front ++ rest) = omega (arith, e, ap length now, length_push found one, length_push (front ++ rest) one) in
          ap (λ l. l ++ one ∷ []) (same_with found front rest are.few are.same long) ∙ sym now;
    }

pub all_found : (pair : Pair) (acts : List Placed) (next : ℕ) (found : List placed.PlacedValue) → AreFound pair acts next found → length found ≡ length (chart_entries.answers_in pair (map placed.placed_value acts))
    → found ≡ chart_entries.answers_in pair (map placed.placed_value acts)
all_found pair acts next found are long =
    let front = chart_entries.answers_in pair (map placed.placed_value (take next acts)) in
    let rest = chart_entries.answers_in pair (map placed.placed_value (drop next acts)) in
    same_with found front rest are.few are.same (long ∙ ap length (all_of pair acts next)) ∙ sym (all_of pair acts next)
