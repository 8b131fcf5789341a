-- When there is something of a participant, with one datagram more.
use Rattle.std.proofs.Common.{Bor, ◌≡◌, ◌∙◌, ℕ, ◌+◌, ◌<◌, ◌≤◌, Bool, true, false, cond, List, [], ◌∷◌, ◌++◌, Option, Some, None, append-nil, ap, ap₂, arith, filter, length, map, max, option_map, refl, suc, sym, take}
use Rattle.std.specs.BTreeMap.{get}
use Rattle.std.specs.Cmp.Lexicographic.{texts_ties}
use Rattle.std.specs.List.{enumerate_from, list_all}
use Rattle.std.specs.Ordering.{is_eq}
use Rattle.std.specs.Prelude.{is_some}
use Rattle.std.proofs.lemmas.List.{length-map, length-take-le, map-append, map_push}
use Rattle.std.proofs.lemmas.List.Elements.{filter-append}
use Rattle.std.proofs.lemmas.Map.Lookups.{CmpEqualImpliesEq, exact_bytes}
use Rattle.std.proofs.lemmas.Map.Views.{tells_apart}
use Rattle.rtps_ids.specs.declared.identity.GuidPrefix.{GuidPrefix}
use Rattle.rtps_receiver.specs.Speech as speech
use Rattle.rtps_evidence.specs.Times as times_spec
use Rattle.rtps_report.specs.Stays as stays
use Rattle.rtps_report.specs.declared.presence.Presence.{Presence}
use Rattle.rtps_report.specs.declared.presence.Presences.{Presences}

-- prefixes that compare alike are one
prefix_by : List ℕ → GuidPrefix
prefix_by octets = record { 0 = octets }

exact_prefixes : CmpEqualImpliesEq stays.prefix_cmp
unfolding prefix_by
exact_prefixes one other h = ap prefix_by (exact_bytes one.0 other.0 h)

-- ---- one presence

-- a presence is written under the prefix of a sender
pub presence_written : (old : GuidPrefix → Option Presence) (datagram : ℕ) (time : Option ℕ) (source prefix : GuidPrefix) (presence : Presence)
    → Some presence ≡ stays.presence_with datagram time true (old source)
    → cond (is_eq (stays.prefix_cmp source prefix)) (Some presence) (old prefix) ≡ stays.presence_with datagram time (speech.is_prefix source prefix) (old prefix)
presence_written old datagram time source prefix presence is =
    by (is_eq (stays.prefix_cmp source prefix)) refl ∙ ap (λ (b : Bool). stays.presence_with datagram time b (old prefix)) (sym (texts_ties source.0 prefix.0))
  where
    by : (b : Bool) → is_eq (stays.prefix_cmp source prefix) ≡ b → cond b (Some presence) (old prefix) ≡ stays.presence_with datagram time b (old prefix)
    by true e = is ∙ ap (λ one. stays.presence_with datagram time true (old one)) (tells_apart exact_prefixes source prefix e)
    by false e = refl

-- ---- one datagram

pub enumerate_more : {X : Type 0} (start : ℕ) (xs : List X) (x : X) → enumerate_from start (xs ++ x ∷ []) ≡ enumerate_from start xs ++ (start + length xs, x) ∷ []
enumerate_more {X} start [] x = let zero_more : start ≡ start + 0 = omega arith in ap (λ (n : ℕ). let rows : List (ℕ × X) = (n, x) ∷ [] in rows) zero_more
enumerate_more {X} start (y ∷ xs) x =
    let further : start + 1 + length xs ≡ start + suc (length xs) = omega arith in
    ap (λ (rows : List (ℕ × X)). let all : List (ℕ × X) = (start, y) ∷ rows in all)
    (enumerate_more (start + 1) xs x ∙ ap (λ (n : ℕ). let last : List (ℕ × X) = (n, x) ∷ [] in enumerate_from (start + 1) xs ++ last) further)

last_more : (number : ℕ) (numbers : List ℕ) (last : ℕ) → stays.last_of number (numbers ++ last ∷ []) ≡ last
last_more number [] last = refl
last_more number (next ∷ numbers) last = last_more next numbers last

-- ---- the greatest of times, with one more

later_all : (one other third : Option ℕ) → stays.both_later one (stays.both_later other third) ≡ stays.both_later (stays.both_later one other) third
later_all None other third = refl
later_all (Some a) None third = refl
later_all (Some a) (Some b) None = refl
later_all (Some a) (Some b) (Some c) = ap Some (let e : max a (max b c) ≡ max (max a b) c = omega arith in e)

-- the greatest of times of which the first is known
known_first : (a : ℕ) (next : Option ℕ) (times : List (Option ℕ)) → stays.greatest_known (Some a ∷ next ∷ times) ≡ stays.both_later (Some a) (stays.greatest_known (next ∷ times))
known_first a None times = refl
known_first a (Some b) times = by (list_all is_some times) (times_spec.end_of times)
  where
    by : (all : Bool) (end : Option ℕ) → cond all (times_spec.later_of (Some a) (times_spec.later_of (Some b) end)) None ≡ stays.both_later (Some a) (cond all (times_spec.later_of (Some b) end) None)
    by false end = refl
    by true None = refl
    by true (Some c) = refl

known_push : (first : Option ℕ) (times : List (Option ℕ)) (time : Option ℕ) → stays.greatest_known (first ∷ times ++ time ∷ []) ≡ stays.both_later (stays.greatest_known (first ∷ times)) time
known_push None times time = refl
known_push (Some a) [] None = refl
known_push (Some a) [] (Some b) = refl
known_push (Some a) (next ∷ times) time =
    known_first a next (times ++ time ∷ []) ∙ ap (stays.both_later (Some a)) (known_push next times time) ∙ later_all (Some a) (stays.greatest_known (next ∷ times)) time
    ∙ ap (λ (latest : Option ℕ). stays.both_later latest time) (sym (known_first a next times))

known_one : (time : Option ℕ) → stays.greatest_known (time ∷ []) ≡ time
known_one None = refl
known_one (Some a) = refl

-- ---- one datagram more

-- when there is something of a participant, by the numbers of its datagrams
abbrev presence_at : List (Option ℕ) → List ℕ → Option Presence
presence_at times numbers = option_map (stays.present (stays.greatest_known (map (times_spec.time_of times) numbers))) (stays.ends_of numbers)

presence_push : (times : List (Option ℕ)) (numbers : List ℕ) (number : ℕ) → presence_at times (numbers ++ number ∷ []) ≡ stays.presence_with number (times_spec.time_of times number) true (presence_at times numbers)
presence_push times [] number =
    ap (λ (latest : Option ℕ). let presence : Option Presence = Some (stays.present latest (record { first = number; last = number })) in presence) (known_one (times_spec.time_of times number))
presence_push times (first ∷ numbers) number =
    ap₂ (λ (latest : Option ℕ) (last : ℕ). let presence : Option Presence = Some (stays.present latest (record { first = first; last = last })) in presence)
    (ap (λ (rest : List (Option ℕ)). stays.greatest_known (times_spec.time_of times first ∷ rest)) (map_push (times_spec.time_of times) numbers number)
    ∙ known_push (times_spec.time_of times first) (map (times_spec.time_of times) numbers) (times_spec.time_of times number))
    (last_more first numbers number)

-- the number of a datagram
abbrev number_in : ℕ × List ℕ → ℕ
number_in row = row.0

-- the participant sent it
abbrev sent_it : GuidPrefix → ℕ × List ℕ → Bool
sent_it prefix row = stays.is_sender prefix (stays.sender_of row.1)

-- the presences of a recording, with one datagram more
presence_more : (recording : List (List ℕ)) (times : List (Option ℕ)) (datagram : List ℕ) (prefix : GuidPrefix) (number : ℕ) → number ≡ length recording + 1
    → stays.presence_of (recording ++ datagram ∷ []) times prefix ≡ stays.presence_with number (times_spec.time_of times number) (stays.is_sender prefix (stays.sender_of datagram)) (stays.presence_of recording times prefix)
presence_more recording times datagram prefix number is = ap (presence_at times) rows ∙ by (stays.is_sender prefix (stays.sender_of datagram))
  where
    rows : stays.numbers_of prefix (recording ++ datagram ∷ []) ≡ stays.numbers_of prefix recording ++ map number_in (cond (stays.is_sender prefix (stays.sender_of datagram)) ((number, datagram) ∷ []) [])
    rows =
        let count : 1 + length recording ≡ number = omega arith in
        ap (λ (rows : List (ℕ × List ℕ)). map number_in (filter (sent_it prefix) rows)) (enumerate_more 1 recording datagram ∙ ap (λ (n : ℕ). let last : List (ℕ × List ℕ) = (n, datagram) ∷ [] in enumerate_from 1 recording ++ last) count)
        ∙ ap (map number_in) (filter-append (sent_it prefix) (enumerate_from 1 recording) ((number, datagram) ∷ []))
        ∙ map-append number_in (filter (sent_it prefix) (enumerate_from 1 recording)) (cond (stays.is_sender prefix (stays.sender_of datagram)) ((number, datagram) ∷ []) [])

    by : (b : Bool) → presence_at times (stays.numbers_of prefix recording ++ map number_in (cond b ((number, datagram) ∷ []) []))
        ≡ stays.presence_with number (times_spec.time_of times number) b (stays.presence_of recording times prefix)
    by true = presence_push times (stays.numbers_of prefix recording) number
    by false = ap (presence_at times) (append-nil (stays.numbers_of prefix recording))

-- what is kept of a recording, with one datagram more
pub presences_noted : (number : ℕ) (time : Option ℕ) (datagram : List ℕ) (old new : Presences)
    → ((prefix : GuidPrefix) → get stays.prefix_cmp new.of_senders prefix ≡ stays.presence_with number time (stays.is_sender prefix (stays.sender_of datagram)) (get stays.prefix_cmp old.of_senders prefix))
    → (recording : List (List ℕ)) (times : List (Option ℕ)) → number ≡ length recording + 1 → time ≡ times_spec.time_of times number
    → stays.ArePresencesOf recording times old → stays.ArePresencesOf (recording ++ datagram ∷ []) times new
presences_noted number time datagram old new presences recording times is came were = λ prefix.
    presences prefix
    ∙ ap₂ (λ (at : Option ℕ) (before : Option Presence). stays.presence_with number at (stays.is_sender prefix (stays.sender_of datagram)) before) came (were prefix)
    ∙ sym (presence_more recording times datagram prefix number is)

-- as many are noted as are read
pub length_so_far : (recording : List (Bor (List ℕ))) (place : ℕ) → place < length recording → place ≡ length (map (λ datagram. datagram.now) (take place recording))
length_so_far recording place within =
    let le : place ≤ length recording = omega arith in sym (length-map (take place recording) (λ (datagram : Bor (List ℕ)). datagram.now) ∙ length-take-le place recording le)
