-- Which way round two recordings are, by acts in any order.
use Rattle.std.proofs.lemmas.Grind.{common_steps}
use Rattle.std.proofs.lemmas.Bool.Decides.{Decides-int_eq, nat_tests}
use Rattle.std.proofs.lemmas.Bool.{and_parts}
use Rattle.std.proofs.lemmas.List.Folds.{list_any_none}
use Rattle.std.proofs.lemmas.List.Sorted.{IsPermutation-map}
use Rattle.std.proofs.Common.{◌≡◌, ◌∙◌, ℕ, ℤ, ◌≤◌, ◌&&◌, ◌||◌, Bool, true, false, not, nat_le, nat_lt, ltb, leb, List, ◌++◌, length, map, filter, take, drop, Some, None, refl, sym, ap, subst, arith, rules}
use Rattle.std.specs.Prelude.{MatchOption, Option}
use Rattle.std.specs.List.{list_any}
use Rattle.std.specs.List.Sorted.{IsPartitionPoint, IsPermutation}
use Rattle.std.specs.Ordering.{int_eq}
use Rattle.rtps_discovery.specs.declared.matching.Pair.{Pair}
use Rattle.rtps_receiver.specs.Speech as speech
use Rattle.rtps_receiver.specs.Values as values
use Rattle.rtps_audit.specs.Placed as placed_spec
use Rattle.rtps_audit.specs.declared.placed.Placed.{Placed}
use Rattle.rtps_audit.proofs.Offered.{speaker_is_origin}
use Rattle.rtps_evidence.specs.Locations as locations
use Rattle.rtps_evidence.specs.WayRound as way_round
use Rattle.rtps_evidence.specs.declared.location.Location.{Location}
use Rattle.rtps_evidence.specs.declared.window.Window.{Window}
use Rattle.rtps_evidence.proofs.KeptLemmas.{any_by_length, any_kept_within, any_of_made, any_run, apart, kept_alike, kept_made}
use Rattle.rtps_evidence.proofs.PlaceOrder.{as_often}
use Rattle.rtps_evidence.proofs.QuestionLemmas.{filter_filter}

-- ---- acts that are the same stand under one key

same_int : (one other : ℤ) → int_eq one other ≡ true → one ≡ other
same_int one other e = (Decides-int_eq one other).0 e

key_alike : (one other : values.ActBodyValue) → way_round.is_same_body one other ≡ true → way_round.key_of_body one ≡ way_round.key_of_body other
key_alike (values.ActBodyValue.Data one) (values.ActBodyValue.Data other) e = grind (arith, nat_tests, same_int)
key_alike (values.ActBodyValue.Data one) (values.ActBodyValue.Heartbeat other) e = cc
key_alike (values.ActBodyValue.Data one) (values.ActBodyValue.AckNack other) e = cc
key_alike (values.ActBodyValue.Data one) (values.ActBodyValue.Gap other) e = cc
key_alike (values.ActBodyValue.Data one) (values.ActBodyValue.DataFrag other) e = cc
key_alike (values.ActBodyValue.Data one) (values.ActBodyValue.NackFrag other) e = cc
key_alike (values.ActBodyValue.Heartbeat one) (values.ActBodyValue.Data other) e = cc
key_alike (values.ActBodyValue.Heartbeat one) (values.ActBodyValue.Heartbeat other) e = grind (arith, nat_tests, same_int)
key_alike (values.ActBodyValue.Heartbeat one) (values.ActBodyValue.AckNack other) e = cc
key_alike (values.ActBodyValue.Heartbeat one) (values.ActBodyValue.Gap other) e = cc
key_alike (values.ActBodyValue.Heartbeat one) (values.ActBodyValue.DataFrag other) e = cc
key_alike (values.ActBodyValue.Heartbeat one) (values.ActBodyValue.NackFrag other) e = cc
key_alike (values.ActBodyValue.AckNack one) (values.ActBodyValue.Data other) e = cc
key_alike (values.ActBodyValue.AckNack one) (values.ActBodyValue.Heartbeat other) e = cc
key_alike (values.ActBodyValue.AckNack one) (values.ActBodyValue.AckNack other) e = grind (arith, nat_tests, same_int)
key_alike (values.ActBodyValue.AckNack one) (values.ActBodyValue.Gap other) e = cc
key_alike (values.ActBodyValue.AckNack one) (values.ActBodyValue.DataFrag other) e = cc
key_alike (values.ActBodyValue.AckNack one) (values.ActBodyValue.NackFrag other) e = cc
key_alike (values.ActBodyValue.Gap one) (values.ActBodyValue.Data other) e = cc
key_alike (values.ActBodyValue.Gap one) (values.ActBodyValue.Heartbeat other) e = cc
key_alike (values.ActBodyValue.Gap one) (values.ActBodyValue.AckNack other) e = cc
key_alike (values.ActBodyValue.Gap one) (values.ActBodyValue.Gap other) e = grind (arith, nat_tests, same_int)
key_alike (values.ActBodyValue.Gap one) (values.ActBodyValue.DataFrag other) e = cc
key_alike (values.ActBodyValue.Gap one) (values.ActBodyValue.NackFrag other) e = cc
key_alike (values.ActBodyValue.DataFrag one) (values.ActBodyValue.Data other) e = cc
key_alike (values.ActBodyValue.DataFrag one) (values.ActBodyValue.Heartbeat other) e = cc
key_alike (values.ActBodyValue.DataFrag one) (values.ActBodyValue.AckNack other) e = cc
key_alike (values.ActBodyValue.DataFrag one) (values.ActBodyValue.Gap other) e = cc
key_alike (values.ActBodyValue.DataFrag one) (values.ActBodyValue.DataFrag other) e = grind (arith, nat_tests, same_int)
key_alike (values.ActBodyValue.DataFrag one) (values.ActBodyValue.NackFrag other) e = cc
key_alike (values.ActBodyValue.NackFrag one) (values.ActBodyValue.Data other) e = cc
key_alike (values.ActBodyValue.NackFrag one) (values.ActBodyValue.Heartbeat other) e = cc
key_alike (values.ActBodyValue.NackFrag one) (values.ActBodyValue.AckNack other) e = cc
key_alike (values.ActBodyValue.NackFrag one) (values.ActBodyValue.Gap other) e = cc
key_alike (values.ActBodyValue.NackFrag one) (values.ActBodyValue.DataFrag other) e = cc
key_alike (values.ActBodyValue.NackFrag one) (values.ActBodyValue.NackFrag other) e = grind (arith, nat_tests, same_int)

same_bodies : (one other : values.ActValue) → way_round.is_same_act one other ≡ true → way_round.is_same_body one.body other.body ≡ true
unfolding way_round.is_same_act
same_bodies one other e = grind (arith, nat_tests)

pub same_key : (at other : placed_spec.PlacedValue) → way_round.is_same at other ≡ true → way_round.key_of other ≡ way_round.key_of at
same_key at other e = sym (key_alike at.act.body other.act.body (same_bodies at.act other.act e))

-- where acts stand by their keys, those of a key are all that are the same
pub shared_of_key : (acts : List Placed) (at : placed_spec.PlacedValue) (key start size : ℕ) → key ≡ way_round.key_of at → start ≤ length acts → size ≤ length (drop start acts)
    → IsPartitionPoint (λ (one : Placed). ltb (way_round.key_of (placed_spec.placed_value one)) key ≡ true) (λ (one : Placed). ltb (way_round.key_of (placed_spec.placed_value one)) key ≡ false) acts start
    → IsPartitionPoint (λ (one : Placed). leb (way_round.key_of (placed_spec.placed_value one)) key ≡ true) (λ (one : Placed). leb (way_round.key_of (placed_spec.placed_value one)) key ≡ false) (drop start acts) size
    → list_any (way_round.is_same at) (map placed_spec.placed_value (take size (drop start acts))) ≡ way_round.is_shared (map placed_spec.placed_value acts) at
unfolding way_round.is_shared
shared_of_key acts at key start size is room also first last =
    any_of_made placed_spec.placed_value (way_round.is_same at) (take size (drop start acts))
    ∙ any_run (λ (one : Placed). way_round.is_same at (placed_spec.placed_value one)) (λ (one : Placed). way_round.key_of (placed_spec.placed_value one)) key acts start size (λ one e. same_key at (placed_spec.placed_value one) e ∙ sym is) room also first last
    ∙ sym (any_of_made placed_spec.placed_value (way_round.is_same at) acts)

-- ---- what stands in the window

-- the window tells what stands inside
pub inside_window : (own other : List placed_spec.PlacedValue) (lo hi : Location) → way_round.IsWindow (map locations.location_of (filter (way_round.is_shared other) own)) lo hi
    → (at : placed_spec.PlacedValue) → way_round.is_within lo hi (locations.location_of at) ≡ way_round.is_inside own other at
inside_window own other lo hi window at =
    ap (λ b. b && way_round.goes_before (locations.location_of at) hi) (sym (window.low (locations.location_of at)) ∙ ap (nat_le 5) (kept_made (way_round.is_shared other) locations.location_of (λ place. way_round.goes_before place (locations.location_of at)) own))
    ∙ ap (λ b. nat_le 5 (length (filter (λ one. way_round.is_shared other one && locations.is_before (locations.location_of at) one) own)) && b)
    (sym (window.high (locations.location_of at)) ∙ ap (nat_le 5) (kept_made (way_round.is_shared other) locations.location_of (way_round.goes_before (locations.location_of at)) own))

-- where there is none, nothing does
pub none_inside : (own other : List placed_spec.PlacedValue) → ((place : Location) → nat_le 5 (length (filter (way_round.goes_before place) (map locations.location_of (filter (way_round.is_shared other) own)))) ≡ false)
    → (at : placed_spec.PlacedValue) → way_round.is_inside own other at ≡ false
none_inside own other none at =
    ap (λ b. nat_le 5 (length (filter (λ one. way_round.is_shared other one && locations.is_before (locations.location_of at) one) own)) && b)
    (ap (nat_le 5) (sym (kept_made (way_round.is_shared other) locations.location_of (way_round.goes_before (locations.location_of at)) own)) ∙ none (locations.location_of at))
    ∙ ends (nat_le 5 (length (filter (λ one. way_round.is_shared other one && locations.is_before (locations.location_of at) one) own)))
  where
    ends : (b : Bool) → (b && false) ≡ false
    ends true = refl
    ends false = refl

pub none_alone : (kind : placed_spec.PlacedValue → Bool) (own other : List placed_spec.PlacedValue) → ((at : placed_spec.PlacedValue) → way_round.is_inside own other at ≡ false) → list_any (λ at. kind at && way_round.is_alone own other at) own ≡ false
none_alone kind own other none =
    any_by_length (λ at. kind at && way_round.is_alone own other at) own
    ∙ ap (λ (l : List placed_spec.PlacedValue). nat_lt 0 (length l)) (kept_alike (λ at. kind at && way_round.is_alone own other at) (λ at. false) (λ at. ap (λ b. kind at && (not (way_round.is_shared other at) && b)) (none at) ∙ no (kind at) (not (way_round.is_shared other at))) own)
    ∙ sym (any_by_length (λ at. false) own) ∙ nothing own
  where
    no : (a b : Bool) → (a && (b && false)) ≡ false
    no true true = refl
    no true false = refl
    no false b = refl

    nothing : (those : List placed_spec.PlacedValue) → list_any (λ at. false) those ≡ false
    nothing those = grind (arith, common_steps, list_any_none)

-- of what the other recording lacks, one stands in the window
pub alone_within : (kind : placed_spec.PlacedValue → Bool) (own other : List placed_spec.PlacedValue) (lo hi : Location) → way_round.IsWindow (map locations.location_of (filter (way_round.is_shared other) own)) lo hi
    → list_any (λ at. kind at && way_round.is_within lo hi (locations.location_of at)) (filter (λ at. not (way_round.is_shared other at)) own) ≡ list_any (λ at. kind at && way_round.is_alone own other at) own
alone_within kind own other lo hi window =
    any_kept_within kind (λ at. not (way_round.is_shared other at)) (λ at. way_round.is_within lo hi (locations.location_of at)) (way_round.is_inside own other) (inside_window own other lo hi window) own

-- by the window, if there is one, it is told whether one is alone
pub lone_is : (kind : placed_spec.PlacedValue → Bool) (own other lone : List placed_spec.PlacedValue) (places : List Location) (window : Option Window) (found : Bool)
    → places ≡ map locations.location_of (filter (way_round.is_shared other) own) → lone ≡ filter (λ at. not (way_round.is_shared other at)) own
    → MatchOption window ((place : Location) → nat_le 5 (length (filter (way_round.goes_before place) places)) ≡ false) (λ w. way_round.IsWindow places w.lo w.hi)
    → MatchOption window (found ≡ false) (λ w. found ≡ list_any (λ at. kind at && way_round.is_within w.lo w.hi (locations.location_of at)) lone)
    → found ≡ list_any (λ at. kind at && way_round.is_alone own other at) own
lone_is kind own other lone places None found are rest window told =
    told ∙ sym (none_alone kind own other (none_inside own other (subst (λ (l : List Location). (place : Location) → nat_le 5 (length (filter (way_round.goes_before place) l)) ≡ false) are window)))
lone_is kind own other lone places (Some w) found are rest window told =
    told ∙ ap (list_any (λ at. kind at && way_round.is_within w.lo w.hi (locations.location_of at))) rest ∙ alone_within kind own other w.lo w.hi (subst (λ (l : List Location). way_round.IsWindow l w.lo w.hi) are window)

-- ---- the same acts in another order

shared_same : (these those : List placed_spec.PlacedValue) → way_round.AreAsOften these those → (at : placed_spec.PlacedValue) → way_round.is_shared these at ≡ way_round.is_shared those at
unfolding way_round.is_shared
shared_same these those same at = any_by_length (way_round.is_same at) these ∙ ap (nat_lt 0) (same (way_round.is_same at)) ∙ sym (any_by_length (way_round.is_same at) those)

inside_same : (own other these those : List placed_spec.PlacedValue) → way_round.AreAsOften own these → way_round.AreAsOften other those → (at : placed_spec.PlacedValue) → way_round.is_inside own other at ≡ way_round.is_inside these those at
inside_same own other these those same also at =
    ap (λ n. nat_le 5 n && nat_le 5 (length (filter (λ one. way_round.is_shared other one && locations.is_behind (Some (locations.location_of at)) one) own))) (counted (locations.is_before (locations.location_of at)))
    ∙ ap (λ n. nat_le 5 (length (filter (λ one. way_round.is_shared those one && locations.is_before (locations.location_of at) one) these)) && nat_le 5 n) (counted (locations.is_behind (Some (locations.location_of at))))
  where
    counted : (test : placed_spec.PlacedValue → Bool) → length (filter (λ one. way_round.is_shared other one && test one) own) ≡ length (filter (λ one. way_round.is_shared those one && test one) these)
    counted test =
        ap length (kept_alike (λ one. way_round.is_shared other one && test one) (λ one. way_round.is_shared those one && test one) (λ one. ap (λ b. b && test one) (shared_same other those also one)) own)
        ∙ same (λ one. way_round.is_shared those one && test one)

pub alone_same : (kind : placed_spec.PlacedValue → Bool) (own other these those : List placed_spec.PlacedValue) → way_round.AreAsOften own these → way_round.AreAsOften other those
    → list_any (λ at. kind at && way_round.is_alone own other at) own ≡ list_any (λ at. kind at && way_round.is_alone these those at) these
alone_same kind own other these those same also =
    any_by_length (λ at. kind at && way_round.is_alone own other at) own
    ∙ ap (λ (l : List placed_spec.PlacedValue). nat_lt 0 (length l)) (kept_alike (λ at. kind at && way_round.is_alone own other at) (λ at. kind at && way_round.is_alone these those at)
    (λ at. ap (λ b. kind at && (not b && way_round.is_inside own other at)) (shared_same other those also at) ∙ ap (λ b. kind at && (not (way_round.is_shared those at) && b)) (inside_same own other these those same also at)) own)
    ∙ ap (nat_lt 0) (same (λ at. kind at && way_round.is_alone these those at)) ∙ sym (any_by_length (λ at. kind at && way_round.is_alone these those at) these)

-- ---- what a pair said stands among the acts of the two

speaks_from : (pair : Pair) (at : placed_spec.PlacedValue) → way_round.is_said_to pair at ≡ true → placed_spec.is_from pair.writer at ≡ true
speaks_from pair at e = speaker_is_origin pair.writer at (and_parts (speech.is_spoken_by at.act pair.writer) (speech.is_heard_by at.act pair.reader) e).0

answers_from : (pair : Pair) (at : placed_spec.PlacedValue) → speech.is_answer at.act pair.reader pair.writer ≡ true → placed_spec.is_from pair.reader at ≡ true
answers_from pair at e = search rules

not_both : (pair : Pair) (at : placed_spec.PlacedValue) → way_round.is_said_to pair at ≡ true → speech.is_answer at.act pair.reader pair.writer ≡ false
not_both pair at e = search rules

pub words_are : (pair : Pair) (placed acts asks words : List placed_spec.PlacedValue) → acts ≡ filter (placed_spec.is_from pair.writer) placed → asks ≡ filter (placed_spec.is_from pair.reader) placed
    → words ≡ filter (way_round.is_said_to pair) acts ++ filter (λ at. speech.is_answer at.act pair.reader pair.writer) asks
    → way_round.AreAsOften (way_round.words_of pair placed) words
words_are pair placed acts asks words acts_are asks_are are test =
    apart (way_round.is_said_to pair) (λ at. speech.is_answer at.act pair.reader pair.writer) test (not_both pair) placed
    ∙ ap (λ (l : List placed_spec.PlacedValue). length (filter test l)) (sym (are ∙ ap (λ (l : List placed_spec.PlacedValue). filter (way_round.is_said_to pair) l ++ filter (λ at. speech.is_answer at.act pair.reader pair.writer) asks)
    (acts_are) ∙ ap (λ (l : List placed_spec.PlacedValue). filter (way_round.is_said_to pair) (filter (placed_spec.is_from pair.writer) placed) ++ filter (λ at. speech.is_answer at.act pair.reader pair.writer) l) asks_are
    ∙ ap (λ (l : List placed_spec.PlacedValue). l ++ filter (λ at. speech.is_answer at.act pair.reader pair.writer) (filter (placed_spec.is_from pair.reader) placed))
    (filter_filter (way_round.is_said_to pair) (placed_spec.is_from pair.writer) (speaks_from pair) placed)
    ∙ ap (λ (l : List placed_spec.PlacedValue). filter (way_round.is_said_to pair) placed ++ l)
    (filter_filter (λ at. speech.is_answer at.act pair.reader pair.writer) (placed_spec.is_from pair.reader) (answers_from pair) placed)))

-- what is as often among some acts is so among the same in another order
pub as_often_moved : (all : List placed_spec.PlacedValue) (words moved : List Placed) → IsPermutation words moved → way_round.AreAsOften all (map placed_spec.placed_value words) → way_round.AreAsOften all (map placed_spec.placed_value moved)
as_often_moved all words moved is same test =
    same test ∙ sym (as_often test (map placed_spec.placed_value words) (map placed_spec.placed_value moved) (IsPermutation-map placed_spec.placed_value words moved is))

-- what tells the way round
pub way_told : (ours theirs : List placed_spec.PlacedValue) (act answer other_act other_answer : Bool) → act ≡ way_round.has_lone_act ours theirs → answer ≡ way_round.has_lone_answer ours theirs
    → other_act ≡ way_round.has_lone_act theirs ours → other_answer ≡ way_round.has_lone_answer theirs ours → way_round.way_by (act || other_answer) (other_act || answer) ≡ way_round.way_between ours theirs
unfolding way_round.way_between
way_told ours theirs act answer other_act other_answer a b c d =
    ap (λ x. way_round.way_by (x || other_answer) (other_act || answer)) a
    ∙ ap (λ x. way_round.way_by (way_round.has_lone_act ours theirs || x) (other_act || answer)) d
    ∙ ap (λ x. way_round.way_by (way_round.has_lone_act ours theirs || way_round.has_lone_answer theirs ours) (x || answer)) c
    ∙ ap (λ x. way_round.way_by (way_round.has_lone_act ours theirs || way_round.has_lone_answer theirs ours) (way_round.has_lone_act theirs ours || x)) b

-- the same acts in another order tell the same
pub way_same : (first second these those : List placed_spec.PlacedValue) → way_round.AreAsOften first these → way_round.AreAsOften second those → way_round.way_between these those ≡ way_round.way_between first second
unfolding way_round.way_between
way_same first second these those same also =
    let acts = λ (at : placed_spec.PlacedValue). not (speech.is_ack_nack at.act.body) in
    let answers = λ (at : placed_spec.PlacedValue). speech.is_ack_nack at.act.body in
    ap (λ x. way_round.way_by (x || way_round.has_lone_answer those these) (way_round.has_lone_act those these || way_round.has_lone_answer these those)) (sym (alone_same acts first second these those same also))
    ∙ ap (λ x. way_round.way_by (way_round.has_lone_act first second || x) (way_round.has_lone_act those these || way_round.has_lone_answer these those)) (sym (alone_same answers second first those these also same))
    ∙ ap (λ x. way_round.way_by (way_round.has_lone_act first second || way_round.has_lone_answer second first) (x || way_round.has_lone_answer these those)) (sym (alone_same acts second first those these also same))
    ∙ ap (λ x. way_round.way_by (way_round.has_lone_act first second || way_round.has_lone_answer second first) (way_round.has_lone_act second first || x)) (sym (alone_same answers first second these those same also))
