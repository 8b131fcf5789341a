-- What the accounts of writers have taken in after one answer more, and after one act more.
use Rattle.std.proofs.Common.{◌≡◌, ℕ, zero, suc, ◌+◌, ◌<◌, ◌≤◌, Bool, true, false, ◌&&◌, cond, filter, List, [], ◌∷◌, ◌++◌, append-nil, get_or, length, map, set, Option, Some, None, inl, inr, refl, sym, ap, ◌∙◌, subst, arith}
use Rattle.std.specs.Prelude.{◌==◌, flat_map}
use Rattle.std.specs.Global.{Vec}
use Rattle.std.specs.List.{All, cons_option}
use Rattle.std.specs.List.Sorted.{IsStrictlySortedBy}
use Rattle.std.specs.Ordering.{is_eq, ordering_then}
use Rattle.std.specs.declared.cmp.Ordering.{Ordering}
use Rattle.std.specs.declared.cmp.Ordering.TheVariants.{Less, Equal, Greater}
use Rattle.std.specs.Option.{unwrap_or}
use Rattle.std.proofs.lemmas.Bool.{cases_lt}
use Rattle.std.proofs.lemmas.Cmp.{tied_itself}
use Rattle.std.proofs.lemmas.List.{get_or-set_other, get_or-set_same, length-set}
use Rattle.std.proofs.lemmas.List.Elements.{All-append, All-map, All-nil, All-push, All-weaker, filter-append, filter_map-append}
use Rattle.rtps_ids.specs.declared.identity.Guid.{Guid}
use Rattle.rtps_receiver.specs.Speech as receiver_speech
use Rattle.rtps_receiver.specs.Values as values
use Rattle.rtps_discovery.specs.GuidOrder.{guid_cmp}
use Rattle.rtps_discovery.specs.Listings as listings
use Rattle.rtps_discovery.specs.declared.matching.Pair.{Pair}
use Rattle.rtps_audit.specs.Account as account
use Rattle.rtps_audit.specs.FrontRanges as front_ranges
use Rattle.rtps_audit.specs.Placed as placed_spec
use Rattle.rtps_audit.specs.Speech as speech
use Rattle.rtps_audit.specs.declared.accounts.Accounts.{Accounts}
use Rattle.rtps_audit.specs.declared.answer.Answer.{Answer}
use Rattle.rtps_audit.specs.declared.ask.Ask.{Ask}
use Rattle.rtps_audit.specs.declared.front_ranges.FrontRanges.{FrontRanges}
use Rattle.rtps_audit.proofs.Offered.{answer_added, is_eq-guid_cmp, later_place, other_place, pushed}
use Rattle.rtps_passes.specs.Judging as judging
use Rattle.rtps_passes.specs.declared.judged_writer.JudgedWriter.{JudgedWriter}
use Rattle.rtps_passes.proofs.BeginLemmas.{pairs_total}

-- the accounts of a writer stand for these acts and asks
abbrev pub StandFor : ℕ → Guid → List Guid → List placed_spec.PlacedValue → List Ask → Accounts FrontRanges → Type 0
StandFor from writer readers acts asks accounts = account.AllStand front_ranges.front_has from writer (map (judging.pair_with writer) readers) acts asks accounts

-- the same, where the writer and its readers stayed
pub taken_by : (from datagram : ℕ) (asked heard : List placed_spec.PlacedValue) (new : JudgedWriter) (writer : Guid) (readers : List Guid) (asks : List Ask) → new.writer ≡ writer → new.readers.items ≡ readers → All (λ (ask : Ask). ask.answer.datagram ≤ datagram) asks
    → ((place : ℕ) (d : Guid) → place < length readers → account.answers_at place asks ≡ placed_spec.answers_among (judging.pair_with writer (get_or readers place d)) asked)
    → IsStrictlySortedBy guid_cmp readers → StandFor from writer readers (filter (placed_spec.is_from writer) heard) asks new.accounts → judging.HasTakenIn from datagram asked heard new
taken_by from datagram asked heard new writer readers asks of are until asks_are in_order stand = record {
  asks = asks;
  until = until;
  asks_are = subst (λ (w : Guid). (place : ℕ) (d : Guid) → place < length new.readers.items → account.answers_at place asks ≡ placed_spec.answers_among (judging.pair_with w (get_or new.readers.items place d)) asked) (sym of)
      (subst (λ (l : List Guid). (place : ℕ) (d : Guid) → place < length l → account.answers_at place asks ≡ placed_spec.answers_among (judging.pair_with writer (get_or l place d)) asked) (sym are) asks_are);
  in_order = subst (IsStrictlySortedBy guid_cmp) (sym are) in_order;
  stand = subst (λ (w : Guid). StandFor from w new.readers.items (filter (placed_spec.is_from w) heard) asks new.accounts) (sym of)
      (subst (λ (l : List Guid). StandFor from writer l (filter (placed_spec.is_from writer) heard) asks new.accounts) (sym are) stand);
}

-- ---- one answer more

abbrev pub ask_of : ℕ → Answer → Ask
ask_of place answer = record { place = place; answer = answer }

-- the answers of a pair are those that are asked for and the one more, where that is its
pub answers_more : (known : List Ask) (pair : Pair) (asked : List placed_spec.PlacedValue) (act : placed_spec.PlacedValue) (answer : Answer) (found place : ℕ) → account.answers_at place known ≡ placed_spec.answers_among pair asked
    → placed_spec.answer_of pair act ≡ cond (found == place) (Some answer) None → account.answers_at place (known ++ ask_of found answer ∷ []) ≡ placed_spec.answers_among pair (asked ++ act ∷ [])
answers_more known pair asked act answer found place are is =
    filter_map-append (account.answer_if_at place) known (ask_of found answer ∷ []) ∙ ap (λ l. account.answers_at place known ++ l) (pushed place found (answer ∷ []) (found == place) refl)
    ∙ ap (λ l. l ++ cond (found == place) (answer ∷ []) []) are ∙ ap (λ l. placed_spec.answers_among pair asked ++ l) (answer_added (placed_spec.answer_of pair act) (found == place) answer is)
    ∙ sym (filter_map-append (placed_spec.answer_of pair) asked (act ∷ []))

-- an act that is no answer of a pair is none of its answers
pub answers_same : (pair : Pair) (asked : List placed_spec.PlacedValue) (act : placed_spec.PlacedValue) → placed_spec.answer_of pair act ≡ None → placed_spec.answers_among pair asked ≡ placed_spec.answers_among pair (asked ++ act ∷ [])
answers_same pair asked act none = sym (filter_map-append (placed_spec.answer_of pair) asked (act ∷ []) ∙ ap (λ o. placed_spec.answers_among pair asked ++ cons_option o []) none ∙ append-nil _)

is_eq-then : (a b : Ordering) → is_eq (ordering_then a b) ≡ is_eq a && is_eq b
is_eq-then Less b = refl
is_eq-then Equal b = refl
is_eq-then Greater b = refl

-- an answer of one pair is that of a pair of this writer as its writer and its reader are found
pub answer_found : (act : placed_spec.PlacedValue) (one : Pair) (answer : Answer) (writer : Guid) (b : Bool) → ((pair : Pair) → placed_spec.answer_of pair act ≡ cond (is_eq (listings.pair_cmp pair one)) (Some answer) None) → is_eq (guid_cmp writer one.writer) ≡ b
    → (reader : Guid) → placed_spec.answer_of (judging.pair_with writer reader) act ≡ cond (b && is_eq (guid_cmp reader one.reader)) (Some answer) None
answer_found act one answer writer b is found reader = is (judging.pair_with writer reader) ∙ ap (λ t. cond t (Some answer) None) (is_eq-then (guid_cmp writer one.writer) (guid_cmp reader one.reader) ∙ ap (λ t. t && is_eq (guid_cmp reader one.reader)) found)

stands_at : (datagram at : ℕ) (base : Option ℕ) (answer : Answer) → placed_spec.answer_at datagram at base ≡ Some answer → answer.datagram ≡ datagram
stands_at datagram at None answer is = cc
stands_at datagram at (Some base) answer is = sym (ap (λ (o : Option Answer). let none : Answer = answer in (unwrap_or o none).datagram) is)

-- it stands where its act does
pub answer_stands : (act : placed_spec.PlacedValue) (one : Pair) (answer : Answer) → ((pair : Pair) → placed_spec.answer_of pair act ≡ cond (is_eq (listings.pair_cmp pair one)) (Some answer) None) → answer.datagram ≡ act.datagram
answer_stands act one answer is = stands_at act.datagram act.act.at (speech.base_for one.writer one.reader act.act) answer (is one ∙ ap (λ o. cond (is_eq o) (Some answer) None) (tied_itself pairs_total one))

-- an answer of a reader of the writer
pub answer_taken : (from : ℕ) (asked heard : List placed_spec.PlacedValue) (act : placed_spec.PlacedValue) (reader : Guid) (answer : Answer) (found : ℕ) (old new : JudgedWriter) → new.writer ≡ old.writer → new.readers.items ≡ old.readers.items → 1 ≤ answer.datagram
    → ((other : Guid) → placed_spec.answer_of (judging.pair_with old.writer other) act ≡ cond (is_eq (guid_cmp other reader)) (Some answer) None)
    → ((place : ℕ) (d : Guid) → place < length old.readers.items → is_eq (guid_cmp (get_or old.readers.items place d) reader) ≡ (found == place))
    → ((asks : List Ask) → StandFor from old.writer old.readers.items (filter (placed_spec.is_from old.writer) heard) asks old.accounts → StandFor from old.writer old.readers.items (filter (placed_spec.is_from old.writer) heard) (asks ++ ask_of found answer ∷ []) new.accounts)
    → judging.HasTakenIn from answer.datagram asked heard old → judging.HasTakenIn from answer.datagram (asked ++ act ∷ []) heard new
answer_taken from asked heard act reader answer found old new of are counted is at note known =
    taken_by from answer.datagram (asked ++ act ∷ []) heard new old.writer old.readers.items (known.asks ++ ask_of found answer ∷ []) of are
    (All-push (λ (ask : Ask). ask.answer.datagram ≤ answer.datagram) known.asks (ask_of found answer) known.until (omega arith))
    (λ place d lt. answers_more known.asks (judging.pair_with old.writer (get_or old.readers.items place d)) asked act answer found place (known.asks_are place d lt) (is (get_or old.readers.items place d) ∙ ap (λ b. cond b (Some answer) None) (at place d lt)))
    known.in_order (note known.asks known.stand)

-- an act that is no answer of a reader of the writer
pub answer_elsewhere : (from datagram : ℕ) (asked heard : List placed_spec.PlacedValue) (act : placed_spec.PlacedValue) (judged : JudgedWriter)
    → ((place : ℕ) (d : Guid) → place < length judged.readers.items → placed_spec.answer_of (judging.pair_with judged.writer (get_or judged.readers.items place d)) act ≡ None)
    → judging.HasTakenIn from datagram asked heard judged → judging.HasTakenIn from datagram (asked ++ act ∷ []) heard judged
answer_elsewhere from datagram asked heard act judged none known = record {
  asks = known.asks;
  until = known.until;
  asks_are = λ place d lt. known.asks_are place d lt ∙ answers_same (judging.pair_with judged.writer (get_or judged.readers.items place d)) asked act (none place d lt);
  in_order = known.in_order;
  stand = known.stand;
}

-- ---- one act more

pub from_more : (writer : Guid) (heard : List placed_spec.PlacedValue) (act : placed_spec.PlacedValue) (b : Bool) → placed_spec.is_from writer act ≡ b → filter (placed_spec.is_from writer) (heard ++ act ∷ []) ≡ filter (placed_spec.is_from writer) heard ++ cond b (act ∷ []) []
from_more writer heard act b is = filter-append (placed_spec.is_from writer) heard (act ∷ []) ∙ ap (λ t. filter (placed_spec.is_from writer) heard ++ cond t (act ∷ []) []) is

-- an act is from a writer as its GUID is found
pub from_found : (writer origin : Guid) (act : placed_spec.PlacedValue) (b : Bool) → origin ≡ receiver_speech.origin_of act.act → is_eq (guid_cmp writer origin) ≡ b → placed_spec.is_from writer act ≡ b
from_found writer origin act b from found = ap (placed_spec.is_guid writer) (sym from) ∙ sym (is_eq-guid_cmp writer origin) ∙ found

-- an act of the writer
pub act_taken : (from datagram : ℕ) (asked heard : List placed_spec.PlacedValue) (act : placed_spec.PlacedValue) (old new : JudgedWriter) → new.writer ≡ old.writer → new.readers.items ≡ old.readers.items → placed_spec.is_from old.writer act ≡ true
    → ((asks : List Ask) → All (λ (ask : Ask). ask.answer.datagram ≤ datagram) asks → StandFor from old.writer old.readers.items (filter (placed_spec.is_from old.writer) heard) asks old.accounts
    → StandFor from old.writer old.readers.items (filter (placed_spec.is_from old.writer) heard ++ act ∷ []) asks new.accounts)
    → judging.HasTakenIn from datagram asked heard old → judging.HasTakenIn from datagram asked (heard ++ act ∷ []) new
act_taken from datagram asked heard act old new of are its hear known =
    taken_by from datagram asked (heard ++ act ∷ []) new old.writer old.readers.items known.asks of are known.until known.asks_are known.in_order
    (subst (λ l. StandFor from old.writer old.readers.items l known.asks new.accounts) (sym (from_more old.writer heard act true its)) (hear known.asks known.until known.stand))

-- an act of another
pub act_elsewhere : (from datagram : ℕ) (asked heard : List placed_spec.PlacedValue) (act : placed_spec.PlacedValue) (judged : JudgedWriter) → placed_spec.is_from judged.writer act ≡ false
    → judging.HasTakenIn from datagram asked heard judged → judging.HasTakenIn from datagram asked (heard ++ act ∷ []) judged
act_elsewhere from datagram asked heard act judged other known = record {
  asks = known.asks;
  until = known.until;
  asks_are = known.asks_are;
  in_order = known.in_order;
  stand = subst (λ l. StandFor from judged.writer judged.readers.items l known.asks judged.accounts) (sym (from_more judged.writer heard act false other ∙ append-nil _)) known.stand;
}

-- ---- the accounts of all writers

-- one of them is written over by one of the same writer and its readers
pub written : {X Y : Type 0} (f : X → Y) (xs : List X) (place : ℕ) (new : X) → ((d : X) → f new ≡ f (get_or xs place d)) → map f (set xs place new) ≡ map f xs
written f [] place new same = refl
written f (x ∷ xs) zero new same = ap (λ y. y ∷ map f xs) (same x)
written f (x ∷ xs) (suc place) new same = ap (λ l. f x ∷ l) (written f xs place new same)

pub written_flat : {X Y : Type 0} (f : X → List Y) (xs : List X) (place : ℕ) (new : X) → ((d : X) → f new ≡ f (get_or xs place d)) → flat_map f (set xs place new) ≡ flat_map f xs
written_flat f [] place new same = refl
written_flat f (x ∷ xs) zero new same = ap (λ l. l ++ flat_map f xs) (same x)
written_flat f (x ∷ xs) (suc place) new same = ap (λ l. f x ++ l) (written_flat f xs place new same)

-- what holds of each, where one is written over
pub all_written : {X : Type 0} (P Q : X → Type 0) (xs : List X) (place : ℕ) (new : X) → ((d : X) → place < length xs → P (get_or xs place d) → Q new) → ((k : ℕ) (d : X) → k < length xs → (place == k) ≡ false → P (get_or xs k d) → Q (get_or xs k d)) → All P xs → All Q (set xs place new)
all_written P Q xs place new here others all k d within = elim (cases_lt k place) [
  | inl before ↦ elsewhere (other_place k place before) (λ e. omega (arith, e))
  | inr ge ↦ elim (cases_lt place k) [
    | inl after ↦ elsewhere (later_place k place after) (λ e. omega (arith, e))
    | inr le ↦
        let e : place ≡ k = omega arith in
        let inside : place < length xs = omega (arith, lt) in
        subst (λ p. Q (get_or (set xs place new) p d)) e (subst Q (sym (get_or-set_same xs place new d inside)) (here d inside (all place d inside)))
  ]
]
  where
    lt : k < length xs
    lt = let long = length-set xs place new in omega (arith, long)

    elsewhere : (place == k) ≡ false → (k ≡ place → ⊥) → Q (get_or (set xs place new) k d)
    elsewhere differs apart = subst Q (sym (get_or-set_other xs place k new d apart)) (others k d lt differs (all k d lt))

-- the accounts of one writer took in an answer or an act, and those of the others need not
pub one_taken : (from datagram : ℕ) (pairs : List Pair) (asked heard asked' heard' : List placed_spec.PlacedValue) (writers : List JudgedWriter) (place : ℕ) (new : JudgedWriter) → ((d : JudgedWriter) → new.writer ≡ (get_or writers place d).writer) → ((d : JudgedWriter) → new.readers ≡ (get_or writers place d).readers)
    → ((d : JudgedWriter) → place < length writers → judging.HasTakenIn from datagram asked heard (get_or writers place d) → judging.HasTakenIn from datagram asked' heard' new)
    → ((k : ℕ) (d : JudgedWriter) → k < length writers → (place == k) ≡ false → judging.HasTakenIn from datagram asked heard (get_or writers k d) → judging.HasTakenIn from datagram asked' heard' (get_or writers k d))
    → judging.HaveTakenIn from datagram pairs asked heard writers → judging.HaveTakenIn from datagram pairs asked' heard' (set writers place new)
one_taken from datagram pairs asked heard asked' heard' writers place new of are here others known = record {
  pairs_are = written_flat judging.pairs_of writers place new (λ d. ap (λ (w : Guid). map (judging.pair_with w) new.readers.items) (of d) ∙ ap (λ (v : Vec Guid). map (judging.pair_with (get_or writers place d).writer) v.items) (are d)) ∙ known.pairs_are;
  in_order = subst (IsStrictlySortedBy guid_cmp) (sym (written (λ (w : JudgedWriter). w.writer) writers place new of)) known.in_order;
  each = all_written (judging.HasTakenIn from datagram asked heard) (judging.HasTakenIn from datagram asked' heard') writers place new here others known.each;
}

-- those of none need to
pub none_taken : (from datagram : ℕ) (pairs : List Pair) (asked heard asked' heard' : List placed_spec.PlacedValue) (writers : List JudgedWriter)
    → ((k : ℕ) (d : JudgedWriter) → k < length writers → judging.HasTakenIn from datagram asked heard (get_or writers k d) → judging.HasTakenIn from datagram asked' heard' (get_or writers k d))
    → judging.HaveTakenIn from datagram pairs asked heard writers → judging.HaveTakenIn from datagram pairs asked' heard' writers
none_taken from datagram pairs asked heard asked' heard' writers others known = record { pairs_are = known.pairs_are; in_order = known.in_order; each = λ k d lt. others k d lt (known.each k d lt) }

-- ---- the next datagram

-- no answer stands behind a later datagram either
pub later_taken : (from datagram : ℕ) (pairs : List Pair) (asked heard : List placed_spec.PlacedValue) (writers : List JudgedWriter) → judging.HaveTakenIn from datagram pairs asked heard writers → judging.HaveTakenIn from (datagram + 1) pairs asked heard writers
later_taken from datagram pairs asked heard writers known = record {
  pairs_are = known.pairs_are;
  in_order = known.in_order;
  each = λ k d lt.
      let one = known.each k d lt in
      record {
        asks = one.asks;
        until = All-weaker (λ (ask : Ask). ask.answer.datagram ≤ datagram) (λ (ask : Ask). ask.answer.datagram ≤ datagram + 1) (λ ask le. omega arith) one.asks one.until;
        asks_are = one.asks_are;
        in_order = one.in_order;
        stand = one.stand;
      };
}

-- acts of a recording stand in its datagrams
up_to : (before : ℕ) (recording : List (List values.ActValue)) → All (λ (at : placed_spec.PlacedValue). at.datagram < before + length recording + 1) (placed_spec.placed_behind before recording)
up_to before [] = All-nil _
up_to before (acts ∷ recording) =
    All-append (λ (at : placed_spec.PlacedValue). at.datagram < before + length (acts ∷ recording) + 1) (placed_spec.placed_at (before + 1) acts) (placed_spec.placed_behind (before + 1) recording)
    (All-map (λ (at : placed_spec.PlacedValue). at.datagram < before + length (acts ∷ recording) + 1) (λ (act : values.ActValue). record { datagram = before + 1; act = act }) acts (λ k d lt. omega arith))
    (All-weaker (λ (at : placed_spec.PlacedValue). at.datagram < before + 1 + length recording + 1) (λ (at : placed_spec.PlacedValue). at.datagram < before + length (acts ∷ recording) + 1) (λ at lt. omega arith) (placed_spec.placed_behind (before + 1) recording) (up_to (before + 1) recording))

pub earlier : (recording : List (List values.ActValue)) (datagram : ℕ) → datagram ≡ length recording + 1 → All (λ (at : placed_spec.PlacedValue). at.datagram < datagram) (placed_spec.placed_in recording)
earlier recording datagram is = All-weaker (λ (at : placed_spec.PlacedValue). at.datagram < 0 + length recording + 1) (λ (at : placed_spec.PlacedValue). at.datagram < datagram) (λ at lt. omega (arith, is)) (placed_spec.placed_in recording) (up_to 0 recording)
