-- The acts and answers of one datagram more, by origin and by pair.
use Rattle.std.proofs.Common.{◌≡◌, ℕ, zero, suc, ℤ, pos, Bool, true, false, cond, ◌&&◌, List, [], ◌∷◌, ◌++◌, length, take, drop, get_or, ◌+◌, ◌-◌, ◌<◌, ◌≤◌, append_assoc, arith, subst, map, filter, Option, Some, None, refl, sym, ap, ◌∙◌}
use Rattle.std.specs.BTreeMap.{BTreeMap, Updates, get}
use Rattle.std.specs.Cmp.{IsTotalOrder, both_ways}
use Rattle.std.specs.Global.{Vec}
use Rattle.std.specs.Prelude.{if◌then◌else◌}
use Rattle.std.specs.List.{All, AllWithin, cons_option, slice_range}
use Rattle.std.specs.Option.{unwrap_or}
use Rattle.std.specs.Ordering.{is_eq, ordering_then}
use Rattle.std.specs.Str.{bytes_eq}
use Rattle.std.specs.declared.cmp.Ordering.{Ordering}
use Rattle.std.specs.declared.cmp.Ordering.TheVariants.{Less, Equal, Greater}
use Rattle.std.proofs.Math.Seq.{drop-cons, take-add}
use Rattle.std.proofs.lemmas.Cmp.{nat_list_cmp_total, on_total, then_total}
use Rattle.std.proofs.lemmas.List.{get_or_default, get_or-drop, get_or-take, length-take, map-append, take_more}
use Rattle.std.proofs.lemmas.List.Elements.{All-head, All-tail, filter-append, filter_map-append}
use Rattle.std.proofs.lemmas.Map.Text.{is_eq-slice_cmp}
use Rattle.std.proofs.lemmas.Slice.Eq.{bytes_eq-Decides}
use Rattle.rtps_ids.specs.declared.identity.Guid.{Guid}
use Rattle.rtps_ids.specs.declared.identity.GuidPrefix.{GuidPrefix}
use Rattle.rtps_receiver.specs.Speech as receiver_speech
use Rattle.rtps_receiver.specs.Values as values
use Rattle.rtps_wire.specs.declared.body.AckNackBody.{AckNackBody}
use Rattle.rtps_receiver.specs.declared.spoken.Spoken.{Spoken}
use Rattle.rtps_discovery.specs.GuidOrder as guid_order
use Rattle.rtps_discovery.specs.Listings as listings
use Rattle.rtps_discovery.specs.declared.matching.Pair.{Pair}
use Rattle.rtps_audit.specs.Placed as placed_spec
use Rattle.rtps_audit.specs.Speech as speech
use Rattle.rtps_audit.specs.declared.answer.Answer.{Answer}
use Rattle.rtps_audit.specs.declared.groups.Groups.{Groups}
use Rattle.rtps_audit.proofs.GroupLemmas.{entry_grown}

is_eq-then : (a b : Ordering) → is_eq (ordering_then a b) ≡ is_eq a && is_eq b
is_eq-then Less b = refl
is_eq-then Equal b = refl
is_eq-then Greater b = refl

pub both : {a b c d : Bool} → a ≡ c → b ≡ d → a && b ≡ c && d
both e f = rw (e, f) refl

pub guids_total : IsTotalOrder guid_order.guid_cmp
guids_total = then_total (on_total (λ guid. guid.prefix.0) nat_list_cmp_total) (on_total (λ guid. guid.entity.0) nat_list_cmp_total)

-- GUIDs that compare alike are those that the test holds of
pub is_eq-guid_cmp : (one other : Guid) → is_eq (guid_order.guid_cmp one other) ≡ placed_spec.is_guid one other
is_eq-guid_cmp one other = is_eq-then _ _ ∙ both (is_eq-slice_cmp one.prefix.0 other.prefix.0) (is_eq-slice_cmp one.entity.0 other.entity.0)

-- the answer of an act of this source, destination and body
answer_by : ℕ → ℕ → GuidPrefix → Option GuidPrefix → values.ActBodyValue → Pair → Option Answer
answer_by datagram at source dest body pair =
    placed_spec.answer_at datagram at (if receiver_speech.is_prefix source pair.reader.prefix && (receiver_speech.is_for dest pair.writer.prefix && receiver_speech.names_pair body pair.reader.entity pair.writer.entity) then speech.base_of_body body else None)

pub bytes_eq-sym : (xs ys : List ℕ) → bytes_eq xs ys ≡ bytes_eq ys xs
bytes_eq-sym xs ys =
    both_ways _ _ (λ e. (bytes_eq-Decides ys xs).1 (sym ((bytes_eq-Decides xs ys).0 e))) (λ e. (bytes_eq-Decides xs ys).1 (sym ((bytes_eq-Decides ys xs).0 e)))

-- the answer that an ACKNACK for a participant is, is of one pair
answer_for : (datagram : ℕ) (act : values.ActValue) (ack_nack : AckNackBody) (dest : GuidPrefix) (pair : Pair) (number : ℤ) → act.body ≡ values.ActBodyValue.AckNack ack_nack → act.dest ≡ Some dest → number ≡ pos ack_nack.set.base
    → placed_spec.answer_of pair (record { datagram = datagram; act = act })
    ≡ cond (is_eq (listings.pair_cmp pair (record { writer = record { prefix = dest; entity = ack_nack.writer }; reader = receiver_speech.origin_of act }))) (Some (record { datagram = datagram; at = act.at; base = number })) None
unfolding answer_by
answer_for datagram act ack_nack dest pair number body to is =
    ap (λ d. answer_by datagram act.at act.source d act.body pair) to
    ∙ ap (λ b. answer_by datagram act.at act.source (Some dest) b pair) body
    ∙ by_test (receiver_speech.is_prefix act.source pair.reader.prefix) (receiver_speech.is_entity ack_nack.reader pair.reader.entity) (receiver_speech.is_prefix dest pair.writer.prefix) (receiver_speech.is_entity ack_nack.writer pair.writer.entity)
    ∙ ap (λ b. cond b (Some (record { datagram = datagram; at = act.at; base = number })) None) (sym same)
  where
    writer : Guid
    writer = record { prefix = dest; entity = ack_nack.writer }

    guids : (one other : Guid) → is_eq (guid_order.guid_cmp one other) ≡ placed_spec.is_guid other one
    guids one other = is_eq-guid_cmp one other ∙ both (bytes_eq-sym one.prefix.0 other.prefix.0) (bytes_eq-sym one.entity.0 other.entity.0)

    same : is_eq (listings.pair_cmp pair (record { writer = writer; reader = receiver_speech.origin_of act }))
        ≡ (receiver_speech.is_prefix dest pair.writer.prefix && receiver_speech.is_entity ack_nack.writer pair.writer.entity) && (receiver_speech.is_prefix act.source pair.reader.prefix && receiver_speech.is_entity ack_nack.reader pair.reader.entity)
    same = is_eq-then _ _ ∙ both (guids pair.writer writer) (guids pair.reader (receiver_speech.origin_of act) ∙ ap (λ b. receiver_speech.is_prefix act.source pair.reader.prefix && receiver_speech.is_entity (receiver_speech.entity_from b) pair.reader.entity) body)

    by_test : (a b c d : Bool) → placed_spec.answer_at datagram act.at (if a && (c && (b && d)) then Some ack_nack.set.base else None)
        ≡ cond ((c && d) && (a && b)) (Some (record { datagram = datagram; at = act.at; base = number })) None
    by_test true true true true = ap (λ z. let made : Answer = record { datagram = datagram; at = act.at; base = z } in Some made) (sym is)
    by_test true true true false = refl
    by_test true false true true = refl
    by_test true false true false = refl
    by_test true b false d = refl
    by_test false b true true = refl
    by_test false b true false = refl
    by_test false b false d = refl

pub answer_read : (datagram : ℕ) (act : values.ActValue) (ack_nack : AckNackBody) (writer reader : Guid) (pair : Pair) (number : ℤ) → act.body ≡ values.ActBodyValue.AckNack ack_nack → receiver_speech.writer_answered act ≡ Some writer → reader ≡ receiver_speech.origin_of act → number ≡ pos ack_nack.set.base
    → placed_spec.answer_of pair (record { datagram = datagram; act = act }) ≡ cond (is_eq (listings.pair_cmp pair (record { writer = writer; reader = reader }))) (Some (record { datagram = datagram; at = act.at; base = number })) None
answer_read datagram act ack_nack writer reader pair number body answered from is =
    by_dest act.dest refl (sym (ap (receiver_speech.answered_at act.dest) body) ∙ answered)
    ∙ ap (λ r. let it : Answer = record { datagram = datagram; at = act.at; base = number } in cond (is_eq (listings.pair_cmp pair (record { writer = writer; reader = r }))) (Some it) None) (sym from)
  where
    by_dest : (dest : Option GuidPrefix) → act.dest ≡ dest → receiver_speech.answered_at dest (values.ActBodyValue.AckNack ack_nack) ≡ Some writer
        → placed_spec.answer_of pair (record { datagram = datagram; act = act }) ≡ cond (is_eq (listings.pair_cmp pair (record { writer = writer; reader = receiver_speech.origin_of act }))) (Some (record { datagram = datagram; at = act.at; base = number })) None
    by_dest None e h = cc
    by_dest (Some dest) e h =
        let named : Guid = record { prefix = dest; entity = ack_nack.writer } in
        let same : named ≡ writer = cc in
        subst (λ (w : Guid). placed_spec.answer_of pair (record { datagram = datagram; act = act }) ≡ cond (is_eq (listings.pair_cmp pair (record { writer = w; reader = receiver_speech.origin_of act }))) (Some (record { datagram = datagram; at = act.at; base = number })) None) same
        (answer_for datagram act ack_nack dest pair number body e is)

-- the answers of the reader that an entry lends
pub lent_answers : (writer : Guid) (found value : Option (Groups Guid Answer)) (empty lent : Groups Guid Answer) → placed_spec.values_at guid_order.guid_cmp empty.map writer ≡ [] → value ≡ found → lent ≡ unwrap_or value empty → placed_spec.values_at guid_order.guid_cmp lent.map writer ≡ placed_spec.answers_to found writer
lent_answers writer found None empty lent none same is = ap (λ (g : Groups Guid Answer). placed_spec.values_at guid_order.guid_cmp g.map writer) is ∙ none ∙ ap (λ f. placed_spec.answers_to f writer) same
lent_answers writer found (Some held) empty lent none same is = ap (λ (g : Groups Guid Answer). placed_spec.values_at guid_order.guid_cmp g.map writer) is ∙ ap (λ f. placed_spec.answers_to f writer) same

-- one answer more, where there is one
pub answer_added : (found : Option Answer) (is_its : Bool) (answer : Answer) → found ≡ cond is_its (Some answer) None → cond is_its (answer ∷ []) [] ≡ cons_option found []
answer_added found true answer is = ap (λ o. cons_option o []) (sym is)
answer_added found false answer is = ap (λ o. cons_option o []) (sym is)

-- what holds from one place to another holds of all that stands between
pub all_between : {X : Type 0} (P : X → Type 0) (xs : List X) (start end : ℕ) → AllWithin P xs start end → All P (slice_range xs start end)
all_between P xs start end h k d lt =
    subst P (sym (get_or-take (end - start) (drop start xs) k d below ∙ get_or-drop start xs k d)) (h (start + k) d (omega arith) (omega (arith, below)))
  where
    below : k < end - start
    below = omega (arith, lt, length-take (end - start) (drop start xs))

pub all_with_first : {X : Type 0} (P : X → Type 0) (xs : List X) (start end : ℕ) (x : X) → x ≡ get_or xs start x → start < length xs → P x → AllWithin P xs (start + 1) end → AllWithin P xs start end
all_with_first P xs start end x at within first others k d le lt = by_gap (k - start) (omega arith)
  where
    by_gap : (n : ℕ) → k ≡ start + n → P (get_or xs k d)
    by_gap zero e = subst P (at ∙ get_or_default xs start x d within ∙ ap (λ i. get_or xs i d) (omega (arith, e))) first
    by_gap (suc n) e = others k d (omega (arith, e)) lt

-- what a list of pairs has at a place past its end
abbrev pub no_pair : Pair
no_pair =
    let none : Guid = record { prefix = record { 0 = [] }; entity = record { 0 = [] } } in
    record { writer = none; reader = none }

-- acts of one GUID in a datagram are all of its acts or none
pub run_filtered : (datagram : ℕ) (origin other : Guid) (acts : List Spoken) → All (λ act. receiver_speech.origin_of (values.spoken_value act) ≡ origin) acts
    → filter (placed_spec.is_from other) (placed_spec.placed_at datagram (map values.spoken_value acts)) ≡ cond (is_eq (guid_order.guid_cmp other origin)) (placed_spec.placed_at datagram (map values.spoken_value acts)) []
run_filtered datagram origin other [] from = none (is_eq (guid_order.guid_cmp other origin))
  where
    none : (b : Bool) → [] ≡ cond b (placed_spec.placed_at datagram []) []
    none true = refl
    none false = refl
run_filtered datagram origin other (act ∷ acts) from =
    ap (λ b. cond b (first ∷ filter (placed_spec.is_from other) later) (filter (placed_spec.is_from other) later)) (ap (placed_spec.is_guid other) (All-head (λ (a : Spoken). receiver_speech.origin_of (values.spoken_value a) ≡ origin) act acts from) ∙ sym (is_eq-guid_cmp other origin))
    ∙ ap (λ l. cond (is_eq (guid_order.guid_cmp other origin)) (first ∷ l) l) (run_filtered datagram origin other acts (All-tail (λ (a : Spoken). receiver_speech.origin_of (values.spoken_value a) ≡ origin) act acts from))
    ∙ by_test (is_eq (guid_order.guid_cmp other origin))
  where
    first : placed_spec.PlacedValue
    first = record { datagram = datagram; act = values.spoken_value act }

    later : List placed_spec.PlacedValue
    later = placed_spec.placed_at datagram (map values.spoken_value acts)

    by_test : (b : Bool) → cond b (first ∷ cond b later []) (cond b later []) ≡ cond b (first ∷ later) []
    by_test true = refl
    by_test false = refl

pub placed_both : (datagram : ℕ) (xs ys : List Spoken) → placed_spec.placed_at datagram (map values.spoken_value (xs ++ ys)) ≡ placed_spec.placed_at datagram (map values.spoken_value xs) ++ placed_spec.placed_at datagram (map values.spoken_value ys)
placed_both datagram xs ys = ap (placed_spec.placed_at datagram) (map-append values.spoken_value xs ys) ∙ map-append _ (map values.spoken_value xs) _

-- lists with some acts more, and with some more behind these
pub acts_joined : (origin : Guid) (old mid new : List placed_spec.PlacedValue) (xs ys : List placed_spec.PlacedValue) → mid ≡ old ++ filter (placed_spec.is_from origin) xs → new ≡ mid ++ filter (placed_spec.is_from origin) ys → new ≡ old ++ filter (placed_spec.is_from origin) (xs ++ ys)
acts_joined origin old mid new xs ys one two =
    two ∙ ap (λ l. l ++ filter (placed_spec.is_from origin) ys) one ∙ append_assoc old (filter (placed_spec.is_from origin) xs) (filter (placed_spec.is_from origin) ys) ∙ ap (λ l. old ++ l) (sym (filter-append (placed_spec.is_from origin) xs ys))

pub answers_joined : (pair : Pair) (old mid new : List Answer) (xs ys : List placed_spec.PlacedValue) → mid ≡ old ++ placed_spec.answers_among pair xs → new ≡ mid ++ placed_spec.answers_among pair ys → new ≡ old ++ placed_spec.answers_among pair (xs ++ ys)
answers_joined pair old mid new xs ys one two =
    two ∙ ap (λ l. l ++ placed_spec.answers_among pair ys) one ∙ append_assoc old (placed_spec.answers_among pair xs) (placed_spec.answers_among pair ys) ∙ ap (λ l. old ++ l) (sym (filter_map-append (placed_spec.answer_of pair) xs ys))

-- the acts of a datagram, with one more of it
pub placed_more : (datagram : ℕ) (acts : List Spoken) (i : ℕ) (act : Spoken) → i < length acts → act ≡ get_or acts i act
    → placed_spec.placed_at datagram (map values.spoken_value (take (i + 1) acts)) ≡ placed_spec.placed_at datagram (map values.spoken_value (take i acts)) ++ placed_spec.placed_at datagram (values.spoken_value act ∷ [])
placed_more datagram acts i act lt at =
    ap (λ l. placed_spec.placed_at datagram (map values.spoken_value l)) (take_more acts i act lt ∙ ap (λ a. take i acts ++ a ∷ []) (sym at)) ∙ ap (placed_spec.placed_at datagram) (map-append values.spoken_value (take i acts) _) ∙ map-append _ (map values.spoken_value (take i acts)) _

-- ---- answers of one reader

-- one answer more of its reader
pub AddsAnswersOf-one : (old new : BTreeMap Guid (Vec Answer)) (reader : Guid) (placed : placed_spec.PlacedValue) (found : Pair) (answer : Answer) → found.reader ≡ reader
    → ((pair : Pair) → placed_spec.answer_of pair placed ≡ cond (is_eq (listings.pair_cmp pair found)) (Some answer) None)
    → ((writer : Guid) → placed_spec.values_at guid_order.guid_cmp new writer ≡ placed_spec.values_at guid_order.guid_cmp old writer ++ cond (is_eq (guid_order.guid_cmp writer found.writer)) (answer ∷ []) [])
    → placed_spec.AddsAnswersOf reader old new (placed ∷ [])
AddsAnswersOf-one old new reader placed found answer of is added = record {
  own = λ pair e. added pair.writer ∙ ap (λ l. placed_spec.values_at guid_order.guid_cmp old pair.writer ++ l) (alone (is_eq (guid_order.guid_cmp pair.writer found.writer)) _ (its pair ∙ ap (λ b. is_eq (guid_order.guid_cmp pair.writer found.writer) && b) e) ∙ answer_added _ _ answer (is pair));
  others = λ pair e. sym (answer_added _ _ answer (is pair)) ∙ nobody (is_eq (guid_order.guid_cmp pair.writer found.writer)) _ (its pair ∙ ap (λ b. is_eq (guid_order.guid_cmp pair.writer found.writer) && b) e);
}
  where
    its : (pair : Pair) → is_eq (listings.pair_cmp pair found) ≡ is_eq (guid_order.guid_cmp pair.writer found.writer) && is_eq (guid_order.guid_cmp pair.reader reader)
    its pair = is_eq-then _ _ ∙ ap (λ r. is_eq (guid_order.guid_cmp pair.writer found.writer) && is_eq (guid_order.guid_cmp pair.reader r)) of

    alone : (a b : Bool) → b ≡ a && true → cond a (answer ∷ []) [] ≡ cond b (answer ∷ []) []
    alone true b e = ap (λ x. cond x (answer ∷ []) []) (sym e)
    alone false b e = ap (λ x. cond x (answer ∷ []) []) (sym e)

    nobody : (a b : Bool) → b ≡ a && false → cond b (answer ∷ []) [] ≡ []
    nobody true b e = ap (λ x. cond x (answer ∷ []) []) e
    nobody false b e = ap (λ x. cond x (answer ∷ []) []) e

pub AddsAnswersOf-joined : (reader : Guid) (old mid new : BTreeMap Guid (Vec Answer)) (xs ys : List placed_spec.PlacedValue) → placed_spec.AddsAnswersOf reader old mid xs → placed_spec.AddsAnswersOf reader mid new ys → placed_spec.AddsAnswersOf reader old new (xs ++ ys)
AddsAnswersOf-joined reader old mid new xs ys one two = record {
  own = λ pair e. answers_joined pair _ _ _ xs ys (one.own pair e) (two.own pair e);
  others = λ pair e. filter_map-append (placed_spec.answer_of pair) xs ys ∙ ap (λ l. l ++ placed_spec.answers_among pair ys) (one.others pair e) ∙ two.others pair e;
}

-- the answers of all readers, where those of one reader were added
pub answers_of_reader : (old new : BTreeMap Guid (Groups Guid Answer)) (reader : Guid) (lent now empty : Groups Guid Answer) (value : Option (Groups Guid Answer)) (placed : List placed_spec.PlacedValue)
    → ((writer : Guid) → placed_spec.values_at guid_order.guid_cmp empty.map writer ≡ []) → value ≡ get guid_order.guid_cmp old reader → lent ≡ unwrap_or value empty
    → Updates guid_order.guid_cmp old new reader (Some now) → placed_spec.AddsAnswersOf reader lent.map now.map placed → placed_spec.AddsAnswers old new placed
answers_of_reader old new reader lent now empty value placed none same is updates more = λ pair.
    entry_grown guids_total (λ found. placed_spec.answers_to found pair.writer) old new reader pair.reader now (placed_spec.answers_among pair placed) updates (λ e. more.own pair e ∙ ap (λ l. l ++ placed_spec.answers_among pair placed) (lent_answers pair.writer _ _ _ _ (none pair.writer) same is))
    ∙ ap (λ l. placed_spec.answers_to (get guid_order.guid_cmp old pair.reader) pair.writer ++ l) (by_test (is_eq (guid_order.guid_cmp pair.reader reader)) (more.others pair))
  where
    by_test : {xs : List Answer} (b : Bool) → (b ≡ false → xs ≡ []) → cond b xs [] ≡ xs
    by_test true f = refl
    by_test false f = sym (f refl)

-- ---- the acts up to a place, and those from there to another

pub one_between : {X : Type 0} (xs : List X) (i : ℕ) (x : X) → i < length xs → x ≡ get_or xs i x → slice_range xs i (i + 1) ≡ x ∷ []
one_between xs i x lt at = ap (λ n. take n (drop i xs)) one ∙ ap (take 1) (drop-cons xs i x lt) ∙ ap (λ y. y ∷ []) (sym at)
  where
    one : i + 1 - i ≡ 1
    one = omega arith

pub placed_up_to : (datagram : ℕ) (acts : List Spoken) (start end : ℕ) → start ≤ end → placed_spec.placed_at datagram (map values.spoken_value (take end acts)) ≡ placed_spec.placed_at datagram (map values.spoken_value (take start acts)) ++ placed_spec.placed_at datagram (map values.spoken_value (slice_range acts start end))
placed_up_to datagram acts start end le = ap (λ l. placed_spec.placed_at datagram (map values.spoken_value l)) (sym (sym (take-add start (end - start) acts) ∙ ap (λ n. take n acts) whole)) ∙ placed_both datagram (take start acts) (slice_range acts start end)
  where
    whole : start + (end - start) ≡ end
    whole = omega arith
