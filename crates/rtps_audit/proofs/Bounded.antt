-- What a recording says is of numbers that are bounded, and if it is of octets, of numbers that fit.
use Rattle.std.proofs.Common.{◌≡◌, ◌<◌, ◌≤◌, ◌+◌, ◌^◌, ℕ, Bool, true, false, List, [], ◌∷◌, ◌++◌, map, Option, Some, None, slice_get, refl, sym, ◌∙◌, ap, subst, arith}
use Rattle.std.specs.Prelude.{◌==◌, if◌then◌else◌, All}
use Rattle.std.specs.Option.{option_map}
use Rattle.std.proofs.lemmas.Bool.Decides.{nat_tests}
use Rattle.std.proofs.lemmas.List.Elements.{All-append, All-cons, All-head, All-nil, All-tail}
use Rattle.std.proofs.lemmas.Option.{get_or_from_slice_get, slice_get-map, slice_get_within}
use Rattle.rtps_ids.specs.declared.identity.Guid.{Guid}
use Rattle.rtps_wire.proofs.Offered.{items_tell_of_numbers}
use Rattle.rtps_wire.specs.Numbers as numbers
use Rattle.rtps_wire.specs.Reading as reading
use Rattle.rtps_wire.specs.Values as wire_values
use Rattle.rtps_wire.specs.declared.body.GapBody.{GapBody}
use Rattle.rtps_wire.specs.declared.header.Header.{Header}
use Rattle.rtps_receiver.specs.Acts as acts_spec
use Rattle.rtps_receiver.specs.Said as said
use Rattle.rtps_receiver.specs.declared.state.State.{State}
use Rattle.rtps_receiver.specs.Values as receiver_values
use Rattle.rtps_audit.specs.Delivery as delivery
use Rattle.rtps_audit.specs.FullRun as full_run
use Rattle.rtps_audit.specs.Speech as speech
use Rattle.rtps_audit.specs.Laws as laws
use Rattle.rtps_audit.proofs.Greatest.{greatest_below}

-- ---- acts

abbrev IsOctets : List ℕ → Type 0
IsOctets datagram = All (λ octet. octet < 256) datagram

-- each number that the act has a word for fits
record SmallAct (body : receiver_values.ActBodyValue) : Type 0 where
  each : (n : ℕ) (word : delivery.Word) → speech.word_of body n ≡ Some word → n < 2 ^ 63

some_if : {X : Type 0} (b : Bool) (x y : X) → (if b then Some x else None) ≡ Some y → b ≡ true
some_if true x y e = refl
some_if false x y e = cc

if_some : {X : Type 0} (b : Bool) (o : Option X) (y : X) → (if b then o else None) ≡ Some y → b ≡ true
if_some true o y e = refl
if_some false o y e = cc

in_gap_small : (gap : GapBody) (n : ℕ) → gap.list.base + gap.list.count ≤ 2 ^ 63 → said.is_in_gap gap n ≡ true → n < 2 ^ 63
in_gap_small gap n end in_gap = grind (arith, nat_tests)

small_body : (body : wire_values.BodyValue) (act : receiver_values.ActBodyValue) → numbers.IsOfNumbers body → acts_spec.act_body body ≡ Some act → SmallAct act
small_body (wire_values.BodyValue.Data value) act fits is = let same : receiver_values.ActBodyValue.Data value ≡ act = cc in subst SmallAct same (record { each = λ n word e. let at = some_if _ _ word e in grind (arith, nat_tests) })
small_body (wire_values.BodyValue.Heartbeat value) act fits is = let same : receiver_values.ActBodyValue.Heartbeat value ≡ act = cc in subst SmallAct same (record { each = λ n word e. let below = some_if _ _ word e in grind (arith, nat_tests) })
small_body (wire_values.BodyValue.AckNack value) act fits is = let same : receiver_values.ActBodyValue.AckNack value ≡ act = cc in subst SmallAct same (record { each = λ n word e. cc })
small_body (wire_values.BodyValue.Gap value) act fits is = let same : receiver_values.ActBodyValue.Gap value ≡ act = cc in subst SmallAct same (record { each = λ n word e. in_gap_small value n fits (some_if _ _ word e) })
small_body (wire_values.BodyValue.InfoTs time) act fits is = cc
small_body (wire_values.BodyValue.InfoDst prefix) act fits is = cc
small_body (wire_values.BodyValue.InfoSrc version vendor prefix) act fits is = cc
small_body (wire_values.BodyValue.Skipped id) act fits is = cc

abbrev IsSmall : receiver_values.ActValue → Type 0
IsSmall act = SmallAct act.body

act_of : (state : State) (item : wire_values.ItemValue) (body : Option receiver_values.ActBodyValue) → acts_spec.act_body item.body ≡ body → numbers.TellsOfNumbers item → All IsSmall (acts_spec.acts_of_item state item body)
act_of state item None is small = All-nil IsSmall
act_of state item (Some body) is small = All-cons IsSmall (acts_spec.act_at state item.at item.order body) [] (small_body item.body body small is) (All-nil IsSmall)

acts_small : (start : State) (before items : List wire_values.ItemValue) → All numbers.TellsOfNumbers items → All IsSmall (acts_spec.acts_behind start before items)
acts_small start before [] small = All-nil IsSmall
acts_small start before (item ∷ items) small =
    All-append IsSmall (acts_spec.acts_of_item (acts_spec.state_behind start before) item (acts_spec.act_body item.body)) (acts_spec.acts_behind start (before ++ item ∷ []) items)
    (act_of (acts_spec.state_behind start before) item (acts_spec.act_body item.body) refl (All-head numbers.TellsOfNumbers item items small))
    (acts_small start (before ++ item ∷ []) items (All-tail numbers.TellsOfNumbers item items small))

acts_read : (header : Option Header) (items : List wire_values.ItemValue) → All numbers.TellsOfNumbers items → All IsSmall (acts_spec.acts_with header items)
acts_read None items small = All-nil IsSmall
acts_read (Some header) items small = acts_small (acts_spec.state_at_start header) [] items small

acts_said : (datagram : List ℕ) → IsOctets datagram → All IsSmall (acts_spec.acts_of (reading.reading_of datagram))
unfolding acts_spec.acts_of
acts_said datagram octets = acts_read (reading.reading_of datagram).header (reading.reading_of datagram).items (items_tell_of_numbers datagram octets)

-- ---- what is said of a pair

-- an element of a list that a function gives is what it gives of one
from_map : {X Y : Type 0} (f : X → Y) (xs : List X) (i : ℕ) (y : Y) → slice_get (map f xs) i ≡ Some y → (x : X) × (slice_get xs i ≡ Some x) × (f x ≡ y)
from_map {X = X} {Y = Y} f xs i y is = by_found (slice_get xs i) refl (sym (slice_get-map f xs i) ∙ is)
  where
    by_found : (found : Option X) → slice_get xs i ≡ found → option_map f found ≡ Some y → (x : X) × (slice_get xs i ≡ Some x) × (f x ≡ y)
    by_found None at e = cc
    by_found (Some x) at e = (x, at, cc)

-- an element of a list has what all have
at_place : {X : Type 0} (P : X → Type 0) (xs : List X) (i : ℕ) (x : X) → All P xs → slice_get xs i ≡ Some x → P x
at_place P xs i x all is = subst P (get_or_from_slice_get xs i x x is) (all i x (slice_get_within xs i x is))

heard_small : (act : receiver_values.ActValue) (n : ℕ) (word : delivery.Word) → IsSmall act → (heard : Bool) → (if heard then speech.word_of act.body n else None) ≡ Some word → n < 2 ^ 63
heard_small act n word small true e = small.each n word e
heard_small act n word small false e = cc

said_small : (writer reader : Guid) (acts : List receiver_values.ActValue) (datagram : delivery.Datagram) (k n : ℕ) (act : ℕ → Option delivery.Word) (word : delivery.Word) → speech.said_by writer reader acts ≡ datagram → All IsSmall acts
    → slice_get datagram.acts k ≡ Some act → act n ≡ Some word → n < 2 ^ 63
said_small writer reader acts datagram k n act word is small speaks says =
    let (value, at, same) = from_map (speech.word_for writer reader) acts k act (ap (λ (d : delivery.Datagram). slice_get d.acts k) is ∙ speaks) in
    heard_small value n word (at_place IsSmall acts k value small at) _ (ap (λ (f : ℕ → Option delivery.Word). f n) same ∙ says)

pub recordings_are_bounded : laws.RecordingsAreBounded
recordings_are_bounded from writer reader recording octets i k n word gives =
    let (acts, there, same) = from_map (speech.said_by writer reader) (speech.acts_by_datagram recording) i gives.datagram gives.stands in
    let (datagram, at, are) = from_map (λ datagram. acts_spec.acts_of (reading.reading_of datagram)) recording i acts there in
    said_small writer reader (acts_spec.acts_of (reading.reading_of datagram)) gives.datagram k n gives.act word (ap (speech.said_by writer reader) are ∙ same)
    (acts_said datagram (at_place IsOctets recording i datagram octets at)) gives.speaks gives.says

-- ---- some bound of any recording

-- a number past those that an act has a word for
abbrev end_of : receiver_values.ActBodyValue → ℕ
end_of (receiver_values.ActBodyValue.Data value) = value.number + 1
end_of (receiver_values.ActBodyValue.Heartbeat value) = value.first
end_of (receiver_values.ActBodyValue.AckNack value) = 0
end_of (receiver_values.ActBodyValue.NackFrag value) = 0
end_of (receiver_values.ActBodyValue.Gap value) = value.list.base + value.list.count
end_of (receiver_values.ActBodyValue.DataFrag value) = value.number + 1

before_end : (body : receiver_values.ActBodyValue) (n : ℕ) (word : delivery.Word) → speech.word_of body n ≡ Some word → n < end_of body
before_end (receiver_values.ActBodyValue.Data value) n word e = let same = some_if _ _ word e in grind (arith, nat_tests)
before_end (receiver_values.ActBodyValue.Heartbeat value) n word e = let same = some_if _ _ word e in grind (arith, nat_tests)
before_end (receiver_values.ActBodyValue.AckNack value) n word e = cc
before_end (receiver_values.ActBodyValue.NackFrag value) n word e = cc
before_end (receiver_values.ActBodyValue.Gap value) n word e = let in_gap = some_if _ _ word e in grind (arith, nat_tests)
before_end (receiver_values.ActBodyValue.DataFrag value) n word e = let same = if_some (value.number == n) (option_map delivery.Word.Told value.told) word e in grind (arith, nat_tests)

-- what a function gives of an element is at most the greatest of what it gives
below_one : {X : Type 0} (f : X → ℕ) (xs : List X) (i n : ℕ) (x : X) → slice_get xs i ≡ Some x → n < f x → n < delivery.greatest (map f xs)
below_one f xs i n x at below =
    let is : slice_get (map f xs) i ≡ Some (f x) = slice_get-map f xs i ∙ ap (option_map f) at in
    greatest_below n (f x) (map f xs) (i, slice_get_within (map f xs) i (f x) is, get_or_from_slice_get (map f xs) i (f x) (f x) is) below

abbrev end_of_acts : List receiver_values.ActValue → ℕ
end_of_acts acts = delivery.greatest (map (λ (act : receiver_values.ActValue). end_of act.body) acts)

abbrev pub end_of_recording : List (List receiver_values.ActValue) → ℕ
end_of_recording recording = delivery.greatest (map end_of_acts recording)

heard_before : (act : receiver_values.ActValue) (n : ℕ) (word : delivery.Word) (heard : Bool) → (if heard then speech.word_of act.body n else None) ≡ Some word → n < end_of act.body
heard_before act n word true e = before_end act.body n word e
heard_before act n word false e = cc

said_before : (writer reader : Guid) (acts : List receiver_values.ActValue) (datagram : delivery.Datagram) (k n : ℕ) (act : ℕ → Option delivery.Word) (word : delivery.Word) → speech.said_by writer reader acts ≡ datagram
    → slice_get datagram.acts k ≡ Some act → act n ≡ Some word → n < end_of_acts acts
said_before writer reader acts datagram k n act word is speaks says =
    let (value, at, same) = from_map (speech.word_for writer reader) acts k act (ap (λ (d : delivery.Datagram). slice_get d.acts k) is ∙ speaks) in
    below_one (λ (act : receiver_values.ActValue). end_of act.body) acts k n value at (heard_before value n word _ (ap (λ (f : ℕ → Option delivery.Word). f n) same ∙ says))

pub some_bound : (from : ℕ) (writer reader : Guid) (recording : List (List receiver_values.ActValue)) → full_run.IsBoundedBy from (speech.speech_by writer reader recording) (end_of_recording recording)
some_bound from writer reader recording i k n word gives =
    let (acts, at, same) = from_map (speech.said_by writer reader) recording i gives.datagram gives.stands in
    below_one end_of_acts recording i n acts at
    (said_before writer reader acts gives.datagram k n gives.act word same gives.speaks gives.says)
