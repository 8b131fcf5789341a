-- Items one after another: the reasons against them, what they hold, and how long they are.
use Rattle.std.proofs.Common.{◌≡◌, ◌≤◌, ◌<◌, ◌+◌, ◌^◌, ℕ, zero, suc, List, [], ◌∷◌, ◌++◌, false, Some, None, length, take, drop, get_or, map, refl, ap, sym, subst, ◌∙◌, arith}
use Rattle.std.specs.Prelude.{◌==◌, All, MatchOption, Option, unwrap_or}
use Rattle.std.proofs.lemmas.Bool.Decides.{nat_tests}
use Rattle.std.proofs.lemmas.List.Elements.{All-push}
use Rattle.std.proofs.lemmas.List.{append-nil, drop_more, length-append, length-drop, map-append, take-take, take_at, take_more}
use Rattle.rtps_wire.specs.Values as values
use Rattle.rtps_write.proofs.Reasons.{no_fault, no_first}
use Rattle.rtps_write.specs.Held as held
use Rattle.rtps_write.specs.Writable as writable
use Rattle.rtps_write.specs.Written as written
use Rattle.rtps_ids.proofs.Offered.{length-octets_of}
use Rattle.std.proofs.lemmas.Grind.{flat_map-append}
use Rattle.std.proofs.lemmas.List.Folds.{flat_map-map, length-flat_map-take}
use Rattle.std.specs.List.{flat_map}
use Rattle.rtps_wire.specs.declared.body.Item.{Item}

none_left : (items : List Item) → writable.is_none_left (map values.item_value items) ≡ (length items == 0)
none_left [] = refl
none_left (item ∷ items) = let some : (length (item ∷ items) == 0) ≡ false = grind (arith, nat_tests) in sym some

last_test : (i size left : ℕ) → i < size → left + (i + 1) ≡ size → (left == 0) ≡ (i + 1 == size)
last_test i size left inside is = grind (arith, nat_tests)

-- the item in front, and those behind it
pub fault_step : (items : List Item) (i : ℕ) (item : Item) → i < length items → item ≡ get_or items i item
    → writable.items_fault (map values.item_value (drop i items)) ≡ writable.first_of (writable.item_fault (i + 1 == length items) (values.item_value item)) (writable.items_fault (map values.item_value (drop (i + 1) items)))
fault_step items i item inside is =
    let behind = drop (i + 1) items in
    let front : drop i items ≡ item ∷ behind = drop_more items i item inside ∙ ap (λ x. x ∷ behind) (sym is) in
    let last = none_left behind ∙ last_test i (length items) (length behind) inside (omega (arith, length-drop (i + 1) items)) in
    ap (λ xs. writable.items_fault (map values.item_value xs)) front
    ∙ ap (λ b. writable.first_of (writable.item_fault b (values.item_value item)) (writable.items_fault (map values.item_value behind))) last

-- what holds of the items up to one, and of that one
pub held_more : (items : List Item) (i : ℕ) (item : Item) → i < length items → item ≡ get_or items i item → All held.IsHeldItem (map values.item_value (take i items)) → held.IsHeldItem (values.item_value item)
    → All held.IsHeldItem (map values.item_value (take (i + 1) items))
held_more items i item inside is before this =
    let one_more : map values.item_value (take (i + 1) items) ≡ map values.item_value (take i items) ++ values.item_value item ∷ [] =
    ap (map values.item_value) (take_more items i item inside ∙ ap (λ x. take i items ++ x ∷ []) (sym is)) ∙ map-append values.item_value (take i items) (item ∷ []) in
    let P : List values.ItemValue → Type 0 = All held.IsHeldItem in
    subst P (sym one_more) (All-push held.IsHeldItem (map values.item_value (take i items)) (values.item_value item) before this)

-- no body is too long where there is no reason against the items
pub small_at : (items : List Item) (i : ℕ) (item : Item) → writable.items_fault (map values.item_value items) ≡ None → i < length items → item ≡ get_or items i item
    → length (written.written_body (values.item_value item).order (values.item_value item).body) < 2 ^ 16
small_at [] i item good inside is = absurd (omega arith)
small_at (first ∷ items) zero item good inside is =
    let parts = no_first (writable.item_fault (writable.is_none_left (map values.item_value items)) (values.item_value first)) (writable.items_fault (map values.item_value items)) good in
    let small = (no_fault _ (values.item_value first) parts.0).1 in
    let P : Item → Type 0 = λ x. length (written.written_body (values.item_value x).order (values.item_value x).body) < 2 ^ 16 in
    subst P (sym is) small
small_at (first ∷ items) (suc i) item good inside is =
    let parts = no_first (writable.item_fault (writable.is_none_left (map values.item_value items)) (values.item_value first)) (writable.items_fault (map values.item_value items)) good in
    small_at items i item parts.1 (omega arith) is

-- how long an item is
item_long : (item : values.ItemValue) → length (written.item_octets item) ≡ 4 + length (written.written_body item.order item.body)
item_long item = omega (arith, length-append {A = ℕ}, length-octets_of item.order 2 (length (written.written_body item.order item.body)))

module _ (items : List Item) (i : ℕ) (inside : i < length items) (item : Item) where
  -- what is written of the items up to one, with that one, is no longer than all
  pub octets_within : length (flat_map written.item_octets (map values.item_value (take i items))) + length (written.item_octets (values.item_value (get_or items i item))) ≤ length (flat_map written.item_octets (map values.item_value items))
  octets_within =
      let f = λ (x : Item). written.item_octets (values.item_value x) in
      rw (flat_map-map written.item_octets values.item_value (take i items), flat_map-map written.item_octets values.item_value items) (length-flat_map-take f items i item inside)

  -- with one item more
  pub octets_more : flat_map written.item_octets (map values.item_value (take (i + 1) items)) ≡ flat_map written.item_octets (map values.item_value (take i items)) ++ written.item_octets (values.item_value (get_or items i item))
  octets_more =
      ap (λ xs. flat_map written.item_octets (map values.item_value xs)) (take_more items i item inside)
      ∙ ap (flat_map written.item_octets) (map-append values.item_value (take i items) (get_or items i item ∷ []))
      ∙ flat_map-append written.item_octets (map values.item_value (take i items)) (values.item_value (get_or items i item) ∷ [])
      ∙ ap (λ (l : List ℕ). flat_map written.item_octets (map values.item_value (take i items)) ++ l) (append-nil (written.item_octets (values.item_value (get_or items i item))))

  -- room for the items up to one and for that one is room for no more than both
  pub room_more : (room next size : ℕ) → item ≡ get_or items i item → room ≤ 20 + length (flat_map written.item_octets (map values.item_value (take i items))) → size ≤ length (written.written_body item.order (values.body_value item.body))
      → next ≤ room + (4 + size) → next ≤ 20 + length (flat_map written.item_octets (map values.item_value (take (i + 1) items)))
  room_more room next size is before this enough =
      let long = item_long (values.item_value item) in
      let same = ap (λ (x : Item). length (written.item_octets (values.item_value x))) is in
      let more = ap length octets_more in
      omega (arith, length-append (flat_map written.item_octets (map values.item_value (take i items))) (written.item_octets (values.item_value (get_or items i item))))

-- a size that is told, or 0
pub size_within : (told : Option ℕ) (size : ℕ) → MatchOption told (2 ^ 16 ≤ size) (λ n. size ≡ n) → unwrap_or told 0 ≤ size
size_within None size is = omega arith
size_within (Some n) size is = omega arith

-- what was there stays, where more was appended and then more again
pub kept_behind : (before more now after : List ℕ) (start size : ℕ) → length before ≡ start → now ≡ before ++ more → length now ≡ size → take size after ≡ now → take start after ≡ before
kept_behind before more now after start size is appended size_is kept =
    sym (take-take start size after (omega (arith, ap length appended, length-append before more))) ∙ (ap (take start) kept ∙ (ap (take start) appended ∙ take_at before more start is))
