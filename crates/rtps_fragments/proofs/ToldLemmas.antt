-- The payloads that pieces tell, one piece after another, are those that are put together of all their fragments.
use Rattle.std.proofs.lemmas.Grind.{common_steps}
use Rattle.std.proofs.Common.{◌≡◌, ℕ, suc, Bool, true, false, cond, List, [], ◌∷◌, ◌++◌, length, map, drop, Option, Some, None, refl, sym, ◌∙◌, ap, subst, inl, inr, ◌⊎◌, append_assoc, append-nil, arith, rules}
use Rattle.std.specs.Prelude.{Contains}
use Rattle.std.specs.List.{filter_map, flat_map, cons_option}
use Rattle.std.proofs.lemmas.Bool.{cases_Bool}
use Rattle.std.proofs.lemmas.Bool.Decides.{Decides-eqb, nat_tests}
use Rattle.std.proofs.lemmas.List.{map-append}
use Rattle.std.proofs.lemmas.List.Elements.{filter_map-append, Contains-append_left, Contains-append_right, Contains-append_cases}
use Rattle.std.proofs.Math.Seq.{drop-append_seam}
use Rattle.rtps_wire.specs.Values as values
use Rattle.rtps_audit.specs.Delivery as delivery
use Rattle.rtps_audit.proofs.Offered.{contains_mapped, contains_none, made_from, makes, mapped_contains}
use Rattle.rtps_wire.specs.declared.data_frag.Shape.{Shape}
use Rattle.rtps_wire.specs.DataFrag as data_frag
use Rattle.rtps_fragments.specs.FragmentDelivery as fragment_delivery
use Rattle.rtps_fragments.specs.Samples as samples
use Rattle.rtps_fragments.proofs.SampleLemmas.{samples_grow}

-- ---- which fragments are of a sample

pub own_shape : (n : ℕ) (shape : Shape) → samples.is_of n shape n shape ≡ true
own_shape n shape = grind (arith, nat_tests)

pub same_sample : (n : ℕ) (shape : Shape) (number : ℕ) (other : Shape) → samples.is_of n shape number other ≡ true → (number ≡ n) × (other ≡ shape)
same_sample n shape number other e = grind (arith, nat_tests)

-- ---- what came of a sample are its fragments

abbrev pub fragment_of : ℕ → Shape → ℕ × List ℕ → fragment_delivery.Fragment
fragment_of n shape one = record { number = n; shape = shape; index = one.0; octets = one.1 }

fragment_is : (f : fragment_delivery.Fragment) (n : ℕ) (shape : Shape) (one : ℕ × List ℕ) → f.number ≡ n → f.shape ≡ shape → ◌≡◌ {A = ℕ × List ℕ} (f.index, f.octets) one → f ≡ fragment_of n shape one
fragment_is f n shape one number same is = grind (arith, nat_tests)

pub if_then : {X : Type 0} (b : Bool) (x y : X) → cond b (Some x) None ≡ Some y → (b ≡ true) × (x ≡ y)
if_then b x y h = grind (arith, nat_tests)

pub came_is_there : (n : ℕ) (shape : Shape) (fragments : List fragment_delivery.Fragment) (one : ℕ × List ℕ) → Contains (filter_map (samples.came_of n shape) fragments) one → Contains fragments (fragment_of n shape one)
came_is_there n shape fragments one among =
    let (f, there, is) = made_from (samples.came_of n shape) fragments one among in
    let (test, pair) = if_then (samples.is_of n shape f.number f.shape) _ one is in
    let (number, same) = same_sample n shape f.number f.shape test in
    subst (Contains fragments) (fragment_is f n shape one number same pair) there

pub there_came : (n : ℕ) (shape : Shape) (fragments : List fragment_delivery.Fragment) (one : ℕ × List ℕ) → Contains fragments (fragment_of n shape one) → Contains (filter_map (samples.came_of n shape) fragments) one
there_came n shape fragments one among = search (rules, makes, own_shape)

-- no fragment of another sample came
pub none_came : (n : ℕ) (shape : Shape) (number : ℕ) (other : Shape) (i : ℕ) (parts : List (List ℕ)) → samples.is_of n shape number other ≡ false → filter_map (samples.came_of n shape) (fragment_delivery.fragments_from number other i parts) ≡ []
none_came n shape number other i [] e = refl
none_came n shape number other i (octets ∷ parts) e =
    let first : Option (ℕ × List ℕ) = Some (i, octets) in
    ap (λ b. cons_option (cond b first None) (filter_map (samples.came_of n shape) (fragment_delivery.fragments_from number other (suc i) parts))) e
    ∙ none_came n shape number other (suc i) parts e

-- ---- payloads

pub payloads_grow : (n : ℕ) (shape : Shape) (before more : List fragment_delivery.Fragment) → (rest : List values.PayloadValue) × (samples.payloads_of n shape (before ++ more) ≡ samples.payloads_of n shape before ++ rest)
payloads_grow n shape before more =
    let one = filter_map (samples.came_of n shape) before in
    let grown = samples_grow (data_frag.last_fragment shape) one (filter_map (samples.came_of n shape) more) in (
      map (fragment_delivery.payload_by shape) grown.0,
      ap (λ came. map (fragment_delivery.payload_by shape) (samples.samples_of (data_frag.last_fragment shape) came)) (filter_map-append (samples.came_of n shape) before more)
          ∙ ap (map (fragment_delivery.payload_by shape)) grown.1
          ∙ map-append (fragment_delivery.payload_by shape) (samples.samples_of (data_frag.last_fragment shape) one) grown.0,
    )

-- a piece tells what could not be put together before it
pub told_more : (before : List fragment_delivery.Fragment) (piece : fragment_delivery.Piece) → samples.payloads_of piece.number piece.shape (before ++ fragment_delivery.fragments_of piece) ≡ samples.payloads_of piece.number piece.shape before ++ samples.told_by before piece
told_more before piece =
    let old = samples.payloads_of piece.number piece.shape before in
    let (rest, is) = payloads_grow piece.number piece.shape before (fragment_delivery.fragments_of piece) in
    is ∙ ap (λ xs. old ++ xs) (sym (drop-append_seam old rest) ∙ ap (drop (length old)) (sym is))

-- of one shape, the payload of n can be put together
abbrev pub IsPut : ℕ → List fragment_delivery.Fragment → values.PayloadValue → Type 0
IsPut n fragments payload = (shape : Shape) × Contains (samples.payloads_of n shape fragments) payload

pub put_stays : (n : ℕ) (before more : List fragment_delivery.Fragment) (payload : values.PayloadValue) → IsPut n before payload → IsPut n (before ++ more) payload
put_stays n before more payload (shape, among) =
    let (rest, is) = payloads_grow n shape before more in
    (shape, subst (λ xs. Contains xs payload) (sym is) (Contains-append_left (samples.payloads_of n shape before) rest payload among))

-- one of these acts tells the payload of n
abbrev pub Tells : List (ℕ → Option delivery.Word) → ℕ → values.PayloadValue → Type 0
Tells acts n payload = (act : ℕ → Option delivery.Word) × Contains acts act × (act n ≡ Some (delivery.Word.Told payload))

-- by a piece more, what can be put together could be before, or is told
pub come_or_told : (n : ℕ) (shape : Shape) (before : List fragment_delivery.Fragment) (piece : fragment_delivery.Piece) (payload : values.PayloadValue) → Contains (samples.payloads_of n shape (before ++ fragment_delivery.fragments_of piece)) payload
    → Contains (samples.payloads_of n shape before) payload ⊎ ((piece.number ≡ n) × (piece.shape ≡ shape) × Contains (samples.told_by before piece) payload)
come_or_told n shape before piece payload among = elim (cases_Bool (samples.is_of n shape piece.number piece.shape)) [
  | inl is ↦ same (same_sample n shape piece.number piece.shape is)
  | inr apart ↦ inl (subst (λ came. Contains (map (fragment_delivery.payload_by shape) (samples.samples_of (data_frag.last_fragment shape) came)) payload) (other apart) among)
]
  where
    same : (piece.number ≡ n) × (piece.shape ≡ shape) → Contains (samples.payloads_of n shape before) payload ⊎ ((piece.number ≡ n) × (piece.shape ≡ shape) × Contains (samples.told_by before piece) payload)
    same (number, shapes) =
        let moved : Contains (samples.payloads_of piece.number piece.shape (before ++ fragment_delivery.fragments_of piece)) payload =
        subst (λ m. Contains (samples.payloads_of m piece.shape (before ++ fragment_delivery.fragments_of piece)) payload) (sym number) (subst (λ s. Contains (samples.payloads_of n s (before ++ fragment_delivery.fragments_of piece)) payload) (sym shapes) among) in
        elim (Contains-append_cases (samples.payloads_of piece.number piece.shape before) (samples.told_by before piece) payload (subst (λ xs. Contains xs payload) (told_more before piece) moved)) [
          | inl old ↦ inl (subst (λ s. Contains (samples.payloads_of n s before) payload) shapes (subst (λ m. Contains (samples.payloads_of m piece.shape before) payload) number old))
          | inr new ↦ inr (number, shapes, new)
        ]

    other : samples.is_of n shape piece.number piece.shape ≡ false → filter_map (samples.came_of n shape) (before ++ fragment_delivery.fragments_of piece) ≡ filter_map (samples.came_of n shape) before
    other apart =
        filter_map-append (samples.came_of n shape) before (fragment_delivery.fragments_of piece)
        ∙ ap (λ xs. filter_map (samples.came_of n shape) before ++ xs) (none_came n shape piece.number piece.shape piece.first piece.parts apart)
        ∙ append-nil (filter_map (samples.came_of n shape) before)

put_or_told : (n : ℕ) (before : List fragment_delivery.Fragment) (piece : fragment_delivery.Piece) (payload : values.PayloadValue) → IsPut n (before ++ fragment_delivery.fragments_of piece) payload
    → IsPut n before payload ⊎ Tells (map (samples.tell piece.number) (samples.told_by before piece)) n payload
put_or_told n before piece payload (shape, among) = elim (come_or_told n shape before piece payload among) [
  | inl old ↦ inl (shape, old)
  | inr (number, shapes, new) ↦
      inr (samples.tell piece.number payload, mapped_contains (samples.tell piece.number) (samples.told_by before piece) payload new, ap (λ b. cond b (Some (delivery.Word.Told payload)) None) ((Decides-eqb piece.number n).1 number))
]

-- and by pieces more
pub put_or_acts : (n : ℕ) (before : List fragment_delivery.Fragment) (pieces : List fragment_delivery.Piece) (payload : values.PayloadValue) → IsPut n (before ++ flat_map fragment_delivery.fragments_of pieces) payload
    → IsPut n before payload ⊎ Tells (samples.acts_told before pieces) n payload
put_or_acts n before [] payload put = inl (subst (λ fs. IsPut n fs payload) (append-nil before) put)
put_or_acts n before (piece ∷ pieces) payload put =
    elim (put_or_acts n (before ++ fragment_delivery.fragments_of piece) pieces payload (subst (λ fs. IsPut n fs payload) (sym (append_assoc before (fragment_delivery.fragments_of piece) (flat_map fragment_delivery.fragments_of pieces))) put)) [
      | inl earlier ↦ elim (put_or_told n before piece payload earlier) [
        | inl old ↦ inl old
        | inr (act, among, says) ↦ inr (act, Contains-append_left (map (samples.tell piece.number) (samples.told_by before piece)) (samples.acts_told (before ++ fragment_delivery.fragments_of piece) pieces) act among, says)
      ]
      | inr (act, among, says) ↦ inr (act, Contains-append_right (map (samples.tell piece.number) (samples.told_by before piece)) (samples.acts_told (before ++ fragment_delivery.fragments_of piece) pieces) act among, says)
    ]

-- what a piece tells can be put together
pub told_is_come : (n : ℕ) (before : List fragment_delivery.Fragment) (piece : fragment_delivery.Piece) (payload : values.PayloadValue) → piece.number ≡ n → Contains (samples.told_by before piece) payload → IsPut n (before ++ fragment_delivery.fragments_of piece) payload
told_is_come n before piece payload number there =
    let put : Contains (samples.payloads_of piece.number piece.shape (before ++ fragment_delivery.fragments_of piece)) payload =
    subst (λ xs. Contains xs payload) (sym (told_more before piece)) (Contains-append_right (samples.payloads_of piece.number piece.shape before) (samples.told_by before piece) payload there) in
    (piece.shape, subst (λ m. Contains (samples.payloads_of m piece.shape (before ++ fragment_delivery.fragments_of piece)) payload) number put)

told_is_put : (n : ℕ) (before : List fragment_delivery.Fragment) (piece : fragment_delivery.Piece) (act : ℕ → Option delivery.Word) (word : delivery.Word) → Contains (map (samples.tell piece.number) (samples.told_by before piece)) act → act n ≡ Some word
    → (payload : values.PayloadValue) × (word ≡ delivery.Word.Told payload) × IsPut n (before ++ fragment_delivery.fragments_of piece) payload
told_is_put n before piece act word among says = grind (arith, nat_tests, common_steps, contains_mapped, if_then, told_is_come, Decides-eqb)

-- and what pieces tell
pub acts_are_put : (n : ℕ) (before : List fragment_delivery.Fragment) (pieces : List fragment_delivery.Piece) (act : ℕ → Option delivery.Word) (word : delivery.Word) → Contains (samples.acts_told before pieces) act → act n ≡ Some word
    → (payload : values.PayloadValue) × (word ≡ delivery.Word.Told payload) × IsPut n (before ++ flat_map fragment_delivery.fragments_of pieces) payload
acts_are_put n before [] act word among says = absurd (contains_none act among)
acts_are_put n before (piece ∷ pieces) act word among says =
    elim (Contains-append_cases (map (samples.tell piece.number) (samples.told_by before piece)) (samples.acts_told (before ++ fragment_delivery.fragments_of piece) pieces) act among) [
      | inl here ↦
          let (payload, is, put) = told_is_put n before piece act word here says in
          (payload, is, subst (λ fs. IsPut n fs payload) assoc (put_stays n (before ++ fragment_delivery.fragments_of piece) (flat_map fragment_delivery.fragments_of pieces) payload put))
      | inr there ↦
          let (payload, is, put) = acts_are_put n (before ++ fragment_delivery.fragments_of piece) pieces act word there says in
          (payload, is, subst (λ fs. IsPut n fs payload) assoc put)
    ]
  where
    assoc : (before ++ fragment_delivery.fragments_of piece) ++ flat_map fragment_delivery.fragments_of pieces ≡ before ++ (fragment_delivery.fragments_of piece ++ flat_map fragment_delivery.fragments_of pieces)
    assoc = append_assoc before (fragment_delivery.fragments_of piece) (flat_map fragment_delivery.fragments_of pieces)
