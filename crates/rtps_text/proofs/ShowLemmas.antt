-- Facts on what `show` prints.
use Rattle.std.proofs.Common.{◌≡◌, ℕ, ◌+◌, List, [], ◌∷◌, ◌++◌, ◌<◌, ◌≤◌, ◌⊎◌, cond, inl, inr, length, drop, drop_of_length-le, arith, Option, None, Some, Ok, refl, sym, ap, ap₂, append_assoc, ◌∙◌}
use Rattle.std.proofs.lemmas.Bool.{cases_lt}
use Rattle.rtps_receiver.proofs.Offered.{gathered-one}
use Rattle.rtps_receiver.specs.Acts as acts
use Rattle.rtps_receiver.specs.declared.state.State.{State}
use Rattle.rtps_wire.proofs.Offered.{whole_not_cut}
use Rattle.rtps_wire.specs.DataFrag as data_frag
use Rattle.rtps_wire.specs.Message as message
use Rattle.rtps_wire.specs.NackFrag as nack_frag
use Rattle.rtps_wire.specs.Reading as reading
use Rattle.rtps_wire.specs.Skipped as skipped
use Rattle.rtps_wire.specs.Values as values
use Rattle.rtps_wire.specs.declared.nack_frag.NackFrag.{NackFrag}
use Rattle.rtps_text.specs.ShowText as show_text
use Rattle.rtps_fragments.specs.declared.fragments.Fragments.{Fragments}

-- the lines of a datagram, and those of the later ones
pub text_from-cons : (choice : Fragments) (number : ℕ) (datagram : List ℕ) (datagrams : List (List ℕ))
    → show_text.text_from choice number (datagram ∷ datagrams) ≡ show_text.datagram_text choice number datagram ++ show_text.text_from choice (number + 1) datagrams
unfolding show_text.text_from
text_from-cons choice number datagram datagrams = refl

pub text_from-nil : (choice : Fragments) (number : ℕ) → show_text.text_from choice number [] ≡ []
unfolding show_text.text_from
text_from-nil choice number = refl

-- the line of an item, and those of the later ones in the state behind it
outcomes_text-shown : (fragments : ℕ → Option show_text.FragmentsValue) (state : State) (item : values.ItemValue) (later : List reading.Outcome)
    → show_text.outcomes_text fragments state (Ok item ∷ later) ≡ show_text.shown_line fragments state item ++ show_text.outcomes_text fragments (acts.state_behind state (item ∷ [])) later
outcomes_text-shown fragments state item later =
    let line = show_text.shown_line fragments in
    ap (λ lines. (line state item ++ lines) ++ show_text.ending_text (reading.refusal_among later)) (gathered-one line state item (reading.items_among later))
    ∙ append_assoc (line state item) (acts.gathered line (acts.state_behind state (item ∷ [])) [] (reading.items_among later)) (show_text.ending_text (reading.refusal_among later))

-- the same of an item that is not skipped
pub outcomes_text-item : (fragments : ℕ → Option show_text.FragmentsValue) (state : State) (item : values.ItemValue) (later : List reading.Outcome) → skipped.skipped_id item.body ≡ None
    → show_text.outcomes_text fragments state (Ok item ∷ later) ≡ show_text.item_line state item ++ show_text.outcomes_text fragments (acts.state_behind state (item ∷ [])) later
outcomes_text-item fragments state item later not =
    outcomes_text-shown fragments state item later ∙ ap (λ line. line ++ show_text.outcomes_text fragments (acts.state_behind state (item ∷ [])) later) (plain (fragments item.at))
  where
    plain : (found : Option show_text.FragmentsValue) → show_text.line_with state item found ≡ show_text.item_line state item
    plain None = refl
    plain (Some value) = ap (show_text.fragments_line state item value) not

-- the line of what is skipped, and those of the later ones in the same state
outcomes_text-skipped : (fragments : ℕ → Option show_text.FragmentsValue) (state : State) (item : values.ItemValue) (later : List reading.Outcome) (id : ℕ) → item.body ≡ values.BodyValue.Skipped id
    → show_text.outcomes_text fragments state (Ok item ∷ later) ≡ show_text.unread_line state item.at id (fragments item.at) ++ show_text.outcomes_text fragments state later
outcomes_text-skipped fragments state item later id is =
    let same : acts.state_behind state (item ∷ []) ≡ state = rw is refl in
    outcomes_text-shown fragments state item later
    ∙ ap (λ s. show_text.shown_line fragments state item ++ show_text.outcomes_text fragments s later) same
    ∙ ap (λ line. line ++ show_text.outcomes_text fragments state later) (unread (fragments item.at))
  where
    unread : (found : Option show_text.FragmentsValue) → show_text.line_with state item found ≡ show_text.unread_line state item.at id found
    unread None = ap (show_text.body_line state item.at item.order) is
    unread (Some value) = ap (λ body. show_text.fragments_line state item value (skipped.skipped_id body)) is

-- the lines so far, with that of what is skipped, and those behind it
pub unread_more : (fragments : ℕ → Option show_text.FragmentsValue) (state : State) (old new start : List ℕ) (left later : List reading.Outcome) (item : values.ItemValue) (id at : ℕ)
    → new ≡ old ++ show_text.unread_line state at id (fragments at) → left ≡ Ok item ∷ later → item.body ≡ values.BodyValue.Skipped id → at ≡ item.at
    → old ++ show_text.outcomes_text fragments state left ≡ start → new ++ show_text.outcomes_text fragments state later ≡ start
unread_more fragments state old new start left later item id at line next is place so_far =
    ap (λ bytes. bytes ++ show_text.outcomes_text fragments state later) line
    ∙ append_assoc old (show_text.unread_line state at id (fragments at)) (show_text.outcomes_text fragments state later)
    ∙ ap (λ n. old ++ (show_text.unread_line state n id (fragments n) ++ show_text.outcomes_text fragments state later)) place
    ∙ ap (λ bytes. old ++ bytes) (sym (outcomes_text-skipped fragments state item later id is))
    ∙ ap (λ (more : List reading.Outcome). old ++ show_text.outcomes_text fragments state more) (sym next) ∙ so_far

-- past the end of a datagram nothing is read
pub nothing_behind : (datagram : List ℕ) (at : ℕ) → length datagram < at → None ≡ show_text.said_at (drop at datagram)
unfolding show_text.said_at data_frag.data_frag_at nack_frag.nack_frag_at
nothing_behind datagram at past =
    let none : drop at datagram ≡ [] = drop_of_length-le datagram (omega arith) in
    rw none refl

-- a NACK_FRAG that is read has octets before its body
pub nack_frag_is_whole : (rest : List ℕ) (value : NackFrag) → Some value ≡ nack_frag.nack_frag_at rest → 1 < length rest
unfolding nack_frag.nack_frag_at
nack_frag_is_whole rest value is = by (cases_lt (length rest) 4)
  where
    by : (length rest < 4) ⊎ (4 ≤ length rest) → 1 < length rest
    by (inl cut) = absurd (let none = is ∙ ap (λ begins. cond begins (nack_frag.nack_frag_in (message.order_of (message.flags_of rest)) (message.body_octets rest)) None) (whole_not_cut _ rest cut) in cc)
    by (inr whole) = omega arith

-- what is said by a DATA_FRAG
pub said-sent : (rest : List ℕ) (value : data_frag.DataFragValue) → Some value ≡ data_frag.data_frag_at rest → show_text.said_at rest ≡ Some (show_text.FragmentsValue.Sent value)
unfolding show_text.said_at
said-sent rest value is = ap (λ found. show_text.said_of (message.order_of (message.flags_of rest)) found (nack_frag.nack_frag_at rest)) (sym is)

-- by a NACK_FRAG
pub said-lacked : (rest : List ℕ) (value : NackFrag) → None ≡ data_frag.data_frag_at rest → Some value ≡ nack_frag.nack_frag_at rest → show_text.said_at rest ≡ Some (show_text.FragmentsValue.Lacked (message.order_of (message.flags_of rest)) value)
unfolding show_text.said_at
said-lacked rest value none is = ap₂ (show_text.said_of (message.order_of (message.flags_of rest))) (sym none) (sym is)

-- by neither
pub said-none : (rest : List ℕ) → None ≡ data_frag.data_frag_at rest → None ≡ nack_frag.nack_frag_at rest → show_text.said_at rest ≡ None
unfolding show_text.said_at
said-none rest none neither = ap₂ (show_text.said_of (message.order_of (message.flags_of rest))) (sym none) (sym neither)
