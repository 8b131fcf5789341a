-- Where no submessage has fragments that can be used, `show` prints the same, whether fragments are read or not.
use Rattle.std.proofs.Common.{◌≡◌, ℕ, ◌+◌, List, [], ◌∷◌, ◌++◌, Option, None, Some, All, drop, refl, sym, ap, ap₂, ◌∙◌}
use Rattle.std.proofs.lemmas.List.Elements.{All-head, All-tail}
use Rattle.rtps_receiver.specs.Acts as acts
use Rattle.rtps_receiver.specs.declared.state.State.{State}
use Rattle.rtps_wire.specs.Reading as reading
use Rattle.rtps_wire.specs.Values as values
use Rattle.rtps_wire.specs.declared.header.Header.{Header}
use Rattle.rtps_text.proofs.ShowLemmas.{text_from-cons, text_from-nil}
use Rattle.rtps_text.specs.ShowText as show_text
use Rattle.rtps_fragments.specs.declared.fragments.Fragments.{Fragments}
use Rattle.rtps_text.proofs.laws.show_is_the_same_without_fragments.Goals as goal

-- items with no fragments at their places have the lines that they have where there are none anywhere
plain_lines : (found : ℕ → Option show_text.FragmentsValue) (state : State) (before items : List values.ItemValue) → All (λ item. found item.at ≡ None) items
    → acts.gathered (show_text.shown_line found) state before items ≡ acts.gathered (show_text.shown_line (λ at. None)) state before items
plain_lines found state before [] none = refl
plain_lines found state before (item ∷ items) none =
    ap₂ ◌++◌ (ap (show_text.line_with (acts.state_behind state before) item) (All-head (λ item. found item.at ≡ None) item items none))
    (plain_lines found state (before ++ item ∷ []) items (All-tail (λ item. found item.at ≡ None) item items none))

plain_items : (found : ℕ → Option show_text.FragmentsValue) (header : Option Header) (items : List values.ItemValue) → All (λ item. found item.at ≡ None) items
    → show_text.items_text found header items ≡ show_text.items_text (λ at. None) header items
plain_items found None items none = refl
plain_items found (Some header) items none = plain_lines found (acts.state_at_start header) [] items none

abbrev HasNone : List ℕ → Type 0
HasNone datagram = All (λ item. show_text.said_at (drop item.at datagram) ≡ None) (reading.reading_of datagram).items

plain_datagram : (number : ℕ) (datagram : List ℕ) → All (λ item. show_text.said_at (drop item.at datagram) ≡ None) (reading.reading_of datagram).items
    → show_text.datagram_text Fragments.Read number datagram ≡ show_text.datagram_text Fragments.Skipped number datagram
plain_datagram number datagram none =
    let reading = reading.reading_of datagram in
    ap (λ lines. show_text.datagram_line number reading.header ++ (lines ++ show_text.ending_text reading.ending))
    (plain_items (show_text.fragments_at Fragments.Read datagram) reading.header reading.items none)

plain_from : (number : ℕ) (datagrams : List (List ℕ)) → show_text.HasNoFragments datagrams → show_text.text_from Fragments.Read number datagrams ≡ show_text.text_from Fragments.Skipped number datagrams
plain_from number [] none = text_from-nil Fragments.Read number ∙ sym (text_from-nil Fragments.Skipped number)
plain_from number (datagram ∷ datagrams) none =
    let here = plain_datagram number datagram (All-head HasNone datagram datagrams none) in
    let later = plain_from (number + 1) datagrams (All-tail HasNone datagram datagrams none) in
    text_from-cons Fragments.Read number datagram datagrams
    ∙ ap₂ ◌++◌ here later
    ∙ sym (text_from-cons Fragments.Skipped number datagram datagrams)

shows_the_same : (datagrams : List (List ℕ)) → show_text.HasNoFragments datagrams → show_text.text_from Fragments.Read 1 datagrams ≡ show_text.text_from Fragments.Skipped 1 datagrams
shows_the_same = plain_from 1

pub returns : goal.returns
returns c = shows_the_same
