-- The reading of a datagram, as a function. DDSI-RTPS 2.5, 8.3.4.1 "Rules Followed By The Message Receiver". Laws say
-- that it is a reading as `Reads` of specs/Message describes it, and that there is no other.
use Rattle.std.specs.Prelude.{ℕ, zero, suc, ◌+◌, List, [], ◌∷◌, length, drop, Option, Some, None, Result, Ok, Err}
use Rattle.rtps_wire.specs.Header as header_spec
use Rattle.rtps_wire.specs.Message as message
use Rattle.rtps_wire.specs.Values as values
use Rattle.rtps_wire.specs.declared.body.Item.{Item}
use Rattle.rtps_wire.specs.declared.fault.Refusal.{Refusal}
use Rattle.rtps_wire.specs.declared.fault.WireFault.{WireFault}
use Rattle.rtps_wire.specs.declared.header.Header.{Header}
use Rattle.rtps_wire.specs.declared.layout.header.TheConstants as header
use Rattle.rtps_wire.specs.declared.layout.submessage.TheConstants as submessage

-- what is read next: an item, or the refusal that ends the message
abbrev pub Outcome : Type 0
Outcome = Result values.ItemValue Refusal

-- what is read next, as a value
abbrev pub outcome_value : Result Item Refusal → Outcome
outcome_value (Ok item) = Ok (values.item_value item)
outcome_value (Err refusal) = Err refusal

-- the unread part of a datagram: its octets, and the place of the first of them
pub record Unread : Type 0 where
  pub rest : List ℕ
  pub at : ℕ

-- an item and what `more` reads after it, or a refusal and nothing more
abbrev pub outcomes_with : (List ℕ → ℕ → List Outcome) → Option WireFault → List ℕ → ℕ → List Outcome
outcomes_with more (Some fault) rest at = Err (record { at = at; fault = fault }) ∷ []
outcomes_with more None rest at = Ok (message.item_at rest at) ∷ more (message.next_rest rest) (at + submessage.SIZE + message.body_length rest)

-- the items of octets, and their refusal: at most so many
unfoldable pub outcomes_within : ℕ → List ℕ → ℕ → List Outcome
outcomes_within zero rest at = []
outcomes_within (suc n) [] at = []
outcomes_within (suc n) (octet ∷ octets) at = outcomes_with (outcomes_within n) (message.fault_at (octet ∷ octets)) (octet ∷ octets) at

-- all items of octets, and their refusal: no more than octets, since a submessage has at least one
unfoldable pub outcomes : List ℕ → ℕ → List Outcome
outcomes rest at = outcomes_within (length rest) rest at

-- all that is still unread
abbrev pub outcomes_left : Unread → List Outcome
outcomes_left unread = outcomes unread.rest unread.at

-- the items among them
abbrev pub items_among : List Outcome → List values.ItemValue
items_among [] = []
items_among (Ok item ∷ rest) = item ∷ items_among rest
items_among (Err refusal ∷ rest) = items_among rest

-- the refusal that ends them, if one does
abbrev pub refusal_among : List Outcome → Option Refusal
refusal_among [] = None
refusal_among (Ok item ∷ rest) = refusal_among rest
refusal_among (Err refusal ∷ rest) = Some refusal

-- the reading of a datagram whose header is refused
abbrev pub refused_with : WireFault → message.Reading
refused_with fault = record { header = None; items = []; ending = Some (record { at = 0; fault = fault }) }

-- the reading of a datagram with this header, if this is read after the header
abbrev pub read_as : Header → List Outcome → message.Reading
read_as header read = record { header = Some header; items = items_among read; ending = refusal_among read }

-- the reading of a datagram, by the fault of its header
abbrev pub reading_with : Option WireFault → List ℕ → message.Reading
reading_with (Some fault) datagram = refused_with fault
reading_with None datagram = read_as (header_spec.header_of datagram) (outcomes (drop header.SIZE datagram) header.SIZE)

-- the reading of a datagram
unfoldable pub reading_of : List ℕ → message.Reading
reading_of datagram = reading_with (header_spec.header_fault datagram) datagram
