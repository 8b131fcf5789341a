-- What is kept of the acts about one built-in writer of endpoints. DDSI-RTPS 2.5, 8.5.4 "The Simple Endpoint Discovery Protocol". own: a writer
-- sends the same number again and again, and a reader answers the same; what tells nothing new is not kept.
use Rattle.std.specs.Prelude.{ℕ, ◌≡◌, ◌==◌, ◌||◌, ◌&&◌, Bool, true, false, if◌then◌else◌, List, [], MatchOption, is_some, nat_lt, not, unwrap_or, Option, Some, None}
use Rattle.std.specs.BTreeMap.{BTreeMap, get}
use Rattle.std.specs.BTreeSet.{BTreeSet, contains}
use Rattle.std.specs.List.{list_any}
use Rattle.std.specs.Option.{option_cmp, option_map, option_or}
use Rattle.std.specs.Ordering.{nat_cmp, ordering_then}
use Rattle.std.specs.declared.cmp.Ordering.{Ordering}
use Rattle.rtps_ids.specs.declared.identity.Guid.{Guid}
use Rattle.rtps_ids.specs.declared.identity.GuidPrefix.{GuidPrefix}
use Rattle.rtps_receiver.specs.Said as said
use Rattle.rtps_receiver.specs.Speech as speech
use Rattle.rtps_receiver.specs.Values as values
use Rattle.rtps_discovery.specs.GuidOrder as guid_order
use Rattle.rtps_known.specs.Bulletins as bulletins
use Rattle.rtps_known.specs.Learning as learning
use Rattle.rtps_known.specs.Places as places
use Rattle.rtps_known.specs.Tellings as tellings
use Rattle.rtps_known.specs.declared.place.Place.{Place}
use Rattle.rtps_known.specs.declared.sending.Hearing.{Hearing}
use Rattle.rtps_known.specs.declared.sending.Sending.{Sending}
use Rattle.rtps_known.specs.declared.spread.Spread.{Spread}

-- a number of a writer, and a participant
abbrev pub inquiry_of : Guid → GuidPrefix → ℕ → learning.Inquiry
inquiry_of writer prefix number = record { writer = writer; prefix = prefix; number = number }

-- ---- what is kept of numbers

-- a number, and who is sent it
abbrev pub sending : ℕ → Option GuidPrefix → Sending
sending number dest = record { number = number; dest = dest }

-- by number, and then by who is sent it
abbrev pub sending_cmp : Sending → Sending → Ordering
sending_cmp one other = ordering_then (nat_cmp one.number other.number) (option_cmp bulletins.prefix_cmp one.dest other.dest)

-- where a participant is sent a number first, as it is kept: what it alone is sent is kept where it was not sent it before
abbrev pub first_kept : BTreeMap Sending Place → GuidPrefix → ℕ → Option Place
first_kept sent prefix n = option_or (get sending_cmp sent (sending n (Some prefix))) (get sending_cmp sent (sending n None))

-- what is kept of a participant that asks for a number
abbrev pub again_kept : BTreeMap Sending (Option Place) → GuidPrefix → ℕ → Option (Option Place)
again_kept again prefix n = get sending_cmp again (sending n (Some prefix))

-- the greatest base that is kept of a participant
abbrev pub base_kept : BTreeMap GuidPrefix ℕ → GuidPrefix → ℕ
base_kept bases prefix = unwrap_or (get bulletins.prefix_cmp bases prefix) 0

-- ---- one act more

-- the number that an act sends
abbrev pub hearing_in : values.ActValue → Place → Option Hearing
hearing_in act place = option_map (λ number. record { sending = sending number act.dest; place = place }) (tellings.number_sent act.body)

-- a participant is sent a number so
abbrev pub hears_by : Sending → GuidPrefix → ℕ → Bool
hears_by sent prefix n = (n == sent.number) && tellings.is_to sent.dest prefix

-- it is, and asks for it, and does not acknowledge it
abbrev pub refills : BTreeSet GuidPrefix → BTreeMap GuidPrefix ℕ → Sending → GuidPrefix → ℕ → Bool
refills askers bases sent prefix n = not (nat_lt n (base_kept bases prefix)) && (hears_by sent prefix n && contains bulletins.prefix_cmp askers prefix)

-- of a number that is asked for a place is kept where a condition holds and none was kept
abbrev pub filled : Bool → Place → Option (Option Place) → Option (Option Place)
filled holds place kept = if holds then option_map (λ again. option_or again (Some place)) kept else kept

-- an act is of this participant, and asks for this number
abbrev pub asks_by : values.ActValue → GuidPrefix → ℕ → Bool
asks_by act prefix n = speech.is_prefix act.source prefix && (said.said act.body).lacked n

-- it asks for a number that its source was sent and has not acknowledged
abbrev pub opens : BTreeMap Sending Place → BTreeMap GuidPrefix ℕ → values.ActValue → GuidPrefix → ℕ → Bool
opens sent bases act prefix n = not (nat_lt n (base_kept bases prefix)) && (asks_by act prefix n && is_some (first_kept sent prefix n))

-- the base of one participant becomes at least this
abbrev pub keeps_base : BTreeMap GuidPrefix ℕ → BTreeMap GuidPrefix ℕ → GuidPrefix → ℕ → Type 0
keeps_base old new source base =
    (prefix : GuidPrefix) (n : ℕ) → nat_lt n (base_kept new prefix) ≡ (nat_lt n (base_kept old prefix) || (speech.is_prefix source prefix && nat_lt n base))

-- of one participant this place is kept where a condition holds and none was kept
abbrev pub keeps_first : BTreeMap GuidPrefix Place → BTreeMap GuidPrefix Place → GuidPrefix → Bool → Place → Type 0
keeps_first old new source holds place =
    (prefix : GuidPrefix) → get bulletins.prefix_cmp new prefix ≡ option_or (get bulletins.prefix_cmp old prefix) (if speech.is_prefix source prefix && holds then Some place else None)

-- what an act asks for and acknowledges is kept
pub record AnswerIsKept (old new : Spread) (placed : places.PlacedAct) : Type 0 where
  pub sent : new.sent ≡ old.sent
  pub bases : keeps_base old.bases new.bases placed.act.source (learning.base_in placed.act.body)
  pub firsts : keeps_first old.firsts new.firsts placed.act.source (nat_lt 1 (learning.base_in placed.act.body)) placed.place
  pub askers : (prefix : GuidPrefix) → contains bulletins.prefix_cmp old.askers prefix ≡ true → contains bulletins.prefix_cmp new.askers prefix ≡ true
  pub asker : (prefix : GuidPrefix) (n : ℕ) → asks_by placed.act prefix n ≡ true → contains bulletins.prefix_cmp new.askers prefix ≡ true
  pub again : (prefix : GuidPrefix) (n : ℕ) → again_kept new.again prefix n
      ≡ if opens old.sent new.bases placed.act prefix n then Some None else again_kept old.again prefix n

-- that a number is sent is kept
pub record HearingIsKept (old new : Spread) (hearing : Hearing) : Type 0 where
  pub bases : new.bases ≡ old.bases
  pub firsts : new.firsts ≡ old.firsts
  pub askers : new.askers ≡ old.askers
  pub again : (prefix : GuidPrefix) (n : ℕ) → again_kept new.again prefix n
      ≡ filled (refills old.askers old.bases hearing.sending prefix n) hearing.place (again_kept old.again prefix n)
  pub sent : (prefix : GuidPrefix) (n : ℕ) → first_kept new.sent prefix n
      ≡ option_or (first_kept old.sent prefix n) (if hears_by hearing.sending prefix n then Some hearing.place else None)

-- ---- what is kept of all acts

-- where a participant learned of a number is where it was sent it first; it is not otherwise that it asked for it since, before it acknowledged it
pub record LearnedFirst (inquiry : learning.Inquiry) (acts : List places.PlacedAct) : Type 0 where
  pub place : learning.learned inquiry acts ≡ places.place_of (learning.hears inquiry) acts
  pub again : list_any (learning.claims inquiry) acts ≡ false → learning.heard_again inquiry acts ≡ places.place_of (learning.hears inquiry) acts

-- a participant was sent a number and asked for it, and this is where it is sent it again
pub record HeardAgain (inquiry : learning.Inquiry) (acts : List places.PlacedAct) (again : Option Place) : Type 0 where
  pub place : again ≡ learning.heard_again inquiry acts
  pub heard : is_some (places.place_of (learning.hears inquiry) acts) ≡ true

-- what is kept of acts tells of this writer what they do
pub record IsSpreadOf (writer : Guid) (acts : List places.PlacedAct) (spread : Spread) : Type 0 where
  pub sent : (prefix : GuidPrefix) (n : ℕ) → first_kept spread.sent prefix n ≡ places.place_of (learning.hears (inquiry_of writer prefix n)) acts
  pub again : (prefix : GuidPrefix) (n : ℕ) → MatchOption (again_kept spread.again prefix n) (LearnedFirst (inquiry_of writer prefix n) acts)
      (HeardAgain (inquiry_of writer prefix n) acts)
  pub askers : (prefix : GuidPrefix) (n : ℕ) → is_some (again_kept spread.again prefix n) ≡ true → contains bulletins.prefix_cmp spread.askers prefix ≡ true
  pub bases : (prefix : GuidPrefix) (n : ℕ) → nat_lt n (base_kept spread.bases prefix) ≡ list_any (learning.claims (inquiry_of writer prefix n)) acts
  pub firsts : (prefix : GuidPrefix) → get bulletins.prefix_cmp spread.firsts prefix ≡ places.place_of (learning.claims (inquiry_of writer prefix 1)) acts

-- two lists of acts tell the same of a number and a participant: where it hears the number first, where it acknowledges it first, and where it
-- hears it again
pub record TellsTheSame (inquiry : learning.Inquiry) (one other : List places.PlacedAct) : Type 0 where
  pub first : places.place_of (learning.hears inquiry) one ≡ places.place_of (learning.hears inquiry) other
  pub claimed : places.place_of (learning.claims inquiry) one ≡ places.place_of (learning.claims inquiry) other
  pub again : learning.heard_again inquiry one ≡ learning.heard_again inquiry other

-- these acts tell nothing of this writer
abbrev pub IsQuietIn : Guid → List places.PlacedAct → Type 0
IsQuietIn writer acts = (prefix : GuidPrefix) (n : ℕ) → TellsTheSame (inquiry_of writer prefix n) [] acts

-- so it is of each writer
abbrev pub AreSpreadsOf : List places.PlacedAct → BTreeMap Guid Spread → Type 0
AreSpreadsOf acts spreads = (writer : Guid) → MatchOption (get guid_order.guid_cmp spreads writer) (IsQuietIn writer acts) (IsSpreadOf writer acts)
