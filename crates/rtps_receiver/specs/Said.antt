-- What an act says of numbers: which will not come, which a reader lacks, which payload it tells, and which number it
-- announces. DDSI-RTPS 2.5, 8.3.8.1 "AckNack", 8.3.8.2 "Data", 8.3.8.3 "DataFrag", 8.3.8.4 "Gap", 8.3.8.6 "Heartbeat" and
-- 8.3.8.12 "NackFrag".
use Rattle.std.specs.Prelude.{ℕ, ℤ, pos, negsuc, Bool, true, false, ◌≡◌, ◌==◌, ◌≤◌, ◌<◌, ◌⊎◌, ◌&&◌, ◌||◌, nat_le, nat_lt, if◌then◌else◌, is_some, unwrap_or, Option, Some, None}
use Rattle.std.specs.Option.{option_map}
use Rattle.rtps_ids.specs.NumberSet as number_set
use Rattle.rtps_wire.specs.Values as wire_values
use Rattle.rtps_wire.specs.declared.body.GapBody.{GapBody}
use Rattle.rtps_receiver.specs.Values as values
use Rattle.rtps_receiver.specs.declared.said.Numbers.{Numbers}
use Rattle.rtps_receiver.specs.declared.said.SaidNumbers.{SaidNumbers}

-- a number that is not below 0, and 0 for one that is
abbrev pub natural : ℤ → ℕ
natural (pos n) = n
natural (negsuc n) = 0

-- a GAP says that the numbers from its start on and below the base of its list will not come, nor those of the list
abbrev pub is_in_gap : GapBody → ℕ → Bool
is_in_gap gap n = (nat_le gap.start n && nat_lt n gap.list.base) || number_set.is_member gap.list n

-- what is said of numbers
pub record SaidValue : Type 0 where
  -- these will not come
  pub gone : ℕ → Bool
  -- these are lacked by the reader
  pub lacked : ℕ → Bool
  -- the number of which there is a payload, or fragments of one
  pub brought : Option ℕ
  -- the payload of that number, where it is told
  pub payload : Option wire_values.PayloadValue
  -- the number that is announced
  pub announced : Option ℕ

-- of no number
abbrev pub nothing : SaidValue
nothing = record { gone = λ n. false; lacked = λ n. false; brought = None; payload = None; announced = None }

-- What an act says. A HEARTBEAT says that the numbers below its first will not come, and announces its last, which may still
-- come. A DATA_FRAG says what its sample is, where that was put together. An ACKNACK lacks the numbers of its set.
abbrev pub said : values.ActBodyValue → SaidValue
said (values.ActBodyValue.Data value) = record nothing { brought = Some value.number; payload = Some value.payload; announced = Some value.number }
said (values.ActBodyValue.Heartbeat value) = record nothing { gone = λ n. nat_lt n value.first; announced = Some (natural value.last) }
said (values.ActBodyValue.Gap value) = record nothing { gone = is_in_gap value }
said (values.ActBodyValue.DataFrag value) = record nothing { brought = Some value.number; payload = value.told; announced = Some value.number }
said (values.ActBodyValue.AckNack value) = record nothing { lacked = number_set.is_member value.set }
said (values.ActBodyValue.NackFrag value) = record nothing { lacked = λ n. value.number == n }

-- the number whose payload is told
abbrev pub told_of : SaidValue → Option ℕ
told_of value = if is_some value.payload then value.brought else None

-- the number is there, and is n
abbrev pub is_at : ℕ → Option ℕ → Bool
is_at n None = false
is_at n (Some number) = number == n

-- a list that is there has the number
abbrev pub is_listed : Option number_set.NumberSetValue → ℕ → Bool
is_listed None n = false
is_listed (Some list) n = number_set.is_member list n

-- the numbers that the code keeps
abbrev pub numbers_have : Numbers → ℕ → Bool
numbers_have numbers n = (nat_le numbers.start n && nat_lt n numbers.end) || is_listed (option_map (λ list. list.now) numbers.list) n

-- The first range of them from a number on. It ends where the list begins, or before a number that is not among them.
pub record IsRangeOf (numbers : Numbers) (at lo hi : ℕ) : Type 0 where
  pub onward : at ≤ lo
  pub some : lo < hi
  pub before : (n : ℕ) → at ≤ n → n < lo → numbers_have numbers n ≡ false
  pub within : (n : ℕ) → lo ≤ n → n < hi → numbers_have numbers n ≡ true
  pub past : (hi ≡ numbers.end) ⊎ (numbers_have numbers hi ≡ false)

-- what the code keeps says the same
pub record Says (value : SaidValue) (numbers : SaidNumbers) : Type 0 where
  pub gone : (n : ℕ) → numbers_have numbers.gone n ≡ value.gone n
  pub lacked : (n : ℕ) → numbers_have numbers.lacked n ≡ value.lacked n
  pub brought : numbers.brought ≡ value.brought
  pub told : numbers.told ≡ told_of value
  pub payload : option_map (λ payload. wire_values.payload_value payload.now) numbers.payload ≡ value.payload
  pub announced : numbers.announced ≡ unwrap_or value.announced 0
