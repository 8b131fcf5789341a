-- The value of JSON that a `Value` stands for. own: a value is known before it is written, and numbers, times and GUIDs have no text of their own till then.
use Rattle.std.specs.Prelude.{ℕ, List, map}
use Rattle.std.specs.Borrow.{Bor}
use Rattle.std.specs.Fmt.{signed_decimal}
use Rattle.std.specs.String.{string_bytes}
use Rattle.json.specs.Json.{Json, null, boolean, number, string}
use Rattle.rtps_lines.specs.Lines.{seconds_text}
use Rattle.rtps_parts.specs.Names.{guid_text}
use Rattle.rtps_json.specs.JsonText.{Member, array_of, count_json, numbers_json, object_of}
use Rattle.rtps_json.specs.declared.values.Value.{Value, fold-Value}
use Rattle.rtps_json.specs.declared.values.Value.TheOpen.{Value-F}

-- names, and values that are known
abbrev pub named : List (Bor (List ℕ) × Json) → List Member
named members = map (λ member. (member.0.now, member.1)) members

-- one level, where each value inside is known
abbrev pub value_step : Value-F Json → Json
value_step Value-F.Null = null
value_step (Value-F.Flag flag) = boolean flag
value_step (Value-F.Count n) = count_json n
value_step (Value-F.Total n) = count_json n
value_step (Value-F.Number n) = number (signed_decimal n)
value_step (Value-F.Second second) = number (seconds_text second)
value_step (Value-F.Guid guid) = string (guid_text guid)
value_step (Value-F.Word word) = string word.now
value_step (Value-F.Text text) = string (string_bytes text)
value_step (Value-F.Counts numbers) = numbers_json numbers.items
value_step (Value-F.Texts texts) = array_of (map string (map string_bytes texts.items))
value_step (Value-F.Array values) = array_of values.items
value_step (Value-F.Object members) = object_of (named members.items)

-- the whole value
abbrev pub value_json : Value → Json
value_json = fold-Value Json value_step

-- a name and a value
abbrev pub member_json : Bor (List ℕ) × Value → Member
member_json member = (member.0.now, value_json member.1)

-- values, in their order
abbrev pub items_json : List Value → List Json
items_json values = map value_json values

-- members, in their order
abbrev pub members_json : List (Bor (List ℕ) × Value) → List Member
members_json members = named (map (λ member. (member.0, value_json member.1)) members)
