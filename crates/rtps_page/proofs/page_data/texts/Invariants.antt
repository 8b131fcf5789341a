use Rattle.std.proofs.Common.{◌≡◌, map, string_bytes, take}
use Rattle.json.specs.Json.{string}
use Rattle.rtps_json.specs.Values as json_values
use Rattle.rtps_page.proofs.page_data.texts.Given as goal

abbrev pub invariant-loop-text : goal.invariant-loop-text
invariant-loop-text l = json_values.items_json l.values.items ≡ map string (map string_bytes (take l.text-index l.told))
