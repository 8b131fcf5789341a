use Rattle.std.proofs.Common.{◌≡◌, ◌++◌, drop, map}
use Rattle.std.specs.String.{string_bytes}
use Rattle.json.specs.Json.{string}
use Rattle.json.specs.Tree.{items_tokens}
use Rattle.rtps_json.specs.JsonText.{items_of}
use Rattle.rtps_json.proofs.json_writer.push_texts.Given as goal

abbrev pub invariant-loop-text : goal.invariant-loop-text
invariant-loop-text l =
    (l.writer.tokens ++ items_tokens (items_of (map string (map string_bytes (drop l.text-index l.texts))))
    ≡ l.initial.writer.tokens ++ items_tokens (items_of (map string (map string_bytes l.texts))))
    × (l.writer.before ≡ l.initial.writer.before)
