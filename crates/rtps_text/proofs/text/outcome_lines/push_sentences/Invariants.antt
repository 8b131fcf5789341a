use Rattle.std.proofs.Common.{◌≡◌, ◌++◌, map, take, flat_map, string_bytes}
use Rattle.rtps_text.specs.WhyText as why_text
use Rattle.rtps_text.proofs.text.outcome_lines.push_sentences.Given as goal

abbrev pub invariant-loop-sentence : goal.invariant-loop-sentence
invariant-loop-sentence l =
    string_bytes l.text ≡ string_bytes l.initial.text ++ flat_map why_text.sentence_line (map string_bytes (take l.sentence-index l.sentences))
