use Rattle.std.proofs.Common.{◌≡◌, ◌++◌, ◌∷◌, [], map, take, flat_map, string_bytes}
use Rattle.rtps_check.proofs.checked_text.push_notes.Given as goal

abbrev pub invariant-loop-note : goal.invariant-loop-note
invariant-loop-note l =
    string_bytes l.text ≡ string_bytes l.initial.text ++ flat_map (λ one. one ++ 10 ∷ []) (map string_bytes (take l.note-index l.notes))
