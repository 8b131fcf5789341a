-- The numbers of a row that are lost are found by its place.
use Rattle.std.proofs.Common.{◌≡◌, ◌∙◌, ℕ, List, Some, ap, false, get_or, length, ltb, map, option_map, sym, true}
use Rattle.std.proofs.lemmas.Bool.{ltb-false, ltb-true}
use Rattle.std.proofs.lemmas.Option.{slice_get-get_or, slice_get-map, slice_get_past}
use Rattle.rtps_evidence.specs.Explanation as explanation
use Rattle.rtps_evidence.specs.Kinds as kinds
use Rattle.rtps_evidence.specs.declared.kinds.LostNumbers.{LostNumbers}

pub found : (rows : List LostNumbers) (place : ℕ) (numbers : LostNumbers) → true ≡ ltb place (length rows) → numbers ≡ get_or rows place numbers → explanation.lost_at (map kinds.lost_value rows) place ≡ kinds.lost_value numbers
found rows place numbers within is = ap explanation.lost_or (slice_get-map kinds.lost_value rows place ∙ ap (option_map kinds.lost_value) (slice_get-get_or rows place numbers (ltb-true place (length rows) (sym within)) ∙ ap Some (sym is)))

pub not_found : (rows : List LostNumbers) (place : ℕ) → false ≡ ltb place (length rows) → explanation.lost_at (map kinds.lost_value rows) place ≡ kinds.none_lost
not_found rows place past = ap explanation.lost_or (slice_get-map kinds.lost_value rows place ∙ ap (option_map kinds.lost_value) (slice_get_past rows place (ltb-false place (length rows) (sym past))))
