-- Facts on the numbers of a set one by one, and on rows that have their turn.
use Rattle.std.proofs.Common.{◌≡◌, ◌+◌, ◌++◌, ◌∷◌, [], ◌∙◌, ℕ, List, Bool, true, false, ap, ap₂, append-nil, cond, filter, map, refl, sym, map-id}
use Rattle.std.proofs.lemmas.List.FromFn.{filter_of_map_range_with_len_more}
use Rattle.std.specs.List.{range_with_len}
use Rattle.rtps_page.specs.ChartRoom as chart_room
use Rattle.rtps_page.specs.declared.chart_room.Need.{Need}
use Rattle.rtps_page.specs.declared.chart_room.Room.{Room}
use Rattle.rtps_page.specs.declared.chart_room.Turn.{Turn}

pub members_more : (has : ℕ → Bool) (from n : ℕ) → filter has (range_with_len from (n + 1)) ≡ filter has (range_with_len from n) ++ cond (has (from + n)) ((from + n) ∷ []) []
members_more has from n =
    ap (filter has) (sym (map-id (range_with_len from (n + 1)))) ∙ filter_of_map_range_with_len_more has (λ k. k) from n (from + n) refl
    ∙ ap (λ l. filter has l ++ cond (has (from + n)) ((from + n) ∷ []) []) (map-id (range_with_len from n))

pub member_yes : (has : ℕ → Bool) (from n : ℕ) → has (from + n) ≡ true → filter has (range_with_len from (n + 1)) ≡ filter has (range_with_len from n) ++ (from + n) ∷ []
member_yes has from n h = members_more has from n ∙ ap (λ b. filter has (range_with_len from n) ++ cond b ((from + n) ∷ []) []) h

pub member_no : (has : ℕ → Bool) (from n : ℕ) → has (from + n) ≡ false → filter has (range_with_len from (n + 1)) ≡ filter has (range_with_len from n)
member_no has from n h = members_more has from n ∙ ap (λ b. filter has (range_with_len from n) ++ cond b ((from + n) ∷ []) []) h ∙ append-nil (filter has (range_with_len from n))

pub in_both_turns : (rows start middle end : List Need) (room : Room) → start ≡ rows → room ≡ (chart_room.given_from Turn.Unclean chart_room.whole_room start).room → middle ≡ (chart_room.given_from Turn.Unclean chart_room.whole_room start).needs
    → end ≡ (chart_room.given_from Turn.Clean room middle).needs → end ≡ (chart_room.given_in_turn (chart_room.given_from Turn.Unclean chart_room.whole_room rows)).needs
in_both_turns rows start middle end room begins left first second =
    second ∙ ap₂ (λ r m. (chart_room.given_from Turn.Clean r m).needs) left first ∙ ap (λ all. (chart_room.given_in_turn (chart_room.given_from Turn.Unclean chart_room.whole_room all)).needs) begins

pub mapped_twice : {A B C : Type 0} (f : A → B) (g : B → C) (xs : List A) → map (λ x. g (f x)) xs ≡ map g (map f xs)
mapped_twice f g [] = refl
mapped_twice f g (x ∷ xs) = ap (λ l. g (f x) ∷ l) (mapped_twice f g xs)
