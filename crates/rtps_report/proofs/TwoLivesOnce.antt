-- Of a recording it is told in one way who has two lives.
use Rattle.std.proofs.Common.{◌≡◌, ◌∙◌, ℕ, List, [], ◌∷◌, All, Contains, IsSome, Option, None, ap, cond, map, refl, subst, sym}
use Rattle.std.specs.Cmp.{IsTotalOrder, eq_by_cmp_equiv}
use Rattle.std.specs.Cmp.Lexicographic.{slice_cmp}
use Rattle.std.specs.List.{IsDistinct}
use Rattle.std.specs.Map.{keys_of, lookup}
use Rattle.std.specs.Ordering.{nat_cmp}
use Rattle.std.specs.Prelude.{unwrap_or}
use Rattle.std.proofs.lemmas.Cmp.{nat_cmp_total, nat_list_cmp_total, on_total, then_total}
use Rattle.std.proofs.lemmas.List.Elements.{All-contains_itself, All-weaker}
use Rattle.std.proofs.lemmas.Map.Keys.{IsDistinct-from_sorted}
use Rattle.std.proofs.lemmas.Map.Lookups.{CmpEqualImpliesEq, exact_bytes, exact_pairs, exact_unsigned}
use Rattle.std.proofs.lemmas.Map.Views.{Contains-keys_from_lookup, IsSome-lookup_from_Contains, lookup-from_Contains, tells_apart}
use Rattle.rtps_ids.specs.declared.identity.Stamp.{Stamp}
use Rattle.rtps_receiver.specs.Values as values
use Rattle.rtps_discovery.proofs.Offered.{into_map}
use Rattle.rtps_evidence.specs.Times as times_spec
use Rattle.rtps_known.specs.Lives as lives_spec
use Rattle.rtps_known.specs.Recorded as recorded
use Rattle.rtps_known.specs.declared.life.Birth.{Birth}
use Rattle.rtps_known.specs.declared.life.Life.{Life}
use Rattle.rtps_report.specs.ActsRead as acts_read
use Rattle.rtps_report.specs.TwoLives as two_lives
use Rattle.rtps_report.specs.declared.two_lives.TwoLives.{TwoLives}
use Rattle.rtps_report.proofs.SameLists.{same_keys, same_members}

births_total : IsTotalOrder lives_spec.birth_cmp
births_total = then_total (on_total (λ birth. birth.participant.0) nat_list_cmp_total) (on_total (λ birth. birth.number) nat_cmp_total)

birth_of_parts : List ℕ × ℕ → Birth
birth_of_parts parts = record { participant = record { 0 = parts.0 }; number = parts.1 }

exact_births : CmpEqualImpliesEq lives_spec.birth_cmp
unfolding birth_of_parts
exact_births a b h = ap birth_of_parts (exact_pairs (slice_cmp nat_cmp) nat_cmp exact_bytes exact_unsigned (a.participant.0, a.number) (b.participant.0, b.number) h)

-- a life as an entry
entry_of : Life → Birth × (Stamp × Stamp)
entry_of life = (lives_spec.birth_of life, life.sent)

entries_are : (lives : List Life) → map entry_of lives ≡ map (λ life. (lives_spec.birth_of life, life.sent)) lives
unfolding entry_of
entries_are lives = refl

keys_are : (lives : List Life) → keys_of (map entry_of lives) ≡ map lives_spec.birth_of lives
unfolding entry_of
keys_are [] = refl
keys_are (life ∷ lives) = ap (λ (rest : List Birth). lives_spec.birth_of life ∷ rest) (keys_are lives)

-- no source times
never : Stamp × Stamp
never = (record { seconds = 0; fraction = 0 }, record { seconds = 0; fraction = 0 })

-- the life that acts show at a number
shown : List values.ActValue → Birth → Life
shown acts birth = record { participant = birth.participant; number = birth.number; sent = unwrap_or (lives_spec.two_times acts birth) never }

-- the same two times are found at a number among lives
times_of : (acts : List values.ActValue) (lives : List Life) → lives_spec.AreLivesOf acts lives → (birth : Birth) → lookup (lives_spec.is_birth birth) (map entry_of lives) ≡ lives_spec.two_times acts birth
times_of acts lives is birth = ap (lookup (lives_spec.is_birth birth)) (entries_are lives) ∙ is.times birth

distinct : (acts : List values.ActValue) (lives : List Life) → lives_spec.AreLivesOf acts lives → IsDistinct lives_spec.is_birth (keys_of (map entry_of lives))
distinct acts lives is = subst (IsDistinct lives_spec.is_birth) (sym (keys_are lives)) (IsDistinct-from_sorted lives_spec.birth_cmp (map lives_spec.birth_of lives) is.ordered)

each_shown : (acts : List values.ActValue) (lives : List Life) → lives_spec.AreLivesOf acts lives → All (λ life. life ≡ shown acts (lives_spec.birth_of life)) lives
unfolding entry_of shown
each_shown acts lives is =
    All-weaker (Contains lives) (λ (life : Life). life ≡ shown acts (lives_spec.birth_of life))
    (λ life among.
    let found = lookup-from_Contains (eq_by_cmp_equiv births_total) (lives_spec.birth_of life) life.sent (map entry_of lives) (distinct acts lives is) (into_map entry_of lives life among) in
    let made : Stamp × Stamp → Life = λ sent. record { participant = life.participant; number = life.number; sent = sent } in
    ap (λ (times : Option (Stamp × Stamp)). made (unwrap_or times never)) (sym found ∙ times_of acts lives is (lives_spec.birth_of life)))
    lives (All-contains_itself lives)

births_moved : (acts : List values.ActValue) (one other : List Life) → lives_spec.AreLivesOf acts one → lives_spec.AreLivesOf acts other → (birth : Birth) → Contains (map lives_spec.birth_of one) birth
    → Contains (map lives_spec.birth_of other) birth
births_moved acts one other is also birth has =
    let some = IsSome-lookup_from_Contains (eq_by_cmp_equiv births_total) birth (map entry_of one) (subst (λ (keys : List Birth). Contains keys birth) (sym (keys_are one)) has) in
    let same : lookup (lives_spec.is_birth birth) (map entry_of one) ≡ lookup (lives_spec.is_birth birth) (map entry_of other) = times_of acts one is birth ∙ sym (times_of acts other also birth) in
    subst (λ (keys : List Birth). Contains keys birth) (keys_are other) (Contains-keys_from_lookup (tells_apart exact_births) birth (map entry_of other) (subst IsSome same some))

lives_once : (acts : List values.ActValue) (one other : List Life) → lives_spec.AreLivesOf acts one → lives_spec.AreLivesOf acts other → one ≡ other
lives_once acts one other is also =
    same_keys lives_spec.birth_of (shown acts) one other (each_shown acts one is) (each_shown acts other also)
    (same_members lives_spec.birth_cmp births_total exact_births (map lives_spec.birth_of one) (map lives_spec.birth_of other) is.ordered also.ordered
    (λ birth. (births_moved acts one other is also birth, births_moved acts other one also is birth)))

pub two_lives_once : (recording : List (List ℕ)) (times : List (Option ℕ)) (one other : List TwoLives) → two_lives.AreTwoLivesIn recording times one → two_lives.AreTwoLivesIn recording times other → one ≡ other
two_lives_once recording times one other is also =
    is.is_found
    ∙ ap (λ (lives : List Life). cond (times_spec.are_there times) (map two_lives.two_lives_of (two_lives.firsts_behind None lives)) [])
    (lives_once (recorded.acts_of (acts_read.timed_acts recording times)) is.lives also.lives is.are_lives also.are_lives) ∙ sym also.is_found
