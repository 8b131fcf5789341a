-- The keys of two hosts that are remembered: how the fragments of one are found and taken out, and put in front.
use Rattle.std.proofs.Common.{◌≡◌, ℕ, zero, suc, ◌+◌, ◌<◌, ◌≤◌, Bool, true, false, List, [], ◌∷◌, length, take, refl, sym, ap, ap₂, subst, ◌∙◌, cond, arith}
use Rattle.std.specs.Prelude.{IfOk, IsSome, None, Some, Result, Err, Ok, not, nat_lt, if◌then◌else◌, slice_index_or}
use Rattle.std.specs.BTreeMap.{BTreeMap, Updates, get}
use Rattle.std.specs.List.{AllByRecursion, position, position_or_len, remove}
use Rattle.std.specs.Option.{unwrap_or}
use Rattle.std.specs.Ordering.{is_eq, nat_cmp, ordering_then}
use Rattle.std.specs.declared.cmp.Ordering.{Ordering}
use Rattle.std.specs.declared.cmp.Ordering.TheVariants.{Equal, Greater, Less}
use Rattle.std.proofs.lemmas.Bool.Decides.{nat_tests}
use Rattle.std.proofs.lemmas.List.Sums.{prefix_len-le-length}
use Rattle.rtps_capture.specs.Assembly as assembly
use Rattle.rtps_capture.specs.Recent as recent_spec
use Rattle.rtps_capture.specs.declared.assembly.KeyedMaking.{KeyedMaking}
use Rattle.rtps_capture.specs.declared.assembly.RecentMakings.{RecentMakings}
use Rattle.rtps_capture.specs.declared.assembly.Taken.{Taken}
use Rattle.rtps_capture.specs.declared.fragment.FragmentHosts.{FragmentHosts}
use Rattle.rtps_capture.specs.declared.fragment.FragmentKey.{FragmentKey}
use Rattle.rtps_capture.specs.declared.pieces.Piece.{Piece}

-- the place of the first one that passes, or behind the last one
position_is : {X : Type 0} (test : X → Bool) (xs : List X) → unwrap_or (position test xs) (length xs) ≡ position_or_len test xs
position_is test xs = by (nat_lt (position_or_len test xs) (length xs)) refl
  where
    most : position_or_len test xs ≤ length xs
    most = prefix_len-le-length (λ x. not (test x)) xs

    by : (there : Bool) → nat_lt (position_or_len test xs) (length xs) ≡ there → unwrap_or (cond there (Some (position_or_len test xs)) None) (length xs) ≡ position_or_len test xs
    by true less = refl
    by false less = grind (arith, nat_tests, most)

without_first : {X : Type 0} (test : X → Bool) (xs : List X) → recent_spec.without test xs ≡ remove xs (position_or_len test xs)
without_first test [] = refl
without_first test (x ∷ xs) = by (test x) (without_first test xs)
  where
    by : (here : Bool) → recent_spec.without test xs ≡ remove xs (position_or_len test xs)
        → (if here then xs else x ∷ recent_spec.without test xs) ≡ remove (x ∷ xs) (cond (not here) (1 + position_or_len test xs) 0)
    by true rest = refl
    by false rest = ap (λ l. x ∷ l) rest ∙ ap (remove (x ∷ xs)) (let next : suc (position_or_len test xs) ≡ 1 + position_or_len test xs = omega arith in next)

making_first : (identification : ℕ) (recent : List KeyedMaking) (d : KeyedMaking) → position_or_len (recent_spec.is_of identification) recent < length recent
    → (slice_index_or recent (position_or_len (recent_spec.is_of identification) recent) d).making ≡ recent_spec.making_in recent identification
making_first identification [] d within = absurd (omega (arith, within))
making_first identification (one ∷ recent) d within = by (recent_spec.is_of identification one) within (making_first identification recent d)
  where
    by : (here : Bool) → cond (not here) (1 + position_or_len (recent_spec.is_of identification) recent) 0 < length (one ∷ recent)
        → (position_or_len (recent_spec.is_of identification) recent < length recent → (slice_index_or recent (position_or_len (recent_spec.is_of identification) recent) d).making ≡ recent_spec.making_in recent identification)
        → (slice_index_or (one ∷ recent) (cond (not here) (1 + position_or_len (recent_spec.is_of identification) recent) 0) d).making ≡ (if here then one.making else recent_spec.making_in recent identification)
    by true less rest = refl
    by false less rest =
        let first = position_or_len (recent_spec.is_of identification) recent in
        ap (λ (n : ℕ). (slice_index_or (one ∷ recent) n d).making) (let next : 1 + first ≡ suc first = omega arith in next) ∙ rest (omega (arith, less))

none_first : (identification : ℕ) (recent : List KeyedMaking) → length recent ≤ position_or_len (recent_spec.is_of identification) recent
    → (assembly.fresh_making ≡ recent_spec.making_in recent identification) × (recent ≡ recent_spec.without (recent_spec.is_of identification) recent)
none_first identification [] past = (refl, refl)
none_first identification (one ∷ recent) past = by (recent_spec.is_of identification one) past (none_first identification recent)
  where
    by : (here : Bool) → length (one ∷ recent) ≤ cond (not here) (1 + position_or_len (recent_spec.is_of identification) recent) 0
        → (length recent ≤ position_or_len (recent_spec.is_of identification) recent → (assembly.fresh_making ≡ recent_spec.making_in recent identification) × (recent ≡ recent_spec.without (recent_spec.is_of identification) recent))
        → (assembly.fresh_making ≡ (if here then one.making else recent_spec.making_in recent identification)) × (one ∷ recent ≡ (if here then recent else one ∷ recent_spec.without (recent_spec.is_of identification) recent))
    by true less rest = absurd (omega (arith, less))
    by false less rest = let there = rest (omega (arith, less)) in (there.0, ap (λ l. one ∷ l) there.1)

pub not_within : (place n : ℕ) → (place < n → ⊥) → n ≤ place
not_within place n never = by (nat_lt place n) refl
  where
    by : (less : Bool) → nat_lt place n ≡ less → n ≤ place
    by true is = absurd (never (let within : place < n = grind (arith, nat_tests) in within))
    by false is = grind (arith, nat_tests)

-- what is at the place of a key, and what is left without it
pub one_out : (identification : ℕ) (recent : List KeyedMaking) (place : ℕ) (there : KeyedMaking) → place ≡ unwrap_or (position (recent_spec.is_of identification) recent) (length recent)
    → place < length recent → there ≡ slice_index_or recent place there
    → (there.making ≡ recent_spec.making_in recent identification) × (remove recent place ≡ recent_spec.without (recent_spec.is_of identification) recent)
one_out identification recent place there is within found =
    let at : place ≡ position_or_len (recent_spec.is_of identification) recent = is ∙ position_is (recent_spec.is_of identification) recent in
    let less : position_or_len (recent_spec.is_of identification) recent < length recent = subst (λ (n : ℕ). n < length recent) at within in
    let same : (slice_index_or recent place there).making ≡ recent_spec.making_in recent identification =
    ap (λ (n : ℕ). (slice_index_or recent n there).making) at ∙ making_first identification recent there less in
    (ap (λ (one : KeyedMaking). one.making) found ∙ same, ap (remove recent) at ∙ sym (without_first (recent_spec.is_of identification) recent))

pub none_out : (identification : ℕ) (recent : List KeyedMaking) (place : ℕ) → place ≡ unwrap_or (position (recent_spec.is_of identification) recent) (length recent) → length recent ≤ place
    → (assembly.fresh_making ≡ recent_spec.making_in recent identification) × (recent ≡ recent_spec.without (recent_spec.is_of identification) recent)
none_out identification recent place is past =
    none_first identification recent (subst (λ (n : ℕ). length recent ≤ n) (is ∙ position_is (recent_spec.is_of identification) recent) past)

-- what hosts have when some are put in
recent_put : (old new : BTreeMap FragmentHosts RecentMakings) (hosts : FragmentHosts) (w : RecentMakings) → Updates recent_spec.hosts_cmp old new hosts (Some w) → (other : FragmentHosts)
    → recent_spec.recent_of new other ≡ (if is_eq (recent_spec.hosts_cmp hosts other) then w.makings.items else recent_spec.recent_of old other)
recent_put old new hosts w updates other = ap recent_spec.recent_in (updates.0 other) ∙ by (is_eq (recent_spec.hosts_cmp hosts other))
  where
    by : (here : Bool) → recent_spec.recent_in (cond here (Some w) (get recent_spec.hosts_cmp old other)) ≡ (if here then w.makings.items else recent_spec.recent_of old other)
    by true = refl
    by false = refl

-- a fragment was taken of hosts that had these keys, and these are put in
spread : (file packet : List ℕ) (old new : BTreeMap FragmentHosts RecentMakings) (key : FragmentKey) (hosts : FragmentHosts) (recent left : List KeyedMaking) (piece other : Piece)
    (taken : Taken) → recent ≡ recent_spec.recent_of old (recent_spec.hosts_of key) → piece ≡ other → hosts ≡ recent_spec.hosts_of key
    → ((one : FragmentHosts) → recent_spec.recent_of new one ≡ (if is_eq (recent_spec.hosts_cmp hosts one) then left else recent_spec.recent_of old one))
    → recent_spec.TakesPiece (assembly.taken_piece file key (recent_spec.making_in recent key.identification) piece) key taken recent left packet
    → recent_spec.TakesFragment (assembly.taken_piece file key (recent_spec.making_in (recent_spec.recent_of old (recent_spec.hosts_of key)) key.identification) other) key taken old new packet
spread file packet old new key hosts recent left piece other taken there same are puts is =
    let joined : assembly.Joined = assembly.taken_piece file key (recent_spec.making_in (recent_spec.recent_of old (recent_spec.hosts_of key)) key.identification) other in
    let step : assembly.taken_piece file key (recent_spec.making_in recent key.identification) piece ≡ joined =
    ap₂ (λ (l : List KeyedMaking) (p : Piece). assembly.taken_piece file key (recent_spec.making_in l key.identification) p) there same in
    let takes : recent_spec.TakesPiece joined key taken (recent_spec.recent_of old (recent_spec.hosts_of key)) left packet =
    subst (λ (l : List KeyedMaking). recent_spec.TakesPiece joined key taken l left packet) there
    (subst (λ (j : assembly.Joined). recent_spec.TakesPiece j key taken recent left packet) step is) in (
      takes.0,
      takes.1,
      λ one.
          puts one
          ∙ ap₂ (λ (l : List KeyedMaking) (h : FragmentHosts). if is_eq (recent_spec.hosts_cmp h one) then l else recent_spec.recent_of old one) takes.2 are,
    )

-- the first fragment of two hosts was taken
pub put_taken : (file packet : List ℕ) (old between new : BTreeMap FragmentHosts RecentMakings) (key : FragmentKey) (hosts : FragmentHosts) (v w : RecentMakings)
    (piece other : Piece) (taken : Taken) → v.makings.items ≡ [] → piece ≡ other → hosts ≡ recent_spec.hosts_of key → get recent_spec.hosts_cmp old hosts ≡ None → between ≡ old
    → Updates recent_spec.hosts_cmp between new hosts (Some w)
    → recent_spec.TakesPiece (assembly.taken_piece file key (recent_spec.making_in v.makings.items key.identification) piece) key taken v.makings.items w.makings.items packet
    → recent_spec.TakesFragment (assembly.taken_piece file key (recent_spec.making_in (recent_spec.recent_of old (recent_spec.hosts_of key)) key.identification) other) key taken old new packet
put_taken file packet old between new key hosts v w piece other taken begins same are none unchanged updates is =
    spread file packet old new key hosts v.makings.items w.makings.items piece other taken (begins ∙ sym (ap recent_spec.recent_in none) ∙ ap (recent_spec.recent_of old) are) same are
    (λ one. recent_put between new hosts w updates one
    ∙ ap (λ (m : BTreeMap FragmentHosts RecentMakings). if is_eq (recent_spec.hosts_cmp hosts one) then w.makings.items else recent_spec.recent_of m one) unchanged) is

-- another one was taken
pub there_taken : {E : Type 0} (file packet : List ℕ) (old new : BTreeMap FragmentHosts RecentMakings) (key : FragmentKey) (hosts : FragmentHosts) (v w : RecentMakings)
    (piece other : Piece) (result : Result Taken E) → piece ≡ other → hosts ≡ recent_spec.hosts_of key → get recent_spec.hosts_cmp old hosts ≡ Some v
    → (IsSome (get recent_spec.hosts_cmp old hosts) → Updates recent_spec.hosts_cmp old new hosts (Some w))
    → IfOk result (λ taken. recent_spec.TakesPiece (assembly.taken_piece file key (recent_spec.making_in v.makings.items key.identification) piece) key taken v.makings.items w.makings.items packet)
    → IfOk result (λ taken. recent_spec.TakesFragment (assembly.taken_piece file key (recent_spec.making_in (recent_spec.recent_of old (recent_spec.hosts_of key)) key.identification) other) key taken old new packet)
there_taken file packet old new key hosts v w piece other (Err e) same are there updates is = tt
there_taken file packet old new key hosts v w piece other (Ok taken) same are there updates is =
    spread file packet old new key hosts v.makings.items w.makings.items piece other taken (sym (ap recent_spec.recent_in there) ∙ ap (recent_spec.recent_of old) are) same are
    (recent_put old new hosts w (updates (subst IsSome (sym there) refl))) is

-- hosts that compare as equal are
nat_same : (a b : ℕ) → is_eq (nat_cmp a b) ≡ true → a ≡ b
nat_same a b is = grind (arith, nat_tests)

then_same : (one other : Ordering) → is_eq (ordering_then one other) ≡ true → (is_eq one ≡ true) × (is_eq other ≡ true)
then_same Equal other is = (refl, is)
then_same Less other is = let no = is in cc
then_same Greater other is = let no = is in cc

abbrev hosts_with : ℕ → ℕ → ℕ → FragmentHosts
hosts_with version source destination = record { version = version; source = source; destination = destination }

pub hosts_same : (a b : FragmentHosts) → is_eq (recent_spec.hosts_cmp a b) ≡ true → a ≡ b
hosts_same a b is =
    let first = then_same (nat_cmp a.version b.version) (ordering_then (nat_cmp a.source b.source) (nat_cmp a.destination b.destination)) is in
    let next = then_same (nat_cmp a.source b.source) (nat_cmp a.destination b.destination) first.1 in
    let front : hosts_with a.version a.source a.destination ≡ hosts_with b.version b.source a.destination =
    ap₂ (λ (v s : ℕ). hosts_with v s a.destination) (nat_same a.version b.version first.0) (nat_same a.source b.source next.0) in
    front ∙ ap (hosts_with b.version b.source) (nat_same a.destination b.destination next.1)

-- what holds of each that is remembered holds of each that is left with one more
pub all_take : {X : Type 0} (P : X → Type 0) (n : ℕ) (xs : List X) → AllByRecursion P xs → AllByRecursion P (take n xs)
all_take P zero xs all = tt
all_take P (suc n) [] all = tt
all_take P (suc n) (x ∷ xs) all = (all.0, all_take P n xs all.1)

pub all_without : {X : Type 0} (P : X → Type 0) (test : X → Bool) (xs : List X) → AllByRecursion P xs → AllByRecursion P (recent_spec.without test xs)
all_without P test [] all = tt
all_without P test (x ∷ xs) all = by (test x) (all_without P test xs all.1)
  where
    by : (here : Bool) → AllByRecursion P (recent_spec.without test xs) → AllByRecursion P (if here then xs else x ∷ recent_spec.without test xs)
    by true rest = all.1
    by false rest = (all.0, rest)
