-- What is kept of the fragments that came, with one fragment more.
use Rattle.std.proofs.lemmas.Grind.{common_steps}
use Rattle.std.proofs.Common.{◌≡◌, ℕ, zero, suc, ◌+◌, ◌<◌, ◌≤◌, Bool, true, false, cond, not, List, [], ◌∷◌, ◌++◌, length, append-nil, append_assoc, set, take, drop, ◌-◌, Option, Some, None, slice_get, refl, sym, ◌∙◌, ap, subst, arith, inl, inr, ◌⊎◌, rules}
use Rattle.std.specs.Prelude.{◌&&◌, ◌==◌, is_some, nat_lt, option_copied}
use Rattle.std.specs.Borrow.{Bor}
use Rattle.std.specs.BTreeMap.{get, is_at}
use Rattle.std.specs.List.{concat, find, list_all}
use Rattle.std.specs.Option.{option_or}
use Rattle.std.specs.Ordering.{nat_cmp}
use Rattle.std.specs.Str.{bytes_eq}
use Rattle.std.proofs.lemmas.Bool.{cases_lt}
use Rattle.std.proofs.Math.Bool.{and-false}
use Rattle.std.proofs.lemmas.List.{length-set, take-append-drop}
use Rattle.std.proofs.lemmas.Bool.Decides.{Decides-eqb, nat_tests}
use Rattle.std.proofs.lemmas.List.Folds.{find-append, list_all-append}
use Rattle.std.proofs.lemmas.Option.{slice_get_cases}
use Rattle.std.proofs.lemmas.Slice.Eq.{bytes_eq-Decides}
use Rattle.rtps_fragments.specs.Heard as heard
use Rattle.rtps_wire.specs.DataFrag as data_frag
use Rattle.rtps_fragments.specs.Samples as samples
use Rattle.rtps_fragments.specs.declared.heard.Heard.{Heard}
use Rattle.rtps_fragments.proofs.SampleLemmas.{firsts_get}
use Rattle.rtps_fragments.proofs.Variants.{find_agrees, other_same, parts_exist}

-- ---- one fragment more

pub first-append : (came more : List (ℕ × List ℕ)) (i : ℕ) → samples.first_of (came ++ more) i ≡ option_or (samples.first_of came i) (samples.first_of more i)
first-append [] more i = refl
first-append (one ∷ rest) more i = by (i == one.0) (first-append rest more i)
  where
    by : (b : Bool) → samples.first_of (rest ++ more) i ≡ option_or (samples.first_of rest i) (samples.first_of more i) → cond b (Some one.1) (samples.first_of (rest ++ more) i) ≡ option_or (cond b (Some one.1) (samples.first_of rest i)) (samples.first_of more i)
    by true rest = refl
    by false rest = rest

pub other-append : (came : List (ℕ × List ℕ)) (one : ℕ × List ℕ) → find (samples.is_other (came ++ one ∷ [])) (came ++ one ∷ []) ≡ option_or (find (samples.is_other came) came) (cond (samples.differs (samples.first_of (came ++ one ∷ []) one.0) one.1) (Some one) None)
other-append came one = search (rules, find-append, find_agrees, other_same)

or_none : {X : Type 0} (o : Option X) → option_or o None ≡ o
or_none o = grind (arith, nat_tests)

-- a fragment that came for the first time
pub first_new : (came : List (ℕ × List ℕ)) (k : ℕ) (octets : List ℕ) (i : ℕ) → samples.first_of came k ≡ None → samples.first_of (came ++ (k, octets) ∷ []) i ≡ cond (i == k) (Some octets) (samples.first_of came i)
first_new came k octets i none = grind (arith, nat_tests, common_steps, first-append, Decides-eqb, or_none)

-- one that came before
pub first_again : (came : List (ℕ × List ℕ)) (k : ℕ) (first octets : List ℕ) (i : ℕ) → samples.first_of came k ≡ Some first → samples.first_of (came ++ (k, octets) ∷ []) i ≡ samples.first_of came i
first_again came k first octets i found = grind (arith, nat_tests, common_steps, first-append, Decides-eqb, or_none)

own_bytes : (octets : List ℕ) → bytes_eq octets octets ≡ true
own_bytes octets = (bytes_eq-Decides octets octets).1 refl

own_number : (k : ℕ) → (k == k) ≡ true
own_number k = (Decides-eqb k k).1 refl

pub other_new : (came : List (ℕ × List ℕ)) (k : ℕ) (octets : List ℕ) → samples.first_of came k ≡ None → find (samples.is_other (came ++ (k, octets) ∷ [])) (came ++ (k, octets) ∷ []) ≡ find (samples.is_other came) came
other_new came k octets none =
    let first : samples.first_of (came ++ (k, octets) ∷ []) k ≡ Some octets = first_new came k octets k none ∙ ap (λ b. cond b (Some octets) (samples.first_of came k)) (own_number k) in
    let same : samples.differs (samples.first_of (came ++ (k, octets) ∷ []) k) octets ≡ false = ap (λ o. samples.differs o octets) first ∙ ap not (own_bytes octets) in
    let one : ℕ × List ℕ = (k, octets) in
    other-append came one
    ∙ ap (λ b. option_or (find (samples.is_other came) came) (cond b (Some one) None)) same
    ∙ or_none (find (samples.is_other came) came)

pub other_again : (came : List (ℕ × List ℕ)) (k : ℕ) (first octets : List ℕ) → samples.first_of came k ≡ Some first
    → find (samples.is_other (came ++ (k, octets) ∷ [])) (came ++ (k, octets) ∷ []) ≡ option_or (find (samples.is_other came) came) (cond (not (bytes_eq first octets)) (Some (k, octets)) None)
other_again came k first octets found =
    let one : ℕ × List ℕ = (k, octets) in
    other-append came one
    ∙ ap (λ o. option_or (find (samples.is_other came) came) (cond (samples.differs o octets) (Some one) None)) (first_again came k first octets k found ∙ found)

-- ---- what is kept

pub at_number : (k i : ℕ) → is_at (nat_cmp k) i ≡ (i == k)
at_number k i = grind (arith, nat_tests)

-- the octets at a place of the front are kept
pub front_first : (kept : Heard) (i : ℕ) (octets : Bor (List ℕ)) → slice_get kept.front.items i ≡ Some octets → heard.kept_first kept (suc i) ≡ Some octets.now
front_first kept i octets e = ap (λ o. option_or (option_copied o) (option_copied (get nat_cmp kept.ahead (suc i)))) e

-- each fragment of the front is there
pub front_there : (kept : Heard) (i : ℕ) → i < heard.kept_front kept → is_some (heard.kept_first kept (suc i)) ≡ true
front_there kept i lt = elim (slice_get_cases kept.front.items i).1 [
  | inl found ↦ ap is_some (front_first kept i found.0 found.2)
  | inr past ↦ absurd (let le = past.0 in omega arith)
]

module _ (last : ℕ) (came : List (ℕ × List ℕ)) (kept new : Heard) (k : ℕ) (octets : List ℕ) (is : heard.IsHeard last came kept) where
  -- a fragment that came before
  pub kept_again : (first : List ℕ) → heard.kept_first kept k ≡ Some first → ((i : ℕ) → heard.kept_first new i ≡ heard.kept_first kept i) → heard.kept_front new ≡ heard.kept_front kept
      → heard.kept_other new ≡ option_or (heard.kept_other kept) (cond (not (bytes_eq first octets)) (Some (k, octets)) None) → heard.IsHeard last (came ++ (k, octets) ∷ []) new
  kept_again first found firsts front other =
      let here : samples.first_of came k ≡ Some first = sym (is.firsts k) ∙ found in
      record {
        firsts = λ i. firsts i ∙ is.firsts i ∙ sym (first_again came k first octets i here);
        within = subst (λ n. n ≤ last) (sym front) is.within;
        next = λ lt. first_again came k first octets (suc (heard.kept_front new)) here ∙ ap (λ n. samples.first_of came (suc n)) front ∙ is.next (subst (λ n. n < last) front lt);
        other = other ∙ ap (λ o. option_or o (cond (not (bytes_eq first octets)) (Some (k, octets)) None)) is.other ∙ sym (other_again came k first octets here);
      }

  -- a fragment that came for the first time
  pub kept_new : heard.kept_first kept k ≡ None → ((i : ℕ) → heard.kept_first new i ≡ cond (i == k) (Some octets) (heard.kept_first kept i)) → heard.kept_front new ≤ last
      → (heard.kept_front new < last → heard.kept_first new (suc (heard.kept_front new)) ≡ None) → heard.kept_other new ≡ heard.kept_other kept → heard.IsHeard last (came ++ (k, octets) ∷ []) new
  kept_new none firsts within next other = grind (arith, nat_tests, common_steps, first_new, other_new)

-- ---- what can be put together

-- each fragment is there
pub all_there : (last : ℕ) (came : List (ℕ × List ℕ)) (kept : Heard) → heard.IsHeard last came kept → 0 < last → last ≤ heard.kept_front kept → (parts : List (List ℕ)) × (samples.firsts_of came last ≡ Some parts)
all_there zero came kept is some whole = absurd (omega arith)
all_there (suc last) came kept is some whole = parts_exist (λ i. samples.first_of came (suc i)) (suc last) (λ i lt. found (samples.first_of came (suc i)) (ap is_some (sym (is.firsts (suc i))) ∙ front_there kept i (omega arith)))
  where
    found : (o : Option (List ℕ)) → is_some o ≡ true → (octets : List ℕ) × (o ≡ Some octets)
    found None e = cc
    found (Some octets) e = (octets, refl)

-- some fragment is not there
pub not_there : (last : ℕ) (came : List (ℕ × List ℕ)) (kept : Heard) → heard.IsHeard last came kept → heard.kept_front kept < last → samples.firsts_of came last ≡ None
not_there last came kept is less = by (samples.firsts_of came last) refl
  where
    by : (o : Option (List (List ℕ))) → samples.firsts_of came last ≡ o → samples.firsts_of came last ≡ None
    by None e = e
    by (Some parts) e = absurd (clash (firsts_get came last parts e).0 (firsts_get came last parts e).2)
      where
        clash : length parts ≡ last → ((i : ℕ) (octets : List ℕ) → slice_get parts i ≡ Some octets → samples.first_of came (suc i) ≡ Some octets) → ⊥
        clash count gets = elim (slice_get_cases parts (heard.kept_front kept)).1 [
          | inl found ↦ let no : None ≡ Some found.0 = sym (is.next less) ∙ gets (heard.kept_front kept) found.0 found.2 in cc
          | inr past ↦ let le = past.0 in omega arith
        ]

pub below : (a b : ℕ) → a < b → nat_lt a b ≡ true
below a b lt = grind (arith, nat_tests)

pub not_below : (a b : ℕ) → b ≤ a → nat_lt a b ≡ false
not_below a b le = grind (arith, nat_tests)

-- how many samples there are
abbrev pub sample_count : ℕ → Heard → ℕ
sample_count last kept = cond (nat_lt (heard.kept_front kept) last) 0 (cond (kept.other == 0) 1 2)

pub samples_counted : (last : ℕ) (came : List (ℕ × List ℕ)) (kept : Heard) → heard.IsHeard last came kept → 0 < last → length (samples.samples_of last came) ≡ sample_count last kept
samples_counted last came kept is some = elim (cases_lt (heard.kept_front kept) last) [
  | inl less ↦
      ap (λ o. length (samples.samples_by o (find (samples.is_other came) came))) (not_there last came kept is less)
      ∙ ap (λ b. cond b 0 (cond (kept.other == 0) 1 2)) (sym (below (heard.kept_front kept) last less))
  | inr whole ↦
      let (parts, all) = all_there last came kept is some whole in
      ap (λ o. length (samples.samples_by o (find (samples.is_other came) came))) all ∙ ap (λ o. length (samples.samples_by (Some parts) o)) (sym is.other) ∙ by (kept.other == 0) parts
      ∙ ap (λ b. cond b 0 (cond (kept.other == 0) 1 2)) (sym (not_below (heard.kept_front kept) last whole))
]
  where
    by : (b : Bool) (parts : List (List ℕ)) → length (samples.samples_by (Some parts) (cond b None (Some (kept.other, kept.octets.now)))) ≡ cond b 1 2
    by true parts = refl
    by false parts = refl

-- ---- the octets of a sample

same_part : {X : Type 0} (x y : X) → Some x ≡ Some y → x ≡ y
same_part x y e = cc

pub concat_more : (parts : List (List ℕ)) (i : ℕ) (part : List ℕ) → slice_get parts i ≡ Some part → concat (take (suc i) parts) ≡ concat (take i parts) ++ part
concat_more [] i part e = cc
concat_more (first ∷ parts) zero part e = append-nil first ∙ same_part first part e
concat_more (first ∷ parts) (suc i) part e = ap (λ octets. first ++ octets) (concat_more parts i part e) ∙ sym (append_assoc first (concat (take i parts)) part)

not_zero : (i : ℕ) → (suc i == 0) ≡ false
not_zero i = grind (arith, nat_tests)

zero_not : (i : ℕ) → (0 == suc i) ≡ false
zero_not i = grind (arith, nat_tests)

suc_same : (i j : ℕ) → (suc i == suc j) ≡ (i == j)
suc_same i j = grind (arith, nat_tests)

set_get : (parts : List (List ℕ)) (j i : ℕ) (octets part : List ℕ) → slice_get parts i ≡ Some part → slice_get (set parts j octets) i ≡ Some (cond (i == j) octets part)
set_get [] j i octets part e = cc
set_get (first ∷ parts) zero zero octets part e = refl
set_get (first ∷ parts) zero (suc i) octets part e = e ∙ ap (λ b. Some (cond b octets part)) (sym (not_zero i))
set_get (first ∷ parts) (suc j) zero octets part e = e ∙ ap (λ b. Some (cond b octets part)) (sym (zero_not j))
set_get (first ∷ parts) (suc j) (suc i) octets part e = set_get parts j i octets part e ∙ ap (λ b. Some (cond b octets part)) (sym (suc_same i j))

-- a part, where one of them is another
pub with_get : (parts : List (List ℕ)) (index i : ℕ) (octets part : List ℕ) → slice_get parts i ≡ Some part → slice_get (heard.with_part parts index octets) i ≡ Some (cond (suc i == index) octets part)
with_get parts index i octets part h = grind (arith, nat_tests, common_steps, not_zero, set_get, suc_same)

pub length-with_part : (parts : List (List ℕ)) (index : ℕ) (octets : List ℕ) → length (heard.with_part parts index octets) ≡ length parts
length-with_part parts index octets = grind (arith, nat_tests, common_steps, length-set)

-- the octets that are kept for a place are its part
pub kept_part : (last : ℕ) (came : List (ℕ × List ℕ)) (kept : Heard) (parts : List (List ℕ)) (i : ℕ) → heard.IsHeard last came kept → samples.firsts_of came last ≡ Some parts → i < last
    → (part : List ℕ) × (slice_get parts i ≡ Some part) × (heard.kept_first kept (suc i) ≡ Some part)
kept_part last came kept parts i is all lt =
    let gets = firsts_get came last parts all in
    elim (slice_get_cases parts i).1 [
      | inl found ↦ (found.0, found.2, is.firsts (suc i) ∙ gets.2 i found.0 found.2)
      | inr past ↦ absurd (let le = past.0 in let count = gets.0 in omega arith)
    ]

-- where there are samples, each fragment is there
pub parts_there : (last : ℕ) (came : List (ℕ × List ℕ)) → 0 < length (samples.samples_of last came) → (parts : List (List ℕ)) × (samples.firsts_of came last ≡ Some parts)
parts_there last came some = grind (arith, nat_tests)

-- the first sample, and the second one
pub sample_at_first : (last : ℕ) (came : List (ℕ × List ℕ)) (parts : List (List ℕ)) → samples.firsts_of came last ≡ Some parts → slice_get (samples.samples_of last came) 0 ≡ Some (concat parts)
sample_at_first last came parts all = grind (arith, nat_tests)

pub sample_at_second : (last : ℕ) (came : List (ℕ × List ℕ)) (kept : Heard) (parts : List (List ℕ)) (place : ℕ) → heard.IsHeard last came kept → samples.firsts_of came last ≡ Some parts → 0 < place → place < length (samples.samples_of last came)
    → slice_get (samples.samples_of last came) place ≡ Some (concat (heard.with_part parts kept.other kept.octets.now))
sample_at_second last came kept parts place is all some within = grind (arith, nat_tests)

-- ---- consecutive fragments

came-append : (i : ℕ) (one other : List (List ℕ)) → heard.came_from i (one ++ other) ≡ heard.came_from i one ++ heard.came_from (i + length one) other
came-append i [] other = ap (λ n. heard.came_from n other) (let e : i ≡ i + 0 = omega arith in e)
came-append i (part ∷ one) other =
    let index : suc i + length one ≡ i + suc (length one) = omega arith in
    ap (λ rest. (i, part) ∷ rest) (came-append (suc i) one other ∙ ap (λ n. heard.came_from (suc i) one ++ heard.came_from n other) index)

-- one part more of a list
part_more : (parts : List (List ℕ)) (place : ℕ) (part : List ℕ) (rest : List (List ℕ)) → drop place parts ≡ part ∷ rest
    → (take (suc place) parts ≡ take place parts ++ part ∷ []) × (length (take place parts) ≡ place) × (drop (suc place) parts ≡ rest)
part_more [] zero part rest e = cc
part_more [] (suc place) part rest e = cc
part_more (first ∷ parts) zero part rest e = ((let h = e in cc), refl, (let h = e in cc))
part_more (first ∷ parts) (suc place) part rest e =
    let (more, count, behind) = part_more parts place part rest e in
    (ap (λ xs. first ∷ xs) more, ap suc count, behind)

pub came_more : (first place : ℕ) (parts : List (List ℕ)) (part : List ℕ) (rest : List (List ℕ)) → drop place parts ≡ part ∷ rest
    → heard.came_from first (take (suc place) parts) ≡ heard.came_from first (take place parts) ++ (first + place, part) ∷ []
came_more first place parts part rest e = grind (arith, nat_tests, common_steps, part_more, came-append)

-- so many fragments of octets, one less
pub parts_next : (fragment count place : ℕ) (octets : List ℕ) → place < count → data_frag.parts_in fragment (count - place) octets ≡ take fragment octets ∷ data_frag.parts_in fragment (count - suc place) (drop fragment octets)
parts_next fragment count place octets lt = grind (arith, nat_tests)

pub parts_behind : (fragment count place : ℕ) (all : List (List ℕ)) (rest : List ℕ) → drop place all ≡ data_frag.parts_in fragment (count - place) rest → place < count
    → drop (suc place) all ≡ data_frag.parts_in fragment (count - suc place) (drop fragment rest)
parts_behind fragment count place all rest e lt = grind (arith, nat_tests, common_steps, part_more, parts_next)

-- ---- the fragment that came with other octets

abbrev some_one : ℕ → List ℕ → Option (ℕ × List ℕ)
some_one n octets = Some (n, octets)

some_number : (k : ℕ) → 0 < k → (k == 0) ≡ false
some_number k lt = grind (arith, nat_tests)

not_none : (k : ℕ) → (k ≡ 0 → ⊥) → (k == 0) ≡ false
not_none k ne = grind (arith, nat_tests)

-- the first such fragment is kept
pub other_set : (old k : ℕ) (before octets : List ℕ) (b : Bool) → 0 < k → old ≡ 0 → b ≡ true
    → cond (k == 0) None (some_one k octets) ≡ option_or (cond (old == 0) None (some_one old before)) (cond b (some_one k octets) None)
other_set old k before octets b lt none is = grind (arith, nat_tests)

-- no later one, and none with the same octets
pub other_stays_kept : (old k : ℕ) (before octets : List ℕ) (b : Bool) → ((old ≡ 0) × (b ≡ false)) ⊎ (old ≡ 0 → ⊥)
    → cond (old == 0) None (some_one old before) ≡ option_or (cond (old == 0) None (some_one old before)) (cond b (some_one k octets) None)
other_stays_kept old k before octets b h = grind (arith, nat_tests)

-- ---- the octets of a sample, fragment by fragment

module _ (last : ℕ) (came : List (ℕ × List ℕ)) (kept : Heard) (parts : List (List ℕ)) (index i : ℕ) (octets so_far : List ℕ) (is : heard.IsHeard last came kept) (all : samples.firsts_of came last ≡ Some parts) (lt : i < last)
    (so : so_far ≡ concat (take i (heard.with_part parts index octets))) where
  found : (part : List ℕ) × (slice_get parts i ≡ Some part) × (heard.kept_first kept (suc i) ≡ Some part)
  found = kept_part last came kept parts i is all lt

  next : concat (take (i + 1) (heard.with_part parts index octets)) ≡ so_far ++ cond (suc i == index) octets found.0
  next =
      let more : i + 1 ≡ suc i = omega arith in
      ap (λ n. concat (take n (heard.with_part parts index octets))) more
      ∙ concat_more (heard.with_part parts index octets) i (cond (suc i == index) octets found.0) (with_get parts index i octets found.0 found.1)
      ∙ ap (λ old. old ++ cond (suc i == index) octets found.0) (sym so)

  pub joined_with : i + 1 ≡ index → so_far ++ octets ≡ concat (take (i + 1) (heard.with_part parts index octets))
  joined_with e = grind (arith, nat_tests, common_steps, Decides-eqb, next, found)

  pub joined_first : (i + 1 ≡ index → ⊥) → (part : List ℕ) → heard.kept_first kept (i + 1) ≡ Some part → so_far ++ part ≡ concat (take (i + 1) (heard.with_part parts index octets))
  joined_first ne part has = grind (arith, nat_tests, common_steps, found, same_part, next)

-- ---- consecutive fragments, one after another

pub came_step : (first count fragment place index : ℕ) (parts : List (List ℕ)) (rest octets : List ℕ) → drop place parts ≡ data_frag.parts_in fragment (count - place) rest → place < count → index ≡ first + place → octets ≡ take fragment rest
    → heard.came_from first (take (place + 1) parts) ≡ heard.came_from first (take place parts) ++ (index, octets) ∷ []
came_step first count fragment place index parts rest octets left lt at is =
    let one : ℕ → List ℕ → ℕ × List ℕ = λ n o. (n, o) in
    let more : suc place ≡ place + 1 = omega arith in
    let step = came_more first place parts (take fragment rest) (data_frag.parts_in fragment (count - suc place) (drop fragment rest)) (left ∙ parts_next fragment count place rest lt) in
    sym (ap (λ n. heard.came_from first (take place parts) ++ one n octets ∷ []) at ∙ ap (λ o. heard.came_from first (take place parts) ++ one (first + place) o ∷ []) is ∙ sym step ∙ ap (λ n. heard.came_from first (take n parts)) more)

pub piece_step : (last first count fragment place index : ℕ) (parts : List (List ℕ)) (rest octets : List ℕ) (came : List (ℕ × List ℕ)) (new : Heard) → drop place parts ≡ data_frag.parts_in fragment (count - place) rest → place < count
    → index ≡ first + place → octets ≡ take fragment rest → heard.IsHeard last ((came ++ heard.came_from first (take place parts)) ++ (index, octets) ∷ []) new
    → heard.IsHeard last (came ++ heard.came_from first (take (place + 1) parts)) new
piece_step last first count fragment place index parts rest octets came new left lt at is kept = grind (arith, nat_tests, common_steps, append_assoc, came_step)

-- all of them have a property where those so far do, and not where the next one does not
pub all_step : (test : ℕ × List ℕ → Bool) (so_far : List (ℕ × List ℕ)) (one : ℕ × List ℕ) → list_all test so_far ≡ true → test one ≡ true → list_all test (so_far ++ one ∷ []) ≡ true
all_step test so_far one each is = list_all-append test so_far (one ∷ []) ∙ ap (λ b. b && (test one && true)) each ∙ ap (λ b. b && true) is

pub not_all : (test : ℕ × List ℕ → Bool) (first place : ℕ) (parts : List (List ℕ)) (so_far : List (ℕ × List ℕ)) (one : ℕ × List ℕ) → heard.came_from first (take (place + 1) parts) ≡ so_far ++ one ∷ [] → test one ≡ false
    → list_all test (heard.came_from first parts) ≡ false
not_all test first place parts so_far one step never =
    let front = take (place + 1) parts in
    let back = drop (place + 1) parts in
    ap (λ ps. list_all test (heard.came_from first ps)) (sym (take-append-drop (place + 1) parts)) ∙ ap (list_all test) (came-append first front back)
    ∙ list_all-append test (heard.came_from first front) (heard.came_from (first + length front) back)
    ∙ ap (λ b. b && list_all test (heard.came_from (first + length front) back)) (ap (list_all test) step ∙ list_all-append test so_far (one ∷ []) ∙ ap (λ b. list_all test so_far && (b && true)) never ∙ and-false (list_all test so_far))

pub length-parts_in : (fragment count : ℕ) (octets : List ℕ) → length (data_frag.parts_in fragment count octets) ≡ count
length-parts_in fragment zero octets = refl
length-parts_in fragment (suc count) octets = ap suc (length-parts_in fragment count (drop fragment octets))
