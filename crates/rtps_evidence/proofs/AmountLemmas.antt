-- How many numbers have a payload, are gone, or have no word, by the counts of stretches.
use Rattle.std.proofs.Common.{◌≡◌, ℕ, ◌+◌, ◌-◌, ◌≤◌, Bool, true, false, refl, ap, sym, ◌∙◌, arith, ◌||◌, ◌&&◌, min, nat_le, nat_lt, List, [], ◌∷◌, not, Option, None, Some}
use Rattle.std.specs.Prelude.{is_some}
use Rattle.std.specs.List.{list_any}
use Rattle.rtps_ids.specs.declared.identity.Guid.{Guid}
use Rattle.std.proofs.lemmas.Bool.Decides.{nat_tests}
use Rattle.rtps_receiver.specs.Said as said
use Rattle.rtps_receiver.specs.declared.said.Numbers.{Numbers}
use Rattle.rtps_receiver.proofs.Offered.{below, range_more}
use Rattle.rtps_coverage.specs.Counts as counts
use Rattle.rtps_coverage.specs.Stretches as stretches
use Rattle.rtps_coverage.specs.declared.stretch.Stretch.{Stretch}
use Rattle.rtps_coverage.proofs.Offered.{count_others, count_rest, count_same}
use Rattle.rtps_audit.specs.Delivery as delivery
use Rattle.rtps_audit.specs.Placed as placed
use Rattle.rtps_audit.specs.Speech as speech
use Rattle.rtps_evidence.specs.Amount as amount
use Rattle.rtps_evidence.specs.Locations as locations

-- ---- a range more

-- of the numbers from `from` on
pub from_more : (numbers : Numbers) (from at lo hi n : ℕ) (old : Bool) → from ≤ at → said.IsRangeOf numbers at lo hi
    → ((old || (nat_le from n && below (said.numbers_have numbers) at n)) || (nat_le lo n && nat_lt n hi)) ≡ (old || (nat_le from n && below (said.numbers_have numbers) hi n))
from_more numbers from at lo hi n old le range =
    apart old (nat_le from n) (below (said.numbers_have numbers) at n) (nat_le lo n && nat_lt n hi) inside ∙ ap (λ b. old || (nat_le from n && b)) (sym (range_more numbers at lo hi range n))
  where
    inside : (nat_le lo n && nat_lt n hi) ≡ true → nat_le from n ≡ true
    inside is = let onward = range.onward in grind (arith, nat_tests, onward)

    apart : (o f b r : Bool) → (r ≡ true → f ≡ true) → ((o || (f && b)) || r) ≡ (o || (f && (b || r)))
    apart true f b r h = refl
    apart false true b r h = refl
    apart false false b true h = absurd (let no : false ≡ true = h refl in cc)
    apart false false b false h = refl

-- of the numbers below an end
pub below_more : (numbers : Numbers) (end at lo hi n : ℕ) (old : Bool) → said.IsRangeOf numbers at lo hi
    → ((old || (nat_lt n end && below (said.numbers_have numbers) at n)) || (nat_le lo n && nat_lt n (min hi end))) ≡ (old || (nat_lt n end && below (said.numbers_have numbers) hi n))
below_more numbers end at lo hi n old range =
    ap (λ b. (old || (nat_lt n end && below (said.numbers_have numbers) at n)) || (nat_le lo n && b)) both
    ∙ apart old (nat_lt n end) (below (said.numbers_have numbers) at n) (nat_le lo n) (nat_lt n hi)
    ∙ ap (λ b. old || (nat_lt n end && b)) (sym (range_more numbers at lo hi range n))
  where
    both : nat_lt n (min hi end) ≡ (nat_lt n hi && nat_lt n end)
    both = grind (arith, nat_tests)

    apart : (o e b l h : Bool) → ((o || (e && b)) || (l && (h && e))) ≡ (o || (e && (b || (l && h))))
    apart true e b l h = refl
    apart false false b false h = refl
    apart false false b true false = refl
    apart false false b true true = refl
    apart false true b l false = refl
    apart false true b l true = refl

-- ---- a number before its claim, or behind that

pub sent_apart : (claimed n : ℕ) (e l s : Bool) → ((e || (nat_le claimed n && s)) || (l || (nat_lt n claimed && s))) ≡ ((e || l) || s)
sent_apart claimed n e l s = grind (arith, nat_tests)

pub gone_apart : (claimed n : ℕ) (t g p w : Bool) → ((t || (g || (nat_le claimed n && w))) || (p || (nat_lt n claimed && w))) ≡ (((t || g) || p) || w)
gone_apart claimed n t g p w = grind (arith, nat_tests)

pub told_apart : (claimed n : ℕ) (t g p s w told : Bool) → (w || s) ≡ told → (((t || s) || (g || (nat_le claimed n && w))) || (p || (nat_lt n claimed && w))) ≡ (((t || g) || p) || told)
told_apart claimed n t g p s w told is = gone_apart claimed n (t || s) g p w ∙ moved t g p s w ∙ ap (λ b. ((t || g) || p) || b) is
  where
    moved : (t g p s w : Bool) → ((((t || s) || g) || p) || w) ≡ (((t || g) || p) || (w || s))
    moved t g p s w = grind (arith, nat_tests)

-- ---- nothing was heard

pub none_sent : (early late : List Stretch) (n : ℕ) → early ≡ [] → late ≡ [] → (stretches.stretches_have early n || stretches.stretches_have late n) ≡ false
none_sent early late n e l = ap (λ s. stretches.stretches_have s n || stretches.stretches_have late n) e ∙ ap (λ s. stretches.stretches_have s n) l

pub none_kept : (early late gone gone_late : List Stretch) (n : ℕ) → early ≡ [] → late ≡ [] → gone ≡ [] → gone_late ≡ []
    → (((stretches.stretches_have early n || stretches.stretches_have late n) || stretches.stretches_have gone n) || stretches.stretches_have gone_late n) ≡ false
none_kept early late gone gone_late n e l g p =
    ap (λ b. (b || stretches.stretches_have gone n) || stretches.stretches_have gone_late n) (none_sent early late n e l)
    ∙ ap (λ s. stretches.stretches_have s n || stretches.stretches_have gone_late n) g
    ∙ ap (λ s. stretches.stretches_have s n) p

-- ---- payloads among words

any_weaker : {X : Type 0} (p q : X → Bool) → ((x : X) → p x ≡ true → q x ≡ true) → (xs : List X) → list_any p xs ≡ true → list_any q xs ≡ true
any_weaker p q h [] e = e
any_weaker p q h (x ∷ xs) e = either (p x) (q x) (list_any p xs) (list_any q xs) (h x) (any_weaker p q h xs) e
  where
    either : (a b c d : Bool) → (a ≡ true → b ≡ true) → (c ≡ true → d ≡ true) → (a || c) ≡ true → (b || d) ≡ true
    either true true c d f g e = refl
    either true false c d f g e = let bad = f refl in cc
    either false true c d f g e = refl
    either false false c d f g e = g e

-- a number that has a payload has a word
pub sent_is_told : (writer reader : Guid) (acts : List placed.PlacedValue) (n : ℕ) → amount.is_sent writer reader acts n ≡ true → amount.is_told writer reader acts n ≡ true
sent_is_told writer reader acts n = any_weaker (locations.sends writer reader n) (locations.tells writer reader n) (λ placed. by_word (speech.word_for writer reader placed.act n)) acts
  where
    by_word : (word : Option delivery.Word) → is_some (locations.payload_in word) ≡ true → is_some word ≡ true
    by_word None e = e
    by_word (Some word) e = refl

-- the amounts, by the counts of the stretches
pub amounts_counted : (from last : ℕ) (writer reader : Guid) (acts : List placed.PlacedValue) (sent_has told_has : ℕ → Bool) (payloads told : ℕ)
    → ((n : ℕ) → sent_has n ≡ amount.is_sent writer reader acts n) → ((n : ℕ) → told_has n ≡ amount.is_told writer reader acts n)
    → payloads ≡ counts.count_in sent_has from (last + 1) → told ≡ counts.count_in told_has from (last + 1)
    → amount.AreAmounts from last writer reader acts (record { payloads = payloads; gone = told - payloads; untold = last + 1 - from - told })
amounts_counted from last writer reader acts sent_has told_has payloads told sent_is told_is payloads_is told_counted =
    let a : payloads ≡ counts.count_in (amount.is_sent writer reader acts) from (last + 1) = payloads_is ∙ count_same sent_has (amount.is_sent writer reader acts) from (last + 1) (λ n x y. sent_is n) in
    let b : told ≡ counts.count_in (amount.is_told writer reader acts) from (last + 1) = told_counted ∙ count_same told_has (amount.is_told writer reader acts) from (last + 1) (λ n x y. told_is n) in
    let rest : counts.count_in (amount.is_told writer reader acts) from (last + 1) ≡ counts.count_in (amount.is_sent writer reader acts) from (last + 1) + counts.count_in (λ n. amount.is_told writer reader acts n && not (amount.is_sent writer reader acts n)) from (last + 1) =
    count_rest (amount.is_sent writer reader acts) (amount.is_told writer reader acts) from (last + 1) (sent_is_told writer reader acts) in
    let others : last + 1 - from ≡ counts.count_in (amount.is_told writer reader acts) from (last + 1) + counts.count_in (λ n. not (amount.is_told writer reader acts n)) from (last + 1) =
    count_others (amount.is_told writer reader acts) from (last + 1) in
    record { payloads = a; gone = omega arith; untold = omega arith }
