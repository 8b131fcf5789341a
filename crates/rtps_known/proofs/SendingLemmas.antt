-- What is kept of the numbers that are sent, and of those that are asked for.
use Rattle.std.proofs.Common.{◌≡◌, ◌∙◌, ℕ, ◌≤◌, ◌<◌, ◌+◌, Bool, true, false, ◌||◌, ◌&&◌, ◌==◌, List, ◌∷◌, Option, Some, None, ap, ap₂, arith, cond, nat_lt, not, refl, subst, sym, unwrap_or}
use Rattle.std.specs.BTreeMap.{BTreeMap, get, is_at}
use Rattle.std.specs.Cmp.{both_tied, unsigned_ties}
use Rattle.std.specs.Cmp.Lexicographic.{texts_ties}
use Rattle.std.specs.List.{list_any}
use Rattle.std.specs.Option.{is_some, option_cmp, option_or}
use Rattle.std.specs.Ordering.{is_eq, nat_cmp}
use Rattle.std.proofs.lemmas.Bool.{false≢true}
use Rattle.std.proofs.lemmas.Bool.Decides.{nat_tests}
use Rattle.std.proofs.lemmas.Map.Text.{is_eq-slice_cmp}
use Rattle.std.proofs.lemmas.Map.Views.{tells_apart}
use Rattle.rtps_ids.specs.declared.identity.GuidPrefix.{GuidPrefix}
use Rattle.rtps_receiver.specs.Said as said
use Rattle.rtps_receiver.specs.Speech as speech
use Rattle.rtps_receiver.specs.Values as values
use Rattle.rtps_known.specs.Bulletins as bulletins
use Rattle.rtps_known.specs.Spreads as spreads
use Rattle.rtps_known.specs.Tellings as tellings
use Rattle.rtps_known.specs.declared.place.Place.{Place}
use Rattle.rtps_known.specs.declared.sending.Sending.{Sending}
use Rattle.rtps_known.proofs.BoolLemmas.{and_none}
use Rattle.rtps_known.proofs.OrderLemmas.{exact_prefixes, exact_sendings, one_prefix}

-- ---- keys that are the same

-- the same are sent it
abbrev same_dest : Option GuidPrefix → Option GuidPrefix → Bool
same_dest None None = true
same_dest None (Some b) = false
same_dest (Some a) None = false
same_dest (Some a) (Some b) = speech.is_prefix a b

dest_ties : (a b : Option GuidPrefix) → same_dest a b ≡ is_eq (option_cmp bulletins.prefix_cmp a b)
dest_ties None None = refl
dest_ties None (Some b) = refl
dest_ties (Some a) None = refl
dest_ties (Some a) (Some b) = texts_ties a.0 b.0

keys_alike : (m n : ℕ) (a b : Option GuidPrefix) → is_at (spreads.sending_cmp (spreads.sending m a)) (spreads.sending n b) ≡ ((m == n) && same_dest a b)
keys_alike m n a b = sym (both_tied (m == n) (same_dest a b) (nat_cmp m n) (option_cmp bulletins.prefix_cmp a b) (unsigned_ties m n) (dest_ties a b))

swap : (m n : ℕ) → (m == n) ≡ (n == m)
swap m n = grind (arith, nat_tests)

same_number : (m n : ℕ) → (m == n) ≡ true → m ≡ n
same_number m n e = grind (arith, nat_tests, e)

swap_prefix : (a b : GuidPrefix) → speech.is_prefix a b ≡ speech.is_prefix b a
swap_prefix a b = by (speech.is_prefix a b) (speech.is_prefix b a) refl refl
  where
    by : (x y : Bool) → speech.is_prefix a b ≡ x → speech.is_prefix b a ≡ y → x ≡ y
    by true true e f = refl
    by false false e f = refl
    by true false e f = let P : GuidPrefix → Type 0 = λ c. speech.is_prefix c a ≡ speech.is_prefix a c in sym (subst P (one_prefix a b e) refl ∙ e) ∙ f
    by false true e f = let P : GuidPrefix → Type 0 = λ c. speech.is_prefix c b ≡ speech.is_prefix b c in sym e ∙ subst P (one_prefix b a f) refl ∙ f

-- ---- where a number is sent first

nothing_more : {X : Type 0} (kept : Option X) → kept ≡ option_or kept None
nothing_more None = refl
nothing_more (Some kept) = refl

full : (o more : Option Place) → is_some o ≡ true → o ≡ option_or o more
full (Some place) more e = refl
full None more e = absurd (false≢true e)

either : (a b : Option Place) → (is_some a || is_some b) ≡ true → is_some (option_or a b) ≡ true
either (Some a) b e = refl
either None b e = e

right : (a b : Option Place) → (is_some b || is_some b) ≡ true → is_some (option_or a b) ≡ true
right (Some a) b e = refl
right None (Some b) e = refl
right None None e = absurd (false≢true e)

left_none : (a b : Bool) → (a || b) ≡ false → a ≡ false
left_none false b e = refl
left_none true b e = e

right_none : (a b : Bool) → (a || b) ≡ false → b ≡ false
right_none false b e = e
right_none true b e = absurd (false≢true (sym e))

-- a number that was sent before
pub sent_before : (sent : BTreeMap Sending Place) (m : ℕ) (dest : Option GuidPrefix) (place : Place)
    → (is_some (get spreads.sending_cmp sent (spreads.sending m dest)) || is_some (get spreads.sending_cmp sent (spreads.sending m None))) ≡ true → (prefix : GuidPrefix) (n : ℕ)
    → spreads.first_kept sent prefix n ≡ option_or (spreads.first_kept sent prefix n) (cond ((n == m) && tellings.is_to dest prefix) (Some place) None)
sent_before sent m dest place was prefix n = by (n == m) refl
  where
    at : (dest : Option GuidPrefix) → (is_some (get spreads.sending_cmp sent (spreads.sending m dest)) || is_some (get spreads.sending_cmp sent (spreads.sending m None))) ≡ true
        → spreads.first_kept sent prefix m ≡ option_or (spreads.first_kept sent prefix m) (cond (tellings.is_to dest prefix) (Some place) None)
    at None was = full (spreads.first_kept sent prefix m) (Some place) (right (get spreads.sending_cmp sent (spreads.sending m (Some prefix))) (get spreads.sending_cmp sent (spreads.sending m None)) was)
    at (Some q) was = here (speech.is_prefix q prefix) refl
      where
        here : (same : Bool) → speech.is_prefix q prefix ≡ same → spreads.first_kept sent prefix m ≡ option_or (spreads.first_kept sent prefix m) (cond same (Some place) None)
        here false e = nothing_more (spreads.first_kept sent prefix m)
        here true e =
            let P : GuidPrefix → Type 0 = λ p. (is_some (get spreads.sending_cmp sent (spreads.sending m (Some p))) || is_some (get spreads.sending_cmp sent (spreads.sending m None))) ≡ true in
            full (spreads.first_kept sent prefix m) (Some place) (either (get spreads.sending_cmp sent (spreads.sending m (Some prefix))) (get spreads.sending_cmp sent (spreads.sending m None)) (subst P (one_prefix q prefix e) was))

    by : (same : Bool) → (n == m) ≡ same → spreads.first_kept sent prefix n ≡ option_or (spreads.first_kept sent prefix n) (cond (same && tellings.is_to dest prefix) (Some place) None)
    by false e = nothing_more (spreads.first_kept sent prefix n)
    by true e =
        let P : ℕ → Type 0 = λ k. spreads.first_kept sent prefix k ≡ option_or (spreads.first_kept sent prefix k) (cond (tellings.is_to dest prefix) (Some place) None) in
        subst P (sym (same_number n m e)) (at dest was)

-- one that was not
pub sent_now : (old new : BTreeMap Sending Place) (m : ℕ) (dest : Option GuidPrefix) (place : Place)
    → (is_some (get spreads.sending_cmp old (spreads.sending m dest)) || is_some (get spreads.sending_cmp old (spreads.sending m None))) ≡ false
    → ((other : Sending) → get spreads.sending_cmp new other ≡ cond (is_at (spreads.sending_cmp (spreads.sending m dest)) other) (Some place) (get spreads.sending_cmp old other)) → (prefix : GuidPrefix) (n : ℕ)
    → spreads.first_kept new prefix n ≡ option_or (spreads.first_kept old prefix n) (cond ((n == m) && tellings.is_to dest prefix) (Some place) None)
sent_now old new m dest place absent updates prefix n =
    ap₂ option_or (at (Some prefix)) (at None) ∙ by (n == m) refl dest absent
  where
    own : Option Place
    own = get spreads.sending_cmp old (spreads.sending n (Some prefix))

    all : Option Place
    all = get spreads.sending_cmp old (spreads.sending n None)

    at : (to : Option GuidPrefix) → get spreads.sending_cmp new (spreads.sending n to) ≡ cond ((n == m) && same_dest dest to) (Some place) (get spreads.sending_cmp old (spreads.sending n to))
    at to =
        updates (spreads.sending n to)
        ∙ ap (λ b. cond b (Some place) (get spreads.sending_cmp old (spreads.sending n to))) (keys_alike m n dest to ∙ ap (λ b. b && same_dest dest to) (swap m n))

    last : (x y : Option Place) → is_some y ≡ false → option_or x (Some place) ≡ option_or (option_or x y) (Some place)
    last (Some x) y e = refl
    last None None e = refl
    last None (Some y) e = absurd (false≢true (sym e))

    both : (x y : Option Place) → is_some x ≡ false → is_some y ≡ false → Some place ≡ option_or (option_or x y) (Some place)
    both None None e f = refl
    both (Some x) y e f = absurd (false≢true (sym e))
    both None (Some y) e f = absurd (false≢true (sym f))

    by : (same : Bool) → (n == m) ≡ same → (dest : Option GuidPrefix)
        → (is_some (get spreads.sending_cmp old (spreads.sending m dest)) || is_some (get spreads.sending_cmp old (spreads.sending m None))) ≡ false
        → option_or (cond (same && same_dest dest (Some prefix)) (Some place) own) (cond (same && same_dest dest None) (Some place) all)
        ≡ option_or (option_or own all) (cond (same && tellings.is_to dest prefix) (Some place) None)
    by false e dest absent = nothing_more (option_or own all)
    by true e None absent =
        let P : ℕ → Type 0 = λ k. is_some (get spreads.sending_cmp old (spreads.sending k None)) ≡ false in
        last own all (subst P (sym (same_number n m e)) (right_none _ _ absent))
    by true e (Some q) absent = here (speech.is_prefix q prefix) refl
      where
        here : (one : Bool) → speech.is_prefix q prefix ≡ one → option_or (cond one (Some place) own) all ≡ option_or (option_or own all) (cond one (Some place) None)
        here false f = nothing_more (option_or own all)
        here true f =
            let P : ℕ → Type 0 = λ k. is_some (get spreads.sending_cmp old (spreads.sending k None)) ≡ false in
            let Q : ℕ → Type 0 = λ k. is_some (get spreads.sending_cmp old (spreads.sending k (Some prefix))) ≡ false in
            let R : GuidPrefix → Type 0 = λ p. is_some (get spreads.sending_cmp old (spreads.sending m (Some p))) ≡ false in
            both own all (subst Q (sym (same_number n m e)) (subst R (one_prefix q prefix f) (left_none _ _ absent))) (subst P (sym (same_number n m e)) (right_none _ _ absent))

-- ---- where it is sent again

some_unwrap : (was : Option Place) (place : Place) → Some (unwrap_or was place) ≡ option_or was (Some place)
some_unwrap None place = refl
some_unwrap (Some was) place = refl

pub fill_some : (old new : Sending → Option (Option Place)) (key : Sending) (place kept : Place) (was : Option Place) → kept ≡ unwrap_or was place
    → old key ≡ Some was → ((other : Sending) → new other ≡ cond (is_at (spreads.sending_cmp key) other) (Some (Some kept)) (old other)) → (other : Sending)
    → new other ≡ spreads.filled (is_at (spreads.sending_cmp key) other) place (old other)
fill_some old new key place kept was is there updates other = updates other ∙ by (is_at (spreads.sending_cmp key) other) refl
  where
    by : (same : Bool) → is_at (spreads.sending_cmp key) other ≡ same → cond same (Some (Some kept)) (old other) ≡ spreads.filled same place (old other)
    by false e = refl
    by true e = ap (λ p. Some (Some p)) is ∙ ap Some (some_unwrap was place) ∙ ap (λ o. spreads.filled true place o) (sym there ∙ ap old (tells_apart exact_sendings key other e))

pub fill_none : (old : Sending → Option (Option Place)) (key : Sending) (place : Place) → old key ≡ None → (other : Sending)
    → old other ≡ spreads.filled (is_at (spreads.sending_cmp key) other) place (old other)
fill_none old key place none other = by (is_at (spreads.sending_cmp key) other) refl
  where
    by : (same : Bool) → is_at (spreads.sending_cmp key) other ≡ same → old other ≡ spreads.filled same place (old other)
    by false e = refl
    by true e = sym there ∙ ap (λ o. spreads.filled true place o) there
      where
        there : None ≡ old other
        there = sym none ∙ ap old (tells_apart exact_sendings key other e)

pub filled_none : (place : Place) (kept : Option (Option Place)) (may hears : Bool) → kept ≡ spreads.filled (may && (hears && false)) place kept
filled_none place kept true true = refl
filled_none place kept true false = refl
filled_none place kept false hears = refl

filled_twice : (place : Place) (kept : Option (Option Place)) (may hears this rest : Bool)
    → spreads.filled (may && (hears && rest)) place (spreads.filled (may && (hears && this)) place kept) ≡ spreads.filled (may && (hears && (this || rest))) place kept
filled_twice place kept false hears this rest = refl
filled_twice place kept true false this rest = refl
filled_twice place kept true true false rest = refl
filled_twice place kept true true true false = refl
filled_twice place None true true true true = refl
filled_twice place (Some None) true true true true = refl
filled_twice place (Some (Some was)) true true true true = refl

-- those who ask, without the first one, and then with it
pub again_more : (bases : BTreeMap GuidPrefix ℕ) (sent : Sending) (place : Place) (old new : BTreeMap Sending (Option Place)) (x : GuidPrefix) (rest : List GuidPrefix) (may : Bool)
    → may ≡ (tellings.is_to sent.dest x && not (nat_lt sent.number (spreads.base_kept bases x)))
    → ((other : Sending) → get spreads.sending_cmp new other ≡ spreads.filled (may && is_at (spreads.sending_cmp (spreads.sending sent.number (Some x))) other) place (get spreads.sending_cmp old other))
    → (prefix : GuidPrefix) (n : ℕ)
    → spreads.filled (not (nat_lt n (spreads.base_kept bases prefix)) && (spreads.hears_by sent prefix n && list_any (is_at (bulletins.prefix_cmp prefix)) rest)) place (spreads.again_kept new prefix n)
    ≡ spreads.filled (not (nat_lt n (spreads.base_kept bases prefix)) && (spreads.hears_by sent prefix n && list_any (is_at (bulletins.prefix_cmp prefix)) (x ∷ rest))) place (spreads.again_kept old prefix n)
again_more bases sent place old new x rest may is updates prefix n =
    ap (λ o. spreads.filled (unclaimed n prefix && (spreads.hears_by sent prefix n && list_any (is_at (bulletins.prefix_cmp prefix)) rest)) place o)
    (updates (spreads.sending n (Some prefix)) ∙ ap (λ b. spreads.filled b place (spreads.again_kept old prefix n)) test)
    ∙ filled_twice place (spreads.again_kept old prefix n) (unclaimed n prefix) (spreads.hears_by sent prefix n) (is_at (bulletins.prefix_cmp prefix) x) (list_any (is_at (bulletins.prefix_cmp prefix)) rest)
  where
    unclaimed : ℕ → GuidPrefix → Bool
    unclaimed k p = not (nat_lt k (spreads.base_kept bases p))

    shuffle : (to un : Bool) → ((to && un) && true) ≡ (un && (to && true))
    shuffle true true = refl
    shuffle true false = refl
    shuffle false true = refl
    shuffle false false = refl

    none_left : (a : Bool) → (a && false) ≡ false
    none_left a = and_none a

    none_right : (a b : Bool) → false ≡ (a && (b && false))
    none_right true true = refl
    none_right true false = refl
    none_right false b = refl

    none_middle : (a b : Bool) → false ≡ (a && (false && b))
    none_middle true b = refl
    none_middle false b = refl

    by : (same one : Bool) → (n == sent.number) ≡ same → speech.is_prefix x prefix ≡ one
        → ((tellings.is_to sent.dest x && unclaimed sent.number x) && (same && one)) ≡ (unclaimed n prefix && ((same && tellings.is_to sent.dest prefix) && one))
    by true true e f =
        let P : ℕ → Type 0 = λ k. ((tellings.is_to sent.dest prefix && unclaimed k prefix) && true) ≡ (unclaimed n prefix && (tellings.is_to sent.dest prefix && true)) in
        let Q : GuidPrefix → Type 0 = λ p. ((tellings.is_to sent.dest p && unclaimed sent.number p) && true) ≡ (unclaimed n prefix && (tellings.is_to sent.dest prefix && true)) in
        subst Q (sym (one_prefix x prefix f)) (subst P (same_number n sent.number e) (shuffle (tellings.is_to sent.dest prefix) (unclaimed n prefix)))
    by true false e f = none_left (tellings.is_to sent.dest x && unclaimed sent.number x) ∙ none_right (unclaimed n prefix) (tellings.is_to sent.dest prefix)
    by false one e f = none_left (tellings.is_to sent.dest x && unclaimed sent.number x) ∙ none_middle (unclaimed n prefix) one

    test : (may && is_at (spreads.sending_cmp (spreads.sending sent.number (Some x))) (spreads.sending n (Some prefix))) ≡ (unclaimed n prefix && (spreads.hears_by sent prefix n && is_at (bulletins.prefix_cmp prefix) x))
    test =
        ap₂ (λ (a b : Bool). a && b) is (keys_alike sent.number n (Some x) (Some prefix) ∙ ap (λ b. b && speech.is_prefix x prefix) (swap sent.number n))
        ∙ by (n == sent.number) (speech.is_prefix x prefix) refl refl
        ∙ ap (λ b. unclaimed n prefix && (spreads.hears_by sent prefix n && b)) (swap_prefix x prefix ∙ sym (is_eq-slice_cmp prefix.0 x.0))

-- ---- what is asked for

-- nobody is opened where a number is not asked for
unasked : (here un own first : Bool) → false ≡ (here && (un && ((own && false) && first)))
unasked true true true first = refl
unasked true true false first = refl
unasked true false own first = refl
unasked false un own first = refl

pub asked_more : (sent : BTreeMap Sending Place) (bases : BTreeMap GuidPrefix ℕ) (act : values.ActValue) (old now new : BTreeMap Sending (Option Place)) (number : ℕ) (may : Bool)
    → may ≡ ((said.said act.body).lacked number && (not (nat_lt number (spreads.base_kept bases act.source)) && is_some (spreads.first_kept sent act.source number)))
    → ((other : Sending) → get spreads.sending_cmp new other ≡ cond (may && is_at (spreads.sending_cmp (spreads.sending number (Some act.source))) other) (Some None) (get spreads.sending_cmp now other))
    → ((prefix : GuidPrefix) (n : ℕ) → spreads.again_kept now prefix n ≡ cond (nat_lt n number && spreads.opens sent bases act prefix n) (Some None) (spreads.again_kept old prefix n))
    → (prefix : GuidPrefix) (n : ℕ) → spreads.again_kept new prefix n ≡ cond (nat_lt n (number + 1) && spreads.opens sent bases act prefix n) (Some None) (spreads.again_kept old prefix n)
asked_more sent bases act old now new number may is updates so_far prefix n =
    updates (spreads.sending n (Some prefix))
    ∙ ap₂ (λ (b : Bool) (o : Option (Option Place)). cond b (Some None) o)
    (ap₂ (λ (a b : Bool). a && b) is (keys_alike number n (Some act.source) (Some prefix) ∙ ap (λ b. b && speech.is_prefix act.source prefix) (swap number n))) (so_far prefix n)
    ∙ by (n == number) refl
  where
    kept : Option (Option Place)
    kept = spreads.again_kept old prefix n

    asks : ℕ → GuidPrefix → Bool
    asks k p = (said.said act.body).lacked k && (not (nat_lt k (spreads.base_kept bases p)) && is_some (spreads.first_kept sent p k))

    shuffle : (lacked un first : Bool) → ((lacked && (un && first)) && true) ≡ (un && ((true && lacked) && first))
    shuffle true true first = sym (all first)
      where
        all : (b : Bool) → b ≡ (b && true)
        all true = refl
        all false = refl
    shuffle true false first = refl
    shuffle false true first = refl
    shuffle false false first = refl

    none : (un lacked first : Bool) → false ≡ (un && ((false && lacked) && first))
    none true lacked first = refl
    none false lacked first = refl

    here : (own : Bool) → speech.is_prefix act.source prefix ≡ own → n ≡ number
        → (asks number act.source && own) ≡ (not (nat_lt n (spreads.base_kept bases prefix)) && ((own && (said.said act.body).lacked n) && is_some (spreads.first_kept sent prefix n)))
    here true e same =
        let P : ℕ → Type 0 = λ k. (asks k prefix && true) ≡ (not (nat_lt n (spreads.base_kept bases prefix)) && ((true && (said.said act.body).lacked n) && is_some (spreads.first_kept sent prefix n))) in
        let Q : GuidPrefix → Type 0 = λ p. (asks number p && true) ≡ (not (nat_lt n (spreads.base_kept bases prefix)) && ((true && (said.said act.body).lacked n) && is_some (spreads.first_kept sent prefix n))) in
        subst Q (sym (one_prefix act.source prefix e))
        (subst P same (shuffle ((said.said act.body).lacked n) (not (nat_lt n (spreads.base_kept bases prefix))) (is_some (spreads.first_kept sent prefix n))))
    here false e same = and_none (asks number act.source) ∙ none (not (nat_lt n (spreads.base_kept bases prefix))) ((said.said act.body).lacked n) (is_some (spreads.first_kept sent prefix n))

    by : (same : Bool) → (n == number) ≡ same
        → cond (asks number act.source && (same && speech.is_prefix act.source prefix)) (Some None) (cond (nat_lt n number && spreads.opens sent bases act prefix n) (Some None) kept)
        ≡ cond (nat_lt n (number + 1) && spreads.opens sent bases act prefix n) (Some None) kept
    by true e =
        let same : n ≡ number = same_number n number e in
        let before : nat_lt n number ≡ false = grind (arith, nat_tests, same) in
        let after : nat_lt n (number + 1) ≡ true = grind (arith, nat_tests, same) in
        ap₂ (λ (a b : Bool). cond a (Some None) (cond (b && spreads.opens sent bases act prefix n) (Some None) kept)) (here (speech.is_prefix act.source prefix) refl same) before
        ∙ ap (λ b. cond (b && spreads.opens sent bases act prefix n) (Some None) kept) (sym after)
    by false e =
        let stays : nat_lt n number ≡ nat_lt n (number + 1) = grind (arith, nat_tests, e) in
        ap₂ (λ (a b : Bool). cond a (Some None) (cond (b && spreads.opens sent bases act prefix n) (Some None) kept)) (and_none (asks number act.source)) stays

pub asked_none : (sent : BTreeMap Sending Place) (bases : BTreeMap GuidPrefix ℕ) (act : values.ActValue) (old : BTreeMap Sending (Option Place)) (lo hi : ℕ)
    → ((n : ℕ) → (said.said act.body).lacked n ≡ true → (lo ≤ n) × (n < hi)) → (prefix : GuidPrefix) (n : ℕ)
    → spreads.again_kept old prefix n ≡ cond (nat_lt n lo && spreads.opens sent bases act prefix n) (Some None) (spreads.again_kept old prefix n)
asked_none sent bases act old lo hi among prefix n = by ((said.said act.body).lacked n) refl
  where
    by : (lacked : Bool) → (said.said act.body).lacked n ≡ lacked
        → spreads.again_kept old prefix n
        ≡ cond (nat_lt n lo && (not (nat_lt n (spreads.base_kept bases prefix)) && ((speech.is_prefix act.source prefix && lacked) && is_some (spreads.first_kept sent prefix n)))) (Some None) (spreads.again_kept old prefix n)
    by true e =
        let from = (among n e).0 in
        let outside : false ≡ nat_lt n lo = grind (arith, nat_tests, from) in
        ap (λ b. cond (b && (not (nat_lt n (spreads.base_kept bases prefix)) && ((speech.is_prefix act.source prefix && true) && is_some (spreads.first_kept sent prefix n)))) (Some None) (spreads.again_kept old prefix n)) outside
    by false e =
        ap (λ b. cond b (Some None) (spreads.again_kept old prefix n))
        (unasked (nat_lt n lo) (not (nat_lt n (spreads.base_kept bases prefix))) (speech.is_prefix act.source prefix) (is_some (spreads.first_kept sent prefix n)))

pub asked_all : (sent : BTreeMap Sending Place) (bases : BTreeMap GuidPrefix ℕ) (act : values.ActValue) (old new : BTreeMap Sending (Option Place)) (lo hi number : ℕ) → hi ≤ number
    → ((n : ℕ) → (said.said act.body).lacked n ≡ true → (lo ≤ n) × (n < hi))
    → ((prefix : GuidPrefix) (n : ℕ) → spreads.again_kept new prefix n ≡ cond (nat_lt n number && spreads.opens sent bases act prefix n) (Some None) (spreads.again_kept old prefix n))
    → (prefix : GuidPrefix) (n : ℕ) → spreads.again_kept new prefix n ≡ cond (spreads.opens sent bases act prefix n) (Some None) (spreads.again_kept old prefix n)
asked_all sent bases act old new lo hi number past among all prefix n =
    all prefix n ∙ by ((said.said act.body).lacked n) refl
  where
    by : (lacked : Bool) → (said.said act.body).lacked n ≡ lacked
        → cond (nat_lt n number && (not (nat_lt n (spreads.base_kept bases prefix)) && ((speech.is_prefix act.source prefix && lacked) && is_some (spreads.first_kept sent prefix n)))) (Some None) (spreads.again_kept old prefix n)
        ≡ cond (not (nat_lt n (spreads.base_kept bases prefix)) && ((speech.is_prefix act.source prefix && lacked) && is_some (spreads.first_kept sent prefix n))) (Some None) (spreads.again_kept old prefix n)
    by true e =
        let to = (among n e).1 in
        let inside : nat_lt n number ≡ true = grind (arith, nat_tests, to, past) in
        ap (λ b. cond (b && (not (nat_lt n (spreads.base_kept bases prefix)) && ((speech.is_prefix act.source prefix && true) && is_some (spreads.first_kept sent prefix n)))) (Some None) (spreads.again_kept old prefix n)) inside
    by false e =
        ap (λ b. cond b (Some None) (spreads.again_kept old prefix n))
        (sym (unasked (nat_lt n number) (not (nat_lt n (spreads.base_kept bases prefix))) (speech.is_prefix act.source prefix) (is_some (spreads.first_kept sent prefix n)))
        ∙ unasked true (not (nat_lt n (spreads.base_kept bases prefix))) (speech.is_prefix act.source prefix) (is_some (spreads.first_kept sent prefix n)))

-- who asks is among those who do
pub asker_kept : (act : values.ActValue) (prefix : GuidPrefix) (n lo hi : ℕ) (was now : Bool) → ((n : ℕ) → (said.said act.body).lacked n ≡ true → (lo ≤ n) × (n < hi))
    → now ≡ (was || (speech.is_prefix prefix act.source && nat_lt lo hi)) → spreads.asks_by act prefix n ≡ true → now ≡ true
asker_kept act prefix n lo hi was now among is asks =
    is ∙ ap (λ b. was || (b && nat_lt lo hi)) (swap_prefix prefix act.source) ∙ by (speech.is_prefix act.source prefix) ((said.said act.body).lacked n) refl asks
  where
    or_true : (b : Bool) → (b || true) ≡ true
    or_true true = refl
    or_true false = refl

    by : (own lacked : Bool) → (said.said act.body).lacked n ≡ lacked → (own && lacked) ≡ true → (was || (own && nat_lt lo hi)) ≡ true
    by true true e so =
        let from = (among n e).0 in
        let to = (among n e).1 in
        let inside : nat_lt lo hi ≡ true = grind (arith, nat_tests, from, to) in
        ap (λ b. was || b) inside ∙ or_true was
    by true false e so = absurd (false≢true so)
    by false lacked e so = absurd (false≢true so)
