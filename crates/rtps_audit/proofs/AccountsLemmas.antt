-- What the accounts of a writer have after one act more, and after one answer more, and what is known at the end.
use Rattle.std.proofs.Common.{◌≡◌, ℕ, zero, suc, ◌-◌, ◌<◌, ◌≤◌, ◌^◌, Bool, true, false, ◌&&◌, cond, eq-eqb, filter, List, [], ◌∷◌, ◌++◌, append-nil, get_or, length, map, max, set, take, Some, None, ◌⊎◌, inl, inr, refl, sym, ap, ◌∙◌, subst, arith}
use Rattle.std.specs.Prelude.{◌==◌, if◌then◌else◌, unwrap_or}
use Rattle.std.specs.List.{All, AllWithin, HoldsAt, filter_map}
use Rattle.std.specs.List.Sorted.{IsNonDecreasingBy}
use Rattle.std.proofs.lemmas.Bool.{cases_lt, or_left, or_right}
use Rattle.std.proofs.lemmas.Bool.Decides.{nat_tests}
use Rattle.std.proofs.lemmas.List.{get_or-map, get_or-set_other, get_or-set_same, get_or-take, length-map, length-set, length-take-le}
use Rattle.std.proofs.lemmas.List.Elements.{All-cons, All-map, All-nil, All-push, All-weaker, Contains-push_cases, filter_map-append}
use Rattle.rtps_ids.specs.declared.identity.Guid.{Guid}
use Rattle.rtps_wire.specs.Values as wire_values
use Rattle.rtps_coverage.specs.MergedRanges as merged_ranges
use Rattle.rtps_receiver.specs.Speech as receiver_speech
use Rattle.rtps_receiver.specs.Values as receiver_values
use Rattle.rtps_discovery.specs.declared.matching.Pair.{Pair}
use Rattle.rtps_audit.specs.Account as account_spec
use Rattle.rtps_audit.specs.Answered as answered
use Rattle.rtps_audit.specs.Delivery as delivery
use Rattle.rtps_audit.specs.PayloadConflict as payload_conflict
use Rattle.rtps_audit.specs.Placed as placed_spec
use Rattle.rtps_audit.specs.Speech as speech
use Rattle.rtps_audit.specs.declared.account.Account.{Account}
use Rattle.rtps_audit.specs.declared.accounts.Accounts.{Accounts}
use Rattle.rtps_audit.specs.declared.answer.Answer.{Answer}
use Rattle.rtps_audit.specs.declared.ask.Ask.{Ask}
use Rattle.rtps_audit.specs.declared.payload_conflict.PayloadConflicts.{PayloadConflicts}
use Rattle.rtps_audit.specs.declared.placed.Placed.{Placed}
use Rattle.rtps_audit.proofs.AccountLemmas.{claims_same, stands_on}
use Rattle.rtps_audit.proofs.AskLemmas.{ask_at, later_place, other_place, pushed, same_place}
use Rattle.rtps_audit.proofs.Greatest.{greatest_below, greatest_more}
use Rattle.rtps_audit.proofs.IndexSpeech.{if_some}
use Rattle.rtps_audit.proofs.PayloadHearing.{and_second, payload_or}
use Rattle.rtps_audit.proofs.PlacedActs.{makes}
use Rattle.rtps_audit.proofs.WordLemmas.{payload_number}

-- ---- acts of the writer

-- what a filter keeps passes its test
passed_first : {X : Type 0} (test : X → Bool) (x : X) (rest : List X) (b : Bool) → test x ≡ b → All (λ y. test y ≡ true) rest → All (λ y. test y ≡ true) (cond b (x ∷ rest) rest)
passed_first test x rest true e known = All-cons (λ y. test y ≡ true) x rest e known
passed_first test x rest false e known = known

pub all_passed : {X : Type 0} (test : X → Bool) (xs : List X) → All (λ x. test x ≡ true) (filter test xs)
all_passed test [] = All-nil _
all_passed test (x ∷ xs) = passed_first test x (filter test xs) (test x) refl (all_passed test xs)

-- acts that a test kept pass it
pub acts_passed : (test : placed_spec.PlacedValue → Bool) (acts : List Placed) (placed : List placed_spec.PlacedValue) → map placed_spec.placed_value acts ≡ filter test placed → All (λ (at : Placed). test (placed_spec.placed_value at) ≡ true) acts
acts_passed test acts placed same k d lt =
    subst (λ (at : placed_spec.PlacedValue). test at ≡ true) (get_or-map placed_spec.placed_value acts k d (placed_spec.placed_value d) lt)
    (subst (All (λ (at : placed_spec.PlacedValue). test at ≡ true)) (sym same) (all_passed test placed) k (placed_spec.placed_value d) (let long = length-map acts placed_spec.placed_value in omega arith))

-- ---- one act more

-- the answers of a pair among asks have what all asks have
pub its_answers : (P : Answer → Type 0) (place : ℕ) (asks : List Ask) → All (λ (ask : Ask). P ask.answer) asks → All P (account_spec.answers_at place asks)
its_answers P place [] all = All-nil P
its_answers P place (ask ∷ asks) all = by_test (ask.place == place) (its_answers P place asks (λ k d lt. all (suc k) d (omega arith)))
  where
    by_test : (b : Bool) → All P (account_spec.answers_at place asks) → All P (Rattle.std.specs.List.cons_option (if b then Some ask.answer else None) (account_spec.answers_at place asks))
    by_test true rest = All-cons P ask.answer _ (all 0 ask (omega arith)) rest
    by_test false rest = rest

-- the pairs of accounts that hear an act more are the same
pairs_heard : {C : Type 0} (covered : C → ℕ → Bool) (act : receiver_values.ActValue) (old new : List (Account C)) → account_spec.AllHear covered act old new → map (λ (a : Account C). a.pair) new ≡ map (λ (a : Account C). a.pair) old
pairs_heard covered act [] [] hear = refl
pairs_heard covered act [] (n ∷ new) hear = let long = hear.counted in absurd (omega arith)
pairs_heard covered act (o ∷ old) [] hear = let long = hear.counted in absurd (omega arith)
pairs_heard {C} covered act (o ∷ old) (n ∷ new) hear =
    let here : n.pair ≡ o.pair = (hear.each 0 o (omega arith)).pair in
    let rest = pairs_heard covered act old new (record { counted = let long = hear.counted in omega arith; each = λ k d lt. hear.each (suc k) d (omega arith) }) in
    ap (λ p. p ∷ map (λ (a : Account C). a.pair) new) here ∙ ap (λ l. o.pair ∷ l) rest

-- two payloads of a number: both were told before, or one of them comes again
two_again : {C : Type 0} (covered : C → ℕ → Bool) (from : ℕ) (writer : Guid) (placed : List placed_spec.PlacedValue) (answers : List Answer) (p : placed_spec.PlacedValue) (n : ℕ) (account : Account C) → n < 2 ^ 63 - 1
    → account_spec.Stands covered from writer placed answers account → answered.HearsTwo from writer account.pair.reader (placed ++ p ∷ []) n → answered.HearsTwo from writer account.pair.reader placed n ⊎ account_spec.ComesAgain covered p.act account n
two_again {C} covered from writer placed answers p n account small known (asked, (x, y, one, other, differ)) = elim (Contains-push_cases placed p one.at one.among) [
  | inl one_before ↦ elim (Contains-push_cases placed p other.at other.among) [
    | inl other_before ↦ inl (asked, (x, y, record { at = one.at; among = one_before; says = one.says }, record { at = other.at; among = other_before; says = other.says }, differ))
    | inr now ↦ inr (again x y (record { at = one.at; among = one_before; says = one.says }) (said y other now))
  ]
  | inr now ↦ elim (Contains-push_cases placed p other.at other.among) [
    | inl other_before ↦ inr (again y x (record { at = other.at; among = other_before; says = other.says }) (said x one now))
    | inr also ↦ absurd (differ (payload_of (sym (said x one now) ∙ said y other also)))
  ]
]
  where
    said : (z : wire_values.PayloadValue) (heard : answered.IsHeard writer account.pair.reader (placed ++ p ∷ []) n (delivery.Word.Told z)) → p ≡ heard.at → speech.word_for writer account.pair.reader p.act n ≡ Some (delivery.Word.Told z)
    said z heard now = subst (λ (q : placed_spec.PlacedValue). speech.word_for writer account.pair.reader q.act n ≡ Some (delivery.Word.Told z)) (sym now) heard.says

    payload_of : {z w : wire_values.PayloadValue} → Some (delivery.Word.Told z) ≡ Some (delivery.Word.Told w) → z ≡ w
    payload_of {z} {w} e = ap (payload_or z) e

    again : (z w : wire_values.PayloadValue) → answered.IsHeard writer account.pair.reader placed n (delivery.Word.Told z) → speech.word_for writer account.pair.reader p.act n ≡ Some (delivery.Word.Told w) → account_spec.ComesAgain covered p.act account n
    again z w before now =
        let is = if_some (receiver_speech.is_spoken_by p.act writer && receiver_speech.is_heard_by p.act account.pair.reader) (speech.word_of p.act.body n) (delivery.Word.Told w) now in
        record { payload = w; says = is.1; heard = and_second (receiver_speech.is_spoken_by p.act writer) (receiver_speech.is_heard_by p.act account.pair.reader) is.0; before = (known.told.heard n asked small).1 (delivery.Word.Told z, before) }

-- the accounts stand for an act of the writer more, where none of the asks is behind it
pub all_stand_on : {C : Type 0} (covered : C → ℕ → Bool) (from since : ℕ) (writer : Guid) (pairs : List Pair) (placed : List placed_spec.PlacedValue) (asks : List Ask) (p : placed_spec.PlacedValue) (old new : Accounts C) → placed_spec.is_from writer p ≡ true → since ≤ p.datagram
    → All (λ (ask : Ask). ask.answer.datagram ≤ since) asks → account_spec.TakesIn covered p.act old new → account_spec.AllStand covered from writer pairs placed asks old → account_spec.AllStand covered from writer pairs (placed ++ p ∷ []) asks new
all_stand_on {C} covered from since writer pairs placed asks p old new its late behind takes known = record {
  writer_is = takes.writer ∙ known.writer_is;
  from_is = takes.from ∙ known.from_is;
  pairs_are = pairs_heard covered p.act old.accounts.items new.accounts.items takes.heard ∙ known.pairs_are;
  counted = known.counted;
  each = λ k d lt.
      let within = before lt in
      stands_on covered from writer placed (account_spec.answers_at k asks) p (get_or old.accounts.items k d) (get_or new.accounts.items k d) its (its_answers (λ (a : Answer). 1 ≤ a.datagram) k asks known.counted)
      (its_answers (λ (a : Answer). a.datagram ≤ p.datagram) k asks (All-weaker (λ (ask : Ask). ask.answer.datagram ≤ since) (λ (ask : Ask). ask.answer.datagram ≤ p.datagram) (λ ask le. omega arith) asks behind)) (takes.heard.each k d within) (known.each k d within);
  again = λ k d n lt small two.
      let within = before lt in
      let same = (takes.heard.each k d within).pair in
      elim (two_again covered from writer placed (account_spec.answers_at k asks) p n (get_or old.accounts.items k d) small (known.each k d within) (subst (λ (pair : Pair). answered.HearsTwo from writer pair.reader (placed ++ p ∷ []) n) same two)) [
        | inl told ↦ takes.kept n told.0.0 small (known.again k d n within small told)
        | inr comes ↦ takes.again k d n within two.0.0 small comes
      ];
  last =
      takes.last ∙ ap (λ m. max m (unwrap_or (speech.announced_for old.writer p.act) 0)) known.last ∙ ap (λ (w : Guid). max (answered.last_among writer placed) (unwrap_or (speech.announced_for w p.act) 0)) known.writer_is
      ∙ sym (greatest_more (λ (at : placed_spec.PlacedValue). speech.announced_for writer at.act) placed p);
}
  where
    before : {k : ℕ} → k < length new.accounts.items → k < length old.accounts.items
    before {k} lt = let long = takes.heard.counted in omega (arith, long)

-- ---- one answer more

-- the pairs stay where one account is written over by another of its pair
pairs_kept : {C : Type 0} (accounts : List (Account C)) (place : ℕ) (account : Account C) → ((d : Account C) → account.pair ≡ (get_or accounts place d).pair) → map (λ (a : Account C). a.pair) (set accounts place account) ≡ map (λ (a : Account C). a.pair) accounts
pairs_kept [] place account same = refl
pairs_kept {C} (first ∷ accounts) zero account same = ap (λ p. p ∷ map (λ (a : Account C). a.pair) accounts) (same first)
pairs_kept (first ∷ accounts) (suc place) account same = ap (λ l. first.pair ∷ l) (pairs_kept accounts place account same)

-- the accounts stand for an answer more, where that of its pair does
pub all_stand_note : {C : Type 0} (covered : C → ℕ → Bool) (from : ℕ) (writer : Guid) (pairs : List Pair) (placed : List placed_spec.PlacedValue) (asks : List Ask) (ask : Ask) (old new : Accounts C) (account : Account C) → ask.place < length old.accounts.items
    → new.accounts.items ≡ set old.accounts.items ask.place account → new.writer ≡ old.writer → new.from ≡ old.from → new.again ≡ old.again → new.last ≡ old.last → ((d : Account C) → account.pair ≡ (get_or old.accounts.items ask.place d).pair) → 1 ≤ ask.answer.datagram
    → ((d : Account C) (answers : List Answer) → account_spec.Stands covered from writer placed answers (get_or old.accounts.items ask.place d) → account_spec.Stands covered from writer placed (answers ++ ask.answer ∷ []) account)
    → account_spec.AllStand covered from writer pairs placed asks old → account_spec.AllStand covered from writer pairs placed (asks ++ ask ∷ []) new
all_stand_note {C} covered from writer pairs placed asks ask old new account lt is its_writer its_from its_again its_last pair counted note known = record {
  writer_is = its_writer ∙ known.writer_is;
  from_is = its_from ∙ known.from_is;
  pairs_are = ap (map (λ (a : Account C). a.pair)) is ∙ pairs_kept items ask.place account pair ∙ known.pairs_are;
  counted = All-push (λ (a : Ask). 1 ≤ a.answer.datagram) asks ask known.counted counted;
  each = λ k d within. at_place k (λ k. account_spec.Stands covered from writer placed (account_spec.answers_at k (asks ++ ask ∷ [])) (get_or new.accounts.items k d)) (apart k d within) (here d);
  again = λ k d n within small two.
      let old_within = before within in
      let same : (get_or new.accounts.items k d).pair ≡ (get_or items k d).pair = at_place k (λ k. (get_or new.accounts.items k d).pair ≡ (get_or items k d).pair) (λ test differs. ap (λ (a : Account C). a.pair) (stays k d differs)) (ap (λ (a : Account C). a.pair) (now d) ∙ pair d) in
      ap (λ set. merged_ranges.covered_of set n) its_again ∙ known.again k d n old_within small (subst (λ (p : Pair). answered.HearsTwo from writer p.reader placed n) same two);
  last = its_last ∙ known.last;
}
  where
    items : List (Account C)
    items = old.accounts.items

    before : {k : ℕ} → k < length new.accounts.items → k < length items
    before {k} within = let long = ap length is ∙ length-set items ask.place account in omega (arith, long)

    at_place : (k : ℕ) (P : ℕ → Type 0) → ((ask.place == k) ≡ false → (k ≡ ask.place → ⊥) → P k) → P ask.place → P k
    at_place k P other same = elim (cases_lt k ask.place) [
      | inl before ↦ other (other_place k ask.place before) (λ e. omega (arith, e))
      | inr ge ↦ elim (cases_lt ask.place k) [
        | inl after ↦ other (later_place k ask.place after) (λ e. omega (arith, e))
        | inr le ↦ let e : ask.place ≡ k = omega arith in subst P e same
      ]
    ]

    stays : (k : ℕ) (d : Account C) → (k ≡ ask.place → ⊥) → get_or new.accounts.items k d ≡ get_or items k d
    stays k d differs = ap (λ l. get_or l k d) is ∙ get_or-set_other items ask.place k account d differs

    now : (d : Account C) → get_or new.accounts.items ask.place d ≡ account
    now d = ap (λ l. get_or l ask.place d) is ∙ get_or-set_same items ask.place account d lt

    at : (k : ℕ) → account_spec.answers_at k (asks ++ ask ∷ []) ≡ account_spec.answers_at k asks ++ filter_map (account_spec.answer_if_at k) (map (ask_at ask.place) (ask.answer ∷ []))
    at k = filter_map-append (account_spec.answer_if_at k) asks (ask ∷ [])

    apart : (k : ℕ) (d : Account C) → k < length new.accounts.items → (ask.place == k) ≡ false → (k ≡ ask.place → ⊥) → account_spec.Stands covered from writer placed (account_spec.answers_at k (asks ++ ask ∷ [])) (get_or new.accounts.items k d)
    apart k d within test differs =
        let none = at k ∙ ap (λ l. account_spec.answers_at k asks ++ l) (pushed k ask.place (ask.answer ∷ []) false test) ∙ append-nil _ in
        subst (account_spec.Stands covered from writer placed (account_spec.answers_at k (asks ++ ask ∷ []))) (sym (stays k d differs)) (subst (λ l. account_spec.Stands covered from writer placed l (get_or items k d)) (sym none) (known.each k d (before within)))

    here : (d : Account C) → account_spec.Stands covered from writer placed (account_spec.answers_at ask.place (asks ++ ask ∷ [])) (get_or new.accounts.items ask.place d)
    here d =
        let one = ap (λ l. account_spec.answers_at ask.place asks ++ l) (pushed ask.place ask.place (ask.answer ∷ []) true (same_place ask.place)) in
        subst (account_spec.Stands covered from writer placed (account_spec.answers_at ask.place (asks ++ ask ∷ []))) (sym (now d))
        (subst (λ l. account_spec.Stands covered from writer placed l account) (sym (at ask.place ∙ one)) (note d (account_spec.answers_at ask.place asks) (known.each ask.place d lt)))

-- ---- at the end

both_true : (a b : Bool) → a ≡ true → b ≡ true → (a && b) ≡ true
both_true true b e f = f
both_true false b e f = cc

-- a number that is asked for is in question where the set has it, as far as a set reaches
in_question : (from : ℕ) (set : ℕ → Bool) (n : ℕ) → delivery.IsAsked from n → n < 2 ^ 63 → (n < 2 ^ 63 - 1 → set n ≡ true) → payload_conflict.is_in_question from set n ≡ true
in_question from set n asked small has =
    let one : delivery.is_asked from n ≡ true = let low = asked.0 in let on = asked.1 in grind (arith, nat_tests) in
    both_true (delivery.is_asked from n) _ one (elim (cases_lt n (2 ^ 63 - 1)) [
      | inl lt ↦ or_right (n == 2 ^ 63 - 1) (set n) (has lt)
      | inr ge ↦ or_left (n == 2 ^ 63 - 1) (set n) (eq-eqb n (2 ^ 63 - 1) (omega arith))
    ])

first_true : (a b : Bool) → (a && b) ≡ true → a ≡ true
first_true true b e = refl
first_true false b e = cc

asked_in_question : (from : ℕ) (set : ℕ → Bool) (n : ℕ) → payload_conflict.is_in_question from set n ≡ true → delivery.IsAsked from n
asked_in_question from set n is = let one : delivery.is_asked from n ≡ true = first_true (delivery.is_asked from n) _ is in (grind (arith, nat_tests), grind (arith, nat_tests))

-- a payload that a reader hears is of a number that its writer announces
payload_announced : (writer reader : Guid) (placed : List placed_spec.PlacedValue) (n : ℕ) (x : wire_values.PayloadValue) → 1 ≤ n → answered.IsHeard writer reader placed n (delivery.Word.Told x) → n ≤ answered.last_among writer placed
payload_announced writer reader placed n x positive heard =
    let act = heard.at.act in
    let said = if_some (receiver_speech.is_spoken_by act writer && receiver_speech.is_heard_by act reader) (speech.word_of act.body n) (delivery.Word.Told x) heard.says in
    let spoken = first_true (receiver_speech.is_spoken_by act writer) _ said.0 in
    let announced : speech.announced_for writer act ≡ Some n = ap (λ b. if b then speech.announced_of_body act.body else None) spoken ∙ (payload_number act.body n x said.1).0 in
    let among = makes (λ (at : placed_spec.PlacedValue). speech.announced_for writer at.act) placed heard.at n heard.among announced in
    let lt : n - 1 < n = omega arith in
    let below = greatest_below (n - 1) n _ among lt in
    omega arith

-- where the accounts stand for all that was said, all is known that the verdict on each pair is by
pub all_known : {C : Type 0} (covered : C → ℕ → Bool) (from : ℕ) (writer : Guid) (recording : List (List receiver_values.ActValue)) (pairs : List Pair) (placed : List placed_spec.PlacedValue) (asks : List Ask) (accounts : Accounts C) (conflicts : PayloadConflicts)
    → payload_conflict.AreConflictsOf (payload_conflict.is_in_question accounts.from (merged_ranges.covered_of accounts.again)) conflicts.payloads.items placed → account_spec.AreSaid writer recording pairs placed asks → account_spec.AllStand covered from writer pairs placed asks accounts
    → All (λ (account : Account C). account_spec.IsAllKnown from recording account.pair conflicts accounts.last account.claims) accounts.accounts.items
all_known {C} covered from writer recording pairs placed asks accounts conflicts are_conflicts said known k d lt = record {
  wanted = payload_conflict.is_in_question accounts.from (merged_ranges.covered_of accounts.again);
  asked = λ n is. asked_in_question from (merged_ranges.covered_of accounts.again) n (subst (λ m. payload_conflict.is_in_question m (merged_ranges.covered_of accounts.again) n ≡ true) stand.from_is is);
  two = λ n two.
      let here = subst (λ l. answered.HearsTwo from account.pair.writer account.pair.reader l n) (sym are) two in
      let last = payload_announced account.pair.writer account.pair.reader placed n _ here.0.0 here.1.2 in
      let is_last = stand.last in
      let small = accounts.in_range in
      subst (λ m. payload_conflict.is_in_question m (merged_ranges.covered_of accounts.again) n ≡ true) (sym stand.from_is) (in_question from (merged_ranges.covered_of accounts.again) n here.0 (omega arith) (λ reaches. stand.again k d n lt reaches here));
  payloads = subst (payload_conflict.AreConflictsOf (payload_conflict.is_in_question accounts.from (merged_ranges.covered_of accounts.again)) conflicts.payloads.items) are are_conflicts;
  announced = stand.last ∙ ap (answered.last_among account.pair.writer) are;
  claims =
      subst (λ l. account_spec.AreClaimsOf from account.pair.writer account.pair.reader l (placed_spec.answers_among account.pair (placed_spec.placed_in recording)) account.claims) are
      (claims_same {from = from} account.pair.writer account.pair.reader placed (account_spec.answers_at k asks) (placed_spec.answers_among account.pair (placed_spec.placed_in recording)) account.claims same (stand.each k d lt).claims);
}
  where
    account : Account C
    account = get_or accounts.accounts.items k d

    within : k < length pairs
    within = let long = length-map accounts.accounts.items (λ (a : Account C). a.pair) in let all = ap length known.pairs_are in omega (arith, long, all)

    its_pair : get_or pairs k account.pair ≡ account.pair
    its_pair = ap (λ l. get_or l k account.pair) (sym known.pairs_are) ∙ get_or-map (λ (a : Account C). a.pair) accounts.accounts.items k d account.pair lt

    its : account.pair.writer ≡ writer
    its = subst (λ (p : Pair). p.writer ≡ writer) its_pair (said.of_writer k account.pair within)

    stand : account_spec.AllStand covered from account.pair.writer pairs placed asks accounts
    stand = subst (λ (w : Guid). account_spec.AllStand covered from w pairs placed asks accounts) (sym its) known

    are : placed ≡ filter (placed_spec.is_from account.pair.writer) (placed_spec.placed_in recording)
    are = said.acts_are ∙ ap (λ (w : Guid). filter (placed_spec.is_from w) (placed_spec.placed_in recording)) (sym its)

    same : account_spec.HaveSame (account_spec.answers_at k asks) (placed_spec.answers_among account.pair (placed_spec.placed_in recording))
    same = subst (λ (p : Pair). account_spec.HaveSame (account_spec.answers_at k asks) (placed_spec.answers_among p (placed_spec.placed_in recording))) its_pair (said.asks_are.same k account.pair within)

-- acts of the writer in order are behind any datagram that the first is
pub since_first : (writer : Guid) (acts : List Placed) → All (λ (at : Placed). placed_spec.is_from writer (placed_spec.placed_value at) ≡ true) acts → All (account_spec.IsSince writer 0) acts
since_first writer acts from = All-weaker (λ (at : Placed). placed_spec.is_from writer (placed_spec.placed_value at) ≡ true) (account_spec.IsSince writer 0) (λ at is. record { from = is; since = omega arith }) acts from

-- ---- in the order of datagrams

-- The asks are taken in, and the acts up to this place, which stand before some datagram; the others stand in it or behind it.
pub record IsTakenTo {C : Type 0} (covered : C → ℕ → Bool) (from : ℕ) (writer : Guid) (pairs : List Pair) (acts : List Placed) (asks : List Ask) (place : ℕ) (Bounds : ℕ → Type 0) (accounts : Accounts C) : Type 0 where
  pub since : ℕ
  pub bounds : Bounds since
  pub before : AllWithin (λ (at : Placed). at.datagram < since) acts 0 place
  pub behind : AllWithin (λ (at : Placed). since ≤ at.datagram) acts place (length acts)
  pub asked : All (λ (ask : Ask). ask.answer.datagram ≤ since) asks
  pub stand : account_spec.AllStand covered from writer pairs (map placed_spec.placed_value (take place acts)) asks accounts

-- the first acts are early as those up to their end are
pub first_early : (acts : List Placed) (end datagram : ℕ) → end ≤ length acts → AllWithin (λ (at : Placed). at.datagram < datagram) acts 0 end → All (λ (at : placed_spec.PlacedValue). at.datagram < datagram) (map placed_spec.placed_value (take end acts))
first_early acts end datagram within early =
    All-map (λ (at : placed_spec.PlacedValue). at.datagram < datagram) placed_spec.placed_value (take end acts) (λ k d lt.
    let first : k < end = let long = length-take-le end acts within in omega (arith, long) in
    let same = ap (λ (at : Placed). at.datagram) (get_or-take end acts k d first) in
    let here = early k d (omega arith) first in
    omega (arith, same))

-- up to two places, one behind the other
pub early_on : (acts : List Placed) (place end since datagram : ℕ) → since ≤ datagram → AllWithin (λ (at : Placed). at.datagram < since) acts 0 place → AllWithin (λ (at : Placed). at.datagram < datagram) acts place end → AllWithin (λ (at : Placed). at.datagram < datagram) acts 0 end
early_on acts place end since datagram le before next k d low high = elim (cases_lt k place) [
  | inl first ↦ let here = before k d low first in omega arith
  | inr ge ↦ next k d ge high
]

-- the acts of a slice are of the writer since a datagram
pub slice_since : (writer : Guid) (acts : List Placed) (place end since : ℕ) → end ≤ length acts → All (account_spec.IsSince writer 0) acts → AllWithin (λ (at : Placed). since ≤ at.datagram) acts place (length acts) → AllWithin (account_spec.IsSince writer since) acts place end
slice_since writer acts place end since within of behind k d low high = record { from = (of k d (omega arith)).from; since = behind k d low (omega arith) }

-- acts in order are behind the first of them that is
pub behind_on : (acts : List Placed) (end datagram : ℕ) → IsNonDecreasingBy (λ (at : Placed). at.datagram) acts → (end < length acts → HoldsAt (λ (at : Placed). datagram ≤ at.datagram) acts end) → AllWithin (λ (at : Placed). datagram ≤ at.datagram) acts end (length acts)
behind_on acts end datagram rising first k d low high =
    let here = first (omega arith) d in
    let order = rising end k d low high in
    omega arith
