-- What a comparison has kept of each writer.
use Rattle.std.proofs.Common.{ℕ, zero, suc, ◌≡◌, ◌+◌, ◌<◌, ◌≤◌, ◌-◌, ◌^◌, Bool, true, false, ◌||◌, filter, List, [], ◌∷◌, ◌++◌, append-nil, Some, None, length, map, get_or, set, take, refl, sym, ◌∙◌, ap, subst, arith}
use Rattle.std.specs.Prelude.{◌==◌, if◌then◌else◌, Contains, flat_map}
use Rattle.std.proofs.lemmas.Bool.{eqb-true}
use Rattle.std.proofs.lemmas.Grind.{flat_map-append}
use Rattle.std.proofs.lemmas.List.{get_or-map, length-map, map-append, take_more}
use Rattle.std.proofs.lemmas.List.Elements.{All-append, All-contains, All-map}
use Rattle.rtps_ids.specs.declared.identity.EntityId.{EntityId}
use Rattle.rtps_ids.specs.declared.identity.Guid.{Guid}
use Rattle.rtps_coverage.specs.MergedRanges as merged_ranges
use Rattle.rtps_receiver.specs.Speech as receiver_speech
use Rattle.rtps_receiver.specs.Values as receiver_values
use Rattle.rtps_wire.specs.Values as wire_values
use Rattle.rtps_discovery.specs.declared.matching.Pair.{Pair}
use Rattle.rtps_audit.specs.Account as account
use Rattle.rtps_audit.specs.Answered as answered
use Rattle.rtps_audit.specs.Delivery as delivery
use Rattle.rtps_audit.specs.PayloadConflict as payload_conflict
use Rattle.rtps_audit.specs.Placed as placed_spec
use Rattle.rtps_audit.specs.Report as report
use Rattle.rtps_audit.specs.Speech as speech
use Rattle.rtps_audit.specs.declared.report.Row.{Row}
use Rattle.rtps_audit.proofs.Offered.{all_passed, and_second, from_speaks, greatest_below, makes, payload_number, same_place}
use Rattle.rtps_passes.specs.Comparison as comparison
use Rattle.rtps_passes.specs.Judging as judging
use Rattle.rtps_passes.specs.declared.judged_writer.JudgedWriter.{JudgedWriter}
use Rattle.rtps_passes.specs.declared.kept_payload.KeptPayload.{KeptPayload}
use Rattle.rtps_passes.specs.declared.kept_payloads.KeptPayloads.{KeptPayloads}
use Rattle.rtps_passes.proofs.TakingLemmas.{from_more}

-- ---- what is kept at a place

-- where nothing is kept of one writer more
pub nothing_more : (kept : List KeptPayloads) (one : KeptPayloads) → one.payloads.items ≡ [] → (place : ℕ) → comparison.kept_at (kept ++ one ∷ []) place ≡ comparison.kept_at kept place
nothing_more [] one none zero = none
nothing_more [] one none (suc place) = refl
nothing_more (x ∷ kept) one none zero = refl
nothing_more (x ∷ kept) one none (suc place) = nothing_more kept one none place

pub kept_here : (kept : List KeptPayloads) (place : ℕ) (d : KeptPayloads) → place < length kept → comparison.kept_at kept place ≡ (get_or kept place d).payloads.items
kept_here [] place d lt = absurd (omega arith)
kept_here (x ∷ kept) zero d lt = refl
kept_here (x ∷ kept) (suc place) d lt = kept_here kept place d (omega arith)

-- where what is kept at a place is written over
pub written_here : (kept : List KeptPayloads) (place : ℕ) (new : KeptPayloads) → place < length kept → comparison.kept_at (set kept place new) place ≡ new.payloads.items
written_here [] place new lt = absurd (omega arith)
written_here (x ∷ kept) zero new lt = refl
written_here (x ∷ kept) (suc place) new lt = written_here kept place new (omega arith)

pub written_elsewhere : (kept : List KeptPayloads) (place other : ℕ) (new : KeptPayloads) → (other ≡ place → ⊥) → comparison.kept_at (set kept place new) other ≡ comparison.kept_at kept other
written_elsewhere [] place other new apart = refl
written_elsewhere (x ∷ kept) zero zero new apart = absurd (apart refl)
written_elsewhere (x ∷ kept) zero (suc other) new apart = refl
written_elsewhere (x ∷ kept) (suc place) zero new apart = refl
written_elsewhere (x ∷ kept) (suc place) (suc other) new apart = written_elsewhere kept place other new (λ e. apart (ap suc e))

-- ---- one act more

-- of a writer that it is not from
kept_elsewhere : (wanted : ℕ → Bool) (writer : Guid) (placed : List placed_spec.PlacedValue) (act : placed_spec.PlacedValue) (kept : List KeptPayload) → placed_spec.is_from writer act ≡ false
    → comparison.AreKept wanted (filter (placed_spec.is_from writer) placed) kept → comparison.AreKept wanted (filter (placed_spec.is_from writer) (placed ++ act ∷ [])) kept
kept_elsewhere wanted writer placed act kept other known = subst (λ l. comparison.AreKept wanted l kept) (sym (from_more writer placed act false other ∙ append-nil _)) known

-- an act of none of the writers
pub none_kept_more : (writers : List JudgedWriter) (placed : List placed_spec.PlacedValue) (act : placed_spec.PlacedValue) (kept : List KeptPayloads) → ((k : ℕ) (d : JudgedWriter) → k < length writers → placed_spec.is_from (get_or writers k d).writer act ≡ false)
    → comparison.HaveKept writers placed kept → comparison.HaveKept writers (placed ++ act ∷ []) kept
none_kept_more writers placed act kept none known = λ k d lt.
    kept_elsewhere (comparison.is_wanted (get_or writers k d)) (get_or writers k d).writer placed act (comparison.kept_at kept k) (none k d lt) (known k d lt)

-- an act of the writer at a place
pub one_kept_more : (writers : List JudgedWriter) (placed : List placed_spec.PlacedValue) (act : placed_spec.PlacedValue) (old new : List KeptPayloads) (place : ℕ) → ((k : ℕ) (d : JudgedWriter) → k < length writers → placed_spec.is_from (get_or writers k d).writer act ≡ (place == k))
    → ((other : ℕ) → (other ≡ place → ⊥) → comparison.kept_at new other ≡ comparison.kept_at old other)
    → ((d : JudgedWriter) → place < length writers → comparison.AreKept (comparison.is_wanted (get_or writers place d)) (filter (placed_spec.is_from (get_or writers place d).writer) placed) (comparison.kept_at old place)
    → comparison.AreKept (comparison.is_wanted (get_or writers place d)) (filter (placed_spec.is_from (get_or writers place d).writer) placed ++ act ∷ []) (comparison.kept_at new place))
    → comparison.HaveKept writers placed old → comparison.HaveKept writers (placed ++ act ∷ []) new
one_kept_more writers placed act old new place its same here known = λ k d lt. by_test k d lt (place == k) refl
  where
    apart : (k : ℕ) → (place == k) ≡ false → k ≡ place → ⊥
    apart k differs e = let clash : true ≡ false = sym (same_place place) ∙ ap (λ m. place == m) (sym e) ∙ differs in cc

    by_test : (k : ℕ) (d : JudgedWriter) → k < length writers → (b : Bool) → (place == k) ≡ b → comparison.AreKept (comparison.is_wanted (get_or writers k d)) (filter (placed_spec.is_from (get_or writers k d).writer) (placed ++ act ∷ [])) (comparison.kept_at new k)
    by_test k d lt true e =
        let at : place ≡ k = eqb-true place k e in
        let within : place < length writers = omega arith in
        subst (λ (m : ℕ). comparison.AreKept (comparison.is_wanted (get_or writers m d)) (filter (placed_spec.is_from (get_or writers m d).writer) (placed ++ act ∷ [])) (comparison.kept_at new m)) at
        (subst (λ l. comparison.AreKept (comparison.is_wanted (get_or writers place d)) l (comparison.kept_at new place)) (sym (from_more (get_or writers place d).writer placed act true (its place d within ∙ same_place place))) (here d within (known place d within)))
    by_test k d lt false e =
        subst (comparison.AreKept (comparison.is_wanted (get_or writers k d)) (filter (placed_spec.is_from (get_or writers k d).writer) (placed ++ act ∷ []))) (sym (same k (apart k e)))
        (kept_elsewhere (comparison.is_wanted (get_or writers k d)) (get_or writers k d).writer placed act (comparison.kept_at old k) (its k d lt ∙ e) (known k d lt))

-- ---- where nothing is in question

-- an act that tells a payload names readers
names_readers : (body : receiver_values.ActBodyValue) (n : ℕ) (x : wire_values.PayloadValue) → speech.word_of body n ≡ Some (delivery.Word.Told x) → (named : EntityId) × (receiver_speech.reader_named body ≡ Some named)
names_readers (receiver_values.ActBodyValue.Data value) n x says = (value.reader, refl)
names_readers (receiver_values.ActBodyValue.Heartbeat value) n x says = (value.reader, refl)
names_readers (receiver_values.ActBodyValue.AckNack value) n x says = cc
names_readers (receiver_values.ActBodyValue.Gap value) n x says = (value.reader, refl)
names_readers (receiver_values.ActBodyValue.DataFrag value) n x says = (value.reader, refl)
names_readers (receiver_values.ActBodyValue.NackFrag value) n x says = cc

-- the number of a payload that a writer tells is announced
told_announced : (writer : Guid) (placed : List placed_spec.PlacedValue) (at : placed_spec.PlacedValue) (n : ℕ) (x : wire_values.PayloadValue) → 1 ≤ n → Contains placed at → placed_spec.is_from writer at ≡ true → speech.word_of at.act.body n ≡ Some (delivery.Word.Told x) → n ≤ answered.last_among writer placed
told_announced writer placed at n x positive there from says =
    let named = names_readers at.act.body n x says in
    let spoken = from_speaks writer at named.0 from named.1 in
    let announced : speech.announced_for writer at.act ≡ Some n = ap (λ b. if b then speech.announced_of_body at.act.body else None) spoken ∙ (payload_number at.act.body n x says).0 in
    let among = makes (λ (a : placed_spec.PlacedValue). speech.announced_for writer a.act) placed at n there announced in
    let lt : n - 1 < n = omega arith in
    let below = greatest_below (n - 1) n _ among lt in
    omega arith

-- a number in question is the greatest, where the set has none
greatest_in_question : (from : ℕ) (set : ℕ → Bool) (n : ℕ) → set n ≡ false → payload_conflict.is_in_question from set n ≡ true → n ≡ 2 ^ 63 - 1
greatest_in_question from set n none asked = by_test (n == 2 ^ 63 - 1) refl (sym (ap (λ b. (n == 2 ^ 63 - 1) || b) none) ∙ and_second (delivery.is_asked from n) ((n == 2 ^ 63 - 1) || set n) asked)
  where
    by_test : (b : Bool) → (n == 2 ^ 63 - 1) ≡ b → (b || false) ≡ true → n ≡ 2 ^ 63 - 1
    by_test true e f = eqb-true n (2 ^ 63 - 1) e
    by_test false e f = cc

-- so nothing has to be kept
pub nothing_asked : (from datagram : ℕ) (placed : List placed_spec.PlacedValue) (judged : JudgedWriter) → judging.HasNoQuestions judged → judging.HasTakenIn from datagram placed placed judged → comparison.AreKept (comparison.is_wanted judged) (filter (placed_spec.is_from judged.writer) placed) []
nothing_asked from datagram placed judged none known = record {
  told = λ one among. let lt = among.1 in absurd (omega arith);
  all = λ at n x among asked says.
      let is = greatest_in_question judged.accounts.from (merged_ranges.covered_of judged.accounts.again) n (none.again n) asked in
      let from = All-contains (λ (a : placed_spec.PlacedValue). placed_spec.is_from judged.writer a ≡ true) (filter (placed_spec.is_from judged.writer) placed) at (all_passed (placed_spec.is_from judged.writer) placed) among in
      let below = told_announced judged.writer (filter (placed_spec.is_from judged.writer) placed) at n x (omega (arith, is)) among from says in
      let last = known.stand.last in
      let small = none.last in
      absurd (omega (arith, is, below, last, small));
}

-- ---- the rows

-- what the accounts of a writer have taken in is what was said
pub said_of : (from datagram : ℕ) (recording : List (List receiver_values.ActValue)) (judged : JudgedWriter) (known : judging.HasTakenIn from datagram (placed_spec.placed_in recording) (placed_spec.placed_in recording) judged)
    → account.AreSaid judged.writer recording (judging.pairs_of judged) (filter (placed_spec.is_from judged.writer) (placed_spec.placed_in recording)) known.asks
said_of from datagram recording judged known = record {
  of_writer = All-map (λ (pair : Pair). pair.writer ≡ judged.writer) (judging.pair_with judged.writer) judged.readers.items (λ k d lt. refl);
  acts_are = refl;
  asks_are = record {
    counted = known.stand.counted;
    same = λ place d lt answer.
        let long = length-map judged.readers.items (judging.pair_with judged.writer) in
        let within : place < length judged.readers.items = omega (arith, long) in
        let e = known.asks_are place d.reader within ∙ ap (λ (p : Pair). placed_spec.answers_among p (placed_spec.placed_in recording)) (sym (get_or-map (judging.pair_with judged.writer) judged.readers.items place d.reader d within)) in
        (subst (λ l. Contains l answer) e, subst (λ l. Contains l answer) (sym e));
  };
}

-- rows of some pairs, and of others
pub rows_joined : (from : ℕ) (recording : List (List receiver_values.ActValue)) (one other : List Pair) (rows more new : List Row) → new ≡ rows ++ more → account.AreRowsOf from recording one rows → account.AreRowsOf from recording other more → account.AreRowsOf from recording (one ++ other) new
rows_joined from recording one other rows more new is known next = subst (account.AreRowsOf from recording (one ++ other)) (sym is) (record {
  pairs_are = map-append (λ (row : Row). row.pair) rows more ∙ ap (λ l. l ++ map (λ (row : Row). row.pair) more) known.pairs_are ∙ ap (λ l. one ++ l) next.pairs_are;
  judged = All-append (report.IsJudgedFrom from recording) rows more known.judged next.judged;
})

-- the pairs of one writer more
pub pairs_more : (writers : List JudgedWriter) (place : ℕ) (d : JudgedWriter) → place < length writers → flat_map judging.pairs_of (take (place + 1) writers) ≡ flat_map judging.pairs_of (take place writers) ++ judging.pairs_of (get_or writers place d)
pairs_more writers place d lt =
    ap (flat_map judging.pairs_of) (take_more writers place d lt) ∙ flat_map-append judging.pairs_of (take place writers) (get_or writers place d ∷ []) ∙ ap (λ l. flat_map judging.pairs_of (take place writers) ++ l) (append-nil _)
