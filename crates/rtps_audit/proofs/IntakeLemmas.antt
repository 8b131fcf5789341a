-- What an index takes in, one datagram more.
use Rattle.std.proofs.Common.{◌≡◌, ℕ, ◌+◌, ◌<◌, List, [], ◌∷◌, ◌++◌, length, take, get_or, Bor, refl, sym, ◌∙◌, ap, arith}
use Rattle.std.specs.Prelude.{count_by, if◌then◌else◌, sum_by}
use Rattle.std.proofs.lemmas.List.{length-append}
use Rattle.std.proofs.lemmas.List.Sums.{fold-append}
use Rattle.rtps_wire.specs.Reading as reading
use Rattle.rtps_wire.specs.Tally as tally_spec
use Rattle.rtps_wire.specs.declared.counts.Tally.{Tally}
use Rattle.rtps_receiver.specs.Acts as acts_spec
use Rattle.rtps_receiver.specs.Values as values
use Rattle.rtps_audit.specs.Index as index
use Rattle.rtps_audit.specs.Intake as intake_spec
use Rattle.rtps_audit.specs.Report as report
use Rattle.rtps_audit.specs.declared.report.Counts.{Counts}
use Rattle.rtps_audit.specs.declared.tallies.Tallies.{Tallies}
use Rattle.rtps_audit.proofs.PlacedActs.{octets_of, read_next}

intake_is : (tallies tallies' : List Tally) (acts acts' announcing announcing' : List (List values.ActValue)) → tallies ≡ tallies' → acts ≡ acts' → announcing ≡ announcing'
    → ◌≡◌ {A = intake_spec.Intake} (record { tallies = tallies; acts = acts; announcing = announcing }) (record { tallies = tallies'; acts = acts'; announcing = announcing' })
intake_is tallies tallies' acts acts' announcing announcing' p q r =
    let with_tallies : List Tally → intake_spec.Intake = λ t. record { tallies = t; acts = acts; announcing = announcing } in
    let with_acts : List (List values.ActValue) → intake_spec.Intake = λ a. record { tallies = tallies'; acts = a; announcing = announcing } in
    let with_announcing : List (List values.ActValue) → intake_spec.Intake = λ a. record { tallies = tallies'; acts = acts'; announcing = a } in
    ap with_tallies p ∙ (ap with_acts q ∙ ap with_announcing r)

-- what is taken in of the next datagram of octets stands behind that of the datagrams so far
pub intake_on : (xs : List (Bor (List ℕ))) (i : ℕ) (d : Bor (List ℕ)) (tally : Tally) (acts announcing : List values.ActValue) → i < length xs → tally ≡ tally_spec.tally_of (reading.reading_of (get_or xs i d).now)
    → acts ≡ acts_spec.acts_of (reading.reading_of (get_or xs i d).now) → announcing ≡ acts_spec.acts_of (reading.reading_of (get_or xs i d).now)
    → intake_spec.intake_more (intake_spec.intake_of (octets_of (take i xs))) tally acts announcing ≡ intake_spec.intake_of (octets_of (take (i + 1) xs))
intake_on xs i d tally acts announcing lt tallied said announced =
    let so_far = intake_spec.intake_of (octets_of (take i xs)) in
    let next = sym (read_next (λ datagram. acts_spec.acts_of (reading.reading_of datagram)) xs i d lt) in
    intake_is _ _ _ _ _ _ (ap (λ t. so_far.tallies ++ t ∷ []) tallied ∙ sym (read_next (λ datagram. tally_spec.tally_of (reading.reading_of datagram)) xs i d lt)) (ap (λ a. so_far.acts ++ a ∷ []) said ∙ next)
    (ap (λ a. so_far.announcing ++ a ∷ []) announced ∙ next)

sum_push : {X : Type 0} (f : X → ℕ) (xs : List X) (x : X) → sum_by f (xs ++ x ∷ []) ≡ sum_by f xs + f x
sum_push f xs x = fold-append (λ a x. a + f x) 0 xs (x ∷ [])

counts_is : (one other : Counts) → one.datagrams ≡ other.datagrams → one.refused ≡ other.refused → one.skipped ≡ other.skipped → one.fragments ≡ other.fragments → one.undirected ≡ other.undirected → one.unsettled ≡ other.unsettled → one ≡ other
counts_is one other datagrams refused skipped fragments undirected unsettled = rw (datagrams, refused, skipped, fragments, undirected, unsettled) refl

-- the sums of one datagram more
pub counts_more : (intake : intake_spec.Intake) (tally : Tally) (acts announcing : List values.ActValue) (old new : Tallies) → ((unsettled : ℕ) → index.counts_with old unsettled ≡ report.counts_of intake unsettled)
    → new.datagrams ≡ old.datagrams + 1 → new.refused ≡ old.refused + (if tally.refused then 1 else 0) → new.skipped ≡ old.skipped + tally.skipped → new.fragments ≡ old.fragments + tally.fragments
    → new.undirected ≡ old.undirected + count_by report.is_undirected acts → (unsettled : ℕ) → index.counts_with new unsettled ≡ report.counts_of (intake_spec.intake_more intake tally acts announcing) unsettled
counts_more intake tally acts announcing old new known datagrams refused skipped fragments undirected unsettled =
    let is = known unsettled in
    let count = ap (λ (c : Counts). c.datagrams) is in
    let more = length-append intake.acts (acts ∷ []) in
    counts_is (index.counts_with new unsettled) (report.counts_of (intake_spec.intake_more intake tally acts announcing) unsettled) (omega (arith, datagrams, count, more))
    (refused ∙ ap (λ n. n + (if tally.refused then 1 else 0)) (ap (λ (c : Counts). c.refused) is) ∙ sym (sum_push (λ (t : Tally). if t.refused then 1 else 0) intake.tallies tally))
    (skipped ∙ ap (λ n. n + tally.skipped) (ap (λ (c : Counts). c.skipped) is) ∙ sym (sum_push (λ (t : Tally). t.skipped) intake.tallies tally))
    (fragments ∙ ap (λ n. n + tally.fragments) (ap (λ (c : Counts). c.fragments) is) ∙ sym (sum_push (λ (t : Tally). t.fragments) intake.tallies tally))
    (undirected ∙ ap (λ n. n + count_by report.is_undirected acts) (ap (λ (c : Counts). c.undirected) is) ∙ sym (sum_push (count_by report.is_undirected) intake.acts acts)) refl
