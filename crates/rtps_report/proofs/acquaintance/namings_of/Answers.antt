use Rattle.std.proofs.Common.{Bor, ◌++◌, ◌∷◌, [], ◌∙◌, ◌≡◌, ℕ, List, ap, arith, map, subst, sym, take}
use Rattle.std.proofs.lemmas.List.{take_all}
use Rattle.rtps_receiver.specs.Values as values
use Rattle.rtps_policies.specs.Namings as namings
use Rattle.rtps_report.specs.ActsRead as acts_read
use Rattle.rtps_report.proofs.NamingWalkLemmas.{few_named, read_more}
use Rattle.rtps_report.proofs.acquaintance.namings_of.Goals as goal

pub note-requires : goal.note-requires
note-requires c = λ naming.
    let few = few_named c.args.recording.now c.loop-place.place c.loop-place.namings naming c.loop-place-test.true c.loop-place.invariant in
    omega (arith, few)

pub loop-place-preserved : goal.loop-place-preserved
loop-place-preserved c =
    let recording = c.args.recording.now in
    let place = c.loop-place.place in
    let so_far : List (List values.ActValue) = acts_read.datagrams_read (map (λ (one : Bor (List ℕ)). one.now) (take place recording)) in
    let acts = ap (map values.spoken_value) c.acts.ensures ∙ c.in_ok-read.ensures.acts.acts in
    subst (λ (all : List (List values.ActValue)). namings.AreNamingsOf all c.note.new.self)
    (ap (λ (those : List values.ActValue). so_far ++ those ∷ []) acts ∙ sym (read_more recording place _ c.loop-place-test.true))
    (c.in_ok-note.ensures so_far c.loop-place.invariant)

pub returns : goal.returns
returns c =
    let recording = c.args.recording.now in
    let all : take c.loop-place.place recording ≡ recording = take_all c.loop-place.place recording (omega (arith, c.loop-place-test.false)) in
    subst (λ (read : List (Bor (List ℕ))). namings.AreNamingsOf (acts_read.datagrams_read (map (λ (one : Bor (List ℕ)). one.now) read)) c.loop-place.namings) all c.loop-place.invariant
