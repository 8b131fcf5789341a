use Rattle.std.proofs.Common.{Bor, ◌+◌, ◌≡◌, ℕ, List, ap, arith, length, map, subst, sym, take}
use Rattle.std.proofs.lemmas.List.{map_more, take_all}
use Rattle.rtps_report.specs.Stays as stays
use Rattle.rtps_report.proofs.PresenceLemmas.{length_so_far, presences_noted}
use Rattle.rtps_report.proofs.presence.Presences.of.Goals as goal

pub loop-place-preserved : goal.loop-place-preserved
loop-place-preserved c =
    let recording = c.args.recording.now in
    let times = c.args.times.now.of_datagrams in
    let place = c.loop-place.place in
    let within = c.loop-place-test.true in
    let so_far : List (List ℕ) = map (λ (one : Bor (List ℕ)). one.now) (take place recording) in
    let number : place + 1 ≡ length so_far + 1 = ap (λ (n : ℕ). n + 1) (length_so_far recording place within) in
    subst (λ (all : List (List ℕ)). stays.ArePresencesOf all times c.note.new.self) (sym (map_more (λ (one : Bor (List ℕ)). one.now) recording place _ within))
    (presences_noted (place + 1) c.of_datagram.result _ c.loop-place.presences c.note.new.self c.in_ok-note.ensures so_far times number c.of_datagram.ensures c.loop-place.invariant)

pub returns : goal.returns
returns c =
    let recording = c.args.recording.now in
    let all : take c.loop-place.place recording ≡ recording = take_all c.loop-place.place recording (omega (arith, c.loop-place-test.false)) in
    subst (λ (read : List (Bor (List ℕ))). stays.ArePresencesOf (map (λ (one : Bor (List ℕ)). one.now) read) c.args.times.now.of_datagrams c.loop-place.presences) all c.loop-place.invariant
