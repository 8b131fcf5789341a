use Rattle.std.proofs.Common.{◌≡◌, ◌∙◌, ◌+◌, ◌++◌, ◌∷◌, [], ℕ, List, ap, arith, map, subst, sym, take}
use Rattle.std.proofs.lemmas.List.{map_more, map_push, take_all}
use Rattle.rtps_receiver.specs.Values as values
use Rattle.rtps_audit.specs.Placed as placed
use Rattle.rtps_audit.specs.declared.placed.Placed.{Placed}
use Rattle.rtps_discovery.specs.Directory as directory
use Rattle.rtps_discovery.specs.Notice as notice
use Rattle.rtps_text.proofs.ListLemmas.{acts_of_placed, faults_in-append}
use Rattle.rtps_text.proofs.text.list_text.note_announcements.Goals as goal

pub loop-placed-preserved : goal.loop-placed-preserved
loop-placed-preserved c =
    let announcements = c.args.announcements.now in
    let place = c.loop-placed.placed-index in
    let one = c.placed-item.result in
    let so_far = acts_of_placed (map placed.placed_value (take place announcements)) in
    let last : List values.ActValue = values.spoken_value one.act ∷ [] in
    let more : acts_of_placed (map placed.placed_value (take (place + 1) announcements)) ≡ so_far ++ last =
    ap acts_of_placed (map_more placed.placed_value announcements place one c.loop-placed-test.true
    ∙ ap (λ (found : Placed). map placed.placed_value (take place announcements) ++ placed.placed_value found ∷ []) (sym c.placed-item.is))
    ∙ map_push (λ (found : placed.PlacedValue). found.act) (map placed.placed_value (take place announcements)) (placed.placed_value one) in
    let noted = c.in_ok-note_all.ensures in
    let acts : map values.spoken_value c.from_ref.result.now ≡ last = ap (map values.spoken_value) c.from_ref.ensures.value in
    let faults = c.from.ensures ∙ noted.faults ∙ ap notice.faults_in acts in (
      subst (λ (all : List values.ActValue). directory.IsMapOf all c.note_all.new.self) (ap (λ (new : List values.ActValue). so_far ++ new) acts ∙ sym more) (noted.map so_far c.loop-placed.invariant.0),
      ap (λ (n : ℕ). c.loop-placed.faults + n) faults ∙ ap (λ (n : ℕ). n + notice.faults_in last) c.loop-placed.invariant.1 ∙ sym (faults_in-append so_far last) ∙ ap notice.faults_in (sym more),
      omega (arith, c.from.ensures, noted.faults, c.loop-placed.invariant.2),
    )

pub returns-clause-map : goal.returns-clause-map
returns-clause-map c =
    subst (λ (all : List Placed). directory.IsMapOf (acts_of_placed (map placed.placed_value all)) c.loop-placed.directory) (take_all c.loop-placed.placed-index c.args.announcements.now c.loop-placed-test.false)
    c.loop-placed.invariant.0
