-- Facts on what `list` prints: the acts of datagrams, and how many have a fault.
use Rattle.std.proofs.Common.{◌≡◌, ◌+◌, ℕ, List, [], ◌∷◌, ◌++◌, ap, ◌∙◌, append-nil, arith, subst, sym, append_assoc, length-append}
use Rattle.std.proofs.lemmas.Grind.{flat_map-append}
use Rattle.rtps_receiver.specs.Values as values
use Rattle.rtps_discovery.specs.Directory as directory
use Rattle.rtps_wire.specs.Reading as reading
use Rattle.rtps_receiver.specs.Acts as acts_spec
use Rattle.rtps_discovery.specs.Notice as notice
use Rattle.rtps_text.proofs.ListLemmas.{faults_in-append}
use Rattle.rtps_text.proofs.text.list_text.note_datagrams.Goals as goal

-- the acts of one datagram more
acts_in-push : (datagrams : List (List ℕ)) (octets : List ℕ) → acts_spec.acts_in (datagrams ++ octets ∷ []) ≡ acts_spec.acts_in datagrams ++ acts_spec.acts_of (reading.reading_of octets)
acts_in-push datagrams octets =
    let acts : List ℕ → List values.ActValue = λ datagram. acts_spec.acts_of (reading.reading_of datagram) in
    flat_map-append acts datagrams (octets ∷ []) ∙ ap (λ more. acts_spec.acts_in datagrams ++ more) (append-nil (acts octets))

pub loop-octets-preserved : goal.loop-octets-preserved
loop-octets-preserved c =
    let octets = c.in-Some.octets.now in
    let invariant = c.loop-octets.invariant in
    let done = invariant.2 in
    let acts = acts_spec.acts_of (reading.reading_of octets) in
    let more = acts_in-push done octets in
    let noted = c.in_ok-note_all.ensures in
    let heard = c.acts.ensures ∙ c.in_ok-read_data.ensures in
    let faults = c.from.ensures ∙ noted.data_faults acts heard in
    let count = ap (λ n. c.loop-octets.faults + n) faults in (
      tt,
      tt,
      done ++ octets ∷ [],
      append_assoc done (octets ∷ []) c.next.new.self ∙ ap (λ left. done ++ left) (sym c.in-Some.ensures.steps) ∙ invariant.3,
      subst (λ all. directory.IsMapOf all c.note_all.new.self) (sym more) (noted.data_map (acts_spec.acts_in done) acts heard invariant.4),
      count ∙ (ap (λ n. n + notice.faults_in acts) invariant.5 ∙ (sym (faults_in-append (acts_spec.acts_in done) acts) ∙ ap notice.faults_in (sym more))),
      omega (arith, c.from.ensures, noted.faults, invariant.6, length-append done (octets ∷ [])),
    )
