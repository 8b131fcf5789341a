use Rattle.std.proofs.Common.{◌++◌, ◌∷◌, [], ◌∙◌, List, ℕ, Bor, ap, map, sym}
use Rattle.std.proofs.lemmas.List.{append_assoc, append-nil, map-append}
use Rattle.rtps_report.proofs.recording.datagrams_of.Goals as goal

pub loop-octets-preserved : goal.loop-octets-preserved
loop-octets-preserved c =
    let view : Bor (List ℕ) → List ℕ = λ datagram. datagram.now in
    let octets = c.in-Some.octets in
    let done = map view c.loop-octets.datagrams.items in
    let later = c.next.new.self in (
      tt,
      tt,
      ap (λ all. map view all ++ later) c.in_ok-push.ensures.items ∙ ap (λ all. all ++ later) (map-append view c.loop-octets.datagrams.items (octets ∷ []))
          ∙ append_assoc done (octets.now ∷ []) later ∙ ap (λ left. done ++ left) (sym c.in-Some.ensures.steps) ∙ c.loop-octets.invariant.2,
    )

pub returns : goal.returns
returns c =
    let view : Bor (List ℕ) → List ℕ = λ datagram. datagram.now in
    sym (append-nil _) ∙ ap (λ left. map view c.loop-octets.datagrams.items ++ left) (sym c.in-None.ensures.steps.0) ∙ c.loop-octets.invariant.2
