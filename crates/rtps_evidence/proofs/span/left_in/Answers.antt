use Rattle.std.proofs.Common.{◌≡◌, ◌∙◌, ℕ, ap, filter, Bool, List, Option}
use Rattle.std.specs.List.{find}
use Rattle.rtps_audit.specs.Placed as placed
use Rattle.rtps_evidence.specs.Spans as spans
use Rattle.rtps_evidence.proofs.PlacedOrder.{placed_ordered}
use Rattle.rtps_evidence.proofs.SpanLemmas.{datagram_of, left_of_two}
use Rattle.rtps_evidence.proofs.span.left_in.Goals as goal

pub returns : goal.returns
returns c = λ intake is.
    let one = c.leaving_writers.result.0 in
    let other = c.leaving_writers.result.1 in
    let all = placed.placed_in intake.acts in
    let test : placed.PlacedValue → Bool = spans.leaves_behind c.args.place c.args.reader in
    let first : c.left_among-reader_left.result ≡ datagram_of (find test (filter (placed.is_from one) all)) =
    c.left_among-reader_left.ensures ∙ ap (λ (l : List placed.PlacedValue). datagram_of (find test l)) (c.acts_of.ensures intake is) in
    let second : c.left_among-participant_left.result ≡ datagram_of (find test (filter (placed.is_from other) all)) =
    c.left_among-participant_left.ensures ∙ ap (λ (l : List placed.PlacedValue). datagram_of (find test l)) (c.acts_of-2.ensures intake is) in
    c.lesser.ensures
    ∙ ap (λ (o : Option ℕ). spans.lesser_of o c.left_among-participant_left.result) first
    ∙ ap (λ (o : Option ℕ). spans.lesser_of (datagram_of (find test (filter (placed.is_from one) all))) o) second
    ∙ left_of_two one other c.args.reader c.args.place all 1 (placed_ordered 0 intake.acts) c.leaving_writers.ensures
