-- Pieces of the octets of a recording.
use Rattle.std.proofs.Common.{◌≡◌, ℕ, ◌+◌, ◌-◌, ◌≤◌, List, [], ◌∷◌, ◌++◌, length, drop, refl, sym, ap₂, ◌∙◌, arith}
use Rattle.std.proofs.lemmas.List.{take-append-le, drop-append-le, length-drop, map-append, take_all, drop_at}
use Rattle.std.proofs.lemmas.List.Elements.{All-head, All-tail}
use Rattle.rtps_report.specs.DatagramSpan as datagram_span
use Rattle.rtps_report.specs.declared.datagram_span.DatagramSpan.{DatagramSpan}

-- a piece within the front stays
piece-append : (xs ys : List ℕ) (span : DatagramSpan) → datagram_span.StandsWithin (length xs) span → datagram_span.piece (xs ++ ys) span ≡ datagram_span.piece xs span
piece-append xs ys span within =
    let first : datagram_span.start_of span ≤ length xs = omega (arith, within.0, within.1) in
    let rest : datagram_span.end_of span - datagram_span.start_of span ≤ length (drop (datagram_span.start_of span) xs) = omega (arith, length-drop (datagram_span.start_of span) xs, within.0, within.1) in
    rw (drop-append-le, take-append-le) refl

pieces-append : (xs ys : List ℕ) (spans : List DatagramSpan) → datagram_span.AreSpans xs spans → datagram_span.pieces (xs ++ ys) spans ≡ datagram_span.pieces xs spans
pieces-append xs ys [] within = refl
pieces-append xs ys (span ∷ spans) within =
    ap₂ (λ (first : List ℕ) (rest : List (List ℕ)). first ∷ rest) (piece-append xs ys span (All-head (datagram_span.StandsWithin (length xs)) span spans within))
    (pieces-append xs ys spans (All-tail (datagram_span.StandsWithin (length xs)) span spans within))

-- the octets that were appended are a piece
piece-last : (xs ys : List ℕ) (span : DatagramSpan) → datagram_span.start_of span ≡ length xs → datagram_span.end_of span ≡ length xs + length ys → datagram_span.piece (xs ++ ys) span ≡ ys
piece-last xs ys span from to =
    let whole : drop (datagram_span.start_of span) (xs ++ ys) ≡ ys = drop_at xs ys (datagram_span.start_of span) (sym from) in
    let size : length ys ≤ datagram_span.end_of span - datagram_span.start_of span = omega arith in
    rw whole (take_all (datagram_span.end_of span - datagram_span.start_of span) ys size)

pub pieces-push : (xs ys : List ℕ) (spans : List DatagramSpan) (span : DatagramSpan) → datagram_span.AreSpans xs spans → datagram_span.start_of span ≡ length xs → datagram_span.end_of span ≡ length xs + length ys
    → datagram_span.pieces (xs ++ ys) (spans ++ span ∷ []) ≡ datagram_span.pieces xs spans ++ ys ∷ []
pieces-push xs ys spans span within from to =
    map-append (datagram_span.piece (xs ++ ys)) spans (span ∷ [])
    ∙ ap₂ (λ (front : List (List ℕ)) (last : List ℕ). front ++ last ∷ []) (pieces-append xs ys spans within) (piece-last xs ys span from to)
