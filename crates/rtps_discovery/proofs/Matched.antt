-- The test of a match, and what it means.
use Rattle.std.proofs.Common.{◌≡◌, ◌≤◌, ℕ, Bool, nat_le, Decides, refl, sym, IsTrue, ◌↔◌, ◌∙◌, inl, inr, arith}
use Rattle.std.specs.Cmp.Lexicographic.{bytes_decides}
use Rattle.std.proofs.lemmas.Bool.{false≢true}
use Rattle.std.proofs.lemmas.Bool.Decides.{Decides-and, Decides-like, leb_tells, same_from_decides}
use Rattle.rtps_discovery.specs.Endpoint as endpoint
use Rattle.rtps_discovery.specs.Matching as matching
use Rattle.rtps_discovery.specs.declared.endpoint.Side.{Side}

writer_decides : (side : Side) → Decides (matching.is_writer side) (side ≡ Side.Writer)
writer_decides Side.Writer = (λ _. refl, λ _. refl)
writer_decides Side.Reader = (λ e. absurd (false≢true e), λ e. cc)

reader_decides : (side : Side) → Decides (matching.is_reader side) (side ≡ Side.Reader)
reader_decides Side.Writer = (λ e. absurd (false≢true e), λ e. cc)
reader_decides Side.Reader = (λ _. refl, λ _. refl)

pub le_decides : (a b : ℕ) → Decides (nat_le a b) (a ≤ b)
le_decides a b =
    elim (leb_tells a b) [ inl h ↦ (λ _. h.1, λ _. h.0) | inr h ↦ (λ e. absurd (false≢true (sym h.0 ∙ e)), λ le. absurd (omega arith)) ]

pub is_match_decides : (writer reader : endpoint.EndpointValue) → Decides (matching.is_match writer reader) (matching.Matches writer reader)
unfolding matching.is_match
is_match_decides writer reader =
    Decides-like _ (λ h. record { is_writer = h.0; is_reader = h.1.0; one_topic = h.1.1.0; one_type = h.1.1.1.0; reliable_enough = h.1.1.1.1.0; durable_enough = h.1.1.1.1.1 })
    (λ h. (h.is_writer, (h.is_reader, (h.one_topic, (h.one_type, (h.reliable_enough, h.durable_enough))))))
    (Decides-and _ _ (writer_decides writer.side) (Decides-and _ _ (reader_decides reader.side)
    (Decides-and _ _ (bytes_decides writer.topic reader.topic) (Decides-and _ _ (bytes_decides writer.type_name reader.type_name)
    (Decides-and _ _ (le_decides (matching.reliability_rank reader.reliability) (matching.reliability_rank writer.reliability)) (le_decides (matching.durability_rank reader.durability) (matching.durability_rank writer.durability)))))))

-- a test that says the same
pub is_match_from_meaning : (result : Bool) (writer reader : endpoint.EndpointValue) → (IsTrue result ↔ matching.Matches writer reader) → result ≡ matching.is_match writer reader
is_match_from_meaning result writer reader h = same_from_decides result (matching.is_match writer reader) h (is_match_decides writer reader)
