-- What is counted of the samples that acts tell, at one place, and of acts without fragments.
use Rattle.std.proofs.Common.{◌≡◌, ◌<◌, ◌+◌, ◌∙◌, ℕ, zero, suc, false, List, [], ◌∷◌, ◌++◌, ap, ap₂, append-nil, append_assoc, arith, get_or, length, map, refl, sym, take}
use Rattle.rtps_ids.specs.declared.identity.Guid.{Guid}
use Rattle.rtps_audit.specs.Placed as placed_spec
use Rattle.rtps_fragments.specs.Hearing as hearing
use Rattle.rtps_fragments.specs.SampleActs as sample_acts
use Rattle.rtps_fragments.specs.SampleCounts as sample_counts
use Rattle.rtps_fragments.proofs.Offered.{as_sent, no_piece}

-- the count of the act at a place
counts_from : (count : List placed_spec.PlacedValue → placed_spec.PlacedValue → ℕ) (before acts : List placed_spec.PlacedValue) (at : ℕ) (one : placed_spec.PlacedValue) → at < length acts → one ≡ get_or acts at one
    → get_or (sample_counts.counts_behind count before acts) at 0 ≡ count (before ++ take at acts) one
counts_from count before [] at one lt is = absurd (omega (arith, lt))
counts_from count before (act ∷ acts) zero one lt is = ap₂ count (sym (append-nil before)) (sym is)
counts_from count before (act ∷ acts) (suc at) one lt is =
    counts_from count (before ++ act ∷ []) acts at one (omega (arith, lt)) is ∙ ap (λ b. count b one) (append_assoc before (act ∷ []) (take at acts))

pub counts_at : (count : List placed_spec.PlacedValue → placed_spec.PlacedValue → ℕ) (acts : List placed_spec.PlacedValue) (at : ℕ) (one : placed_spec.PlacedValue) → at < length acts → one ≡ get_or acts at one
    → get_or (sample_counts.counts_behind count [] acts) at 0 ≡ count (take at acts) one
counts_at count acts at one lt is = counts_from count [] acts at one lt is

-- ---- acts without fragments tell nothing

pub no_samples : (reader : Guid) (before : List placed_spec.PlacedValue) (one : placed_spec.PlacedValue) → hearing.sends_fragments one.act.body ≡ false → sample_counts.samples_at reader before one ≡ 0
no_samples reader before one none = ap (λ p. length (sample_acts.samples_told reader (sample_counts.with_pieces before) one.act p)) (no_piece one.act.body none)

pub none_overheard : (before : List placed_spec.PlacedValue) (one : placed_spec.PlacedValue) → hearing.sends_fragments one.act.body ≡ false → sample_counts.overheard_at before one ≡ 0
none_overheard before one none =
    ap (sample_counts.samples_at hearing.nobody (map hearing.for_everyone before)) (as_sent one none) ∙ no_samples hearing.nobody (map hearing.for_everyone before) one none
