use Rattle.std.proofs.Common.{◌≡◌, ◌++◌, ◌≤◌, ◌∙◌, ℕ, List, MatchOption, None, Option, Some, ⊎_elim, ap, append-nil, arith, drop, length, sym}
use Rattle.std.proofs.Math.Seq.{drop-length}
use Rattle.std.proofs.lemmas.List.Folds.{drop_split}
use Rattle.std.specs.List.{slice_range}
use Rattle.rtps_text.specs.ShowText as show_text
use Rattle.rtps_text.proofs.ShowLemmas.{nothing_behind}
use Rattle.rtps_text.proofs.text.show_text.fragments_at.Goals as goal

-- what holds of a value that is found, and where none is
either : {T P Q : Type 0} {R S : T → Type 0} (found : Option T) → (P → Q) → ((x : T) → R x → S x) → MatchOption found P R → MatchOption found Q S
either None nothing something is = nothing is
either (Some x) nothing something is = something x is

-- the octets from a place on
from_place : (octets : List ℕ) (at : ℕ) → at ≤ length octets → drop at octets ≡ slice_range octets at (length octets)
from_place octets at within =
    drop_split octets at (length octets) within ∙ ap (λ end. slice_range octets at (length octets) ++ end) (drop-length octets) ∙ append-nil (slice_range octets at (length octets))

pub returns-in-Read : goal.returns-in-Read
returns-in-Read c =
    let octets = c.args.datagram.octets.now in
    let at = c.args.at in
    rw c.in-Read.is
    (either c.get.result (λ past. sym (nothing_behind octets at (⊎_elim (λ behind. behind) (λ never. absurd (omega arith)) past)))
    (λ submessage is. ap show_text.said_at (from_place octets at is.0 ∙ sym is.2)) c.get.ensures.lookup.0)
