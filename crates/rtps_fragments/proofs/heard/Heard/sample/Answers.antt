use Rattle.std.proofs.lemmas.Bool.Decides.{nat_tests}
use Rattle.std.proofs.Common.{ℕ, List, ◌∙◌, ap, arith, sym}
use Rattle.std.specs.Prelude.{IfOk, Some, Result, slice_get}
use Rattle.std.specs.Borrow.{Bor}
use Rattle.rtps_ids.specs.declared.memory.Memory.{Memory}
use Rattle.rtps_wire.specs.DataFrag as data_frag
use Rattle.rtps_fragments.specs.Samples as samples
use Rattle.rtps_fragments.proofs.KeptLemmas.{parts_there, sample_at_first, sample_at_second}
use Rattle.rtps_fragments.proofs.heard.Heard.sample.Goals as goal

weaker : (result : Result (Bor (List ℕ)) Memory) (P Q : Bor (List ℕ) → Type 0) → ((v : Bor (List ℕ)) → P v → Q v) → IfOk result P → IfOk result Q
weaker result P Q h h2 = grind (arith, nat_tests)

pub returns-then-place-eq0 : goal.returns-then-place-eq0
returns-then-place-eq0 c = weaker c.joined.result _ _ (λ v made came is within.
    let (parts, all) = parts_there (data_frag.last_fragment c.args.shape) came (omega arith) in
    ap (slice_get (samples.samples_of (data_frag.last_fragment c.args.shape) came)) c.if-place-eq0.true ∙ sample_at_first (data_frag.last_fragment c.args.shape) came parts all ∙ ap Some (sym (made came parts is all))) c.joined.ensures

pub returns-else-place-eq0 : goal.returns-else-place-eq0
returns-else-place-eq0 c = weaker c.joined-else-place-eq0.result _ _ (λ v made came is within.
    let (parts, all) = parts_there (data_frag.last_fragment c.args.shape) came (omega arith) in
    sample_at_second (data_frag.last_fragment c.args.shape) came c.args.self.now parts c.args.place is all (omega (arith, c.if-place-eq0.false)) within ∙ ap Some (sym (made came parts is all))) c.joined-else-place-eq0.ensures
