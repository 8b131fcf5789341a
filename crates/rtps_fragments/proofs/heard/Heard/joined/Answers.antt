use Rattle.std.proofs.Common.{◌≡◌, ◌+◌, ◌<◌, ◌∙◌, ℕ, List, Some, ap, arith, slice_get, suc, refl, subst}
use Rattle.std.specs.Prelude.{length}
use Rattle.std.specs.List.{concat}
use Rattle.std.proofs.lemmas.List.{take_all}
use Rattle.std.proofs.lemmas.Option.{slice_get_read}
use Rattle.std.specs.Borrow.{Bor}
use Rattle.rtps_fragments.specs.Heard as heard
use Rattle.rtps_fragments.specs.declared.heard.Heard.{Heard}
use Rattle.rtps_wire.specs.DataFrag as data_frag
use Rattle.rtps_fragments.proofs.KeptLemmas.{front_first, joined_first, joined_with, length-with_part}
use Rattle.rtps_fragments.proofs.SampleLemmas.{firsts_get}
use Rattle.rtps_fragments.proofs.heard.Heard.joined.Goals as goal
use Rattle.rtps_fragments.proofs.heard.Heard.joined.Goals.{then-place-other+in_ok-extend_from_slice, else-place-other+in_ok-extend_from_slice-2}

front : (kept : Heard) (i : ℕ) (octets : Bor (List ℕ)) → slice_get kept.front.items i ≡ Some octets → heard.kept_first kept (i + 1) ≡ Some octets.now
front kept i octets e = let more : i + 1 ≡ suc i = omega arith in ap (heard.kept_first kept) more ∙ front_first kept i octets e

pub loop-place-preserved : goal.loop-place-preserved
loop-place-preserved c = λ came parts is all.
    let place = c.loop-place.place in
    let index = c.args.other.0 in
    let octets = c.args.other.1.now in
    let so_far = c.loop-place.sample.items in
    let last = data_frag.last_fragment c.args.shape in
    let lt : place < last = subst (λ n. place < n) c.last_fragment-place-end.ensures c.loop-place-test.true in
    let so = c.loop-place.invariant came parts is all in
    elim c.if-place-other.branch [
      | then-place-other+in_ok-extend_from_slice w ↦
          (λ j. (w.sample-is j).items) ∙ w.in_ok-extend_from_slice.ensures.items ∙ joined_with last came c.args.self.now parts index place octets so_far is all lt so w.if-place-other.true
      | else-place-other+in_ok-extend_from_slice-2 w ↦
          (λ j. (w.sample-is j).items) ∙ w.in_ok-extend_from_slice-2.ensures.items
          ∙ joined_first last came c.args.self.now parts index place octets so_far is all lt so w.if-place-other.false w.index.result.now.now (front c.args.self.now place w.index.result.now (slice_get_read c.args.self.now.front.items (length c.args.self.now.front.items) place w.index.result.now refl (let whole = c.requires.whole in omega arith) w.index.ensures))
    ]

pub returns : goal.returns
returns c = λ came parts is all.
    let gets = firsts_get came (data_frag.last_fragment c.args.shape) parts all in
    let whole : length (heard.with_part parts c.args.other.0 c.args.other.1.now) ≡ data_frag.last_fragment c.args.shape = length-with_part parts c.args.other.0 c.args.other.1.now ∙ gets.0 in
    c.into_bump_slice.ensures ∙ c.loop-place.invariant came parts is all ∙ ap concat (take_all c.loop-place.place (heard.with_part parts c.args.other.0 c.args.other.1.now) (omega (arith, whole, c.last_fragment-place-end.ensures, c.loop-place-test.false)))
