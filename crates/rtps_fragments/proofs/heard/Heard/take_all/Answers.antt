use Rattle.std.proofs.lemmas.Grind.{common_steps}
use Rattle.std.proofs.lemmas.Bool.Decides.{nat_tests}
use Rattle.std.proofs.Common.{◌≡◌, ◌++◌, ◌∙◌, ◌+◌, ◌-◌, ap, arith, drop, length, min, sym, suc, take}
use Rattle.std.proofs.lemmas.List.{drop_min, take_min, take_all}
use Rattle.rtps_fragments.specs.Heard as heard
use Rattle.rtps_wire.specs.DataFrag as data_frag
use Rattle.rtps_fragments.proofs.KeptLemmas.{length-parts_in, parts_behind, piece_step}
use Rattle.rtps_fragments.proofs.heard.Heard.take_all.Goals as goal

pub loop-place-preserved : goal.loop-place-preserved
loop-place-preserved c =
    let fragment = c.args.shape.fragment in
    let count = c.args.fragments.now.count in
    let place = c.loop-place.place in
    let rest = c.loop-place.rest.now in
    let parts = data_frag.parts_in fragment count c.args.fragments.now.octets.now in
    let lt = c.loop-place-test.true in
    let size : c.min.result ≡ min fragment (length rest) = omega (arith, c.min.ensures, c.from-size.ensures) in
    let octets : c.split_at.result.0.now ≡ take fragment rest = c.split_at.ensures.front ∙ ap (λ n. take n rest) size ∙ take_min fragment rest in
    let behind : c.split_at.result.1.now ≡ drop fragment rest = c.split_at.ensures.back ∙ ap (λ n. drop n rest) size ∙ drop_min fragment rest in
    let more : suc place ≡ place + 1 = omega arith in (
      λ came is.
          piece_step c.last_fragment-last.result c.args.fragments.now.first count fragment place _ parts rest c.split_at.result.0.now came c.take.new.self c.loop-place.invariant.1 lt (omega (arith, c.from.ensures)) octets
          (c.in_ok-take.ensures (came ++ heard.came_from c.args.fragments.now.first (take place parts)) (c.loop-place.invariant.0 came is)),
      ap (λ n. drop n parts) (sym more) ∙ parts_behind fragment count place parts rest c.loop-place.invariant.1 lt ∙ ap (λ n. data_frag.parts_in fragment (count - n) (drop fragment rest)) more ∙ ap (data_frag.parts_in fragment (count - (place + 1))) (sym behind),
    )

pub returns : goal.returns
returns c = grind (arith, nat_tests, common_steps, length-parts_in, take_all)
