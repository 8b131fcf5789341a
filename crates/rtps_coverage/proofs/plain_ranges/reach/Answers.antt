use Rattle.std.proofs.Common.{ap, ◌∙◌, sym, inl, inr, arith}
use Rattle.std.proofs.lemmas.Bool.{cases_lt}
use Rattle.std.specs.Prelude.{is_some}
use Rattle.rtps_coverage.specs.Stretches as stretches
use Rattle.rtps_coverage.proofs.StretchLemmas.{list_any-find, find_tells}
use Rattle.rtps_coverage.proofs.plain_ranges.reach.Goals as goal

pub loop-stretch-smaller : goal.loop-stretch-smaller
loop-stretch-smaller c =
    let found = find_tells _ _ _ c.requires.stretches (sym c.in-Some.ensures) in
    omega arith

pub loop-stretch-preserved : goal.loop-stretch-preserved
loop-stretch-preserved c =
    let found = find_tells _ _ _ c.requires.stretches (sym c.in-Some.ensures) in record {
      onward = omega arith;
      in_range = found.bounded;
      between = λ n from to. elim (cases_lt n c.loop-stretch.reached) [ inl below ↦ c.loop-stretch.invariant.between n from below | inr past ↦ found.among n (omega arith) to ];
    }

pub returns : goal.returns
returns c = record {
  onward = c.loop-stretch.invariant.onward;
  in_range = c.loop-stretch.invariant.in_range;
  outside = list_any-find (stretches.stretch_has c.loop-stretch.reached) c.args.stretches.now ∙ ap is_some (sym c.stretch_of.ensures ∙ c.in_default.is);
  between = c.loop-stretch.invariant.between;
}
