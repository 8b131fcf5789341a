use Rattle.std.proofs.Common.{◌∙◌, sym}
use Rattle.std.proofs.lemmas.Bool.Decides.{Decides-eqb}
use Rattle.std.proofs.lemmas.Option.{MatchOption-at_none, MatchOption-at_some}
use Rattle.std.proofs.lemmas.Slice.Eq.{strip_prefix_is}
use Rattle.rtps_report.proofs.PatternLemmas.{last_behind, passed_behind, taken_behind}
use Rattle.rtps_report.proofs.pattern.fits_behind.Goals as goal

pub parts-preserved-in-Some-strip_prefix : goal.parts-preserved-in-Some-strip_prefix
parts-preserved-in-Some-strip_prefix c =
    let part = c.in-Some.part.now in
    let begins = MatchOption-at_some _ _ c.in-Some-strip_prefix.onward c.in-Some-strip_prefix.is (strip_prefix_is Decides-eqb c.parts.left.now part c.strip_prefix.result c.strip_prefix.ensures.cases) in
    c.parts.invariant ∙ taken_behind c.parts.rest.now part c.in-Some.behind.now c.parts.left.now c.in-Some-strip_prefix.onward.now c.in-Some.ensures.0 c.in-Some.ensures.1 begins

pub parts-preserved : goal.parts-preserved
parts-preserved c =
    let part = c.in-Some.part.now in
    let none = MatchOption-at_none _ _ c.in_default-strip_prefix.is (strip_prefix_is Decides-eqb c.parts.left.now part c.strip_prefix.result c.strip_prefix.ensures.cases) in
    c.parts.invariant ∙ passed_behind c.parts.rest.now part c.in-Some.behind.now c.parts.left.now c.in-Some-split_first.onward.now c.in-Some-split_first.field-0-0.now c.in-Some.ensures.0 c.in-Some.ensures.1 none c.in-Some-split_first.ensures.cases.0

pub returns : goal.returns
returns c = last_behind c.parts.rest.now c.parts.left.now c.ends_with.result c.in_default.ensures c.ends_with.ensures.value ∙ sym c.parts.invariant
