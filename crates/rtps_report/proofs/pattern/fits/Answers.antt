use Rattle.std.proofs.Common.{◌∙◌, sym}
use Rattle.std.proofs.lemmas.Bool.Decides.{Decides-eqb}
use Rattle.std.proofs.lemmas.Option.{MatchOption-at_none, MatchOption-at_some}
use Rattle.std.proofs.lemmas.Slice.Eq.{strip_prefix_is}
use Rattle.rtps_report.proofs.PatternLemmas.{not_taken, taken, whole}
use Rattle.rtps_report.proofs.pattern.fits.Goals as goal

pub returns-in_default : goal.returns-in_default
returns-in_default c = whole c.args.pattern.now c.args.topic.now c.eq.result c.in_default.ensures c.eq.ensures

pub returns-in-Some-strip_prefix : goal.returns-in-Some-strip_prefix
returns-in-Some-strip_prefix c =
    let part = c.in-Some.part.now in
    let begins = MatchOption-at_some _ _ c.in-Some-strip_prefix.left c.in-Some-strip_prefix.is (strip_prefix_is Decides-eqb c.args.topic.now part c.strip_prefix.result c.strip_prefix.ensures.cases) in
    c.fits_behind.ensures ∙ sym (taken c.args.pattern.now part c.in-Some.behind.now c.args.topic.now c.in-Some-strip_prefix.left.now c.in-Some.ensures.0 c.in-Some.ensures.1 begins)

pub returns-in-None : goal.returns-in-None
returns-in-None c =
    let part = c.in-Some.part.now in
    let none = MatchOption-at_none _ _ c.in-None.is (strip_prefix_is Decides-eqb c.args.topic.now part c.strip_prefix.result c.strip_prefix.ensures.cases) in
    sym (not_taken c.args.pattern.now part c.in-Some.behind.now c.args.topic.now c.in-Some.ensures.0 c.in-Some.ensures.1 none)
