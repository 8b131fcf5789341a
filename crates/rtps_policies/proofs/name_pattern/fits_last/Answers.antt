use Rattle.std.proofs.Common.{◌∙◌, ◌-◌, ap, arith, length, sym}
use Rattle.rtps_policies.specs.NamePatterns as name_patterns
use Rattle.rtps_policies.proofs.SegmentLemmas.{last_is, last_not_many, last_short}
use Rattle.rtps_policies.proofs.Slices.{take_behind}
use Rattle.rtps_policies.proofs.name_pattern.fits_last.Goals as goal

pub returns-then-name-count : goal.returns-then-name-count
returns-then-name-count c = sym (last_short c.args.pattern.now c.args.name.now c.requires.fixed (omega (arith, c.if-name-count.true, c.requires.count)))

pub returns-in-Whole : goal.returns-in-Whole
returns-in-Whole c =
    sym (last_is c.args.pattern.now c.args.name.now c.args.count c.requires.fixed c.requires.count (omega (arith, c.if-name-count.false))
    ∙ ap (name_patterns.fits c.args.pattern.now) (sym (take_behind (length c.args.name.now - c.args.count) c.args.name.now)) ∙ c.in-Whole.ensures)

pub returns-in-Failed : goal.returns-in-Failed
returns-in-Failed c =
    sym (last_is c.args.pattern.now c.args.name.now c.args.count c.requires.fixed c.requires.count (omega (arith, c.if-name-count.false))
    ∙ ap (name_patterns.fits c.args.pattern.now) (sym (take_behind (length c.args.name.now - c.args.count) c.args.name.now)) ∙ c.in-Failed.ensures)

pub returns-in-Many : goal.returns-in-Many
returns-in-Many c = absurd (last_not_many c.args.pattern.now c.in-Many.behind.now c.in-Many.ensures.0 c.requires.fixed c.in-Many.ensures.1)
