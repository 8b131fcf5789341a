use Rattle.std.proofs.Common.{◌∙◌, inl, sym}
use Rattle.std.specs.BTreeSet.{contains}
use Rattle.rtps_known.specs.Bulletins as bulletins
use Rattle.rtps_known.specs.Untold as untold
use Rattle.rtps_known.proofs.UntoldLemmas.{may_not_tell, may_tell_is, said_is}
use Rattle.rtps_known.proofs.known.Known.said_of.Goals as goal

pub returns-then-not-may_tell : goal.returns-then-not-may_tell
returns-then-not-may_tell c = λ acts announcing known were twice.
    let naming = c.args.naming in
    inl (may_not_tell acts announcing c.args.attending.announced.now naming (contains bulletins.prefix_cmp c.args.attending.twice.now naming.source)
    (contains bulletins.prefix_cmp c.args.attending.twice.now naming.dest) were (twice naming.source).0 (twice naming.dest).0 (sym c.may_tell.ensures ∙ c.if-not-may_tell.true))

pub returns : goal.returns
returns c = λ acts announcing known were twice.
    let naming = c.args.naming in
    let attendance : untold.Attendance = record { announcing = announcing; visits = c.args.attending.visits.now } in
    said_is acts attendance naming c.in_ok-said.said
    (may_tell_is acts announcing c.args.attending.announced.now naming (contains bulletins.prefix_cmp c.args.attending.twice.now naming.source)
    (contains bulletins.prefix_cmp c.args.attending.twice.now naming.dest) were (twice naming.source).0 (twice naming.dest).0 (twice naming.source).1 (twice naming.dest).1
    (sym c.may_tell.ensures ∙ c.if-not-may_tell.false))
    (c.in_ok-said.ensures acts known)
