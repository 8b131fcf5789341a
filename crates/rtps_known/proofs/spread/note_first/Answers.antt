use Rattle.std.proofs.Common.{◌∙◌, sym}
use Rattle.std.specs.BTreeMap.{get}
use Rattle.rtps_known.specs.Bulletins as bulletins
use Rattle.rtps_known.proofs.SpreadLemmas.{first_new, first_same, first_there}
use Rattle.rtps_known.proofs.spread.note_first.Goals as goal

pub returns-then-not-holds : goal.returns-then-not-holds
returns-then-not-holds c = first_same (get bulletins.prefix_cmp c.args.firsts.now) c.args.source c.args.holds c.args.place c.if-not-holds.true

pub returns-in_ok-insert : goal.returns-in_ok-insert
returns-in_ok-insert c =
    first_new (get bulletins.prefix_cmp c.args.firsts.now) (get bulletins.prefix_cmp c.insert.new.self) c.args.source c.args.holds c.args.place c.if-not-holds.false
    (sym c.contains_key.ensures ∙ c.if-not-contains_key.true) c.in_ok-insert.ensures.updates.0

pub returns-else-not-contains_key : goal.returns-else-not-contains_key
returns-else-not-contains_key c =
    first_there (get bulletins.prefix_cmp c.args.firsts.now) c.args.source c.args.holds c.args.place (sym c.contains_key.ensures ∙ c.if-not-contains_key.false)
