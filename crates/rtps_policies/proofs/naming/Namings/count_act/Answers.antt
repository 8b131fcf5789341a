use Rattle.std.proofs.Common.{◌∙◌, sym}
use Rattle.std.specs.BTreeMap.{get}
use Rattle.std.specs.BTreeSet.{contains}
use Rattle.std.proofs.lemmas.Bool.{not-true}
use Rattle.rtps_receiver.specs.Values as values
use Rattle.rtps_policies.specs.Namings as namings
use Rattle.rtps_policies.proofs.NamingLemmas.{count_new, seen_one}
use Rattle.rtps_policies.proofs.naming.Namings.count_act.Goals as goal

pub returns-clause-seen : goal.returns-clause-seen
returns-clause-seen c = λ naming.
    seen_one (values.spoken_value c.args.act.now) c.in-Some.dest naming (contains namings.naming_cmp c.args.seen.now naming) _ c.in-Some.is (c.in_ok-added.ensures.updates.0 naming)

pub returns-clause-count : goal.returns-clause-count
returns-clause-count c = λ naming.
    count_new (values.spoken_value c.args.act.now) c.in-Some.dest (contains namings.naming_cmp c.args.seen.now) (get namings.naming_cmp c.args.self.now.counts) (get namings.naming_cmp c.insert-2.new.self) c.named-count.result naming c.in-Some.is
    (not-true _ (sym c.in_ok-added.ensures.added ∙ c.if-not-added.false)) c.named-count.ensures (c.in_ok-insert.ensures.updates.0 naming)
