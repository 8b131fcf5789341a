use Rattle.std.proofs.lemmas.Bool.Decides.{nat_tests}
use Rattle.std.proofs.Common.{◌≡◌, [], ◌++◌, ◌∙◌, ℕ, List, ap, arith, map, subst, sym}
use Rattle.std.specs.Option.{option_copied_mut}
use Rattle.std.specs.BTreeMap.{get}
use Rattle.rtps_wire.specs.DataFrag as data_frag
use Rattle.rtps_fragments.specs.Samples as samples
use Rattle.rtps_fragments.specs.ToldSamples as told_samples
use Rattle.rtps_fragments.proofs.MakingLemmas.{begun, nothing_came}
use Rattle.rtps_fragments.proofs.making.Makings.take.Goals as goal

pub returns-in-Some-clause-here : goal.returns-in-Some-clause-here
returns-in-Some-clause-here c = grind (arith, nat_tests)

pub returns-in-Some-clause-whole : goal.returns-in-Some-clause-whole
returns-in-Some-clause-whole c = grind (arith, nat_tests)

pub returns-clause-here : goal.returns-clause-here
returns-clause-here c = λ came was.
    let sent = told_samples.sent_value c.args.sent.now in
    begun sent.key c.args.self.now.kept c.insert.new.self c.new-heard.result _ came sent.came (sym c.get_mut.ensures.value ∙ ap option_copied_mut c.in_default.is) c.in_ok-insert.ensures.updates.1
    c.in_ok-whole.ensures.came (c.new-heard.ensures (data_frag.last_fragment (told_samples.shape_of sent.key))) was

pub returns-clause-whole : goal.returns-clause-whole
returns-clause-whole c = λ came was.
    let sent = told_samples.sent_value c.args.sent.now in
    let last = data_frag.last_fragment (told_samples.shape_of sent.key) in
    let none = sym c.get_mut.ensures.value ∙ ap option_copied_mut c.in_default.is in
    subst (λ cs. c.in_ok-whole.whole ≡ samples.has_sample last (cs ++ sent.came)) (sym (nothing_came sent.key (get told_samples.sample_cmp c.args.self.now.kept sent.key) came none was)) (c.in_ok-whole.ensures.whole [] (c.new-heard.ensures last))
