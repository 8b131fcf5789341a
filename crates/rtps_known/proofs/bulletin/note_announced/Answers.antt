use Rattle.std.proofs.Common.{◌∙◌, ◌||◌, ap}
use Rattle.std.specs.List.{list_any}
use Rattle.rtps_known.specs.Tellings as tellings
use Rattle.rtps_known.proofs.BoolLemmas.{or_none}
use Rattle.rtps_known.proofs.KeyLemmas.{any_key}
use Rattle.rtps_known.proofs.OrderLemmas.{announcement_cmp, exact_announcements}
use Rattle.rtps_known.proofs.bulletin.note_announced.Goals as goal

pub returns-in_default : goal.returns-in_default
returns-in_default c = λ test.
    or_none (list_any test c.args.announced.now.keys) ∙ ap (λ o. list_any test c.args.announced.now.keys || tellings.holds test o) c.in_default.ensures

pub returns : goal.returns
returns c = λ test.
    ap (list_any test) c.in_ok-insert.ensures.keys ∙ any_key announcement_cmp exact_announcements test c.args.announced.now.keys c.in-Some.one
    ∙ ap (λ o. list_any test c.args.announced.now.keys || tellings.holds test o) c.in-Some.ensures
