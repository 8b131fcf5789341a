use Rattle.std.proofs.Common.{◌∙◌, ◌||◌, ap}
use Rattle.std.specs.List.{list_any}
use Rattle.std.specs.Ordering.{nat_cmp}
use Rattle.std.proofs.lemmas.Map.Lookups.{exact_unsigned}
use Rattle.rtps_known.specs.Tellings as tellings
use Rattle.rtps_known.proofs.BoolLemmas.{or_none}
use Rattle.rtps_known.proofs.KeyLemmas.{any_key}
use Rattle.rtps_known.proofs.bulletin.note_ended.Goals as goal

pub returns-in_default : goal.returns-in_default
returns-in_default c = λ test.
    or_none (list_any test c.args.ended.now.keys) ∙ ap (λ o. list_any test c.args.ended.now.keys || tellings.holds test o) c.in_default.ensures

pub returns : goal.returns
returns c = λ test.
    ap (list_any test) c.in_ok-insert.ensures.keys ∙ any_key nat_cmp exact_unsigned test c.args.ended.now.keys c.in-Some.number
    ∙ ap (λ o. list_any test c.args.ended.now.keys || tellings.holds test o) c.in-Some.ensures
