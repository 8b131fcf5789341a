use Rattle.std.proofs.Common.{◌∙◌, List, ap}
use Rattle.std.specs.BTreeSet.{contains}
use Rattle.std.specs.List.{list_any}
use Rattle.std.specs.Ordering.{is_eq}
use Rattle.rtps_known.specs.Bulletins as bulletins
use Rattle.rtps_known.specs.Recorded as recorded
use Rattle.rtps_known.specs.declared.life.Life.{Life}
use Rattle.rtps_known.proofs.UntoldLemmas.{twice_is}
use Rattle.rtps_known.proofs.known.Known.twice.Goals as goal

pub returns : goal.returns
returns c = λ acts known prefix.
    twice_is (recorded.acts_of acts) c.in_ok-lives.lives.items prefix (contains bulletins.prefix_cmp c.in_ok-twice.twice prefix)
    (c.in_ok-twice.ensures prefix ∙ ap (λ (lives : List Life). list_any (λ life. is_eq (bulletins.prefix_cmp life.participant prefix)) lives) c.deref.ensures.value)
    (c.in_ok-lives.ensures acts known)
