use Rattle.std.proofs.Common.{◌≤◌, ◌∙◌, [], ap, map, refl, subst, sym}
use Rattle.std.specs.List.Sorted.{IsStrictlySortedBy}
use Rattle.std.proofs.lemmas.List.Elements.{All-nil}
use Rattle.rtps_discovery.specs.GuidOrder.{guid_cmp}
use Rattle.rtps_audit.specs.Account as account
use Rattle.rtps_audit.specs.FrontRanges as front_ranges
use Rattle.rtps_audit.specs.declared.ask.Ask.{Ask}
use Rattle.rtps_passes.specs.Judging as judging
use Rattle.rtps_passes.proofs.BeginLemmas.{pairs_with, readers_in_order}
use Rattle.rtps_passes.proofs.TakingLemmas.{taken_by}
use Rattle.rtps_passes.proofs.judged_writer.JudgedWriter.of.Goals as goal

pub returns-clause-pairs : goal.returns-clause-pairs
returns-clause-pairs c = ap (map (judging.pair_with c.args.writer)) c.in_ok-readers_of.ensures ∙ pairs_with c.args.writer c.args.pairs.now c.requires

pub returns-clause-taken : goal.returns-clause-taken
returns-clause-taken c = λ sorted.
    let writer = c.args.writer in
    let pairs = c.args.pairs.now in
    let are = ap (map (judging.pair_with writer)) c.in_ok-readers_of.ensures ∙ pairs_with writer pairs c.requires in
    taken_by c.args.from 0 [] [] _ writer c.in_ok-readers_of.field-0.items [] refl refl (All-nil (λ (ask : Ask). ask.answer.datagram ≤ 0)) (λ place d lt. refl)
    (subst (IsStrictlySortedBy guid_cmp) (sym c.in_ok-readers_of.ensures) (readers_in_order writer pairs c.requires sorted))
    (subst (λ l. account.AllStand front_ranges.front_has c.args.from writer l [] [] c.in_ok-new.field-0) (sym are) c.in_ok-new.ensures)
