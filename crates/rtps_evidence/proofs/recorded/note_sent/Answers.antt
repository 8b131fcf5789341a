use Rattle.std.proofs.Common.{◌∙◌, ◌||◌, Bool, ap, sym}
use Rattle.std.proofs.lemmas.Result.{on_ok_weaker}
use Rattle.rtps_audit.specs.Placed as placed
use Rattle.rtps_receiver.specs.Said as said
use Rattle.rtps_evidence.specs.Amount as amount
use Rattle.rtps_evidence.specs.Locations as locations
use Rattle.rtps_evidence.proofs.FindLemmas.{any_one_more}
use Rattle.rtps_evidence.proofs.recorded.note_sent.Goals as goal

pub returns : goal.returns
returns c =
    let pair = c.args.pair in
    let x = placed.placed_value c.args.placed.now in
    on_ok_weaker c.push_number.result
    (λ more acts n so_far.
    more n
    ∙ ap (λ (b : Bool). b || said.is_at n c.said_to.result.told) so_far
    ∙ ap (λ (b : Bool). amount.is_sent pair.writer pair.reader acts n || b) (c.said_to.ensures.told n)
    ∙ sym (any_one_more (locations.sends pair.writer pair.reader n) acts x))
    c.push_number.ensures
