use Rattle.std.proofs.Common.{◌≡◌, ◌∙◌, ap}
use Rattle.rtps_evidence.specs.OtherSide as other_side
use Rattle.rtps_evidence.proofs.other_side.Arrivals.of.Goals as goal

pub returns : goal.returns
returns c = λ intake beside are.
    let way = c.in_ok-way.ensures intake beside are in
    let held : c.holds_by-is_held.result ≡ other_side.is_held intake.acts beside.other c.args.pair = c.holds_by-is_held.ensures ∙ ap other_side.holds_by way in
    record { way_is = way; holds = held; numbers = c.in_ok-numbers.ensures intake beside are held }
