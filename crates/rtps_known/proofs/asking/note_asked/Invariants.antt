use Rattle.std.proofs.Common.{◌≡◌, ℕ, ◌&&◌, Some, None, cond, nat_lt}
use Rattle.rtps_ids.specs.declared.identity.GuidPrefix.{GuidPrefix}
use Rattle.rtps_receiver.specs.Values as values
use Rattle.rtps_known.specs.Spreads as spreads
use Rattle.rtps_known.proofs.asking.note_asked.Given as goal

-- what the numbers so far have opened
abbrev pub invariant-loop-number : goal.invariant-loop-number
invariant-loop-number l =
    (prefix : GuidPrefix) (n : ℕ)
    → spreads.again_kept l.again prefix n ≡ cond (nat_lt n l.number && spreads.opens l.sent l.bases (values.spoken_value l.act) prefix n) (Some None) (spreads.again_kept l.initial.again prefix n)
