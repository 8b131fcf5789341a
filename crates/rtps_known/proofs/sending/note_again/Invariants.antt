use Rattle.std.proofs.Common.{◌≡◌, ℕ, ◌&&◌, nat_lt, not}
use Rattle.std.specs.BTreeMap.{is_at}
use Rattle.std.specs.List.{list_any}
use Rattle.rtps_ids.specs.declared.identity.GuidPrefix.{GuidPrefix}
use Rattle.rtps_known.specs.Bulletins as bulletins
use Rattle.rtps_known.specs.Spreads as spreads
use Rattle.rtps_known.proofs.sending.note_again.Given as goal

-- what is kept, with those that are left
abbrev pub invariant-loop-prefix : goal.invariant-loop-prefix
invariant-loop-prefix l =
    (prefix : GuidPrefix) (n : ℕ)
    → spreads.filled (not (nat_lt n (spreads.base_kept l.bases prefix)) && (spreads.hears_by l.hearing.sending prefix n && list_any (is_at (bulletins.prefix_cmp prefix)) l.prefix-iterator)) l.hearing.place (spreads.again_kept l.again prefix n)
    ≡ spreads.filled (not (nat_lt n (spreads.base_kept l.bases prefix)) && (spreads.hears_by l.hearing.sending prefix n && list_any (is_at (bulletins.prefix_cmp prefix)) l.askers.keys)) l.hearing.place (spreads.again_kept l.initial.again prefix n)
