use Rattle.std.proofs.Common.{◌≡◌, ℕ, ◌-◌, ◌≤◌}
use Rattle.rtps_fragments.specs.Heard as heard
use Rattle.rtps_fragments.proofs.heard.Heard.advance.Given as goal

-- what is kept stays, in whichever place
abbrev pub invariant-loop-self : goal.invariant-loop-self
invariant-loop-self l =
    ((i : ℕ) → heard.kept_first l.self i ≡ heard.kept_first l.fn.self i) × (heard.kept_front l.fn.self ≤ l.last → heard.kept_front l.self ≤ l.last) × (heard.kept_other l.self ≡ heard.kept_other l.fn.self)

abbrev pub decreases-loop-self : goal.decreases-loop-self
decreases-loop-self l = l.last - heard.kept_front l.self
