use Rattle.std.proofs.Common.{◌≡◌, ◌≤◌, ◌-◌, ◌++◌, drop, length}
use Rattle.rtps_page.specs.SafeText as safe_text
use Rattle.rtps_page.proofs.safe_text.push_safe.Given as goal

abbrev pub invariant-runs : goal.invariant-runs
invariant-runs l = (l.start ≤ length l.text) × (l.out.items ++ safe_text.safe_text (safe_text.escape_in l.place) (drop l.start l.text) ≡ l.initial.out.items ++ safe_text.safe_text (safe_text.escape_in l.place) l.text)

abbrev pub decreases-runs : goal.decreases-runs
decreases-runs l = length l.text - l.start
