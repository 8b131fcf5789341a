use Rattle.std.specs.Prelude.{Bool, not, nat_lt, if◌then◌else◌}
use Rattle.std.proofs.Common.{◌≡◌, true, false, refl}
use mir.Val.{bool_byte}
use Rattle.rtps_report.proofs.totals.Totals.with_row.Goals as goal

-- a condition as a number
byte : (b : Bool) → bool_byte b ≡ (if b then 1 else 0)
byte true = refl
byte false = refl

-- src/totals.rt:125:5
pub returns-clause-counted : goal.returns-clause-counted
returns-clause-counted c =
    rw (
      c.from.ensures,
      byte c.is_complete.result,
      c.from-2.ensures,
      byte c.is_clean.result,
      c.from-3.ensures,
      byte c.is_unclean.result,
      c.from-4.ensures,
      byte c.is_clean_tail.result,
      c.from-5.ensures,
      byte (nat_lt 0 c.outcomes_of-outcomes.result.missed),
      c.from-6.ensures,
      byte (nat_lt 0 c.outcomes_of-outcomes.result.unsent),
      c.from-7.ensures,
      byte (nat_lt 0 c.outcomes_of-outcomes.result.unanswered),
      c.from-8.ensures,
      byte (not c.is_certain.result),
      c.from-9.ensures,
      byte (nat_lt 0 c.lost_of.result),
      c.from-10.ensures,
      c.from-11.ensures,
      c.from-12.ensures,
      c.from-13.ensures,
      c.from-14.ensures,
      c.from-15.ensures,
      c.from-16.ensures,
      c.from-17.ensures,
      c.from-18.ensures,
      c.from-19.ensures,
      c.is_complete.ensures,
      c.is_clean.ensures,
      c.is_unclean.ensures,
      c.is_clean_tail.ensures,
      c.is_certain.ensures,
      c.lost_of.ensures,
      c.before_of.ensures,
      c.numbers_of.ensures,
      c.lost_of-2.ensures,
      c.outcomes_of-outcomes.ensures,
    ) refl
