use Rattle.std.proofs.Common.{ap, arith, refl}
use Rattle.std.specs.BTreeMap.{is_at}
use Rattle.std.specs.Map.{lookup}
use Rattle.std.specs.Ordering.{nat_cmp}
use Rattle.rtps_evidence.proofs.questioned.Questioned.new.Goals as goal

pub returns : goal.returns
returns c = λ n.
    record {
      answered = omega arith;
      again = omega arith;
      ends = λ other past. ap (lookup (is_at (nat_cmp other))) c.new.ensures.empty;
      so = (refl, c.new-2.ensures n, omega arith);
    }
