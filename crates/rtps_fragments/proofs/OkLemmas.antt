-- What an `Ok` says.
use Rattle.std.proofs.lemmas.Bool.Decides.{nat_tests}
use Rattle.std.proofs.Common.{arith}
use Rattle.std.specs.Prelude.{OnOk, Result}

-- one step on
pub on_ok : {X E : Type 0} (result : Result X E) (P Q : Type 0) → OnOk result P → (P → Q) → OnOk result Q
on_ok result P Q h h2 = grind (arith, nat_tests)

-- both
pub both_ok : {X E : Type 0} (result : Result X E) (P Q : Type 0) → OnOk result P → OnOk result Q → OnOk result (P × Q)
both_ok result P Q h h2 = grind (arith, nat_tests)
