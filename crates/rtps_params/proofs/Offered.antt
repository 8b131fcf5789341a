-- Lemmas about the definitions of this crate, for the crates above it.
use Rattle.std.proofs.Common.{◌≡◌, ℕ, List, ◌++◌, length, Ok}
use Rattle.rtps_ids.specs.declared.order.Order.{Order}
use Rattle.rtps_params.specs.Grammar as grammar
use Rattle.rtps_params.specs.Reading as reading
use Rattle.rtps_params.proofs.Agreement.{IsList-pairs}
use Rattle.rtps_params.proofs.Ending.{IsList-end}

-- what follows a list changes none of its pairs
pub pairs_of_list : (order : Order) (pairs : grammar.Pairs) (list more : List ℕ) → grammar.IsList order pairs list → reading.pairs_of order (list ++ more) ≡ pairs
pairs_of_list = IsList-pairs

-- a list ends where it ends, whatever follows it
pub end_of_list : (order : Order) (pairs : grammar.Pairs) (list more : List ℕ) → grammar.IsList order pairs list → reading.list_end order (list ++ more) ≡ Ok (length list)
end_of_list = IsList-end
