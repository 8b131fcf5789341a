use Rattle.std.proofs.Common.{◌≡◌, List, ℕ, Option, None, Some, IfSome, option_map, arith, sym}
use Rattle.rtps_wire.specs.DataFrag as data_frag
use Rattle.rtps_wire.specs.declared.data_frag.DataFrag.{DataFrag}
use Rattle.rtps_wire.proofs.FragmentFields.{of_whole}
use Rattle.rtps_wire.proofs.Fragments.{read_is_data_frag}
use Rattle.rtps_wire.proofs.data_frag.DataFrag.read.Goals as goal

well : (rest : List ℕ) (found : Option DataFrag) → option_map data_frag.data_frag_value found ≡ data_frag.data_frag_at rest → IfSome found (λ read. data_frag.IsDataFrag (data_frag.data_frag_value read))
well rest None is = tt
well rest (Some found) is = read_is_data_frag rest (data_frag.data_frag_value found) (sym is)

pub returns-clause-fragments : goal.returns-clause-fragments
returns-clause-fragments c =
    let is : option_map data_frag.data_frag_value c.data_frag.result ≡ data_frag.data_frag_at c.args.submessage.now = grind (arith, of_whole) in
    well c.args.submessage.now c.data_frag.result is
