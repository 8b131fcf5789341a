-- What partitions and representations of the code stand for. own: lists in place of borrowed slices.
use Rattle.std.specs.Prelude.{ℕ, List, [], ◌∷◌}
use Rattle.rtps_policies.specs.Sequences as sequences
use Rattle.rtps_policies.specs.declared.layout.representation.TheConstants as representation
use Rattle.rtps_policies.specs.declared.partition.Partition.{Partition}
use Rattle.rtps_policies.specs.declared.representations.Representations.{Representations}

-- its names
abbrev pub partition_value : Partition → List (List ℕ)
partition_value partition = sequences.texts_in partition.count partition.order partition.octets.now

-- their ids
abbrev pub representations_value : Representations → List ℕ
representations_value representations = sequences.ids_in representations.order representations.octets.now

-- the representations that a reader takes which announces these (XTypes 1.3, 7.6.3.1.1: an empty list is XCDR1)
abbrev pub accepted_in : List ℕ → List ℕ
accepted_in [] = representation.XCDR1 ∷ []
accepted_in (id ∷ ids) = id ∷ ids

-- the representation that a writer sends which announces these: the first
abbrev pub first_in : List ℕ → ℕ
first_in [] = representation.XCDR1
first_in (id ∷ ids) = id
