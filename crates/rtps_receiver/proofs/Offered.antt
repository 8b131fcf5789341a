-- Lemmas about the definitions of this crate, for the crates above it.
use Rattle.std.proofs.Common.{◌≡◌, List, [], ◌∷◌}
use Rattle.rtps_wire.specs.Values as values
use Rattle.rtps_receiver.specs.Acts as acts
use Rattle.rtps_receiver.specs.declared.state.State.{State}
use Rattle.rtps_receiver.proofs.ActSteps.{gathered-behind}
-- the numbers that an act names, range by range
pub use Rattle.rtps_receiver.proofs.NumbersLemmas.{below, no_more, none_below, range_more}

-- what is gathered behind one item is gathered from the state behind it on
pub gathered-one : {X : Type 0} (gives : State → values.ItemValue → List X) (state : State) (item : values.ItemValue) (items : List values.ItemValue)
    → acts.gathered gives state (item ∷ []) items ≡ acts.gathered gives (acts.state_behind state (item ∷ [])) [] items
gathered-one gives state item items = gathered-behind gives state item items
