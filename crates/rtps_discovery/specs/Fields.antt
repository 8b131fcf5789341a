-- What a parameter list of the code stands for. own: its pairs and its order, so that two are equal if those are.
use Rattle.rtps_params.specs.Lists as lists
use Rattle.rtps_params.specs.declared.list.ParamList.{ParamList}
use Rattle.rtps_discovery.specs.Announcement as announcement

-- the fields that a parameter list of the code has
abbrev pub fields_value : ParamList → announcement.Fields
fields_value list = record { order = lists.list_order list; pairs = lists.list_pairs list }
