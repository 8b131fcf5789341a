-- Maps that keep the first value of a GUID. own: of what is announced of one GUID the first counts.
use Rattle.std.specs.Prelude.{◌≡◌, List, [], ◌∷◌}
use Rattle.std.specs.BTreeMap.{is_at}
use Rattle.std.specs.Map.{lookup}
use Rattle.std.specs.Option.{option_or}
use Rattle.rtps_ids.specs.declared.identity.Guid.{Guid}
use Rattle.rtps_discovery.specs.GuidOrder as guid_order

-- each GUID keeps its value, and this one has the new value where it had none
abbrev pub KeepsFirst : {V : Type 0} → List (Guid × V) → List (Guid × V) → Guid → V → Type 0
KeepsFirst old new guid value =
    (other : Guid) → lookup (is_at (guid_order.guid_cmp other)) new ≡ option_or (lookup (is_at (guid_order.guid_cmp other)) old) (lookup (is_at (guid_order.guid_cmp other)) ((guid, value) ∷ []))
