-- What properties of the code stand for. own: lists in place of borrowed slices.
use Rattle.std.specs.Prelude.{List}
use Rattle.rtps_who.specs.Items as items
use Rattle.rtps_who.specs.Texts as texts
use Rattle.rtps_who.specs.declared.properties.Properties.{Properties}
use Rattle.rtps_who.specs.declared.properties.Property.{Property}

-- its name and value
abbrev pub property_value : Property → texts.PropertyValue
property_value property = record { name = property.name.now; value = property.value.now }

-- its properties
abbrev pub properties_value : Properties → List texts.PropertyValue
properties_value properties = items.items_in (texts.front_property properties.order) properties.count properties.octets.now
