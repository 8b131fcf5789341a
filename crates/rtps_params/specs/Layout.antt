-- The ids, sizes and offsets of parameters, as the standard has them. Each value is written only here and in `layout`.
-- DDSI-RTPS 2.5, 9.4.2.11 "ParameterList", 9.3.1 "The Globally Unique Identifier (GUID)" and 9.3.2 "Mapping of the
-- Types that Appear Within Submessages or Built-in Topic Data".
use Rattle.std.specs.Prelude.{◌≡◌}
use Rattle.rtps_params.specs.declared.layout.pid.TheConstants as pid
use Rattle.rtps_params.specs.declared.layout.parameter.TheConstants as parameter
use Rattle.rtps_params.specs.declared.layout.value.TheConstants as value

-- PID_PAD and PID_SENTINEL
abbrev pub pid_is : Type 0
pid_is = (pid.PAD ≡ 0) × (pid.SENTINEL ≡ 1)

-- the offset of a parameter's length, the size of its id and length, and of a value that is written the alignment and
-- the largest size
abbrev pub parameter_is : Type 0
parameter_is = (parameter.LENGTH ≡ 2) × (parameter.HEADER ≡ 4) × (parameter.ALIGNMENT ≡ 4) × (parameter.LONGEST_VALUE ≡ 65532)

-- the size of a number, the offset of a text's name, and the sizes of the two parts of a GUID
abbrev pub value_is : Type 0
value_is = (value.NUMBER_SIZE ≡ 4) × (value.NAME ≡ 4) × (value.PREFIX_SIZE ≡ 12) × (value.ENTITY_SIZE ≡ 4)
