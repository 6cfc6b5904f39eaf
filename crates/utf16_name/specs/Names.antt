-- What refuses a list of UTF-16 units as a name.
use Rattle.std.specs.Prelude.{ℕ, Bool, ◌&&◌, ◌||◌, ◌==◌, nat_le, if◌then◌else◌, List, length, position, Option, Some, None, Result, Ok, Err}
use Rattle.host_base.specs.Answers.{Cause, refused, no_memory}
use Rattle.utf16_name.specs.declared.name.NameFault.{NameFault}
use Rattle.utf16_name.specs.declared.name.NameFault.TheVariants.{BadUnit, Length, Text, Memory}

-- a unit that no name holds: 0 or `/`
abbrev pub is_bad_unit : ℕ → Bool
is_bad_unit unit = (unit == 0) || (unit == 0x2F)

-- a name has 1 to 255 units
abbrev pub length_fault : ℕ → Option NameFault
length_fault len = if nat_le 1 len && nat_le len 255 then None else Some (Length len)

-- the first bad unit comes before the length
abbrev pub fault_of : Option ℕ → ℕ → Option NameFault
fault_of (Some at) len = Some (BadUnit at)
fault_of None len = length_fault len

-- what refuses the units as a name
abbrev pub name_fault : List ℕ → Option NameFault
name_fault units = fault_of (position is_bad_unit units) (length units)

abbrev pub ok_unless : Option NameFault → List ℕ → Result (List ℕ) NameFault
ok_unless None units = Ok units
ok_unless (Some fault) units = Err fault

-- the name of these units, or what refuses them
abbrev pub name_of : List ℕ → Result (List ℕ) NameFault
name_of units = ok_unless (name_fault units) units

-- where an error of a call comes from
abbrev pub name_cause : NameFault → Cause NameFault
name_cause (BadUnit at) = refused (BadUnit at)
name_cause (Length len) = refused (Length len)
name_cause (Text at) = refused (Text at)
name_cause Memory = no_memory
