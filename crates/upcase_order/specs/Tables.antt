-- The table of upper-case units: reading it, and the one of a volume that this project formats.
use Rattle.std.specs.Prelude.{ℕ, ◌-◌, ◌&&◌, ◌==◌, nat_le, if◌then◌else◌, List, length, map, Result, Ok}
use Rattle.std.specs.List.{range_with_len}
use Rattle.index_model.specs.host_base.Answers.{◌>>=◌, needs, Cause, refused, no_memory}
use Rattle.index_model.specs.record_model.Attributes.{units_at}
use Rattle.upcase_order.specs.declared.upcase.UpcaseFault.{UpcaseFault}
use Rattle.upcase_order.specs.declared.upcase.UpcaseFault.TheVariants.{Length, Memory}

-- the 65,536 values, low byte first, of 131,072 bytes; any other number of bytes is refused
unfoldable pub upcase_of : List ℕ → Result (List ℕ) UpcaseFault
upcase_of bytes = needs (length bytes == 131072) (Length (length bytes)) >>= (λ _. Ok (units_at 0 65536 bytes))

-- where an error of a call comes from
abbrev pub upcase_cause : UpcaseFault → Cause UpcaseFault
upcase_cause (Length len) = refused (Length len)
upcase_cause Memory = no_memory

-- a to z give A to Z, and each other unit gives itself
abbrev pub standard_upper : ℕ → ℕ
standard_upper unit = if nat_le 0x61 unit && nat_le unit 0x7A then unit - 0x20 else unit

-- what the first units give in the table of a volume that this project formats
unfoldable pub standard_units : ℕ → List ℕ
standard_units count = map standard_upper (range_with_len 0 count)

-- the table of a volume that this project formats
unfoldable pub standard_table : List ℕ
standard_table = standard_units 65536
