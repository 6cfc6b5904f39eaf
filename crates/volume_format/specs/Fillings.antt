-- The long regions by their bytes.
use Rattle.std.specs.Prelude.{ℕ, ◌+◌, ◌/◌, ◌%◌, ◌^◌, ◌≤◌, ◌==◌, if◌then◌else◌, List, map}
use Rattle.std.specs.List.{range_with_len}
use Rattle.upcase_order.specs.Tables.{standard_upper}
use Rattle.volume_format.specs.declared.filling.Filling.{Filling}
use Rattle.volume_format.specs.declared.filling.Filling.TheVariants.{Log, UpperCase, ClusterBits}
use Rattle.volume_format.specs.Layouts.{IsLayout}
use Rattle.volume_format.specs.Images.{cluster_bits_byte}

-- the low byte of a word, or its high one
abbrev pub half : ℕ → ℕ → ℕ
half word k = if k == 0 then word % 256 else word / 256

-- a byte of the table of upper-case units
unfoldable pub upper_case_byte : ℕ → ℕ
upper_case_byte i = half (standard_upper (i / 2)) (i % 2)

unfoldable pub filling_byte : Filling → ℕ → ℕ
filling_byte Log i = 0xFF
filling_byte UpperCase i = upper_case_byte i
filling_byte (ClusterBits v) i = cluster_bits_byte v i

-- so many bytes of the region from this one on
unfoldable pub filling_bytes : Filling → ℕ → ℕ → List ℕ
filling_bytes filling at n = map (filling_byte filling) (range_with_len at n)

-- so many bytes from this one on lie in the region
abbrev pub IsInside : Filling → ℕ → ℕ → Type 0
IsInside Log at n = at + n ≤ 2 ^ 32
IsInside UpperCase at n = at + n ≤ 131072
IsInside (ClusterBits v) at n = IsLayout v × (at + n ≤ 2 ^ 32)
