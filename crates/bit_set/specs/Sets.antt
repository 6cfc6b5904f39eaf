-- A bitmap as the finite set of the numbers whose bits are set.
use Rattle.std.specs.Prelude.{◌≡◌, ℕ, true, false, Bool, List, length, filter}
use Rattle.std.specs.List.{range_with_len}
use Rattle.std.specs.Ordering.{nat_cmp}
use Rattle.std.specs.FinSet.{FinSet, contains, from_list, union, difference}
use Rattle.bit_set.specs.Bits.{bit, PutsRun}

-- the numbers whose bits are set
unfoldable pub members : List Bool → FinSet nat_cmp
members bits = from_list (filter (bit bits) (range_with_len 0 (length bits)))

-- the numbers of a run
unfoldable pub run_members : ℕ → ℕ → FinSet nat_cmp
run_members first len = from_list (range_with_len first len)

-- a number is in the set exactly where its bit is set
abbrev pub MembersAreSetBits : Type 0
MembersAreSetBits = (bits : List Bool) (i : ℕ) → contains (members bits) i ≡ bit bits i

-- bitmaps of as many bits with the same members are the same
abbrev pub SameMembersSameBits : Type 0
SameMembersSameBits = (a b : List Bool) → length a ≡ length b → members a ≡ members b → a ≡ b

-- to set a run is to unite with its numbers
abbrev pub SettingUnites : Type 0
SettingUnites = (old new : List Bool) (first len : ℕ) → PutsRun old new first len true → members new ≡ union (members old) (run_members first len)

-- to clear a run is to take its numbers away
abbrev pub ClearingTakesAway : Type 0
ClearingTakesAway = (old new : List Bool) (first len : ℕ) → PutsRun old new first len false → members new ≡ difference (members old) (run_members first len)
