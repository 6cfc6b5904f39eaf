-- A bitmap as the list of its bits; the numbers whose bits are set are the members of a finite set.
use Rattle.std.specs.Prelude.{◌≡◌, ℕ, ◌+◌, ◌<◌, ◌≤◌, ◌⊎◌, Bool, true, false, List, length}
use Rattle.std.specs.List.{slice_index_or}

-- whether the bit is set; past the end it is clear
abbrev pub bit : List Bool → ℕ → Bool
bit bits i = slice_index_or bits i false

-- so many bits from this place on are there, and clear
pub record IsClearRun (bits : List Bool) (first len : ℕ) : Type 0 where
  pub inside : first + len ≤ length bits
  pub clear : (i : ℕ) → first ≤ i → i < first + len → bit bits i ≡ false

-- the lowest run of so many clear bits
pub record IsFirstRun (bits : List Bool) (len first : ℕ) : Type 0 where
  pub run : IsClearRun bits first len
  pub lowest : (i : ℕ) → IsClearRun bits i len → first ≤ i

-- no clear run is longer, and of those as long it is the lowest
pub record IsLongestRun (bits : List Bool) (first len : ℕ) : Type 0 where
  pub run : IsClearRun bits first len
  pub some : 0 < len
  pub longest : (i n : ℕ) → IsClearRun bits i n → n ≤ len
  pub lowest : (i : ℕ) → IsClearRun bits i len → first ≤ i

-- the lowest clear bit from this place on
pub record IsLowestClear (bits : List Bool) (from at : ℕ) : Type 0 where
  pub behind : from ≤ at
  pub inside : at < length bits
  pub clear : bit bits at ≡ false
  pub lowest : (i : ℕ) → from ≤ i → i < at → bit bits i ≡ true

-- the run's bits have this value, and each other bit and their count stay
pub record PutsRun (old new : List Bool) (first len : ℕ) (value : Bool) : Type 0 where
  pub same_count : length new ≡ length old
  pub inside : (i : ℕ) → first ≤ i → i < first + len → bit new i ≡ value
  pub others : (i : ℕ) → (i < first) ⊎ (first + len ≤ i) → bit new i ≡ bit old i

-- the lowest run of so many clear bits from this place on, below end
pub record IsFirstRunIn (bits : List Bool) (len from end first : ℕ) : Type 0 where
  pub behind : from ≤ first
  pub inside : first + len ≤ end
  pub run : IsClearRun bits first len
  pub lowest : (i : ℕ) → from ≤ i → i + len ≤ end → IsClearRun bits i len → first ≤ i

-- from this place on, below end, no clear run is longer, and of those as long it is the lowest
pub record IsLongestRunIn (bits : List Bool) (from end first len : ℕ) : Type 0 where
  pub behind : from ≤ first
  pub inside : first + len ≤ end
  pub run : IsClearRun bits first len
  pub some : 0 < len
  pub longest : (i n : ℕ) → from ≤ i → i + n ≤ end → IsClearRun bits i n → n ≤ len
  pub lowest : (i : ℕ) → from ≤ i → i + len ≤ end → IsClearRun bits i len → first ≤ i

-- a clear run of the range: the first of so many bits if it is as long, and else the longest, the lowest of equal ones
pub record IsFound (bits : List Bool) (from end len first m : ℕ) : Type 0 where
  pub behind : from ≤ first
  pub inside : first + m ≤ end
  pub run : IsClearRun bits first m
  pub soonest : len ≤ m → (i : ℕ) → from ≤ i → IsClearRun bits i len → first ≤ i
  pub longest : m < len → (i n : ℕ) → from ≤ i → i + n ≤ end → IsClearRun bits i n → n ≤ m
  pub lowest : m < len → (i : ℕ) → 0 < m → from ≤ i → i + m ≤ end → IsClearRun bits i m → first ≤ i
