-- What is kept of the clear bits of a part, and what a search has met.
use Rattle.std.specs.Prelude.{◌≡◌, ℕ, ◌+◌, ◌<◌, ◌≤◌, Bool, false}
use Rattle.bit_set.specs.declared.summary.Summary.{Summary}
use Rattle.bit_set.specs.declared.summary.Met.{Met}

-- the bits from first on, below end, are clear
abbrev pub IsClear : (ℕ → Bool) → ℕ → ℕ → Type 0
IsClear f first end = (j : ℕ) → first ≤ j → j < end → f j ≡ false

-- the clear run at the part's begin ends here
pub record IsFront (f : ℕ → Bool) (from to end : ℕ) : Type 0 where
  pub behind : from ≤ end
  pub inside : end ≤ to
  pub clear : IsClear f from end
  pub most : (e : ℕ) → e ≤ to → IsClear f from e → e ≤ end

-- the clear run at the part's end begins here
pub record IsBack (f : ℕ → Bool) (from to first : ℕ) : Type 0 where
  pub behind : from ≤ first
  pub inside : first ≤ to
  pub clear : IsClear f first to
  pub most : (i : ℕ) → from ≤ i → IsClear f i to → first ≤ i

-- the part's longest clear run, the lowest of equal ones
pub record IsLongest (f : ℕ → Bool) (from to first len : ℕ) : Type 0 where
  pub behind : from ≤ first
  pub inside : first + len ≤ to
  pub clear : IsClear f first (first + len)
  pub longest : (i n : ℕ) → from ≤ i → i + n ≤ to → IsClear f i (i + n) → n ≤ len
  pub lowest : (i : ℕ) → 0 < len → from ≤ i → i + len ≤ to → IsClear f i (i + len) → first ≤ i

-- the clear runs at the begin and at the end of the part, and its longest one
pub record IsSummary (f : ℕ → Bool) (from to : ℕ) (s : Summary) : Type 0 where
  pub front : IsFront f from to s.front
  pub back : IsBack f from to s.back
  pub longest : IsLongest f from to s.longest.first s.longest.len

-- what a search for a run of so many has met from this place on: where a run is long enough, it is the first
pub record IsMet (f : ℕ → Bool) (from len : ℕ) (met : Met) : Type 0 where
  pub runs : IsSummary f from met.to met.runs
  pub lowest : len ≤ met.runs.longest.len → (i : ℕ) → from ≤ i → IsClear f i (i + len) → met.runs.longest.first ≤ i

-- a clear run of the range: the first of so many bits if it is as long, and else the longest, the lowest of equal ones
pub record IsFoundIn (f : ℕ → Bool) (from end len first m : ℕ) : Type 0 where
  pub behind : from ≤ first
  pub inside : first + m ≤ end
  pub clear : IsClear f first (first + m)
  pub soonest : len ≤ m → (i : ℕ) → from ≤ i → IsClear f i (i + len) → first ≤ i
  pub longest : m < len → (i n : ℕ) → from ≤ i → i + n ≤ end → IsClear f i (i + n) → n ≤ m
  pub lowest : m < len → (i : ℕ) → 0 < m → from ≤ i → i + m ≤ end → IsClear f i (i + m) → first ≤ i
