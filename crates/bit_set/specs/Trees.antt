-- The tree of summaries over the blocks of 1,024 bits.
use Rattle.std.specs.Prelude.{ℕ, zero, suc, ◌+◌, ◌-◌, ◌*◌, ◌/◌, ◌^◌, ◌≤◌, ◌⊎◌, Bool, List, length, slice_index_or}
use Rattle.bit_set.specs.declared.summary.Summary.{Summary}
use Rattle.bit_set.specs.Words.{word_bit, IsCounted}
use Rattle.bit_set.specs.Summaries.{IsSummary}

-- a part of which nothing is known
abbrev pub nothing : Summary
nothing = record { front = 0; back = 0; longest = record { first = 0; len = 0 } }

-- what the tree holds of so many blocks from this one on
abbrev pub node : List Summary → ℕ → ℕ → Summary
node tree start size = slice_index_or tree (2 * start + size - 1) nothing

-- it is their summary, if the tree is over all of them and none lies from first on, below end
abbrev pub IsNode : (ℕ → Bool) → List Summary → ℕ → ℕ → ℕ → ℕ → Type 0
IsNode f tree first end start size = start + size ≤ length tree / 2 → (start + size ≤ first) ⊎ (end ≤ start) → IsSummary f (1024 * start) (1024 * (start + size)) (node tree start size)

-- so it is for the 2 ^ level blocks from this one on, for their halves, and so on down to single blocks
unfoldable pub IsTree : (ℕ → Bool) → List Summary → ℕ → ℕ → ℕ → ℕ → Type 0
IsTree f tree first end zero start = IsNode f tree first end start 1
IsTree f tree first end (suc level) start = IsTree f tree first end level start × IsTree f tree first end level (start + 2 ^ level) × IsNode f tree first end start (2 ^ level + 2 ^ level)

-- the tree is over whole blocks of the bits, and right
pub record IsTreeOver (words : List ℕ) (bits levels : ℕ) (tree : List Summary) : Type 0 where
  pub whole : 512 * length tree ≤ bits
  pub few : levels ≤ 54
  pub right : IsTree (word_bit words) tree 0 0 levels 0

-- the clear bits are counted, and the tree is right
pub record IsKept (words : List ℕ) (bits clear levels : ℕ) (tree : List Summary) : Type 0 where
  pub counted : IsCounted words bits clear
  pub over : IsTreeOver words bits levels tree
