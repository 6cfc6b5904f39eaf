-- Blocks by numbers, in the order of their first sectors, and then of their kinds.
use Rattle.std.specs.Prelude.{ℕ, ◌+◌, ◌*◌, ◌/◌, ◌%◌, ◌==◌, if◌then◌else◌, List, map, Option, Some, None}
use Rattle.disk_model.specs.declared.block.Block.{Block}
use Rattle.disk_model.specs.declared.block.BlockKind.{BlockKind}
use Rattle.disk_model.specs.declared.block.BlockKind.TheVariants.{Plain, FileRec, Index}

abbrev pub kind_number : BlockKind → ℕ
kind_number Plain = 0
kind_number FileRec = 1
kind_number Index = 2

-- the number of a block, which no other block has
abbrev pub block_number : Block → ℕ
block_number b = 3 * b.first + kind_number b.kind

-- the least number behind that of a block, or of all
abbrev pub number_after : Option Block → ℕ
number_after (Some b) = block_number b + 1
number_after None = 0

abbrev pub kind_at : ℕ → BlockKind
kind_at n = if n == 0 then Plain else (if n == 1 then FileRec else Index)

-- the block of a number
abbrev pub block_at : ℕ → Block
block_at n = record { first = n / 3; kind = kind_at (n % 3) }

-- what a map has, by block
abbrev pub shown : {X : Type 0} → List (ℕ × X) → List (Block × X)
shown es = map (λ e. (block_at e.0, e.1)) es
