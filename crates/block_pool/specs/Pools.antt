-- Values by block: a list of pairs in the order of the blocks.
use Rattle.std.specs.Prelude.{◌≡◌, ℕ, ◌<◌, ◌≤◌, Bool, true, false, not, List, map, filter, Option, Some, None, if◌then◌else◌}
use Rattle.std.specs.Option.{option_map}
use Rattle.std.specs.Map.{lookup}
use Rattle.std.specs.declared.cmp.Ordering.{Ordering}
use Rattle.std.specs.Ordering.{nat_cmp}
use Rattle.std.specs.BTreeMap.{insert_entry}
use Rattle.disk_model.specs.declared.block.Block.{Block}
use Rattle.disk_model.specs.Sectors.{same_block}
use Rattle.block_pool.specs.Numbers.{block_number}

-- blocks in order: by their first sectors, and then by their kinds
abbrev pub block_order : Block → Block → Ordering
block_order a b = nat_cmp (block_number a) (block_number b)

-- the value of a block
abbrev pub held : {X : Type 0} → List (Block × X) → Block → Option X
held es b = lookup (same_block b) es

-- the values with this one for the block: in place of the one that it had, or else at its place in the order
abbrev pub with_block : {X : Type 0} → Block → X → List (Block × X) → List (Block × X)
with_block b x es = insert_entry block_order es b x

-- the values without that of the block
abbrev pub without_block : {X : Type 0} → Block → List (Block × X) → List (Block × X)
without_block b es = filter (λ e. not (same_block b e.0)) es

-- the values of the blocks that pass
abbrev pub kept_blocks : {X : Type 0} → (Block → Bool) → List (Block × X) → List (Block × X)
kept_blocks passes es = filter (λ e. passes e.0) es

-- there is a value, and it passes
abbrev pub passes : {X : Type 0} → (X → Bool) → Option X → Bool
passes test (Some x) = test x
passes test None = false

-- each value is changed
abbrev pub turned_values : {X : Type 0} → (X → X) → List (Block × X) → List (Block × X)
turned_values turn es = map (λ e. (e.0, turn e.1)) es

-- no block from this number on has a value that passes; and this block is the first that has one
abbrev pub NoneFrom : {X : Type 0} → (X → Bool) → List (Block × X) → ℕ → Type 0
NoneFrom test es n = (c : Block) → n ≤ block_number c → passes test (held es c) ≡ false

pub record IsNextFrom {X : Type 0} (test : X → Bool) (es : List (Block × X)) (n : ℕ) (next : Block) : Type 0 where
  pub from : n ≤ block_number next
  pub passed : passes test (held es next) ≡ true
  pub none : (c : Block) → n ≤ block_number c → block_number c < block_number next → passes test (held es c) ≡ false

-- What a look-up gives after each of these.
pub record LooksUp (X : Type 0) : Type 0 where
  pub with : (b : Block) (x : X) (es : List (Block × X)) → held (with_block b x es) ≡ (λ c. if same_block c b then Some x else held es c)
  pub without : (b : Block) (es : List (Block × X)) → held (without_block b es) ≡ (λ c. if same_block c b then None else held es c)
  pub kept : (passes : Block → Bool) (es : List (Block × X)) → held (kept_blocks passes es) ≡ (λ c. if passes c then held es c else None)
  pub turned : (turn : X → X) (es : List (Block × X)) → held (turned_values turn es) ≡ (λ c. option_map turn (held es c))
