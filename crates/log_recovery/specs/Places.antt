-- Blocks as keys: which were met, as a set keeps them, and where they stand in a list of recovered blocks, as a map does.
use Rattle.std.specs.Prelude.{◌≡◌, ℕ, ◌+◌, if◌then◌else◌, List, [], ◌∷◌, Option, Some, None, option_map}
use Rattle.std.specs.List.{slice_get}
use Rattle.std.specs.declared.cmp.Ordering.{Ordering}
use Rattle.std.specs.Ordering.{nat_cmp, ordering_then}
use Rattle.std.specs.BTreeMap.{BTreeMap, get}
use Rattle.std.specs.BTreeSet.{BTreeSet, contains}
use Rattle.log_reading.specs.disk_model.declared.block.Block.{Block}
use Rattle.log_reading.specs.disk_model.declared.block.BlockKind.{BlockKind}
use Rattle.log_reading.specs.disk_model.declared.block.BlockKind.TheVariants.{Plain, FileRec, Index}
use Rattle.log_reading.specs.disk_model.Bodies.{BodyOf}
use Rattle.log_reading.specs.disk_model.Sectors.{same_block}
use Rattle.log_model.specs.declared.entry.Entry.{Entry}
use Rattle.log_recovery.specs.declared.found.RecoveredBlock.{RecoveredBlock}
use Rattle.log_recovery.specs.Recovering.{is_updated}

abbrev pub kind_number : BlockKind → ℕ
kind_number Plain = 0
kind_number FileRec = 1
kind_number Index = 2

-- a block as a key
abbrev pub key_of : Block → ℕ × ℕ
key_of b = (b.first, kind_number b.kind)

abbrev pub key_order : ℕ × ℕ → ℕ × ℕ → Ordering
key_order a b = ordering_then (nat_cmp a.0 b.0) (nat_cmp a.1 b.1)

-- the set has the blocks of these updates
abbrev pub HasMet : BTreeSet (ℕ × ℕ) → List Entry → Type 0
HasMet met log = (b : Block) → contains key_order met (key_of b) ≡ is_updated log b

-- the place of the first of these that stands for the block, where they stand from this place on
abbrev pub place_from : ℕ → List RecoveredBlock → Block → Option ℕ
place_from i [] b = None
place_from i (r ∷ bodies) b = if same_block b r.block then Some i else place_from (i + 1) bodies b

-- the map has the place of each block
abbrev pub HasPlaces : List RecoveredBlock → BTreeMap (ℕ × ℕ) ℕ → Type 0
HasPlaces bodies places = (b : Block) → get key_order places (key_of b) ≡ place_from 0 bodies b

-- the body at a place
abbrev pub body_at : List RecoveredBlock → Option ℕ → Option BodyOf
body_at bodies (Some i) = option_map (λ (r : RecoveredBlock). r.body) (slice_get bodies i)
body_at bodies None = None
