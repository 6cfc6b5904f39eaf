-- Which blocks a mount puts out, and in which order.
use Rattle.std.specs.Prelude.{◌≡◌, ℕ, ◌+◌, ◌*◌, ◌<◌, ◌≤◌, ◌&&◌, Bool, true, false, if◌then◌else◌, List, [], ◌∷◌, length, map, nat_le, slice_index_or}
use Rattle.std.specs.List.Sorted.{IsPermutation, IsNonDecreasingBy}
use Rattle.disk_model.specs.declared.block.BlockKind.TheVariants.{Plain}
use Rattle.disk_model.specs.Sectors.{sectors}
use Rattle.fixup_record.specs.Spellings.{has_spelling}
use Rattle.log_recovery.specs.declared.found.RecoveredBlock.{RecoveredBlock}
use Rattle.txn_mount.specs.declared.puts.PutOut.{PutOut}

abbrev pub no_block : RecoveredBlock
no_block = record { block = record { first = 0; kind = Plain }; body = record { bytes = []; torn = false } }

-- the block that is put out
abbrev pub item_of : List RecoveredBlock → PutOut → RecoveredBlock
item_of bodies k = slice_index_or bodies k.place no_block

abbrev pub items_of : List RecoveredBlock → List PutOut → List RecoveredBlock
items_of bodies keys = map (item_of bodies) keys

-- it may be: its body has its block's size and a spelling, and the block lies inside the device
pub record MayPut (count : ℕ) (r : RecoveredBlock) : Type 0 where
  pub sized : length r.body.bytes ≡ 512 * sectors r.block.kind
  pub spelled : has_spelling r.block.kind r.body.bytes ≡ true
  pub inside : r.block.first + sectors r.block.kind ≤ count

-- the one at a place that there is
pub record MayPutAt (count : ℕ) (bodies : List RecoveredBlock) (k : PutOut) : Type 0 where
  pub there : k.place < length bodies
  pub may : MayPut count (item_of bodies k)

-- the same as a test
abbrev pub may_put : ℕ → RecoveredBlock → Bool
may_put count r = has_spelling r.block.kind r.body.bytes && nat_le (r.block.first + sectors r.block.kind) count

-- those for which it holds, where they stand from this place on
abbrev pub keys_where : (RecoveredBlock → Bool) → ℕ → List RecoveredBlock → List PutOut
keys_where test i [] = []
keys_where test i (x ∷ xs) = if test x then record { first = x.block.first; place = i } ∷ keys_where test (i + 1) xs else keys_where test (i + 1) xs

-- they are those, by rising first sector
pub record AreKeys (count : ℕ) (bodies : List RecoveredBlock) (keys : List PutOut) : Type 0 where
  pub rising : IsNonDecreasingBy (λ (k : PutOut). k.first) keys
  pub same : IsPermutation (keys_where (may_put count) 0 bodies) keys
