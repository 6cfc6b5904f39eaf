-- What a list of changes has to show before a volume takes it.
use Rattle.std.specs.Prelude.{◌≡◌, ℕ, ◌+◌, ◌/◌, ◌<◌, ◌≤◌, true, false, List, [], ◌∷◌, length, Option, ⊤}
use Rattle.std.specs.List.{AllByRecursion}
use Rattle.disk_model.specs.declared.block.Block.{Block}
use Rattle.disk_model.specs.declared.block.Change.{Change}
use Rattle.disk_model.specs.Content.{Content}
use Rattle.disk_model.specs.Sectors.{sectors, same_block, are_rivals}
use Rattle.same_names.specs.map_change.record_model.Records.{Record}
use Rattle.fixup_record.specs.Spellings.{has_spelling}
use Rattle.block_view.specs.Changes.{Fits, content_after}
use Rattle.same_names.specs.volume_model.Volumes.{Volume, upper_of}
use Rattle.same_names.specs.map_change.Parts.{MapParts}
use Rattle.state_blocks.specs.plan_owners.States.{Stands}
use Rattle.state_blocks.specs.Drafts.{DraftIn}
use Rattle.turn_laws.specs.store_model.Volumes.{is_known}
use Rattle.turn_laws.specs.txn_model.Values.{StoreFacts, own_of}
use Rattle.state_store.specs.Volumes.{geometry_of}

-- The change brings some bytes, inside the body of a block that is in the grid and in no sector which the log keeps for itself, begins in the volume and lies on the device.
pub record MayLog (f : StoreFacts) (x : Change) : Type 0 where
  pub known : is_known (own_of f) x.block ≡ true
  pub volume : x.block.first / 8 < f.place.clusters
  pub inside : x.block.first + sectors x.block.kind ≤ f.place.device
  pub some : 0 < length x.new
  pub fits : Fits x

-- two blocks that aren't one, and aren't rivals
pub record AreBeside (a b : Block) : Type 0 where
  pub other : same_block a b ≡ false
  pub no_rival : are_rivals a b ≡ false

-- no two of the changes are of one block or of rivals
abbrev pub AreApart : List Change → Type 0
AreApart [] = ⊤
AreApart (x ∷ xs) = AllByRecursion (λ y. AreBeside x.block y.block) xs × AreApart xs

-- the block's body can be written: it has a spelling, and isn't torn
pub record IsWritable (d : Content) (b : Block) : Type 0 where
  pub spelled : has_spelling b.kind (d b).bytes ≡ true
  pub untorn : (d b).torn ≡ false

abbrev pub AreWritable : List Change → Content → Type 0
AreWritable changes d = AllByRecursion (λ x. IsWritable d x.block) changes

-- The content after the changes is a state of the volume with this map, with the same table of upper-case units; the changes lead there as a plan's do, and each body that was changed
-- can be written.
pub record LeadsOn (m : MapParts) (table : List ℕ) (changes : List Change) (c : Content) : Type 0 where
  pub volume : Volume
  pub stands : Stands (content_after changes c) (geometry_of m) m.volume.clusters volume
  pub upper : table ≡ upper_of (content_after changes c) volume
  pub draft : DraftIn c m.volume changes (content_after changes c) volume
  pub writable : AreWritable changes (content_after changes c)

-- The files of each volume that stands behind the changes may follow those of the map, by a rule of their names.
pub record KeepsNamesBy (may : List (Option Record) → List (Option Record) → Type 0) (m : MapParts) (changes : List Change) (c : Content) : Type 0 where
  pub names : (v : Volume) → Stands (content_after changes c) (geometry_of m) m.volume.clusters v → may m.volume.files v.files
