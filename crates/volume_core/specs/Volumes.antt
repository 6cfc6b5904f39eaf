-- A volume on a device: what it is seen as, and what is always so of it.
use Rattle.std.specs.Prelude.{◌≡◌, ℕ, List, length, Option, IfSome}
use Rattle.std.specs.Option.{option_map}
use Rattle.sector_device.specs.Moments.{Changes}
use Rattle.file_tree.specs.declared.tree.Tree.{Tree}
use Rattle.log_reading.specs.Rings.{IsRingPlace}
use Rattle.volume_state.specs.Trees.{tree_of}
use Rattle.working_volume.specs.map_change.Parts.{MapParts}
use Rattle.working_volume.specs.volume_tree.declared.names.Names.{Names}
use Rattle.working_volume.specs.volume_tree.Named.{AreNamesOf}
use Rattle.working_volume.specs.file_puts.declared.streams.VolumeStreams.{VolumeStreams}
use Rattle.txn_state.specs.States.{StateOf, facts_of}
use Rattle.working_volume.specs.txn_core.Seen.{Seen}
use Rattle.working_volume.specs.txn_core.Views.{present_content}
use Rattle.working_volume.specs.state_store.Volumes.{HoldsState}
use Rattle.working_volume.specs.Ready.{IsReady}

-- A volume: its store on a device, the map of its content, its table of upper-case units, and the streams of its file table, of the table's mirror and of the bits of its clusters.
pub record SeenVolume (D : Type 0) : Type 0 where
  pub store : Seen D
  pub map : MapParts
  pub table : List ℕ
  pub streams : VolumeStreams

-- the tree of the present content, where it is known
abbrev pub present_tree : Option (List (List ℕ)) → StateOf → MapParts → Option Tree
present_tree gives state m = option_map (λ c. tree_of c m.volume) (present_content gives state)

abbrev pub volume_tree : {D : Type 0} → (D → Option (List (List ℕ))) → SeenVolume D → Option Tree
volume_tree gives v = present_tree (gives v.store.device) v.store.state v.map

-- What is always so of a volume: its store shows a state, of which this is the map, this the table of upper-case units, and these the names of the files; its log lies as a ring asks; it is ready for
-- operations, where the content is known; and there is room for a piece of the device.
pub record IsWorking (gives : Option (List (List ℕ))) (changes : Changes) (state : StateOf) (m : MapParts) (table : List ℕ) (s : VolumeStreams) (names : Names) (room : List ℕ) : Type 0 where
  pub holds : HoldsState gives changes state m table
  pub ring : IsRingPlace state.place
  pub named : AreNamesOf names m.volume.files
  pub ready : IfSome (present_content gives state) (IsReady (facts_of state) m table s)
  pub sized : length room ≡ 65536
