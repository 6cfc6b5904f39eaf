-- What a step of its store leaves of a volume that is ready for operations.
use Rattle.std.specs.Prelude.{◌≡◌, ℕ, List}
use Rattle.disk_model.specs.Content.{Content}
use Rattle.working_volume.specs.map_change.Parts.{MapParts}
use Rattle.working_volume.specs.state_blocks.Needing.{AgreeOnNeeded}
use Rattle.working_volume.specs.file_puts.declared.streams.VolumeStreams.{VolumeStreams}
use Rattle.txn_model.specs.Values.{StoreFacts}
use Rattle.working_volume.specs.Ready.{IsReady}

-- A content from which operations are planned stays one where the blocks stay from which it is read as a state, and the store's log lies where it did and is found by the same blocks.
abbrev pub ReadyStays : Type 0
ReadyStays = (f g : StoreFacts) (m : MapParts) (table : List ℕ) (s : VolumeStreams) (c d : Content) → g.place ≡ f.place → g.found ≡ f.found → AgreeOnNeeded c d m.volume → IsReady f m table s c → IsReady g m table s d
