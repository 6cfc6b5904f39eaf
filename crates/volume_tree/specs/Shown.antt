-- The data that the nodes of a volume show.
use Rattle.std.specs.Prelude.{ℕ, if◌then◌else◌, Option, Some, None}
use Rattle.volume_map.specs.record_model.Records.{Record}
use Rattle.state_model.specs.declared.stream.Stream.{Stream}
use Rattle.state_model.specs.Trees.{is_nameless}
use Rattle.volume_model.specs.Volumes.{Volume, file_in}
use Rattle.volume_model.specs.Nodes.{kind_in, data_shown}

unfoldable pub file_shown : Volume → ℕ → Record → Option Stream
file_shown v n r = data_shown (kind_in v n r) r

-- a record of the volume itself that has no name shows none
abbrev pub some_shown : Volume → ℕ → Option Record → Option Stream
some_shown v n None = None
some_shown v n (Some r) = if is_nameless n r then None else file_shown v n r

-- the data that the node with this number shows
unfoldable pub shown_at : Volume → ℕ → Option Stream
shown_at v n = some_shown v n (file_in v n)
