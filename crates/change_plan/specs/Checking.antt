-- What the call that writes or cuts a file asks of it.
use Rattle.std.specs.Prelude.{ℕ, ◌^◌, ◌<◌, length}
use Rattle.record_model.specs.Records.{Record}
use Rattle.file_tree.specs.declared.node.Node.{Node}
use Rattle.tree_model.specs.declared.script.Op.{Op}
use Rattle.found_files.specs.file_puts.declared.streams.VolumeStreams.{VolumeStreams}
use Rattle.found_files.specs.file_writes.Writing.{MayWrite}
use Rattle.found_files.specs.made_data.Made.{record_with_data}

-- The file has fewer than 1,024 attributes, and may be written by its record, or by the one with data that is empty.
pub record MayChange (clusters n : ℕ) (s : VolumeStreams) (r : Record) (op : Op) (a : Node) : Type 0 where
  pub attrs : length r.attrs < 2 ^ 10
  pub may : MayWrite clusters n s (record_with_data r) op a
