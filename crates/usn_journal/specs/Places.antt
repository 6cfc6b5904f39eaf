-- Where the records of a change journal lie, or why there are none to be read: 1 $Extend has no $UsnJrnl, 2 its file has an
-- attribute list, 3 one of its two streams is missing or out of shape.
use Rattle.std.specs.Prelude.{ℕ, not, List, Option, Some, None, Result, Ok, Err}
use Rattle.host_base.specs.Answers.{◌>>=◌, needs, Cause, refused, no_memory}
use Rattle.volume_map.specs.record_model.Records.{Record}
use Rattle.volume_map.specs.record_model.Constants.{attribute_list, data_type}
use Rattle.record_rules.specs.state_model.declared.stream.Extents.{Extents}
use Rattle.record_rules.specs.state_model.declared.stream.Stream.{Stream}
use Rattle.record_rules.specs.state_model.Files.{has_type}
use Rattle.record_rules.specs.state_model.Streams.{stream_of}
use Rattle.volume_map.specs.volume_model.Volumes.{Volume}
use Rattle.volume_state.specs.Journals.{journal_file, limits_in, entries_in, entries_flags, limits_name, entries_name}
use Rattle.usn_journal.specs.declared.place.PlaceFault.{PlaceFault}
use Rattle.usn_journal.specs.declared.place.PlaceFault.TheVariants as faults

-- a stream that is at fault is out of shape
abbrev pub in_shape : Result Extents ℕ → Result Extents ℕ
in_shape (Ok e) = Ok e
in_shape (Err place) = Err 3

abbrev pub place_of_streams : ℕ → ℕ → Option Stream → Option Stream → Result Extents ℕ
place_of_streams per flags None j = Err 3
place_of_streams per flags (Some max) None = Err 3
place_of_streams per flags (Some max) (Some j) = in_shape (limits_in max >>= λ _. entries_in per flags j)

abbrev pub place_of_file : ℕ → Option Record → Result Extents ℕ
place_of_file per None = Err 1
place_of_file per (Some r) =
    needs (not (has_type attribute_list r)) 2
    >>= λ _. place_of_streams per (entries_flags r) (stream_of data_type limits_name r.attrs) (stream_of data_type entries_name r.attrs)

-- the clusters of $J
unfoldable pub journal_place : List ℕ → Volume → Result Extents ℕ
journal_place upper v = place_of_file v.per (journal_file upper v)

abbrev pub place_cause : PlaceFault → Cause ℕ
place_cause (faults.Absent why) = refused why
place_cause faults.Memory = no_memory
