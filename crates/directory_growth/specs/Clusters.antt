-- A stream of a directory's index in clusters, which gets a greater size, and how it counts.
use Rattle.std.specs.Prelude.{◌≡◌, ℕ, ◌==◌, if◌then◌else◌, List, []}
use Rattle.record_model.specs.declared.runs.Run.{Run}
use Rattle.record_model.specs.Constants.{names_index}
use Rattle.record_model.specs.Records.{Record}
use Rattle.state_model.specs.declared.stream.Extents.{Extents}
use Rattle.data_plan.specs.record_streams.Placing.{placed_record}
use Rattle.data_plan.specs.resized_streams.declared.resized.Resized.{Resized}
use Rattle.data_plan.specs.resized_streams.Resizing.{lengthened, with_sizes}

-- the stream with this size, all of it initialised, and with these runs behind its own where clusters are wanted
unfoldable pub longer_extents : ℕ → ℕ → ℕ → List Run → Extents → Extents
longer_extents per size wanted runs e = if wanted == 0 then with_sizes size size e else lengthened per runs (with_sizes size size e)

-- its record has it so, and none of its clusters is given back
pub record IsLonger (per kind : ℕ) (e : Extents) (r : Record) (size wanted : ℕ) (runs : List Run) (z : Resized) : Type 0 where
  pub extents : z.extents ≡ longer_extents per size wanted runs e
  pub file : z.file ≡ placed_record per kind names_index (longer_extents per size wanted runs e) r
  pub taken : z.taken.items ≡ runs
  pub freed : z.freed.items ≡ []

-- the record as a step counts it: a stream that takes no cluster keeps its length
unfoldable pub counted_record : ℕ → ℕ → ℕ → Extents → Record → Record
counted_record per kind wanted e r = if wanted == 0 then r else placed_record per kind names_index e r
