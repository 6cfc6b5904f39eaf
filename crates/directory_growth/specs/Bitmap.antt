-- What comes of the bitmap of an index beside what else has come.
use Rattle.std.specs.Prelude.{◌≡◌, ℕ, ◌<◌, ◌≤◌, Bool, not, List, [], ◌∷◌, count_by, Option, Result, Ok, Err, IfOk, OnErr}
use Rattle.record_model.specs.declared.runs.Run.{Run}
use Rattle.record_model.specs.Constants.{bitmap_type, names_index}
use Rattle.record_model.specs.Records.{Record, used_of}
use Rattle.state_model.specs.declared.stream.Extents.{Extents}
use Rattle.state_model.specs.declared.stream.Stream.{Stream}
use Rattle.space_model.specs.Choosing.{with_runs}
use Rattle.plan_space.specs.Choices.{TakesFirst}
use Rattle.data_plan.specs.resized_streams.declared.resized.Resized.{Resized}
use Rattle.data_plan.specs.step_model.Placing.{more_of}
use Rattle.data_plan.specs.step_model.Used.{used_after, own_attr, value_attr}
use Rattle.data_plan.specs.step_model.Streams.{Wanted, comes}
use Rattle.data_plan.specs.step_model.Plans.{full_row}
use Rattle.data_plan.specs.declared.fault.DataFault.{DataFault}
use Rattle.data_plan.specs.Faults.{IsShortOf, HasRow}
use Rattle.directory_growth.specs.declared.change.IndexChange.{IndexChange}
use Rattle.directory_growth.specs.declared.bitmap.CountedBits.{CountedBits}
use Rattle.directory_growth.specs.Clusters.{longer_extents, counted_record}
use Rattle.directory_growth.specs.Growing.{BitsCome, at_first}

-- the used bytes with the bitmap in these clusters, where it takes so many
abbrev pub counted_bytes : ℕ → ℕ → ℕ → List Run → Extents → Record → ℕ
counted_bytes per size wanted runs e c = used_of (counted_record per bitmap_type wanted (longer_extents per size wanted runs e) c).attrs

-- as a value of so many bytes it has no room in the record
abbrev pub MustLeave : Record → ℕ → Type 0
MustLeave c size = 1024 < used_after (value_attr size (own_attr bitmap_type names_index c) ∷ []) c

-- what comes of the bitmap in one record, by the used bytes that another one has with it
pub record IsCountedBits (bits : List Bool) (c s : Record) (old : Option Stream) (w : Wanted) (x : CountedBits) : Type 0 where
  pub come : BitsCome (comes bits c [] w).growth old s w.real x.bits
  pub used : x.used ≡ used_after (comes bits c [] w).attrs c
  pub room : x.used ≤ 1024

-- It is Short where fewer bits are clear than the bitmap wants, and none is set then; else it is Full exactly where the record would be too
-- full.
pub record BitsAfter (bits new : List Bool) (c s : Record) (old : Option Stream) (w : Wanted) (result : Result CountedBits DataFault) : Type 0 where
  pub is_change : IfOk result (IsCountedBits bits c s old w)
  pub taken : IfOk result (λ _. new ≡ with_runs (comes bits c [] w).growth.runs bits)
  pub short : count_by not bits < more_of (comes bits c [] w).growth → IsShortOf (count_by not bits) result
  pub full : more_of (comes bits c [] w).growth ≤ count_by not bits → HasRow (full_row (used_after (comes bits c [] w).attrs c ∷ [])) result
  pub first : OnErr result (TakesFirst (comes bits c [] w).growth.runs bits new)

-- what comes of the blocks and of their bitmap
abbrev pub joined_answer : ℕ → Resized → Result CountedBits DataFault → Result IndexChange DataFault
joined_answer room z (Ok x) = Ok (record { blocks = z; bits = x.bits; used = x.used })
joined_answer room z (Err fault) = Err (at_first room fault)
