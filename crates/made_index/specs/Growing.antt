-- Directories of which the index may get blocks, whether it has some or none.
use Rattle.std.specs.Prelude.{◌≡◌, ◌⊎◌, ℕ, ◌+◌, ◌<◌, ◌≤◌, ◌^◌, Bool, true, not, if◌then◌else◌, List, [], ◌∷◌, length, count_by, Result, IfOk, OnErr}
use Rattle.record_model.specs.Constants.{standard_information, index_root, index_allocation, names_index}
use Rattle.record_model.specs.Records.{Record}
use Rattle.index_model.specs.Trees.{Tree}
use Rattle.state_model.specs.Files.{has_type}
use Rattle.state_model.specs.Loads.{has_all_pairs}
use Rattle.state_model.specs.Streams.{attributes_of}
use Rattle.space_model.specs.Choosing.{with_runs}
use Rattle.plan_space.specs.Choices.{TakesFirst}
use Rattle.record_streams.specs.Fitting.{FitsButRoom}
use Rattle.made_data.specs.step_model.Placing.{Growth, more_of, taken_runs, wanted_by}
use Rattle.made_data.specs.step_model.Streams.{wanted_blocks, wanted_used}
use Rattle.made_data.specs.data_plan.declared.fault.DataFault.{DataFault}
use Rattle.made_data.specs.data_plan.Faults.{IsShortOf, HasRow}
use Rattle.made_data.specs.data_plan.Changes.{BeginsAtZero}
use Rattle.directory_growth.specs.declared.change.IndexChange.{IndexChange}
use Rattle.directory_growth.specs.Growing.{HasIndex, bits_in, blocks_growth, growths_of, used_with, row_of, BlocksCome, BitsCome}
use Rattle.made_index.specs.Made.{has_stream, HasNoStreams, indexed_record}

-- A directory with standard information whose index has its root alone.
pub record HasRoot (r : Record) : Type 0 where
  pub fits : FitsButRoom r
  pub few : length r.attrs + 1 < 2 ^ 10
  pub pairs : has_all_pairs r ≡ true
  pub info : has_type standard_information r ≡ true
  pub root : BeginsAtZero (attributes_of index_root names_index r.attrs)
  pub none : HasNoStreams r

-- its index has both streams or neither
abbrev pub MayGrow : ℕ → Record → Type 0
MayGrow clusters r = HasIndex clusters r ⊎ HasRoot r

-- the record in which its blocks and their bitmap come: its own, or that with both made
abbrev pub with_streams : Record → Record
with_streams r = if has_stream index_allocation r then r else indexed_record r

-- ---- the answer

-- The blocks and behind them their bitmap take the clusters that the step says of the directory's own record, and that has room with them and
-- the root. They come in the record in which both stand.
pub record IsAnyChange (bits : List Bool) (n : ℕ) (r : Record) (t : Tree) (more : ℕ) (a : IndexChange) : Type 0 where
  pub blocks_grow : Growth
  pub bits_grow : Growth
  pub growths : growths_of bits n r t more ≡ blocks_grow ∷ bits_grow ∷ []
  pub blocks : BlocksCome blocks_grow (with_streams r) (wanted_blocks n r more).real a.blocks
  pub bitmap : BitsCome bits_grow (bits_in (with_streams r)) a.blocks.file (wanted_used n r more).real a.bits
  pub used : a.used ≡ used_with bits n r t more
  pub room : a.used ≤ 1024

-- What comes of the index is what the step says, and the bits of the runs that it takes are set. It is Short where fewer bits are clear than
-- both streams want, and none is set where fewer are than the blocks want; else it is Full exactly where the record would be too full.
pub record AnyIndexAfter (bits new : List Bool) (n : ℕ) (r : Record) (t : Tree) (more : ℕ) (result : Result IndexChange DataFault) : Type 0 where
  pub is_change : IfOk result (IsAnyChange bits n r t more)
  pub taken : IfOk result (λ _. new ≡ with_runs (taken_runs (growths_of bits n r t more)) bits)
  pub short : count_by not bits < wanted_by (growths_of bits n r t more) → IsShortOf (count_by not bits) result
  pub unchanged : count_by not bits < more_of (blocks_growth bits n r more) → new ≡ bits
  pub full : wanted_by (growths_of bits n r t more) ≤ count_by not bits → HasRow (row_of bits n r t more) result
  pub first : OnErr result (TakesFirst (taken_runs (growths_of bits n r t more)) bits new)
