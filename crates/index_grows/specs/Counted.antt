-- What a step counts of a directory's index that gets blocks, where their bitmap stands in the record.
use Rattle.std.specs.Prelude.{◌≡◌, ⊤, ℕ, ◌≤◌, Bool, true, List, [], ◌∷◌, Some, if◌then◌else◌}
use Rattle.record_model.specs.Constants.{index_allocation}
use Rattle.record_model.specs.Records.{Record}
use Rattle.index_model.specs.Trees.{Tree}
use Rattle.tree_model.specs.declared.reply.Reply.TheVariants.{RecordFull}
use Rattle.step_model.specs.Placing.{Growth}
use Rattle.directory_growth.specs.Growing.{root_bytes, growths_of, used_with, row_of}
use Rattle.data_plan.specs.declared.fault.DataFault.{DataFault}
use Rattle.data_plan.specs.declared.fault.DataFault.TheVariants as plan
use Rattle.made_index.specs.Made.{has_stream, with_empty_index}
use Rattle.index_grows.specs.declared.fault.IndexFault.{IndexFault}
use Rattle.index_grows.specs.declared.fault.IndexFault.TheVariants as fault

-- the record with the blocks and their bitmap, which come empty where it has neither
abbrev pub file_with_streams : Record → Record
file_with_streams r = if has_stream index_allocation r then r else with_empty_index r

-- With a root of this tree the record has at most 1,024 used bytes, and of both streams that take clusters the bitmap stands in the record.
pub record CountsFor (bits : List Bool) (n : ℕ) (r : Record) (t : Tree) (more : ℕ) : Type 0 where
  pub used : used_with bits n r t more ≤ 1024
  pub blocks : Growth
  pub bitmap : Growth
  pub growths : growths_of bits n r t more ≡ blocks ∷ bitmap ∷ []
  pub stands : bitmap.stands ≡ true

-- so it is with each root of so many bytes
abbrev pub CountsOf : List Bool → Record → ℕ → ℕ → Type 0
CountsOf bits r root more = (n : ℕ) (t : Tree) → root ≡ root_bytes t → CountsFor bits n r t more

-- with each root of so many bytes the record would have so many used bytes, which are too many
abbrev pub IsTooFull : List Bool → Record → ℕ → ℕ → ℕ → Type 0
IsTooFull bits r root more used = (n : ℕ) (t : Tree) → root ≡ root_bytes t → row_of bits n r t more ≡ Some (RecordFull used)

abbrev pub OnDataFull : (ℕ → Type 0) → DataFault → Type 0
OnDataFull P (plan.Full used) = P used
OnDataFull P other = ⊤

-- what a fault says of the used bytes
abbrev pub OnFull : (ℕ → Type 0) → IndexFault → Type 0
OnFull P (fault.Full used) = P used
OnFull P other = ⊤
