-- What was made of an index has room where the step says so.
use Rattle.std.specs.Prelude.{◌≡◌, ℕ, ◌≤◌, Bool, List, All, length}
use Rattle.record_model.specs.Constants.{index_root, names_index}
use Rattle.record_model.specs.Records.{Record}
use Rattle.index_model.specs.Trees.{Tree}
use Rattle.data_plan.specs.record_values.Values.{valued_record}
use Rattle.data_plan.specs.draft_records.Records.{written_bytes}
use Rattle.data_plan.specs.used_laws.Laws.{HasBytes}
use Rattle.directory_growth.specs.declared.change.BitsChange.{BitsChange}
use Rattle.directory_growth.specs.declared.change.BitsChange.TheVariants as change
use Rattle.directory_growth.specs.declared.change.IndexChange.{IndexChange}
use Rattle.directory_growth.specs.Growing.{root_bytes, HasIndex, GrowsLittle, IsIndexChange}

-- the record with the blocks and their bitmap
abbrev pub file_of : BitsChange → Record
file_of (change.Stays file) = file
file_of (change.Leaves z) = z.file
file_of (change.Placed z) = z.file

-- With a root of the length that the index comes to have, the record is written with at most the used bytes that the step says: a stream that
-- takes no cluster may only become shorter.
abbrev pub IndexHasRoom : Type 0
IndexHasRoom = (clusters : ℕ) (bits : List Bool) (n : ℕ) (r : Record) (t : Tree) (more : ℕ) (a : IndexChange) (value : List ℕ) → HasIndex clusters r → GrowsLittle r (root_bytes t) more → All HasBytes r.attrs → IsIndexChange bits n r t more a → length value ≡ root_bytes t
    → written_bytes (valued_record index_root names_index value (file_of a.bits)) ≤ a.used
