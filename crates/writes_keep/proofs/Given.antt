-- The record by which a file is written or cut says what the file's own says.
use Rattle.std.proofs.Common.{◌≡◌, Bool, true, false, cond, List, [], Some, refl, sym, ◌∙◌}
use Rattle.record_model.specs.Records.{Record}
use Rattle.file_tree.specs.declared.node.Node.{Node}
use Rattle.state_model.specs.declared.stream.Extents.{Extents}
use Rattle.state_model.specs.declared.stream.Stream.TheVariants.{Held, Placed}
use Rattle.tree_model.specs.declared.script.Op.{Op}
use Rattle.names_stay.specs.data_plan.Changes.{data_in, growth_of}
use Rattle.names_stay.specs.made_data.Laws.{MadeIsCounted}
use Rattle.names_stay.specs.made_data.Made.{made_record, record_with_data, has_data}

-- A step says the same of this record as of the file's own, and its unnamed data, where that lies in clusters, is the file's.
pub record IsDataOf (bits : List Bool) (op : Op) (a : Node) (r via : Record) : Type 0 where
  pub growth : growth_of bits via op a ≡ growth_of bits r op a
  pub placed : (e : Extents) → data_in via ≡ Some (Placed e) → data_in r ≡ Some (Placed e)

pub is_data_of : MadeIsCounted → (bits : List Bool) (op : Op) (a : Node) (r : Record) → IsDataOf bits op a r (record_with_data r)
is_data_of counted bits op a r = by (has_data r) refl
  where
    by : (t : Bool) → has_data r ≡ t → IsDataOf bits op a r (cond t r (made_record r))
    by true is = record { growth = refl; placed = λ e placed. placed }
    by false none = record {
      growth = counted.growth bits r op a none;
      placed = λ e placed. (let clash : Some (Held []) ≡ Some (Placed e) = sym (counted.holds r none) ∙ placed in absurd cc);
    }
