-- What a step says of a file without unnamed data, and what its record is once it has it.
use Rattle.std.specs.Prelude.{◌≡◌, ℕ, ◌<◌, ◌≤◌, ◌^◌, Bool, true, false, List, [], ◌∷◌, length, Some}
use Rattle.record_model.specs.declared.attribute.Attr.{Attr}
use Rattle.record_model.specs.Constants.{data_type}
use Rattle.record_model.specs.Records.{Record}
use Rattle.file_tree.specs.declared.node.Node.{Node}
use Rattle.data_plan.specs.state_model.declared.stream.Stream.TheVariants.{Held}
use Rattle.data_plan.specs.state_model.Files.{has_type}
use Rattle.data_plan.specs.state_model.Loads.{has_all_pairs}
use Rattle.data_plan.specs.state_model.Streams.{attributes_of}
use Rattle.tree_model.specs.declared.script.Op.{Op}
use Rattle.made_data.specs.Ids.{new_id}
use Rattle.data_plan.specs.record_streams.Fitting.{FitsButRoom}
use Rattle.data_plan.specs.draft_records.Records.{written_bytes}
use Rattle.data_plan.specs.step_model.Used.{used_after, own_attr}
use Rattle.data_plan.specs.Changes.{data_in, ShowsData, HasData, growth_of, row_of}
use Rattle.data_plan.specs.Laws.{HasMadeData}
use Rattle.made_data.specs.Made.{empty_data, with_empty_data, made_record, has_data}

-- A record without unnamed data has no attribute of it, and that as it is made has one, which is empty. What a step says of the file is what it
-- says of the record as it is made: the same clusters come, and the same row applies. It has no more
-- used bytes than with any other data. It has what a write of its data asks for.
pub record MadeIsCounted : Type 0 where
  pub none : (r : Record) → has_data r ≡ false → attributes_of data_type [] r.attrs ≡ []
  pub made : (r : Record) → has_data r ≡ false → HasMadeData r (with_empty_data r)
  pub fits : (r : Record) → FitsButRoom r → length r.attrs < 2 ^ 10 → FitsButRoom (with_empty_data r)
  pub room : (r : Record) (new : Attr) → has_data r ≡ false → new.head.kind ≡ data_type → new.name ≡ [] → written_bytes (with_empty_data r) ≤ used_after (new ∷ []) (made_record r)
  pub own : (r : Record) → has_data r ≡ false → own_attr data_type [] (made_record r) ≡ empty_data (new_id r)
  pub pieces : (r : Record) → has_data r ≡ false → attributes_of data_type [] (made_record r).attrs ≡ empty_data (new_id r) ∷ []
  pub holds : (r : Record) → has_data r ≡ false → data_in (made_record r) ≡ Some (Held [])
  pub growth : (bits : List Bool) (r : Record) (op : Op) (node : Node) → has_data r ≡ false → growth_of bits (made_record r) op node ≡ growth_of bits r op node
  pub row : (bits : List Bool) (r : Record) (op : Op) (node : Node) → has_data r ≡ false → row_of bits (made_record r) op node ≡ row_of bits r op node
  pub has : (clusters : ℕ) (r : Record) → has_data r ≡ false → FitsButRoom r → length r.attrs < 2 ^ 10 → has_all_pairs r ≡ true → HasData clusters (made_record r)
  pub shows : (node : Node) (r : Record) → has_data r ≡ false → ShowsData node r → ShowsData node (made_record r)
  pub types : (r : Record) (kind : ℕ) → has_type kind r ≡ true → has_type kind (made_record r) ≡ true
