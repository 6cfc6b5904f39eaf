-- A file that had no unnamed data, and gets it.
use Rattle.std.specs.Prelude.{◌≡◌, ℕ, Bool, List, [], ◌∷◌, ◌++◌}
use Rattle.used_laws.specs.record_model.declared.attribute.Attr.{Attr}
use Rattle.used_laws.specs.record_model.declared.attribute.OwnForm.TheVariants.{Resident}
use Rattle.used_laws.specs.record_model.Constants.{data_type}
use Rattle.used_laws.specs.record_model.Records.{Record}
use Rattle.used_laws.specs.file_tree.declared.node.Node.{Node}
use Rattle.used_laws.specs.state_model.Streams.{attributes_of}
use Rattle.used_laws.specs.tree_model.declared.script.Op.{Op}
use Rattle.data_plan.specs.Changes.{growth_of, row_of}

-- unnamed data without bytes, as it is made
pub record IsEmptyData (a : Attr) : Type 0 where
  pub kind : a.head.kind ≡ data_type
  pub unnamed : a.name ≡ []
  pub flags : a.head.flags ≡ 0
  pub indexed : ℕ
  pub form : a.form ≡ Resident [] indexed

-- the second record has such data beside the attributes of the first, which has none
pub record HasMadeData (r s : Record) : Type 0 where
  pub none : attributes_of data_type [] r.attrs ≡ []
  pub new : Attr
  pub empty : IsEmptyData new
  pub front : List Attr
  pub back : List Attr
  pub before : r.attrs ≡ front ++ back
  pub after : s.attrs ≡ front ++ new ∷ back

-- What a step says of a file without unnamed data is what it says once it has it, without bytes: the same clusters come, and the same row
-- applies.
pub record DataMade : Type 0 where
  pub data_is : (r s : Record) (made : HasMadeData r s) → attributes_of data_type [] s.attrs ≡ made.new ∷ []
  pub growth : (bits : List Bool) (r s : Record) (op : Op) (node : Node) → HasMadeData r s → growth_of bits s op node ≡ growth_of bits r op node
  pub row : (bits : List Bool) (r s : Record) (op : Op) (node : Node) → HasMadeData r s → row_of bits s op node ≡ row_of bits r op node
