-- A record that a draft has put, with other values than the one that stands, is an edit of a plan.
use Rattle.std.specs.Prelude.{◌≡◌, ℕ, true, List, [], ◌∷◌, None}
use Rattle.disk_model.specs.Content.{Content}
use Rattle.plan_edits.specs.record_model.declared.attribute.Attr.{Attr}
use Rattle.plan_edits.specs.record_model.Constants.{data_type}
use Rattle.plan_edits.specs.record_model.Records.{Record}
use Rattle.plan_edits.specs.state_model.declared.geometry.Geometry.{Geometry}
use Rattle.plan_edits.specs.state_model.declared.stream.Extents.{Extents}
use Rattle.plan_edits.specs.state_model.Streams.{stream_of}
use Rattle.plan_edits.specs.volume_model.Volumes.{Volume}
use Rattle.plan_edits.specs.volume_model.Nodes.{data_flags}
use Rattle.plan_edits.specs.plan_owners.States.{Stands}
use Rattle.plan_edits.specs.plan_bodies.Bodies.{NewBody}
use Rattle.plan_edits.specs.plan_draft.declared.touched.Touched.{Touched}
use Rattle.plan_edits.specs.plan_draft.Drafts.{drafted}
use Rattle.plan_edits.specs.plan_model.Attributes.{IsValue, RewritesValues}
use Rattle.plan_edits.specs.plan_model.Informed.{is_info}
use Rattle.plan_edits.specs.plan_model.Parts.{ReplacesAttrs}
use Rattle.plan_edits.specs.draft_records.Records.{written_record}
use Rattle.plan_edits.specs.plan_values.Values.{is_data, is_info_or_data, IsOwnFile, WritesValues}
use Rattle.plan_edits.specs.plan_values.Made.{MakesData}
use Rattle.plan_edits.specs.Moves.{EditsDraft}
use Rattle.plan_edits.specs.Records.{PutsRecordOf}

-- In a state that the draft before stands for, a record that is put is the edit that leads to a state: where it differs from the one that
-- stands by standard information and by unnamed data, values in the record before and after, of which the flags stay; where it differs by
-- standard information alone; and where it has unnamed data, and the other one none.
pub record ValuesAreEdit : Type 0 where
  pub values : (c : Content) (g : Geometry) (clusters : ℕ) (v : Volume) (mirror : Extents) (n : ℕ) (r p : Record) (old new : List Touched) → Stands (drafted old c) g clusters v → IsOwnFile v n r → RewritesValues is_info_or_data r p → data_flags p ≡ data_flags r
      → PutsRecordOf c v mirror n p old new → (bodies : List NewBody) × (EditsDraft c old new bodies × WritesValues (drafted old c) v n r p (written_record p) bodies)
  pub times : (c : Content) (g : Geometry) (clusters : ℕ) (v : Volume) (mirror : Extents) (n : ℕ) (r p : Record) (old new : List Touched) → Stands (drafted old c) g clusters v → IsOwnFile v n r → RewritesValues is_info r p
      → PutsRecordOf c v mirror n p old new → (bodies : List NewBody) × (EditsDraft c old new bodies × WritesValues (drafted old c) v n r p (written_record p) bodies)
  pub made : (c : Content) (g : Geometry) (clusters : ℕ) (v : Volume) (mirror : Extents) (n : ℕ) (r p : Record) (one : Attr) (old new : List Touched) → Stands (drafted old c) g clusters v → IsOwnFile v n r → stream_of data_type [] r.attrs ≡ None
      → ReplacesAttrs [] (one ∷ []) r p → p.head.base ≡ r.head.base → is_data one ≡ true → IsValue one.form → one.head.flags ≡ 0
      → PutsRecordOf c v mirror n p old new → (bodies : List NewBody) × (EditsDraft c old new bodies × MakesData (drafted old c) v n r p (written_record p) one bodies)
