-- A file gets unnamed data, as a value in its record.
use Rattle.std.specs.Prelude.{◌≡◌, ℕ, true, false, List, [], ◌∷◌, Option, Some, None}
use Rattle.disk_model.specs.declared.block.BlockKind.{BlockKind}
use Rattle.disk_model.specs.Content.{Content, HasSizes}
use Rattle.plan_growth.specs.record_model.declared.attribute.Attr.{Attr}
use Rattle.plan_growth.specs.record_model.Constants.{data_type}
use Rattle.plan_growth.specs.record_model.Records.{Record}
use Rattle.bit_set.specs.Bits.{bit}
use Rattle.plan_growth.specs.state_model.declared.geometry.Geometry.{Geometry}
use Rattle.plan_growth.specs.state_model.Streams.{stream_of}
use Rattle.plan_growth.specs.volume_model.Volumes.{Volume, cluster_bits}
use Rattle.plan_growth.specs.stream_laws.Rewrites.{is_edited}
use Rattle.plan_growth.specs.plan_owners.States.{Stands}
use Rattle.plan_growth.specs.plan_bodies.Bodies.{NewBody, content_with}
use Rattle.plan_growth.specs.plan_model.Attributes.{IsValue}
use Rattle.plan_growth.specs.plan_model.Drafts.{GoesOn}
use Rattle.plan_growth.specs.plan_model.Edits.{LeadsTo}
use Rattle.plan_growth.specs.plan_model.Informed.{with_record}
use Rattle.plan_growth.specs.plan_model.Parts.{ReplacesAttrs}
use Rattle.plan_growth.specs.Trees.{TreeFollows}
use Rattle.plan_values.specs.Trees.{FileFollows}
use Rattle.plan_values.specs.Values.{is_data, IsOwnFile, PutsWritten}

-- Of a file's record that has no unnamed data, one attribute comes: its unnamed data, a value in the record, without flags.
pub record MakesData (c : Content) (v : Volume) (n : ℕ) (r p s : Record) (one : Attr) (bodies : List NewBody) : Type 0 where
  pub own : IsOwnFile v n r
  pub none : stream_of data_type [] r.attrs ≡ None
  pub comes : ReplacesAttrs [] (one ∷ []) r p
  pub base : p.head.base ≡ r.head.base
  pub of_data : is_data one ≡ true
  pub value : IsValue one.form
  pub plain : one.head.flags ≡ 0
  pub put : PutsWritten c v n p s bodies

-- Then a state becomes one in which the other files show what they showed; it is an edit of a plan that gives nothing; and the node has the
-- data.
pub record DataMade : Type 0 where
  pub leads : (c : Content) (g : Geometry) (clusters : ℕ) (v : Volume) (n : ℕ) (r p s : Record) (one : Attr) (bodies : List NewBody) → HasSizes c → Stands c g clusters v → MakesData c v n r p s one bodies
      → LeadsTo (is_edited (record { number = n; file = Some s } ∷ [])) c v (content_with c bodies) g clusters (with_record v n s)
  pub goes_on : (first : Content) (start : Volume) (c : Content) (g : Geometry) (clusters : ℕ) (v : Volume) (n : ℕ) (r p s : Record) (one : Attr) (bodies : List NewBody) (gave : ℕ → Option BlockKind) → HasSizes c → Stands c g clusters v → MakesData c v n r p s one bodies
      → ((kind : BlockKind) (x : ℕ) → gave x ≡ Some kind → bit (cluster_bits first start) x ≡ false) → GoesOn first start c g clusters v bodies (with_record v n s) gave gave
  pub tree : (c : Content) (g : Geometry) (clusters : ℕ) (v : Volume) (n : ℕ) (r p s : Record) (one : Attr) (bodies : List NewBody) → HasSizes c → Stands c g clusters v → MakesData c v n r p s one bodies → FileFollows c (content_with c bodies) v n r s
  pub data_alone : (c : Content) (g : Geometry) (clusters : ℕ) (v : Volume) (n : ℕ) (r p s : Record) (one : Attr) (bodies : List NewBody) → HasSizes c → Stands c g clusters v → MakesData c v n r p s one bodies → TreeFollows c (content_with c bodies) v n r s
