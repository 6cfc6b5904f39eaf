-- Values of a file's record are written anew: its standard information, and its unnamed data where this stands in the record.
use Rattle.std.specs.Prelude.{◌≡◌, ℕ, ◌||◌, Bool, false, List, [], ◌∷◌, Option, Some}
use Rattle.disk_model.specs.declared.block.BlockKind.{BlockKind}
use Rattle.disk_model.specs.Content.{Content, HasSizes}
use Rattle.plan_growth.specs.record_model.declared.attribute.Attr.{Attr}
use Rattle.plan_growth.specs.record_model.Constants.{attribute_list, data_type}
use Rattle.plan_growth.specs.record_model.Records.{Record}
use Rattle.bit_set.specs.Bits.{bit}
use Rattle.plan_growth.specs.state_model.declared.geometry.Geometry.{Geometry}
use Rattle.plan_growth.specs.state_model.Files.{has_type, info_of}
use Rattle.plan_growth.specs.state_model.Streams.{is_attribute_of}
use Rattle.plan_growth.specs.volume_model.Volumes.{Volume, file_in, cluster_bits}
use Rattle.plan_growth.specs.volume_model.Nodes.{data_flags}
use Rattle.plan_growth.specs.volume_state.Trees.{tree_of}
use Rattle.plan_growth.specs.stream_laws.Rewrites.{is_edited}
use Rattle.plan_growth.specs.plan_owners.States.{Stands}
use Rattle.plan_growth.specs.plan_bodies.Bodies.{NewBody, content_with}
use Rattle.plan_growth.specs.plan_model.Attributes.{RewritesValues}
use Rattle.plan_growth.specs.plan_model.Drafts.{GoesOn}
use Rattle.plan_growth.specs.plan_model.Edits.{LeadsTo}
use Rattle.plan_growth.specs.plan_model.Informed.{is_info, IsApart, InfoDiffers, with_record}
use Rattle.plan_growth.specs.Streams.{IsWritten, marks_streams, PutsFile}
use Rattle.plan_growth.specs.Trees.{TreeFollows}
use Rattle.plan_values.specs.Trees.{FileFollows}

-- the unnamed data, and besides it standard information
abbrev pub is_data : Attr → Bool
is_data a = is_attribute_of data_type [] a

abbrev pub is_info_or_data : Attr → Bool
is_info_or_data a = is_info a || is_data a

-- a file that is none of $MFT, $Bitmap and $UpCase and has no attribute list
pub record IsOwnFile (v : Volume) (n : ℕ) (r : Record) : Type 0 where
  pub file : file_in v n ≡ Some r
  pub apart : IsApart n
  pub no_list : has_type attribute_list r ≡ false

-- The record as it is written is put, and all else to the bits of clusters, of which none changes, and to the mirror of the file table.
pub record PutsWritten (c : Content) (v : Volume) (n : ℕ) (p s : Record) (bodies : List NewBody) : Type 0 where
  pub written : IsWritten p s
  pub puts : PutsFile marks_streams v n s bodies
  pub marked : cluster_bits (content_with c bodies) v ≡ cluster_bits c v

-- Of a file's record standard information and the unnamed data, both values in the record, are written anew; the flags of the data stay.
pub record WritesValues (c : Content) (v : Volume) (n : ℕ) (r p s : Record) (bodies : List NewBody) : Type 0 where
  pub own : IsOwnFile v n r
  pub values : RewritesValues is_info_or_data r p
  pub flags : data_flags p ≡ data_flags r
  pub put : PutsWritten c v n p s bodies

-- Then a state becomes one in which the other files show what they showed; it is an edit of a plan that gives nothing; and the node has the
-- new standard information and the new data. Where only one of both is written anew, the other one stays.
pub record ValueWritten : Type 0 where
  pub leads : (c : Content) (g : Geometry) (clusters : ℕ) (v : Volume) (n : ℕ) (r p s : Record) (bodies : List NewBody) → HasSizes c → Stands c g clusters v → WritesValues c v n r p s bodies
      → LeadsTo (is_edited (record { number = n; file = Some s } ∷ [])) c v (content_with c bodies) g clusters (with_record v n s)
  pub goes_on : (first : Content) (start : Volume) (c : Content) (g : Geometry) (clusters : ℕ) (v : Volume) (n : ℕ) (r p s : Record) (bodies : List NewBody) (gave : ℕ → Option BlockKind) → HasSizes c → Stands c g clusters v → WritesValues c v n r p s bodies
      → ((kind : BlockKind) (x : ℕ) → gave x ≡ Some kind → bit (cluster_bits first start) x ≡ false) → GoesOn first start c g clusters v bodies (with_record v n s) gave gave
  pub tree : (c : Content) (g : Geometry) (clusters : ℕ) (v : Volume) (n : ℕ) (r p s : Record) (bodies : List NewBody) → HasSizes c → Stands c g clusters v → WritesValues c v n r p s bodies → FileFollows c (content_with c bodies) v n r s
  pub data_alone : (c : Content) (g : Geometry) (clusters : ℕ) (v : Volume) (n : ℕ) (r p s : Record) (bodies : List NewBody) → HasSizes c → Stands c g clusters v → WritesValues c v n r p s bodies → RewritesValues is_data r p → TreeFollows c (content_with c bodies) v n r s
  pub times_alone : (c : Content) (g : Geometry) (clusters : ℕ) (v : Volume) (n : ℕ) (r p s : Record) (bodies : List NewBody) → HasSizes c → Stands c g clusters v → WritesValues c v n r p s bodies → RewritesValues is_info r p
      → InfoDiffers n (info_of p) (tree_of c v) (tree_of (content_with c bodies) (with_record v n s))
