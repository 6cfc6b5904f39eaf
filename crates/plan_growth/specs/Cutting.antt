-- A stream is cut: it gives back the clusters past its new size.
use Rattle.std.specs.Prelude.{◌≡◌, ◌≢◌, ◌≤◌, ◌<◌, ◌&&◌, not, ℕ, nat_le, false, take, List, [], ◌∷◌, Option, Some}
use Rattle.plan_model.specs.disk_model.declared.block.BlockKind.{BlockKind}
use Rattle.plan_model.specs.disk_model.Content.{Content, HasSizes}
use Rattle.plan_model.specs.record_model.Constants.{index_allocation}
use Rattle.plan_model.specs.record_model.Pairs.{HasSpelling}
use Rattle.plan_model.specs.record_model.Records.{Record}
use Rattle.plan_model.specs.bit_set.Bits.{bit}
use Rattle.plan_model.specs.state_model.declared.geometry.Geometry.{Geometry}
use Rattle.plan_model.specs.state_model.declared.stream.Extents.{Extents}
use Rattle.plan_model.specs.state_model.declared.stream.Stream.TheVariants.{Placed}
use Rattle.plan_model.specs.volume_model.Volumes.{Volume, bytes_or, cluster_bits}
use Rattle.plan_model.specs.volume_model.Owners.{uses}
use Rattle.plan_model.specs.stream_laws.Rewrites.{is_edited}
use Rattle.plan_model.specs.stream_laws.Sharing.{stream_at}
use Rattle.resized_streams.specs.declared.resized.Resized.{Resized}
use Rattle.resized_streams.specs.Resizing.{IsCut}
use Rattle.plan_model.specs.plan_bodies.Bodies.{NewBody, content_with}
use Rattle.plan_model.specs.plan_owners.States.{Stands}
use Rattle.plan_model.specs.Drafts.{GoesOn}
use Rattle.plan_model.specs.Edits.{LeadsTo}
use Rattle.plan_model.specs.Informed.{with_record}
use Rattle.plan_model.specs.volume_model.Sizes.{has_hole}
use Rattle.plan_growth.specs.Trees.{TreeFollows}
use Rattle.plan_growth.specs.Streams.{IsOwnStream, IsWritten, key_of, marks_streams, PutsFile}

-- A stream that is no index is cut to a size, and its file is put so. The bits of the clusters that it gives back become clear, and the
-- others stay.
pub record CutsStream (c : Content) (v : Volume) (n kind : ℕ) (name : List ℕ) (e : Extents) (r : Record) (size : ℕ) (z : Resized) (s : Record) (bodies : List NewBody) : Type 0 where
  pub own : IsOwnStream v n kind name r (Placed e)
  pub no_index : index_allocation ≢ kind
  pub spelled : HasSpelling 0 e.runs
  pub cut : IsCut v.per kind name e r size z
  pub less : size ≤ e.real
  pub written : IsWritten z.file s
  pub puts : PutsFile marks_streams v n s bodies
  pub marked : (x : ℕ) → x < v.clusters → bit (cluster_bits (content_with c bodies) v) x ≡ (not (nat_le 1 (uses z.freed.items x)) && bit (cluster_bits c v) x)

-- Then a state becomes one with the stream so, in which the other files show what they showed; it is an edit of a plan that gives
-- nothing; and the stream reads as the front of what it was.
pub record StreamCut : Type 0 where
  pub leads : (c : Content) (g : Geometry) (clusters : ℕ) (v : Volume) (n kind : ℕ) (name : List ℕ) (e : Extents) (r : Record) (size : ℕ) (z : Resized) (s : Record) (bodies : List NewBody) → HasSizes c → g.per_cluster ≡ 8 → Stands c g clusters v
      → CutsStream c v n kind name e r size z s bodies → LeadsTo (is_edited (record { number = n; file = Some s } ∷ [])) c v (content_with c bodies) g clusters (with_record v n s)
  pub goes_on : (first : Content) (start : Volume) (c : Content) (g : Geometry) (clusters : ℕ) (v : Volume) (n kind : ℕ) (name : List ℕ) (e : Extents) (r : Record) (size : ℕ) (z : Resized) (s : Record) (bodies : List NewBody) (gave : ℕ → Option BlockKind) → HasSizes c → g.per_cluster ≡ 8
      → Stands c g clusters v → CutsStream c v n kind name e r size z s bodies → ((other : BlockKind) (x : ℕ) → gave x ≡ Some other → bit (cluster_bits first start) x ≡ false)
      → GoesOn first start c g clusters v bodies (with_record v n s) gave gave
  pub bytes : (c : Content) (g : Geometry) (clusters : ℕ) (v : Volume) (n kind : ℕ) (name : List ℕ) (e : Extents) (r : Record) (size : ℕ) (z : Resized) (s : Record) (bodies : List NewBody) → HasSizes c → g.per_cluster ≡ 8 → Stands c g clusters v
      → CutsStream c v n kind name e r size z s bodies → marks_streams (key_of n kind name) ≡ false
      → bytes_or (content_with c bodies) v.per (stream_at (with_record v n s) (key_of n kind name)) ≡ take size (bytes_or c v.per (stream_at v (key_of n kind name)))
  pub tree : (c : Content) (g : Geometry) (clusters : ℕ) (v : Volume) (n kind : ℕ) (name : List ℕ) (e : Extents) (r : Record) (size : ℕ) (z : Resized) (s : Record) (bodies : List NewBody) → HasSizes c → g.per_cluster ≡ 8 → Stands c g clusters v
      → CutsStream c v n kind name e r size z s bodies → has_hole (Some (Placed e)) ≡ false → TreeFollows c (content_with c bodies) v n r s
