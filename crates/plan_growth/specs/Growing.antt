-- A stream takes clusters: behind its own, which stay where they are, as its sizes do.
use Rattle.std.specs.Prelude.{◌≡◌, ◌+◌, ◌≤◌, ◌<◌, ◌||◌, ℕ, nat_le, false, List, [], ◌∷◌, Option, Some}
use Rattle.plan_model.specs.disk_model.declared.block.BlockKind.{BlockKind}
use Rattle.plan_model.specs.disk_model.Content.{Content, HasSizes}
use Rattle.plan_model.specs.record_model.declared.runs.Run.{Run}
use Rattle.plan_model.specs.record_model.Pairs.{cluster_limit, HasSpelling}
use Rattle.plan_model.specs.record_model.Records.{Record}
use Rattle.plan_model.specs.bit_set.Bits.{bit}
use Rattle.plan_model.specs.state_model.declared.geometry.Geometry.{Geometry}
use Rattle.plan_model.specs.state_model.declared.stream.Extents.{Extents}
use Rattle.plan_model.specs.state_model.declared.stream.Stream.TheVariants.{Placed}
use Rattle.plan_model.specs.state_model.Loads.{total_clusters}
use Rattle.plan_model.specs.volume_model.Volumes.{Volume, bytes_or, cluster_bits}
use Rattle.plan_model.specs.volume_model.Owners.{uses}
use Rattle.plan_model.specs.stream_laws.Owners.{stream_kind}
use Rattle.plan_model.specs.stream_laws.Sharing.{stream_at}
use Rattle.resized_streams.specs.declared.resized.Resized.{Resized}
use Rattle.resized_streams.specs.Resizing.{IsGrown}
use Rattle.plan_model.specs.plan_bodies.Bodies.{NewBody, content_with}
use Rattle.plan_model.specs.plan_owners.States.{Stands}
use Rattle.plan_model.specs.Drafts.{GoesOn, gives_runs}
use Rattle.plan_model.specs.Edits.{LeadsTo}
use Rattle.plan_model.specs.Informed.{with_record}
use Rattle.plan_model.specs.stream_laws.Rewrites.{is_edited}
use Rattle.plan_model.specs.volume_model.Sizes.{has_hole}
use Rattle.plan_growth.specs.Trees.{TreeFollows}
use Rattle.plan_growth.specs.Streams.{IsOwnStream, IsWritten, key_of, marks_streams, PutsFile, MayTake}

-- A stream takes these runs, which may be taken, and its file is put with them. Their bits become set, and the others stay.
pub record GrowsStream (c : Content) (v : Volume) (n kind : ℕ) (name : List ℕ) (e : Extents) (r : Record) (more : List Run) (z : Resized) (s : Record) (bodies : List NewBody) : Type 0 where
  pub own : IsOwnStream v n kind name r (Placed e)
  pub spelled : HasSpelling 0 e.runs
  pub grown : IsGrown v.per kind name e r more z
  pub taken : MayTake v.clusters (cluster_bits c v) more
  pub room : total_clusters e.runs + total_clusters more ≤ cluster_limit
  pub written : IsWritten z.file s
  pub puts : PutsFile marks_streams v n s bodies
  pub marked : (x : ℕ) → x < v.clusters → bit (cluster_bits (content_with c bodies) v) x ≡ (nat_le 1 (uses more x) || bit (cluster_bits c v) x)

-- the clusters may be given this kind: each was clear at first, and was given no other
pub record MayGive (first : Content) (start : Volume) (kind : BlockKind) (more : List Run) (gave : ℕ → Option BlockKind) : Type 0 where
  pub taken : (x : ℕ) → 0 < uses more x → bit (cluster_bits first start) x ≡ false
  pub same : (x : ℕ) (other : BlockKind) → 0 < uses more x → gave x ≡ Some other → other ≡ kind
  pub before : (other : BlockKind) (x : ℕ) → gave x ≡ Some other → bit (cluster_bits first start) x ≡ false

-- Then a state becomes one with the stream in these clusters, in which the other files show what they showed; it is an edit of a plan,
-- which gives the runs the kind of the stream's blocks; and the stream reads as it did.
pub record StreamGrown : Type 0 where
  pub leads : (c : Content) (g : Geometry) (clusters : ℕ) (v : Volume) (n kind : ℕ) (name : List ℕ) (e : Extents) (r : Record) (more : List Run) (z : Resized) (s : Record) (bodies : List NewBody) → HasSizes c → g.per_cluster ≡ 8 → Stands c g clusters v
      → GrowsStream c v n kind name e r more z s bodies → LeadsTo (is_edited (record { number = n; file = Some s } ∷ [])) c v (content_with c bodies) g clusters (with_record v n s)
  pub goes_on : (first : Content) (start : Volume) (c : Content) (g : Geometry) (clusters : ℕ) (v : Volume) (n kind : ℕ) (name : List ℕ) (e : Extents) (r : Record) (more : List Run) (z : Resized) (s : Record) (bodies : List NewBody) (gave : ℕ → Option BlockKind) → HasSizes c → g.per_cluster ≡ 8
      → Stands c g clusters v → GrowsStream c v n kind name e r more z s bodies → MayGive first start (stream_kind (key_of n kind name)) more gave
      → GoesOn first start c g clusters v bodies (with_record v n s) gave (gives_runs (stream_kind (key_of n kind name)) more gave)
  pub bytes : (c : Content) (g : Geometry) (clusters : ℕ) (v : Volume) (n kind : ℕ) (name : List ℕ) (e : Extents) (r : Record) (more : List Run) (z : Resized) (s : Record) (bodies : List NewBody) → HasSizes c → g.per_cluster ≡ 8 → Stands c g clusters v
      → GrowsStream c v n kind name e r more z s bodies → marks_streams (key_of n kind name) ≡ false → bytes_or (content_with c bodies) v.per (stream_at (with_record v n s) (key_of n kind name)) ≡ bytes_or c v.per (stream_at v (key_of n kind name))
  pub tree : (c : Content) (g : Geometry) (clusters : ℕ) (v : Volume) (n kind : ℕ) (name : List ℕ) (e : Extents) (r : Record) (more : List Run) (z : Resized) (s : Record) (bodies : List NewBody) → HasSizes c → g.per_cluster ≡ 8 → Stands c g clusters v
      → GrowsStream c v n kind name e r more z s bodies → has_hole (Some (Placed e)) ≡ false → TreeFollows c (content_with c bodies) v n r s
