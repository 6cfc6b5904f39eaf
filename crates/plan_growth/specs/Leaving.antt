-- A value leaves its record for clusters of its own.
use Rattle.std.specs.Prelude.{◌≡◌, ◌≢◌, ◌≤◌, ◌<◌, ◌*◌, ◌||◌, ℕ, nat_le, length, List, [], ◌∷◌, Option, Some}
use Rattle.plan_model.specs.disk_model.declared.block.Block.{Block}
use Rattle.plan_model.specs.disk_model.declared.block.BlockKind.{BlockKind}
use Rattle.plan_model.specs.disk_model.Content.{Content, HasSizes}
use Rattle.plan_model.specs.disk_model.Sectors.{sectors}
use Rattle.plan_model.specs.record_model.declared.runs.Run.{Run}
use Rattle.plan_model.specs.record_model.Constants.{index_allocation}
use Rattle.plan_model.specs.record_model.Pairs.{cluster_limit}
use Rattle.plan_model.specs.record_model.Records.{Record}
use Rattle.plan_model.specs.bit_set.Bits.{bit}
use Rattle.plan_model.specs.state_model.declared.geometry.Geometry.{Geometry}
use Rattle.plan_model.specs.state_model.declared.stream.Stream.TheVariants.{Held, Placed}
use Rattle.plan_model.specs.state_model.Loads.{total_clusters}
use Rattle.plan_model.specs.state_model.Streams.{block_at}
use Rattle.plan_model.specs.volume_model.Volumes.{Volume, cluster_bits}
use Rattle.plan_model.specs.volume_model.Owners.{uses}
use Rattle.plan_model.specs.volume_state.Journals.{limits_name}
use Rattle.plan_model.specs.stream_laws.Owners.{stream_kind}
use Rattle.plan_model.specs.stream_laws.Rewrites.{is_edited}
use Rattle.plan_model.specs.stream_laws.Sharing.{stream_at}
use Rattle.resized_streams.specs.declared.resized.Resized.{Resized}
use Rattle.resized_streams.specs.Resizing.{IsGrown, clusters_for, unplaced}
use Rattle.plan_model.specs.plan_bodies.Bodies.{NewBody, content_with}
use Rattle.plan_model.specs.plan_owners.States.{Stands}
use Rattle.plan_model.specs.Drafts.{GoesOn, IsPut, gives_runs}
use Rattle.plan_model.specs.Edits.{LeadsTo}
use Rattle.plan_model.specs.Informed.{with_record}
use Rattle.plan_growth.specs.Trees.{TreeFollows}
use Rattle.plan_growth.specs.Growing.{MayGive}
use Rattle.plan_growth.specs.Streams.{IsOwnStream, IsWritten, key_of, marks_streams, PutsFresh, MayTake}

-- A stream that was a value, neither an index's nor the limits of a change journal, takes these runs, which have room for its new value.
-- Each block of it that holds a byte of that is put whole. The bits of the clusters become set, and the others stay.
pub record MovesValue (c : Content) (v : Volume) (n kind : ℕ) (name value : List ℕ) (r : Record) (more : List Run) (z : Resized) (s : Record) (bodies : List NewBody) : Type 0 where
  pub was : List ℕ
  pub own : IsOwnStream v n kind name r (Held was)
  pub no_index : index_allocation ≢ kind
  pub no_limits : limits_name ≢ name
  pub grown : IsGrown v.per kind name (unplaced (length value)) r more z
  pub taken : MayTake v.clusters (cluster_bits c v) more
  pub enough : clusters_for v.per (length value) ≤ total_clusters more
  pub room : total_clusters more ≤ cluster_limit
  pub written : IsWritten z.file s
  pub puts : PutsFresh marks_streams v n kind name s bodies
  pub covers : (m : ℕ) (b : Block) → block_at v.per z.extents.runs (stream_kind (key_of n kind name)) m ≡ Some b → 512 * (sectors (stream_kind (key_of n kind name)) * m) < length value → IsPut bodies b
  pub marked : (x : ℕ) → x < v.clusters → bit (cluster_bits (content_with c bodies) v) x ≡ (nat_le 1 (uses more x) || bit (cluster_bits c v) x)

-- Then a state becomes one with the stream in these clusters, in which the other files show what they showed; and it is an edit of a plan,
-- which gives the runs the kind of the stream's blocks.
pub record ValueMoved : Type 0 where
  pub leads : (c : Content) (g : Geometry) (clusters : ℕ) (v : Volume) (n kind : ℕ) (name value : List ℕ) (r : Record) (more : List Run) (z : Resized) (s : Record) (bodies : List NewBody) → HasSizes c → g.per_cluster ≡ 8 → Stands c g clusters v
      → MovesValue c v n kind name value r more z s bodies → LeadsTo (is_edited (record { number = n; file = Some s } ∷ [])) c v (content_with c bodies) g clusters (with_record v n s)
  pub goes_on : (first : Content) (start : Volume) (c : Content) (g : Geometry) (clusters : ℕ) (v : Volume) (n kind : ℕ) (name value : List ℕ) (r : Record) (more : List Run) (z : Resized) (s : Record) (bodies : List NewBody) (gave : ℕ → Option BlockKind) → HasSizes c → g.per_cluster ≡ 8
      → Stands c g clusters v → MovesValue c v n kind name value r more z s bodies → MayGive first start (stream_kind (key_of n kind name)) more gave
      → GoesOn first start c g clusters v bodies (with_record v n s) gave (gives_runs (stream_kind (key_of n kind name)) more gave)
  pub stream : (c : Content) (g : Geometry) (clusters : ℕ) (v : Volume) (n kind : ℕ) (name value : List ℕ) (r : Record) (more : List Run) (z : Resized) (s : Record) (bodies : List NewBody) → HasSizes c → g.per_cluster ≡ 8 → Stands c g clusters v
      → MovesValue c v n kind name value r more z s bodies → stream_at (with_record v n s) (key_of n kind name) ≡ Some (Placed z.extents)
  pub tree : (c : Content) (g : Geometry) (clusters : ℕ) (v : Volume) (n kind : ℕ) (name value : List ℕ) (r : Record) (more : List Run) (z : Resized) (s : Record) (bodies : List NewBody) → HasSizes c → g.per_cluster ≡ 8 → Stands c g clusters v
      → MovesValue c v n kind name value r more z s bodies → TreeFollows c (content_with c bodies) v n r s
