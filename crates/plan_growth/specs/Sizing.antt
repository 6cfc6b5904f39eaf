-- A stream gets other sizes in the clusters that it has.
use Rattle.std.specs.Prelude.{◌≡◌, ◌≢◌, ◌≤◌, ◌<◌, ◌*◌, ◌==◌, ◌&&◌, ◌||◌, nat_eq, ℕ, Bool, false, List, [], ◌∷◌, Option, Some}
use Rattle.std.specs.Cmp.Lexicographic.{pointwise}
use Rattle.plan_model.specs.disk_model.declared.block.Block.{Block}
use Rattle.plan_model.specs.disk_model.declared.block.BlockKind.{BlockKind}
use Rattle.plan_model.specs.disk_model.Content.{Content, HasSizes}
use Rattle.plan_model.specs.disk_model.Sectors.{sectors}
use Rattle.plan_model.specs.record_model.Constants.{index_allocation}
use Rattle.plan_model.specs.record_model.Pairs.{HasSpelling}
use Rattle.plan_model.specs.record_model.Records.{Record}
use Rattle.plan_model.specs.bit_set.Bits.{bit}
use Rattle.plan_model.specs.state_model.declared.geometry.Geometry.{Geometry}
use Rattle.plan_model.specs.state_model.declared.stream.Extents.{Extents}
use Rattle.plan_model.specs.state_model.declared.stream.Stream.TheVariants.{Placed}
use Rattle.plan_model.specs.state_model.Streams.{block_at}
use Rattle.plan_model.specs.volume_model.Volumes.{Volume, cluster_bits}
use Rattle.plan_model.specs.stream_laws.Owners.{stream_kind}
use Rattle.plan_model.specs.stream_laws.Rewrites.{is_edited}
use Rattle.plan_model.specs.stream_laws.Sharing.{StreamKey, stream_at}
use Rattle.resized_streams.specs.declared.resized.Resized.{Resized}
use Rattle.resized_streams.specs.Resizing.{IsSized}
use Rattle.plan_model.specs.plan_bodies.Bodies.{NewBody, content_with}
use Rattle.plan_model.specs.plan_owners.States.{Stands}
use Rattle.plan_model.specs.Drafts.{GoesOn, IsPut}
use Rattle.plan_model.specs.Edits.{LeadsTo}
use Rattle.plan_model.specs.Informed.{with_record}
use Rattle.plan_model.specs.volume_model.Sizes.{has_hole}
use Rattle.plan_growth.specs.Trees.{TreeFollows}
use Rattle.plan_growth.specs.Streams.{IsOwnStream, IsWritten, key_of, marks_streams, PutsFile}

-- the bits of clusters, the mirror of the file table, and the stream itself
abbrev pub marks_and : ℕ → ℕ → List ℕ → StreamKey → Bool
marks_and n kind name s = marks_streams s || (s.file == n && s.kind == kind && pointwise nat_eq s.name name)

-- each block of the stream that begins at its old initialised size or behind it, and below the new one, is put whole
abbrev pub CoversNew : Volume → StreamKey → Extents → ℕ → List NewBody → Type 0
CoversNew v s e initialised bodies = (m : ℕ) (b : Block) → block_at v.per e.runs (stream_kind s) m ≡ Some b → e.initialised ≤ 512 * (sectors (stream_kind s) * m) → 512 * (sectors (stream_kind s) * m) < initialised → IsPut bodies b

-- A stream that is no index gets these sizes, which its clusters have room for, and its file is put with them. What is put goes to the
-- stream too, and covers all that comes to be initialised. No bit of a cluster changes.
pub record SizesStream (c : Content) (v : Volume) (n kind : ℕ) (name : List ℕ) (e : Extents) (r : Record) (real initialised : ℕ) (z : Resized) (s : Record) (bodies : List NewBody) : Type 0 where
  pub own : IsOwnStream v n kind name r (Placed e)
  pub no_index : index_allocation ≢ kind
  pub spelled : HasSpelling 0 e.runs
  pub sized : IsSized v.per kind name e r real initialised z
  pub lawful : initialised ≤ real
  pub room : real ≤ e.allocated
  pub written : IsWritten z.file s
  pub puts : PutsFile (marks_and n kind name) v n s bodies
  pub covers : CoversNew v (key_of n kind name) e initialised bodies
  pub marked : (x : ℕ) → x < v.clusters → bit (cluster_bits (content_with c bodies) v) x ≡ bit (cluster_bits c v) x

-- Then a state becomes one with the stream of these sizes, in which the other files show what they showed; and it is an edit of a plan that
-- gives nothing.
pub record StreamSized : Type 0 where
  pub leads : (c : Content) (g : Geometry) (clusters : ℕ) (v : Volume) (n kind : ℕ) (name : List ℕ) (e : Extents) (r : Record) (real initialised : ℕ) (z : Resized) (s : Record) (bodies : List NewBody) → HasSizes c → g.per_cluster ≡ 8 → Stands c g clusters v
      → SizesStream c v n kind name e r real initialised z s bodies → LeadsTo (is_edited (record { number = n; file = Some s } ∷ [])) c v (content_with c bodies) g clusters (with_record v n s)
  pub goes_on : (first : Content) (start : Volume) (c : Content) (g : Geometry) (clusters : ℕ) (v : Volume) (n kind : ℕ) (name : List ℕ) (e : Extents) (r : Record) (real initialised : ℕ) (z : Resized) (s : Record) (bodies : List NewBody) (gave : ℕ → Option BlockKind) → HasSizes c → g.per_cluster ≡ 8
      → Stands c g clusters v → SizesStream c v n kind name e r real initialised z s bodies → ((other : BlockKind) (x : ℕ) → gave x ≡ Some other → bit (cluster_bits first start) x ≡ false) → GoesOn first start c g clusters v bodies (with_record v n s) gave gave
  pub stream : (c : Content) (g : Geometry) (clusters : ℕ) (v : Volume) (n kind : ℕ) (name : List ℕ) (e : Extents) (r : Record) (real initialised : ℕ) (z : Resized) (s : Record) (bodies : List NewBody) → HasSizes c → g.per_cluster ≡ 8 → Stands c g clusters v
      → SizesStream c v n kind name e r real initialised z s bodies → stream_at (with_record v n s) (key_of n kind name) ≡ Some (Placed z.extents)
  pub tree : (c : Content) (g : Geometry) (clusters : ℕ) (v : Volume) (n kind : ℕ) (name : List ℕ) (e : Extents) (r : Record) (real initialised : ℕ) (z : Resized) (s : Record) (bodies : List NewBody) → HasSizes c → g.per_cluster ≡ 8 → Stands c g clusters v
      → SizesStream c v n kind name e r real initialised z s bodies → has_hole (Some (Placed e)) ≡ false → TreeFollows c (content_with c bodies) v n r s
