-- A plan while it is made: the state at which it begins, the state to which its bodies have led, and the kind that it gave to each
-- cluster that it ever took.
use Rattle.std.specs.Prelude.{◌≡◌, ◌⊎◌, ℕ, ◌<◌, Bool, true, false, List, [], ◌∷◌, Option, Some, None, nat_le, if◌then◌else◌}
use Rattle.std.specs.List.{AllByRecursion}
use Rattle.plan_bodies.specs.disk_model.declared.block.Block.{Block}
use Rattle.plan_bodies.specs.disk_model.declared.block.BlockKind.{BlockKind}
use Rattle.plan_bodies.specs.disk_model.Sectors.{are_rivals}
use Rattle.plan_bodies.specs.disk_model.Content.{Content, HasSizes}
use Rattle.index_change.specs.record_model.Records.{Record}
use Rattle.index_change.specs.bit_set.Bits.{bit}
use Rattle.plan_owners.specs.log_model.Logs.{is_in_grid}
use Rattle.index_change.specs.state_model.declared.geometry.Geometry.{Geometry}
use Rattle.index_change.specs.volume_model.Volumes.{Volume, cluster_bits}
use Rattle.index_change.specs.volume_model.Owners.{volume_runs, uses}
use Rattle.plan_owners.specs.stream_laws.Owners.{initialised_in, Owns, IsLive}
use Rattle.plan_owners.specs.stream_laws.Sharing.{StreamKey, stream_at, runs_in}
use Rattle.index_change.specs.record_model.declared.runs.Run.{Run}
use Rattle.plan_owners.specs.States.{Stands}
use Rattle.plan_owners.specs.Kinds.{cluster_of, OwnsAs}
use Rattle.plan_model.specs.Attributes.{RewritesValues}
use Rattle.plan_bodies.specs.Bodies.{NewBody, content_with, AreBodies, body_in, put_bodies}
use Rattle.plan_model.specs.Informed.{is_info, IsApart, PutsRecord, with_record}

-- the bits follow the owners: they become clear for clusters that are owned no more, and set for those that are owned now, which were
-- clear; others stay
pub record FollowsOwners (clusters : ℕ) (bits new_bits : List Bool) (old new : List (Option Record)) : Type 0 where
  pub cleared : (x : ℕ) → x < clusters → uses (volume_runs new) x < uses (volume_runs old) x → bit new_bits x ≡ false
  pub set : (x : ℕ) → x < clusters → uses (volume_runs old) x < uses (volume_runs new) x → (bit bits x ≡ false) × (bit new_bits x ≡ true)
  pub others : (x : ℕ) → x < clusters → uses (volume_runs new) x ≡ uses (volume_runs old) x → bit new_bits x ≡ bit bits x

-- a block that a plan may change: it lies in the grid, in a cluster that the first state owns as its kind or that was given this kind
abbrev pub MayChange : Volume → (ℕ → Option BlockKind) → Block → Type 0
MayChange v gave b = (is_in_grid b ≡ true) × (OwnsAs v b.kind (cluster_of b) ⊎ (gave (cluster_of b) ≡ Some b.kind))

-- one of these bodies is put into the block
abbrev pub IsPut : List NewBody → Block → Type 0
IsPut bodies b = (bytes : List ℕ) × (body_in bodies b ≡ Some bytes)

-- These bodies over the content, whole and each of a block of its own, lead from the state of one volume to that of another. The bits
-- follow the owners. A cluster that was given was clear at first; each is still owned as its kind, or as the one that it was given;
-- and each block that is newly owned, or newly before its stream's initialised size, is put whole.
pub record DraftIn (c : Content) (g : Geometry) (clusters : ℕ) (v : Volume) (bodies : List NewBody) (w : Volume) (gave : ℕ → Option BlockKind) : Type 0 where
  pub whole : AreBodies bodies
  pub stands : Stands (content_with c bodies) g clusters w
  pub marks : FollowsOwners clusters (cluster_bits c v) (cluster_bits (content_with c bodies) w) v.files w.files
  pub clear : (kind : BlockKind) (x : ℕ) → gave x ≡ Some kind → bit (cluster_bits c v) x ≡ false
  pub kinds : (kind : BlockKind) (x : ℕ) → OwnsAs w kind x → OwnsAs v kind x ⊎ (gave x ≡ Some kind)
  pub changes : AllByRecursion (λ p. MayChange v gave p.block) bodies
  pub covers : (b : Block) → IsLive w b → IsLive v b ⊎ IsPut bodies b

-- One more edit, of bodies over the content so far: it leads to a state whose bits follow the owners; what it takes was clear at
-- first too, and gets a kind; each block that it changes is owned before or after it; and it puts whole what is newly live.
pub record GoesOn (c : Content) (v : Volume) (d : Content) (g : Geometry) (clusters : ℕ) (w : Volume) (more : List NewBody) (u : Volume) (gave gives : ℕ → Option BlockKind) : Type 0 where
  pub whole : AreBodies more
  pub stands : Stands (content_with d more) g clusters u
  pub marks : FollowsOwners clusters (cluster_bits d w) (cluster_bits (content_with d more) u) w.files u.files
  pub kept : (kind : BlockKind) (x : ℕ) → gave x ≡ Some kind → gives x ≡ Some kind
  pub takes : (kind : BlockKind) (x : ℕ) → OwnsAs u kind x → OwnsAs w kind x ⊎ (gives x ≡ Some kind)
  pub clear : (kind : BlockKind) (x : ℕ) → gives x ≡ Some kind → bit (cluster_bits c v) x ≡ false
  pub touched : AllByRecursion (λ p. Owns w p.block ⊎ Owns u p.block) more
  pub covers : (b : Block) → IsLive u b → IsLive w b ⊎ IsPut more b

-- the streams of the second volume have the runs and the initialised sizes of those of the first
pub record KeepsExtents (v w : Volume) : Type 0 where
  pub per : w.per ≡ v.per
  pub runs : (s : StreamKey) → runs_in (stream_at w s) ≡ runs_in (stream_at v s)
  pub sizes : (s : StreamKey) → initialised_in (stream_at w s) ≡ initialised_in (stream_at v s)

-- the clusters of these runs get this kind, and the others keep what they were given
abbrev pub gives_runs : BlockKind → List Run → (ℕ → Option BlockKind) → ℕ → Option BlockKind
gives_runs kind runs gave x = if nat_le 1 (uses runs x) then Some kind else gave x

-- nothing is given
abbrev pub gives_none : ℕ → Option BlockKind
gives_none x = None

-- A plan begins empty and goes on edit by edit, into one list of bodies. No block that it changes has a rival that the first state
-- owns, and no two of them are rivals. A node's times changed are such an edit, and so is
-- each that keeps all runs, initialised sizes and bits, and puts bodies of owned blocks.
pub record DraftsGoOn : Type 0 where
  pub begins : (c : Content) (g : Geometry) (clusters : ℕ) (v : Volume) → HasSizes c → Stands c g clusters v → DraftIn c g clusters v [] v gives_none
  pub goes_on : (c : Content) (g : Geometry) (clusters : ℕ) (v w u : Volume) (bodies more : List NewBody) (gave gives : ℕ → Option BlockKind) → HasSizes c → g.per_cluster ≡ 8 → Stands c g clusters v
      → DraftIn c g clusters v bodies w gave → GoesOn c v (content_with c bodies) g clusters w more u gave gives → DraftIn c g clusters v (put_bodies more bodies) u gives
  pub rivals : (c : Content) (g : Geometry) (clusters : ℕ) (v w : Volume) (bodies : List NewBody) (gave : ℕ → Option BlockKind) → g.per_cluster ≡ 8 → Stands c g clusters v → DraftIn c g clusters v bodies w gave
      → AllByRecursion (λ p. ((r : Block) → Owns v r → are_rivals p.block r ≡ false) × AllByRecursion (λ q. are_rivals p.block q.block ≡ false) bodies) bodies
  pub times : (c : Content) (v : Volume) (d : Content) (g : Geometry) (clusters : ℕ) (w : Volume) (n : ℕ) (r s : Record) (p : NewBody) (gave : ℕ → Option BlockKind) → HasSizes d → Stands d g clusters w → IsApart n → PutsRecord w n r s p
      → RewritesValues is_info r s → ((kind : BlockKind) (x : ℕ) → gave x ≡ Some kind → bit (cluster_bits c v) x ≡ false) → GoesOn c v d g clusters w (p ∷ []) (with_record w n s) gave gave
  pub quiet : (first : Content) (start : Volume) (c : Content) (g : Geometry) (clusters : ℕ) (v : Volume) (bodies : List NewBody) (u : Volume) (gave : ℕ → Option BlockKind) → AreBodies bodies → Stands (content_with c bodies) g clusters u → KeepsExtents v u
      → ((x : ℕ) → x < clusters → bit (cluster_bits (content_with c bodies) u) x ≡ bit (cluster_bits c v) x) → ((x : ℕ) → uses (volume_runs u.files) x ≡ uses (volume_runs v.files) x) → AllByRecursion (λ p. Owns v p.block) bodies
      → ((kind : BlockKind) (x : ℕ) → gave x ≡ Some kind → bit (cluster_bits first start) x ≡ false) → GoesOn first start c g clusters v bodies u gave gave

-- Runs that get a kind have it. What was given before stays, where the runs have none of it as another kind; and all that was given
-- was clear, where the runs were.
pub record RunsGiven : Type 0 where
  pub here : (kind : BlockKind) (runs : List Run) (gave : ℕ → Option BlockKind) (x : ℕ) → 0 < uses runs x → gives_runs kind runs gave x ≡ Some kind
  pub before : (kind : BlockKind) (runs : List Run) (gave : ℕ → Option BlockKind) → ((x : ℕ) (other : BlockKind) → 0 < uses runs x → gave x ≡ Some other → other ≡ kind) → (other : BlockKind) (x : ℕ) → gave x ≡ Some other → gives_runs kind runs gave x ≡ Some other
  pub clear : (kind : BlockKind) (runs : List Run) (gave : ℕ → Option BlockKind) (bits : List Bool) → ((x : ℕ) → 0 < uses runs x → bit bits x ≡ false) → ((other : BlockKind) (x : ℕ) → gave x ≡ Some other → bit bits x ≡ false)
      → (other : BlockKind) (x : ℕ) → gives_runs kind runs gave x ≡ Some other → bit bits x ≡ false
