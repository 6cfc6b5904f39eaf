-- What the bodies of a plan leave of the blocks from which a state is read.
use Rattle.std.specs.Prelude.{◌≡◌, ◌⊎◌, ℕ, true, false, List, Option, Some}
use Rattle.std.specs.List.{AllByRecursion}
use Rattle.disk_model.specs.declared.block.Block.{Block}
use Rattle.disk_model.specs.declared.block.BlockKind.{BlockKind}
use Rattle.disk_model.specs.declared.block.Change.{Change}
use Rattle.disk_model.specs.Content.{Content}
use Rattle.record_model.specs.Records.{Record}
use Rattle.plan_model.specs.state_model.declared.geometry.Geometry.{Geometry}
use Rattle.plan_model.specs.state_model.Loads.{list_stream}
use Rattle.plan_model.specs.volume_model.Volumes.{Volume}
use Rattle.plan_model.specs.stream_laws.Sharing.{stream_at, runs_in}
use Rattle.plan_model.specs.stream_laws.Volumes.{base_record}
use Rattle.plan_model.specs.plan_owners.States.{Stands}
use Rattle.plan_model.specs.plan_owners.Agreeing.{IsJudged, log_key, list_key}
use Rattle.state_blocks.specs.Needing.{IsListed, IsNeeded}
use Rattle.state_blocks.specs.Drafts.{is_changed, DraftIn}
use Rattle.plan_bodies.specs.Bodies.{NewBody, content_with}
use Rattle.plan_model.specs.Drafts.{IsPut, DraftIn as PlanIn}

-- no file's attribute list has a part in another record
abbrev pub HasOwnLists : Content → Volume → Type 0
HasOwnLists c v = (n : ℕ) (r : Record) → base_record c v.per v.table n ≡ Some r → stream_at v (list_key n r) ≡ list_stream r

-- The changes are of blocks into which the bodies are put; and a block into which one is put without a change is one from which the state is read.
pub record AreOf (c : Content) (v : Volume) (changes : List Change) (bodies : List NewBody) : Type 0 where
  pub each : AllByRecursion (λ x. IsPut bodies x.block) changes
  pub all : (b : Block) → IsPut bodies b → IsNeeded c v b ⊎ (is_changed changes b ≡ true)

-- What a plan shows beside its draft: the log keeps its clusters, no attribute list has a part in another record before it, each block of an attribute list behind it is one
-- from which the state before is read or is owned as the others are, and no block from which the state is read and which is changed is torn.
pub record PlanKeeps (c : Content) (v : Volume) (changes : List Change) (d : Content) (w : Volume) : Type 0 where
  pub log : runs_in (stream_at w log_key) ≡ runs_in (stream_at v log_key)
  pub lists : HasOwnLists c v
  pub then : (b : Block) → IsListed d w b → IsNeeded c v b ⊎ IsJudged w b
  pub whole : AllByRecursion (λ x. IsNeeded c v x.block → (c x.block).torn ≡ false) changes

-- Then its changes lead from the one state to the other as a volume asks.
abbrev pub PlansSpare : Type 0
PlansSpare = (c : Content) (g : Geometry) (clusters : ℕ) (v w : Volume) (bodies : List NewBody) (gave : ℕ → Option BlockKind) (changes : List Change) → g.per_cluster ≡ 8 → Stands c g clusters v → PlanIn c g clusters v bodies w gave → AreOf c v changes bodies
    → PlanKeeps c v changes (content_with c bodies) w → DraftIn c v changes (content_with c bodies) w
