-- Whose clusters an operation takes, and how the bodies of its plan leave all others.
use Rattle.std.specs.Prelude.{◌≡◌, ℕ, ◌<◌, false, List}
use Rattle.std.specs.List.{AllByRecursion}
use Rattle.record_writer.specs.disk_model.declared.block.Block.{Block}
use Rattle.record_writer.specs.disk_model.Sectors.{overlap}
use Rattle.record_writer.specs.disk_model.Content.{Content, HasSizes}
use Rattle.plan_model.specs.state_model.declared.geometry.Geometry.{Geometry}
use Rattle.plan_model.specs.volume_model.Volumes.{Volume}
use Rattle.plan_model.specs.volume_model.Owners.{uses}
use Rattle.plan_model.specs.stream_laws.Sharing.{StreamKey, stream_at, runs_in}
use Rattle.plan_model.specs.plan_owners.States.{Stands}
use Rattle.plan_model.specs.plan_bodies.Bodies.{NewBody, content_with, AreBodies}
use Rattle.step_model.specs.Placing.{Growth}
use Rattle.step_model.specs.Contents.{MayDiffer, IsLeft}

-- A cluster that a stream takes was no stream's before, so it is none that the operation frees. Where each body of a plan goes into a block
-- that may differ, every other body stays.
pub record ContentsLeft : Type 0 where
  pub taken : (g : Geometry) (clusters : ℕ) (c d : Content) (v w : Volume) (files : List ℕ) (growths : List Growth) → Stands c g clusters v → IsLeft c v clusters files growths d w
      → (s t : StreamKey) (x : ℕ) → uses (runs_in (stream_at v s)) x < uses (runs_in (stream_at w s)) x → uses (runs_in (stream_at v t)) x ≡ 0
  pub stays : (c : Content) (v w : Volume) (files : List ℕ) (bodies : List NewBody) → HasSizes c → AreBodies bodies → AllByRecursion (λ p. MayDiffer files v w p.block) bodies
      → (b : Block) → ((x : Block) → MayDiffer files v w x → overlap b x ≡ false) → content_with c bodies b ≡ c b
