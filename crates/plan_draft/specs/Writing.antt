-- Bytes that a plan puts into blocks.
use Rattle.std.specs.Prelude.{ℕ, ◌*◌, Bool, true, false, List, Option, Some, None}
use Rattle.plan_bodies.specs.disk_model.declared.block.Block.{Block}
use Rattle.plan_bodies.specs.disk_model.Bytes.{written, zeros}
use Rattle.plan_bodies.specs.disk_model.Content.{Content}
use Rattle.plan_bodies.specs.disk_model.Sectors.{sectors}
use Rattle.plan_bodies.specs.Bodies.{NewBody, content_with, body_in}
use Rattle.plan_draft.specs.Touching.{put_in_order}

abbrev pub zeros_or : Block → Option (List ℕ) → List ℕ
zeros_or b None = zeros (512 * sectors b.kind)
zeros_or b (Some bytes) = bytes

-- what a block has for the plan: a fresh one has zeros until it is put
abbrev pub present : Content → List NewBody → Block → Bool → List ℕ
present c bodies b true = zeros_or b (body_in bodies b)
present c bodies b false = (content_with c bodies b).bytes

-- these bytes in the block from this place on, over what it has
abbrev pub put_part : Content → Block → Bool → ℕ → List ℕ → List NewBody → List NewBody
put_part c b fresh at bytes bodies = put_in_order (record { block = b; bytes = written at bytes (present c bodies b fresh) }) bodies
