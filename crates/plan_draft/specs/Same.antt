-- A draft's bodies stand in the order of their blocks, and those of a plan in the order in which they were put: they put the same.
use Rattle.std.specs.Prelude.{◌≡◌, true, All, List}
use Rattle.plan_bodies.specs.disk_model.declared.block.Block.{Block}
use Rattle.plan_bodies.specs.disk_model.Content.{Content, HasSizes}
use Rattle.plan_bodies.specs.Bodies.{NewBody, AreBodies, body_in, put_body, content_with}
use Rattle.plan_draft.specs.declared.touched.Touched.{Touched}
use Rattle.plan_draft.specs.Touching.{bodies_of, put_in_order, rises, keys_of, IsWhole}

-- the same into each block
abbrev pub PutSame : List NewBody → List NewBody → Type 0
PutSame xs ys = (b : Block) → body_in xs b ≡ body_in ys b

-- What a draft touches are whole bodies, each of a block of its own. A body put into lists that put the same is put into both. So the
-- content is one.
pub record BodiesInOrder : Type 0 where
  pub are : (touched : List Touched) → rises 0 (keys_of touched) ≡ true → All IsWhole touched → AreBodies (bodies_of touched)
  pub put : (w : NewBody) (xs ys : List NewBody) → PutSame xs ys → PutSame (put_in_order w xs) (put_body w ys)
  pub content : (c : Content) (xs ys : List NewBody) → HasSizes c → AreBodies xs → AreBodies ys → PutSame xs ys → content_with c xs ≡ content_with c ys
