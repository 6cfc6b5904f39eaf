-- Bodies of a draft have their blocks' sizes.
use Rattle.std.specs.Prelude.{◌≡◌, List, Option, Some, None, IfSome, map}
use Rattle.std.specs.Option.{option_map}
use Rattle.std.proofs.Common.{◌∙◌}
use Rattle.plan_bodies.specs.disk_model.Content.{Content, HasSizes}
use Rattle.disk_model.proofs.Frames.{length-bytes_after}
use Rattle.plan_bodies.specs.Bodies.{writes_in}
use Rattle.plan_draft.specs.declared.touched.Touched.{Touched}
use Rattle.plan_draft.specs.Touching.{bodies_of}
use Rattle.plan_draft.specs.Drafts.{drafted}

pub sized_draft : (touched : List Touched) (content : Option Content) → IfSome content HasSizes → IfSome (option_map (drafted touched) content) HasSizes
sized_draft touched None sized = tt
sized_draft touched (Some c) sized = λ b. length-bytes_after (writes_in (bodies_of touched)) b (c b).bytes ∙ sized b
