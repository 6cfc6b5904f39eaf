-- What the steps of a growing index come to.
use Rattle.std.proofs.Common.{◌≡◌, ℕ, ◌+◌, List, Option, Some, None, ap, ◌∙◌}
use Rattle.std.specs.Prelude.{IfSome}
use Rattle.block_view.specs.declared.fault.ViewFault.{ViewFault}
use Rattle.block_view.specs.declared.fault.ViewFault.TheVariants as view
use Rattle.disk_model.specs.Bytes.{zeros}
use Rattle.disk_model.specs.Content.{Content}
use Rattle.state_model.specs.declared.stream.Extents.{Extents}
use Rattle.plan_draft.specs.declared.touched.Touched.{Touched}
use Rattle.draft_growth.specs.resized_streams.declared.resized.Resized.{Resized}
use Rattle.draft_growth.specs.draft_records.Faults.{of_view}
use Rattle.draft_growth.specs.draft_records.Records.{StaysWhereFull}
use Rattle.draft_growth.specs.draft_resized.Resized.{PutsResized}
use Rattle.draft_indexes.specs.Growing.{with_block, with_blocks, PutsIndex, PutsRaised}

pub index_put : (content : Option Content) (per : ℕ) (bitmap table mirror : Extents) (n : ℕ) (z : Resized) (first count : ℕ) (old mid new : List Touched) → IfSome content (λ c. PutsResized c per bitmap table mirror n z old mid)
    → IfSome content (λ c. new ≡ with_blocks c per z.extents (zeros 4096) first count mid) → IfSome content (λ c. PutsIndex c per bitmap table mirror n z first count old new)
index_put None per bitmap table mirror n z first count old mid new put blocks = tt
index_put (Some c) per bitmap table mirror n z first count old mid new put blocks = (mid, (put, blocks))

pub view_stays : (old new : List Touched) (e : ViewFault) → StaysWhereFull old new (of_view e)
view_stays old new view.Fault = tt
view_stays old new view.Memory = tt

pub level_put : (content : Option Content) (per : ℕ) (bitmap table mirror : Extents) (n : ℕ) (z : Resized) (first count : ℕ) (node : List ℕ) (old mid next new : List Touched) → IfSome content (λ c. PutsResized c per bitmap table mirror n z old mid)
    → IfSome content (λ c. next ≡ with_block c per z.extents node first mid) → IfSome content (λ c. new ≡ with_blocks c per z.extents (zeros 4096) (first + 1) count next) → IfSome content (λ c. PutsRaised c per bitmap table mirror n z first count node old new)
level_put None per bitmap table mirror n z first count node old mid next new put one blocks = tt
level_put (Some c) per bitmap table mirror n z first count node old mid next new put one blocks = (mid, (put, blocks ∙ ap (with_blocks c per z.extents (zeros 4096) (first + 1) count) one))
