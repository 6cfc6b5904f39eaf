-- What a value in clusters of its own makes of the draft.
use Rattle.std.proofs.Common.{◌≡◌, ℕ, ◌-◌, ◌/◌, ◌<◌, List, length, Some, sym, ap, subst, ◌∙◌, arith}
use Rattle.std.specs.Prelude.{slice_index}
use Rattle.draft_records.specs.disk_model.declared.block.Block.{Block}
use Rattle.draft_records.specs.disk_model.declared.block.BlockKind.TheVariants.{Plain}
use Rattle.draft_records.specs.disk_model.Content.{Content}
use Rattle.draft_records.specs.state_model.declared.stream.Extents.{Extents}
use Rattle.draft_records.specs.state_model.Streams.{block_at, byte_at}
use Rattle.draft_records.specs.plan_bodies.Bodies.{body_in}
use Rattle.draft_records.specs.plan_draft.declared.touched.Touched.{Touched}
use Rattle.draft_records.specs.plan_draft.Touching.{bodies_of}
use Rattle.draft_records.specs.plan_draft.Drafts.{drafted}
use Rattle.draft_runs.specs.draft_streams.Effects.{byte_put}
use Rattle.draft_runs.proofs.draft_streams.Effecting.{effects}
use Rattle.draft_runs.specs.draft_bits.Effects.{IsKept, IsNoSector}
use Rattle.draft_runs.proofs.draft_bits.BitEffects.{byte_there}
use Rattle.draft_records.specs.resized_streams.declared.resized.Resized.{Resized}
use Rattle.draft_resized.specs.Effects.{MovesWhole, MovedIsPut}
use Rattle.draft_resized.proofs.FileEffects.{resized_put}

from_first : (i : ℕ) → i - 0 ≡ i
from_first i = omega arith

module _ (c : Content) (per : ℕ) (bitmap table mirror : Extents) (n : ℕ) (z : Resized) (value : List ℕ) (old new : List Touched) (is : MovesWhole c per bitmap table mirror n z value old new) where
  mid_kept : IsKept is.mid
  mid_kept = resized_put.whole c per bitmap table mirror n z old is.mid is.file

  all_kept : IsKept new
  all_kept = subst IsKept (sym is.put) (record {
    rises = effects.order c per z.extents.runs 0 0 value is.mid is.file.sized mid_kept.rises mid_kept.whole;
    whole = effects.sizes c per z.extents.runs 0 0 value is.mid is.file.sized mid_kept.rises mid_kept.whole;
  })

  byte_is : (i : ℕ) (b : Block) → i < length value → i < z.extents.initialised → block_at per z.extents.runs Plain (i / 512) ≡ Some b → byte_at (drafted new c) per z.extents i ≡ slice_index value i
  byte_is i b within below lies =
      byte_there c per z.extents new b i (slice_index value (i - 0)) is.file.sized all_kept below lies
      (subst (λ (t : List Touched). byte_put t b i (slice_index value (i - 0))) (sym is.put)
      (effects.inside c per z.extents.runs 0 0 i value is.mid b is.file.sized mid_kept.rises mid_kept.whole is.own lies (omega arith) (omega (arith, within))))
      ∙ ap (slice_index value) (from_first i)

  rest_is : (b : Block) → IsNoSector per z.extents.runs b → body_in (bodies_of new) b ≡ body_in (bodies_of is.mid) b
  rest_is b apart = ap (λ (t : List Touched). body_in (bodies_of t) b) is.put ∙ effects.others c per z.extents.runs 0 0 value is.mid b (λ s a low high there. apart s a there)

pub moved_put : MovedIsPut
moved_put = record {
  bytes = λ c per bitmap table mirror n i z value old new b is within below lies. byte_is c per bitmap table mirror n z value old new is i b within below lies;
  rest = λ c per bitmap table mirror n z value old new b is apart. rest_is c per bitmap table mirror n z value old new is b apart;
  whole = λ c per bitmap table mirror n z value old new is. all_kept c per bitmap table mirror n z value old new is;
}
