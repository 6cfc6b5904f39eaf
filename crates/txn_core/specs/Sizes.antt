-- Bodies have their blocks' sizes: the proof of a law of views.
use Rattle.std.proofs.Common.{◌≡◌, ℕ, ◌*◌, List, length, Option, Some, None, refl}
use Rattle.std.specs.Prelude.{IfSome, unwrap_or}
use Rattle.device_blocks.specs.disk_model.declared.block.Block.{Block}
use Rattle.device_blocks.specs.disk_model.declared.block.Body.{Body}
use Rattle.device_blocks.specs.disk_model.Content.{HasSizes, content_of}
use Rattle.device_blocks.specs.disk_model.Sectors.{sector_of, sectors}
use Rattle.txn_laws.specs.sector_device.Sectors.{IsDiskOf}
use Rattle.device_blocks.specs.device_view.Sizes.{sized_sectors}
use Rattle.txn_state.specs.States.{StateOf, facts_of, HasSize}
use Rattle.txn_core.specs.Views.{present_content, KeepsSizes}

size_of : (b : Block) (o : Option Body) (x : Body) → ((y : Body) → o ≡ Some y → HasSize b y) → length x.bytes ≡ 512 * sectors b.kind → length (unwrap_or o x).bytes ≡ 512 * sectors b.kind
size_of b None x kept size = size
size_of b (Some y) x kept size = kept y refl

pub sized_present : (gives : Option (List (List ℕ))) (count : ℕ) (state : StateOf) → KeepsSizes state → IfSome gives (IsDiskOf count) → IfSome (present_content gives state) HasSizes
sized_present None count state kept whole = tt
sized_present (Some disk) count state kept whole = λ b. size_of b ((facts_of state).body b) (content_of (sector_of disk) b) (λ x is. kept b x is) (sized_sectors (Some disk) count whole b)
