-- The sizes of bodies.
use Rattle.std.proofs.Common.{◌≡◌, ◌*◌, ◌≤◌, Some, arith}
use Rattle.std.specs.Prelude.{IfSome}
use Rattle.device_blocks.specs.disk_model.declared.block.BlockKind.{BlockKind}
use Rattle.device_blocks.specs.disk_model.declared.block.BlockKind.TheVariants.{Plain, FileRec, Index}
use Rattle.device_blocks.specs.disk_model.Sectors.{sectors}
use Rattle.txn_state.specs.States.{StateOf, facts_of, IsStore, HasSize}
use Rattle.txn_core.specs.Views.{KeepsSizes}

-- a body has at most 4,096 bytes
pub sectors_few : (k : BlockKind) → 512 * sectors k ≤ 4096
sectors_few Plain = omega arith
sectors_few FileRec = omega arith
sectors_few Index = omega arith

pub keeps_sizes : (state : StateOf) → IsStore (facts_of state) → KeepsSizes state
keeps_sizes state store b x is = subst_size (store.blocks.sized b) is
  where
    subst_size : IfSome ((facts_of state).body b) (HasSize b) → (facts_of state).body b ≡ Some x → HasSize b x
    subst_size has is = let there = rw is at has in there
