-- Changes that put nodes into their blocks.
use Rattle.std.specs.Prelude.{◌≡◌, ◌*◌, ◌+◌, ◌<◌, ◌≤◌, ℕ, List, [], ◌∷◌, length, Some}
use Rattle.record_model.specs.disk_model.declared.block.Block.{Block}
use Rattle.record_model.specs.disk_model.declared.block.BlockKind.TheVariants.{Index}
use Rattle.std.specs.List.{AllByRecursion}
use Rattle.record_model.specs.disk_model.declared.block.Change.{Change}
use Rattle.record_model.specs.disk_model.Content.{Content}
use Rattle.record_model.specs.disk_model.Sectors.{same_block, sectors}
use Rattle.record_model.specs.Nodes.{node_spelling, FitsNode}
use Rattle.index_tree.specs.index_model.Trees.{Tree, held, times, one_if}
use Rattle.index_tree.specs.index_model.Indexes.{Place, node_block}
use Rattle.index_node.specs.Roots.{new_node}
use Rattle.index_plan.specs.declared.write.Write.{Write}

-- how often a VCN is that of a node of the tree, or a fresh one
abbrev pub uses : Tree → List ℕ → ℕ → ℕ
uses t fresh v = held v t + times v fresh

-- the blocks of VCNs that are used are index blocks, and no two of these have the same one
pub record IsLaidOut (p : Place) (count : ℕ → ℕ) : Type 0 where
  pub index : (v : ℕ) (b : Block) → 0 < count v → node_block p v ≡ Some b → b.kind ≡ Index
  pub apart : (v w : ℕ) (b : Block) → 0 < count v → 0 < count w → node_block p v ≡ Some b → node_block p w ≡ Some b → v ≡ w

-- the change puts the node into its block as it is written, whole
pub record PutsNode (p : Place) (w : Write) (c : Change) : Type 0 where
  pub block : node_block p w.vcn ≡ Some c.block
  pub whole : c.offset ≡ 0
  pub fits : FitsNode (new_node w.vcn w.entries)
  pub new : c.new ≡ node_spelling (new_node w.vcn w.entries)
  pub old : length c.old ≡ 4096
  pub inside : 4096 ≤ 512 * sectors c.block.kind

abbrev pub PutNodes : Place → List Write → List Change → Type 0
PutNodes p [] [] = Unit {0}
PutNodes p [] (c ∷ changes) = ⊥
PutNodes p (w ∷ writes) [] = ⊥
PutNodes p (w ∷ writes) (c ∷ changes) = PutsNode p w c × PutNodes p writes changes

-- the change has the body that the content has as its old bytes
abbrev pub WasOld : Content → Change → Type 0
WasOld c change = change.old ≡ (c change.block).bytes

abbrev pub AllWereOld : Content → List Change → Type 0
AllWereOld c changes = AllByRecursion (WasOld c) changes

-- how many of the changes are of this block
abbrev pub changes_in : Block → List Change → ℕ
changes_in b [] = 0
changes_in b (c ∷ changes) = one_if (same_block b c.block) + changes_in b changes
