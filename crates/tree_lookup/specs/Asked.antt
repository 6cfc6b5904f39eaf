-- What a tree that is asked answers, and what a call leaves of it.
use Rattle.std.specs.Prelude.{◌≡◌, ℕ, ◌≤◌, List, [], Option, Some, None, Result, Ok, Err}
use Rattle.std.specs.Option.{option_map}
use Rattle.host_base.specs.Answers.{Cause, refused, no_memory, failed, ExplainsOrFails}
use Rattle.host_base.specs.Causes.{Counts}
use Rattle.file_tree.specs.declared.node.Node.{Node}
use Rattle.file_tree.specs.declared.tree.Tree.{Tree}
use Rattle.file_tree.specs.Trees.{without_bytes, node_at}
use Rattle.tree_lookup.specs.declared.fault.LookupFault.{LookupFault}
use Rattle.tree_lookup.specs.declared.fault.LookupFault.TheVariants.{Outside, Memory, Broken}

-- why a call gave no answer; that there is no tree refuses it
abbrev pub lookup_cause : LookupFault → Cause (Unit {0})
lookup_cause Outside = failed
lookup_cause Memory = no_memory
lookup_cause Broken = refused tt

-- a call that nothing refuses
abbrev pub unrefused : Result (Unit {0}) (Unit {0})
unrefused = Ok tt

-- This holds of what was answered. Nothing refuses a call where the tree is known, so each fault is a failure of the outside or want of
-- memory.
abbrev pub AnswersOrFails : {X : Type 0} → Result X LookupFault → (X → Type 0) → Type 0
AnswersOrFails (Ok x) holds = holds x
AnswersOrFails (Err fault) holds = ExplainsOrFails (lookup_cause fault) unrefused

-- The tree is the same, where it is known, and the table by which its names are in order, and what each call keeps; the faults rose where
-- the outside failed, and are as they were in each other answer.
pub record AsksTree {S Kept T : Type 0} (tree : S → Option Tree) (upper : S → List ℕ) (kept : S → Kept) (faults : S → ℕ) (old new : S) (result : Result T LookupFault) : Type 0 where
  pub same : tree new ≡ tree old
  pub table : upper new ≡ upper old
  pub stays : kept new ≡ kept old
  pub later : faults old ≤ faults new
  pub counted : Counts lookup_cause (faults old) (faults new) result

-- ---- nodes

-- the node with this number, without its bytes, if there is one
unfoldable pub bare_at : List Node → ℕ → Option Node
bare_at nodes number = option_map without_bytes (node_at nodes number)

abbrev pub bytes_of : Option Node → List ℕ
bytes_of None = []
bytes_of (Some node) = node.bytes

-- the bytes of the node with this number; without one there are none
unfoldable pub bytes_at : List Node → ℕ → List ℕ
bytes_at nodes number = bytes_of (node_at nodes number)
