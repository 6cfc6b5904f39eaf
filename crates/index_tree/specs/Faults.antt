-- Where an error of a call over an index comes from.
use Rattle.std.specs.Prelude.{◌≡◌, ℕ, ◌≤◌, ⊤, List, Option, Some, None, Result, Ok, Err, Bool, true, false}
use Rattle.volume_model.specs.host_base.Answers.{Cause, refused, no_memory, failed, never}
use Rattle.volume_model.specs.host_base.Causes.{Counts}
use Rattle.stream_map.specs.block_view.declared.fault.ViewFault.{ViewFault}
use Rattle.stream_map.specs.block_view.declared.fault.ViewFault.TheVariants.{Fault, Memory}
use Rattle.index_model.specs.declared.side.Side.{Side}
use Rattle.index_model.specs.declared.side.Side.TheVariants.{Unnamed, Before, Same, Behind}
use Rattle.stream_map.specs.record_model.declared.entry.Entry.{Entry}
use Rattle.stream_map.specs.record_model.Nodes.{Node as NodeOf, node_at}
use Rattle.stream_map.specs.disk_model.declared.block.Block.{Block}
use Rattle.stream_map.specs.disk_model.Content.{Content}
use Rattle.index_model.specs.Walks.{Broken}
use Rattle.index_tree.specs.declared.fault.TreeFault.{TreeFault}
use Rattle.index_tree.specs.declared.fault.TreeFault.TheVariants.{Node, Present, Absent, Deep, View}

abbrev pub view_cause : ViewFault → Cause Broken
view_cause Fault = failed
view_cause Memory = no_memory

-- of a call that only reads: a refusal is a node and the rule that it breaks
abbrev pub tree_cause : TreeFault → Cause Broken
tree_cause (Node vcn rule) = refused (record { vcn = vcn; rule = rule })
tree_cause Present = never
tree_cause Absent = never
tree_cause (Deep height) = never
tree_cause (View cause) = view_cause cause

-- The view's faults rose where it failed, and are as they were in each other answer. An error is a node at fault, one of the view, or
-- want of memory; no other one comes.
pub record FailsByView {T : Type 0} (before now : ℕ) (result : Result T TreeFault) : Type 0 where
  pub later : before ≤ now
  pub counted : Counts tree_cause before now result

-- the same of a call that fails as a view alone
pub record FailsAsView {T : Type 0} (before now : ℕ) (result : Result T ViewFault) : Type 0 where
  pub later : before ≤ now
  pub counted : Counts view_cause before now result

-- the node with this VCN, or it as the one at fault
abbrev pub broken_at : {A : Type 0} → ℕ → Result A ℕ → Result A Broken
broken_at v (Ok x) = Ok x
broken_at v (Err rule) = Err (record { vcn = v; rule = rule })

-- a search ends at an entry of this side
abbrev pub is_behind : Side → Bool
is_behind Unnamed = false
is_behind Before = false
is_behind Same = false
is_behind Behind = true

-- a node that is read, where no rule is broken
abbrev pub IsRead : Result (List Entry) ℕ → Option NodeOf → Type 0
IsRead read (Some n) = read ≡ Ok n.entries
IsRead (Ok entries) None = ⊥
IsRead (Err rule) None = ⊤

-- the bytes of this block spell the node, with its VCN and LSN
abbrev pub StandsAt : Content → Option Block → NodeOf → Type 0
StandsAt c None n = ⊥
StandsAt c (Some b) n = node_at (c b).bytes ≡ Ok n

-- what a call that reads a node answers, without the rules
abbrev pub ViewOf : Result (Option NodeOf) ViewFault → Result NodeOf TreeFault → Type 0
ViewOf result (Ok n) = result ≡ Ok (Some n)
ViewOf result (Err (Node vcn rule)) = result ≡ Ok None
ViewOf result (Err Present) = result ≡ Ok None
ViewOf result (Err Absent) = result ≡ Ok None
ViewOf result (Err (Deep height)) = result ≡ Ok None
ViewOf result (Err (View cause)) = result ≡ Err cause
