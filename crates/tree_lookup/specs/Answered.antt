-- What a walk by questions finds, and what an operation that only looks is replied.
use Rattle.std.specs.Prelude.{◌≡◌, ℕ, ◌≤◌, List, Option, IfSome, Result, Ok, Err}
use Rattle.host_base.specs.Causes.{Rose}
use Rattle.file_tree.specs.declared.node.Node.{Node}
use Rattle.file_tree.specs.declared.tree.Tree.{Tree}
use Rattle.tree_model.specs.declared.reply.Reply.{Reply}
use Rattle.tree_model.specs.declared.reply.Reply.TheVariants.{Bytes, Fault}
use Rattle.tree_model.specs.Fronts.{front_of, count_read}
use Rattle.tree_lookup.specs.Asked.{bytes_at}
use Rattle.file_tree.specs.Trees.{without_bytes}

-- the node that a walk leads to, without its bytes, or what ends the walk
abbrev pub bare_result : Result Node Reply → Result Node Reply
bare_result (Ok node) = Ok (without_bytes node)
bare_result (Err reply) = Err reply

-- what is replied to a read of a node that nothing refuses: its bytes from an offset on, up to its size
abbrev pub IsRead : List Node → Node → ℕ → ℕ → Reply → Type 0
IsRead nodes node offset count reply = reply ≡ Bytes (front_of (bytes_at nodes node.number) offset (count_read node.size offset count))

-- A reply `fault` says that the outside failed, which counted it; no other reply passes over a failure.
abbrev pub CountsReply : Option Tree → ℕ → ℕ → Reply → Type 0
CountsReply known before now Fault = IfSome known (λ t. Rose before now)
CountsReply known before now reply = now ≡ before

-- an operation leaves the tree, its table and what each call keeps, and its reply says where the outside failed
pub record LooksAt {S Kept : Type 0} (tree : S → Option Tree) (upper : S → List ℕ) (kept : S → Kept) (faults : S → ℕ) (old new : S) (reply : Reply) : Type 0 where
  pub same : tree new ≡ tree old
  pub table : upper new ≡ upper old
  pub stays : kept new ≡ kept old
  pub later : faults old ≤ faults new
  pub counted : CountsReply (tree old) (faults old) (faults new) reply
