-- What an operation that makes, writes or cuts a file comes to on a tree, before it is done.
use Rattle.std.specs.Prelude.{◌≡◌, ℕ, Bool, true, false, List, [], Option, Some, None, IsOkAnd, IsSomeAnd}
use Rattle.tree_lookup.specs.file_tree.declared.node.Node.{Node}
use Rattle.tree_lookup.specs.file_tree.declared.tree.Tree.{Tree}
use Rattle.tree_lookup.specs.tree_model.declared.script.Op.{Op}
use Rattle.tree_lookup.specs.tree_model.declared.script.Op.TheVariants as op
use Rattle.tree_lookup.specs.tree_model.declared.reply.Reply.{Reply}
use Rattle.tree_lookup.specs.tree_model.Walks.{reached, reached_directory}
use Rattle.tree_lookup.specs.tree_model.Needs.{changes_file}
use Rattle.tree_lookup.specs.tree_model.Refusals.{parent_path, new_name}
use Rattle.tree_lookup.specs.tree_model.Effects.{numbers_to_take, least_ref}
use Rattle.tree_lookup.specs.tree_model.Steps.{step_refusal, is_given_up}
use Rattle.tree_lookup.specs.Answered.{bare_result}
use Rattle.change_lookup.specs.declared.found.Found.{Found}
use Rattle.change_lookup.specs.declared.found.Found.TheVariants.{Refused, File, Place}

-- an operation that makes, writes or cuts a file
abbrev pub is_file_change : Op → Bool
is_file_change (op.Create path) = true
is_file_change (op.Write path offset bytes) = true
is_file_change (op.Fill path offset count byte) = true
is_file_change (op.Truncate path size) = true
is_file_change other = false

-- the file that the path names, without its bytes, and whether the operation changes it
abbrev pub FindsFile : List ℕ → Tree → List (List ℕ) → Op → Found → Type 0
FindsFile upper t path o found = IsOkAnd (bare_result (reached upper t.nodes t.links path)) (λ node. found ≡ File node (changes_file o node))

-- a new file of this name in this directory, at the least of the numbers that can be taken
abbrev pub IsPlaced : Tree → Node → List ℕ → Found → Type 0
IsPlaced t directory name found = IsSomeAnd (least_ref (numbers_to_take t)) (λ number. found ≡ Place directory name number)

-- the directory that the path names but for its last part, without bytes, and that part in it
abbrev pub FindsPlace : List ℕ → Tree → List (List ℕ) → Found → Type 0
FindsPlace upper t path found = IsOkAnd (bare_result (reached_directory upper t.nodes t.links (parent_path path))) (λ directory. IsPlaced t directory (new_name path) found)

abbrev pub Finds : List ℕ → Tree → Op → Found → Type 0
Finds upper t (op.Create path) found = FindsPlace upper t path found
Finds upper t (op.Write path offset bytes) found = FindsFile upper t path (op.Write path offset bytes) found
Finds upper t (op.Fill path offset count byte) found = FindsFile upper t path (op.Fill path offset count byte) found
Finds upper t (op.Truncate path size) found = FindsFile upper t path (op.Truncate path size) found
Finds upper t other found = ⊥

-- the row that refuses it, where there is one; else what it finds
abbrev pub FindsBy : Option Reply → Type 0 → Found → Type 0
FindsBy (Some row) finds found = found ≡ Refused row
FindsBy None finds found = finds

-- The first row of the operation on a tree without a journal, apart from what only a content tells, exactly where there is one; else what it
-- finds.
abbrev pub ComesTo : List ℕ → Op → Tree → Found → Type 0
ComesTo upper o t found = FindsBy (step_refusal upper t 0 [] o) (Finds upper t o found) found

-- a row is no sign that the operation was given up
abbrev pub KeepsOn : Found → Type 0
KeepsOn (Refused reply) = is_given_up reply ≡ false
KeepsOn other = Unit {0}
