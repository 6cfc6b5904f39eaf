-- The walk of a path from the root.
use Rattle.std.specs.Prelude.{ℕ, ◌+◌, if◌then◌else◌, List, [], ◌∷◌, length, Option, Some, None, Result, Ok, Err}
use Rattle.file_tree.specs.host_base.Answers.{◌>>=◌, needs}
use Rattle.file_tree.specs.declared.node.Node.{Node}
use Rattle.file_tree.specs.declared.link.Link.{Link}
use Rattle.tree_model.specs.declared.reply.Reply.{Reply}
use Rattle.tree_model.specs.declared.reply.Reply.TheVariants.{BadName, NotFound, NotDirectory}
use Rattle.file_tree.specs.Trees.{node_at, is_directory, is_directory_kind}
use Rattle.file_tree.specs.Walks.{root, child_in, has_bad_part}

abbrev pub some_or : {A F : Type 0} → Option A → F → Result A F
some_or None refusal = Err refusal
some_or (Some x) refusal = Ok x

-- The number that a part leads to from the node that the part `at` before it named: that node must be a directory, and
-- the part must be found.
unfoldable pub entered : List ℕ → List Node → List Link → ℕ → ℕ → List ℕ → Result ℕ Reply
entered upper nodes links at number part = needs (is_directory nodes number) (NotDirectory at) >>= λ _. some_or (child_in upper links number part) (NotFound (at + 1))

-- the node that the parts lead to from the node that the part `at` named
unfoldable pub walk : List ℕ → List Node → List Link → ℕ → ℕ → List (List ℕ) → Result Node Reply
walk upper nodes links at number [] = some_or (node_at nodes number) (NotFound at)
walk upper nodes links at number (part ∷ parts) = entered upper nodes links at number part >>= λ child. walk upper nodes links (at + 1) child parts

-- the node that a path names
unfoldable pub reached : List ℕ → List Node → List Link → List (List ℕ) → Result Node Reply
reached upper nodes links path = walk upper nodes links 0 root path

-- the directory that a path names
unfoldable pub reached_directory : List ℕ → List Node → List Link → List (List ℕ) → Result Node Reply
reached_directory upper nodes links path = reached upper nodes links path >>= λ node. needs (is_directory_kind node.kind) (NotDirectory (length path)) >>= λ _. Ok node

-- a path with such a part
abbrev pub bad_name : List (List ℕ) → Option Reply
bad_name path = if has_bad_part path then Some BadName else None
