-- What a change of a file needs.
use Rattle.std.proofs.Common.{◌≡◌, ℕ, ◌+◌, Bool, true, false, List, None, refl, ap, arith}
use Rattle.std.specs.Prelude.{◌&&◌, not, if◌then◌else◌}
use Rattle.file_tree.specs.declared.node.Node.{Node}
use Rattle.file_tree.specs.declared.tree.Tree.{Tree}
use Rattle.tree_model.specs.declared.script.Op.{Op}
use Rattle.tree_model.specs.declared.script.Op.TheVariants as op
use Rattle.tree_model.specs.Needs.{size_after, changes_file, shrinks, bytes_part, journal_part, table_part, needed, reserve}

plus_none : (j n : ℕ) → j ≡ 0 → j + n ≡ n
plus_none j n is = omega (arith, is)

pub needs_of_change : (t : Tree) (o : Op) (node : Node) → t.journal ≡ None → changes_file o node ≡ true → needed t 0 o node ≡ (if shrinks o node then 0 else bytes_part node (size_after o node))
needs_of_change t (op.Write path offset bytes) node none changes = rw changes (plus_none (journal_part t.journal 0) _ (ap (λ j. journal_part j 0) none))
needs_of_change t (op.Fill path offset count byte) node none changes = rw changes (plus_none (journal_part t.journal 0) _ (ap (λ j. journal_part j 0) none))
needs_of_change t (op.Truncate path size) node none changes = rw changes (plus_none (journal_part t.journal 0) _ (ap (λ j. journal_part j 0) none))
needs_of_change t other node none changes = absurd cc

by_bool : (b : Bool) (n : ℕ) → (if (true && not b) then n else 0) ≡ (if b then 0 else n)
by_bool true n = refl
by_bool false n = refl

pub reserve_of_change : (o : Op) (node : Node) → changes_file o node ≡ true → reserve o node ≡ (if shrinks o node then 0 else 64)
reserve_of_change (op.Write path offset bytes) node changes = rw changes refl
reserve_of_change (op.Fill path offset count byte) node changes = rw changes refl
reserve_of_change (op.Truncate path size) node changes = rw changes (by_bool (shrinks (op.Truncate path size) node) 64)
reserve_of_change other node changes = absurd cc

pub needs_of_create : (t : Tree) (path : List (List ℕ)) (node : Node) → t.journal ≡ None → needed t 0 (op.Create path) node ≡ 18 + table_part t
needs_of_create t path node none = omega (arith, ap (λ j. journal_part j 0) none)
