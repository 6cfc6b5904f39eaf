-- A check in steps: the first rule that is broken from each rule on, and what the last one leaves.
use Rattle.std.specs.Prelude.{ℕ, Option, None, Result, Ok, Err}
use Rattle.disk_model.specs.Content.{Content}
use Rattle.file_tree.specs.declared.journal.Journal.{Journal}
use Rattle.file_tree.specs.declared.tree.Tree.{Tree}
use Rattle.volume_tree.specs.state_model.declared.broken.Broken.{Broken}
use Rattle.volume_tree.specs.state_model.Rules.{broken_or}
use Rattle.volume_model.specs.Volumes.{Volume, upper_of}
use Rattle.volume_model.specs.Nodes.{bare_nodes}
use Rattle.volume_state.specs.Rules.{broken_1, broken_2, broken_3, broken_4, broken_5, broken_6, broken_7, broken_8}
use Rattle.volume_state.specs.Trees.{tree_with}
use Rattle.usn_journal.specs.Judging.{bare_journal}

unfoldable pub from_8 : Volume → Option Broken
from_8 v = broken_or 8 (broken_8 v) None

unfoldable pub from_7 : Content → Volume → Option Broken
from_7 c v = broken_or 7 (broken_7 c v) (from_8 v)

unfoldable pub from_6 : Content → Volume → Option Broken
from_6 c v = broken_or 6 (broken_6 c v) (from_7 c v)

unfoldable pub from_5 : Content → Volume → Option Broken
from_5 c v = broken_or 5 (broken_5 v) (from_6 c v)

unfoldable pub from_4 : Content → Volume → Option Broken
from_4 c v = broken_or 4 (broken_4 c v) (from_5 c v)

unfoldable pub from_3 : Content → Volume → Option Broken
from_3 c v = broken_or 3 (broken_3 c v) (from_4 c v)

unfoldable pub from_2 : Content → Volume → Option Broken
from_2 c v = broken_or 2 (broken_2 v) (from_3 c v)

-- the first rule before the ninth that is broken
unfoldable pub from_1 : Content → Volume → Option Broken
from_1 c v = broken_or 1 (broken_1 v) (from_2 c v)

-- the tree with the journal, or the ninth rule with the journal's offset
abbrev pub tree_or : Content → Volume → Result (Option Journal) ℕ → Result Tree Broken
tree_or c v (Ok journal) = Ok (tree_with c v (bare_nodes v) journal)
tree_or c v (Err place) = Err (record { rule = 9; number = place })

-- what a volume that keeps the rules before the ninth answers
unfoldable pub ninth : Content → Volume → Result Tree Broken
ninth c v = tree_or c v (bare_journal c (upper_of c v) v)
