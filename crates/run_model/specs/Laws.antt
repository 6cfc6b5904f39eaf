-- The laws of runs.
use Rattle.std.specs.Prelude.{List, [], ◌∷◌, ◌++◌}
use Rattle.tree_model.specs.file_tree.declared.tree.Tree.{Tree}
use Rattle.run_model.specs.declared.turn.Turn.{Turn}
use Rattle.run_model.specs.Runs.{RunStart, IsTreeTurn, Segment}

abbrev pub RunGoesOn : Type 0
RunGoesOn = (f : RunStart) (past turns : List Turn) (t : Turn) (x y z : Tree) → Segment (IsTreeTurn f) past turns x y → IsTreeTurn f (past ++ turns) t y z → Segment (IsTreeTurn f) past (turns ++ t ∷ []) x z

abbrev pub RunsJoin : Type 0
RunsJoin = (f : RunStart) (past turns more : List Turn) (x y z : Tree) → Segment (IsTreeTurn f) past turns x y → Segment (IsTreeTurn f) (past ++ turns) more y z → Segment (IsTreeTurn f) past (turns ++ more) x z
