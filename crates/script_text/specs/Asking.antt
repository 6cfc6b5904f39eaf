-- What the commands of a script ask for.
use Rattle.std.specs.Prelude.{◌≡◌, ◌≤◌, Bool, true, false, List, length, All}
use Rattle.tree_model.specs.declared.script.Op.{Op}
use Rattle.tree_model.specs.declared.script.Op.TheVariants as op
use Rattle.tree_model.specs.declared.script.What.{What}
use Rattle.tree_model.specs.declared.script.What.TheVariants.{Op as Operation, Find}
use Rattle.tree_model.specs.declared.script.Command.{Command}
use Rattle.tree_model.specs.Steps.{IsWithinBounds}

-- the operations that a script may ask for, so far
abbrev pub is_asked : Op → Bool
is_asked (op.Stat path) = true
is_asked (op.List path) = true
is_asked (op.Read path offset count) = true
is_asked (op.Write path offset bytes) = true
is_asked (op.Fill path offset count byte) = true
is_asked (op.Truncate path size) = true
is_asked op.Sync = true
is_asked other = false

-- a command asks for one of these, within its bounds; a find isn't one
abbrev pub IsAsked : What → Type 0
IsAsked (Operation op) = (is_asked op ≡ true) × IsWithinBounds op
IsAsked (Find name) = ⊥

abbrev pub AllAsked : List Command → Type 0
AllAsked script = All (λ (c : Command). IsAsked c.what) script

-- so many commands at most
abbrev pub IsShort : List Command → Type 0
IsShort script = length script ≤ 16384
