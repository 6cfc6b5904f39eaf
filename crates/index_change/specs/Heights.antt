-- How many levels an index has, node by node.
use Rattle.std.specs.Prelude.{ℕ, zero, suc, ◌+◌, max, List, [], ◌∷◌, Option, Some, None, Result, Ok, Err}
use Rattle.record_model.specs.declared.entry.Entry.{Entry}

-- the levels of a node with these entries, where so many hang below a child
abbrev pub tallest : (Option ℕ → ℕ) → List Entry → ℕ
tallest kid [] = 1
tallest kid (e ∷ entries) = max (1 + kid e.down) (tallest kid entries)

-- those of a node that is read
abbrev pub if_read : (List Entry → ℕ) → Result (List Entry) ℕ → ℕ
if_read height (Ok entries) = height entries
if_read height (Err rule) = 0

-- those below an entry, so many at most
abbrev pub height_below : (ℕ → Result (List Entry) ℕ) → ℕ → Option ℕ → ℕ
height_below read n None = 0
height_below read zero (Some v) = 0
height_below read (suc n) (Some v) = if_read (tallest (height_below read n)) (read v)

-- those of an index below its root
abbrev pub height_of : (ℕ → Result (List Entry) ℕ) → List Entry → ℕ
height_of read root = tallest (height_below read 15) root
