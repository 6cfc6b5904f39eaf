-- How many keys an index has, and in which blocks it lies, node by node.
use Rattle.std.specs.Prelude.{ℕ, zero, suc, ◌+◌, List, [], ◌∷◌, ◌++◌, Option, Some, None, Result, Ok, Err}
use Rattle.record_model.specs.declared.entry.Entry.{Entry}
use Rattle.index_change.specs.Heights.{if_read}

-- whether an entry before these has a key: the last one has none
abbrev pub key_before : List Entry → ℕ
key_before [] = 0
key_before (e ∷ entries) = 1

-- the keys of a node with these entries, where so many hang below a child
abbrev pub keys_in : (Option ℕ → ℕ) → List Entry → ℕ
keys_in kid [] = 0
keys_in kid (e ∷ entries) = kid e.down + key_before entries + keys_in kid entries

-- those below an entry, on so many levels at most
abbrev pub keys_below : (ℕ → Result (List Entry) ℕ) → ℕ → Option ℕ → ℕ
keys_below read n None = 0
keys_below read zero (Some v) = 0
keys_below read (suc n) (Some v) = if_read (keys_in (keys_below read n)) (read v)

-- those of an index below its root
abbrev pub keys_of : (ℕ → Result (List Entry) ℕ) → List Entry → ℕ
keys_of read root = keys_in (keys_below read 15) root

-- the blocks below the entries of a node, where these hang below a child
abbrev pub blocks_in : (Option ℕ → List ℕ) → List Entry → List ℕ
blocks_in kid [] = []
blocks_in kid (e ∷ entries) = kid e.down ++ blocks_in kid entries

-- a block, and those below its node
abbrev pub block_and : ℕ → (List Entry → List ℕ) → Result (List Entry) ℕ → List ℕ
block_and v below (Ok entries) = v ∷ below entries
block_and v below (Err rule) = []

-- those below an entry, on so many levels at most
abbrev pub blocks_below : (ℕ → Result (List Entry) ℕ) → ℕ → Option ℕ → List ℕ
blocks_below read n None = []
blocks_below read zero (Some v) = []
blocks_below read (suc n) (Some v) = block_and v (blocks_in (blocks_below read n)) (read v)

-- those of an index below its root
abbrev pub blocks_of : (ℕ → Result (List Entry) ℕ) → List Entry → List ℕ
blocks_of read root = blocks_in (blocks_below read 15) root
