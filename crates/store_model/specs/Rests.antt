-- A list of entries from a later place on.
use Rattle.std.specs.Prelude.{◌≡◌, ℕ, true, List, ◌∷◌, ◌++◌, Some, None}
use Rattle.log_model.specs.disk_model.declared.block.Block.{Block}
use Rattle.log_model.specs.declared.entry.Entry.{Entry}
use Rattle.log_model.specs.Logs.{covers, undo_byte, is_ended, last_redo, first_undo, told}
use Rattle.log_model.specs.StoreLaws.{is_named}

-- transactions of the rest that have ended have ended in the rest
abbrev pub EndsLater : List Entry → List Entry → Type 0
EndsLater front rest = (tx : ℕ) → is_named rest tx ≡ true → is_ended (front ++ rest) tx ≡ is_ended rest tx

-- At the first update of a byte in the rest, behind these entries of it: its undo byte is what the list before it tells, the byte before the transaction; and
-- the transactions that changed the byte in front are over.
pub record AreOver (front rest before : List Entry) (e : Entry) (b : Block) (i : ℕ) : Type 0 where
  pub agrees : (v : ℕ) → told (front ++ before) b i ≡ Some v → undo_byte e.act i ≡ v
  pub over : last_redo (is_ended (front ++ before)) front b i ≡ last_redo (is_ended (front ++ rest)) front b i

-- it is so at the first update of this byte in the rest, where there is one
abbrev pub AreOverAt : List Entry → List Entry → Block → ℕ → Type 0
AreOverAt front rest b i = (before after : List Entry) (e : Entry) → rest ≡ before ++ e ∷ after → first_undo before b i ≡ None → covers b i e.act ≡ true → AreOver front rest before e b i

-- What the rest of a list tells is what the whole list tells, also from a place that transactions straddle which were given up.
abbrev pub RestTells : Type 0
RestTells = (front rest : List Entry) (b : Block) (i u v : ℕ) → EndsLater front rest → AreOverAt front rest b i → told rest b i ≡ Some u → told (front ++ rest) b i ≡ Some v → u ≡ v
