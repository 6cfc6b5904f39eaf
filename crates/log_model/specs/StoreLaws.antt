-- The laws of logs for a store that appends entries and writes blocks out: what one entry more tells, and what a disk recovers to on which blocks
-- stand as they were before the log, or are covered whole by it.
use Rattle.std.specs.Prelude.{◌≡◌, ◌*◌, ◌==◌, ℕ, Bool, true, false, List, [], ◌∷◌, ◌++◌, length, slice_index, Option, Some, None}
use Rattle.std.specs.List.{list_any, AllByRecursion}
use Rattle.std.specs.Option.{option_or}
use Rattle.disk_model.specs.declared.block.Block.{Block}
use Rattle.disk_model.specs.Sectors.{sectors}
use Rattle.disk_model.specs.Content.{Content}
use Rattle.disk_model.specs.Writes.{overlay}
use Rattle.log_model.specs.declared.entry.Entry.{Entry}
use Rattle.log_model.specs.Logs.{covers, redo_byte, undo_byte, is_commit, IsLevel, is_ended, last_redo, first_undo, told, last_said, is_shadowed, redo_of, redos, undos_back, recovered, is_covered_whole}

-- what a log tells where these transactions count as ended
abbrev pub told_with : (ℕ → Bool) → List Entry → Block → ℕ → Option ℕ
told_with ended log b i = option_or (last_redo ended log b i) (first_undo log b i)

-- an entry of the transaction is among them
abbrev pub is_named : List Entry → ℕ → Bool
is_named log tx = list_any (λ (e : Entry). e.tx == tx) log

-- what one update more tells of the bytes that it covers and of the others, by whether its transaction ends; and one commit more
pub record OneMoreTells : Type 0 where
  pub redo : (ended : ℕ → Bool) (log : List Entry) (e : Entry) (b : Block) (i : ℕ) → covers b i e.act ≡ true → ended e.tx ≡ true → told_with ended (log ++ e ∷ []) b i ≡ Some (redo_byte e.act i)
  pub open_ : (ended : ℕ → Bool) (log : List Entry) (e : Entry) (b : Block) (i : ℕ) → covers b i e.act ≡ true → ended e.tx ≡ false → told_with ended (log ++ e ∷ []) b i ≡ option_or (told_with ended log b i) (Some (undo_byte e.act i))
  pub other : (ended : ℕ → Bool) (log : List Entry) (e : Entry) (b : Block) (i : ℕ) → covers b i e.act ≡ false → told_with ended (log ++ e ∷ []) b i ≡ told_with ended log b i
  pub update : (log : List Entry) (e : Entry) → is_commit e.act ≡ false → is_ended (log ++ e ∷ []) ≡ is_ended log
  pub commit : (log : List Entry) (e : Entry) (b : Block) (i : ℕ) → is_commit e.act ≡ true → told (log ++ e ∷ []) b i ≡ told_with (is_ended (log ++ e ∷ [])) log b i
  pub fresh : (log : List Entry) (e : Entry) (b : Block) (i : ℕ) → is_commit e.act ≡ true → is_named log e.tx ≡ false → told (log ++ e ∷ []) b i ≡ told log b i
  pub longer : (log more : List Entry) (b : Block) (i : ℕ) → told (log ++ more) b i ≡ None → told log b i ≡ None
  pub says : (ended : ℕ → Bool) (log more : List Entry) (b : Block) → last_said ended (log ++ more) b ≡ option_or (last_said ended more b) (last_said ended log b)

-- the content before all the log's updates
abbrev pub origin : Content → List Entry → Content
origin present log = overlay present (undos_back log)

-- an update whose undo bytes are the present ones, but for bytes that the log has changed before, leaves the origin
abbrev pub OriginKept : Type 0
OriginKept = (present : Content) (log : List Entry) (e : Entry) (b : Block) → AllByRecursion IsLevel (log ++ e ∷ [])
    → ((i : ℕ) → covers b i e.act ≡ true → first_undo log b i ≡ None → undo_byte e.act i ≡ slice_index (present b).bytes i)
    → (origin (overlay present (redo_of true e.act)) (log ++ e ∷ []) b).bytes ≡ (origin present log b).bytes

-- On a disk where the block stands as in the origin, unless the durable entries cover it whole, a log of the durable entries and some more recovers
-- to the origin after the transactions that have ended there; whatever the log has after them.
abbrev pub CrashKernel : Type 0
CrashKernel = (disk present : Content) (durable rest more : List Entry) (b : Block) → AllByRecursion IsLevel ((durable ++ rest) ++ more)
    → length (disk b).bytes ≡ 512 * sectors b.kind → length (present b).bytes ≡ 512 * sectors b.kind
    → (is_covered_whole durable b ≡ false → (disk b).bytes ≡ (origin present ((durable ++ rest) ++ more) b).bytes)
    → is_shadowed (durable ++ rest) b ≡ false
    → (recovered disk (durable ++ rest) b).bytes ≡ (overlay (origin present ((durable ++ rest) ++ more)) (redos (is_ended (durable ++ rest)) (durable ++ rest)) b).bytes

-- no commit, and no entry of a transaction that has ended in the log
abbrev pub IsOther : List Entry → Entry → Type 0
IsOther log e = (is_ended log e.tx ≡ false) × (is_commit e.act ≡ false)

-- entries after the last commit, of transactions that haven't ended, are never redone
abbrev pub TailCountsForNothing : Type 0
TailCountsForNothing = (log tail : List Entry) → AllByRecursion (IsOther log) tail → redos (is_ended (log ++ tail)) (log ++ tail) ≡ redos (is_ended log) log
