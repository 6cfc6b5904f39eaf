-- The commands of a script, by their words.
use Rattle.std.specs.Prelude.{ℕ, List, [], ◌∷◌, if◌then◌else◌, codes, Result, Ok, Err}
use Rattle.std.specs.Str.{bytes_eq}
use Rattle.host_base.specs.Answers.{◌>>=◌}
use Rattle.tree_model.specs.declared.script.Op.TheVariants.{Read, Stat, List as ListOf, Write, Fill, Truncate, Sync}
use Rattle.tree_model.specs.declared.script.What.{What}
use Rattle.tree_model.specs.declared.script.What.TheVariants.{Op as Operation}
use Rattle.script_text.specs.Paths.{path_of}
use Rattle.script_text.specs.Words.{most_read, most_written, number_in, count_in, bytes_in, byte_in}

-- the words of a command that takes a path alone; another number of words breaks rule 6
unfoldable pub path_alone : List (List ℕ) → Result (List (List ℕ)) ℕ
path_alone [] = Err 6
path_alone (word ∷ []) = path_of word
path_alone (word ∷ other ∷ words) = Err 6

-- the words of a read, a path, an offset and a count of at most 4,096; another number of words breaks rule 6
unfoldable pub read_of : List (List ℕ) → Result What ℕ
read_of [] = Err 6
read_of (path ∷ []) = Err 6
read_of (path ∷ offset ∷ []) = Err 6
read_of (path ∷ offset ∷ count ∷ []) = do
  parts ← path_of path
  at ← number_in offset
  n ← count_in most_read count
  Ok (Operation (Read parts at n))
read_of (path ∷ offset ∷ count ∷ other ∷ words) = Err 6

-- the words of a write, a path, an offset and bytes
unfoldable pub write_of : List (List ℕ) → Result What ℕ
write_of [] = Err 6
write_of (path ∷ []) = Err 6
write_of (path ∷ offset ∷ []) = Err 6
write_of (path ∷ offset ∷ bytes ∷ []) = do
  parts ← path_of path
  at ← number_in offset
  written ← bytes_in bytes
  Ok (Operation (Write parts at written))
write_of (path ∷ offset ∷ bytes ∷ other ∷ words) = Err 6

-- the words of a fill, a path, an offset, a count of at most 65,536 and a byte
unfoldable pub fill_of : List (List ℕ) → Result What ℕ
fill_of [] = Err 6
fill_of (path ∷ []) = Err 6
fill_of (path ∷ offset ∷ []) = Err 6
fill_of (path ∷ offset ∷ count ∷ []) = Err 6
fill_of (path ∷ offset ∷ count ∷ byte ∷ []) = do
  parts ← path_of path
  at ← number_in offset
  n ← count_in most_written count
  value ← byte_in byte
  Ok (Operation (Fill parts at n value))
fill_of (path ∷ offset ∷ count ∷ byte ∷ other ∷ words) = Err 6

-- the words of a truncate, a path and a size
unfoldable pub truncate_of : List (List ℕ) → Result What ℕ
truncate_of [] = Err 6
truncate_of (path ∷ []) = Err 6
truncate_of (path ∷ size ∷ []) = do
  parts ← path_of path
  end ← number_in size
  Ok (Operation (Truncate parts end))
truncate_of (path ∷ size ∷ other ∷ words) = Err 6

-- a sync takes no words
unfoldable pub sync_of : List (List ℕ) → Result What ℕ
sync_of [] = Ok (Operation Sync)
sync_of (word ∷ words) = Err 6

-- the commands that change a file or sync, by the table of commands; an unknown name breaks rule 5
unfoldable pub change_named : List ℕ → List (List ℕ) → Result What ℕ
change_named name words =
    if bytes_eq name (codes "write") then write_of words
    else if bytes_eq name (codes "fill") then fill_of words
    else if bytes_eq name (codes "truncate") then truncate_of words
    else if bytes_eq name (codes "sync") then sync_of words
    else Err 5

-- what a command's name and words ask for: those that look, then those that change
unfoldable pub what_named : List ℕ → List (List ℕ) → Result What ℕ
what_named name words =
    if bytes_eq name (codes "stat") then (path_alone words >>= λ path. Ok (Operation (Stat path)))
    else if bytes_eq name (codes "list") then (path_alone words >>= λ path. Ok (Operation (ListOf path)))
    else if bytes_eq name (codes "read") then read_of words
    else change_named name words

-- a line of a client alone breaks rule 5 too
unfoldable pub what_of : List (List ℕ) → Result What ℕ
what_of [] = Err 5
what_of (name ∷ words) = what_named name words
