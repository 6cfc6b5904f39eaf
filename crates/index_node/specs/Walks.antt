-- The walk over the bytes of a node's entries.
use Rattle.std.specs.Prelude.{ℕ, nat_lt, ◌&&◌, true, if◌then◌else◌, List, [], ◌∷◌, ◌++◌, length, map, Result, Ok}
use Rattle.std.specs.List.{list_all}
use Rattle.disk_model.specs.host_base.Answers.{◌>>=◌, needs}
use Rattle.disk_model.specs.Numbers.{field}
use Rattle.record_model.specs.declared.entry.Entry.{Entry}
use Rattle.record_model.specs.Records.{Pieces}
use Rattle.record_model.specs.Nodes.{is_last, has_entry, entry_of, cut_entries, most_entries, has_flag}
use Rattle.index_node.specs.declared.walk.Next.{Next}
use Rattle.index_node.specs.declared.walk.Next.TheVariants.{Inner, Last, Short, Faulty}
use Rattle.index_node.specs.declared.walk.Found.{Found}

-- what these bytes begin with
unfoldable pub next_of : List ℕ → Next
next_of bytes =
    if nat_lt (length bytes) 0x10 then Short
    else if has_entry bytes then (if is_last bytes then Last (field 0x08 2 bytes) else Inner (field 0x08 2 bytes))
    else Faulty

-- before the first entry
abbrev pub nothing_found : Found
nothing_found = record { entries = []; same = true }

-- one entry more, in a node with this flag
unfoldable pub with_found : ℕ → Found → List ℕ → Found
with_found flag found piece = record { entries = found.entries ++ entry_of piece ∷ []; same = found.same && has_flag flag piece }

-- the entries that were found, or rule 6
abbrev pub verdict_of : Found → Result (List Entry) ℕ
verdict_of found = needs found.same 6 >>= λ _. Ok found.entries

-- the entries of the pieces, or the least rule from 5 on that they break
abbrev pub entries_of : ℕ → Pieces → Result (List Entry) ℕ
entries_of flag p = needs p.ended 5 >>= λ _. needs (list_all (has_flag flag) p.pieces) 6 >>= λ _. Ok (map entry_of p.pieces)

-- the entries that stand in these bytes up to the last one, or the least rule from 4 on that is broken
unfoldable pub entries_at : ℕ → List ℕ → Result (List Entry) ℕ
entries_at flag bytes = cut_entries (most_entries bytes) bytes >>= entries_of flag
