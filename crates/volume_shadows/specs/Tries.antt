-- How a shadow is tried against a run.
use Rattle.std.specs.Prelude.{ℕ, ◌+◌, ◌-◌, ◌*◌, ◌/◌, Bool, true, false, ◌&&◌, nat_le, nat_lt, if◌then◌else◌, List, [], ◌∷◌, Option, Some, None}
use Rattle.disk_model.specs.declared.block.Block.{Block}
use Rattle.disk_model.specs.declared.block.BlockKind.{BlockKind}
use Rattle.disk_model.specs.Sectors.{sectors, same_block}
use Rattle.state_model.specs.record_model.declared.runs.Run.{Run}
use Rattle.state_model.specs.Streams.{block_at}
use Rattle.log_recovery.specs.declared.found.Shadow.{Shadow}
use Rattle.volume_shadows.specs.Least.{least_of}

-- the sectors of a run, from this one on and before that one; none where it is sparse
abbrev pub first_by : ℕ → Option ℕ → ℕ
first_by per None = 0
first_by per (Some lcn) = lcn * per

abbrev pub end_by : ℕ → ℕ → Option ℕ → ℕ
end_by per len None = 0
end_by per len (Some lcn) = (lcn + len) * per

abbrev pub run_first : ℕ → Run → ℕ
run_first per r = first_by per r.lcn

abbrev pub run_end : ℕ → Run → ℕ
run_end per r = end_by per r.len r.lcn

-- the place in a stream of a block of this kind that begins in a sector of the run
unfoldable pub number_of : ℕ → BlockKind → Run → ℕ → Option ℕ
number_of per kind r first = if nat_le (run_first per r) first && nat_lt first (run_end per r) then Some ((r.vcn * per + (first - run_first per r)) / sectors kind) else None

-- each run begins where the one before it ends, or behind
abbrev pub stand_apart : ℕ → List Run → Bool
stand_apart end [] = true
stand_apart end (r ∷ runs) = nat_le end r.vcn && stand_apart (r.vcn + r.len) runs

-- the runs among which a block is looked for that begins in one of them
abbrev pub near_of : Bool → List Run → Run → List Run
near_of apart runs r = if apart then r ∷ [] else runs

abbrev pub is_this : Block → Option Block → Bool
is_this b None = false
is_this b (Some a) = same_block b a

-- the shadow's LSN, where its block is that of this place, below so many
abbrev pub tried_at : ℕ → BlockKind → ℕ → List Run → Shadow → Option ℕ → Option ℕ
tried_at per kind count near s None = None
tried_at per kind count near s (Some n) = if nat_lt n count && is_this s.block (block_at per near kind n) then Some s.lsn else None

unfoldable pub tried : ℕ → BlockKind → ℕ → List Run → Run → Shadow → Option ℕ
tried per kind count near r s = tried_at per kind count near s (number_of per kind r s.block.first)

-- the least LSN of those that are tried
abbrev pub least_tried : ℕ → BlockKind → ℕ → Bool → List Run → List Shadow → Run → Option ℕ
least_tried per kind count apart runs shadows r = least_of (tried per kind count (near_of apart runs r) r) shadows
