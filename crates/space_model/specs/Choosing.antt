-- Which clusters a stream gets that grows: a choice among the clear bits of a bitmap.
use Rattle.std.specs.Prelude.{ℕ, zero, suc, ◌+◌, ◌-◌, ◌==◌, Bool, true, false, nat_le, if◌then◌else◌, min, max, List, [], ◌∷◌, drop, Option, Some, None}
use Rattle.record_model.specs.declared.runs.Run.{Run}

-- so many bits at the front are clear
unfoldable pub clear_front : List Bool → ℕ
clear_front [] = 0
clear_front (true ∷ bits) = 0
clear_front (false ∷ bits) = suc (clear_front bits)

-- the length of the longest clear run
unfoldable pub longest_clear : List Bool → ℕ
longest_clear [] = 0
longest_clear (b ∷ bits) = max (clear_front (b ∷ bits)) (longest_clear bits)

-- the lowest place from which so many bits are clear; the end where there is none
unfoldable pub lowest_fit : ℕ → List Bool → ℕ
lowest_fit n [] = 0
lowest_fit n (b ∷ bits) = if nat_le n (clear_front (b ∷ bits)) then 0 else suc (lowest_fit n bits)

-- the bits where so many from this place on are set
unfoldable pub with_run : ℕ → ℕ → List Bool → List Bool
with_run first len [] = []
with_run zero zero (b ∷ bits) = b ∷ bits
with_run zero (suc len) (b ∷ bits) = true ∷ with_run zero len bits
with_run (suc first) len (b ∷ bits) = b ∷ with_run first len bits

-- clusters of a volume as a run of a stream
abbrev pub run_at : ℕ → ℕ → ℕ → Run
run_at vcn first len = record { vcn = vcn; lcn = Some first; len = len }

-- as many as are wanted, or as the longest clear run has
unfoldable pub at_once : ℕ → List Bool → ℕ
at_once n bits = min n (longest_clear bits)

-- The lowest clear run that holds so many; where none does, the longest, the lowest of equal ones, is taken whole, and then the
-- rest by the same rule; so many runs at most.
unfoldable pub chosen_anywhere : ℕ → List Bool → ℕ → ℕ → List Run
chosen_anywhere zero bits vcn n = []
chosen_anywhere (suc most) bits vcn n =
    if at_once n bits == 0
    then []
    else run_at vcn (lowest_fit (at_once n bits) bits) (at_once n bits)
    ∷ chosen_anywhere most (with_run (lowest_fit (at_once n bits) bits) (at_once n bits) bits) (vcn + at_once n bits) (n - at_once n bits)

-- as many as are wanted, or as are clear directly behind this cluster
unfoldable pub behind : ℕ → ℕ → List Bool → ℕ
behind last n bits = min n (clear_front (drop (suc last) bits))

-- So many clusters for a stream with this last cluster, if it has one: first the clear ones directly behind that, and then the rest
-- wherever it is. The runs' VCNs count from the first new cluster.
unfoldable pub chosen : List Bool → Option ℕ → ℕ → List Run
chosen bits None n = chosen_anywhere n bits 0 n
chosen bits (Some last) n =
    if behind last n bits == 0
    then chosen_anywhere n bits 0 n
    else run_at 0 (suc last) (behind last n bits) ∷ chosen_anywhere n (with_run (suc last) (behind last n bits) bits) (behind last n bits) (n - behind last n bits)

-- the bits where so many clusters of a volume from this one on are set; a sparse run has none
abbrev pub with_clusters : Option ℕ → ℕ → List Bool → List Bool
with_clusters None len bits = bits
with_clusters (Some first) len bits = with_run first len bits

-- the bits where the clusters of these runs are set
unfoldable pub with_runs : List Run → List Bool → List Bool
with_runs [] bits = bits
with_runs (r ∷ runs) bits = with_runs runs (with_clusters r.lcn r.len bits)
