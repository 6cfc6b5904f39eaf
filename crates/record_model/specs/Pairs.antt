-- Mapping pairs (Linux-NTFS documentation, "Data runs"). A pair has a header, the bytes of a run's length and those of
-- its LCN delta, both signed and the lowest byte first. The header's low nibble counts the first, its high nibble the
-- others. The delta is relative to the LCN of the run before, or to 0 at first; a run with no delta bytes is sparse. A
-- header of 0 ends the list.
use Rattle.std.specs.Prelude.{ℕ, ℤ, pos, negsuc, zero, suc, ◌+◌, ◌/◌, ◌%◌, ◌^◌, ◌+ℤ◌, List, [], ◌∷◌, length, take, drop, Result, Ok, Err, Bool, true, ◌&&◌, nat_le, nat_lt, Option, Some, None, false, option_map, unwrap_or, unsigned_abs, ⊤, IfSome, ◌-ℤ◌, ◌<◌, ◌≤◌, ◌-◌, ◌*◌, ◌++◌, ◌≡◌, if◌then◌else◌}
use Rattle.std.specs.Int.{w64}
use Rattle.byteorder.specs.Endian.{little_number, little_bytes, low_bytes, twos_complement}
use Rattle.disk_model.specs.host_base.Answers.{◌>>=◌, needs, Cause, refused, no_memory}
use Rattle.record_model.specs.declared.runs.Run.{Run}
use Rattle.record_model.specs.declared.runs.PairsFault.{PairsFault}
use Rattle.record_model.specs.declared.runs.PairsFault.TheVariants.{Header, Cut, Range, Memory}

-- the signed number that bytes spell, the lowest byte first
unfoldable pub signed : List ℕ → ℤ
signed bytes = twos_complement (length bytes) (little_number (length bytes) bytes)

-- a volume has at most 2 ^ 32 clusters
abbrev pub cluster_limit : ℕ
cluster_limit = 2 ^ 32

-- ---- the reader

-- how many bytes a header gives to its run's length, and to its run's LCN delta
abbrev pub length_width : ℕ → ℕ
length_width header = header % 16

abbrev pub delta_width : ℕ → ℕ
delta_width header = header / 16

abbrev pub is_header : ℕ → Bool
is_header header = nat_lt 0 (length_width header) && nat_le (length_width header) 8 && nat_le (delta_width header) 8

-- where a header stands, how many clusters the runs before it have, and the LCN that its delta is relative to
pub record Place : Type 0 where
  pub at : ℕ
  pub clusters : ℕ
  pub lcn : ℕ

abbrev pub start : Place
start = record { at = 0; clusters = 0; lcn = 0 }

-- a length of at least 1 that keeps the sum of the lengths within the limit
abbrev pub is_length : ℕ → ℤ → Bool
is_length clusters (pos len) = nat_lt 0 len && nat_le (clusters + len) cluster_limit
is_length clusters (negsuc n) = false

-- no LCN, or one of at least 0 and below the limit
abbrev pub is_lcn : Option ℤ → Bool
is_lcn None = true
is_lcn (Some (pos lcn)) = nat_lt lcn cluster_limit
is_lcn (Some (negsuc n)) = false

-- the LCN that these delta bytes lead to, from the LCN before: none where there are no bytes
abbrev pub lcn_after : ℕ → List ℕ → Option ℤ
lcn_after before [] = None
lcn_after before (b ∷ bytes) = Some (pos before +ℤ signed (b ∷ bytes))

-- the length that these bytes give a run at a place, in clusters; or its fault
unfoldable pub length_at : Place → List ℕ → Result ℕ PairsFault
length_at p bytes = needs (is_length p.clusters (signed bytes)) (Range p.at) >>= λ _. Ok (unsigned_abs (signed bytes))

-- the LCN that these delta bytes give a run at a place; or its fault
unfoldable pub lcn_at : Place → List ℕ → Result (Option ℕ) PairsFault
lcn_at p bytes = needs (is_lcn (lcn_after p.lcn bytes)) (Range p.at) >>= λ _. Ok (option_map unsigned_abs (lcn_after p.lcn bytes))

-- the run of a header at a place, with the bytes behind the header; or the first fault there
unfoldable pub run_at : ℕ → Place → ℕ → List ℕ → Result Run PairsFault
run_at first p header bytes =
    needs (is_header header) (Header p.at)
    >>= λ _. needs (nat_le (length_width header + delta_width header) (length bytes)) (Cut p.at)
    >>= λ _. length_at p (take (length_width header) bytes)
    >>= λ len. lcn_at p (take (delta_width header) (drop (length_width header) bytes))
    >>= λ lcn. Ok (record { vcn = (first + p.clusters) % 2 ^ 64; lcn = lcn; len = len })

-- the place behind a run that had this header
abbrev pub behind : Place → ℕ → Run → Place
behind p header r = record { at = p.at + 1 + length_width header + delta_width header; clusters = p.clusters + r.len; lcn = unwrap_or r.lcn p.lcn }

-- the runs from a place on, of which there are fewer than so many; or the first fault
unfoldable pub runs_from : ℕ → ℕ → Place → List ℕ → Result (List Run) PairsFault
runs_from zero first p bytes = Err (Cut p.at)
runs_from (suc more) first p [] = Err (Cut p.at)
runs_from (suc more) first p (zero ∷ rest) = Ok []
runs_from (suc more) first p (suc h ∷ rest) =
    run_at first p (suc h) rest
    >>= λ run. runs_from more first (behind p (suc h) run) (drop (length_width (suc h) + delta_width (suc h)) rest)
    >>= λ runs. Ok (run ∷ runs)

-- the runs of mapping pairs, the first of them at this VCN; or the first fault
unfoldable pub runs_of : ℕ → List ℕ → Result (List Run) PairsFault
runs_of first bytes = runs_from (suc (length bytes)) first start bytes

-- a fault is refused, and want of memory is no refusal
abbrev pub pairs_cause : PairsFault → Cause PairsFault
pairs_cause (Header at) = refused (Header at)
pairs_cause (Cut at) = refused (Cut at)
pairs_cause (Range at) = refused (Range at)
pairs_cause Memory = no_memory

-- ---- the spelling that is written

-- so many bytes hold this signed number
abbrev pub fits_bytes : ℕ → ℤ → Bool
fits_bytes bytes (pos n) = nat_lt n (2 ^ (8 * bytes - 1))
fits_bytes bytes (negsuc n) = nat_le (suc n) (2 ^ (8 * bytes - 1))

-- the least number of bytes, from this one on and at most so many more, that holds a number
unfoldable pub least_width : ℕ → ℕ → ℤ → ℕ
least_width zero bytes z = bytes
least_width (suc more) bytes z = if fits_bytes bytes z then bytes else least_width more (suc bytes) z

-- the fewest bytes that hold a signed number of 64 bits, at least one
unfoldable pub signed_width : ℤ → ℕ
signed_width z = least_width 7 1 z

-- a signed number in the fewest bytes, the lowest first
unfoldable pub signed_bytes : ℤ → List ℕ
signed_bytes z = little_bytes (signed_width z) (low_bytes w64 (signed_width z) z)

-- the bytes of an LCN as a delta from the LCN before: none for a sparse run
abbrev pub delta_bytes : ℕ → Option ℕ → List ℕ
delta_bytes before None = []
delta_bytes before (Some lcn) = signed_bytes (pos lcn -ℤ pos before)

-- the pair of a run, behind this LCN
unfoldable pub pair_of : ℕ → Run → List ℕ
pair_of before r =
    let len = signed_bytes (pos r.len) in
    let delta = delta_bytes before r.lcn in
    (length len + 16 * length delta) ∷ (len ++ delta)

unfoldable pub pairs_from : ℕ → List Run → List ℕ
pairs_from before [] = 0 ∷ []
pairs_from before (r ∷ runs) = pair_of before r ++ pairs_from (unwrap_or r.lcn before) runs

-- the pairs of runs, in the fewest bytes, and the zero behind them
unfoldable pub pairs_of : List Run → List ℕ
pairs_of runs = pairs_from 0 runs

-- ---- which runs have a spelling

-- a run behind so many clusters from the first VCN on: it stands where they end, modulo 2 ^ 64, has at least one
-- cluster, keeps the sum of the lengths within the limit, and lies below it or is sparse
pub record IsNext (first clusters : ℕ) (r : Run) : Type 0 where
  pub vcn : r.vcn ≡ (first + clusters) % 2 ^ 64
  pub some : 0 < r.len
  pub within : clusters + r.len ≤ cluster_limit
  pub lcn : IfSome r.lcn (λ lcn. lcn < cluster_limit)

-- runs that follow one another from there on
abbrev pub Follow : ℕ → ℕ → List Run → Type 0
Follow first clusters [] = ⊤
Follow first clusters (r ∷ runs) = IsNext first clusters r × Follow first (clusters + r.len) runs

-- runs that have a spelling from this first VCN on
abbrev pub HasSpelling : ℕ → List Run → Type 0
HasSpelling first runs = Follow first 0 runs

-- the VCN of the first run, where there is one
abbrev pub first_vcn : List Run → ℕ
first_vcn [] = 0
first_vcn (r ∷ runs) = r.vcn

-- ---- the table

-- the LCN of a run in these delta bytes, from the LCN before
abbrev pub SpellsLcn : ℕ → Option ℕ → List ℕ → Type 0
SpellsLcn before None delta = length delta ≡ 0
SpellsLcn before (Some lcn) delta = (0 < length delta) × (pos before +ℤ signed delta ≡ pos lcn)

-- bytes begin with a pair of this run, in widths of any kind, and the rest stands behind it
pub record IsPair (before : ℕ) (r : Run) (bytes rest : List ℕ) : Type 0 where
  pub header : ℕ
  pub len : List ℕ
  pub delta : List ℕ
  pub whole : bytes ≡ header ∷ (len ++ (delta ++ rest))
  pub low_nibble : header % 16 ≡ length len
  pub high_nibble : header / 16 ≡ length delta
  pub len_some : 0 < length len
  pub len_width : length len ≤ 8
  pub delta_width : length delta ≤ 8
  pub len_is : signed len ≡ pos r.len
  pub lcn_is : SpellsLcn before r.lcn delta

-- bytes spell these runs, the first of them relative to this LCN; what stands behind the end's zero is free
abbrev pub SpellsRuns : ℕ → List Run → List ℕ → Type 0
SpellsRuns before [] bytes = (rest : List ℕ) × (bytes ≡ 0 ∷ rest)
SpellsRuns before (r ∷ runs) bytes = (rest : List ℕ) × (IsPair before r bytes rest × SpellsRuns (unwrap_or r.lcn before) runs rest)
