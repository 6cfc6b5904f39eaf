-- What a choice of clusters keeps.
use Rattle.std.specs.Prelude.{◌≡◌, ⊤, ℕ, ◌+◌, ◌<◌, ◌≤◌, Bool, not, List, [], ◌∷◌, count_by, Option, Some}
use Rattle.record_model.specs.declared.runs.Run.{Run}
use Rattle.bit_set.specs.Bits.{IsClearRun}
use Rattle.space_model.specs.Choosing.{with_run, chosen}

-- The run has this VCN and some clusters, which are there and clear.
pub record IsFree (bits : List Bool) (vcn : ℕ) (r : Run) (first : ℕ) : Type 0 where
  pub vcn_is : r.vcn ≡ vcn
  pub lcn : r.lcn ≡ Some first
  pub some : 0 < r.len
  pub clear : IsClearRun bits first r.len

-- Each run is free once those before it were taken, and their VCNs follow one another.
abbrev pub AreFree : List Bool → ℕ → List Run → Type 0
AreFree bits vcn [] = ⊤
AreFree bits vcn (r ∷ runs) = (first : ℕ) × IsFree bits vcn r first × AreFree (with_run first r.len bits) (vcn + r.len) runs

-- the clusters of runs
abbrev pub clusters_of : List Run → ℕ
clusters_of [] = 0
clusters_of (r ∷ runs) = r.len + clusters_of runs

-- Where so many bits are clear, so many clusters are chosen, each clear and none twice.
pub record ChosenAreFree : Type 0 where
  pub count : (bits : List Bool) (last : Option ℕ) (n : ℕ) → n ≤ count_by not bits → clusters_of (chosen bits last n) ≡ n
  pub free : (bits : List Bool) (last : Option ℕ) (n : ℕ) → AreFree bits 0 (chosen bits last n)
