-- No two places of a stream have a block in common, where no cluster lies twice in its runs.
use Rattle.std.specs.Prelude.{◌≡◌, ℕ, ◌+◌, ◌*◌, ◌<◌, ◌≤◌, true, false, List, Some}
use Rattle.std.specs.List.{list_all}
use Rattle.volume_model.specs.disk_model.declared.block.Block.{Block}
use Rattle.volume_model.specs.disk_model.declared.block.BlockKind.{BlockKind}
use Rattle.volume_model.specs.disk_model.Sectors.{sectors, overlap}
use Rattle.volume_model.specs.record_model.declared.runs.Run.{Run}
use Rattle.volume_model.specs.state_model.Streams.{block_at}
use Rattle.volume_model.specs.Sizes.{lies_inside}
use Rattle.volume_model.specs.Owners.{uses, keeps_owner}

-- no cluster lies twice in the runs
abbrev pub AreOnce : List Run → Type 0
AreOnce runs = (x : ℕ) → uses runs x ≤ 1

-- no cluster lies in both, nor twice in one of them
abbrev pub AreApart : List Run → List Run → Type 0
AreApart runs others = (x : ℕ) → uses runs x + uses others x ≤ 1

-- Rule 5 says this, cluster by cluster; where each run lies inside the volume, its clusters alone have to be looked at.
pub record OnceByRule : Type 0 where
  pub everywhere : (runs : List Run) → ((x : ℕ) → keeps_owner runs x ≡ true) → AreOnce runs
  pub inside : (clusters : ℕ) (runs : List Run) → list_all (lies_inside clusters) runs ≡ true → ((x : ℕ) → x < clusters → keeps_owner runs x ≡ true) → AreOnce runs

-- the sectors of a stream's n-th place of this kind, by their numbers in the stream
abbrev pub place : BlockKind → ℕ → Block
place kind n = record { first = sectors kind * n; kind = kind }

-- Two blocks of a stream that share a sector lie at places that share one: of one kind, they lie at the same place. Blocks of
-- two lists of runs that share no cluster share no sector.
pub record NoBlockTwice : Type 0 where
  pub places : (per : ℕ) (runs : List Run) (kind other : BlockKind) (n m : ℕ) (a b : Block) → 0 < per → AreOnce runs → block_at per runs kind n ≡ Some a → block_at per runs other m ≡ Some b → overlap a b ≡ true
      → overlap (place kind n) (place other m) ≡ true
  pub one_kind : (per : ℕ) (runs : List Run) (kind : BlockKind) (n m : ℕ) (a b : Block) → 0 < per → AreOnce runs → block_at per runs kind n ≡ Some a → block_at per runs kind m ≡ Some b → overlap a b ≡ true → n ≡ m
  pub two_lists : (per : ℕ) (runs others : List Run) (kind other : BlockKind) (n m : ℕ) (a b : Block) → 0 < per → AreApart runs others → block_at per runs kind n ≡ Some a → block_at per others other m ≡ Some b → overlap a b ≡ false
