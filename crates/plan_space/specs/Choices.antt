-- Steps of a choice of clusters.
use Rattle.std.specs.Prelude.{◌≡◌, ℕ, ◌+◌, ◌-◌, ◌<◌, ◌≤◌, Bool, not, List, ◌++◌, take, count_by, Option}
use Rattle.space_model.specs.record_model.declared.runs.Run.{Run}
use Rattle.space_model.specs.bit_set.Bits.{IsClearRun}
use Rattle.space_model.specs.Choosing.{at_once, lowest_fit, chosen_anywhere, chosen, with_runs}

-- the run that is taken next where so many are wanted
pub record IsNextRun (bits : List Bool) (wanted first len : ℕ) : Type 0 where
  pub some : 0 < len
  pub once : at_once wanted bits ≡ len
  pub fit : lowest_fit len bits ≡ first
  pub few : len ≤ wanted
  pub clear : IsClearRun bits first len

-- the bits where the clusters of the first of these runs are set, of none of them or of all
abbrev pub TakesFirst : List Run → List Bool → List Bool → Type 0
TakesFirst runs old new = (n : ℕ) × (new ≡ with_runs (take n runs) old)

-- A run of so many was added: it and what is chosen from now on are what was chosen before.
pub record TakesRun (old new : List Bool) (before after : List Run) (vcn wanted len : ℕ) : Type 0 where
  pub some : 0 < len
  pub few : len ≤ wanted
  pub room : count_by not new + len ≡ count_by not old
  pub runs : after ++ chosen_anywhere (wanted - len) new (vcn + len) (wanted - len) ≡ before ++ chosen_anywhere wanted old vcn wanted
  pub bits : with_runs (chosen_anywhere (wanted - len) new (vcn + len) (wanted - len)) new ≡ with_runs (chosen_anywhere wanted old vcn wanted) old
  pub first : (last : List Bool) → TakesFirst (chosen_anywhere (wanted - len) new (vcn + len) (wanted - len)) new last → TakesFirst (chosen_anywhere wanted old vcn wanted) old last

-- The same of what lies directly behind the last cluster: so many, or none.
pub record TakesBehind (old new : List Bool) (after : List Run) (last : Option ℕ) (wanted len : ℕ) : Type 0 where
  pub few : len ≤ wanted
  pub room : wanted ≤ count_by not old → wanted - len ≤ count_by not new
  pub runs : after ++ chosen_anywhere (wanted - len) new len (wanted - len) ≡ chosen old last wanted
  pub bits : with_runs (chosen_anywhere (wanted - len) new len (wanted - len)) new ≡ with_runs (chosen old last wanted) old
  pub first : (end : List Bool) → TakesFirst (chosen_anywhere (wanted - len) new len (wanted - len)) new end → TakesFirst (chosen old last wanted) old end
