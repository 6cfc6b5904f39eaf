-- The lowest number of a user's file whose bit is clear.
use Rattle.std.specs.Prelude.{◌≡◌, ℕ, ◌<◌, ◌≤◌, Bool, true, false, List}
use Rattle.bit_set.specs.Bits.{bit}
use Rattle.file_tree.specs.Walks.{first_user_record}

-- none from there on is lower; past the end all bits are clear
pub record IsLowestSpare (bits : List Bool) (number : ℕ) : Type 0 where
  pub behind : first_user_record ≤ number
  pub clear : bit bits number ≡ false
  pub lowest : (i : ℕ) → first_user_record ≤ i → i < number → bit bits i ≡ true
