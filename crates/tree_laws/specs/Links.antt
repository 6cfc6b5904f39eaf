-- The names of a volume where one file is replaced.
use Rattle.std.specs.Prelude.{◌≡◌, ◌≢◌, ℕ, List, length, Option}
use Rattle.volume_state.specs.record_model.Records.{Record}
use Rattle.volume_state.specs.state_model.Files.{Table, links_at}
use Rattle.volume_state.specs.state_model.Loads.{table_in}
use Rattle.volume_state.specs.state_model.Trees.{all_links}
use Rattle.stream_laws.specs.Replacing.{SameBut, OneFileDiffers}
use Rattle.tree_laws.specs.Keeping.{PartReplaced, KeepsNames}

-- Other files keep their names. The names of all files are those from before, with those of this file replaced; where it keeps
-- them, all stay.
pub record LinksReplaced : Type 0 where
  pub elsewhere : (p q : Table) (n m : ℕ) → SameBut n p q → m ≢ n → links_at q m ≡ links_at p m
  pub all : (old new : List (Option Record)) (n : ℕ) → OneFileDiffers n old new
      → PartReplaced (links_at (table_in old) n) (links_at (table_in new) n) (all_links (table_in old) (length old)) (all_links (table_in new) (length new))
  pub kept : (old new : List (Option Record)) (n : ℕ) → OneFileDiffers n old new → KeepsNames n (table_in old) (table_in new) → all_links (table_in new) (length new) ≡ all_links (table_in old) (length old)
