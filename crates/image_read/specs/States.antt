-- The tree that an image stands for, and what a check says of it.
use Rattle.std.specs.Prelude.{◌≡◌, ℕ, ◌<◌, true, List, length, Ok}
use Rattle.disk_model.specs.Sectors.{sector_of}
use Rattle.disk_model.specs.Content.{content_of}
use Rattle.file_tree.specs.declared.tree.Tree.{Tree}
use Rattle.volume_check.specs.volume_state.Laws.{bare}
use Rattle.volume_check.specs.volume_state.Trees.{IsState}
use Rattle.volume_check.specs.volume_state.Versions.{volume_info, is_known}
use Rattle.image_open.specs.Volumes.{Opened, opened_in}
use Rattle.image_read.specs.Checks.{check_of}

-- The image on these sectors stands for the tree: neither its boot sector nor its log is refused, and the recovered content stands for it.
pub record StandsFor (disk : List (List ℕ)) (t : Tree) : Type 0 where
  pub opening : Opened
  pub opened : opened_in (content_of (sector_of disk)) (length disk) ≡ Ok opening
  pub state : IsState opening.content opening.geometry opening.total t

-- An image stands for one tree at most; and for one, as a volume of version 3.1, just where a check of it answers one, which is this
-- tree without the bytes of its nodes and the records of its journal.
pub record CheckOfImage : Type 0 where
  pub one : (disk : List (List ℕ)) (t u : Tree) → StandsFor disk t → StandsFor disk u → t ≡ u
  pub stands : (disk : List (List ℕ)) (t : Tree) → check_of disk ≡ Ok t → (u : Tree) × (s : StandsFor disk u) × (is_known (volume_info s.state.volume) ≡ true) × (t ≡ bare u)
  pub answered : (disk : List (List ℕ)) (t : Tree) (s : StandsFor disk t) → 0 < length disk → is_known (volume_info s.state.volume) ≡ true → check_of disk ≡ Ok (bare t)
