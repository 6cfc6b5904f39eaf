-- Bytes of the data that a node shows.
use Rattle.std.specs.Prelude.{ℕ, List}
use Rattle.disk_model.specs.Content.{Content}
use Rattle.tree_model.specs.Fronts.{front_of}
use Rattle.volume_tree.specs.volume_model.Volumes.{Volume, bytes_or}
use Rattle.volume_tree.specs.Shown.{shown_at}

-- those of the data that a file of a volume shows, and zeros behind them
unfoldable pub front_shown : Content → Volume → ℕ → ℕ → ℕ → List ℕ
front_shown c v n at count = front_of (bytes_or c v.per (shown_at v n)) at count
