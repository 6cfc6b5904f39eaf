-- The check word of a page that is written: one that ends no sector of what stood there before.
use Rattle.std.specs.Prelude.{◌≡◌, ℕ, ◌<◌, ◌==◌, Bool, true, false, List, map}
use Rattle.std.specs.List.{range_with_len, list_any}
use Rattle.disk_model.specs.Fixups.{sector_count, last_word}

-- the last words of the sectors
unfoldable pub last_words : List ℕ → List ℕ
last_words page = map (last_word page) (range_with_len 0 (sector_count page))

-- the word ends some sector
abbrev pub is_last_word : List ℕ → ℕ → Bool
is_last_word page word = list_any (λ w. w == word) (last_words page)

-- the least word that is neither 0 nor FFFF and ends no sector
pub record IsCheckWord (page : List ℕ) (word : ℕ) : Type 0 where
  pub above : 0 < word
  pub below : word < 0xFFFF
  pub unused : is_last_word page word ≡ false
  pub least : (w : ℕ) → 0 < w → w < word → is_last_word page w ≡ true
