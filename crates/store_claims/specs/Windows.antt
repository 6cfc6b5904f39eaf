-- What a layer above sees of a store.
use Rattle.std.specs.Prelude.{ℕ, Bool, length}
use Rattle.store_model.specs.disk_model.Content.{Content}
use Rattle.store_model.specs.Stores.{Store, member}
use Rattle.store_model.specs.Volumes.{content_with}
use Rattle.store_claims.specs.Claims.{ClaimWindow, claims_of}

-- A window of contents, and what is claimed of them: the present content, whether a transaction is open, how many commits aren't known durable, the content so
-- many commits back, and which blocks are claimed there and will be of the present one.
pub record StoreWindow : Type 0 where
  pub present : Content
  pub is_open : Bool
  pub waiting : ℕ
  pub before : ℕ → Content
  pub claimed : ClaimWindow

-- that of a machine
abbrev pub store_window : Store → StoreWindow
store_window s = record {
  present = content_with s.window.body s.window.is_torn;
  is_open = s.window.is_open;
  waiting = length s.window.waiting;
  before = λ k. content_with (member s.window k) (s.window.was_torn k);
  claimed = claims_of s;
}
