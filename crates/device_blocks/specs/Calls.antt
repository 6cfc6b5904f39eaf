-- What the calls of a device do by which a block is read and written.
use Rattle.std.specs.Prelude.{◌≡◌, ◌⊎◌, ℕ, ◌*◌, List, length, Option, Some, None, Result, OnOk, OnErr, IfSome}
use Rattle.disk_model.specs.declared.block.Block.{Block}
use Rattle.disk_model.specs.Sectors.{sector_of, sectors, raw_from}
use Rattle.fixup_record.specs.Spellings.{spelled}
use Rattle.log_area.specs.sector_device.Moments.{moment_after, Changes}
use Rattle.log_area.specs.Calls.{IsAsked, sending_moment, Sends}
use Rattle.device_blocks.specs.declared.word.CheckWord.{CheckWord}
use Rattle.device_blocks.specs.declared.word.CheckWord.TheVariants.{Unread, Missing, Stands, Sent}
use Rattle.device_blocks.specs.Words.{stood_check, word_at, next_word, known_word, written_word}

-- ---- a body is written to its block

-- The word under which a body is written: that which is known for the next write, or else that behind the one which stands there, where this is known.
pub record IsNextOf (word : CheckWord) (gives : Option (List (List ℕ))) (block : Block) (check : ℕ) : Type 0 where
  pub kept : IfSome (known_word word) (λ known. check ≡ known)
  pub read : known_word word ≡ None → IfSome gives (λ disk. check ≡ next_word (stood_check block.kind (raw_from (sector_of disk) block.first (sectors block.kind))))

-- A body was sent to its block under this check word; before that the block was read where its word wasn't known.
pub record IsPut {D T E : Type 0} (gives : D → Option (List (List ℕ))) (changes : D → Changes) (moment : D → ℕ) (word : CheckWord) (block : Block) (bytes : List ℕ) (check : ℕ) (result : Result T E) (old new : D) : Type 0 where
  pub chosen : IsNextOf word (gives old) block check
  pub sends : Sends gives changes moment (sending_moment (known_word word) (moment old)) block.first (spelled block.kind check bytes) result old new

-- After a failure: the body was sent under the word that is kept; or the block was read, and its word isn't known.
abbrev pub PutOrAsked : {D T E : Type 0} → (D → Option (List (List ℕ))) → (D → Changes) → (D → ℕ) → CheckWord → Block → List ℕ → Result T E → D → D → CheckWord → Type 0
PutOrAsked gives changes moment word block bytes result old new (Sent check) = IsPut gives changes moment word block bytes check result old new
PutOrAsked gives changes moment word block bytes result old new Unread = (word ≡ Unread) × IsAsked gives changes moment old new
PutOrAsked gives changes moment word block bytes result old new Missing = ⊥
PutOrAsked gives changes moment word block bytes result old new (Stands check) = ⊥

-- A body was put under this word, which then is the one that stands there.
pub record IsPutNow {D T E : Type 0} (gives : D → Option (List (List ℕ))) (changes : D → Changes) (moment : D → ℕ) (word now : CheckWord) (block : Block) (bytes : List ℕ) (check : ℕ) (result : Result T E) (old new : D) : Type 0 where
  pub put : IsPut gives changes moment word block bytes check result old new
  pub stands : now ≡ written_word block.kind bytes check

-- What a call did that writes a body to its block, whose check word was known so before, and is known so now.
pub record IsPutOrNot {D T E : Type 0} (gives : D → Option (List (List ℕ))) (changes : D → Changes) (moment : D → ℕ) (word now : CheckWord) (block : Block) (bytes : List ℕ) (result : Result T E) (old new : D) : Type 0 where
  pub ok : OnOk result ((check : ℕ) × IsPutNow gives changes moment word now block bytes check result old new)
  pub failed : OnErr result (PutOrAsked gives changes moment word block bytes result old new now)

-- ---- a block is written as it stands

-- These bytes, which the block has by what reads give, were sent to it after it was read.
pub record IsPutAgain {D T E : Type 0} (gives : D → Option (List (List ℕ))) (changes : D → Changes) (moment : D → ℕ) (block : Block) (bytes : List ℕ) (result : Result T E) (old new : D) : Type 0 where
  pub size : length bytes ≡ 512 * sectors block.kind
  pub same : IfSome (gives old) (λ disk. bytes ≡ raw_from (sector_of disk) block.first (sectors block.kind))
  pub sends : Sends gives changes moment (moment_after (moment old)) block.first bytes result old new

-- What a call did that writes a block as it stands: where it failed, it may have read it alone.
pub record IsPutAgainOrNot {D T E : Type 0} (gives : D → Option (List (List ℕ))) (changes : D → Changes) (moment : D → ℕ) (block : Block) (result : Result T E) (old new : D) : Type 0 where
  pub ok : OnOk result ((bytes : List ℕ) × IsPutAgain gives changes moment block bytes result old new)
  pub failed : OnErr result (IsAsked gives changes moment old new ⊎ ((bytes : List ℕ) × IsPutAgain gives changes moment block bytes result old new))
