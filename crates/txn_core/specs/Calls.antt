-- What each call that reaches the device makes of what a store keeps, and of its window, by what the call answers.
use Rattle.std.specs.Prelude.{◌≡◌, ℕ, Bool, true, false, Option, Some, None, Result, Ok, Err, is_ok, List}
use Rattle.host_base.specs.declared.outside.Failed.{Failed}
use Rattle.device_blocks.specs.disk_model.declared.block.Block.{Block}
use Rattle.device_blocks.specs.disk_model.declared.block.Body.{Body}
use Rattle.device_blocks.specs.fixup_record.Spellings.{has_spelling}
use Rattle.txn_laws.specs.sector_device.Moments.{Changes}
use Rattle.txn_laws.specs.store_claims.Windows.{StoreWindow}
use Rattle.txn_laws.specs.block_pool.Pools.{with_block, without_block}
use Rattle.txn_laws.specs.txn_model.Values.{StoreFacts}
use Rattle.txn_laws.specs.txn_model.Calls.{written_facts, is_buried, synced_facts, written_out_facts, sent_out_facts, again_facts}
use Rattle.txn_laws.specs.Windows.{AfterWrite, MovesTo}
use Rattle.device_blocks.specs.declared.word.CheckWord.{CheckWord}
use Rattle.device_blocks.specs.declared.word.CheckWord.TheVariants.{Unread, Missing, Stands, Sent}
use Rattle.device_blocks.specs.Calls.{IsPutOrNot, IsPutAgainOrNot}
use Rattle.txn_core.specs.Seen.{word_of}

-- The next page of the log went out; or the write failed, and the page has this check word from now on.
abbrev pub page_facts : Result (Unit {0}) Failed → Option ℕ → StoreFacts → StoreFacts
page_facts (Ok x) check f = written_facts f
page_facts (Err e) check f = record f { log = record f.log { check = check } }

-- A sync of the device: where it failed, all stays.
abbrev pub sync_facts : Result (Unit {0}) Failed → StoreFacts → StoreFacts
sync_facts (Ok x) f = synced_facts f
sync_facts (Err e) f = f

-- and the window: the dead bodies leave whose killers the sync made durable
abbrev pub AfterSync : Result (Unit {0}) Failed → StoreFacts → StoreWindow → StoreWindow → Type 0
AfterSync (Ok x) f = MovesTo (λ b. is_buried f.log.done (f.mark b))
AfterSync (Err e) f = AfterWrite

-- A write-out that failed: the body was sent under the word that is kept; or the block was read alone, and all stays.
abbrev pub failed_out_facts : CheckWord → Block → StoreFacts → StoreFacts
failed_out_facts (Sent check) b f = sent_out_facts b f
failed_out_facts Unread b f = f
failed_out_facts Missing b f = f
failed_out_facts (Stands check) b f = f

-- the body that is kept of the block has a spelling
abbrev pub spelled_or_not : Block → Option Body → Bool
spelled_or_not b (Some x) = has_spelling b.kind x.bytes
spelled_or_not b None = false

abbrev pub is_spelled : StoreFacts → Block → Bool
is_spelled f b = spelled_or_not b (f.body b)

-- A block was written out, whose body has a spelling or else was written as it stands there, and whose check word is known so now.
abbrev pub out_facts : (spelled ok : Bool) → (now : CheckWord) → Block → StoreFacts → StoreFacts
out_facts true true now b f = written_out_facts b f
out_facts true false now b f = failed_out_facts now b f
out_facts false true now b f = again_facts b f
out_facts false false now b f = f

-- and the words: that of a block that was written out is kept no longer
abbrev pub out_words : (ok : Bool) → (now : CheckWord) → Block → List (Block × CheckWord) → List (Block × CheckWord)
out_words true now b words = without_block b words
out_words false now b words = with_block b now words

-- what a write-out of a body did on the device
abbrev pub WritesOut : {D : Type 0} → (D → Option (List (List ℕ))) → (D → Changes) → (D → ℕ) → (spelled : Bool) → (word now : CheckWord) → Block → List ℕ → Result (Unit {0}) Failed → D → D → Type 0
WritesOut gives changes moment true word now b bytes result old new = IsPutOrNot gives changes moment word now b bytes result old new
WritesOut gives changes moment false word now b bytes result old new = (now ≡ word) × IsPutAgainOrNot gives changes moment b result old new

-- What a write-out of a block did: of the body that is kept, and with the word that is known now, which is kept after a failure.
pub record IsOut {D : Type 0} (gives : D → Option (List (List ℕ))) (changes : D → Changes) (moment : D → ℕ) (f g : StoreFacts) (b : Block) (words left : List (Block × CheckWord)) (result : Result (Unit {0}) Failed) (old new : D) : Type 0 where
  pub now : CheckWord
  pub facts : g ≡ out_facts (is_spelled f b) (is_ok result) now b f
  pub kept : left ≡ out_words (is_ok result) now b words
  pub sent : (x : Body) → f.body b ≡ Some x → WritesOut gives changes moment (is_spelled f b) (word_of words b) now b x.bytes result old new
