-- What a change of a block asks, and what it does to a store.
use Rattle.std.specs.Prelude.{◌≡◌, ◌⊎◌, ℕ, ◌+◌, ◌*◌, ◌/◌, ◌<◌, ◌≤◌, Bool, true, false, List, length, Option, None, is_some, unwrap_or, Result, Ok, Err, IfSome}
use Rattle.host_base.specs.Answers.{Cause, refused, no_memory, failed}
use Rattle.device_blocks.specs.disk_model.declared.block.Block.{Block}
use Rattle.device_blocks.specs.disk_model.declared.block.Body.{Body}
use Rattle.device_blocks.specs.disk_model.Bytes.{written}
use Rattle.device_blocks.specs.disk_model.Content.{content_of}
use Rattle.device_blocks.specs.disk_model.Sectors.{sector_of, sectors, are_rivals}
use Rattle.device_blocks.specs.fixup_record.Spellings.{has_spelling}
use Rattle.txn_laws.specs.block_view.declared.fault.ViewFault.{ViewFault}
use Rattle.txn_laws.specs.block_view.declared.fault.ViewFault.TheVariants.{Fault as ViewFailed, Memory as ViewMemory}
use Rattle.txn_core.specs.declared.fault.ChangeFault.{ChangeFault}
use Rattle.txn_core.specs.declared.fault.ChangeFault.TheVariants.{Fault, Memory, Unspelled}
use Rattle.txn_laws.specs.block_pool.Pools.{with_block}
use Rattle.txn_laws.specs.store_model.Volumes.{is_known}
use Rattle.txn_laws.specs.store_claims.Windows.{StoreWindow}
use Rattle.txn_laws.specs.txn_model.Values.{StoreFacts, own_of}
use Rattle.txn_laws.specs.txn_model.Appending.{MayAppendAll}
use Rattle.txn_laws.specs.txn_model.Calls.{change_acts, changed_facts, given_up_facts}
use Rattle.txn_state.specs.States.{HasSize}
use Rattle.txn_laws.specs.Windows.{AfterChange, AfterGiveUp}
use Rattle.device_blocks.specs.declared.word.CheckWord.{CheckWord}
use Rattle.device_blocks.specs.Words.{IsToldOf, changed_word, IsFitWord}
use Rattle.txn_state.specs.store_pools.Pools.{body_of_kept}
use Rattle.txn_core.specs.Seen.{word_of}
use Rattle.txn_core.specs.declared.changing.Present.{Present}

-- why a change fails: a failure of the device, or want of memory
abbrev pub view_cause : ViewFault → Cause (Unit {0})
view_cause ViewFailed = failed
view_cause ViewMemory = no_memory

-- of a change: or a refusal of a body without a spelling
abbrev pub change_cause : ChangeFault → Cause (Unit {0})
change_cause Fault = failed
change_cause Memory = no_memory
change_cause Unspelled = refused tt

-- what a view's fault is to a change
abbrev pub change_fault : ViewFault → ChangeFault
change_fault ViewFailed = Fault
change_fault ViewMemory = Memory

-- the present body of a block: the one that is kept, or what the device gives
abbrev pub IsPresent : Option (List (List ℕ)) → StoreFacts → Block → Body → Type 0
IsPresent gives f c x = IfSome gives (λ disk. unwrap_or (f.body c) (content_of (sector_of disk) c) ≡ x)

-- What is known of the check word of a block that is changed is kept: of a body that was sent another word is next; and of a body that was read, what stands there.
pub record WordIsPut (gives : Option (List (List ℕ))) (f : StoreFacts) (c : Block) (old new : List (Block × CheckWord)) : Type 0 where
  pub word : CheckWord
  pub fit : IsFitWord word
  pub put : new ≡ with_block c word old
  pub changed : is_some (f.body c) ≡ true → word ≡ changed_word (word_of old c)
  pub read : is_some (f.body c) ≡ false → IfSome gives (IsToldOf word c)

-- The open transaction may change the block in this way: it is known, begins in the volume and lies inside the device, the bytes fit, the body after them has a spelling, no rival of the block
-- was changed by the transaction, and the log has room.
pub record MayChangeNow (gives : Option (List (List ℕ))) (f : StoreFacts) (c : Block) (at : ℕ) (new : List ℕ) : Type 0 where
  pub opened : f.is_open ≡ true
  pub known : is_known (own_of f) c ≡ true
  pub volume : c.first / 8 < f.place.clusters
  pub inside : c.first + sectors c.kind ≤ f.place.device
  pub some : 0 < length new
  pub fits : at + length new ≤ 512 * sectors c.kind
  pub spelled : (x : Body) → HasSize c x → IsPresent gives f c x → IfSome gives (λ disk. has_spelling c.kind (written at new x.bytes) ≡ true)
  pub alone : (x : Block) → are_rivals c x ≡ true → f.before x ≡ None
  pub room : (x : Body) → HasSize c x → MayAppendAll f.log f.tx f.last (change_acts f c at new x)

-- The change of the present body was made, which has a spelling then; or the transaction was given up.
abbrev pub HasChanged : Result (Unit {0}) ChangeFault → Option (List (List ℕ)) → (f g : StoreFacts) → Block → ℕ → List ℕ → Type 0
HasChanged (Ok u) gives f g c at new = (x : Body) × IsPresent gives f c x × (g ≡ changed_facts c at new x f) × (has_spelling c.kind (written at new x.bytes) ≡ true)
HasChanged (Err e) gives f g c at new = g ≡ given_up_facts f

-- and the window after either
abbrev pub AfterChanging : Result (Unit {0}) ChangeFault → Block → ℕ → List ℕ → StoreWindow → StoreWindow → Type 0
AfterChanging (Ok u) c at new = AfterChange c at new
AfterChanging (Err e) c at new = AfterGiveUp

-- why the present body wasn't changed, where the body after the change has a spelling or not
abbrev pub IsRefused : ChangeFault → Bool → Type 0
IsRefused Fault spells = ⊥
IsRefused Memory spells = Unit {0}
IsRefused Unspelled spells = spells ≡ false

-- What a change of the present body made of the state and of the words.
abbrev pub IsPut : Present → Result (Unit {0}) ChangeFault → Block → ℕ → List ℕ → (f g : StoreFacts) → (old new : List (Block × CheckWord)) → Type 0
IsPut p (Ok u) c at bytes f g old new = (g ≡ changed_facts c at bytes (body_of_kept p.body) f) × (new ≡ with_block c p.word old) × (has_spelling c.kind (written at bytes (body_of_kept p.body).bytes) ≡ true)
IsPut p (Err e) c at bytes f g old new =
    IsRefused e (has_spelling c.kind (written at bytes (body_of_kept p.body).bytes)) × (g ≡ given_up_facts f) × ((new ≡ old) ⊎ (new ≡ with_block c p.word old))

-- And where this was asked for the present body.
abbrev pub IsDone : Result Present ViewFault → Result (Unit {0}) ChangeFault → Block → ℕ → List ℕ → (f g : StoreFacts) → (old new : List (Block × CheckWord)) → Type 0
IsDone (Ok p) result c at bytes f g old new = IsPut p result c at bytes f g old new
IsDone (Err asked) (Err e) c at bytes f g old new = (e ≡ change_fault asked) × (g ≡ given_up_facts f) × (new ≡ old)
IsDone (Err asked) (Ok u) c at bytes f g old new = ⊥
