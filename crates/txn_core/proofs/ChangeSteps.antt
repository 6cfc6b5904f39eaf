-- What a change of a block does to a store's window, and what it leaves as it always is.
use Rattle.std.proofs.Common.{◌≡◌, ◌⊎◌, subst, ℕ, Bool, true, false, cond, List, Option, Some, None, Result, Ok, Err, refl, sym, ap, ◌∙◌, inl, inr}
use Rattle.std.specs.Prelude.{IfSome, IfOk, IfErr, OnOk, is_some}
use Rattle.device_blocks.specs.disk_model.declared.block.Block.{Block}
use Rattle.device_blocks.specs.disk_model.declared.block.Body.{Body}
use Rattle.device_blocks.specs.disk_model.Sectors.{same_block}
use Rattle.device_blocks.specs.disk_model.Bytes.{written}
use Rattle.device_blocks.specs.fixup_record.Spellings.{has_spelling}
use Rattle.txn_laws.specs.sector_device.Disks.{SeesDisk}
use Rattle.txn_laws.specs.sector_device.Moments.{Changes}
use Rattle.txn_laws.specs.log_model.Logs.{is_in_grid}
use Rattle.txn_laws.specs.store_model.Volumes.{is_free}
use Rattle.txn_laws.specs.block_view.declared.fault.ViewFault.{ViewFault}
use Rattle.txn_laws.specs.block_view.declared.fault.ViewFault.TheVariants.{Fault as ViewFailed, Memory as ViewMemory}
use Rattle.txn_core.specs.declared.fault.ChangeFault.{ChangeFault}
use Rattle.txn_core.specs.declared.fault.ChangeFault.TheVariants.{Fault, Memory, Unspelled}
use Rattle.txn_laws.specs.block_pool.Pools.{held, with_block}
use Rattle.txn_state.specs.store_pools.Pools.{body_of_kept}
use Rattle.txn_laws.specs.txn_model.Values.{StoreFacts, own_of}
use Rattle.txn_laws.specs.txn_model.Calls.{changed_facts, given_up_facts}
use Rattle.txn_state.specs.States.{HasSize, IsStore, MayChange}
use Rattle.txn_laws.specs.Windows.{Simulates, AfterChange}
use Rattle.txn_laws.proofs.Changes.{changes_in_memory}
use Rattle.txn_laws.proofs.Syncs.{and_left}
use Rattle.device_blocks.specs.device_view.Devices.{CountsCauseOnDevice, CountsOnDevice}
use Rattle.device_blocks.specs.declared.word.CheckWord.{CheckWord}
use Rattle.device_blocks.specs.Words.{IsToldOf, changed_word, IsFitWord}
use Rattle.txn_core.specs.declared.changing.Present.{Present}
use Rattle.txn_core.specs.Changes.{view_cause, change_cause, change_fault, IsRefused, IsPresent, WordIsPut, MayChangeNow, HasChanged, AfterChanging, IsDone}
use Rattle.txn_core.specs.Seen.{word_of}
use Rattle.txn_core.proofs.Calling.{give_up_step}
use Rattle.txn_core.proofs.Keeping.{given_up_worded}
use Rattle.txn_core.proofs.Outs.{unseen, held_put}

-- what the present body is, where it was found
abbrev pub IsFound : Option (List (List ℕ)) → StoreFacts → Block → List (Block × CheckWord) → Present → Type 0
IsFound gives f c words p =
    IsPresent gives f c (body_of_kept p.body) × HasSize c (body_of_kept p.body) × IsFitWord p.word × (is_some (f.body c) ≡ true → p.word ≡ changed_word (word_of words c)) × (is_some (f.body c) ≡ false → IfSome gives (IsToldOf p.word c))

-- ---- the state's condition

pub may_change : (gives : Option (List (List ℕ))) (f : StoreFacts) (c : Block) (at : ℕ) (new : List ℕ) (x : Body) → MayChangeNow gives f c at new → HasSize c x → MayChange f c at new x
may_change gives f c at new x may size = record {
  opened = may.opened;
  grid = and_left (is_in_grid c) (is_free (own_of f) c) may.known;
  inside = may.inside;
  some = may.some;
  fits = may.fits;
  sized = size;
  alone = may.alone;
  room = may.room x size;
}

-- ---- the step

change_step : (count moment : ℕ) (changes : Changes) (gives : Option (List (List ℕ))) (f : StoreFacts) (c : Block) (at : ℕ) (new : List ℕ) (x : Body) → MayChangeNow gives f c at new → HasSize c x → IsPresent gives f c x → has_spelling c.kind (written at new x.bytes) ≡ true
    → SeesDisk gives changes.disk → Simulates count moment changes changes f (changed_facts c at new x f) (AfterChange c at new)
change_step count moment changes None f c at new x may size present spells sees = unseen count moment changes changes f (changed_facts c at new x f) (AfterChange c at new) sees (λ e is. (e, is)) refl refl
change_step count moment changes (Some disk) f c at new x may size present spells sees =
    changes_in_memory count moment changes f c at new x (Some disk)
    (record { opened = may.opened; known = may.known; volume = may.volume; some = may.some; fits = may.fits; spelled = spells; alone = may.alone; room = may.room x size }) sees present

moved : (count moment : ℕ) (old now : Changes) (f g h : StoreFacts) (result : Result (Unit {0}) ChangeFault) (c : Block) (at : ℕ) (new : List ℕ) → now ≡ old → g ≡ h → Simulates count moment old old f h (AfterChanging result c at new)
    → Simulates count moment old now f g (AfterChanging result c at new)
moved count moment old now f g h result c at new same is step =
    subst (λ (n : Changes). Simulates count moment old n f g (AfterChanging result c at new)) (sym same) (subst (λ (k : StoreFacts). Simulates count moment old old f k (AfterChanging result c at new)) (sym is) step)

pub changing_step : (count moment : ℕ) (old now : Changes) (gives : Option (List (List ℕ))) (f g : StoreFacts) (c : Block) (at : ℕ) (new : List ℕ) (words left : List (Block × CheckWord)) (asked : Result Present ViewFault) (result : Result (Unit {0}) ChangeFault)
    → now ≡ old → MayChangeNow gives f c at new → SeesDisk gives old.disk → IfOk asked (IsFound gives f c words) → IsDone asked result c at new f g words left → Simulates count moment old now f g (AfterChanging result c at new)
changing_step count moment old now gives f g c at new words left (Ok p) (Ok tt) same may sees found done =
    moved count moment old now f g (changed_facts c at new (body_of_kept p.body) f) (Ok tt) c at new same done.0 (change_step count moment old gives f c at new (body_of_kept p.body) may found.1 found.0 done.2 sees)
changing_step count moment old now gives f g c at new words left (Ok p) (Err why) same may sees found done = moved count moment old now f g (given_up_facts f) (Err why) c at new same done.1 (give_up_step count moment old f may.opened)
changing_step count moment old now gives f g c at new words left (Err e) (Err why) same may sees found done = moved count moment old now f g (given_up_facts f) (Err why) c at new same done.1 (give_up_step count moment old f may.opened)
changing_step count moment old now gives f g c at new words left (Err e) (Ok tt) same may sees found done = absurd done

-- ---- what contracts see

pub has_changed : (gives : Option (List (List ℕ))) (f g : StoreFacts) (c : Block) (at : ℕ) (new : List ℕ) (words left : List (Block × CheckWord)) (asked : Result Present ViewFault) (result : Result (Unit {0}) ChangeFault)
    → IfOk asked (IsFound gives f c words) → IsDone asked result c at new f g words left → HasChanged result gives f g c at new
has_changed gives f g c at new words left (Ok p) (Ok tt) found done = (body_of_kept p.body, found.0, done.0, done.2)
has_changed gives f g c at new words left (Ok p) (Err why) found done = done.1
has_changed gives f g c at new words left (Err e) (Err why) found done = done.1
has_changed gives f g c at new words left (Err e) (Ok tt) found done = absurd done

pub word_is_put : (gives : Option (List (List ℕ))) (f g : StoreFacts) (c : Block) (at : ℕ) (new : List ℕ) (words left : List (Block × CheckWord)) (asked : Result Present ViewFault) (result : Result (Unit {0}) ChangeFault)
    → IfOk asked (IsFound gives f c words) → IsDone asked result c at new f g words left → OnOk result (WordIsPut gives f c words left)
word_is_put gives f g c at new words left (Ok p) (Ok tt) found done = record { word = p.word; fit = found.2; put = done.1; changed = found.3; read = found.4 }
word_is_put gives f g c at new words left (Ok p) (Err why) found done = tt
word_is_put gives f g c at new words left (Err e) (Err why) found done = tt
word_is_put gives f g c at new words left (Err e) (Ok tt) found done = absurd done

same_cause : (before now moment : ℕ) (asked : ViewFault) → CountsCauseOnDevice before now moment (view_cause asked) → CountsCauseOnDevice before now moment (change_cause (change_fault asked))
same_cause before now moment ViewFailed cause = cause
same_cause before now moment ViewMemory cause = cause

refused_cause : (before now moment : ℕ) (e : ChangeFault) (spells : Bool) → IsRefused e spells → now ≡ before → CountsCauseOnDevice before now moment (change_cause e)
refused_cause before now moment Fault spells is same = absurd is
refused_cause before now moment Memory spells is same = same
refused_cause before now moment Unspelled spells is same = same

pub changing_cause : (before now moment : ℕ) (f g : StoreFacts) (c : Block) (at : ℕ) (new : List ℕ) (words left : List (Block × CheckWord)) (asked : Result Present ViewFault) (result : Result (Unit {0}) ChangeFault)
    → IsDone asked result c at new f g words left → CountsOnDevice view_cause before now moment asked → CountsOnDevice change_cause before now moment result
changing_cause before now moment f g c at new words left (Ok p) (Ok tt) done cause = cause
changing_cause before now moment f g c at new words left (Ok p) (Err e) done cause = refused_cause before now moment e (has_spelling c.kind (written at new (body_of_kept p.body).bytes)) done.0 cause
changing_cause before now moment f g c at new words left (Err asked) (Err e) done cause = subst (λ (x : ChangeFault). CountsCauseOnDevice before now moment (change_cause x)) (sym done.0) (same_cause before now moment asked cause)
changing_cause before now moment f g c at new words left (Err asked) (Ok tt) done cause = absurd done

-- a body without a spelling isn't seen where the content is known
never_unspelled : (gives : Option (List (List ℕ))) (f : StoreFacts) (c : Block) (at : ℕ) (new : List ℕ) (x : Body) → MayChangeNow gives f c at new → HasSize c x → IsPresent gives f c x → has_spelling c.kind (written at new x.bytes) ≡ false → gives ≡ None
never_unspelled None f c at new x may size present bare = refl
never_unspelled (Some disk) f c at new x may size present bare = absurd (let spells = may.spelled x size present in cc)

not_view : (asked : ViewFault) → change_fault asked ≡ Unspelled → ⊥
not_view ViewFailed e = cc
not_view ViewMemory e = cc

pub unspelled_unknown : (gives : Option (List (List ℕ))) (f g : StoreFacts) (c : Block) (at : ℕ) (new : List ℕ) (words left : List (Block × CheckWord)) (asked : Result Present ViewFault) (result : Result (Unit {0}) ChangeFault)
    → MayChangeNow gives f c at new → IfOk asked (IsFound gives f c words) → IsDone asked result c at new f g words left → IfErr result (λ e. e ≡ Unspelled → gives ≡ None)
unspelled_unknown gives f g c at new words left (Ok p) (Ok tt) may found done = tt
unspelled_unknown gives f g c at new words left (Ok p) (Err e) may found done = λ is. never_unspelled gives f c at new (body_of_kept p.body) may found.1 found.0 (bare e is done.0)
  where
    bare : (x : ChangeFault) → x ≡ Unspelled → IsRefused x (has_spelling c.kind (written at new (body_of_kept p.body).bytes)) → has_spelling c.kind (written at new (body_of_kept p.body).bytes) ≡ false
    bare Fault is never = absurd never
    bare Memory is none = absurd cc
    bare Unspelled is there = there
unspelled_unknown gives f g c at new words left (Err asked) (Err e) may found done = λ is. absurd (not_view asked (sym done.0 ∙ is))
unspelled_unknown gives f g c at new words left (Err asked) (Ok tt) may found done = tt

-- ---- what is always so

held_is : (left words : List (Block × CheckWord)) (c b : Block) (word : CheckWord) → left ≡ with_block c word words → held left b ≡ cond (same_block b c) (Some word) (held words b)
held_is left words c b word is = ap (λ (ws : List (Block × CheckWord)). held ws b) is ∙ held_put word c b words

some_more : (v : Bool) (word : CheckWord) (o : Option CheckWord) → is_some o ≡ true → is_some (cond v (Some word) o) ≡ true
some_more true word o is = refl
some_more false word o is = is

left_worded : (words left : List (Block × CheckWord)) (c : Block) (word : CheckWord) → (left ≡ words) ⊎ (left ≡ with_block c word words) → (b : Block) → is_some (held words b) ≡ true → is_some (held left b) ≡ true
left_worded words left c word (inl is) b has = ap (λ (ws : List (Block × CheckWord)). is_some (held ws b)) is ∙ has
left_worded words left c word (inr is) b has = ap (λ (o : Option CheckWord). is_some o) (held_is left words c b word is) ∙ some_more (same_block b c) word (held words b) has

by_both : (v : Bool) (x : Body) (word : CheckWord) (o : Option Body) (p : Option CheckWord) → (is_some o ≡ true → is_some p ≡ true) → is_some (cond v (Some x) o) ≡ true → is_some (cond v (Some word) p) ≡ true
by_both true x word o p has is = refl
by_both false x word o p has is = has is

pub changing_worded : (f g : StoreFacts) (c : Block) (at : ℕ) (new : List ℕ) (words left : List (Block × CheckWord)) (asked : Result Present ViewFault) (result : Result (Unit {0}) ChangeFault)
    → IsStore f → IsDone asked result c at new f g words left → ((b : Block) → is_some (f.body b) ≡ true → is_some (held words b) ≡ true) → (b : Block) → is_some (g.body b) ≡ true → is_some (held left b) ≡ true
changing_worded f g c at new words left (Ok p) (Ok tt) store done worded b is =
    ap (λ (o : Option CheckWord). is_some o) (held_is left words c b p.word done.1)
    ∙ by_both (same_block b c) _ p.word (f.body b) (held words b) (worded b) (ap (λ (h : StoreFacts). is_some (h.body b)) (sym done.0) ∙ is)
changing_worded f g c at new words left (Ok p) (Err why) store done worded b is =
    left_worded words left c p.word done.2 b (given_up_worded f words store worded b (ap (λ (h : StoreFacts). is_some (h.body b)) (sym done.1) ∙ is))
changing_worded f g c at new words left (Err e) (Err why) store done worded b is =
    ap (λ (ws : List (Block × CheckWord)). is_some (held ws b)) done.2 ∙ given_up_worded f words store worded b (ap (λ (h : StoreFacts). is_some (h.body b)) (sym done.1) ∙ is)
changing_worded f g c at new words left (Err e) (Ok tt) store done worded b is = absurd done

put_fit : (words left : List (Block × CheckWord)) (c b : Block) (word : CheckWord) → left ≡ with_block c word words → IsFitWord word → IfSome (held words b) IsFitWord → IfSome (held left b) IsFitWord
put_fit words left c b word is here fit = subst (λ (o : Option CheckWord). IfSome o IsFitWord) (sym (held_is left words c b word is)) (by_test (same_block b c) (held words b) fit)
  where
    by_test : (v : Bool) (o : Option CheckWord) → IfSome o IsFitWord → IfSome (cond v (Some word) o) IsFitWord
    by_test true o is = here
    by_test false o is = is

pub changing_fit : (gives : Option (List (List ℕ))) (f g : StoreFacts) (c : Block) (at : ℕ) (new : List ℕ) (words left : List (Block × CheckWord)) (asked : Result Present ViewFault) (result : Result (Unit {0}) ChangeFault)
    → IfOk asked (IsFound gives f c words) → IsDone asked result c at new f g words left → ((b : Block) → IfSome (held words b) IsFitWord) → (b : Block) → IfSome (held left b) IsFitWord
changing_fit gives f g c at new words left (Ok p) (Ok tt) found done fit b = put_fit words left c b p.word done.1 found.2 (fit b)
changing_fit gives f g c at new words left (Ok p) (Err why) found done fit b = by_left done.2
  where
    by_left : (left ≡ words) ⊎ (left ≡ with_block c p.word words) → IfSome (held left b) IsFitWord
    by_left (inl is) = subst (λ (ws : List (Block × CheckWord)). IfSome (held ws b) IsFitWord) (sym is) (fit b)
    by_left (inr is) = put_fit words left c b p.word is found.2 (fit b)
changing_fit gives f g c at new words left (Err e) (Err why) found done fit b = subst (λ (ws : List (Block × CheckWord)). IfSome (held ws b) IsFitWord) (sym done.2) (fit b)
changing_fit gives f g c at new words left (Err e) (Ok tt) found done fit b = absurd done

pub is_found : (gives : Option (List (List ℕ))) (f : StoreFacts) (c : Block) (words : List (Block × CheckWord)) (asked : Result Present ViewFault) → IfOk asked (λ p. IsPresent gives f c (body_of_kept p.body)) → IfOk asked (λ p. HasSize c (body_of_kept p.body))
    → IfOk asked (λ p. IsFitWord p.word) → IfOk asked (λ p. is_some (f.body c) ≡ true → p.word ≡ changed_word (word_of words c)) → IfOk asked (λ p. is_some (f.body c) ≡ false → IfSome gives (IsToldOf p.word c)) → IfOk asked (IsFound gives f c words)
is_found gives f c words (Ok p) present size fit changed read = (present, size, fit, changed, read)
is_found gives f c words (Err e) present size fit changed read = tt

pub may_asked : (gives : Option (List (List ℕ))) (f : StoreFacts) (c : Block) (at : ℕ) (new : List ℕ) (asked : Result Present ViewFault) → MayChangeNow gives f c at new → IfOk asked (λ p. HasSize c (body_of_kept p.body))
    → IfOk asked (λ p. MayChange f c at new (body_of_kept p.body))
may_asked gives f c at new (Ok p) may size = may_change gives f c at new (body_of_kept p.body) may size
may_asked gives f c at new (Err e) may size = tt
