-- What a write-out does to a store's window, and what it leaves as it always is.
use Rattle.std.proofs.Common.{◌≡◌, ◌⊎◌, subst, ℕ, ◌+◌, ◌%◌, ◌^◌, ◌<◌, ◌≤◌, Bool, true, false, cond, List, Option, Some, None, Result, Ok, Err, refl, sym, ap, ◌∙◌, inl, inr, arith}
use Rattle.std.specs.Prelude.{IfSome, is_some, is_ok, unwrap_or, not, nat_lt, ◌||◌, ◌==◌}
use Rattle.host_base.specs.Causes.{last_moment}
use Rattle.host_base.specs.declared.outside.Failed.{Failed}
use Rattle.device_blocks.specs.disk_model.declared.block.Block.{Block}
use Rattle.device_blocks.specs.disk_model.declared.block.Body.{Body}
use Rattle.device_blocks.specs.disk_model.Sectors.{sector_of, sectors, raw_from, same_block, are_rivals}
use Rattle.device_blocks.specs.fixup_record.Protecting.{next_check_word}
use Rattle.device_blocks.specs.fixup_record.Spellings.{has_spelling}
use Rattle.txn_laws.specs.sector_device.Disks.{Disk, IsSized, SeesDisk, is_within}
use Rattle.txn_laws.specs.sector_device.Sectors.{IsDiskOf, sectors_of}
use Rattle.txn_laws.specs.sector_device.Moments.{moment_after, Changes}
use Rattle.device_blocks.specs.log_area.Calls.{IsAsked, sending_moment}
use Rattle.txn_laws.specs.store_model.Volumes.{sectors_from}
use Rattle.txn_laws.specs.store_claims.Windows.{StoreWindow}
use Rattle.txn_laws.specs.block_pool.Pools.{held, with_block, without_block}
use Rattle.txn_laws.proofs.block_pool.LookUps.{looks_up}
use Rattle.txn_laws.specs.txn_model.Values.{StoreFacts}
use Rattle.txn_laws.specs.txn_model.Calls.{is_ready, written_out_facts, again_facts}
use Rattle.txn_state.specs.States.{IsStore}
use Rattle.txn_laws.specs.Windows.{Simulates, AfterWrite, MovesTo}
use Rattle.txn_laws.proofs.Telling.{by_read, known_before_write}
use Rattle.txn_laws.proofs.Syncs.{and_left, and_right}
use Rattle.txn_laws.proofs.WriteOuts.{is_written_out, is_not_written_out}
use Rattle.txn_laws.proofs.Agains.{is_written_again, is_not_written_again}
use Rattle.device_blocks.specs.declared.word.CheckWord.{CheckWord}
use Rattle.device_blocks.specs.declared.word.CheckWord.TheVariants.{Unread, Missing, Stands, Sent}
use Rattle.device_blocks.specs.Words.{stood_check, next_word, known_word, IsFitWord}
use Rattle.device_blocks.specs.Calls.{IsNextOf, IsPut, PutOrAsked, IsPutAgain, IsPutAgainOrNot}
use Rattle.device_blocks.proofs.Pieces.{raw_sector}
use Rattle.txn_core.specs.Calls.{failed_out_facts, spelled_or_not, is_spelled, out_facts, out_words, WritesOut}

-- ---- windows

moves_same : (lost : Block → Bool) (w : StoreWindow) → MovesTo lost w w
moves_same lost w = record {
  is_open = refl;
  waiting = omega arith;
  present = λ b stays. refl;
  others = λ k le b stays. refl;
  claimed = record { claims = λ k b h. h; will = λ b h. h };
  shown = λ b h. refl;
  kept = λ k le b h. refl;
}

moves_after : (lost : Block → Bool) (w v : StoreWindow) → AfterWrite w v → MovesTo lost w v
moves_after lost w v after = subst (λ (u : StoreWindow). MovesTo lost w u) (sym after.same) (moves_same lost w)

loosely : (count moment : ℕ) (old now : Changes) (f g : StoreFacts) (lost : Block → Bool) → Simulates count moment old now f g AfterWrite → Simulates count moment old now f g (MovesTo lost)
loosely count moment old now f g lost step = record {
  known = step.known;
  place = step.place;
  found = step.found;
  steps = λ w has. let next = step.steps w has in (next.0, next.1, moves_after lost w next.0 next.2, next.3);
  laps = step.laps;
}

-- nothing is said of a device that isn't known
pub unseen : (count moment : ℕ) (old now : Changes) (f g : StoreFacts) (After : StoreWindow → StoreWindow → Type 0) → SeesDisk None old.disk → ((e : Disk) → now.disk ≡ Some e → (d : Disk) × (old.disk ≡ Some d))
    → g.place ≡ f.place → g.found ≡ f.found → Simulates count moment old now f g After
unseen count moment old now f g After sees known place found = record { known = known; place = place; found = found; steps = λ w has. absurd (subst (λ (o : Option Disk). SeesDisk None o) has.1 sees); laps = λ w has t image le left. absurd (subst (λ (o : Option Disk). SeesDisk None o) has.1 sees) }

asked_moves : {D : Type 0} (gives : D → Option (List (List ℕ))) (changes : D → Changes) (moment : D → ℕ) (count : ℕ) (f : StoreFacts) (lost : Block → Bool) (old new : D)
    → IsAsked gives changes moment old new → Simulates count (moment old) (changes old) (changes new) f f (MovesTo lost)
asked_moves gives changes moment count f lost old new asked = by_read count (moment old) (changes old) (changes new) f (MovesTo lost) (λ w. moves_same lost w) asked.unchanged

-- ---- check words

check_small : (n : ℕ) → next_check_word n < 2 ^ 16
check_small n = go ((n + 1) % 2 ^ 16) (omega arith)
  where
    pick : (v : Bool) (m : ℕ) → m < 2 ^ 16 → cond v 1 m < 2 ^ 16
    pick true m lt = omega arith
    pick false m lt = lt

    go : (m : ℕ) → m < 2 ^ 16 → cond ((m == 0) || (m == 0xFFFF)) 1 m < 2 ^ 16
    go m lt = pick ((m == 0) || (m == 0xFFFF)) m lt

next_small : (o : Option ℕ) → next_word o < 2 ^ 16
next_small None = omega arith
next_small (Some check) = check_small check

-- the word of a body that was sent has 16 bits, where the device is known
word_small : (word : CheckWord) (gives : Option (List (List ℕ))) (b : Block) (check : ℕ) → IsFitWord word → IsNextOf word gives b check → (check < 2 ^ 16) ⊎ (gives ≡ None)
word_small Unread None b check fit next = inr refl
word_small Unread (Some disk) b check fit next = inl (subst (λ (n : ℕ). n < 2 ^ 16) (sym (next.read refl)) (next_small (stood_check b.kind (raw_from (sector_of disk) b.first (sectors b.kind)))))
word_small Missing gives b check fit next = let e : check ≡ 1 = next.kept in inl (omega (arith, e))
word_small (Stands word) gives b check fit next = inl (subst (λ (n : ℕ). n < 2 ^ 16) (sym next.kept) (check_small word))
word_small (Sent word) gives b check fit next = let e : check ≡ word = next.kept in let top : word < 0xFFFF = fit.1 in inl (omega (arith, e, top))

sends_later : (known : Option ℕ) (moment : ℕ) → moment ≤ sending_moment known moment
sends_later None moment = pick (nat_lt moment last_moment)
  where
    pick : (v : Bool) → moment ≤ cond v (moment + 2) moment
    pick true = omega arith
    pick false = omega arith
sends_later (Some check) moment = omega arith

after_later : (moment : ℕ) → moment ≤ moment_after moment
after_later moment = sends_later None moment

-- ---- a block that is ready

pub ready_dirty : (f : StoreFacts) (b : Block) → is_ready f b ≡ true → (f.mark b).dirty ≡ true
ready_dirty f b ready = and_left _ _ (and_left _ _ (and_left _ _ ready))

not_some : {X : Type 0} (o : Option X) → not (is_some o) ≡ true → o ≡ None
not_some None is = refl
not_some (Some x) is = absurd cc

pub ready_free : (f : StoreFacts) (b : Block) → is_ready f b ≡ true → f.before b ≡ None
ready_free f b ready = not_some (f.before b) (and_right _ _ (and_left _ _ (and_left _ _ ready)))

pub ready_kept : (f : StoreFacts) (b : Block) → IsStore f → is_ready f b ≡ true → is_some (f.body b) ≡ true
ready_kept f b store ready = store.blocks.kept b ∙ ap (λ (v : Bool). v || (f.mark b).dead) (ready_dirty f b ready)

pub ready_inside : (f : StoreFacts) (b : Block) (count : ℕ) → IsStore f → is_ready f b ≡ true → f.place.device ≤ count → b.first + sectors b.kind ≤ count
ready_inside f b count store ready le = let inside = store.blocks.inside b (ready_kept f b store ready) in omega (arith, inside, le)

some_of : {X : Type 0} (o : Option X) → is_some o ≡ true → (x : X) × (o ≡ Some x)
some_of None is = absurd cc
some_of (Some x) is = (x, refl)

-- ---- the steps

abbrev went_well : Result (Unit {0}) Failed
went_well = Ok tt

abbrev failing : Failed → Result (Unit {0}) Failed
failing fault = Err fault

sent_whole : {D : Type 0} (gives : D → Option (List (List ℕ))) (changes : D → Changes) (moment : D → ℕ) (count : ℕ) (f : StoreFacts) (b : Block) (x : Body) (word : CheckWord) (check : ℕ) (old new : D)
    → f.body b ≡ Some x → is_ready f b ≡ true → has_spelling b.kind x.bytes ≡ true → SeesDisk (gives old) (changes old).disk → IfSome (changes new).disk IsSized → IsFitWord word
    → IsPut gives changes moment word b x.bytes check went_well old new → Simulates count (moment old) (changes old) (changes new) f (written_out_facts b f) (MovesTo (are_rivals b))
sent_whole gives changes moment count f b x word check old new kept ready spells sees sized fit put =
    by_word (word_small word (gives old) b check fit put.chosen)
  where
    by_word : (check < 2 ^ 16) ⊎ (gives old ≡ None) → Simulates count (moment old) (changes old) (changes new) f (written_out_facts b f) (MovesTo (are_rivals b))
    by_word (inl small) = is_written_out gives changes moment count (sending_moment (known_word word) (moment old)) check f b x old new kept ready spells small sized (sends_later (known_word word) (moment old)) put.sends
    by_word (inr none) = unseen count (moment old) (changes old) (changes new) f (written_out_facts b f) (MovesTo (are_rivals b)) (subst (λ (o : Option (List (List ℕ))). SeesDisk o (changes old).disk) none sees)
        (known_before_write _ _ _ _ (changes old) (changes new) put.sends.writes) refl refl

sent_badly : {D : Type 0} (gives : D → Option (List (List ℕ))) (changes : D → Changes) (moment : D → ℕ) (count : ℕ) (f : StoreFacts) (b : Block) (x : Body) (word now : CheckWord) (fault : Failed) (old new : D)
    → f.body b ≡ Some x → is_ready f b ≡ true → has_spelling b.kind x.bytes ≡ true → IfSome (changes new).disk IsSized
    → PutOrAsked gives changes moment word b x.bytes (failing fault) old new now → Simulates count (moment old) (changes old) (changes new) f (failed_out_facts now b f) (MovesTo (are_rivals b))
sent_badly gives changes moment count f b x word (Sent check) fault old new kept ready spells sized put =
    is_not_written_out gives changes moment count (sending_moment (known_word word) (moment old)) check f b x old new kept ready spells sized (sends_later (known_word word) (moment old)) fault put.sends
sent_badly gives changes moment count f b x word Unread fault old new kept ready spells sized asked = asked_moves gives changes moment count f (are_rivals b) old new asked.1
sent_badly gives changes moment count f b x word Missing fault old new kept ready spells sized none = absurd none
sent_badly gives changes moment count f b x word (Stands check) fault old new kept ready spells sized none = absurd none

-- the sectors that were read are those of the disk
same_sectors : (first n count : ℕ) (bytes : List ℕ) (gives : Option (List (List ℕ))) → IfSome gives (IsDiskOf count) → IfSome gives (λ disk. bytes ≡ raw_from (sector_of disk) first n)
    → (s : ℕ) → is_within first n s ≡ true → IfSome gives (λ disk. sectors_from first (sectors_of bytes) s ≡ sector_of disk s)
same_sectors first n count bytes None whole same s within = tt
same_sectors first n count bytes (Some disk) whole same s within = ap (λ (x : List ℕ). sectors_from first (sectors_of x) s) same ∙ raw_sector (sector_of disk) first n s whole.whole within

again_step : {D : Type 0} (gives : D → Option (List (List ℕ))) (changes : D → Changes) (moment : D → ℕ) (count sectors_there : ℕ) (f : StoreFacts) (b : Block) (x : Body) (result : Result (Unit {0}) Failed) (old new : D)
    → f.body b ≡ Some x → is_ready f b ≡ true → has_spelling b.kind x.bytes ≡ false → SeesDisk (gives old) (changes old).disk → IfSome (changes new).disk IsSized → IfSome (gives old) (IsDiskOf sectors_there)
    → IsPutAgainOrNot gives changes moment b result old new → Simulates count (moment old) (changes old) (changes new) f (out_facts false (is_ok result) Unread b f) (MovesTo (are_rivals b))
again_step gives changes moment count n f b x (Ok tt) old new kept ready bare sees sized whole put =
    let bytes = put.ok.0 in
    let again = put.ok.1 in
    loosely count (moment old) (changes old) (changes new) f (again_facts b f) (are_rivals b)
    (is_written_again _ _ _ count (moment_after (moment old)) f b x bytes old new kept (ready_dirty f b ready) (ap (λ (o : Option Body). is_some o) (ready_free f b ready)) bare again.size sees
    (same_sectors b.first (sectors b.kind) n bytes (gives old) whole again.same) sized (after_later (moment old)) again.sends)
again_step gives changes moment count n f b x (Err fault) old new kept ready bare sees sized whole put = by_call put.failed
  where
    by_call : IsAsked gives changes moment old new ⊎ ((bytes : List ℕ) × IsPutAgain gives changes moment b bytes (failing fault) old new) → Simulates count (moment old) (changes old) (changes new) f f (MovesTo (are_rivals b))
    by_call (inl asked) = asked_moves gives changes moment count f (are_rivals b) old new asked
    by_call (inr put) =
        loosely count (moment old) (changes old) (changes new) f f (are_rivals b)
        (is_not_written_again _ _ _ count (moment_after (moment old)) f b x put.0 old new kept (ready_dirty f b ready) (ap (λ (o : Option Body). is_some o) (ready_free f b ready)) bare put.1.size sees
        (same_sectors b.first (sectors b.kind) n put.0 (gives old) whole put.1.same) sized (after_later (moment old)) fault put.1.sends)

same_again : (ok : Bool) (word now : CheckWord) (b : Block) (f : StoreFacts) → out_facts false ok word b f ≡ out_facts false ok now b f
same_again true word now b f = refl
same_again false word now b f = refl

-- the step of a write-out, of a body that has a spelling or not
out_by : {D : Type 0} (gives : D → Option (List (List ℕ))) (changes : D → Changes) (moment : D → ℕ) (count n : ℕ) (f : StoreFacts) (b : Block) (x : Body) (spells : Bool) (word now : CheckWord) (result : Result (Unit {0}) Failed) (old new : D)
    → f.body b ≡ Some x → is_ready f b ≡ true → has_spelling b.kind x.bytes ≡ spells → SeesDisk (gives old) (changes old).disk → IfSome (changes new).disk IsSized → IfSome (gives old) (IsDiskOf n) → IsFitWord word
    → WritesOut gives changes moment spells word now b x.bytes result old new → Simulates count (moment old) (changes old) (changes new) f (out_facts spells (is_ok result) now b f) (MovesTo (are_rivals b))
out_by gives changes moment count n f b x true word now (Ok tt) old new kept ready spells sees sized whole fit put =
    sent_whole gives changes moment count f b x word put.ok.0 old new kept ready spells sees sized fit put.ok.1.put
out_by gives changes moment count n f b x true word now (Err fault) old new kept ready spells sees sized whole fit put = sent_badly gives changes moment count f b x word now fault old new kept ready spells sized put.failed
out_by gives changes moment count n f b x false word now result old new kept ready spells sees sized whole fit put =
    subst (λ (g : StoreFacts). Simulates count (moment old) (changes old) (changes new) f g (MovesTo (are_rivals b))) (same_again (is_ok result) Unread now b f)
    (again_step gives changes moment count n f b x result old new kept ready spells sees sized whole put.1)

pub out_step : {D : Type 0} (gives : D → Option (List (List ℕ))) (changes : D → Changes) (moment : D → ℕ) (count n : ℕ) (f : StoreFacts) (b : Block) (spells : Bool) (word now : CheckWord) (result : Result (Unit {0}) Failed) (old new : D)
    → IsStore f → is_ready f b ≡ true → spells ≡ is_spelled f b → SeesDisk (gives old) (changes old).disk → IfSome (changes new).disk IsSized → IfSome (gives old) (IsDiskOf n) → IsFitWord word
    → ((x : Body) → f.body b ≡ Some x → WritesOut gives changes moment spells word now b x.bytes result old new) → Simulates count (moment old) (changes old) (changes new) f (out_facts spells (is_ok result) now b f) (MovesTo (are_rivals b))
out_step gives changes moment count n f b spells word now result old new store ready told sees sized whole fit put =
    let kept = some_of (f.body b) (ready_kept f b store ready) in
    out_by gives changes moment count n f b kept.0 spells word now result old new kept.1 ready (sym (told ∙ ap (spelled_or_not b) kept.1)) sees sized whole fit (put kept.0 kept.1)

-- ---- what is always so

gone_or_kept : (v : Bool) (o : Option Body) → is_some (cond v None o) ≡ true → is_some o ≡ true
gone_or_kept true o is = absurd cc
gone_or_kept false o is = is

-- a body that stays is one of before, and not that of the block once this was written
stays : (spells ok : Bool) (now : CheckWord) (b c : Block) (f : StoreFacts) → is_some ((out_facts spells ok now b f).body c) ≡ true → is_some (f.body c) ≡ true
stays true true now b c f is = gone_or_kept (same_block c b || are_rivals b c) (f.body c) is
stays true false (Sent check) b c f is = gone_or_kept (are_rivals b c) (f.body c) is
stays true false Unread b c f is = is
stays true false Missing b c f is = is
stays true false (Stands check) b c f is = is
stays false true now b c f is = gone_or_kept (same_block c b) (f.body c) is
stays false false now b c f is = is

other_one : (spells : Bool) (now : CheckWord) (b c : Block) (f : StoreFacts) → is_some ((out_facts spells true now b f).body c) ≡ true → same_block c b ≡ false
other_one true now b c f is = by_test (same_block c b) (are_rivals b c) (f.body c) is
  where
    by_test : (v r : Bool) (o : Option Body) → is_some (cond (v || r) None o) ≡ true → v ≡ false
    by_test true r o is = absurd cc
    by_test false r o is = refl
other_one false now b c f is = by_test (same_block c b) (f.body c) is
  where
    by_test : (v : Bool) (o : Option Body) → is_some (cond v None o) ≡ true → v ≡ false
    by_test true o is = absurd cc
    by_test false o is = refl

pub held_put : (now : CheckWord) (b c : Block) (words : List (Block × CheckWord)) → held (with_block b now words) c ≡ cond (same_block c b) (Some now) (held words c)
held_put now b c words = ap (λ (h : Block → Option CheckWord). h c) ((looks_up CheckWord).with b now words)

held_taken : (b c : Block) (words : List (Block × CheckWord)) → held (without_block b words) c ≡ cond (same_block c b) None (held words c)
held_taken b c words = ap (λ (h : Block → Option CheckWord). h c) ((looks_up CheckWord).without b words)

pub out_worded : (spells ok : Bool) (now : CheckWord) (b : Block) (f : StoreFacts) (words : List (Block × CheckWord)) → ((c : Block) → is_some (f.body c) ≡ true → is_some (held words c) ≡ true)
    → (c : Block) → is_some ((out_facts spells ok now b f).body c) ≡ true → is_some (held (out_words ok now b words) c) ≡ true
out_worded spells true now b f words worded c is =
    ap (λ (o : Option CheckWord). is_some o) (held_taken b c words ∙ ap (λ (v : Bool). cond v None (held words c)) (other_one spells now b c f is)) ∙ worded c (stays spells true now b c f is)
out_worded spells false now b f words worded c is =
    ap (λ (o : Option CheckWord). is_some o) (held_put now b c words) ∙ either (same_block c b) (held words c) (worded c (stays spells false now b c f is))
  where
    either : (v : Bool) (o : Option CheckWord) → is_some o ≡ true → is_some (cond v (Some now) o) ≡ true
    either true o is = refl
    either false o is = is

pub out_fit : (ok : Bool) (now : CheckWord) (b : Block) (words : List (Block × CheckWord)) → IsFitWord now → ((c : Block) → IfSome (held words c) IsFitWord) → (c : Block) → IfSome (held (out_words ok now b words) c) IsFitWord
out_fit true now b words here fit c = subst (λ (o : Option CheckWord). IfSome o IsFitWord) (sym (held_taken b c words)) (by_test (same_block c b) (held words c) (fit c))
  where
    by_test : (v : Bool) (o : Option CheckWord) → IfSome o IsFitWord → IfSome (cond v None o) IsFitWord
    by_test true o is = tt
    by_test false o is = is
out_fit false now b words here fit c = subst (λ (o : Option CheckWord). IfSome o IsFitWord) (sym (held_put now b c words)) (by_test (same_block c b) (held words c) (fit c))
  where
    by_test : (v : Bool) (o : Option CheckWord) → IfSome o IsFitWord → IfSome (cond v (Some now) o) IsFitWord
    by_test true o is = here
    by_test false o is = is

pub word_fit : (words : List (Block × CheckWord)) (b : Block) → ((c : Block) → IfSome (held words c) IsFitWord) → IsFitWord (unwrap_or (held words b) Unread)
word_fit words b fit = by_word (held words b) (fit b)
  where
    by_word : (o : Option CheckWord) → IfSome o IsFitWord → IsFitWord (unwrap_or o Unread)
    by_word None is = tt
    by_word (Some word) is = is
