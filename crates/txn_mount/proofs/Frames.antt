-- What is read of a log hangs on the pages of its ring alone.
use Rattle.std.proofs.Common.{◌≡◌, subst, ℕ, zero, suc, ◌+◌, ◌-◌, ◌<◌, ◌≤◌, Bool, true, false, List, [], ◌∷◌, Option, Some, None, Ok, refl, sym, ap, ap₂, ◌∙◌, arith}
use Rattle.std.specs.Prelude.{if◌then◌else◌, ◌||◌, ◌==◌, find}
use Rattle.std.specs.Option.{option_map}
use Rattle.std.proofs.lemmas.Bool.{leb-true, ltb-true}
use Rattle.disk_model.proofs.Frames.{same_block-is}
use Rattle.store_model.proofs.Told.{true≢false, same_self}
use Rattle.log_recovery.specs.Writing.{updates_such, first_update}
use Rattle.host_base.specs.Answers.{◌>>=◌, needs}
use Rattle.disk_model.specs.declared.block.Block.{Block}
use Rattle.disk_model.specs.Content.{Content}
use Rattle.log_model.specs.declared.entry.Entry.{Entry}
use Rattle.log_model.specs.declared.entry.Act.{Act}
use Rattle.log_model.specs.declared.entry.Act.TheVariants.{Update, Commit}
use Rattle.log_model.specs.Logs.{updates, block_of_kind, is_partial, updates_partial, first_partial}
use Rattle.txn_core.specs.log_page.declared.places.LogPlace.{LogPlace}
use Rattle.txn_core.specs.log_page.declared.restart.Restart.{Restart}
use Rattle.txn_core.specs.log_page.Places.{entries_at, page_lsn, page_after, lap_after, lap_of, page_of, is_in_ring, first_page}
use Rattle.txn_core.specs.log_page.RecordPages.{Reading, no_reading, page_reading, is_whole_page}
use Rattle.txn_core.specs.log_page.LiveLogs.{followed_by, log_from, live_log, start_in_page}
use Rattle.txn_core.specs.log_page.Restarts.{is_clean}
use Rattle.log_recovery.specs.log_reading.declared.fault.LogRefusal.TheVariants.{ForeignLog}
use Rattle.log_recovery.specs.log_reading.LogPages.{page_in}
use Rattle.log_recovery.specs.LogStates.{own_entries, entries_by, live_entries_in}
use Rattle.store_model.specs.Logs.{has_update}
use Rattle.txn_core.proofs.txn_laws.Syncs.{and_left, and_right}

-- pages alike in the ring
abbrev AlikeInRing : ℕ → (f g : ℕ → List ℕ) → Type 0
AlikeInRing pages f g = (k : ℕ) → first_page ≤ k → k < pages → f k ≡ g k

after_in_ring : (pages page : ℕ) → first_page < pages → page < pages → first_page ≤ page → (first_page ≤ page_after pages page) × (page_after pages page < pages)
after_in_ring pages page some lt le = go (page + 1 == pages) refl
  where
    go : (v : Bool) → (page + 1 == pages) ≡ v → (first_page ≤ (if v then first_page else page + 1)) × ((if v then first_page else page + 1) < pages)
    go true is = (omega arith, omega (arith, some))
    go false is = (omega (arith, le), not_end is)
      where
        not_end : (page + 1 == pages) ≡ false → page + 1 < pages
        not_end isnt = grind (arith, lt)

rounds_alike : (most pages : ℕ) (f g : ℕ → List ℕ) (lap page at : ℕ) → first_page < pages → first_page ≤ page → page < pages → AlikeInRing pages f g → log_from pages f most lap page at ≡ log_from pages g most lap page at
unfolding log_from
rounds_alike zero pages f g lap page at some low lt same = refl
rounds_alike (suc most) pages f g lap page at some low lt same =
    let next = after_in_ring pages page some lt low in
    ap₂ (λ (raw : List ℕ) (rest : Reading). if is_whole_page pages raw (page_lsn pages lap page) then followed_by (page_reading raw (page_lsn pages lap page) at) rest else no_reading)
    (same page low lt) (rounds_alike most pages f g (lap_after pages lap page) (page_after pages page) entries_at some next.0 next.1 same)

pub live_alike : (pages : ℕ) (f g : ℕ → List ℕ) (oldest : ℕ) → AlikeInRing pages f g → live_log pages f oldest ≡ live_log pages g oldest
unfolding live_log
live_alike pages f g oldest same = go (is_in_ring pages oldest) refl
  where
    go : (v : Bool) → is_in_ring pages oldest ≡ v
        → (if v then log_from pages f (pages - first_page) (lap_of pages oldest) (page_of pages oldest) (start_in_page pages oldest) else no_reading) ≡ (if v then log_from pages g (pages - first_page) (lap_of pages oldest) (page_of pages oldest) (start_in_page pages oldest) else no_reading)
    go true is =
        let low : first_page ≤ page_of pages oldest = leb-true _ _ (and_left _ _ is) in
        let high : page_of pages oldest < pages = ltb-true _ _ (and_right _ _ is) in
        rounds_alike (pages - first_page) pages f g (lap_of pages oldest) (page_of pages oldest) (start_in_page pages oldest) (omega (arith, low, high)) low high same
    go false is = refl

by_alike : (place : LogPlace) (c d : Content) (r : Restart) → AlikeInRing place.pages (page_in c place) (page_in d place) → entries_by c place r ≡ entries_by d place r
unfolding entries_by
by_alike place c d r same = ap (λ (reading : Reading). if is_clean r then Ok [] else (needs r.own (ForeignLog r.current) >>= λ _. own_entries reading place.clusters)) (live_alike place.pages (page_in c place) (page_in d place) r.oldest same)

pub entries_alike : (place : LogPlace) (c d : Content) (chosen : Option Restart) → AlikeInRing place.pages (page_in c place) (page_in d place) → live_entries_in c place chosen ≡ live_entries_in d place chosen
entries_alike place c d None same = refl
entries_alike place c d (Some r) same = by_alike place c d r same

-- ---- no block is recovered in part

-- each entry here updates a block that the list updates
abbrev AreAmong : List Entry → List Entry → Type 0
AreAmong list es = (b : Block) → has_update es b ≡ true → has_update list b ≡ true

no_part : (c : Content) (list es : List Entry) → AreAmong list es → ((b : Block) → has_update list b ≡ true → is_partial c list b ≡ false) → find (λ (e : Entry). updates_partial c list e.act) es ≡ None
no_part c list [] among none = refl
no_part c list (e ∷ es) among none =
    go (no_part c list es (λ b has. among b (or_right (updates b e.act) (has_update es b) has)) none) (updates_partial c list e.act) refl
  where
    or_right : (x y : Bool) → y ≡ true → (x || y) ≡ true
    or_right true y is = refl
    or_right false y is = is

    or_left : (x y : Bool) → x ≡ true → (x || y) ≡ true
    or_left true y is = refl
    or_left false y is = absurd cc

    act_none : (act : Act) → e.act ≡ act → updates_partial c list act ≡ false
    act_none (Update first kind at redo undo) is =
        none (block_of_kind first kind) (among (block_of_kind first kind) (or_left (updates (block_of_kind first kind) e.act) (has_update es (block_of_kind first kind)) (ap (updates (block_of_kind first kind)) is ∙ same_self (block_of_kind first kind))))
    act_none Commit is = refl

    go : find (λ (x : Entry). updates_partial c list x.act) es ≡ None → (v : Bool) → updates_partial c list e.act ≡ v → find (λ (x : Entry). updates_partial c list x.act) (e ∷ es) ≡ None
    go rest true is = absurd (true≢false (sym is ∙ act_none e.act refl))
    go rest false is = rw is rest

pub none_partial : (c : Content) (list : List Entry) → ((b : Block) → has_update list b ≡ true → is_partial c list b ≡ false) → first_partial c list ≡ None
none_partial c list none = rw (no_part c list list (λ b has. has) none) refl

-- and conversely
no_entry : (o : Option Entry) → option_map (λ (e : Entry). e.lsn) o ≡ None → o ≡ None
no_entry None is = refl
no_entry (Some e) is = absurd cc

has_no_part : (c : Content) (list es : List Entry) (b : Block) → find (λ (e : Entry). updates_partial c list e.act) es ≡ None → has_update es b ≡ true → is_partial c list b ≡ false
has_no_part c list [] b none has = absurd cc
has_no_part c list (e ∷ es) b none has = go (λ k h. has_no_part c list es b k h) (updates_partial c list e.act) refl (updates b e.act) refl
  where
    act_none : (act : Act) → updates_partial c list act ≡ false → updates b act ≡ true → is_partial c list b ≡ false
    act_none (Update first kind at redo undo) p is = subst (λ (x : Block). is_partial c list x ≡ false) (sym (same_block-is b (block_of_kind first kind) is)) p
    act_none Commit p is = absurd cc

    rest_none : (v : Bool) → v ≡ false → (if v then Some e else find (λ (x : Entry). updates_partial c list x.act) es) ≡ None → find (λ (x : Entry). updates_partial c list x.act) es ≡ None
    rest_none false is h = h
    rest_none true is h = absurd cc

    some_none : (v : Bool) → v ≡ true → (if v then Some e else find (λ (x : Entry). updates_partial c list x.act) es) ≡ None → is_partial c list b ≡ false
    some_none false is h = absurd cc
    some_none true is h = absurd cc

    rest_has : (v : Bool) → v ≡ false → (v || has_update es b) ≡ true → has_update es b ≡ true
    rest_has false is h = h
    rest_has true is h = absurd cc

    go : (find (λ (x : Entry). updates_partial c list x.act) es ≡ None → has_update es b ≡ true → is_partial c list b ≡ false) → (v : Bool) → updates_partial c list e.act ≡ v → (w : Bool) → updates b e.act ≡ w → is_partial c list b ≡ false
    go more true is w k = some_none (updates_partial c list e.act) is none
    go more false is true k = act_none e.act is k
    go more false is false k = more (rest_none (updates_partial c list e.act) is none) (rest_has (updates b e.act) k has)

pub updated_whole : (c : Content) (list : List Entry) (b : Block) → first_partial c list ≡ None → has_update list b ≡ true → is_partial c list b ≡ false
updated_whole c list b none has = has_no_part c list list b (no_entry (find (λ (e : Entry). updates_partial c list e.act) list) none) has

-- ---- no update is of such a block

has_no_such : (such : Block → Bool) (es : List Entry) (b : Block) → find (λ (e : Entry). updates_such such e.act) es ≡ None → has_update es b ≡ true → such b ≡ false
has_no_such such [] b none has = absurd cc
has_no_such such (e ∷ es) b none has = go (λ k h. has_no_such such es b k h) (updates_such such e.act) refl (updates b e.act) refl
  where
    act_none : (act : Act) → updates_such such act ≡ false → updates b act ≡ true → such b ≡ false
    act_none (Update first kind at redo undo) p is = subst (λ (x : Block). such x ≡ false) (sym (same_block-is b (block_of_kind first kind) is)) p
    act_none Commit p is = absurd cc

    rest_none : (v : Bool) → v ≡ false → (if v then Some e else find (λ (x : Entry). updates_such such x.act) es) ≡ None → find (λ (x : Entry). updates_such such x.act) es ≡ None
    rest_none false is h = h
    rest_none true is h = absurd cc

    some_none : (v : Bool) → v ≡ true → (if v then Some e else find (λ (x : Entry). updates_such such x.act) es) ≡ None → such b ≡ false
    some_none false is h = absurd cc
    some_none true is h = absurd cc

    rest_has : (v : Bool) → v ≡ false → (v || has_update es b) ≡ true → has_update es b ≡ true
    rest_has false is h = h
    rest_has true is h = absurd cc

    go : (find (λ (x : Entry). updates_such such x.act) es ≡ None → has_update es b ≡ true → such b ≡ false) → (v : Bool) → updates_such such e.act ≡ v → (w : Bool) → updates b e.act ≡ w → such b ≡ false
    go more true is w k = some_none (updates_such such e.act) is none
    go more false is true k = act_none e.act is k
    go more false is false k = more (rest_none (updates_such such e.act) is none) (rest_has (updates b e.act) k has)

pub updated_none : (such : Block → Bool) (list : List Entry) (b : Block) → first_update such list ≡ None → has_update list b ≡ true → such b ≡ false
updated_none such list b none has = has_no_such such list b (no_entry (find (λ (e : Entry). updates_such such e.act) list) none) has
