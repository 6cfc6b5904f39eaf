-- What recovery found for a mount that writes is what the mount may put out.
use Rattle.std.proofs.Common.{◌≡◌, subst, ℕ, zero, suc, ◌+◌, ◌*◌, ◌/◌, ◌%◌, ◌^◌, ◌<◌, ◌≤◌, Bool, true, false, List, [], ◌∷◌, length, map, drop, get_or, Option, Some, None, Result, Ok, refl, sym, ap, ap₂, ◌∙◌, inl, inr, arith, add-one, drop-cons, length-drop}
use Rattle.std.specs.Prelude.{◌&&◌, ◌||◌, nat_le, nat_lt, ◌==◌, if◌then◌else◌, All, Contains, find}
use Rattle.std.specs.Option.{option_map, option_or}
use Rattle.std.specs.List.{list_any, IsDistinct, AllByRecursion}
use Rattle.std.proofs.lemmas.Bool.{cases_Bool, leb-true, eqb-true, le-leb, eq-eqb}
use Rattle.std.proofs.lemmas.List.Elements.{All-from_recursion, recursion_from_All, All-get_or}
use Rattle.std.proofs.lemmas.List.Sorted.{All-permutation, Contains-permutation}
use Rattle.host_base.specs.Answers.{◌>>=◌, needs}
use Rattle.disk_model.specs.declared.block.Block.{Block}
use Rattle.disk_model.specs.declared.block.BlockKind.{BlockKind}
use Rattle.disk_model.specs.declared.block.BlockKind.TheVariants.{Plain, FileRec, Index}
use Rattle.disk_model.specs.Sectors.{sectors, same_block}
use Rattle.disk_model.specs.Bodies.{BodyOf}
use Rattle.disk_model.specs.Content.{Content, content_of}
use Rattle.disk_model.proofs.Frames.{same_block-is}
use Rattle.fixup_record.specs.Spellings.{has_spelling}
use Rattle.sector_device.specs.Disks.{Disk, seen}
use Rattle.log_model.specs.declared.entry.Entry.{Entry}
use Rattle.log_model.specs.declared.entry.Act.{Act}
use Rattle.log_model.specs.declared.entry.Act.TheVariants.{Update, Commit}
use Rattle.log_model.specs.Logs.{updates, block_of_kind, kind_of, may_begin, is_misplaced, first_misplaced, is_written_out, is_other, recovered}
use Rattle.txn_core.specs.log_page.declared.places.LogPlace.{LogPlace}
use Rattle.txn_core.specs.log_page.declared.restart.Restart.{Restart}
use Rattle.txn_core.specs.log_page.RecordPages.{Reading}
use Rattle.txn_core.specs.log_page.LiveLogs.{live_log}
use Rattle.txn_core.specs.log_page.Restarts.{is_clean}
use Rattle.log_recovery.specs.log_reading.declared.fault.LogRefusal.{LogRefusal}
use Rattle.log_recovery.specs.log_reading.declared.fault.LogRefusal.TheVariants.{ForeignLog}
use Rattle.log_recovery.specs.log_reading.LogPages.{page_in}
use Rattle.log_recovery.specs.log_reading.Rings.{IsRingPlace}
use Rattle.log_recovery.specs.declared.found.RecoveredBlock.{RecoveredBlock}
use Rattle.log_recovery.specs.declared.found.RecoveredBlocks.{RecoveredBlocks}
use Rattle.log_recovery.specs.LogStates.{LogState, own_entries, entries_by, live_entries_in}
use Rattle.log_recovery.specs.Recovering.{held_body, body_block, written_body, AreRecovered, IsSized}
use Rattle.log_recovery.specs.Writing.{is_spelled, is_put_out, to_write_in}
use Rattle.store_model.specs.Logs.{has_update}
use Rattle.store_model.proofs.Told.{true≢false, same_self}
use Rattle.txn_core.specs.txn_laws.Laws.{first_lsn}
use Rattle.txn_core.proofs.txn_laws.Syncs.{and_left, and_right}
use Rattle.txn_mount.specs.declared.puts.PutOut.{PutOut}
use Rattle.txn_mount.specs.Contents.{ReadsLog, ReadsWell}
use Rattle.txn_mount.specs.Images.{IsItem, AreItems, left_of}
use Rattle.txn_mount.specs.Laws.{MayMount, ChosenMayMount}
use Rattle.txn_mount.specs.Puts.{no_block, item_of, items_of, may_put, keys_where, AreKeys, MayPutAt}
use Rattle.txn_mount.proofs.Reading.{ok_then, all_ok, read_log, reads_well}
use Rattle.txn_mount.proofs.Blocks.{out_updated, out_spelled}
use Rattle.txn_mount.proofs.Starting.{out_written}

-- ---- bodies by their blocks

all_at : (P : Block → Type 0) (xs : List RecoveredBlock) (j : ℕ) (d : RecoveredBlock) → AllByRecursion P (map body_block xs) → j < length xs → P (get_or xs j d).block
all_at P [] j d all lt = absurd (omega (arith, lt))
all_at P (x ∷ xs) zero d all lt = all.0
all_at P (x ∷ xs) (suc j) d all lt = all_at P xs j d all.1 (omega (arith, lt))

apart_back : (a b : Block) → same_block a b ≡ false → same_block b a ≡ false
apart_back a b none = elim (cases_Bool (same_block b a)) [
  | inl is ↦ absurd (true≢false (sym (same_self a) ∙ ap (same_block a) (sym (same_block-is b a is)) ∙ none))
  | inr not_same ↦ not_same
]

held_at : (bodies : List RecoveredBlock) (j : ℕ) (d : RecoveredBlock) → IsDistinct same_block (map body_block bodies) → j < length bodies → held_body bodies (get_or bodies j d).block ≡ Some (get_or bodies j d).body
unfolding IsDistinct
held_at [] j d once lt = absurd (omega (arith, lt))
held_at (x ∷ xs) zero d once lt = ap (λ (v : Bool). if v then Some x.body else held_body xs x.block) (same_self x.block)
held_at (x ∷ xs) (suc j) d once lt =
    let rest = held_at xs j d once.1 (omega (arith, lt)) in
    ap (λ (v : Bool). if v then Some x.body else held_body xs (get_or xs j d).block) (apart_back x.block (get_or xs j d).block (all_at (λ y. same_block x.block y ≡ false) xs j d once.0 (omega (arith, lt)))) ∙ rest

record IsHeldAt (bodies : List RecoveredBlock) (b : Block) (t : BodyOf) : Type 0 where
  at : ℕ
  inside : at < length bodies
  block : same_block b (get_or bodies at no_block).block ≡ true
  body : (get_or bodies at no_block).body ≡ t

some_held : (bodies : List RecoveredBlock) (b : Block) (t : BodyOf) → held_body bodies b ≡ Some t → IsHeldAt bodies b t
some_held [] b t is = absurd cc
some_held (x ∷ xs) b t is = go (λ h. some_held xs b t h) (same_block b x.block) refl is
  where
    go : (held_body xs b ≡ Some t → IsHeldAt xs b t) → (v : Bool) → same_block b x.block ≡ v → (if v then Some x.body else held_body xs b) ≡ Some t → IsHeldAt (x ∷ xs) b t
    go more true here h = record { at = 0; inside = omega arith; block = here; body = cc }
    go more false none h = let m = more h in record { at = suc m.at; inside = omega (arith, m.inside); block = m.block; body = m.body }

-- ---- keys

module _ (test : RecoveredBlock → Bool) (all : List RecoveredBlock) where
  IsKey : PutOut → Type 0
  IsKey k = (k.place < length all) × (test (item_of all k) ≡ true)

  head_is : (i : ℕ) (x : RecoveredBlock) (xs : List RecoveredBlock) → drop i all ≡ x ∷ xs → (i < length all) × (get_or all i no_block ≡ x) × (drop (i + 1) all ≡ xs)
  head_is i x xs is =
      let lt : i < length all = (let e = sym (length-drop i all) ∙ ap (λ (l : List RecoveredBlock). length l) is in omega (arith, e)) in
      let both : get_or all i no_block ∷ drop (suc i) all ≡ x ∷ xs = sym (drop-cons all i no_block lt) ∙ is in
      (lt, first_of both, ap (λ (n : ℕ). drop n all) (add-one i) ∙ rest_of both)
    where
      first_of : get_or all i no_block ∷ drop (suc i) all ≡ x ∷ xs → get_or all i no_block ≡ x
      first_of e = cc

      rest_of : get_or all i no_block ∷ drop (suc i) all ≡ x ∷ xs → drop (suc i) all ≡ xs
      rest_of e = cc

  keys_good : (xs : List RecoveredBlock) (i : ℕ) → drop i all ≡ xs → AllByRecursion (λ (k : PutOut). (k.place < length all) × (test (item_of all k) ≡ true)) (keys_where test i xs)
  keys_good [] i is = tt
  keys_good (x ∷ xs) i is = go (keys_good xs (i + 1) (head_is i x xs is).2) (test x) refl
    where
      go : AllByRecursion (λ (k : PutOut). (k.place < length all) × (test (item_of all k) ≡ true)) (keys_where test (i + 1) xs) → (v : Bool) → test x ≡ v
          → AllByRecursion (λ (k : PutOut). (k.place < length all) × (test (item_of all k) ≡ true)) (if v then record { first = x.block.first; place = i } ∷ keys_where test (i + 1) xs else keys_where test (i + 1) xs)
      go more true here = (((head_is i x xs is).0, ap test (head_is i x xs is).1 ∙ here), more)
      go more false none = more

  abbrev key : ℕ → PutOut
  key j = record { first = (get_or all j no_block).block.first; place = j }

  behind : (k : PutOut) (ks : List PutOut) (y : PutOut) → Contains ks y → Contains (k ∷ ks) y
  behind k ks y has = (suc has.0, (let lt = has.1 in omega (arith, lt)), has.2)

  has_key : (xs : List RecoveredBlock) (i : ℕ) → drop i all ≡ xs → (j : ℕ) → i ≤ j → j < length all → test (get_or all j no_block) ≡ true → Contains (keys_where test i xs) (key j)
  has_key [] i is j le lt good = absurd (let e = sym (length-drop i all) ∙ ap (λ (l : List RecoveredBlock). length l) is in omega (arith, e, le, lt))
  has_key (x ∷ xs) i is j le lt good = go (λ low. has_key xs (i + 1) (head_is i x xs is).2 j low lt good) (test x) refl
    where
      at_head : i ≡ j → test x ≡ true
      at_head e = ap test (sym (head_is i x xs is).1 ∙ ap (λ (n : ℕ). get_or all n no_block) e) ∙ good

      first_key : i ≡ j → record { first = x.block.first; place = i } ≡ key j
      first_key e = ap₂ (λ (y : RecoveredBlock) (n : ℕ). record { first = y.block.first; place = n }) (sym (head_is i x xs is).1 ∙ ap (λ (n : ℕ). get_or all n no_block) e) e

      later : (i ≡ j → ⊥) → i + 1 ≤ j
      later apart = grind (arith, le, apart)

      go : (i + 1 ≤ j → Contains (keys_where test (i + 1) xs) (key j)) → (v : Bool) → test x ≡ v → Contains (if v then record { first = x.block.first; place = i } ∷ keys_where test (i + 1) xs else keys_where test (i + 1) xs) (key j)
      go more true here = elim (cases_Bool (i == j)) [
        | inl is ↦ (0, omega arith, first_key (eqb-true i j is))
        | inr apart ↦ behind (record { first = x.block.first; place = i }) (keys_where test (i + 1) xs) (key j) (more (later (λ e. absurd (true≢false (sym (eq-eqb i j e) ∙ apart)))))
      ]
      go more false none = more (later (λ e. absurd (true≢false (sym (at_head e) ∙ none))))

any_item : (p : RecoveredBlock → Bool) (bodies : List RecoveredBlock) (keys : List PutOut) (k : PutOut) (n : ℕ) → n < length keys → get_or keys n k ≡ k → p (item_of bodies k) ≡ true → list_any p (items_of bodies keys) ≡ true
any_item p bodies [] k n lt is good = absurd (omega (arith, lt))
any_item p bodies (x ∷ xs) k zero lt is good = ap (λ (v : Bool). v || list_any p (items_of bodies xs)) (ap (λ (y : PutOut). p (item_of bodies y)) is ∙ good)
any_item p bodies (x ∷ xs) k (suc n) lt is good = either (p (item_of bodies x)) (list_any p (items_of bodies xs)) (any_item p bodies xs k n (omega (arith, lt)) is good)
  where
    either : (u v : Bool) → v ≡ true → (u || v) ≡ true
    either true v e = refl
    either false v e = e

-- ---- the blocks lie in the volume

or_none : (x y : Bool) → (x || y) ≡ false → x ≡ false
or_none false y h = refl
or_none true y h = absurd cc

above_none : (clusters n : ℕ) → nat_le clusters n ≡ false → n < clusters
above_none clusters n h = grind (arith)

act_placed : (clusters : ℕ) (b : Block) (act : Act) → is_misplaced clusters act ≡ false → updates b act ≡ true → b.first / 8 < clusters
unfolding is_misplaced
act_placed clusters b (Update first kind at redo undo) p is =
    let low : nat_le clusters (first / 8) ≡ false = or_none (nat_le clusters (first / 8)) (nat_lt (512 * sectors (kind_of kind)) (at + length redo)) p in
    let same : b.first ≡ first = ap (λ (x : Block). x.first) (same_block-is b (block_of_kind first kind) is) in
    subst (λ (n : ℕ). n / 8 < clusters) (sym same) (above_none clusters (first / 8) low)
act_placed clusters b Commit p is = absurd cc

not_misplaced : (clusters : ℕ) (es : List Entry) (b : Block) → find (λ (e : Entry). is_misplaced clusters e.act) es ≡ None → has_update es b ≡ true → b.first / 8 < clusters
not_misplaced clusters [] b none has = absurd cc
not_misplaced clusters (e ∷ es) b none has = go (λ k h. not_misplaced clusters es b k h) (is_misplaced clusters e.act) refl (updates b e.act) refl
  where
    rest_none : (v : Bool) → v ≡ false → (if v then Some e else find (λ (x : Entry). is_misplaced clusters x.act) es) ≡ None → find (λ (x : Entry). is_misplaced clusters x.act) es ≡ None
    rest_none false is h = h
    rest_none true is h = absurd cc

    some_none : (v : Bool) → v ≡ true → (if v then Some e else find (λ (x : Entry). is_misplaced clusters x.act) es) ≡ None → b.first / 8 < clusters
    some_none false is h = absurd cc
    some_none true is h = absurd cc

    rest_has : (v : Bool) → v ≡ false → (v || has_update es b) ≡ true → has_update es b ≡ true
    rest_has false is h = h
    rest_has true is h = absurd cc

    go : (find (λ (x : Entry). is_misplaced clusters x.act) es ≡ None → has_update es b ≡ true → b.first / 8 < clusters) → (v : Bool) → is_misplaced clusters e.act ≡ v → (w : Bool) → updates b e.act ≡ w → b.first / 8 < clusters
    go more true is w k = some_none (is_misplaced clusters e.act) is none
    go more false is true k = act_placed clusters b e.act is k
    go more false is false k = more (rest_none (is_misplaced clusters e.act) is none) (rest_has (updates b e.act) k has)

no_entry : (o : Option Entry) → option_map (λ (e : Entry). e.lsn) o ≡ None → o ≡ None
no_entry None is = refl
no_entry (Some e) is = absurd cc

none_or : (o p : Option ℕ) → option_or o p ≡ None → o ≡ None
none_or None p is = refl
none_or (Some n) p is = absurd cc

own_placed : (reading : Reading) (clusters : ℕ) (l : List Entry) → own_entries reading clusters ≡ Ok l → first_misplaced l clusters ≡ None
own_placed reading clusters l e =
    let a = all_ok (option_or (first_misplaced reading.entries clusters) reading.foreign) reading.entries l e in
    subst (λ (es : List Entry). first_misplaced es clusters ≡ None) a.1 (none_or (first_misplaced reading.entries clusters) reading.foreign a.0)

by_placed : (c : Content) (place : LogPlace) (r : Restart) (l : List Entry) → entries_by c place r ≡ Ok l → first_misplaced l place.clusters ≡ None
unfolding entries_by
by_placed c place r l e = go (is_clean r) e
  where
    same_none : [] ≡ l → first_misplaced l place.clusters ≡ None
    same_none is = subst (λ (es : List Entry). first_misplaced es place.clusters ≡ None) is refl

    ok_is : ◌≡◌ {A = Result (List Entry) LogRefusal} (Ok []) (Ok l) → [] ≡ l
    ok_is h = cc

    go : (v : Bool) → (if v then Ok [] else (needs r.own (ForeignLog r.current) >>= λ _. own_entries (live_log place.pages (page_in c place) r.oldest) place.clusters)) ≡ Ok l → first_misplaced l place.clusters ≡ None
    go true h = same_none (ok_is h)
    go false h =
        let a = ok_then (needs r.own (ForeignLog r.current)) (λ (u : Unit {0}). own_entries (live_log place.pages (page_in c place) r.oldest) place.clusters) l h in
        own_placed (live_log place.pages (page_in c place) r.oldest) place.clusters l a.2

entries_placed : (c : Content) (place : LogPlace) (chosen : Option Restart) (l : List Entry) → live_entries_in c place chosen ≡ Ok l → first_misplaced l place.clusters ≡ None
entries_placed c place (Some r) l e = by_placed c place r l e
entries_placed c place None l e = subst (λ (es : List Entry). first_misplaced es place.clusters ≡ None) (ok_is e) refl
  where
    ok_is : ◌≡◌ {A = Result (List Entry) LogRefusal} (Ok []) (Ok l) → [] ≡ l
    ok_is h = cc

ends_inside : (kind : BlockKind) (first clusters : ℕ) → may_begin kind first ≡ true → first / 8 < clusters → first + sectors kind ≤ 8 * clusters
ends_inside Plain first clusters grid lt = omega (arith, lt)
ends_inside FileRec first clusters grid lt = let e = eqb-true (first % 2) 0 grid in omega (arith, e, lt)
ends_inside Index first clusters grid lt = let e = eqb-true (first % 8) 0 grid in omega (arith, e, lt)

-- ---- all together

module _ (place : LogPlace) (ring : IsRingPlace place) (kept : List Block) (first : Disk) (state : LogState) (count : ℕ) (found : RecoveredBlocks) (keys : List PutOut) (read : to_write_in (content_of (seen first)) place kept ≡ Ok state) (are : AreRecovered (content_of (seen first)) state.log found)
    (sized : All IsSized found.bodies.items) (chosen : AreKeys count found.bodies.items keys) (wide : 8 * place.clusters ≤ count) (low : first_lsn place state.next_lap state.restart state.opens < 2 ^ 64) where
  abbrev c : Content
  c = content_of (seen first)

  abbrev bodies : List RecoveredBlock
  bodies = found.bodies.items

  r : ReadsLog (content_of (seen first)) place kept state
  r = read_log (content_of (seen first)) place kept state read

  well : ReadsWell state.log
  well = reads_well (content_of (seen first)) place kept state read

  good_keys : All (λ (k : PutOut). (k.place < length bodies) × (may_put count (item_of bodies k) ≡ true)) keys
  good_keys = All-permutation (λ (k : PutOut). (k.place < length bodies) × (may_put count (item_of bodies k) ≡ true)) (keys_where (may_put count) 0 bodies) keys chosen.same
      (All-from_recursion (λ (k : PutOut). (k.place < length bodies) × (may_put count (item_of bodies k) ≡ true)) (keys_where (may_put count) 0 bodies) (keys_good (may_put count) bodies bodies 0 refl))

  out_of : (b : Block) (t : BodyOf) → written_body c state.log b ≡ Some t → (is_written_out c state.log b ≡ true) × (recovered c state.log b ≡ t)
  out_of b t is = go (is_written_out c state.log b) refl is
    where
      go : (v : Bool) → is_written_out c state.log b ≡ v → (if v then Some (recovered c state.log b) else None) ≡ Some t → (is_written_out c state.log b ≡ true) × (recovered c state.log b ≡ t)
      go true here h = (here, cc)
      go false none h = absurd cc

  item_good : (k : PutOut) → (k.place < length bodies) × (may_put count (item_of bodies k) ≡ true) → IsItem c state.log (item_of bodies k)
  unfolding is_put_out
  item_good k good =
      let x = item_of bodies k in
      let held = held_at bodies k.place no_block are.once good.0 in
      let o = out_of x.block x.body (sym (are.bodies x.block) ∙ held) in
      let same : (recovered c state.log x.block).bytes ≡ x.body.bytes = ap (λ (t : BodyOf). t.bytes) o.1 in
      let spelled : is_spelled c state.log x.block ≡ true = ap (has_spelling x.block.kind) same ∙ and_left (has_spelling x.block.kind x.body.bytes) (nat_le (x.block.first + sectors x.block.kind) count) good.1 in
      record {
        out = ap₂ (λ (u : Bool) (v : Bool). u && (v || is_other c state.log x.block)) o.0 spelled;
        bytes = sym same;
        sized = All-get_or IsSized bodies k.place no_block good.0 sized;
      }

  items_good : (ks : List PutOut) → AllByRecursion (λ (k : PutOut). (k.place < length bodies) × (may_put count (item_of bodies k) ≡ true)) ks → AreItems c state.log (items_of bodies ks)
  items_good [] all = tt
  items_good (k ∷ ks) all = (item_good k all.0, items_good ks all.1)

  all_left : (b : Block) → is_put_out c state.log b ≡ true → left_of (items_of bodies keys) b ≡ true
  all_left b out =
      let body : held_body bodies b ≡ Some (recovered c state.log b) = are.bodies b ∙ ap (λ (v : Bool). if v then Some (recovered c state.log b) else None) (out_written c state.log b out) in
      let at = some_held bodies b (recovered c state.log b) body in
      let x = get_or bodies at.at no_block in
      let same : b ≡ x.block = same_block-is b x.block at.block in
      let spelled : has_spelling x.block.kind x.body.bytes ≡ true = ap₂ (λ (y : Block) (t : BodyOf). has_spelling y.kind t.bytes) (sym same) at.body ∙ out_spelled place ring kept c state r well b out in
      let has = out_updated place ring kept c state r well b out in
      let lies = not_misplaced place.clusters state.log b (no_entry (find (λ (e : Entry). is_misplaced place.clusters e.act) state.log) (entries_placed c place r.front.chosen state.log r.entries)) has in
      let inside : b.first + sectors b.kind ≤ count = (let e = ends_inside b.kind b.first place.clusters (well.grid b has) lies in omega (arith, e, wide)) in
      let fits : nat_le (x.block.first + sectors x.block.kind) count ≡ true = subst (λ (y : Block). nat_le (y.first + sectors y.kind) count ≡ true) same (le-leb (b.first + sectors b.kind) count inside) in
      let held = Contains-permutation (keys_where (may_put count) 0 bodies) keys (key (may_put count) bodies at.at) chosen.same
      (has_key (may_put count) bodies bodies 0 refl at.at (omega arith) at.inside (ap₂ (λ (u : Bool) (v : Bool). u && v) spelled fits)) in
      any_item (λ (y : RecoveredBlock). same_block b y.block) bodies keys (key (may_put count) bodies at.at) held.0 held.1 held.2 at.block

  pub may_mount : MayMount place kept state (items_of bodies keys) first
  may_mount = record { ring = ring; read = read; own = items_good keys (recursion_from_All (λ (k : PutOut). (k.place < length bodies) × (may_put count (item_of bodies k) ≡ true)) keys good_keys); all = all_left; lsn = low }

-- and each of them may be written, whatever is known of the device
pub may_put_all : (count : ℕ) (bodies : List RecoveredBlock) (keys : List PutOut) → All IsSized bodies → AreKeys count bodies keys → All (MayPutAt count bodies) keys
may_put_all count bodies keys sized chosen = All-permutation (MayPutAt count bodies) (keys_where (may_put count) 0 bodies) keys chosen.same (All-from_recursion (MayPutAt count bodies) (keys_where (may_put count) 0 bodies) (each (keys_where (may_put count) 0 bodies) (keys_good (may_put count) bodies bodies 0 refl)))
  where
    one : (k : PutOut) → (k.place < length bodies) × (may_put count (item_of bodies k) ≡ true) → MayPutAt count bodies k
    one k good = record {
      there = good.0;
      may = record {
        sized = All-get_or IsSized bodies k.place no_block good.0 sized;
        spelled = and_left (has_spelling (item_of bodies k).block.kind (item_of bodies k).body.bytes) (nat_le ((item_of bodies k).block.first + sectors (item_of bodies k).block.kind) count) good.1;
        inside = leb-true _ _ (and_right (has_spelling (item_of bodies k).block.kind (item_of bodies k).body.bytes) (nat_le ((item_of bodies k).block.first + sectors (item_of bodies k).block.kind) count) good.1);
      };
    }

    each : (ks : List PutOut) → AllByRecursion (λ (k : PutOut). (k.place < length bodies) × (may_put count (item_of bodies k) ≡ true)) ks → AllByRecursion (MayPutAt count bodies) ks
    each [] all = tt
    each (k ∷ ks) all = (one k all.0, each ks all.1)

pub may_mount_law : ChosenMayMount
may_mount_law = λ place kept first state count found keys ring read are sized chosen wide low. may_mount place ring kept first state count found keys read are sized chosen wide low
