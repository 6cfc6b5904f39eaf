-- A change of a block.
use Rattle.std.proofs.Common.{◌≡◌, ◌≢◌, subst, ℕ, suc, ◌+◌, ◌-◌, ◌*◌, ◌/◌, ◌<◌, ◌≤◌, Bool, true, false, cond, List, [], ◌∷◌, ◌++◌, length, map, take, drop, get_or, Option, Some, None, refl, sym, ap, ap₂, ◌∙◌, inl, inr, arith}
use Rattle.std.specs.Prelude.{◌==◌, ◌&&◌, ◌||◌, not, is_some, IfSome, unwrap_or, slice_index}
use Rattle.std.specs.List.{AllByRecursion}
use Rattle.std.proofs.lemmas.Bool.{cases_Bool, cases_lt}
use Rattle.std.proofs.lemmas.List.{ext_get_or, drop-append-le, take_all}
use Rattle.std.specs.Option.{option_or}
use mathlib.Core.Path.{fun_ext}
use Rattle.area_laws.specs.disk_model.declared.block.Block.{Block}
use Rattle.area_laws.specs.disk_model.declared.block.Body.{Body}
use Rattle.area_laws.specs.disk_model.declared.block.BlockKind.{BlockKind}
use Rattle.area_laws.specs.disk_model.declared.block.BlockKind.TheVariants.{Plain, FileRec, Index}
use Rattle.area_laws.specs.disk_model.Bytes.{written}
use Rattle.area_laws.specs.disk_model.Sectors.{sector_of, sectors, same_block, are_rivals}
use Rattle.area_laws.specs.disk_model.Content.{content_of}
use Rattle.area_laws.proofs.disk_model.Frames.{same_block-is, length-written, written_before, written_behind}
use Rattle.area_laws.specs.fixup_record.Spellings.{has_spelling}
use Rattle.area_laws.specs.sector_device.Disks.{Disk, IsSized, MayHold, SeesDisk, seen}
use Rattle.area_laws.proofs.sector_device.Images.{holds_seen}
use Rattle.area_laws.specs.log_model.declared.entry.Entry.{Entry}
use Rattle.area_laws.specs.log_model.Logs.{is_misplaced, updates, updates_rival, act_says, first_undo, last_said}
use Rattle.area_laws.proofs.log_model.Telling.{first_undo-append, last_said-append}
use Rattle.area_laws.specs.log_area.Areas.{LogAreaOf}
use Rattle.store_claims.specs.store_model.Logs.{BodyBytes, AllBytes, AreUpdates, undone, has_update, ended_with, IsOusted}
use Rattle.store_claims.specs.store_model.Geometry.{SectorBytes}
use Rattle.store_claims.specs.store_model.Stores.{Window, Store}
use Rattle.store_claims.specs.store_model.Events.{after_change, after_changes, AreChanges, Fills, Refills, MayChange, changed_store, Step}
use Rattle.store_claims.specs.store_model.Events.Step.{change}
use Rattle.store_claims.specs.store_model.Rings.{entries_on}
use Rattle.store_claims.specs.store_model.Volumes.{is_known, first_bytes, AreWhole}
use Rattle.store_claims.specs.Windows.{store_window}
use Rattle.store_claims.proofs.store_model.Told.{true≢false, all_append, or_left, or_right, or-true, or-false, ends_own, same_self, rivals_both, rivals_other, rival_apart, updates_is, rival_is}
use Rattle.store_claims.proofs.store_model.Lost.{has_update-append, updates_only, updates_some, ousted_now}
use Rattle.store_claims.proofs.store_model.Pieces.{are_updates, ends-updates, body_elsewhere, draft_changes, changes_same}
use Rattle.store_claims.proofs.store_model.Volumes.{length-first_bytes, first_at, content_size, size_known}
use Rattle.store_claims.proofs.store_model.Sound.{sound-step}
use Rattle.store_claims.proofs.store_model.Moving.{windows_move_law}
use Rattle.area_laws.specs.ring_laws.Numbers.{LogSession}
use Rattle.area_laws.proofs.ring_laws.SeenDisks.{without_seen, without_content}
use Rattle.area_laws.proofs.ring_laws.StoreEvents.{log_kept}
use Rattle.txn_model.specs.declared.mark.Mark.{Mark}
use Rattle.txn_model.specs.Values.{StoreFacts, own_of}
use Rattle.txn_model.specs.Pieces.{Piece, logged_pieces, update_of_piece, entries_of}
use Rattle.txn_model.specs.Calls.{body_before, changed_mark, rival_mark, change_acts, changed_facts}
use Rattle.txn_model.specs.Appending.{MayAppendAll}
use Rattle.area_laws.specs.log_area.declared.restart.SentRestart.{SentRestart}
use Rattle.txn_laws.specs.Standing.{HasBytes, IsMarked, IsImaged, IsKilled, CloseNone, StandsBehindAs, StandsBehind, session_of, numbers_of}
use Rattle.txn_laws.specs.Windows.{Simulates, AfterChange}
use Rattle.txn_laws.specs.Laws.{MayChangeBlock}
use Rattle.txn_laws.proofs.Telling.{in_memory}
use Rattle.area_laws.specs.sector_device.Moments.{Changes}
use Rattle.txn_laws.proofs.Memory.{undone_none}
use Rattle.txn_laws.proofs.Growing.{all_dropped}
use Rattle.txn_laws.proofs.Cutting.{IsPiece, cut_within, Has, cut_has, cut_some, are_changes, stays_after, gets_after, has_undo}
use Rattle.txn_laws.proofs.Mountable.{placed_pieces}
use Rattle.txn_laws.proofs.Closed.{goes_on, sent_with}
use Rattle.txn_laws.proofs.Chains.{by_all, by_some, by_page, by_killed, Chained, chain}
use Rattle.store_claims.proofs.Moving.{claims_move}

-- a disk of whole sectors is read as such
pub seen_whole : (disk : Disk) → IsSized disk → AreWhole (seen disk)
seen_whole disk sized n = by_hold (holds_seen disk n)
  where
    by_hold : MayHold disk n (seen disk n) → length (seen disk n) ≡ 512
    by_hold (inl is) = ap (λ (v : List ℕ). length v) is ∙ sized.durable n
    by_hold (inr has) = sized.written n (seen disk n) has

-- the last of updates of a block by the open transaction says that it isn't shadowed
said_own : (f : ℕ → Bool) (t : ℕ) (c : Block) (us : List Entry) → f t ≡ true → AreUpdates t c us → 0 < length us → last_said f us c ≡ Some false
said_own f t c [] own are some = absurd (omega (arith, some))
said_own f t c (e ∷ []) own (is, are) some =
    let not_rival : updates_rival c e.act ≡ false = rival_is e.act c c is.block ∙ rivals_other c in
    let itself : updates c e.act ≡ true = updates_is e.act c c is.block ∙ same_self c in
    ap₂ (λ (u : Bool) (v : Bool). cond u (Some true) (cond v (Some false) None)) not_rival (ap₂ (λ (u : Bool) (v : Bool). u && v) itself (ap f is.by ∙ own))
said_own f t c (e ∷ d ∷ us) own (is, are) some = ap (λ (o : Option Bool). option_or o (act_says c (f e.tx) e.act)) (said_own f t c (d ∷ us) own are (omega arith))

-- updates of a block say nothing of one that is neither it nor a rival
said_none : (f : ℕ → Bool) (t : ℕ) (c : Block) (us : List Entry) (b : Block) → AreUpdates t c us → same_block b c ≡ false → are_rivals b c ≡ false → last_said f us b ≡ None
said_none f t c [] b are none away = refl
said_none f t c (e ∷ us) b (is, are) none away =
    let not_rival : updates_rival b e.act ≡ false = rival_is e.act b c is.block ∙ away in
    let not_own : updates b e.act ≡ false = updates_is e.act b c is.block ∙ none in
    ap₂ (λ (o : Option Bool) (x : Option Bool). option_or o x) (said_none f t c us b are none away)
    (ap₂ (λ (u : Bool) (v : Bool). cond u (Some true) (cond (v && f e.tx) (Some false) None)) not_rival not_own)

or_known : (a b : Bool) → (a || b) ≡ true → a ≡ false → b ≡ true
or_known true b is none = absurd (true≢false none)
or_known false b is none = is

-- The present body of a block: the one that is kept, or what a read gives.
pub is_present : {ends : Bool} (f : StoreFacts) (disk : Disk) (m : Store) (h : StandsBehindAs ends f disk m) (c : Block) (present : Body) → is_known (own_of f) c ≡ true → unwrap_or (f.body c) (content_of (seen disk) c) ≡ present
    → HasBytes c (m.window.body c) (m.window.is_torn c) present
is_present f disk m h c present known is = by_body (f.body c) refl
  where
    by_body : (o : Option Body) → f.body c ≡ o → HasBytes c (m.window.body c) (m.window.is_torn c) present
    by_body (Some x) e =
        subst (λ (y : Body). HasBytes c (m.window.body c) (m.window.is_torn c) y) (sym (ap (λ (o : Option Body). unwrap_or o (content_of (seen disk) c)) e) ∙ is)
        (subst (λ (o : Option Body). IfSome o (HasBytes c (m.window.body c) (m.window.is_torn c))) e (h.window.body c))
    by_body None e =
        subst (λ (y : Body). HasBytes c (m.window.body c) (m.window.is_torn c) y) (sym (ap (λ (o : Option Body). unwrap_or o (content_of (seen disk) c)) e) ∙ is)
        (record {
          bytes = ext_get_or 0 (content_of (seen disk) c).bytes (first_bytes n (m.window.body c)) (size ∙ sym (length-first_bytes n (m.window.body c))) (λ i lt. byte i (omega (arith, lt, size)));
          torn = λ torn. (shows 0 (omega (arith, some))).1 (h.volume.torn c (seen m.disk) ∙ ap (λ (y : Body). y.torn) same ∙ torn);
        })
      where
        n : ℕ
        n = 512 * sectors c.kind

        some : 0 < 512 * sectors c.kind
        some = by_kind c.kind
          where
            by_kind : (k : BlockKind) → 0 < 512 * sectors k
            by_kind Plain = omega arith
            by_kind FileRec = omega arith
            by_kind Index = omega arith

        size : length (content_of (seen disk) c).bytes ≡ 512 * sectors c.kind
        size = content_size (seen disk) c (seen_whole disk h.sized)

        same : content_of (seen m.disk) c ≡ content_of (seen disk) c
        same = ap (λ (d : Disk). content_of (seen d) c) h.same ∙ ap (λ (at : SectorBytes). content_of at c) (without_seen (own_of f) disk) ∙ without_content (own_of f) (seen disk) c known

        none : ((f.mark c).dirty || (f.mark c).dead) ≡ false
        none = sym (h.marks.kept c) ∙ ap (λ (o : Option Body). is_some o) e

        clean : m.dirty c ≡ false
        clean = h.marks.dirty c ∙ ap (λ (v : Bool). v && h.geometry.has_spelling c (m.window.body c)) (or_left (f.mark c).dirty (f.mark c).dead none)

        alive : m.dead c ≡ false
        alive = h.marks.dead c ∙ ap (λ (v : Bool). v && h.geometry.has_spelling c (m.window.body c)) (or_right (f.mark c).dirty (f.mark c).dead none)

        shows : (i : ℕ) → i < 512 * sectors c.kind → (h.geometry.decode c (seen m.disk) i ≡ m.window.body c i) × (h.geometry.torn c (seen m.disk) ≡ true → m.window.is_torn c ≡ true)
        shows i lt = h.sound.clean c i clean alive (omega (arith, lt, size_known (own_of f) h.geometry h.volume c known))

        byte : (i : ℕ) → i < 512 * sectors c.kind → slice_index (content_of (seen disk) c).bytes i ≡ slice_index (first_bytes (512 * sectors c.kind) (m.window.body c)) i
        byte i lt =
            ap (λ (y : Body). slice_index y.bytes i) (sym same) ∙ sym (h.volume.decode c (seen m.disk) i) ∙ (shows i lt).0 ∙ sym (first_at (512 * sectors c.kind) (m.window.body c) i lt)

module _ (f : StoreFacts) (disk : Disk) (m : Store) (c : Block) (at : ℕ) (new : List ℕ) (present : Body) (opened : f.is_open ≡ true) (known : is_known (own_of f) c ≡ true)
    (volume : c.first / 8 < f.place.clusters) (some_new : 0 < length new) (fits : at + length new ≤ 512 * sectors c.kind) (spells : has_spelling c.kind (written at new present.bytes) ≡ true) (alone : (x : Block) → are_rivals c x ≡ true → f.before x ≡ None)
    (may : MayAppendAll f.log f.tx f.last (change_acts f c at new present)) (h : StandsBehind f disk m) (now : HasBytes c (m.window.body c) (m.window.is_torn c) present) where
  abbrev s : LogSession
  s = session_of f h.lap

  abbrev g : StoreFacts
  g = changed_facts c at new present f

  abbrev size : ℕ
  size = 512 * sectors c.kind

  abbrev after : List ℕ
  after = written at new present.bytes

  abbrev old : List ℕ
  old = (body_before f c present).bytes

  abbrev ps : List Piece
  ps = logged_pieces (f.mark c).imaged c at (length new)

  abbrev us : List Entry
  us = entries_of f.log f.tx f.last (map (update_of_piece c old after) ps)

  abbrev n : Store
  n = changed_store m c us

  abbrev w' : Window
  w' = after_changes m.window c us

  -- ---- bytes

  before_is : HasBytes c (undone m.window.draft m.window.body c) (m.window.was_torn 0 c) (body_before f c present)
  before_is = by_before (f.before c) refl
    where
      by_before : (o : Option Body) → f.before c ≡ o → HasBytes c (undone m.window.draft m.window.body c) (m.window.was_torn 0 c) (unwrap_or o present)
      by_before (Some x) is = subst (λ (o : Option Body). IfSome o (HasBytes c (undone m.window.draft m.window.body c) (m.window.was_torn 0 c))) is (h.window.before c)
      by_before None is =
          let none : has_update m.window.draft c ≡ false = h.window.changed c ∙ ap (λ (o : Option Body). is_some o) is in
          record {
            bytes = now.bytes ∙ ap (λ (bytes : BodyBytes). first_bytes (512 * sectors c.kind) bytes) (sym (undone_none m.window.draft m.window.body c none));
            torn = λ e. h.sound.even c none ∙ now.torn e;
          }

  size_old : length old ≡ size
  size_old = ap (λ (bs : List ℕ). length bs) before_is.bytes ∙ length-first_bytes size (undone m.window.draft m.window.body c)

  size_present : length present.bytes ≡ size
  size_present = ap (λ (bs : List ℕ). length bs) now.bytes ∙ length-first_bytes size (m.window.body c)

  size_after : length after ≡ size
  size_after = length-written at new present.bytes ∙ size_present

  few : size ≤ 1900 * 3
  few = by_kind c.kind
    where
      by_kind : (k : BlockKind) → 512 * sectors k ≤ 1900 * 3
      by_kind Plain = omega arith
      by_kind FileRec = omega arith
      by_kind Index = omega arith

  some_size : 0 < size
  some_size = omega (arith, fits, some_new)

  old_byte : (i : ℕ) → i < size → slice_index old i ≡ undone m.window.draft m.window.body c i
  old_byte i lt = ap (λ (bs : List ℕ). slice_index bs i) before_is.bytes ∙ first_at size (undone m.window.draft m.window.body c) i lt

  present_byte : (i : ℕ) → i < size → m.window.body c i ≡ slice_index present.bytes i
  present_byte i lt = sym (ap (λ (bs : List ℕ). slice_index bs i) now.bytes ∙ first_at size (m.window.body c) i lt)

  -- ---- pieces

  are_pieces : (v : Bool) → AllByRecursion (IsPiece 0 size) (logged_pieces v c at (length new))
  are_pieces true = cut_within 3 at (length new) 0 size (omega arith) fits
  are_pieces false = cut_within 3 0 size 0 size (omega arith) (omega arith)

  some_pieces : (v : Bool) → 0 < length (logged_pieces v c at (length new))
  some_pieces true = cut_some at (length new) some_new
  some_pieces false = cut_some 0 size some_size

  has_all : (f.mark c).imaged ≡ false → (i : ℕ) → i < size → Has i ps
  has_all none i lt = subst (λ (v : Bool). Has i (logged_pieces v c at (length new))) (sym none) (cut_has 3 0 size i few (omega arith) (omega (arith, lt)))

  has_new : (v : Bool) (i : ℕ) → at ≤ i → i < at + length new → Has i (logged_pieces v c at (length new))
  has_new true i low high = cut_has 3 at (length new) i (omega (arith, fits, few)) low high
  has_new false i low high = cut_has 3 0 size i few (omega arith) (omega (arith, high, fits))

  -- the body after it
  after_byte : (i : ℕ) → i < size → w'.body c i ≡ slice_index after i
  after_byte i lt = elim (cases_lt i at) [
    | inl low ↦ stays_after c old after size size_old size_after ps (are_pieces (f.mark c).imaged) m.window f.log f.tx f.last i (present_byte i lt ∙ sym (written_before at new present.bytes i 0 low))
    | inr high ↦ elim (cases_lt i (at + length new)) [
      | inl inside ↦ gets_after c old after size size_old size_after ps (are_pieces (f.mark c).imaged) m.window f.log f.tx f.last i (has_new (f.mark c).imaged i high inside)
      | inr behind ↦ stays_after c old after size size_old size_after ps (are_pieces (f.mark c).imaged) m.window f.log f.tx f.last i (present_byte i lt ∙ sym (written_behind at new present.bytes i 0 behind))
    ]
  ]

  body_is : after ≡ first_bytes size (w'.body c)
  body_is = ext_get_or 0 after (first_bytes size (w'.body c)) (size_after ∙ sym (length-first_bytes size (w'.body c)))
      (λ i lt. sym (first_at size (w'.body c) i (omega (arith, lt, size_after)) ∙ after_byte i (omega (arith, lt, size_after))))

  spelled_now : h.geometry.has_spelling c (w'.body c) ≡ true
  spelled_now = h.volume.has_spelling c (w'.body c) ∙ ap (has_spelling c.kind) (sym body_is) ∙ spells

  -- ---- the change is one of the machine

  changes : AreChanges m.window c us
  changes = subst (λ (t : ℕ). AreChanges m.window c (entries_of f.log t f.last (map (update_of_piece c old after) ps))) h.window.tx
      (are_changes c old after size size_old size_after ps (are_pieces (f.mark c).imaged) m.window f.log f.last old_byte)

  updates_are : AreUpdates m.window.tx c us
  updates_are = are_updates m.window c us changes

  some_us : 0 < length us
  some_us = count ps f.log f.last (some_pieces (f.mark c).imaged)
    where
      count : (qs : List Piece) (log : LogAreaOf) (last : ℕ) → 0 < length qs → 0 < length (entries_of log f.tx last (map (update_of_piece c old after) qs))
      count [] log last some = absurd (omega (arith, some))
      count (q ∷ qs) log last some = omega arith

  size_geometry : h.geometry.size c ≡ size
  size_geometry = size_known (own_of f) h.geometry h.volume c known

  covered : (f.mark c).imaged ≡ false → (i : ℕ) → i < h.geometry.size c → first_undo us c i ≢ None
  covered none i lt = has_undo c old after size size_old size_after ps (are_pieces (f.mark c).imaged) f.log f.tx f.last i (has_all none i (omega (arith, lt, size_geometry)))

  fills : (l : List Entry) → ((f.mark c).imaged ≡ true → (i : ℕ) → i < h.geometry.size c → first_undo l c i ≢ None) → Fills h.geometry m.window l c us
  fills l whole i lt none = elim (cases_Bool (f.mark c).imaged) [
    | inl imaged ↦ whole imaged i lt (front (first_undo l c i) (first_undo us c i) (sym (first_undo-append l us c i) ∙ none))
    | inr bare ↦ covered bare i lt (behind (first_undo l c i) (first_undo us c i) (sym (first_undo-append l us c i) ∙ none))
  ]
    where
      front : (a b : Option ℕ) → option_or a b ≡ None → a ≡ None
      front None b is = refl
      front (Some x) b is = absurd cc

      behind : (a b : Option ℕ) → option_or a b ≡ None → b ≡ None
      behind None b is = is
      behind (Some x) b is = absurd cc

  refills : (l : List Entry) → ((f.mark c).imaged ≡ true → last_said (ended_with m.window.tx l) l c ≡ Some false) → Refills h.geometry m.window l c us
  refills l last shadowed i lt = elim (cases_Bool (f.mark c).imaged) [
    | inl imaged ↦ absurd (two (sym (last imaged) ∙ shadowed))
    | inr bare ↦ covered bare i lt
  ]
    where
      two : ◌≡◌ {A = Option Bool} (Some false) (Some true) → ⊥
      two is = cc

  may_change : MayChange h.geometry m c us
  may_change = record {
    opened = h.window.is_open ∙ opened;
    known = omega (arith, size_geometry, some_size);
    some = some_us;
    alone = λ x rival. h.window.changed x ∙ ap (λ (o : Option Body). is_some o) (alone x rival);
    old = changes;
    spelled = spelled_now;
    fills = fills m.log (λ imaged i lt. h.sound.oldest.whole c i lt (h.by_pages.imaged c imaged).0.has);
    refills = refills m.log (λ imaged. (h.by_pages.imaged c imaged).0.last);
    next = λ begun. (
      fills (drop m.place m.log) (λ imaged i lt. (h.sound.next begun).whole c i lt ((h.by_pages.imaged c imaged).1 begun).has),
      refills (drop m.place m.log) (λ imaged. ((h.by_pages.imaged c imaged).1 begun).last),
    );
  }

  abbrev step : Step h.geometry m n
  step = change c us may_change

  -- ---- what it leaves of other blocks

  same_body : (b : Block) → same_block b c ≡ false → w'.body b ≡ m.window.body b
  same_body b none = fun_ext (λ i. body_elsewhere m.window c us b i changes none)

  same_torn : (w : Window) (es : List Entry) (b : Block) → same_block b c ≡ false → (after_changes w c es).is_torn b ≡ w.is_torn b
  same_torn w [] b none = refl
  same_torn w (e ∷ es) b none = same_torn (after_change w c e) es b none ∙ ap (λ (v : Bool). not v && w.is_torn b) none

  same_open : (w : Window) (es : List Entry) → (after_changes w c es).is_open ≡ w.is_open
  same_open w [] = refl
  same_open w (e ∷ es) = same_open (after_change w c e) es

  same_tx : (w : Window) (es : List Entry) → (after_changes w c es).tx ≡ w.tx
  same_tx w [] = refl
  same_tx w (e ∷ es) = same_tx (after_change w c e) es

  same_undone : undone w'.draft w'.body ≡ undone m.window.draft m.window.body
  same_undone = (changes_same m.window c us changes).0

  same_waiting : w'.waiting ≡ m.window.waiting
  same_waiting = (changes_same m.window c us changes).1

  same_was : w'.was_torn ≡ m.window.was_torn
  same_was = (changes_same m.window c us changes).2

  -- ---- the window

  body_now : (b : Block) → IfSome (g.body b) (HasBytes b (w'.body b) (w'.is_torn b))
  body_now b = elim (cases_Bool (same_block b c)) [
    | inl same ↦
        subst (λ (d : Block). IfSome (g.body d) (HasBytes d (w'.body d) (w'.is_torn d))) (sym (same_block-is b c same))
        (subst (λ (v : Bool). IfSome (cond v (Some (record { bytes = after; torn = false })) (f.body c)) (HasBytes c (w'.body c) (w'.is_torn c))) (sym (same_self c))
        (record { bytes = body_is; torn = λ torn. absurd (true≢false (sym torn)) }))
    | inr none ↦
        subst (λ (v : Bool). IfSome (cond v (Some (record { bytes = after; torn = false })) (f.body b)) (HasBytes b (w'.body b) (w'.is_torn b))) (sym none)
        (subst (λ (bytes : BodyBytes). IfSome (f.body b) (HasBytes b bytes (w'.is_torn b))) (sym (same_body b none))
        (subst (λ (t : Bool). IfSome (f.body b) (HasBytes b (m.window.body b) t)) (sym (same_torn m.window us b none)) (h.window.body b)))
  ]

  changed_now : (b : Block) → has_update w'.draft b ≡ is_some (g.before b)
  changed_now b = ap (λ (es : List Entry). has_update es b) (draft_changes m.window c us) ∙ has_update-append m.window.draft us b ∙ elim (cases_Bool (same_block b c)) [
    | inl same ↦
        or-true (has_update m.window.draft b) (has_update us b) (ap (λ (d : Block). has_update us d) (same_block-is b c same) ∙ updates_some m.window.tx c us updates_are some_us)
        ∙ sym (ap (λ (v : Bool). is_some (cond v (Some (body_before f c present)) (f.before b))) same)
    | inr none ↦
        ap (λ (v : Bool). has_update m.window.draft b || v) (updates_only m.window.tx c us b updates_are none) ∙ or-false (has_update m.window.draft b) ∙ h.window.changed b
        ∙ sym (ap (λ (v : Bool). is_some (cond v (Some (body_before f c present)) (f.before b))) none)
  ]

  before_now : (b : Block) → IfSome (g.before b) (HasBytes b (undone w'.draft w'.body b) (w'.was_torn 0 b))
  before_now b =
      subst (λ (bytes : AllBytes). IfSome (g.before b) (HasBytes b (bytes b) (w'.was_torn 0 b))) (sym same_undone)
      (subst (λ (t : ℕ → Block → Bool). IfSome (g.before b) (HasBytes b (undone m.window.draft m.window.body b) (t 0 b))) (sym same_was) (by_block b))
    where
      by_block : (b : Block) → IfSome (g.before b) (HasBytes b (undone m.window.draft m.window.body b) (m.window.was_torn 0 b))
      by_block b = elim (cases_Bool (same_block b c)) [
        | inl same ↦
            subst (λ (d : Block). IfSome (g.before d) (HasBytes d (undone m.window.draft m.window.body d) (m.window.was_torn 0 d))) (sym (same_block-is b c same))
            (subst (λ (v : Bool). IfSome (cond v (Some (body_before f c present)) (f.before c)) (HasBytes c (undone m.window.draft m.window.body c) (m.window.was_torn 0 c))) (sym (same_self c)) before_is)
        | inr none ↦ subst (λ (v : Bool). IfSome (cond v (Some (body_before f c present)) (f.before b)) (HasBytes b (undone m.window.draft m.window.body b) (m.window.was_torn 0 b))) (sym none) (h.window.before b)
      ]

  -- ---- marks

  abbrev until : ℕ
  until = suc g.log.sealed

  at_own : (b : Block) → same_block b c ≡ true → g.mark b ≡ changed_mark until (f.mark b)
  at_own b same = ap (λ (v : Bool). cond v (changed_mark until (f.mark b)) (cond (are_rivals c b) (rival_mark until (f.mark b)) (f.mark b))) same

  at_rival : (b : Block) → same_block b c ≡ false → are_rivals c b ≡ true → g.mark b ≡ rival_mark until (f.mark b)
  at_rival b none rival = ap₂ (λ (v : Bool) (u : Bool). cond v (changed_mark until (f.mark b)) (cond u (rival_mark until (f.mark b)) (f.mark b))) none rival

  at_other : (b : Block) → same_block b c ≡ false → are_rivals c b ≡ false → g.mark b ≡ f.mark b
  at_other b none away = ap₂ (λ (v : Bool) (u : Bool). cond v (changed_mark until (f.mark b)) (cond u (rival_mark until (f.mark b)) (f.mark b))) none away

  by_block : (P : Block → Type 0) → P c → ((b : Block) → same_block b c ≡ false → are_rivals c b ≡ true → P b) → ((b : Block) → same_block b c ≡ false → are_rivals c b ≡ false → P b) → (b : Block) → P b
  by_block P own rival other b = elim (cases_Bool (same_block b c)) [
    | inl same ↦ subst P (sym (same_block-is b c same)) own
    | inr none ↦ elim (cases_Bool (are_rivals c b)) [
      | inl is ↦ rival b none is
      | inr away ↦ other b none away
    ]
  ]

  own_mark : g.mark c ≡ changed_mark until (f.mark c)
  own_mark = at_own c (same_self c)

  spelling_same : (b : Block) → same_block b c ≡ false → h.geometry.has_spelling b (w'.body b) ≡ h.geometry.has_spelling b (m.window.body b)
  spelling_same b none = ap (h.geometry.has_spelling b) (same_body b none)

  dirty_now : (b : Block) → n.dirty b ≡ ((g.mark b).dirty && h.geometry.has_spelling b (w'.body b))
  dirty_now = by_block (λ b. n.dirty b ≡ ((g.mark b).dirty && h.geometry.has_spelling b (w'.body b)))
      (ap (λ (v : Bool). v || (m.dirty c && not (are_rivals c c))) (same_self c) ∙ sym (ap₂ (λ (x : Mark) (v : Bool). x.dirty && v) own_mark spelled_now))
      (λ b none rival. ap₂ (λ (v : Bool) (u : Bool). v || (m.dirty b && not u)) none rival ∙ and_false (m.dirty b) ∙ sym (ap (λ (x : Mark). x.dirty && h.geometry.has_spelling b (w'.body b)) (at_rival b none rival)))
      (λ b none away. ap₂ (λ (v : Bool) (u : Bool). v || (m.dirty b && not u)) none away ∙ and_true (m.dirty b) ∙ h.marks.dirty b
      ∙ ap₂ (λ (x : Mark) (v : Bool). x.dirty && v) (sym (at_other b none away)) (sym (spelling_same b none)))
    where
      and_false : (v : Bool) → (v && not true) ≡ false
      and_false true = refl
      and_false false = refl

      and_true : (v : Bool) → (v && not false) ≡ v
      and_true true = refl
      and_true false = refl

  dead_now : (b : Block) → n.dead b ≡ ((g.mark b).dead && h.geometry.has_spelling b (w'.body b))
  dead_now = by_block (λ b. n.dead b ≡ ((g.mark b).dead && h.geometry.has_spelling b (w'.body b)))
      (ap (λ (v : Bool). not v && (m.dead c || (are_rivals c c && m.dirty c))) (same_self c) ∙ sym (ap (λ (x : Mark). x.dead && h.geometry.has_spelling c (w'.body c)) own_mark))
      (λ b none rival. ap₂ (λ (v : Bool) (u : Bool). not v && (m.dead b || (u && m.dirty b))) none rival ∙ ap₂ (λ (v : Bool) (u : Bool). v || u) (h.marks.dead b) (h.marks.dirty b)
      ∙ either (f.mark b).dead (f.mark b).dirty (h.geometry.has_spelling b (m.window.body b))
      ∙ ap₂ (λ (x : Mark) (v : Bool). x.dead && v) (sym (at_rival b none rival)) (sym (spelling_same b none)))
      (λ b none away. ap₂ (λ (v : Bool) (u : Bool). not v && (m.dead b || (u && m.dirty b))) none away ∙ or-false (m.dead b) ∙ h.marks.dead b
      ∙ ap₂ (λ (x : Mark) (v : Bool). x.dead && v) (sym (at_other b none away)) (sym (spelling_same b none)))
    where
      either : (a b v : Bool) → ((a && v) || (b && v)) ≡ ((a || b) && v)
      either true b true = refl
      either true true false = refl
      either true false false = refl
      either false true v = refl
      either false false v = refl

  kept_now : (b : Block) → is_some (g.body b) ≡ ((g.mark b).dirty || (g.mark b).dead)
  kept_now = by_block (λ b. is_some (g.body b) ≡ ((g.mark b).dirty || (g.mark b).dead))
      (ap (λ (v : Bool). is_some (cond v (Some (record { bytes = after; torn = false })) (f.body c))) (same_self c) ∙ sym (ap (λ (x : Mark). x.dirty || x.dead) own_mark))
      (λ b none rival. ap (λ (v : Bool). is_some (cond v (Some (record { bytes = after; torn = false })) (f.body b))) none ∙ h.marks.kept b ∙ swap (f.mark b).dirty (f.mark b).dead ∙ sym (ap (λ (x : Mark). x.dirty || x.dead) (at_rival b none rival)))
      (λ b none away. ap (λ (v : Bool). is_some (cond v (Some (record { bytes = after; torn = false })) (f.body b))) none ∙ h.marks.kept b ∙ sym (ap (λ (x : Mark). x.dirty || x.dead) (at_other b none away)))
    where
      swap : (a b : Bool) → (a || b) ≡ (false || (b || a))
      swap true true = refl
      swap true false = refl
      swap false true = refl
      swap false false = refl

  apart_now : (b : Block) → (g.mark b).dead ≡ true → (g.mark b).dirty ≡ false
  apart_now = by_block (λ b. (g.mark b).dead ≡ true → (g.mark b).dirty ≡ false)
      (λ dead. absurd (true≢false (sym dead ∙ ap (λ (x : Mark). x.dead) own_mark)))
      (λ b none rival dead. ap (λ (x : Mark). x.dirty) (at_rival b none rival))
      (λ b none away dead. ap (λ (x : Mark). x.dirty) (at_other b none away) ∙ h.marks.apart b (sym (ap (λ (x : Mark). x.dead) (at_other b none away)) ∙ dead))

  rival_clean : (b : Block) → are_rivals c b ≡ true → (g.mark b).dirty ≡ false
  rival_clean b rival = ap (λ (x : Mark). x.dirty) (at_rival b (rival_apart b c (rivals_both b c ∙ rival)) rival)

  lone_now : (b d : Block) → are_rivals b d ≡ true → (g.mark b).dirty ≡ true → (g.mark d).dirty ≡ false
  lone_now b d rival = by_block (λ b. are_rivals b d ≡ true → (g.mark b).dirty ≡ true → (g.mark d).dirty ≡ false)
      (λ rival dirty. rival_clean d rival)
      (λ b none is rival dirty. absurd (true≢false (sym dirty ∙ rival_clean b is)))
      (λ b none away rival dirty. by_block (λ d. are_rivals b d ≡ true → (g.mark d).dirty ≡ false)
      (λ rival. absurd (true≢false (sym (rivals_both c b ∙ rival) ∙ away)))
      (λ d none' is rival. rival_clean d is)
      (λ d none' away' rival. ap (λ (x : Mark). x.dirty) (at_other d none' away') ∙ h.marks.lone b d rival (sym (ap (λ (x : Mark). x.dirty) (at_other b none away)) ∙ dirty)) d rival) b rival

  known_now : (b : Block) → is_some (g.body b) ≡ true → is_known (own_of f) b ≡ true
  known_now b is = elim (cases_Bool (same_block b c)) [
    | inl same ↦ ap (λ (d : Block). is_known (own_of f) d) (same_block-is b c same) ∙ known
    | inr none ↦ h.marks.known b (sym (ap (λ (v : Bool). is_some (cond v (Some (record { bytes = after; torn = false })) (f.body b))) none) ∙ is)
  ]

  dirty_before : (b : Block) → is_some (g.before b) ≡ true → (g.mark b).dirty ≡ true
  dirty_before = by_block (λ b. is_some (g.before b) ≡ true → (g.mark b).dirty ≡ true)
      (λ is. ap (λ (x : Mark). x.dirty) own_mark)
      (λ b none rival is. absurd (true≢false (sym is ∙ ap (λ (v : Bool). is_some (cond v (Some (body_before f c present)) (f.before b))) none ∙ ap (λ (o : Option Body). is_some o) (alone b rival))))
      (λ b none away is. ap (λ (x : Mark). x.dirty) (at_other b none away) ∙ h.marks.changed b (sym (ap (λ (v : Bool). is_some (cond v (Some (body_before f c present)) (f.before b))) none) ∙ is))

  same_mark : {X : Type 0} (of : Mark → X) → ((x : Mark) → of (changed_mark until x) ≡ of x) → ((x : Mark) → of (rival_mark until x) ≡ of x) → (b : Block) → of (g.mark b) ≡ of (f.mark b)
  same_mark of own rival = by_block (λ b. of (g.mark b) ≡ of (f.mark b)) (ap of own_mark ∙ own (f.mark c)) (λ b none is. ap of (at_rival b none is) ∙ rival (f.mark b)) (λ b none away. ap of (at_other b none away))

  is_marked : (test : Mark → Bool) → ((x : Mark) → test (changed_mark until x) ≡ test x) → ((x : Mark) → test (rival_mark until x) ≡ test x) → (b : Block) → IsMarked test f b → IsMarked test g b
  is_marked test own rival b (inl is) = inl (same_mark test own rival b ∙ is)
  is_marked test own rival b (inr x) = inr (x.0, x.1, same_mark test own rival x.0 ∙ x.2)

  -- ---- the log

  chained : Chained s h.ring h.restarts h.fields h.noted disk m h.pages f.log g.log us g.ends f.commits (0 + length ps)
  chained = chain s h.ring h.restarts h.fields h.noted disk c old after f.tx ps 0 f.log f.last h.pages m f.ends f.commits h.stands h.holds h.below may h.by_pages.counted h.by_pages.ends (λ none. absurd (omega (arith, none)))

  more_number : h.ring.oldest + length chained.more ≡ until
  more_number = omega (arith, chained.number (omega (arith, some_pieces (f.mark c).imaged)), chained.stands.ring.oldest)

  log_is : n.log ≡ entries_on chained.more
  log_is = ap (λ (es : List Entry). es ++ us) h.holds.kept.holds.log ∙ sym (by_all us h.pages chained.more chained.grows)

  until_now : (b : Block) (k : ℕ) → k < length chained.more → has_update (get_or chained.more k []) b ≡ true → h.ring.oldest + suc k ≤ (g.mark b).until
  until_now b k lt has = elim (cases_Bool (same_block b c)) [
    | inl same ↦ (let e = ap (λ (x : Mark). x.until) (at_own b same) in omega (arith, e, more_number, lt))
    | inr none ↦ elim (by_page us h.pages chained.more chained.grows b k lt has) [
      | inl there ↦ (let e = until_same none in omega (arith, e, h.by_pages.until b k there.0 there.1))
      | inr own ↦ absurd (true≢false (sym own ∙ updates_only m.window.tx c us b updates_are none))
    ]
  ]
    where
      until_same : same_block b c ≡ false → (g.mark b).until ≡ (f.mark b).until
      until_same none = elim (cases_Bool (are_rivals c b)) [
        | inl rival ↦ ap (λ (x : Mark). x.until) (at_rival b none rival)
        | inr away ↦ ap (λ (x : Mark). x.until) (at_other b none away)
      ]

  -- whole in a list before, and with the updates behind it
  ends_same : (l : List Entry) → ended_with w'.tx (l ++ us) ≡ ended_with m.window.tx l
  ends_same l = ap (λ (t : ℕ). ended_with t (l ++ us)) (same_tx m.window us) ∙ fun_ext (λ u. ap (λ (e : ℕ → Bool). e u || (u == m.window.tx)) (ends-updates l m.window.tx c us updates_are))

  imaged_own : (l : List Entry) → IsImaged w' (l ++ us) c
  imaged_own l = record {
    has = has_update-append l us c ∙ or-true (has_update l c) (has_update us c) (updates_some m.window.tx c us updates_are some_us);
    last = ap (λ (e : ℕ → Bool). last_said e (l ++ us) c) (ends_same l) ∙ last_said-append (ended_with m.window.tx l) l us c
        ∙ ap (λ (o : Option Bool). option_or o (last_said (ended_with m.window.tx l) l c)) (said_own (ended_with m.window.tx l) m.window.tx c us (ends_own l m.window.tx) updates_are some_us);
  }

  imaged_other : (l : List Entry) (b : Block) → same_block b c ≡ false → are_rivals c b ≡ false → IsImaged m.window l b → IsImaged w' (l ++ us) b
  imaged_other l b none away x = record {
    has = has_update-append l us b ∙ ap (λ (v : Bool). v || has_update us b) x.has;
    last = ap (λ (e : ℕ → Bool). last_said e (l ++ us) b) (ends_same l) ∙ last_said-append (ended_with m.window.tx l) l us b
        ∙ ap (λ (o : Option Bool). option_or o (last_said (ended_with m.window.tx l) l b)) (said_none (ended_with m.window.tx l) m.window.tx c us b updates_are none (rivals_both b c ∙ away)) ∙ x.last;
  }

  behind_place : m.begun ≡ true → drop m.place (m.log ++ us) ≡ drop m.place m.log ++ us
  behind_place begun = drop-append-le m.place m.log us (h.sound.place begun)

  imaged_now : (b : Block) → (g.mark b).imaged ≡ true → IsImaged w' (m.log ++ us) b × (m.begun ≡ true → IsImaged w' (drop m.place (m.log ++ us)) b)
  imaged_now = by_block (λ b. (g.mark b).imaged ≡ true → IsImaged w' (m.log ++ us) b × (m.begun ≡ true → IsImaged w' (drop m.place (m.log ++ us)) b))
      (λ is. (imaged_own m.log, λ begun. subst (λ (l : List Entry). IsImaged w' l c) (sym (behind_place begun)) (imaged_own (drop m.place m.log))))
      (λ b none rival is. absurd (true≢false (sym is ∙ ap (λ (x : Mark). x.imaged) (at_rival b none rival))))
      (λ b none away is.
      let x = h.by_pages.imaged b (sym (ap (λ (x : Mark). x.imaged) (at_other b none away)) ∙ is) in
      (imaged_other m.log b none away x.0, λ begun. subst (λ (l : List Entry). IsImaged w' l b) (sym (behind_place begun)) (imaged_other (drop m.place m.log) b none away (x.1 begun))))

  killed_now : (b : Block) → n.dead b ≡ true → IsKilled chained.more h.ring.oldest (g.mark b).killed b
  killed_now = by_block (λ b. n.dead b ≡ true → IsKilled chained.more h.ring.oldest (g.mark b).killed b)
      (λ dead. absurd (true≢false (sym dead ∙ ap (λ (v : Bool). not v && (m.dead c || (are_rivals c c && m.dirty c))) (same_self c))))
      (λ b none rival dead. elim (cases_Bool (f.mark b).dirty) [
        | inl dirty ↦
            let killed : (g.mark b).killed ≡ until = ap (λ (x : Mark). x.killed) (at_rival b none rival) ∙ ap (λ (v : Bool). cond v until (f.mark b).killed) dirty in
            let all : length chained.more ≤ (g.mark b).killed - h.ring.oldest = omega (arith, killed, more_number) in
            record {
              ousted = subst (λ (es : List Entry). IsOusted es b) (log_is ∙ sym (all_of chained.more ((g.mark b).killed - h.ring.oldest) all)) (ousted_now m.log m.window.tx c us b updates_are some_us none (rivals_both b c ∙ rival));
              quiet = ap (λ (es : List Entry). has_update es b) (all_dropped chained.more ((g.mark b).killed - h.ring.oldest) all);
              within = omega (arith, killed, more_number);
            }
        | inr clean ↦
            let killed : (g.mark b).killed ≡ (f.mark b).killed = ap (λ (x : Mark). x.killed) (at_rival b none rival) ∙ ap (λ (v : Bool). cond v until (f.mark b).killed) clean in
            let was : m.dead b ≡ true = was_dead (m.dead b) (m.dirty b) (h.marks.dirty b ∙ ap (λ (v : Bool). v && h.geometry.has_spelling b (m.window.body b)) clean)
            (sym (ap₂ (λ (v : Bool) (u : Bool). not v && (m.dead b || (u && m.dirty b))) none rival) ∙ dead) in
            subst (λ (k : ℕ). IsKilled chained.more h.ring.oldest k b) (sym killed)
            (by_killed us h.pages chained.more chained.grows h.ring.oldest (f.mark b).killed b (updates_only m.window.tx c us b updates_are none) (h.by_pages.killed b was))
      ])
      (λ b none away dead.
      let was : m.dead b ≡ true = sym (or-false (m.dead b)) ∙ sym (ap₂ (λ (v : Bool) (u : Bool). not v && (m.dead b || (u && m.dirty b))) none away) ∙ dead in
      subst (λ (k : ℕ). IsKilled chained.more h.ring.oldest k b) (sym (ap (λ (x : Mark). x.killed) (at_other b none away)))
      (by_killed us h.pages chained.more chained.grows h.ring.oldest (f.mark b).killed b (updates_only m.window.tx c us b updates_are none) (h.by_pages.killed b was)))
    where
      was_dead : (d x : Bool) → x ≡ false → (d || x) ≡ true → d ≡ true
      was_dead true x none is = refl
      was_dead false true none is = absurd (true≢false none)
      was_dead false false none is = is

      all_of : (ps : List (List Entry)) (k : ℕ) → length ps ≤ k → entries_on (take k ps) ≡ entries_on ps
      all_of ps k le = ap entries_on (take_all k ps le)

  commit_now : (b : Block) (k : ℕ) → k < length w'.waiting → has_update (get_or w'.waiting k []) b ≡ true → f.commits ≤ k + (g.mark b).commit
  commit_now b k lt has =
      let e = same_mark (λ (x : Mark). x.commit) (λ x. refl) (λ x. refl) b in
      omega (arith, e, h.by_pages.commit b k (omega (arith, lt, ap (λ (ws : List (List Entry)). length ws) same_waiting)) (ap (λ (ws : List (List Entry)). has_update (get_or ws k []) b) (sym same_waiting) ∙ has))

  pub changes_well : (n : Store) × StandsBehind (changed_facts c at new present f) disk n × AfterChange c at new (store_window m) (store_window n)
  changes_well = (n, stands, follows)
    where
      follows : AfterChange c at new (store_window m) (store_window n)
      follows = record {
        bytes = sym body_is ∙ ap (λ (bs : List ℕ). written at new bs) now.bytes;
        torn = windows_move_law.whole h.geometry m c us may_change;
        elsewhere = λ b none. windows_move_law.present h.geometry m n step h.sound b none;
        is_open = same_open m.window us ∙ h.window.is_open ∙ opened;
        waiting = ap (λ (ws : List (List Entry)). length ws) same_waiting;
        others = λ k le b. subst (λ (j : ℕ). (store_window n).before j b ≡ (store_window m).before k b) (let e : 0 + k ≡ k = omega arith in e)
            (windows_move_law.members h.geometry m n step b refl k (omega (arith, le))).1;
        claimed = claims_move.step h.geometry m n step h.sound;
      }

      stands : StandsBehind g disk n
      stands = record {
        geometry = h.geometry;
        volume = h.volume;
        lap = h.lap;
        ring = h.ring;
        pages = chained.more;
        restarts = h.restarts;
        fields = h.fields;
        noted = h.noted;
        stands = chained.stands;
        holds = log_kept s (numbers_of g h.ring chained.more h.restarts h.fields h.noted) (record m { log = m.log ++ us }) disk chained.holds n disk
            (record { log_is = refl; synced_is = refl; done_is = refl; sent_is = refl; place_is = refl; begun_is = refl; renamed_is = refl; replaced_is = refl })
            (record { durable = λ k i a b c. refl; written = λ k i a b c. refl });
        below = λ begun. omega (arith, h.below begun, chained.rises);
        note = h.note;
        same = h.same;
        sized = h.sized;
        own_pages = h.own_pages;
        closes = subst (λ (o : Option SentRestart). CloseNone false o h.restarts h.fields (length chained.more) (h.ring.oldest + length chained.more - h.noted)) (sym (sent_with (change_acts f c at new present) f.log f.tx f.last))
            (goes_on f.log.sent h.restarts h.fields (length h.pages) (h.ring.oldest + length h.pages - h.noted) (length chained.more) (h.ring.oldest + length chained.more - h.noted) h.closes);
        placed = all_append (λ (x : Entry). is_misplaced f.place.clusters x.act ≡ false) m.log us h.placed (placed_pieces f.place.clusters c old after size size_after refl volume ps (are_pieces (f.mark c).imaged) f.log f.tx f.last);
        sound = sound-step h.geometry m n step h.sound;
        window = record {
          is_open = same_open m.window us ∙ h.window.is_open;
          tx = same_tx m.window us ∙ h.window.tx;
          waiting = ap (λ (ws : List (List Entry)). f.durable + length ws) same_waiting ∙ h.window.waiting;
          body = body_now;
          changed = changed_now;
          before = before_now;
        };
        marks = record {
          dirty = dirty_now;
          dead = dead_now;
          kept = kept_now;
          apart = apart_now;
          lone = lone_now;
          known = known_now;
          changed = dirty_before;
          wet = λ b is. is_marked (λ (x : Mark). x.wet) (λ x. refl) (λ x. refl) b (h.marks.wet b is);
          owed = λ begun b is. same_mark (λ (x : Mark). x.owed) (λ x. refl) (λ x. refl) b ∙ h.marks.owed begun b is;
          due = λ begun b is. is_marked (λ (x : Mark). x.due) (λ x. refl) (λ x. refl) b (h.marks.due begun b is);
        };
        by_pages = record {
          some = by_some us h.pages chained.more chained.grows h.by_pages.some;
          imaged = imaged_now;
          until = until_now;
          commit = commit_now;
          killed = killed_now;
          counted = chained.counted;
          ends = chained.tells;
          begun = h.by_pages.begun;
        };
      }

-- ---- the call

same_gives : (gives : Option (List (List ℕ))) (disk : Disk) (o : Option Disk) (c : Block) (kept : Option Body) (present : Body) → o ≡ Some disk → SeesDisk gives o → IfSome gives (λ d. unwrap_or kept (content_of (sector_of d) c) ≡ present)
    → unwrap_or kept (content_of (seen disk) c) ≡ present
same_gives None disk o c kept present is sees has = absurd (subst (λ (x : Option Disk). SeesDisk None x) is sees)
same_gives (Some d) disk o c kept present is sees has =
    ap (λ (at : SectorBytes). unwrap_or kept (content_of at c)) (sym (fun_ext (subst (λ (x : Option Disk). SeesDisk (Some d) x) is sees))) ∙ has

pub changes_in_memory : (count moment : ℕ) (changes : Changes) (f : StoreFacts) (c : Block) (at : ℕ) (new : List ℕ) (present : Body) (gives : Option (List (List ℕ))) → MayChangeBlock f c at new present
    → SeesDisk gives changes.disk → IfSome gives (λ disk. unwrap_or (f.body c) (content_of (sector_of disk) c) ≡ present)
    → Simulates count moment changes changes f (changed_facts c at new present f) (AfterChange c at new)
changes_in_memory count moment changes f c at new present gives may sees has =
    in_memory count moment changes f (changed_facts c at new present f) (AfterChange c at new) refl refl
    (λ disk m is h. changes_well f disk m c at new present may.opened may.known may.volume may.some may.fits may.spelled may.alone may.room h
    (is_present f disk m h c present may.known (same_gives gives disk changes.disk c (f.body c) present is sees has)))
