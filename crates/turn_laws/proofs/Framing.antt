-- The body of a block that isn't kept stays on the device over a step of a store.
use Rattle.std.proofs.Common.{◌≡◌, subst, ℕ, ◌+◌, ◌-◌, ◌*◌, ◌%◌, ◌<◌, ◌≤◌, Bool, true, false, List, [], length, drop, slice_index, Option, Some, None, Result, Ok, Err, refl, sym, ap, ◌∙◌, inl, inr, arith}
use Rattle.std.specs.Prelude.{◌⊎◌, ◌||◌, is_some, IfSome, OnOk, OnErr}
use Rattle.std.specs.Option.{option_map}
use Rattle.std.proofs.lemmas.Bool.{cases_Bool, and_parts}
use Rattle.std.proofs.lemmas.List.{length-append, length-drop}
use Rattle.host_base.specs.declared.outside.Failed.{Failed}
use Rattle.disk_model.specs.declared.block.Block.{Block}
use Rattle.disk_model.specs.declared.block.Body.{Body}
use Rattle.disk_model.specs.Bytes.{written, zeros}
use Rattle.disk_model.specs.Numbers.{spell}
use Rattle.disk_model.specs.Sectors.{sectors, sector_of, same_block, are_rivals}
use Rattle.disk_model.specs.Content.{content_of}
use Rattle.disk_model.proofs.Frames.{same_block-is}
use Rattle.fixup_record.specs.Protecting.{protected_bytes}
use Rattle.fixup_record.specs.Spellings.{spelled}
use Rattle.fixup_record.proofs.Protected.{length-protected}
use Rattle.sector_device.specs.Disks.{Disk, is_within}
use Rattle.sector_device.specs.Moments.{Changes}
use Rattle.sector_device.specs.Sectors.{sectors_of, IsTornBy}
use Rattle.sector_device.specs.WholeSectors.{length-sectors_of}
use Rattle.sector_device.proofs.KeptCalls.{cases_within, outside}
use Rattle.sector_device.proofs.SectorParts.{outside_stays}
use Rattle.log_model.specs.Logs.{is_in_grid}
use Rattle.txn_core.specs.log_page.declared.places.LogPlace.{LogPlace}
use Rattle.txn_core.specs.log_page.PageSpellings.{page_front}
use Rattle.txn_core.specs.log_page.Restarts.{restart_spelling}
use Rattle.txn_core.proofs.log_page.Spelled.{length-restart_spelling}
use Rattle.txn_core.specs.log_area.Areas.{RingPageOf, page_sector as area_sector, restart_sector, held_page, made_page, sent_word}
use Rattle.txn_core.specs.log_area.Calls.{Sends, IsSent, SentOrAsked, IsSentOrNot}
use Rattle.txn_core.specs.store_model.Stores.{Store}
use Rattle.txn_core.specs.store_model.Volumes.{is_known, is_free}
use Rattle.txn_core.proofs.store_model.Told.{true≢false, apart_swap}
use Rattle.txn_core.proofs.store_model.Known.{grid_apart, own_content}
use Rattle.txn_core.specs.ring_laws.Numbers.{LogSession, place_of_page}
use Rattle.txn_core.specs.ring_laws.PageBytes.{page_sector}
use Rattle.txn_core.proofs.ring_laws.Numbering.{in_ring}
use Rattle.txn_core.proofs.ring_laws.RingFacts.{has_ring}
use Rattle.txn_core.proofs.ring_laws.SeenDisks.{not_own}
use Rattle.txn_core.proofs.area_laws.Calling.{held_here}
use Rattle.flush_policy.specs.declared.facts.StoreStep.{StoreStep}
use Rattle.flush_policy.specs.declared.facts.StoreStep.TheVariants.{SealPage, WritePage, SyncDevice, WriteOut, BeginCheckpoint, WriteRestart}
use Rattle.txn_core.specs.device_blocks.declared.word.CheckWord.{CheckWord}
use Rattle.txn_core.specs.device_blocks.declared.word.CheckWord.TheVariants.{Unread, Missing, Stands, Sent}
use Rattle.txn_core.specs.device_blocks.Calls.{PutOrAsked, IsPutAgain}
use Rattle.txn_core.specs.txn_model.declared.mark.Mark.{Mark}
use Rattle.txn_core.specs.txn_model.Values.{StoreFacts, is_own}
use Rattle.txn_core.specs.txn_model.Calls.{is_ready}
use Rattle.txn_core.specs.txn_laws.Standing.{StandsBehind, session_of}
use Rattle.txn_core.proofs.txn_laws.PageWrites.{page_is_own}
use Rattle.txn_core.proofs.txn_laws.WriteOuts.{spelled_length}
use Rattle.txn_core.specs.txn_state.States.{IsStore, HasSize}
use Rattle.txn_core.specs.Calls.{is_spelled, WritesOut}
use Rattle.txn_core.specs.Seen.{word_of}
use Rattle.txn_core.specs.Steps.{MayTurn, TurnsDevice}
use Rattle.txn_core.specs.Turns.{restart_page}

-- ---- sectors outside of a write

some_list : (x y : List (List ℕ)) → Some x ≡ Some y → x ≡ y
some_list x y same = cc

torn_mix : (first : ℕ) (new disk now : List (List ℕ)) (o : Option (List (List ℕ))) → o ≡ Some now → IsTornBy first new (Some disk) o → IsTornBy first new (Some disk) (Some now)
torn_mix first new disk now o is torn = subst (λ (x : Option (List (List ℕ))). IsTornBy first new (Some disk) x) is torn

apart_of : (first n s : ℕ) → is_within first n s ≡ false → (s < first) ⊎ (first + n ≤ s)
apart_of first n s out = elim (cases_within first n s) [
  | inl within ↦ absurd (true≢false (sym within.0 ∙ out))
  | inr apart ↦ apart.1
]

sent_outside : {D T E : Type 0} (gives : D → Option (List (List ℕ))) (changes : D → Changes) (moment : D → ℕ) (begun first n : ℕ) (bytes : List ℕ) (result : Result T E) (old new : D) (disk now : List (List ℕ)) (s : ℕ)
    → Sends gives changes moment begun first bytes result old new → length bytes ≡ 512 * n → gives old ≡ Some disk → gives new ≡ Some now → is_within first n s ≡ false → sector_of now s ≡ sector_of disk s
sent_outside {D} {T} {E} gives changes moment begun first n bytes result old new disk now s sends size was is out = by result sends.whole sends.torn
  where
    count : length (sectors_of bytes) ≡ n
    count = length-sectors_of bytes ∙ omega (arith, size)

    apart : (s < first) ⊎ (first + length (sectors_of bytes) ≤ s)
    apart = subst (λ (k : ℕ). (s < first) ⊎ (first + k ≤ s)) (sym count) (apart_of first n s out)

    by : (r : Result T E) → OnOk r (gives new ≡ option_map (written first (sectors_of bytes)) (gives old)) → OnErr r (IsTornBy first (sectors_of bytes) (gives old) (gives new)) → sector_of now s ≡ sector_of disk s
    by (Ok x) whole torn =
        let same : now ≡ written first (sectors_of bytes) disk = some_list now (written first (sectors_of bytes) disk) (sym is ∙ whole ∙ ap (option_map (written first (sectors_of bytes))) was) in
        ap (λ (d : List (List ℕ)). sector_of d s) same ∙ outside first s (sectors_of bytes) disk apart
    by (Err e) whole torn =
        let mix = subst (λ (o : Option (List (List ℕ))). IsTornBy first (sectors_of bytes) o (Some now)) was (subst (λ (o : Option (List (List ℕ))). IsTornBy first (sectors_of bytes) (gives old) o) is torn) in
        outside_stays disk (sectors_of bytes) now first s mix apart

-- where the device gives the same
same_sector : (gives gave : Option (List (List ℕ))) (disk now : List (List ℕ)) (s : ℕ) → gave ≡ gives → gives ≡ Some disk → gave ≡ Some now → sector_of now s ≡ sector_of disk s
same_sector gives gave disk now s same was is = ap (λ (d : List (List ℕ)). sector_of d s) (some_list now disk (sym is ∙ same ∙ was))

-- ---- pages of the log

sent_page : {D T E : Type 0} (gives : D → Option (List (List ℕ))) (changes : D → Changes) (moment : D → ℕ) (check after : Option ℕ) (first : ℕ) (bytes : ℕ → List ℕ) (result : Result T E) (old new : D) (disk now : List (List ℕ)) (s : ℕ)
    → IsSentOrNot gives changes moment check after first bytes result old new → ((word : ℕ) → length (bytes word) ≡ 4096) → gives old ≡ Some disk → gives new ≡ Some now → is_within first 8 s ≡ false → sector_of now s ≡ sector_of disk s
sent_page {D} {T} {E} gives changes moment check after first bytes result old new disk now s sent size was is out = by result sent.sent sent.failed
  where
    one : (r : Result T E) (word : ℕ) → IsSent gives changes moment check first bytes word r old new → sector_of now s ≡ sector_of disk s
    one r word w = sent_outside gives changes moment _ first 8 (bytes word) r old new disk now s w.sends (omega (arith, size word)) was is out

    failed : (r : Result T E) (o : Option ℕ) → SentOrAsked gives changes moment check first bytes r old new o → sector_of now s ≡ sector_of disk s
    failed r (Some word) w = one r word w
    failed r None w = same_sector (gives old) (gives new) disk now s w.1.same was is

    by : (r : Result T E) → OnOk r ((word : ℕ) × IsSent gives changes moment check first bytes word r old new) → OnErr r (SentOrAsked gives changes moment check first bytes r old new after) → sector_of now s ≡ sector_of disk s
    by (Ok x) ok err = one (Ok x) ok.0 ok.1
    by (Err e) ok err = failed (Err e) after err

length-front : (last free : ℕ) → length (page_front last free) ≡ 0x40
unfolding page_front zeros spell
length-front last free = refl

length-made : (p : RingPageOf) → length p.bytes ≡ 4096 → length (made_page p) ≡ 4096
length-made p size = length-append (page_front p.last p.free) (drop 0x40 p.bytes) ∙ omega (arith, length-front p.last p.free, length-drop 0x40 p.bytes, size)

off_page : (place : LogPlace) (k first s : ℕ) → first ≡ page_sector place k → k < place.pages → is_own place [] s ≡ false → is_within first 8 s ≡ false
off_page place k first s at lt free = elim (cases_Bool (is_within (page_sector place k) 8 s)) [
  | inl within ↦ absurd (true≢false (sym (page_is_own place [] k s lt within) ∙ free))
  | inr out ↦ ap (λ (n : ℕ). is_within n 8 s) at ∙ out
]

-- where the page that is written next lies, and where the next restart page goes
module _ (f : StoreFacts) (disk : Disk) (m : Store) (h : StandsBehind f disk m) where
  page_lies : (area_sector f.log f.log.done ≡ page_sector f.place (place_of_page (session_of f h.lap) f.log.done)) × (place_of_page (session_of f h.lap) f.log.done < f.place.pages)
  page_lies =
      let s : LogSession = session_of f h.lap in
      let there = in_ring s (has_ring f.place h.stands.ring.ring.lies) f.log.done in
      let e : f.log.done % (f.log.pages - 4) + 4 ≡ place_of_page s f.log.done = ap (λ (p : ℕ). f.log.done % (p - 4) + 4) h.stands.ring.session.pages ∙ omega arith in
      (ap (λ (i : ℕ). slice_index f.log.firsts i) e ∙ h.stands.ring.session.firsts (place_of_page s f.log.done) there.inside, there.inside)

  page_size : f.log.done < f.log.sealed → (word : ℕ) → length (protected_bytes (made_page (held_page f.log f.log.done)) word) ≡ 4096
  page_size lt word = length-protected (made_page (held_page f.log f.log.done)) word ∙ length-made (held_page f.log f.log.done) (held_here (session_of f h.lap) f.log h.ring h.pages disk h.stands.ring lt).size

  restart_lies : (restart_sector f.log ≡ page_sector f.place f.log.restart) × (f.log.restart < f.place.pages)
  restart_lies =
      let area = h.stands.ring.area in
      let two = area.two in
      let some = area.some in
      let pages = h.stands.ring.session.pages in
      let inside : f.log.restart < f.place.pages = omega arith in
      (h.stands.ring.session.firsts f.log.restart inside, inside)

-- ---- write-outs

written_sector : {D : Type 0} (gives : D → Option (List (List ℕ))) (changes : D → Changes) (moment : D → ℕ) (spells : Bool) (word after : CheckWord) (c : Block) (bytes : List ℕ) (result : Result (Unit {0}) Failed) (old new : D) (disk now : List (List ℕ)) (s : ℕ)
    → WritesOut gives changes moment spells word after c bytes result old new → length bytes ≡ 512 * sectors c.kind → gives old ≡ Some disk → gives new ≡ Some now → is_within c.first (sectors c.kind) s ≡ false → sector_of now s ≡ sector_of disk s
written_sector {D} gives changes moment spells word after c bytes result old new disk now s writes size was is out = by spells result writes
  where
    spelled_size : (check : ℕ) → length (spelled c.kind check bytes) ≡ 512 * sectors c.kind
    spelled_size check = spelled_length c.kind check bytes ∙ size

    failed : (e : Failed) (o : CheckWord) → PutOrAsked {T = Unit {0}} gives changes moment word c bytes (Err e) old new o → sector_of now s ≡ sector_of disk s
    failed e (Sent check) put = sent_outside gives changes moment _ c.first (sectors c.kind) (spelled c.kind check bytes) (Err e) old new disk now s put.sends (spelled_size check) was is out
    failed e Unread put = same_sector (gives old) (gives new) disk now s put.1.same was is
    failed e Missing put = absurd put
    failed e (Stands check) put = absurd put

    again : (r : Result (Unit {0}) Failed) (raw : List ℕ) → IsPutAgain gives changes moment c raw r old new → sector_of now s ≡ sector_of disk s
    again r raw put = sent_outside gives changes moment _ c.first (sectors c.kind) raw r old new disk now s put.sends put.size was is out

    by : (t : Bool) (r : Result (Unit {0}) Failed) → WritesOut gives changes moment t word after c bytes r old new → sector_of now s ≡ sector_of disk s
    by true (Ok x) put = (let ok = put.ok in sent_outside gives changes moment _ c.first (sectors c.kind) (spelled c.kind ok.0 bytes) (Ok x) old new disk now s ok.1.put.sends (spelled_size ok.0) was is out)
    by true (Err e) put = failed e after put.failed
    by false (Ok x) put = (let ok = put.1.ok in again (Ok x) ok.0 ok.1)
    by false (Err e) put = elim put.1.failed [
      | inl asked ↦ same_sector (gives old) (gives new) disk now s asked.same was is
      | inr sent ↦ again (Err e) sent.0 sent.1
    ]

-- ---- each step

pub ready_dirty : (f : StoreFacts) (b : Block) → is_ready f b ≡ true → (f.mark b).dirty ≡ true
ready_dirty f b is = (and_parts _ _ (and_parts _ _ (and_parts _ _ is).0).0).0

module _ {D : Type 0} (gives : D → Option (List (List ℕ))) (changes : D → Changes) (moment : D → ℕ) (f g : StoreFacts) (words left : List (Block × CheckWord)) (old new : D) (disk now : List (List ℕ)) (b : Block) (raw : Disk) (m : Store) (k : IsStore f) (h : StandsBehind f raw m)
    (was : gives old ≡ Some disk) (is : gives new ≡ Some now) (known : is_known (is_own f.place []) b ≡ true) (alone : (c : Block) → are_rivals b c ≡ true → (f.mark c).dirty ≡ false) (none : f.body b ≡ None) where
  free : (s : ℕ) → is_within b.first (sectors b.kind) s ≡ true → is_own f.place [] s ≡ false
  free s within = not_own (is_own f.place []) b s known within

  -- a block that is dirty is in the grid, and has a body
  dirty_grid : (c : Block) → (f.mark c).dirty ≡ true → is_in_grid c ≡ true
  dirty_grid c dirty = elim (cases_Bool (is_in_grid c)) [
    | inl inside ↦ inside
    | inr outside ↦ absurd (true≢false (sym dirty ∙ ap (λ (x : Mark). x.dirty) (k.blocks.marked c outside)))
  ]

  dirty_kept : (c : Block) → (f.mark c).dirty ≡ true → (x : Body) × (f.body c ≡ Some x)
  dirty_kept c dirty = by (f.body c) refl (k.blocks.kept c ∙ ap (λ (t : Bool). t || (f.mark c).dead) dirty)
    where
      by : (o : Option Body) → f.body c ≡ o → is_some o ≡ true → (x : Body) × (f.body c ≡ Some x)
      by (Some x) at some = (x, at)
      by None at some = absurd (true≢false (sym some))

  -- which isn't this one, nor a rival
  dirty_other : (c : Block) (x : Body) → f.body c ≡ Some x → same_block b c ≡ false
  dirty_other c x kept = elim (cases_Bool (same_block b c)) [
    | inl same ↦ (let one : b ≡ c = same_block-is b c same in absurd (none_some x (sym none ∙ ap f.body one ∙ kept)))
    | inr other ↦ other
  ]
    where
      none_some : (x : Body) → None ≡ Some x → ⊥
      none_some x same = absurd cc

  dirty_apart : (c : Block) (x : Body) (s : ℕ) → (f.mark c).dirty ≡ true → f.body c ≡ Some x → is_within b.first (sectors b.kind) s ≡ true → is_within c.first (sectors c.kind) s ≡ false
  dirty_apart c x s dirty kept here =
      grid_apart b c s (and_parts (is_in_grid b) (is_free (is_own f.place []) b) known).0 (dirty_grid c dirty) no_rivals (apart_swap b c (dirty_other c x kept)) here
    where
      no_rivals : are_rivals b c ≡ false
      no_rivals = elim (cases_Bool (are_rivals b c)) [
        | inl rivals ↦ absurd (true≢false (sym dirty ∙ alone c rivals))
        | inr apart ↦ apart
      ]

  stays_at : (step : StoreStep) (result : Result (Unit {0}) Failed) → MayTurn f step → TurnsDevice gives changes moment step result f g words left old new → (s : ℕ) → is_within b.first (sectors b.kind) s ≡ true → sector_of now s ≡ sector_of disk s
  stays_at SealPage result may turned s within = same_sector (gives old) (gives new) disk now s (ap gives turned) was is
  stays_at WritePage result may turned s within =
      let lies = page_lies f raw m h in
      sent_page gives changes moment f.log.check g.log.check (area_sector f.log f.log.done) (protected_bytes (made_page (held_page f.log f.log.done))) result old new disk now s turned (page_size f raw m h may) was is
      (off_page f.place (place_of_page (session_of f h.lap) f.log.done) (area_sector f.log f.log.done) s lies.0 lies.1 (free s within))
  stays_at SyncDevice result may turned s within = same_sector (gives old) (gives new) disk now s turned.0 was is
  stays_at (WriteOut c) result may turned s within =
      let dirty = ready_dirty f c may in
      let kept = dirty_kept c dirty in
      let size : length kept.0.bytes ≡ 512 * sectors c.kind = subst (λ (o : Option Body). IfSome o (HasSize c)) kept.1 (k.blocks.sized c) in
      written_sector gives changes moment (is_spelled f c) (word_of words c) turned.now c kept.0.bytes result old new disk now s (turned.sent kept.0 kept.1) size was is (dirty_apart c kept.0 s dirty kept.1 within)
  stays_at BeginCheckpoint result may turned s within = same_sector (gives old) (gives new) disk now s (ap gives turned) was is
  stays_at WriteRestart result may turned s within =
      let lies = restart_lies f raw m h in
      sent_page gives changes moment (sent_word f.log.sent) (sent_word g.log.sent) (restart_sector f.log) (protected_bytes (restart_spelling (restart_page false f))) result old new disk now s turned
      (λ word. length-protected (restart_spelling (restart_page false f)) word ∙ length-restart_spelling (restart_page false f)) was is
      (off_page f.place f.log.restart (restart_sector f.log) s lies.0 lies.1 (free s within))

  pub body_stays : (step : StoreStep) (result : Result (Unit {0}) Failed) → MayTurn f step → TurnsDevice gives changes moment step result f g words left old new → content_of (sector_of now) b ≡ content_of (sector_of disk) b
  body_stays step result may turned = own_content b (sector_of now) (sector_of disk) (stays_at step result may turned)
