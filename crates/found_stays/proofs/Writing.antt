-- Writes that touch no sector of these blocks, and syncs, leave them.
use Rattle.std.proofs.Common.{◌≡◌, ◌⊎◌, subst, ℕ, ◌-◌, ◌*◌, Bool, true, false, List, ◌∷◌, length, Option, Some, None, Result, Ok, Err, refl, sym, ap, ◌∙◌, inl, inr, arith}
use Rattle.std.specs.Prelude.{if◌then◌else◌}
use Rattle.host_base.specs.declared.outside.Failed.{Failed}
use Rattle.disk_model.specs.declared.block.Block.{Block}
use Rattle.disk_model.specs.Sectors.{sectors, sector_of}
use Rattle.fixup_record.specs.Spellings.{spelled}
use Rattle.sector_device.specs.Disks.{Disk, IsBetween, is_within, newest, put, settled}
use Rattle.sector_device.specs.Moments.{Changes, Writes, Syncs}
use Rattle.sector_device.specs.Sectors.{sectors_of}
use Rattle.sector_device.specs.WholeSectors.{length-sectors_of}
use Rattle.sector_device.proofs.Images.{known_after_write, known_after_sync}
use Rattle.txn_core.specs.log_area.Calls.{Sends, IsSent, SentOrAsked, IsSentOrNot}
use Rattle.txn_core.specs.store_model.Geometry.{SectorBytes}
use Rattle.txn_core.proofs.txn_laws.Telling.{known_before_write, known_before_sync}
use Rattle.txn_core.proofs.txn_laws.WriteOuts.{spelled_length}
use Rattle.txn_core.specs.device_blocks.declared.word.CheckWord.{CheckWord}
use Rattle.txn_core.specs.device_blocks.declared.word.CheckWord.TheVariants.{Unread, Missing, Stands, Sent}
use Rattle.txn_core.specs.device_blocks.Calls.{PutOrAsked, IsPutOrNot, IsPutAgain}
use Rattle.txn_core.specs.Calls.{WritesOut}
use Rattle.found_stays.specs.Found.{is_in, HasFirst, StaysOver}
use Rattle.found_stays.proofs.Bearing.{call_stays, none_stays}

-- ---- disks

-- none of these sectors is one of so many from this one on
abbrev pub Misses : List Block → (at n : ℕ) → Type 0
Misses found at n = (s : ℕ) → is_in found s ≡ true → is_within at n s ≡ false

between_first : (found : List Block) (first : SectorBytes) (at : ℕ) (new : List (List ℕ)) (d e : Disk) → Misses found at (length new) → IsBetween d (put at new d) e → HasFirst found first d → HasFirst found first e
between_first found first at new d e misses between had s inside = (by (between.written s) ∙ (had s inside).0, between.durable s ∙ (had s inside).1)
  where
    by : (e.written s ≡ d.written s) ⊎ (e.written s ≡ (put at new d).written s) → e.written s ≡ d.written s
    by (inl same) = same
    by (inr same) = same ∙ ap (λ (t : Bool). if t then sector_of new (s - at) ∷ d.written s else d.written s) (misses s inside)

settled_first : (found : List Block) (first : SectorBytes) (d : Disk) → HasFirst found first d → HasFirst found first (settled d)
settled_first found first d had s inside = (refl, ap (λ (values : List (List ℕ)). newest values (d.durable s)) (had s inside).0 ∙ (had s inside).1)

-- ---- calls

pub write_stays : {T E : Type 0} (count moment at : ℕ) (new : List (List ℕ)) (result : Result T E) (found : List Block) (first : SectorBytes) (old now : Changes) → Writes moment at new result old now → ((d : Disk) → old.disk ≡ Some d → Misses found at (length new)) → StaysOver count found first old now
write_stays {T} {E} count moment at new result found first old now writes misses = call_stays count moment found first old now after (known_before_write moment at new result old now writes) writes.past
  where
    after : (d : Disk) → old.disk ≡ Some d → HasFirst found first d → (e : Disk) × (now.disk ≡ Some e) × HasFirst found first e
    after d was had = (let next = known_after_write moment at new result old now d writes was in (next.0, next.1, between_first found first at new d next.0 (misses d was) next.2 had))

pub sync_stays : {T E : Type 0} (count moment : ℕ) (result : Result T E) (found : List Block) (first : SectorBytes) (old now : Changes) → Syncs moment result old now → StaysOver count found first old now
sync_stays {T} {E} count moment result found first old now syncs = call_stays count moment found first old now after (known_before_sync moment result old now syncs) syncs.past
  where
    after : (d : Disk) → old.disk ≡ Some d → HasFirst found first d → (e : Disk) × (now.disk ≡ Some e) × HasFirst found first e
    after d was had = elim (known_after_sync moment result old now d syncs was) [
      | inl same ↦ (d, same, had)
      | inr dried ↦ (settled d, dried, settled_first found first d had)
    ]

-- ---- bytes that are sent

module _ {D : Type 0} (gives : D → Option (List (List ℕ))) (changes : D → Changes) (moment : D → ℕ) (count : ℕ) (found : List Block) (first : SectorBytes) where
  pub sends_stay : {T E : Type 0} (begun at n : ℕ) (bytes : List ℕ) (result : Result T E) (old new : D) → Sends gives changes moment begun at bytes result old new → ((d : Disk) → (changes old).disk ≡ Some d → (length bytes ≡ 512 * n) × Misses found at n) → StaysOver count found first (changes old) (changes new)
  sends_stay {T} {E} begun at n bytes result old new sends fits =
      write_stays count begun at (sectors_of bytes) result found first (changes old) (changes new) sends.writes
      (λ d was. let fit = fits d was in let size = fit.0 in subst (Misses found at) (sym (length-sectors_of bytes ∙ omega (arith, size))) fit.1)

  -- a page of eight sectors
  pub sent_stays : {T E : Type 0} (check : Option ℕ) (at : ℕ) (bytes : ℕ → List ℕ) (word : ℕ) (result : Result T E) (old new : D) → IsSent gives changes moment check at bytes word result old new → ((d : Disk) → (changes old).disk ≡ Some d → ((word : ℕ) → length (bytes word) ≡ 4096) × Misses found at 8)
      → StaysOver count found first (changes old) (changes new)
  sent_stays {T} {E} check at bytes word result old new sent fits = sends_stay _ at 8 (bytes word) result old new sent.sends (λ d was. ((fits d was).0 word, (fits d was).1))

  pub asked_stays : {T E : Type 0} (check : Option ℕ) (at : ℕ) (bytes : ℕ → List ℕ) (result : Result T E) (old new : D) (after : Option ℕ) → SentOrAsked gives changes moment check at bytes result old new after → ((d : Disk) → (changes old).disk ≡ Some d → ((word : ℕ) → length (bytes word) ≡ 4096) × Misses found at 8)
      → StaysOver count found first (changes old) (changes new)
  asked_stays {T} {E} check at bytes result old new (Some word) sent fits = sent_stays check at bytes word result old new sent fits
  asked_stays {T} {E} check at bytes result old new None asked fits = none_stays count found first (changes old) (changes new) asked.1.unchanged

  pub page_stays : {T E : Type 0} (check after : Option ℕ) (at : ℕ) (bytes : ℕ → List ℕ) (result : Result T E) (old new : D) → IsSentOrNot gives changes moment check after at bytes result old new → ((d : Disk) → (changes old).disk ≡ Some d → ((word : ℕ) → length (bytes word) ≡ 4096) × Misses found at 8)
      → StaysOver count found first (changes old) (changes new)
  page_stays {T} {E} check after at bytes (Ok x) old new sent fits = sent_stays check at bytes sent.sent.0 (Ok x) old new sent.sent.1 fits
  page_stays {T} {E} check after at bytes (Err e) old new sent fits = asked_stays check at bytes (Err e) old new after sent.failed fits

  -- ---- the body of a block

  -- it is as long as the block, of which none of these sectors is one
  abbrev pub FitsBlock : D → Block → List ℕ → Type 0
  FitsBlock old b bytes = (d : Disk) → (changes old).disk ≡ Some d → (length bytes ≡ 512 * sectors b.kind) × Misses found b.first (sectors b.kind)

  body_stays : (result : Result (Unit {0}) Failed) (b : Block) (bytes : List ℕ) (check begun : ℕ) (old new : D) → Sends gives changes moment begun b.first (spelled b.kind check bytes) result old new → FitsBlock old b bytes → StaysOver count found first (changes old) (changes new)
  body_stays result b bytes check begun old new sends fits = sends_stay begun b.first (sectors b.kind) (spelled b.kind check bytes) result old new sends (λ d was. (spelled_length b.kind check bytes ∙ (fits d was).0, (fits d was).1))

  failed_stays : (e : Failed) (word after : CheckWord) (b : Block) (bytes : List ℕ) (old new : D) → PutOrAsked {T = Unit {0}} gives changes moment word b bytes (Err e) old new after → FitsBlock old b bytes → StaysOver count found first (changes old) (changes new)
  failed_stays e word (Sent check) b bytes old new put fits = body_stays (Err e) b bytes check _ old new put.sends fits
  failed_stays e word Unread b bytes old new put fits = none_stays count found first (changes old) (changes new) put.1.unchanged
  failed_stays e word Missing b bytes old new put fits = absurd put
  failed_stays e word (Stands check) b bytes old new put fits = absurd put

  pub put_stays : (word after : CheckWord) (b : Block) (bytes : List ℕ) (result : Result (Unit {0}) Failed) (old new : D) → IsPutOrNot gives changes moment word after b bytes result old new → FitsBlock old b bytes → StaysOver count found first (changes old) (changes new)
  put_stays word after b bytes (Ok x) old new put fits = (let ok = put.ok in body_stays (Ok x) b bytes ok.0 _ old new ok.1.put.sends fits)
  put_stays word after b bytes (Err e) old new put fits = failed_stays e word after b bytes old new put.failed fits

  again_stays : (result : Result (Unit {0}) Failed) (b : Block) (bytes raw : List ℕ) (old new : D) → IsPutAgain gives changes moment b raw result old new → FitsBlock old b bytes → StaysOver count found first (changes old) (changes new)
  again_stays result b bytes raw old new again fits = sends_stay _ b.first (sectors b.kind) raw result old new again.sends (λ d was. (again.size, (fits d was).1))

  -- what a write-out does
  pub out_stays : (spells : Bool) (word after : CheckWord) (b : Block) (bytes : List ℕ) (result : Result (Unit {0}) Failed) (old new : D) → WritesOut gives changes moment spells word after b bytes result old new → FitsBlock old b bytes → StaysOver count found first (changes old) (changes new)
  out_stays true word after b bytes result old new out fits = put_stays word after b bytes result old new out fits
  out_stays false word after b bytes (Ok x) old new out fits = (let ok = out.1.ok in again_stays (Ok x) b bytes ok.0 old new ok.1 fits)
  out_stays false word after b bytes (Err e) old new out fits = elim out.1.failed [
    | inl asked ↦ none_stays count found first (changes old) (changes new) asked.unchanged
    | inr sent ↦ again_stays (Err e) b bytes sent.0 old new sent.1 fits
  ]
