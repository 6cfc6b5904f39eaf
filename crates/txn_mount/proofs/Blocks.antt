-- A block that a mount puts out may be: it is known, the list doesn't shadow it and covers it, and its body has a spelling.
use Rattle.std.proofs.Common.{◌≡◌, ◌⊎◌, ℕ, zero, suc, ◌+◌, ◌-◌, ◌*◌, ◌<◌, ◌≤◌, Bool, true, false, List, [], ◌∷◌, Some, refl, sym, ap, ap₂, ◌∙◌, inl, inr, arith, lt-ltb, le-leb}
use Rattle.std.specs.Prelude.{◌&&◌, ◌||◌, not}
use Rattle.std.specs.List.{list_any, list_all, range_with_len}
use Rattle.disk_model.specs.declared.block.Block.{Block}
use Rattle.disk_model.specs.declared.block.BlockKind.{BlockKind}
use Rattle.disk_model.specs.declared.block.BlockKind.TheVariants.{Plain, FileRec, Index}
use Rattle.disk_model.specs.Sectors.{sectors, same_kind, overlap}
use Rattle.disk_model.specs.Content.{Content}
use Rattle.fixup_record.specs.Spellings.{has_spelling}
use Rattle.sector_device.specs.Disks.{is_within}
use Rattle.log_model.specs.declared.entry.Entry.{Entry}
use Rattle.log_model.specs.Logs.{updates, is_shadowed, is_covered_whole, is_other, is_written_out, is_partial, recovered}
use Rattle.txn_core.specs.log_page.declared.places.LogPlace.{LogPlace}
use Rattle.log_recovery.specs.log_reading.LogPages.{log_sector}
use Rattle.log_recovery.specs.log_reading.Rings.{IsRingPlace}
use Rattle.txn_core.specs.log_area.Areas.{page_first}
use Rattle.log_recovery.specs.LogStates.{LogState}
use Rattle.log_recovery.specs.Own.{is_in_block, is_in_log}
use Rattle.log_recovery.specs.Own.{is_own as is_own_block}
use Rattle.log_recovery.specs.Writing.{is_spelled, is_put_out, is_barred}
use Rattle.store_model.specs.Logs.{has_update}
use Rattle.store_model.specs.Volumes.{is_free, is_known}
use Rattle.store_model.proofs.Known.{within_is}
use Rattle.txn_core.specs.ring_laws.PageBytes.{page_sector}
use Rattle.txn_core.proofs.ring_laws.LogSectors.{lies_in_row}
use Rattle.txn_core.proofs.ring_laws.SeenDisks.{written_updated}
use Rattle.txn_core.proofs.txn_laws.Syncs.{and_left, and_right}
use Rattle.txn_core.specs.txn_model.Values.{is_own}
use Rattle.txn_mount.specs.Contents.{ReadsLog, ReadsWell}
use Rattle.txn_mount.proofs.Frames.{updated_whole, updated_none}
use Rattle.txn_mount.proofs.Starting.{out_written}

-- ---- tests over ranges

any_range : (p : ℕ → Bool) (n from : ℕ) (q : Bool) → list_any p (range_with_len from n) ≡ true → ((k : ℕ) → from ≤ k → k < from + n → p k ≡ true → q ≡ true) → q ≡ true
any_range p zero from q is found = absurd cc
any_range p (suc n) from q is found = go (λ h. any_range p n (from + 1) q h (λ k le lt here. found k (omega (arith, le)) (omega (arith, lt)) here)) (p from) refl is
  where
    go : (list_any p (range_with_len (from + 1) n) ≡ true → q ≡ true) → (v : Bool) → p from ≡ v → (v || list_any p (range_with_len (from + 1) n)) ≡ true → q ≡ true
    go more true here h = found from (omega arith) (omega arith) here
    go more false none h = more h

range_any : (p : ℕ → Bool) (n from k : ℕ) → from ≤ k → k < from + n → p k ≡ true → list_any p (range_with_len from n) ≡ true
range_any p zero from k le lt here = absurd (omega (arith, le, lt))
range_any p (suc n) from k le lt here = go (λ low. range_any p n (from + 1) k low (omega (arith, lt)) here) (p from) refl
  where
    at_first : k ≡ from → p from ≡ true
    at_first is = ap p (sym is) ∙ here

    go : (from + 1 ≤ k → list_any p (range_with_len (from + 1) n) ≡ true) → (v : Bool) → p from ≡ v → (v || list_any p (range_with_len (from + 1) n)) ≡ true
    go more true is = refl
    go more false none = more (above none)
      where
        above : p from ≡ false → from + 1 ≤ k
        above no_one = grind (arith, le, at_first)

range_all : (p : ℕ → Bool) (n from : ℕ) → ((k : ℕ) → from ≤ k → k < from + n → p k ≡ true) → list_all p (range_with_len from n) ≡ true
range_all p zero from each = refl
range_all p (suc n) from each = ap₂ (λ (x : Bool) (y : Bool). x && y) (each from (omega arith) (omega arith)) (range_all p n (from + 1) (λ k le lt. each k (omega (arith, le)) (omega (arith, lt))))

any_block : (p p' : Block → Bool) (bs : List Block) → ((b : Block) → p b ≡ true → p' b ≡ true) → list_any p bs ≡ true → list_any p' bs ≡ true
any_block p p' [] each is = is
any_block p p' (b ∷ bs) each is = go (λ h. any_block p p' bs each h) (p b) refl is
  where
    or_left : (x y : Bool) → x ≡ true → (x || y) ≡ true
    or_left true y h = refl
    or_left false y h = absurd cc

    or_right : (x y : Bool) → y ≡ true → (x || y) ≡ true
    or_right true y h = refl
    or_right false y h = h

    go : (list_any p bs ≡ true → list_any p' bs ≡ true) → (v : Bool) → p b ≡ v → (v || list_any p bs) ≡ true → (p' b || list_any p' bs) ≡ true
    go more true here h = or_left (p' b) (list_any p' bs) (each b here)
    go more false none h = or_right (p' b) (list_any p' bs) (more h)

-- ---- an own sector in a block

module _ (place : LogPlace) (ring : IsRingPlace place) (kept : List Block) (b : Block) (s : ℕ) (low : b.first ≤ s) (high : s < b.first + sectors b.kind) where
  in_block : (m : ℕ) → log_sector place m ≡ Some s → is_in_block b (log_sector place m) ≡ true
  in_block m is = ap (is_in_block b) is ∙ ap₂ (λ (x : Bool) (y : Bool). x && y) (le-leb b.first s low) (lt-ltb s (b.first + sectors b.kind) high)

  by_page : (k : ℕ) → k < place.pages → is_within (page_first place k) 8 s ≡ true → is_in_log place b ≡ true
  unfolding page_sector
  by_page k lt within =
      let at = within_is (page_first place k) 8 s within in
      let i = s - page_first place k in
      range_any (λ n. is_in_block b (log_sector place n)) (8 * place.pages) 0 (8 * k + i) (omega arith) (omega (arith, lt, at.0, at.1))
      (in_block (8 * k + i) (lies_in_row place ring k i lt (omega (arith, at.0, at.1)) ∙ (let e : page_first place k + i ≡ s = omega (arith, at.0) in ap (λ (n : ℕ). Some n) e)))

  by_kept : (d : Block) → is_within d.first (sectors d.kind) s ≡ true → overlap b d ≡ true
  by_kept d within =
      let at = within_is d.first (sectors d.kind) s within in
      ap₂ (λ (x : Bool) (y : Bool). x && y) (lt-ltb b.first (d.first + sectors d.kind) (omega (arith, low, at.1))) (lt-ltb d.first (b.first + sectors b.kind) (omega (arith, high, at.0)))

  own_in_block : is_own place kept s ≡ true → is_own_block place kept b ≡ true
  own_in_block is = go (list_any (λ k. is_within (page_first place k) 8 s) (range_with_len 0 place.pages)) refl is
    where
      go : (v : Bool) → list_any (λ k. is_within (page_first place k) 8 s) (range_with_len 0 place.pages) ≡ v → (v || list_any (λ (d : Block). is_within d.first (sectors d.kind) s) kept) ≡ true → is_own_block place kept b ≡ true
      go true some h = ap (λ (v : Bool). v || list_any (overlap b) kept) (any_range (λ k. is_within (page_first place k) 8 s) place.pages 0 (is_in_log place b) some (λ k le lt here. by_page k (omega (arith, lt)) here))
      go false none h = either (is_in_log place b) (list_any (overlap b) kept) (any_block (λ (d : Block). is_within d.first (sectors d.kind) s) (overlap b) kept by_kept h)
        where
          either : (x y : Bool) → y ≡ true → (x || y) ≡ true
          either true y e = refl
          either false y e = e

free_block : (place : LogPlace) (ring : IsRingPlace place) (kept : List Block) (b : Block) → is_own_block place kept b ≡ false → is_free (is_own place kept) b ≡ true
free_block place ring kept b none = range_all (λ s. not (is_own place kept s)) (sectors b.kind) b.first (λ s low high. go s low high (is_own place kept s) refl)
  where
    go : (s : ℕ) → b.first ≤ s → s < b.first + sectors b.kind → (v : Bool) → is_own place kept s ≡ v → not v ≡ true
    go s low high true is = absurd (no_clash (own_in_block place ring kept b s low high is) none)
      where
        no_clash : is_own_block place kept b ≡ true → is_own_block place kept b ≡ false → ⊥
        no_clash x y = cc
    go s low high false is = refl

-- ---- what is put out

kind_plain : (k : BlockKind) → not (same_kind k Plain) ≡ false → k ≡ Plain
kind_plain Plain is = refl
kind_plain FileRec is = absurd cc
kind_plain Index is = absurd cc

not_part : (p sh cov oth : Bool) → (p && not sh && not cov && oth) ≡ false → sh ≡ false → oth ≡ true → (cov ≡ true) ⊎ (p ≡ false)
not_part true false true true none shadow other = inl refl
not_part true false false true none shadow other = absurd cc
not_part false sh cov oth none shadow other = inr refl
not_part true true cov oth none shadow other = absurd cc
not_part true false cov false none shadow other = absurd cc

not_true : (x : Bool) → not x ≡ true → x ≡ false
not_true true is = absurd cc
not_true false is = refl

may_parts : (out own spelled : Bool) → out ≡ true → (out && (own || not spelled)) ≡ false → (own ≡ false) × (spelled ≡ true)
may_parts true false true is none = (refl, refl)
may_parts true true spelled is none = absurd cc
may_parts true false false is none = absurd cc
may_parts false own spelled is none = absurd cc

module _ (place : LogPlace) (ring : IsRingPlace place) (kept : List Block) (c : Content) (state : LogState) (r : ReadsLog c place kept state) (well : ReadsWell state.log) (b : Block) (out : is_put_out c state.log b ≡ true) where
  abbrev list : List Entry
  list = state.log

  written : is_written_out c state.log b ≡ true
  written = out_written c state.log b out

  pub out_updated : has_update state.log b ≡ true
  out_updated = written_updated state.log b c written

  pub out_claimed : is_shadowed state.log b ≡ false
  unfolding is_written_out
  out_claimed = not_true (is_shadowed state.log b) (and_right (list_any (λ (e : Entry). updates b e.act) state.log) (not (is_shadowed state.log b))
      (and_left (list_any (λ (e : Entry). updates b e.act) state.log && not (is_shadowed state.log b)) (is_other c state.log b || ((c b).torn && is_covered_whole state.log b)) written))

  pub out_covered : (is_covered_whole state.log b ≡ true) ⊎ (b.kind ≡ Plain)
  unfolding is_written_out is_partial
  out_covered = go (is_other c state.log b) refl (and_right (list_any (λ (e : Entry). updates b e.act) state.log && not (is_shadowed state.log b)) (is_other c state.log b || ((c b).torn && is_covered_whole state.log b)) written)
    where
      by_part : (is_covered_whole state.log b ≡ true) ⊎ (not (same_kind b.kind Plain) ≡ false) → (is_covered_whole state.log b ≡ true) ⊎ (b.kind ≡ Plain)
      by_part (inl cov) = inl cov
      by_part (inr plain) = inr (kind_plain b.kind plain)

      go : (v : Bool) → is_other c state.log b ≡ v → (v || ((c b).torn && is_covered_whole state.log b)) ≡ true → (is_covered_whole state.log b ≡ true) ⊎ (b.kind ≡ Plain)
      go true other h = by_part (not_part (not (same_kind b.kind Plain)) (is_shadowed state.log b) (is_covered_whole state.log b) (is_other c state.log b) (updated_whole c state.log b r.whole out_updated) out_claimed other)
      go false other h = inl (and_right (c b).torn (is_covered_whole state.log b) h)

  allowed : (is_own_block place kept b ≡ false) × (is_spelled c state.log b ≡ true)
  unfolding is_barred
  allowed = may_parts (is_put_out c state.log b) (is_own_block place kept b) (is_spelled c state.log b) out (updated_none (is_barred (is_own_block place kept) c state.log) state.log b r.may_write out_updated)

  pub out_spelled : has_spelling b.kind (recovered c state.log b).bytes ≡ true
  out_spelled = allowed.1

  pub out_known : is_known (is_own place kept) b ≡ true
  out_known = ap₂ (λ (x : Bool) (y : Bool). x && y) (well.grid b out_updated) (free_block place ring kept b allowed.0)
