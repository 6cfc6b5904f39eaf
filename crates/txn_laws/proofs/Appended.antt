-- What a store keeps of its log, with an entry more.
use Rattle.std.proofs.Common.{◌≡◌, ◌≢◌, ◌⊎◌, ℕ, zero, suc, ◌+◌, ◌-◌, ◌%◌, ◌<◌, ◌≤◌, Bool, true, false, List, [], ◌∷◌, ◌++◌, length, take, drop, get_or, Option, Some, None, refl, sym, ap, ◌∙◌, subst, inl, inr, arith}
use Rattle.std.specs.Prelude.{◌||◌, slice_index, slice_set}
use Rattle.std.proofs.Math.Nat.{mod-lt}
use Rattle.std.proofs.lemmas.Bool.{cases_lt}
use Rattle.std.proofs.lemmas.List.{get_or-set_same, get_or-set_other}
use Rattle.area_laws.specs.disk_model.declared.block.Block.{Block}
use Rattle.area_laws.specs.sector_device.Disks.{Disk}
use Rattle.area_laws.specs.log_model.declared.entry.Entry.{Entry}
use Rattle.area_laws.specs.log_model.Logs.{updates}
use Rattle.area_laws.specs.log_model.Entries.{entry_size}
use Rattle.area_laws.specs.log_area.Areas.{LogAreaOf, next_lsn, place_at, appended, sent_word}
use Rattle.store_claims.specs.store_model.Logs.{commits, has_update, IsOusted}
use Rattle.store_claims.specs.store_model.Stores.{Store}
use Rattle.store_claims.specs.store_model.Rings.{Ring, Restarts, entries_on}
use Rattle.store_claims.proofs.store_model.Told.{or-false, commits-append}
use Rattle.store_claims.proofs.store_model.Lost.{has_update-append, has_none, ousted_more}
use Rattle.area_laws.specs.ring_laws.Numbers.{LogSession, ring_size}
use Rattle.area_laws.specs.ring_laws.RestartPages.{RestartFields}
use Rattle.area_laws.specs.ring_laws.RingPages.{fixed_to}
use Rattle.area_laws.specs.ring_laws.StoreLogs.{LogNumbers, HoldsLog, LogBecomes, stays_to}
use Rattle.area_laws.proofs.ring_laws.Numbering.{has_places}
use Rattle.area_laws.proofs.ring_laws.StoreEvents.{log_grows}
use Rattle.area_laws.specs.Standing.{Stands, pages_with}
use Rattle.area_laws.proofs.Joined.{appends}
use Rattle.txn_model.specs.Appending.{MayAppend}
use Rattle.txn_laws.specs.Standing.{IsKilled, TellsEnds}
use Rattle.txn_laws.proofs.Growing.{Grows, grows_all, grows_some, grows_low, grows_high, grows_front, grows_last, grows_take, grows_take_all, grows_drop, all_dropped, placed, pages_grow, used_then}

-- ---- pages

pub still_some : (e : Entry) (pages more : List (List Entry)) → Grows e pages more → ((k : ℕ) → k < length pages → get_or pages k [] ≢ []) → (k : ℕ) → k < length more → get_or more k [] ≢ []
still_some e pages more g some k lt is =
    elim (cases_lt (suc k) (length more)) [
      | inl less ↦ some k (omega (arith, less, grows_high e pages more g)) (sym (grows_front e pages more g k less) ∙ is)
      | inr more_or ↦ ends (get_or pages k []) (sym (grows_last e pages more g k (omega (arith, lt, more_or))) ∙ is)
    ]
  where
    ends : (xs : List Entry) → ◌≡◌ {A = List Entry} (xs ++ e ∷ []) [] → ⊥
    ends [] is = cc
    ends (x ∷ xs) is = cc

-- an update that stands on a page stood there before, or is this entry on the last one
pub on_page : (e : Entry) (pages more : List (List Entry)) → Grows e pages more → (b : Block) (k : ℕ) → k < length more → has_update (get_or more k []) b ≡ true
    → ((k < length pages) × (has_update (get_or pages k []) b ≡ true)) ⊎ ((suc k ≡ length more) × (updates b e.act ≡ true))
on_page e pages more g b k lt has =
    elim (cases_lt (suc k) (length more)) [
      | inl less ↦ inl (omega (arith, less, grows_high e pages more g), ap (λ (l : List Entry). has_update l b) (sym (grows_front e pages more g k less)) ∙ has)
      | inr end ↦
          let last : suc k ≡ length more = omega (arith, lt, end) in
          by_old last (has_update (get_or pages k []) b) refl
          (sym (has_update-append (get_or pages k []) (e ∷ []) b) ∙ ap (λ (l : List Entry). has_update l b) (sym (grows_last e pages more g k last)) ∙ has)
    ]
  where
    inside : (k : ℕ) (ps : List (List Entry)) → has_update (get_or ps k []) b ≡ true → k < length ps
    inside k [] is = absurd cc
    inside zero (p ∷ ps) is = omega arith
    inside (suc k) (p ∷ ps) is = omega (arith, inside k ps is)

    by_old : suc k ≡ length more → (v : Bool) → has_update (get_or pages k []) b ≡ v → (has_update (get_or pages k []) b || has_update (e ∷ []) b) ≡ true
        → ((k < length pages) × (has_update (get_or pages k []) b ≡ true)) ⊎ ((suc k ≡ length more) × (updates b e.act ≡ true))
    by_old last true is or = inl (inside k pages is, is)
    by_old last false is or = inr (last, sym (or-false (updates b e.act)) ∙ sym (ap (λ (v : Bool). v || has_update (e ∷ []) b) is) ∙ or)

-- a block that was killed stays so where the entry is no update of it
pub still_killed : (e : Entry) (pages more : List (List Entry)) → Grows e pages more → (oldest killed : ℕ) (b : Block) → updates b e.act ≡ false → IsKilled pages oldest killed b → IsKilled more oldest killed b
still_killed e pages more g oldest killed b other x =
    let one : has_update (e ∷ []) b ≡ false = or-false (updates b e.act) ∙ other in
    elim (cases_lt (killed - oldest) (length more)) [
      | inl less ↦ record {
        ousted = subst (λ (l : List Entry). IsOusted l b) (sym (grows_take e pages more g (killed - oldest) less)) x.ousted;
        quiet = ap (λ (l : List Entry). has_update l b) (grows_drop e pages more g (killed - oldest) less) ∙ has_none (entries_on (drop (killed - oldest) pages)) (e ∷ []) b x.quiet one;
        within = omega (arith, x.within, grows_low e pages more g);
      }
      | inr all ↦ record {
        ousted = subst (λ (l : List Entry). IsOusted l b) (sym (grows_take_all e pages more g (killed - oldest) all)) (ousted_more (entries_on (take (killed - oldest) pages)) (e ∷ []) b x.ousted one);
        quiet = ap (λ (l : List Entry). has_update l b) (all_dropped more (killed - oldest) all);
        within = omega (arith, x.within, grows_low e pages more g);
      }
    ]

-- ---- the log

module _ (s : LogSession) (a : LogAreaOf) (r : Ring) (q : Restarts) (pages : List (List Entry)) (fields : RestartFields) (noted : ℕ) (m : Store) (disk : Disk)
    (stands : Stands s a r q pages fields disk) (e : Entry) (may : MayAppend a e) (is : e.lsn ≡ next_lsn a (entry_size e)) where
  abbrev more : List (List Entry)
  more = pages_with e a pages

  abbrev l : LogNumbers
  l = record { ring = r; check = a.check; pages = pages; restarts = q; word = sent_word a.sent; fields = fields; noted = noted }

  grows : Grows e pages more
  grows = pages_grow s a r pages disk stands.ring e may

  pub number : a.oldest + length (pages_with e a pages) ≡ suc (appended e a).sealed
  number =
      let at = placed s a r pages disk stands.ring e may in
      let k = stands.ring.area in
      omega (arith, after.ring.counted, used_then s a r pages disk stands.ring e may, at.from, k.durable_pages, k.written_pages, k.sealed_pages)
    where
      after : Stands s (appended e a) r q (pages_with e a pages) fields disk
      after = appends s a r q pages fields disk e stands may.fits is may.lap may.room

  pub stands_more : Stands s (appended e a) r q (pages_with e a pages) fields disk
  stands_more = appends s a r q pages fields disk e stands may.fits is may.lap may.room

  -- the pages before the one where the entry goes stay
  below_stays : m.begun ≡ m.begun → (m.begun ≡ true → noted ≤ a.sealed) → (k : ℕ) → k < stays_to l m.begun - r.oldest → get_or more k [] ≡ get_or pages k []
  below_stays same below k lt =
      grows_front e pages more grows k (omega (arith, lt, stays_below m.begun refl, number, stands.ring.oldest, (placed s a r pages disk stands.ring e may).from))
    where
      kept_to : (c : Option ℕ) → a.check ≡ c → fixed_to r c ≤ a.sealed
      kept_to (Some w) c = omega (arith, stands.ring.begun w c, stands.ring.done)
      kept_to None c = omega (arith, stands.ring.ring.unbegun c, stands.ring.done, stands.ring.area.sealed_pages)

      stays_below : (v : Bool) → m.begun ≡ v → stays_to l v ≤ a.sealed
      stays_below true begun = omega (arith, kept_to a.check refl, below begun)
      stays_below false begun = kept_to a.check refl

  pub holds_more : HoldsLog s l m disk → (m.begun ≡ true → noted ≤ a.sealed) → (n : Store)
      → LogBecomes n (m.log ++ e ∷ []) m.synced m.done m.sent m.place m.begun m.renamed m.replaced
      → HoldsLog s (record { ring = r; check = a.check; pages = pages_with e a pages; restarts = q; word = sent_word a.sent; fields = fields; noted = noted }) n disk
  holds_more h below n b =
      log_grows s l m disk h more (below_stays refl below) n (record {
        log_is = b.log_is ∙ ap (λ (es : List Entry). es ++ e ∷ []) h.kept.holds.log ∙ sym (grows_all e pages more grows);
        synced_is = b.synced_is;
        done_is = b.done_is;
        sent_is = b.sent_is;
        place_is = b.place_is;
        begun_is = b.begun_is;
        renamed_is = b.renamed_is;
        replaced_is = b.replaced_is;
      })

  -- ---- what the places of the ring tell

  place_is : place_at (appended e a) (appended e a).sealed ≡ (r.oldest + (length more - 1)) % ring_size s
  place_is =
      let size : ring_size s ≡ a.pages - 4 = omega (arith, stands.ring.session.pages) in
      ap (λ (p : ℕ). (appended e a).sealed % p) (sym size) ∙ ap (λ (p : ℕ). p % ring_size s) (let i : (appended e a).sealed ≡ r.oldest + (length more - 1) = omega (arith, number, stands.ring.oldest, grows_some e pages more grows) in i)

  -- the entry is a commit or isn't: its page tells so many more
  pub ends_more : (ends : List ℕ) (total : ℕ) → length ends ≡ ring_size s → TellsEnds s r pages ends total
      → TellsEnds s r (pages_with e a pages) (slice_set ends (place_at (appended e a) (appended e a).sealed) (total + commits (e ∷ []))) (total + commits (e ∷ []))
  ends_more ends total counted tells k lt low =
      elim (cases_lt (suc k) (length more)) [
        | inl less ↦
            ap (λ (x : ℕ). x + commits (entries_on (drop (suc k) more))) (other less)
            ∙ ap (λ (c : ℕ). slice_index ends ((r.oldest + k) % ring_size s) + c) (ap commits (grows_drop e pages more grows (suc k) less) ∙ commits-append (entries_on (drop (suc k) pages)) (e ∷ []))
            ∙ (let old = tells k (omega (arith, less, grows_high e pages more grows)) low in omega (arith, old))
        | inr end ↦
            ap (λ (x : ℕ). x + commits (entries_on (drop (suc k) more))) (own (omega (arith, lt, end)))
            ∙ ap (λ (c : ℕ). total + commits (e ∷ []) + c) (ap commits (all_dropped more (suc k) (omega (arith, end)))) ∙ omega arith
      ]
    where
      at : ℕ
      at = place_at (appended e a) (appended e a).sealed

      new : List ℕ
      new = slice_set ends at (total + commits (e ∷ []))

      other : suc k < length more → slice_index new ((r.oldest + k) % ring_size s) ≡ slice_index ends ((r.oldest + k) % ring_size s)
      other less = get_or-set_other ends at ((r.oldest + k) % ring_size s) (total + commits (e ∷ [])) 0 (λ same. apart less (same ∙ place_is))
        where
          apart : suc k < length more → (r.oldest + k) % ring_size s ≡ (r.oldest + (length more - 1)) % ring_size s → ⊥
          apart less same =
              has_places s (r.oldest + k) (r.oldest + (length more - 1)) (omega (arith, less)) (omega (arith, number, stands.ring.oldest, (placed s a r pages disk stands.ring e may).room, stands.ring.session.pages))
              (ap (λ (x : ℕ). 4 + x) same)

      own : suc k ≡ length more → slice_index new ((r.oldest + k) % ring_size s) ≡ total + commits (e ∷ [])
      own last =
          ap (λ (i : ℕ). slice_index new (i % ring_size s)) (let i : r.oldest + k ≡ r.oldest + (length more - 1) = omega (arith, last) in i)
          ∙ ap (λ (i : ℕ). slice_index new i) (sym place_is) ∙ get_or-set_same ends at (total + commits (e ∷ [])) 0 inside
        where
          inside : at < length ends
          inside = omega (arith, counted, place_is, mod-lt (r.oldest + (length more - 1)) {m = ring_size s} (omega (arith, stands.ring.area.some, stands.ring.session.pages)))
