-- What is always so of a store's log, and of what its places tell, stays so where entries are appended, pages sealed, written and synced, and restart pages written.
use Rattle.std.proofs.Common.{◌≡◌, ◌≢◌, ◌⊎◌, subst, ℕ, ◌+◌, ◌-◌, ◌^◌, ◌<◌, ◌≤◌, Bool, true, false, not, cond, List, [], ◌∷◌, length, get_or, Option, Some, None, refl, sym, ap, ◌∙◌, inl, inr, arith}
use Rattle.std.specs.Prelude.{◌&&◌, nat_le, nat_lt, IfSome, is_some, unwrap_or, slice_set}
use Rattle.std.proofs.Math.Nat.{mod-lt}
use Rattle.std.proofs.Math.ListN.{length-set}
use Rattle.std.proofs.lemmas.Bool.{cases_lt, lt-ltb, le-leb, leb-true}
use Rattle.std.proofs.lemmas.List.{get_or-set_same, get_or-set_other}
use Rattle.txn_laws.specs.log_model.declared.entry.Entry.{Entry}
use Rattle.txn_laws.specs.log_model.declared.entry.Act.{Act}
use Rattle.txn_laws.specs.log_model.declared.entry.Act.TheVariants.{Update, Commit}
use Rattle.txn_laws.specs.log_model.Entries.{entry_size, act_size, FitsAct}
use Rattle.txn_laws.specs.log_page.Places.{page_bytes, entries_at}
use Rattle.txn_laws.proofs.log_page.Readings.{size_some}
use Rattle.device_blocks.specs.log_area.declared.restart.SentRestart.{SentRestart}
use Rattle.device_blocks.specs.log_area.Areas.{LogAreaOf, ring_size, place_at, is_filling, fits, used_pages, next_number, next_at, appended, sealed_area, written_area, synced_area, number_of, IsOldest, named_area}
use Rattle.txn_laws.specs.txn_model.Pieces.{next_entry, log_with, ends_with}
use Rattle.txn_laws.specs.txn_model.Appending.{MayAppend, MayAppendAll}
use Rattle.txn_core.specs.Kept.{KeepsOrder}

-- the pages end before this one
abbrev pub end_of : LogAreaOf → ℕ
end_of a = a.sealed + (cond (is_filling a) 1 0)

-- The log is the same but for pages that were filled behind it.
pub record Appends (a b : LogAreaOf) : Type 0 where
  pub pages_same : b.pages ≡ a.pages
  pub lap_same : b.lap ≡ a.lap
  pub synced_same : b.synced ≡ a.synced
  pub done_same : b.done ≡ a.done
  pub oldest_same : b.oldest ≡ a.oldest
  pub named_same : b.named ≡ a.named
  pub sent_same : b.sent ≡ a.sent
  pub sealed_more : a.sealed ≤ b.sealed
  pub end_more : end_of a ≤ end_of b
  pub free_from : entries_at ≤ b.free
  pub free_upto : b.free ≤ page_bytes
  pub within : used_pages b ≤ ring_size b

-- ---- an entry more

-- where an entry of n bytes goes, in a page that is filled or isn't, and into which it fits or doesn't
record Goes (a : LogAreaOf) (n : ℕ) (filling fit : Bool) : Type 0 where
  sealed_more : a.sealed ≤ cond fit a.sealed (a.sealed + 1)
  end_more : a.sealed + cond filling 1 0 ≤ cond fit a.sealed (a.sealed + 1) + 1
  used : cond fit a.sealed (a.sealed + 1) - a.oldest + 1 ≤ ring_size a
  above : 64 < cond fit a.free 64 + n
  below : cond fit a.free 64 + n ≤ 4096

goes_by : (a : LogAreaOf) (n : ℕ) (filling fit : Bool) → 64 ≤ a.free → a.oldest ≤ a.sealed → a.sealed - a.oldest + cond filling 1 0 ≤ ring_size a → 1 ≤ n → n ≤ 4032 → (filling ≡ false → a.free ≤ 64) → (fit ≡ true → a.free + n ≤ 4096) → (fit ≡ false → 4096 < a.free + n)
    → (not (filling && fit) ≡ false) ⊎ (0 < ring_size a - (a.sealed - a.oldest + cond filling 1 0)) → Goes a n filling fit
goes_by a n true true above order within low high none inside over room =
    let here = inside refl in
    record { sealed_more = omega arith; end_more = omega arith; used = omega (arith, within); above = omega arith; below = omega (arith, here) }
goes_by a n true false above order within low high none inside over (inl e) = absurd cc
goes_by a n true false above order within low high none inside over (inr room) = record { sealed_more = omega arith; end_more = omega arith; used = omega (arith, room, order); above = omega arith; below = omega arith }
goes_by a n false true above order within low high none inside over (inl e) = absurd cc
goes_by a n false true above order within low high none inside over (inr room) =
    let here = inside refl in
    record { sealed_more = omega arith; end_more = omega arith; used = omega (arith, room, order); above = omega arith; below = omega (arith, here) }
goes_by a n false false above order within low high none inside over room = let full = over refl in let empty = none refl in absurd (omega arith)

act_small : (act : Act) → FitsAct act → (1 ≤ act_size act) × (act_size act ≤ 4032)
act_small (Update first kind at redo undo) fits = let few = fits.1.few in (omega arith, omega arith)
act_small Commit fits = (omega arith, omega arith)

module _ (a : LogAreaOf) (noted : Option ℕ) (k : KeepsOrder a noted) where
  order : a.oldest ≤ a.sealed
  order = omega (arith, k.freed_pages, k.synced_pages, k.done_pages)

  pub entry_appends : (e : Entry) → MayAppend a e → Appends a (appended e a)
  entry_appends e may =
      let small = act_small e.act may.fits.act in
      let g : Goes a (entry_size e) (is_filling a) (fits a (entry_size e)) = goes_by a (entry_size e) (is_filling a) (fits a (entry_size e)) k.free_from order k.within small.0 small.1 unfilled (leb-true (a.free + entry_size e) 4096) over may.room in
      let now : is_filling (appended e a) ≡ true = lt-ltb 64 (next_at a (entry_size e) + entry_size e) g.above in
      record {
        pages_same = refl;
        lap_same = refl;
        synced_same = refl;
        done_same = refl;
        oldest_same = refl;
        named_same = refl;
        sent_same = refl;
        sealed_more = g.sealed_more;
        end_more = subst (λ (t : Bool). end_of a ≤ next_number a (entry_size e) + cond t 1 0) (sym now) g.end_more;
        free_from = (let above = g.above in omega (arith, above));
        free_upto = g.below;
        within = subst (λ (t : Bool). next_number a (entry_size e) - a.oldest + cond t 1 0 ≤ ring_size a) (sym now) g.used;
      }
    where
      unfilled : nat_lt 64 a.free ≡ false → a.free ≤ 64
      unfilled e = elim (cases_lt 64 a.free) [ inl lt ↦ absurd (let t = lt-ltb 64 a.free lt in cc) | inr le ↦ le ]

      over : nat_le (a.free + entry_size e) 4096 ≡ false → 4096 < a.free + entry_size e
      over h = elim (cases_lt 4096 (a.free + entry_size e)) [ inl lt ↦ lt | inr le ↦ absurd (let t = le-leb (a.free + entry_size e) 4096 le in cc) ]

  pub entry_fills : (e : Entry) → is_filling (appended e a) ≡ true
  entry_fills e = lt-ltb 64 (next_at a (entry_size e) + entry_size e) (by_fit (fits a (entry_size e)) (size_some e))
    where
      by_fit : (t : Bool) → 0x58 ≤ entry_size e → 64 < cond t a.free 64 + entry_size e
      by_fit true some = (let above = k.free_from in omega (arith, above, some))
      by_fit false some = omega (arith, some)

pub no_appends : (a : LogAreaOf) (noted : Option ℕ) → KeepsOrder a noted → Appends a a
no_appends a noted k = record {
  pages_same = refl;
  lap_same = refl;
  synced_same = refl;
  done_same = refl;
  oldest_same = refl;
  named_same = refl;
  sent_same = refl;
  sealed_more = omega arith;
  end_more = omega arith;
  free_from = k.free_from;
  free_upto = k.free_upto;
  within = k.within;
}

both : (a b c : LogAreaOf) → Appends a b → Appends b c → Appends a c
both a b c one two = record {
  pages_same = two.pages_same ∙ one.pages_same;
  lap_same = two.lap_same ∙ one.lap_same;
  synced_same = two.synced_same ∙ one.synced_same;
  done_same = two.done_same ∙ one.done_same;
  oldest_same = two.oldest_same ∙ one.oldest_same;
  named_same = two.named_same ∙ one.named_same;
  sent_same = two.sent_same ∙ one.sent_same;
  sealed_more = (let first = one.sealed_more in let second = two.sealed_more in omega (arith, first, second));
  end_more = (let first = one.end_more in let second = two.end_more in omega (arith, first, second));
  free_from = two.free_from;
  free_upto = two.free_upto;
  within = two.within;
}

names_go : (o p : Option ℕ) (m n s t : ℕ) → p ≡ o → n ≡ m → t ≡ s → IfSome o (λ k. (m ≤ k) × (k ≤ s)) → IfSome p (λ k. (n ≤ k) × (k ≤ t))
names_go o p m n s t same low high is = subst (λ (q : Option ℕ). IfSome q (λ k. (n ≤ k) × (k ≤ t))) (sym same) (by_option o is)
  where
    by_option : (q : Option ℕ) → IfSome q (λ k. (m ≤ k) × (k ≤ s)) → IfSome q (λ k. (n ≤ k) × (k ≤ t))
    by_option (Some k) both = (omega (arith, both.0, low), omega (arith, both.1, high))
    by_option None both = tt

notes_go : (o : Option ℕ) (m n : ℕ) → n ≡ m → IfSome o (λ k. m ≤ k) → IfSome o (λ k. n ≤ k)
notes_go (Some k) m n same le = omega (arith, same, le)
notes_go None m n same le = tt

pub order_appends : (a b : LogAreaOf) (noted : Option ℕ) → KeepsOrder a noted → Appends a b → KeepsOrder b noted
order_appends a b noted k on = record {
  pages_some = subst (λ (n : ℕ). 4 < n) (sym on.pages_same) k.pages_some;
  pages_few = subst (λ (n : ℕ). n < 2 ^ 52) (sym on.pages_same) k.pages_few;
  free_from = on.free_from;
  free_upto = on.free_upto;
  freed_pages = omega (arith, on.oldest_same, on.synced_same, k.freed_pages);
  synced_pages = omega (arith, on.synced_same, on.done_same, k.synced_pages);
  done_pages = omega (arith, on.done_same, k.done_pages, on.sealed_more);
  within = on.within;
  names_page = names_go a.named b.named a.oldest b.oldest a.synced b.synced on.named_same on.oldest_same on.synced_same k.names_page;
  notes_page = notes_go noted a.oldest b.oldest on.oldest_same k.notes_page;
  names_noted = subst (λ (o : Option ℕ). IfSome o (λ n. noted ≡ Some n)) (sym on.named_same) k.names_noted;
}

-- ---- entries of a transaction

pub log_appends : (a : LogAreaOf) (noted : Option ℕ) (tx last : ℕ) (acts : List Act) → KeepsOrder a noted → MayAppendAll a tx last acts → Appends a (log_with a tx last acts)
log_appends a noted tx last [] k may = no_appends a noted k
log_appends a noted tx last (act ∷ acts) k may =
    let e = next_entry a tx last act in
    let one = entry_appends a noted k e may.0 in
    both a (appended e a) (log_with (appended e a) tx e.lsn acts) one (log_appends (appended e a) noted tx e.lsn acts (order_appends a (appended e a) noted k one) may.1)

pub log_fills : (a : LogAreaOf) (noted : Option ℕ) (tx last : ℕ) (act : Act) (acts : List Act) → KeepsOrder a noted → MayAppendAll a tx last (act ∷ acts) → is_filling (log_with a tx last (act ∷ acts)) ≡ true
log_fills a noted tx last act [] k may = entry_fills a noted k (next_entry a tx last act)
log_fills a noted tx last act (next ∷ acts) k may =
    let e = next_entry a tx last act in
    let one = entry_appends a noted k e may.0 in
    log_fills (appended e a) noted tx e.lsn next acts (order_appends a (appended e a) noted k one) may.1

-- ---- what places tell

set_told : (ends : List ℕ) (i v c : ℕ) → i < length ends → ((k : ℕ) → get_or ends k 0 ≤ c) → v ≤ c → (k : ℕ) → get_or (slice_set ends i v) k 0 ≤ c
set_told ends i v c inside told le k = elim (cases_lt k i) [
  | inl below ↦ other (λ e. omega (arith, e, below))
  | inr from ↦ elim (cases_lt i k) [
    | inl above ↦ other (λ e. omega (arith, e, above))
    | inr upto ↦ here (omega (arith, from, upto))
  ]
]
  where
    other : k ≢ i → get_or (slice_set ends i v) k 0 ≤ c
    other apart = let same = get_or-set_other ends i k v 0 apart in let old = told k in omega (arith, same, old)

    here : k ≡ i → get_or (slice_set ends i v) k 0 ≤ c
    here e = subst (λ (j : ℕ). get_or (slice_set ends i v) j 0 ≤ c) (sym e) (let same = get_or-set_same ends i v 0 inside in omega (arith, same, le))

inside_of : (a : LogAreaOf) (n : ℕ) (ends : List ℕ) → 4 < a.pages → length ends ≡ ring_size a → place_at a n < length ends
inside_of a n ends some counted = let some : 0 < ring_size a = omega (arith, some) in let lt = mod-lt n some in omega (arith, lt, counted)

still_counted : (ends : List ℕ) (i v n : ℕ) → length ends ≡ n → length (slice_set ends i v) ≡ n
still_counted ends i v n counted = length-set ends i v ∙ counted

pub ends_told : (a : LogAreaOf) (tx last commits : ℕ) (ends : List ℕ) (acts : List Act) (c : ℕ) → 4 < a.pages → length ends ≡ ring_size a → ((k : ℕ) → get_or ends k 0 ≤ c) → commits ≤ c → (k : ℕ) → get_or (ends_with a tx last commits ends acts) k 0 ≤ c
ends_told a tx last commits ends [] c some counted told le = told
ends_told a tx last commits ends (act ∷ acts) c some counted told le =
    let e = next_entry a tx last act in
    let w = appended e a in
    ends_told w tx e.lsn commits (slice_set ends (place_at w w.sealed) commits) acts c some (still_counted ends (place_at w w.sealed) commits (ring_size a) counted)
    (set_told ends (place_at w w.sealed) commits c (inside_of a w.sealed ends some counted) told le) le

pub ends_latest : (a : LogAreaOf) (tx last commits : ℕ) (ends : List ℕ) (act : Act) (acts : List Act) → 4 < a.pages → length ends ≡ ring_size a
    → get_or (ends_with a tx last commits ends (act ∷ acts)) (place_at (log_with a tx last (act ∷ acts)) (log_with a tx last (act ∷ acts)).sealed) 0 ≡ commits
ends_latest a tx last commits ends act [] some counted =
    let w = appended (next_entry a tx last act) a in
    get_or-set_same ends (place_at w w.sealed) commits 0 (inside_of a w.sealed ends some counted)
ends_latest a tx last commits ends act (next ∷ acts) some counted =
    let e = next_entry a tx last act in
    let w = appended e a in
    ends_latest w tx e.lsn commits (slice_set ends (place_at w w.sealed) commits) next acts some (still_counted ends (place_at w w.sealed) commits (ring_size a) counted)

-- ---- pages are sealed, written and synced

sealed_by : (a : LogAreaOf) (noted : Option ℕ) (t : Bool) → is_filling a ≡ t → KeepsOrder a noted → Appends a (cond t (record a { free = 64; sealed = a.sealed + 1 }) a)
sealed_by a noted true is k =
    let within : a.sealed - a.oldest + 1 ≤ ring_size a = subst (λ (t : Bool). a.sealed - a.oldest + cond t 1 0 ≤ ring_size a) is k.within in
    let low = order a noted k in
    record {
      pages_same = refl;
      lap_same = refl;
      synced_same = refl;
      done_same = refl;
      oldest_same = refl;
      named_same = refl;
      sent_same = refl;
      sealed_more = omega arith;
      end_more = subst (λ (t : Bool). a.sealed + cond t 1 0 ≤ a.sealed + 1 + 0) (sym is) (omega arith);
      free_from = omega arith;
      free_upto = omega arith;
      within = omega (arith, within, low);
    }
sealed_by a noted false is k = no_appends a noted k

pub seal_appends : (a : LogAreaOf) (noted : Option ℕ) → KeepsOrder a noted → Appends a (sealed_area a)
seal_appends a noted k = sealed_by a noted (is_filling a) refl k

-- the pages end where they did, and what is filled begins there
pub seal_ends : (a : LogAreaOf) → (end_of (sealed_area a) ≡ end_of a) × ((sealed_area a).sealed ≡ end_of a)
seal_ends a = by (is_filling a) refl
  where
    by : (t : Bool) → is_filling a ≡ t → (end_of (cond t (record a { free = 64; sealed = a.sealed + 1 }) a) ≡ a.sealed + cond t 1 0) × ((cond t (record a { free = 64; sealed = a.sealed + 1 }) a).sealed ≡ a.sealed + cond t 1 0)
    by true is = (omega arith, refl)
    by false is = (ap (λ (t : Bool). a.sealed + cond t 1 0) is, omega arith)

none_named : (named noted : Option ℕ) → noted ≡ None → IfSome named (λ n. noted ≡ Some n) → named ≡ None
none_named (Some n) noted none is = absurd cc
none_named None noted none is = refl

pub order_noted : (a : LogAreaOf) (noted : Option ℕ) → noted ≡ None → KeepsOrder a noted → KeepsOrder (sealed_area a) (Some (sealed_area a).sealed)
order_noted a noted none k =
    let s = order_appends a (sealed_area a) noted k (seal_appends a noted k) in
    record {
      pages_some = s.pages_some;
      pages_few = s.pages_few;
      free_from = s.free_from;
      free_upto = s.free_upto;
      freed_pages = s.freed_pages;
      synced_pages = s.synced_pages;
      done_pages = s.done_pages;
      within = s.within;
      names_page = s.names_page;
      notes_page = omega (arith, s.freed_pages, s.synced_pages, s.done_pages);
      names_noted = subst (λ (o : Option ℕ). IfSome o (λ n. ◌≡◌ {A = Option ℕ} (Some (sealed_area a).sealed) (Some n))) (sym (none_named (sealed_area a).named noted none s.names_noted)) tt;
    }

pub order_written : (a : LogAreaOf) (noted : Option ℕ) → KeepsOrder a noted → a.done < a.sealed → KeepsOrder (written_area a) noted
order_written a noted k lt = record {
  pages_some = k.pages_some;
  pages_few = k.pages_few;
  free_from = k.free_from;
  free_upto = k.free_upto;
  freed_pages = k.freed_pages;
  synced_pages = omega (arith, k.synced_pages);
  done_pages = omega (arith, lt);
  within = k.within;
  names_page = k.names_page;
  notes_page = k.notes_page;
  names_noted = k.names_noted;
}

-- with a check word of the next page, or of the restart page
pub order_checked : (a : LogAreaOf) (noted check : Option ℕ) → KeepsOrder a noted → KeepsOrder (record a { check = check }) noted
order_checked a noted check k = record {
  pages_some = k.pages_some;
  pages_few = k.pages_few;
  free_from = k.free_from;
  free_upto = k.free_upto;
  freed_pages = k.freed_pages;
  synced_pages = k.synced_pages;
  done_pages = k.done_pages;
  within = k.within;
  names_page = k.names_page;
  notes_page = k.notes_page;
  names_noted = k.names_noted;
}

pub order_sent : (a : LogAreaOf) (noted : Option ℕ) (sent : Option SentRestart) → KeepsOrder a noted → KeepsOrder (record a { sent = sent }) noted
order_sent a noted sent k = record {
  pages_some = k.pages_some;
  pages_few = k.pages_few;
  free_from = k.free_from;
  free_upto = k.free_upto;
  freed_pages = k.freed_pages;
  synced_pages = k.synced_pages;
  done_pages = k.done_pages;
  within = k.within;
  names_page = k.names_page;
  notes_page = k.notes_page;
  names_noted = k.names_noted;
}

freed : (named : Option ℕ) (oldest synced done : ℕ) → oldest ≤ synced → synced ≤ done → IfSome named (λ n. (oldest ≤ n) × (n ≤ synced)) → (oldest ≤ unwrap_or named oldest) × (unwrap_or named oldest ≤ done)
freed (Some n) oldest synced done low high both = (both.0, omega (arith, both.1, high))
freed None oldest synced done low high both = (omega arith, omega (arith, low, high))

left_noted : (named noted : Option ℕ) (oldest : ℕ) → IfSome noted (λ k. oldest ≤ k) → IfSome (cond (is_some named) None noted) (λ k. unwrap_or named oldest ≤ k)
left_noted (Some n) noted oldest is = tt
left_noted None noted oldest is = is

pub order_synced : (a : LogAreaOf) (noted : Option ℕ) → KeepsOrder a noted → KeepsOrder (synced_area a) (cond (is_some a.named) None noted)
order_synced a noted k =
    let both = freed a.named a.oldest a.synced a.done k.freed_pages k.synced_pages k.names_page in
    let within : a.sealed - a.oldest + cond (is_filling a) 1 0 ≤ ring_size a = k.within in
    record {
      pages_some = k.pages_some;
      pages_few = k.pages_few;
      free_from = k.free_from;
      free_upto = k.free_upto;
      freed_pages = both.1;
      synced_pages = omega arith;
      done_pages = k.done_pages;
      within = omega (arith, within, both.0);
      names_page = tt;
      notes_page = left_noted a.named noted a.oldest k.notes_page;
      names_noted = tt;
    }

pub order_named : (a : LogAreaOf) (noted : Option ℕ) (lsn : ℕ) → KeepsOrder a noted → IsOldest a lsn → noted ≡ Some (number_of a lsn) → KeepsOrder (named_area lsn a) noted
order_named a noted lsn k at is = record {
  pages_some = k.pages_some;
  pages_few = k.pages_few;
  free_from = k.free_from;
  free_upto = k.free_upto;
  freed_pages = k.freed_pages;
  synced_pages = k.synced_pages;
  done_pages = k.done_pages;
  within = k.within;
  names_page = (at.from, at.upto);
  notes_page = k.notes_page;
  names_noted = is;
}
