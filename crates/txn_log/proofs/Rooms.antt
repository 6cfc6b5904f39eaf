-- Entries take as many pages as are counted for them.
use Rattle.std.proofs.Common.{◌≡◌, ◌⊎◌, subst, ℕ, ◌+◌, ◌-◌, ◌*◌, ◌/◌, ◌^◌, ◌<◌, ◌≤◌, Bool, true, false, not, cond, List, [], ◌∷◌, ◌++◌, map, refl, sym, ap, ◌∙◌, inl, inr, arith}
use Rattle.std.specs.Prelude.{◌&&◌, nat_le, nat_lt}
use Rattle.std.specs.List.{AllByRecursion}
use Rattle.std.proofs.Math.Nat.{lt-mul-div-succ, div-lt_iff_lt-mul}
use Rattle.std.proofs.lemmas.Bool.{cases_lt, lt-ltb, le-leb, leb-true}
use Rattle.store_pools.specs.log_model.declared.entry.Entry.{Entry}
use Rattle.store_pools.specs.log_model.declared.entry.Act.{Act}
use Rattle.store_pools.specs.log_model.declared.entry.Act.TheVariants.{Update, Commit}
use Rattle.store_pools.specs.log_model.Entries.{act_size, FitsAct}
use Rattle.store_pools.specs.log_page.Places.{sequence_bits}
use Rattle.store_pools.specs.log_area.Areas.{LogAreaOf, ring_size, lap_at, next_number, next_at, needs_page, used_pages, free_pages, appended}
use Rattle.store_pools.proofs.log_area.Numbering.{lsn_small}
use Rattle.store_pools.specs.txn_model.Pieces.{next_entry, log_with, last_of}
use Rattle.store_pools.specs.txn_model.Appending.{MayAppend, MayAppendAll}
use Rattle.txn_log.specs.Counts.{begins_page, free_after, pages_of}
use Rattle.txn_log.specs.Laws.{IsFilled, HasRoom}

-- where an entry of n bytes goes, in a page that is filled or isn't, and into which it fits or doesn't
pub record Goes (a : LogAreaOf) (n : ℕ) (filling fit : Bool) : Type 0 where
  pub near : cond fit a.sealed (a.sealed + 1) ≤ a.sealed + cond (not (filling && fit)) 1 0
  pub order : a.oldest ≤ cond fit a.sealed (a.sealed + 1)
  pub used : cond fit a.sealed (a.sealed + 1) - a.oldest + 1 ≡ a.sealed - a.oldest + cond filling 1 0 + cond (not (filling && fit)) 1 0
  pub above : 64 < cond fit a.free 64 + n
  pub below : cond fit a.free 64 + n ≤ 4096
  pub begins : (not (filling && fit) ≡ false) ⊎ (◌≡◌ {A = ℕ} (cond (not (filling && fit)) 1 0) 1)

goes_by : (a : LogAreaOf) (n : ℕ) (filling fit : Bool) → IsFilled a → 1 ≤ n → n ≤ 4032 → (filling ≡ false → a.free ≤ 64) → (fit ≡ true → a.free + n ≤ 4096) → (fit ≡ false → 4096 < a.free + n) → Goes a n filling fit
goes_by a n true true k low high none fits over =
    let order = k.order in
    let above = k.above in
    let inside = fits refl in
    record { near = omega arith; order = omega arith; used = omega arith; above = omega arith; below = omega arith; begins = inl refl }
goes_by a n true false k low high none fits over =
    let order = k.order in
    let above = k.above in
    record { near = omega arith; order = omega arith; used = omega arith; above = omega arith; below = omega arith; begins = inr refl }
goes_by a n false true k low high none fits over =
    let order = k.order in
    let above = k.above in
    let inside = fits refl in
    record { near = omega arith; order = omega arith; used = omega arith; above = omega arith; below = omega arith; begins = inr refl }
goes_by a n false false k low high none fits over = let full = over refl in let empty = none refl in absurd (omega arith)

goes : (a : LogAreaOf) (n : ℕ) → IsFilled a → 1 ≤ n → n ≤ 4032 → Goes a n (nat_lt 64 a.free) (nat_le (a.free + n) 4096)
goes a n k low high = goes_by a n (nat_lt 64 a.free) (nat_le (a.free + n) 4096) k low high unfilled (leb-true (a.free + n) 4096) over
  where
    unfilled : nat_lt 64 a.free ≡ false → a.free ≤ 64
    unfilled e = elim (cases_lt 64 a.free) [ inl lt ↦ absurd (let t = lt-ltb 64 a.free lt in cc) | inr le ↦ le ]

    over : nat_le (a.free + n) 4096 ≡ false → 4096 < a.free + n
    over e = elim (cases_lt 4096 (a.free + n)) [ inl lt ↦ lt | inr le ↦ absurd (let t = le-leb (a.free + n) 4096 le in cc) ]

-- laps rise with the pages
laps_rise : (m n size : ℕ) → 0 < size → m ≤ n → m / size ≤ n / size
laps_rise m n size some le =
    let lt : n < size * (n / size + 1) = lt-mul-div-succ n some in
    let below : m < (n / size + 1) * size = omega arith in
    let q = (div-lt_iff_lt-mul some).1 below in
    omega arith

act_small : (act : Act) → FitsAct act → (1 ≤ act_size act) × (act_size act ≤ 4032)
act_small (Update first kind at redo undo) fits = let few = fits.1.few in (omega arith, omega arith)
act_small Commit fits = (omega arith, omega arith)

-- What is so where an entry was appended.
pub record Stepped (a : LogAreaOf) (tx last : ℕ) (act : Act) (left : ℕ) : Type 0 where
  pub may : MayAppend a (next_entry a tx last act)
  pub room : HasRoom (appended (next_entry a tx last act) a) tx (next_entry a tx last act).lsn left
  pub falls : free_pages (appended (next_entry a tx last act) a) + cond (begins_page a.free (act_size act)) 1 0 ≡ free_pages a

pub step : (a : LogAreaOf) (tx last : ℕ) (act : Act) (left : ℕ) → FitsAct act → HasRoom a tx last (cond (begins_page a.free (act_size act)) 1 0 + left) → Stepped a tx last act left
step a tx last act left fits k =
    let n : ℕ = act_size act in
    let x : ℕ = cond (begins_page a.free n) 1 0 in
    let ring = k.ring in
    let small = act_small act fits in
    let g : Goes a n (nat_lt 64 a.free) (nat_le (a.free + n) 4096) = goes a n ring small.0 small.1 in
    let near : next_number a n ≤ a.sealed + x = g.near in
    let some : 0 < ring_size a = omega (arith, ring.some) in
    let turn : next_number a n / ring_size a ≤ (a.sealed + (x + left)) / ring_size a = laps_rise (next_number a n) (a.sealed + (x + left)) (ring_size a) some (omega (arith, near)) in
    let turns : (next_number a n + left) / ring_size a ≤ (a.sealed + (x + left)) / ring_size a = laps_rise (next_number a n + left) (a.sealed + (x + left)) (ring_size a) some (omega (arith, near)) in
    let lap : lap_at a (next_number a n) < 2 ^ sequence_bits a.pages = omega (arith, turn, k.laps) in
    let laps : lap_at a (next_number a n + left) < 2 ^ sequence_bits a.pages = omega (arith, turns, k.laps) in
    let lsn : (next_entry a tx last act).lsn < 2 ^ 64 = lsn_small a (next_number a n) (next_at a n) ring.some ring.few lap (omega (arith, g.below)) in
    let used : used_pages (appended (next_entry a tx last act) a) ≡ used_pages a + x = ap (λ (t : Bool). next_number a n - a.oldest + cond t 1 0) (lt-ltb 64 (next_at a n + n) g.above) ∙ g.used in
    let free : free_pages (appended (next_entry a tx last act) a) ≡ ring_size a - (used_pages a + x) = ap (λ (m : ℕ). ring_size a - m) used in
    let room : x + left ≤ ring_size a - used_pages a = k.room in
    record {
      may = record {
        fits = record { lsn = lsn; previous = k.last_small; some = k.numbered; tx = k.tx_small; act = fits };
        lap = lap;
        room = by_need (needs_page a n) (free_pages a) x left g.begins k.room;
      };
      room = record {
        ring = record { some = ring.some; few = ring.few; above = omega (arith, g.above); below = g.below; order = g.order };
        room = subst (λ (m : ℕ). left ≤ m) (sym free) (omega (arith, room));
        laps = laps;
        numbered = k.numbered;
        tx_small = k.tx_small;
        last_small = lsn;
      };
      falls = ap (λ (m : ℕ). m + x) free ∙ omega (arith, room);
    }
  where
    by_need : (needs : Bool) (free x left : ℕ) → (needs ≡ false) ⊎ (x ≡ 1) → x + left ≤ free → (needs ≡ false) ⊎ (0 < free)
    by_need needs free x left (inl none) le = inl none
    by_need needs free x left (inr one) le = inr (omega (arith, one, le))

-- What is so where several were.
pub record Enough (a : LogAreaOf) (tx last : ℕ) (acts : List Act) (sizes : List ℕ) : Type 0 where
  pub may : MayAppendAll a tx last acts
  pub room : HasRoom (log_with a tx last acts) tx (last_of a tx last acts) (pages_of (log_with a tx last acts).free sizes)
  pub falls : pages_of (log_with a tx last acts).free sizes + free_pages a ≡ pages_of a.free (map act_size acts ++ sizes) + free_pages (log_with a tx last acts)

pub enough : (a : LogAreaOf) (tx last : ℕ) (acts : List Act) (sizes : List ℕ) → AllByRecursion FitsAct acts → HasRoom a tx last (pages_of a.free (map act_size acts ++ sizes)) → Enough a tx last acts sizes
enough a tx last [] sizes fits k = record { may = tt; room = k; falls = refl }
enough a tx last (act ∷ acts) sizes fits k =
    let e : Entry = next_entry a tx last act in
    let s : Stepped a tx last act (pages_of (free_after a.free (act_size act)) (map act_size acts ++ sizes)) = step a tx last act (pages_of (free_after a.free (act_size act)) (map act_size acts ++ sizes)) fits.0 k in
    let r : Enough (appended e a) tx e.lsn acts sizes = enough (appended e a) tx e.lsn acts sizes fits.1 s.room in
    record { may = (s.may, r.may); room = r.room; falls = omega (arith, s.falls, r.falls) }
