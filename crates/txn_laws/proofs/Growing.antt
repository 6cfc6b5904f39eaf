-- An entry more on the pages of a log: what stands on the first ones, and behind them.
use Rattle.std.proofs.Common.{◌≡◌, ℕ, zero, suc, ◌+◌, ◌-◌, ◌<◌, ◌≤◌, Bool, cond, List, [], ◌∷◌, ◌++◌, length, take, drop, get_or, set, refl, sym, ap, ◌∙◌, subst, inl, inr, arith}
use Rattle.std.proofs.lemmas.Bool.{eq-eqb, ne_eqb}
use Rattle.std.proofs.lemmas.List.{append-nil, append_assoc}
use Rattle.area_laws.specs.log_model.declared.entry.Entry.{Entry}
use Rattle.area_laws.specs.log_model.Entries.{entry_size}
use Rattle.area_laws.proofs.log_page.Readings.{size_some}
use Rattle.store_claims.specs.store_model.Rings.{Ring, entries_on}
use Rattle.area_laws.specs.sector_device.Disks.{Disk}
use Rattle.area_laws.specs.ring_laws.Numbers.{LogSession}
use Rattle.area_laws.specs.log_area.Areas.{LogAreaOf, next_number, next_at, used_pages, appended}
use Rattle.area_laws.specs.Standing.{StandsRing, pages_with}
use Rattle.area_laws.proofs.Keeps.{IsPlaced, small_entry, is_placed, filling_then}
use Rattle.txn_model.specs.Appending.{MayAppend}

-- The entry begins a page behind the others, or stands behind those of the last one.
pub data Grows (e : Entry) : List (List Entry) → List (List Entry) → Type 0 where
  begins : Grows e [] ((e ∷ []) ∷ [])
  fills : (page : List Entry) → Grows e (page ∷ []) ((page ++ e ∷ []) ∷ [])
  behind : (page : List Entry) (pages more : List (List Entry)) → Grows e pages more → Grows e (page ∷ pages) (page ∷ more)

pub grows_all : (e : Entry) (pages more : List (List Entry)) → Grows e pages more → entries_on more ≡ entries_on pages ++ e ∷ []
grows_all e [] more begins = refl
grows_all e pages more (fills page) = append-nil (page ++ e ∷ []) ∙ ap (λ (l : List Entry). l ++ e ∷ []) (sym (append-nil page))
grows_all e pages more (behind page ps ms g) = ap (λ (l : List Entry). page ++ l) (grows_all e ps ms g) ∙ sym (append_assoc page (entries_on ps) (e ∷ []))

-- how many pages there are
pub grows_some : (e : Entry) (pages more : List (List Entry)) → Grows e pages more → 0 < length more
grows_some e pages more begins = omega arith
grows_some e pages more (fills page) = omega arith
grows_some e pages more (behind page ps ms g) = omega arith

pub grows_low : (e : Entry) (pages more : List (List Entry)) → Grows e pages more → length pages ≤ length more
grows_low e pages more begins = omega arith
grows_low e pages more (fills page) = omega arith
grows_low e pages more (behind page ps ms g) = omega (arith, grows_low e ps ms g)

pub grows_high : (e : Entry) (pages more : List (List Entry)) → Grows e pages more → length more ≤ suc (length pages)
grows_high e pages more begins = omega arith
grows_high e pages more (fills page) = omega arith
grows_high e pages more (behind page ps ms g) = omega (arith, grows_high e ps ms g)

-- the pages before the last one stay, and that has the entry behind those of before
pub grows_front : (e : Entry) (pages more : List (List Entry)) → Grows e pages more → (k : ℕ) → suc k < length more → get_or more k [] ≡ get_or pages k []
grows_front e pages more begins k lt = absurd (omega arith)
grows_front e pages more (fills page) k lt = absurd (omega arith)
grows_front e pages more (behind page ps ms g) zero lt = refl
grows_front e pages more (behind page ps ms g) (suc k) lt = grows_front e ps ms g k (omega arith)

pub grows_last : (e : Entry) (pages more : List (List Entry)) → Grows e pages more → (k : ℕ) → suc k ≡ length more → get_or more k [] ≡ get_or pages k [] ++ e ∷ []
grows_last e pages more begins zero is = refl
grows_last e pages more begins (suc k) is = absurd (omega arith)
grows_last e pages more (fills page) zero is = refl
grows_last e pages more (fills page) (suc k) is = absurd (omega arith)
grows_last e pages more (behind page ps ms g) zero is = absurd (omega (arith, grows_some e ps ms g))
grows_last e pages more (behind page ps ms g) (suc k) is = grows_last e ps ms g k (omega arith)

-- so many pages, and those behind them
pub grows_take : (e : Entry) (pages more : List (List Entry)) → Grows e pages more → (k : ℕ) → k < length more → entries_on (take k more) ≡ entries_on (take k pages)
grows_take e pages more begins zero lt = refl
grows_take e pages more begins (suc k) lt = absurd (omega arith)
grows_take e pages more (fills page) zero lt = refl
grows_take e pages more (fills page) (suc k) lt = absurd (omega arith)
grows_take e pages more (behind page ps ms g) zero lt = refl
grows_take e pages more (behind page ps ms g) (suc k) lt = ap (λ (l : List Entry). page ++ l) (grows_take e ps ms g k (omega arith))

none_taken : (k : ℕ) → entries_on (take k []) ≡ []
none_taken zero = refl
none_taken (suc k) = refl

none_dropped : (k : ℕ) → entries_on (drop k []) ≡ []
none_dropped zero = refl
none_dropped (suc k) = refl

pub grows_take_all : (e : Entry) (pages more : List (List Entry)) → Grows e pages more → (k : ℕ) → length more ≤ k → entries_on (take k more) ≡ entries_on (take k pages) ++ e ∷ []
grows_take_all e pages more begins zero le = absurd (omega arith)
grows_take_all e pages more begins (suc k) le = ap (λ (l : List Entry). (e ∷ []) ++ l) (none_taken k) ∙ ap (λ (l : List Entry). l ++ e ∷ []) (sym (none_taken (suc k)))
grows_take_all e pages more (fills page) zero le = absurd (omega arith)
grows_take_all e pages more (fills page) (suc k) le =
    ap (λ (l : List Entry). (page ++ e ∷ []) ++ l) (none_taken k) ∙ append-nil (page ++ e ∷ [])
    ∙ ap (λ (l : List Entry). l ++ e ∷ []) (sym (ap (λ (l : List Entry). page ++ l) (none_taken k) ∙ append-nil page))
grows_take_all e pages more (behind page ps ms g) zero le = absurd (omega arith)
grows_take_all e pages more (behind page ps ms g) (suc k) le =
    ap (λ (l : List Entry). page ++ l) (grows_take_all e ps ms g k (omega arith)) ∙ sym (append_assoc page (entries_on (take k ps)) (e ∷ []))

pub grows_drop : (e : Entry) (pages more : List (List Entry)) → Grows e pages more → (k : ℕ) → k < length more → entries_on (drop k more) ≡ entries_on (drop k pages) ++ e ∷ []
grows_drop e pages more begins zero lt = refl
grows_drop e pages more begins (suc k) lt = absurd (omega arith)
grows_drop e pages more (fills page) zero lt = grows_all e (page ∷ []) ((page ++ e ∷ []) ∷ []) (fills page)
grows_drop e pages more (fills page) (suc k) lt = absurd (omega arith)
grows_drop e pages more (behind page ps ms g) zero lt = grows_all e (page ∷ ps) (page ∷ ms) (behind page ps ms g)
grows_drop e pages more (behind page ps ms g) (suc k) lt = grows_drop e ps ms g k (omega arith)

pub all_dropped : (pages : List (List Entry)) (k : ℕ) → length pages ≤ k → entries_on (drop k pages) ≡ []
all_dropped [] k le = none_dropped k
all_dropped (page ∷ pages) zero le = absurd (omega arith)
all_dropped (page ∷ pages) (suc k) le = all_dropped pages k (omega arith)

-- ---- an entry that is appended

grows_end : (e : Entry) (pages : List (List Entry)) → Grows e pages (pages ++ (e ∷ []) ∷ [])
grows_end e [] = begins
grows_end e (page ∷ pages) = behind page pages (pages ++ (e ∷ []) ∷ []) (grows_end e pages)

grows_on : (e : Entry) (pages : List (List Entry)) (i : ℕ) → suc i ≡ length pages → Grows e pages (set pages i (get_or pages i [] ++ e ∷ []))
grows_on e [] i is = absurd (omega arith)
grows_on e (page ∷ []) zero is = fills page
grows_on e (page ∷ []) (suc i) is = absurd (omega arith)
grows_on e (page ∷ next ∷ pages) zero is = absurd (omega arith)
grows_on e (page ∷ next ∷ pages) (suc i) is = behind page (next ∷ pages) (set (next ∷ pages) i (get_or (next ∷ pages) i [] ++ e ∷ [])) (grows_on e (next ∷ pages) i (omega arith))

module _ (s : LogSession) (a : LogAreaOf) (r : Ring) (pages : List (List Entry)) (disk : Disk) (h : StandsRing s a r pages disk) (e : Entry) (may : MayAppend a e) where
  abbrev n : ℕ
  n = next_number a (entry_size e)

  pub placed : IsPlaced a (entry_size e) (next_number a (entry_size e)) (next_at a (entry_size e))
  placed = let some = size_some e in is_placed a (entry_size e) h.area (small_entry e may.fits) (omega arith) may.room

  pub pages_grow : Grows e pages (pages_with e a pages)
  pages_grow = elim placed.where_is [
    | inl (front, number) ↦
        subst (λ (more : List (List Entry)). Grows e pages more)
        (sym (ap (λ (b : Bool). cond b (pages ++ (e ∷ []) ∷ []) (set pages (a.sealed - a.oldest) (get_or pages (a.sealed - a.oldest) [] ++ e ∷ []))) (eq-eqb (next_at a (entry_size e)) 0x40 front))) (grows_end e pages)
    | inr (past, free, number, filling, used) ↦
        subst (λ (more : List (List Entry)). Grows e pages more)
        (sym (ap (λ (b : Bool). cond b (pages ++ (e ∷ []) ∷ []) (set pages (a.sealed - a.oldest) (get_or pages (a.sealed - a.oldest) [] ++ e ∷ []))) (ne_eqb (next_at a (entry_size e)) 0x40 (λ x. omega arith))))
        (grows_on e pages (a.sealed - a.oldest) (omega (arith, h.counted, used)))
  ]

  -- its page is the last one
  pub used_then : used_pages (appended e a) ≡ next_number a (entry_size e) - a.oldest + 1
  used_then = ap (λ (b : Bool). next_number a (entry_size e) - a.oldest + cond b 1 0) (filling_then a e placed.above)
