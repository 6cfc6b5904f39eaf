-- What a store keeps of its log, and of its numbers, call by call.
use Rattle.std.proofs.Common.{◌≡◌, ℕ, suc, ◌+◌, ◌-◌, ◌^◌, ◌<◌, ◌≤◌, Bool, true, false, cond, List, [], ◌∷◌, length, Option, Some, None, refl, sym, ap, ◌∙◌, arith}
use Rattle.std.specs.Prelude.{IfSome}
use Rattle.txn_log.specs.log_model.declared.entry.Entry.{Entry}
use Rattle.txn_log.specs.log_model.declared.entry.Act.{Act}
use Rattle.txn_log.specs.log_model.Entries.{entry_size}
use Rattle.txn_log.specs.log_page.declared.places.LogPlace.{LogPlace}
use Rattle.txn_log.specs.log_area.Areas.{LogAreaOf, ring_size, is_filling, fits, appended, sealed_area, synced_area}
use Rattle.txn_log.specs.txn_model.Pieces.{next_entry, log_with}
use Rattle.txn_state.specs.States.{KeepsLog, KeepsNumbers}
use Rattle.txn_state.proofs.Bools.{true≢false}

-- The log lies where it did, and no fewer pages are sealed.
pub record GoesOn (a b : LogAreaOf) : Type 0 where
  pub pages_stay : b.pages ≡ a.pages
  pub sectors_stay : b.sectors ≡ a.sectors
  pub rises : a.sealed ≤ b.sealed

by_fit : (n : ℕ) (t : Bool) → n ≤ cond t n (n + 1)
by_fit n true = omega arith
by_fit n false = omega arith

appends : (e : Entry) (a : LogAreaOf) → GoesOn a (appended e a)
appends e a = record { pages_stay = refl; sectors_stay = refl; rises = by_fit a.sealed (fits a (entry_size e)) }

pub log_goes_on : (log : LogAreaOf) (tx last : ℕ) (acts : List Act) → GoesOn log (log_with log tx last acts)
log_goes_on log tx last [] = record { pages_stay = refl; sectors_stay = refl; rises = omega arith }
log_goes_on log tx last (act ∷ acts) =
    let e = next_entry log tx last act in
    let first = appends e log in
    let more = log_goes_on (appended e log) tx e.lsn acts in
    record { pages_stay = more.pages_stay; sectors_stay = more.sectors_stay; rises = omega (arith, first.rises, more.rises) }

pub seal_goes_on : (a : LogAreaOf) → GoesOn a (sealed_area a)
seal_goes_on a = by_filling (is_filling a)
  where
    by_filling : (t : Bool) → GoesOn a (cond t (record a { free = 64; sealed = a.sealed + 1 }) a)
    by_filling true = record { pages_stay = refl; sectors_stay = refl; rises = omega arith }
    by_filling false = record { pages_stay = refl; sectors_stay = refl; rises = omega arith }

noted_below : (m n : ℕ) (noted : Option ℕ) → m ≤ n → IfSome noted (λ k. k ≤ m) → IfSome noted (λ k. k ≤ n)
noted_below m n (Some k) le is = omega (arith, le, is)
noted_below m n None le is = tt

-- a log that goes on, with its places counted
pub on_log_goes_on : (place : LogPlace) (log now : LogAreaOf) (ends ends' : List ℕ) (noted : Option ℕ) → KeepsLog place log ends noted → GoesOn log now → length ends' ≡ ring_size now → KeepsLog place now ends' noted
on_log_goes_on place log now ends ends' noted k on counted = record {
  pages_are = on.pages_stay ∙ k.pages_are;
  sectors_are = on.sectors_stay ∙ k.sectors_are;
  counted = counted;
  noted_page = noted_below log.sealed now.sealed noted on.rises k.noted_page;
}

-- it goes on, and its places are those of before
pub on_log_stays : (place : LogPlace) (log now : LogAreaOf) (ends : List ℕ) (noted : Option ℕ) → KeepsLog place log ends noted → GoesOn log now → KeepsLog place now ends noted
on_log_stays place log now ends noted k on = on_log_goes_on place log now ends ends noted k on (k.counted ∙ sym (ap (λ (n : ℕ). n - 4) on.pages_stay))

-- and the page that is filled is noted
pub on_log_notes : (place : LogPlace) (log now : LogAreaOf) (ends : List ℕ) (noted : Option ℕ) → KeepsLog place log ends noted → GoesOn log now → KeepsLog place now ends (Some now.sealed)
on_log_notes place log now ends noted k on = record {
  pages_are = on.pages_stay ∙ k.pages_are;
  sectors_are = on.sectors_stay ∙ k.sectors_are;
  counted = k.counted ∙ sym (ap (λ (n : ℕ). n - 4) on.pages_stay);
  noted_page = omega arith;
}

noted_or_none : (t : Bool) (m : ℕ) (noted : Option ℕ) → IfSome noted (λ k. k ≤ m) → IfSome (cond t None noted) (λ k. k ≤ m)
noted_or_none true m noted is = tt
noted_or_none false m noted is = is

pub on_log_synced : (place : LogPlace) (log : LogAreaOf) (ends : List ℕ) (noted : Option ℕ) (t : Bool) → KeepsLog place log ends noted → KeepsLog place (synced_area log) ends (cond t None noted)
on_log_synced place log ends noted t k = record { pages_are = k.pages_are; sectors_are = k.sectors_are; counted = k.counted; noted_page = noted_or_none t log.sealed noted k.noted_page }

-- ---- numbers

pub numbers_end : (tx commits : ℕ) → KeepsNumbers true tx commits → KeepsNumbers false (suc tx) commits
numbers_end tx commits k = record { some = omega arith; numbered = omega (arith, k.opened refl); opened = λ e. true≢false (sym e); committed = omega (arith, k.committed) }

pub numbers_commit : (tx commits : ℕ) → KeepsNumbers true tx commits → KeepsNumbers false (suc tx) (suc commits)
numbers_commit tx commits k = record { some = omega arith; numbered = omega (arith, k.opened refl); opened = λ e. true≢false (sym e); committed = omega (arith, k.committed) }

pub numbers_begin : (tx commits : ℕ) → tx < 2 ^ 32 → KeepsNumbers false tx commits → KeepsNumbers true tx commits
numbers_begin tx commits lt k = record { some = k.some; numbered = k.numbered; opened = λ e. lt; committed = k.committed }

pub numbers_first : KeepsNumbers false 1 0
numbers_first = record { some = omega arith; numbered = omega arith; opened = λ e. true≢false (sym e); committed = omega arith }
