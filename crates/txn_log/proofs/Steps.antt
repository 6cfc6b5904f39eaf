-- Entries that are appended one behind the other.
use Rattle.std.proofs.Common.{◌≡◌, subst, ℕ, List, ◌∷◌, length, sym, ap, ap₂, ◌∙◌}
use Rattle.std.specs.Prelude.{slice_set}
use Rattle.store_pools.specs.log_model.declared.entry.Entry.{Entry}
use Rattle.store_pools.specs.log_model.declared.entry.Act.{Act}
use Rattle.store_pools.specs.log_area.Areas.{LogAreaOf, ring_size, place_at, appended}
use Rattle.store_pools.specs.txn_model.Pieces.{next_entry, log_with, last_of, ends_with}
use Rattle.store_pools.specs.txn_model.Appending.{MayAppendAll}

-- The entries of these acts may be appended yet, and then all is as where those of all acts were appended at first.
pub record GoesOn (tx commits : ℕ) (log0 : LogAreaOf) (last0 : ℕ) (ends0 : List ℕ) (all : List Act) (log : LogAreaOf) (last : ℕ) (ends : List ℕ) (acts : List Act) : Type 0 where
  pub may : MayAppendAll log tx last acts
  pub counted : length ends ≡ ring_size log
  pub area : log_with log tx last acts ≡ log_with log0 tx last0 all
  pub told : ends_with log tx last commits ends acts ≡ ends_with log0 tx last0 commits ends0 all
  pub answer : last_of log tx last acts ≡ last_of log0 tx last0 all

-- one of them was
pub goes_on : (tx commits : ℕ) (log0 : LogAreaOf) (last0 : ℕ) (ends0 : List ℕ) (all : List Act) (log : LogAreaOf) (last : ℕ) (ends : List ℕ) (acts : List Act) (log' : LogAreaOf) (last' : ℕ) (ends' : List ℕ) (rest : List Act) (act : Act)
    → GoesOn tx commits log0 last0 ends0 all log last ends acts → acts ≡ act ∷ rest → log' ≡ appended (next_entry log tx last act) log → ends' ≡ slice_set ends (place_at log' log'.sealed) commits → last' ≡ (next_entry log tx last act).lsn
    → length ends' ≡ ring_size log' → GoesOn tx commits log0 last0 ends0 all log' last' ends' rest
goes_on tx commits log0 last0 ends0 all log last ends acts log' last' ends' rest act before first log_is ends_is last_is counted =
    let e : Entry = next_entry log tx last act in
    let may : MayAppendAll log tx last (act ∷ rest) = subst (λ (xs : List Act). MayAppendAll log tx last xs) first before.may in
    let told : ends' ≡ slice_set ends (place_at (appended e log) (appended e log).sealed) commits = ends_is ∙ ap (λ (a : LogAreaOf). slice_set ends (place_at a a.sealed) commits) log_is in
    record {
      may = subst (λ (n : ℕ). MayAppendAll log' tx n rest) (sym last_is) (subst (λ (a : LogAreaOf). MayAppendAll a tx e.lsn rest) (sym log_is) may.1);
      counted = counted;
      area = ap₂ (λ (a : LogAreaOf) (n : ℕ). log_with a tx n rest) log_is last_is ∙ sym (ap (λ (xs : List Act). log_with log tx last xs) first) ∙ before.area;
      told =
          ap₂ (λ (a : LogAreaOf) (n : ℕ). ends_with a tx n commits ends' rest) log_is last_is ∙ ap (λ (l : List ℕ). ends_with (appended e log) tx e.lsn commits l rest) told
          ∙ sym (ap (λ (xs : List Act). ends_with log tx last commits ends xs) first) ∙ before.told;
      answer = ap₂ (λ (a : LogAreaOf) (n : ℕ). last_of a tx n rest) log_is last_is ∙ sym (ap (λ (xs : List Act). last_of log tx last xs) first) ∙ before.answer;
    }
