-- Walks over the records of a page: one record more, and where they end.
use Rattle.std.proofs.Common.{◌≡◌, ℕ, ◌+◌, true, false, List, [], ◌∷◌, ◌++◌, drop, Option, Some, None, Result, Ok, Err, refl, sym, ap, ◌∙◌, append_assoc}
use Rattle.std.proofs.lemmas.List.{append-nil}
use Rattle.host_base.specs.Answers.{◌>>=◌, Explains}
use Rattle.file_tree.specs.declared.journal.Usn.{Usn}
use Rattle.disk_model.specs.Bytes.{all_zeros}
use Rattle.journal_model.specs.declared.fault.UsnFault.{UsnFault}
use Rattle.journal_model.specs.declared.fault.UsnFault.TheVariants.{Cut, Shape, Memory}
use Rattle.journal_model.specs.UsnRecords.{usn_cause, page_rest, usn_in}
use Rattle.journal_model.specs.Pages.{with_entry, records_of, page_records}
use Rattle.journal_model.proofs.PageRead.{records_end, records_next, records_fault}
use Rattle.usn_record.specs.Checking.{length_in, page_check, listed}
use Rattle.usn_record.proofs.Chained.{length_refused}

-- the entries so far, and those that are still to be read
abbrev pub with_front : List Usn → Result (List Usn) UsnFault → Result (List Usn) UsnFault
with_front front (Ok entries) = Ok (front ++ entries)
with_front front (Err fault) = Err fault

moved_front : (front : List Usn) (found : Option Usn) (r : Result (List Usn) UsnFault) → with_front front (with_entry found r) ≡ with_front (front ++ listed found) r
moved_front front None (Ok entries) = ap (λ (l : List Usn). Ok (l ++ entries)) (sym (append-nil front))
moved_front front None (Err fault) = refl
moved_front front (Some entry) (Ok entries) = ap (λ (l : List Usn). Ok l) (sym (append_assoc front (entry ∷ []) entries))
moved_front front (Some entry) (Err fault) = refl

-- before the first record
pub begun : (front : List Usn) (page rest : List ℕ) (at : ℕ) → front ≡ [] → rest ≡ page_rest page at → with_front front (records_of rest at) ≡ page_records page at
unfolding page_records
begun front page rest at none is = ap (λ (l : List Usn). with_front l (records_of rest at)) none ∙ alone (records_of rest at) ∙ ap (λ (l : List ℕ). records_of l at) is
  where
    alone : (r : Result (List Usn) UsnFault) → with_front [] r ≡ r
    alone (Ok entries) = refl
    alone (Err fault) = refl

-- one record more
pub went_on : (front front' : List Usn) (rest rest' : List ℕ) (place n : ℕ) (found : Option Usn) (whole : Result (List Usn) UsnFault)
    → all_zeros rest ≡ false → usn_in rest place ≡ Ok (found, n) → front' ≡ front ++ listed found → rest' ≡ drop n rest → with_front front (records_of rest place) ≡ whole → with_front front' (records_of rest' (place + n)) ≡ whole
went_on front front' rest rest' place n found whole z is kept left before =
    ap (λ (l : List Usn). with_front l (records_of rest' (place + n))) kept
    ∙ ap (λ (l : List ℕ). with_front (front ++ listed found) (records_of l (place + n))) left
    ∙ sym (moved_front front found (records_of (drop n rest) (place + n)))
    ∙ sym (ap (with_front front) (records_next rest place found n z is))
    ∙ before

-- only zeros are left
pub ended : (front : List Usn) (rest : List ℕ) (place : ℕ) (whole : Result (List Usn) UsnFault) → all_zeros rest ≡ true → with_front front (records_of rest place) ≡ whole → whole ≡ Ok front
ended front rest place whole z before = sym before ∙ ap (with_front front) (records_end rest place z) ∙ ap (λ (l : List Usn). Ok l) (append-nil front)

-- a refusal of the record is that of the page
pub went_wrong : (front : List Usn) (rest : List ℕ) (place : ℕ) (fault : UsnFault) (whole : Result (List Usn) UsnFault)
    → all_zeros rest ≡ false → Explains (usn_cause fault) (usn_in rest place) → with_front front (records_of rest place) ≡ whole → Explains (usn_cause fault) whole
went_wrong front rest place (Cut at) whole z is before = sym before ∙ ap (with_front front) (records_fault rest place (Cut at) z is)
went_wrong front rest place (Shape at) whole z is before = sym before ∙ ap (with_front front) (records_fault rest place (Shape at) z is)
went_wrong front rest place Memory whole z is before = tt

-- ---- the same without the entries

abbrev pub no_entries : Result (List Usn) UsnFault → Result (Unit {0}) UsnFault
no_entries r = r >>= λ entries. Ok tt

length_known : (r : Result (Option Usn × ℕ) UsnFault) (n : ℕ) → (r >>= λ found. Ok found.1) ≡ Ok n → (found : Option Usn) × (r ≡ Ok (found, n))
length_known (Ok (found, m)) n e = let same : m ≡ n = cc in (found, ap (λ (k : ℕ). Ok (found, k)) same)
length_known (Err fault) n e = absurd cc

-- a length that is known is that of a record
pub has_length : (bytes : List ℕ) (at n : ℕ) → length_in bytes at ≡ Ok n → (found : Option Usn) × (usn_in bytes at ≡ Ok (found, n))
unfolding length_in
has_length bytes at n e = length_known (usn_in bytes at) n e

forgets : (found : Option Usn) (r : Result (List Usn) UsnFault) → no_entries (with_entry found r) ≡ no_entries r
forgets None r = refl
forgets (Some entry) (Ok entries) = refl
forgets (Some entry) (Err fault) = refl

pub check_begun : (page rest : List ℕ) (at : ℕ) → rest ≡ page_rest page at → no_entries (records_of rest at) ≡ page_check page at
unfolding page_check page_records
check_begun page rest at is = ap (λ (l : List ℕ). no_entries (records_of l at)) is

pub checked_on : (rest rest' : List ℕ) (place n : ℕ) (whole : Result (Unit {0}) UsnFault) → all_zeros rest ≡ false → length_in rest place ≡ Ok n → rest' ≡ drop n rest → no_entries (records_of rest place) ≡ whole → no_entries (records_of rest' (place + n)) ≡ whole
checked_on rest rest' place n whole z is left before =
    let found = has_length rest place n is in
    ap (λ (l : List ℕ). no_entries (records_of l (place + n))) left
    ∙ sym (forgets found.0 (records_of (drop n rest) (place + n)))
    ∙ sym (ap no_entries (records_next rest place found.0 n z found.1))
    ∙ before

pub check_ended : (rest : List ℕ) (place : ℕ) (whole : Result (Unit {0}) UsnFault) → all_zeros rest ≡ true → no_entries (records_of rest place) ≡ whole → whole ≡ Ok tt
check_ended rest place whole z before = sym before ∙ ap no_entries (records_end rest place z)

pub checked_wrong : (rest : List ℕ) (place : ℕ) (fault : UsnFault) (whole : Result (Unit {0}) UsnFault)
    → all_zeros rest ≡ false → Explains (usn_cause fault) (length_in rest place) → no_entries (records_of rest place) ≡ whole → Explains (usn_cause fault) whole
unfolding length_in
checked_wrong rest place (Cut at) whole z is before = sym before ∙ ap no_entries (records_fault rest place (Cut at) z (length_refused (usn_in rest place) (Cut at) is))
checked_wrong rest place (Shape at) whole z is before = sym before ∙ ap no_entries (records_fault rest place (Shape at) z (length_refused (usn_in rest place) (Shape at) is))
checked_wrong rest place Memory whole z is before = tt
