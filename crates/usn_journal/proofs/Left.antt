-- The records that are left, page by page.
use Rattle.std.proofs.Common.{◌≡◌, ℕ, zero, suc, ◌+◌, ◌-◌, ◌*◌, ◌/◌, ◌<◌, ◌≤◌, List, [], ◌∷◌, ◌++◌, length, take, Result, Ok, Err, refl, sym, ap, ◌∙◌, subst, arith, leb}
use Rattle.std.specs.Prelude.{IfSome, Option, nat_le, IsOk}
use Rattle.std.proofs.lemmas.Bool.{lt-leb}
use Rattle.std.proofs.lemmas.List.{append_assoc, append-nil, take-append-le}
use Rattle.std.proofs.lemmas.List.Elements.{filter-append}
use Rattle.host_base.specs.Answers.{◌>>=◌, ExplainsOrFails}
use Rattle.host_base.proofs.Known.{both, one}
use Rattle.disk_model.specs.Content.{Content}
use Rattle.file_tree.specs.declared.journal.Usn.{Usn}
use Rattle.record_rules.specs.state_model.declared.stream.Extents.{Extents}
use Rattle.record_rules.specs.state_model.Streams.{byte_at}
use Rattle.journal_model.specs.Journals.{page_entries, pages_before, journal_from, journal_in}
use Rattle.journal_model.proofs.JournalPages.{journal_next, journal_last}
use Rattle.volume_state.specs.Journals.{journal_first, journal_entries}
use Rattle.usn_journal.specs.declared.pull_fault.PageFault.{PageFault}
use Rattle.usn_journal.specs.declared.pull_fault.PageFault.TheVariants.{Broken, View, Memory}
use Rattle.usn_journal.specs.PullErrors.{whole_cause, page_cause}
use Rattle.usn_journal.specs.Pulls.{from_on, read_entries}
use Rattle.usn_journal.proofs.Ends.{EndBy, entries_end}

-- records that end by a position don't begin at it or after it
none_from : (from to : ℕ) (entries : List Usn) → to ≤ from → EndBy to entries → from_on from entries ≡ []
none_from from to [] le ends = refl
none_from from to (entry ∷ entries) le ends =
    let here : entry.usn < from = omega (arith, ends.0) in
    let test : nat_le from entry.usn ≡ leb from entry.usn = refl in
    rw (lt-leb from entry.usn here) (none_from from to entries le ends.1)

-- so many pages on, what is left of a journal, and its records from a position on
pub record IsLeft (byte : ℕ → ℕ) (first next from k : ℕ) (all found : List Usn) : Type 0 where
  pub rest : List Usn
  pub read : journal_from byte first next k ≡ Ok rest
  pub parts : from_on from all ≡ found ++ from_on from rest

abbrev chained : Result (List Usn) ℕ → Result (List Usn) ℕ → Result (List Usn) ℕ
chained here after = here >>= λ entries. after >>= λ more. Ok (entries ++ more)

record Split (here after : Result (List Usn) ℕ) (all : List Usn) : Type 0 where
  pub entries : List Usn
  pub more : List Usn
  pub here_is : here ≡ Ok entries
  pub after_is : after ≡ Ok more
  pub whole : all ≡ entries ++ more

split : (here after : Result (List Usn) ℕ) (all : List Usn) → chained here after ≡ Ok all → Split here after all
split (Ok entries) (Ok more) all e = record { entries = entries; more = more; here_is = refl; after_is = refl; whole = cc }
split (Ok entries) (Err place) all e = absurd cc
split (Err place) after all e = absurd cc

-- one page on, whose records are found
page_on : (byte : ℕ → ℕ) (first next from k : ℕ) (all found entries : List Usn) → k < pages_before next → IsLeft byte first next from k all found → page_entries byte first next k ≡ Ok entries
    → IsLeft byte first next from (k + 1) all (found ++ from_on from entries)
page_on byte first next from k all found entries lt left here =
    let s = split (page_entries byte first next k) (journal_from byte first next (k + 1)) left.rest (sym (journal_next byte first next k lt) ∙ left.read) in
    let is = s.here_is in
    let same : s.entries ≡ entries = cc in
    let whole : left.rest ≡ entries ++ s.more = s.whole ∙ ap (λ (l : List Usn). l ++ s.more) same in
    record {
      rest = s.more;
      read = s.after_is;
      parts = left.parts ∙ ap (λ (l : List Usn). found ++ from_on from l) whole ∙ ap (λ (l : List Usn). found ++ l) (filter-append (λ (entry : Usn). nat_le from entry.usn) entries s.more)
          ∙ sym (append_assoc found (from_on from entries) (from_on from s.more));
    }

-- one page on, which ends before the position
page_passed : (byte : ℕ → ℕ) (first next from k : ℕ) (all : List Usn) → first < 4096 * k + 4096 → 4096 * k + 4096 ≤ from → k < pages_before next → IsLeft byte first next from k all [] → IsLeft byte first next from (k + 1) all []
page_passed byte first next from k all begun le lt left =
    let s = split (page_entries byte first next k) (journal_from byte first next (k + 1)) left.rest (sym (journal_next byte first next k lt) ∙ left.read) in
    let none = none_from from (4096 * k + 4096) s.entries le (entries_end byte first next k s.entries begun s.here_is) in
    let on = page_on byte first next from k all [] s.entries lt left s.here_is in
    record {
      rest = on.rest;
      read = on.read;
      parts = on.parts ∙ ap (λ (l : List Usn). ([] ++ l) ++ from_on from on.rest) none;
    }

-- so many pages on
pages_passed : (byte : ℕ → ℕ) (first next from : ℕ) (all : List Usn) (j : ℕ) → from ≤ next → first / 4096 + j ≤ from / 4096 → journal_in byte first next ≡ Ok all → IsLeft byte first next from (first / 4096 + j) all []
unfolding journal_in
pages_passed byte first next from all zero le within e =
    let place : first / 4096 + zero ≡ first / 4096 = omega arith in
    record { rest = all; read = ap (journal_from byte first next) place ∙ e; parts = refl }
pages_passed byte first next from all (suc j) le within e =
    let before = pages_passed byte first next from all j le (omega arith) e in
    let on = page_passed byte first next from (first / 4096 + j) all (omega arith) (omega arith) (omega arith) before in
    let place : first / 4096 + j + 1 ≡ first / 4096 + suc j = omega arith in
    subst (λ (k : ℕ). IsLeft byte first next from k all []) place on

-- at the page of the position
at_page : (byte : ℕ → ℕ) (first next from : ℕ) (all : List Usn) → first ≤ from → from ≤ next → journal_in byte first next ≡ Ok all → IsLeft byte first next from (from / 4096) all []
at_page byte first next from all begun le e =
    let place : first / 4096 + (from / 4096 - first / 4096) ≡ from / 4096 = omega arith in
    subst (λ (k : ℕ). IsLeft byte first next from k all []) place (pages_passed byte first next from all (from / 4096 - first / 4096) le (omega arith) e)

-- ---- as far as is known

abbrev pub KnownLeft : Option Content → ℕ → Extents → ℕ → ℕ → List Usn → Type 0
KnownLeft known per e from k found = IfSome known (λ c. IsLeft (byte_at c per e) (journal_first per e) e.real from k (read_entries (journal_entries c per e)) found)

read_all : (r : Result (List Usn) ℕ) → IsOk r → r ≡ Ok (read_entries r)
read_all (Ok entries) ok = refl
read_all (Err place) ok = absurd cc

pub known_start : (known : Option Content) (per : ℕ) (e : Extents) (from : ℕ) (found : List Usn) → journal_first per e ≤ from → from ≤ e.real → found ≡ [] → IfSome known (λ c. IsOk (journal_entries c per e)) → KnownLeft known per e from (from / 4096) found
unfolding journal_entries
known_start known per e from found begun le none whole =
    one known _ _ (λ c ok. subst (IsLeft (byte_at c per e) (journal_first per e) e.real from (from / 4096) (read_entries (journal_entries c per e))) (sym none)
    (at_page (byte_at c per e) (journal_first per e) e.real from (read_entries (journal_entries c per e)) begun le (read_all (journal_entries c per e) ok))) whole

pub known_on : (known : Option Content) (per : ℕ) (e : Extents) (from k first : ℕ) (found new entries : List Usn) → first ≡ journal_first per e → k < (e.real + 4095) / 4096 → new ≡ found ++ from_on from entries → KnownLeft known per e from k found
    → IfSome known (λ c. page_entries (byte_at c per e) first e.real k ≡ Ok entries) → KnownLeft known per e from (k + 1) new
known_on known per e from k first found new entries is lt grown left here =
    both known _ _ _ (λ c l h. subst (IsLeft (byte_at c per e) (journal_first per e) e.real from (k + 1) (read_entries (journal_entries c per e))) (sym grown)
    (page_on (byte_at c per e) (journal_first per e) e.real from k (read_entries (journal_entries c per e)) found entries lt l (ap (λ (n : ℕ). page_entries (byte_at c per e) n e.real k) (sym is) ∙ h))) left here

-- records, as they are given
abbrev pub given : List Usn → Result (List Usn) PageFault
given entries = Ok entries

-- enough was found
pub known_enough : (known : Option Content) (per : ℕ) (e : Extents) (from k most : ℕ) (found result : List Usn) → most ≤ length found → result ≡ take most found → KnownLeft known per e from k found
    → IfSome known (λ c. given (take most (from_on from (read_entries (journal_entries c per e)))) ≡ given result)
known_enough known per e from k most found result enough is left =
    one known _ _ (λ c l. ap given (ap (take most) l.parts ∙ take-append-le most found (from_on from l.rest) enough ∙ sym is)) left

-- no page is left
pub known_end : (known : Option Content) (per : ℕ) (e : Extents) (from k most : ℕ) (found result : List Usn) → (e.real + 4095) / 4096 ≤ k → result ≡ take most found → KnownLeft known per e from k found
    → IfSome known (λ c. given (take most (from_on from (read_entries (journal_entries c per e)))) ≡ given result)
known_end known per e from k most found result le is left =
    one known _ _ (λ c l.
    let none : l.rest ≡ [] = let r = l.read in let z = journal_last (byte_at c per e) (journal_first per e) e.real k le in cc in
    ap given (ap (take most) (l.parts ∙ ap (λ (x : List Usn). found ++ from_on from x) none ∙ append-nil found) ∙ sym is)) left

-- a page that is left has no record at fault
never_broken : (fault : PageFault) (here : Result (List Usn) ℕ) (entries : List Usn) (meant : Result (List Usn) PageFault) → here ≡ Ok entries → ExplainsOrFails (page_cause fault) here → ExplainsOrFails (whole_cause fault) meant
never_broken (Broken at) here entries meant is said = absurd cc
never_broken View here entries meant is said = tt
never_broken Memory here entries meant is said = tt

pub known_broken : (known : Option Content) (per : ℕ) (e : Extents) (from k most first : ℕ) (found : List Usn) (fault : PageFault) → first ≡ journal_first per e → k < (e.real + 4095) / 4096 → KnownLeft known per e from k found
    → IfSome known (λ c. ExplainsOrFails (page_cause fault) (page_entries (byte_at c per e) first e.real k))
    → IfSome known (λ c. ExplainsOrFails (whole_cause fault) (given (take most (from_on from (read_entries (journal_entries c per e))))))
known_broken known per e from k most first found fault is lt left said =
    both known _ _ _ (λ c l h.
    let s = split (page_entries (byte_at c per e) (journal_first per e) e.real k) (journal_from (byte_at c per e) (journal_first per e) e.real (k + 1)) l.rest (sym (journal_next (byte_at c per e) (journal_first per e) e.real k lt) ∙ l.read) in
    never_broken fault (page_entries (byte_at c per e) (journal_first per e) e.real k) s.entries (given (take most (from_on from (read_entries (journal_entries c per e))))) s.here_is
    (subst (λ (n : ℕ). ExplainsOrFails (page_cause fault) (page_entries (byte_at c per e) n e.real k)) is h)) left said

-- ---- runs
