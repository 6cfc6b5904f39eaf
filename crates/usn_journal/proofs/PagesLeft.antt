-- The pages of a journal, judged one after the other.
use Rattle.std.proofs.Common.{◌≡◌, ℕ, ◌+◌, ◌-◌, ◌*◌, ◌/◌, ◌<◌, ◌≤◌, List, ◌++◌, map, Ok, Err, refl, sym, ap, subst, ◌∙◌, arith}
use Rattle.std.specs.Prelude.{min, max, IfSome, Option, Result}
use Rattle.std.specs.List.{range_with_len}
use Rattle.host_base.specs.Answers.{◌>>=◌, Cause, refused, no_memory, failed, never, Explains, ExplainsOrFails}
use Rattle.host_base.proofs.Known.{both, one, always}
use Rattle.disk_model.specs.Content.{Content}
use Rattle.file_tree.specs.declared.journal.Usn.{Usn}
use Rattle.record_rules.specs.state_model.declared.stream.Extents.{Extents}
use Rattle.record_rules.specs.state_model.Streams.{byte_at}
use Rattle.journal_model.specs.declared.fault.UsnFault.{UsnFault}
use Rattle.journal_model.specs.declared.fault.UsnFault.TheVariants.{Cut, Shape, Memory}
use Rattle.journal_model.specs.UsnRecords.{usn_cause}
use Rattle.journal_model.specs.Pages.{page_records}
use Rattle.journal_model.specs.Journals.{bytes_between, placed, page_entries, journal_from}
use Rattle.journal_model.proofs.JournalPages.{journal_next, journal_last, page_from_offset}
use Rattle.usn_record.specs.Checking.{page_check}
use Rattle.usn_journal.specs.JournalErrors.{journal_cause, of_page}
use Rattle.usn_journal.specs.Judging.{judged}

-- ---- one page

-- the bytes that were read are those of the page
page_there : (byte : ℕ → ℕ) (first next k n : ℕ) (page : List ℕ) → first < 4096 * k + 4096 → n ≡ min next (4096 * k + 4096) - 4096 * k → page ≡ map byte (range_with_len (4096 * k) n)
    → placed (page_records page (max first (4096 * k))) ≡ page_entries byte first next k
unfolding page_entries bytes_between
page_there byte first next k n page begun size read =
    ap (λ (bytes : List ℕ). placed (page_records bytes (max first (4096 * k)))) (read ∙ ap (λ (m : ℕ). map byte (range_with_len (4096 * k) m)) size)
    ∙ ap placed (page_from_offset byte k (max first (4096 * k)) (min next (4096 * k + 4096)) (omega arith) (omega arith) (omega arith))

-- whether a page is read, or its fault
abbrev checked : Result (List Usn) UsnFault → Result (Unit {0}) UsnFault
checked r = r >>= λ entries. Ok tt

good_page : (r : Result (List Usn) UsnFault) → checked r ≡ Ok tt → judged (placed r) ≡ Ok tt
good_page (Ok entries) is = refl
good_page (Err fault) is = absurd cc

bad_page : (fault : UsnFault) (r : Result (List Usn) UsnFault) → Explains (usn_cause fault) (checked r) → ExplainsOrFails (journal_cause (of_page fault)) (judged (placed r))
bad_page (Cut at) (Ok entries) is = absurd cc
bad_page (Cut at) (Err other) is = ap (λ (r : Result (Unit {0}) UsnFault). placed r) is
bad_page (Shape at) (Ok entries) is = absurd cc
bad_page (Shape at) (Err other) is = ap (λ (r : Result (Unit {0}) UsnFault). placed r) is
bad_page Memory r is = tt

good_checked : (page : List ℕ) (at : ℕ) → page_check page at ≡ Ok tt → judged (placed (page_records page at)) ≡ Ok tt
unfolding page_check
good_checked page at is = good_page (page_records page at) is

bad_checked : (fault : UsnFault) (page : List ℕ) (at : ℕ) → Explains (usn_cause fault) (page_check page at) → ExplainsOrFails (journal_cause (of_page fault)) (judged (placed (page_records page at)))
unfolding page_check
bad_checked fault page at is = bad_page fault (page_records page at) is

pub page_kept : (known : Option Content) (per : ℕ) (e : Extents) (first k n at : ℕ) (page : List ℕ) → first < 4096 * k + 4096 → n ≡ min e.real (4096 * k + 4096) - 4096 * k → at ≡ max first (4096 * k)
    → IfSome known (λ c. page ≡ map (byte_at c per e) (range_with_len (4096 * k) n)) → page_check page at ≡ Ok tt
    → IfSome known (λ c. judged (page_entries (byte_at c per e) first e.real k) ≡ Ok tt)
page_kept known per e first k n at page begun size place read is =
    one known _ _ (λ c r. ap judged (sym (page_there (byte_at c per e) first e.real k n page begun size r)) ∙ good_checked page (max first (4096 * k)) (rw place at is)) read

pub page_broken : (known : Option Content) (per : ℕ) (e : Extents) (first k n at : ℕ) (page : List ℕ) (fault : UsnFault) → first < 4096 * k + 4096 → n ≡ min e.real (4096 * k + 4096) - 4096 * k → at ≡ max first (4096 * k)
    → IfSome known (λ c. page ≡ map (byte_at c per e) (range_with_len (4096 * k) n)) → Explains (usn_cause fault) (page_check page at)
    → IfSome known (λ c. ExplainsOrFails (journal_cause (of_page fault)) (judged (page_entries (byte_at c per e) first e.real k)))
page_broken known per e first k n at page fault begun size place read is =
    one known _ _ (λ c r. subst (λ (x : Result (List Usn) ℕ). ExplainsOrFails (journal_cause (of_page fault)) (judged x)) (page_there (byte_at c per e) first e.real k n page begun size r) (bad_checked fault page (max first (4096 * k)) (rw place at is))) read

-- ---- all pages

-- entries before those behind them
abbrev before_all : Result (List Usn) ℕ → Result (List Usn) ℕ → Result (List Usn) ℕ
before_all here behind = here >>= λ entries. behind >>= λ more. Ok (entries ++ more)

good_next : (here behind : Result (List Usn) ℕ) → judged here ≡ Ok tt → judged (before_all here behind) ≡ judged behind
good_next (Ok entries) (Ok more) is = refl
good_next (Ok entries) (Err place) is = refl
good_next (Err place) behind is = absurd cc

bad_next : (cause : Cause ℕ) (here behind : Result (List Usn) ℕ) → ExplainsOrFails cause (judged here) → ExplainsOrFails cause (judged (before_all here behind))
bad_next (refused place) (Ok entries) behind is = absurd cc
bad_next (refused place) (Err other) behind is = is
bad_next no_memory here behind is = tt
bad_next failed here behind is = tt
bad_next never here behind is = is

-- where the judgement of all pages is that of the pages left, as far as is known
abbrev pub IsLeft : Option Content → ℕ → Extents → ℕ → ℕ → Type 0
IsLeft known per e first k = IfSome known (λ c. judged (journal_from (byte_at c per e) first e.real (first / 4096)) ≡ judged (journal_from (byte_at c per e) first e.real k))

pub all_left : (known : Option Content) (per : ℕ) (e : Extents) (first : ℕ) → IsLeft known per e first (first / 4096)
all_left known per e first = always known _ (λ c. refl)

pub next_left : (known : Option Content) (per : ℕ) (e : Extents) (first k : ℕ) → k < (e.real + 4095) / 4096 → IsLeft known per e first k
    → IfSome known (λ c. judged (page_entries (byte_at c per e) first e.real k) ≡ Ok tt) → IsLeft known per e first (k + 1)
next_left known per e first k lt left here =
    both known _ _ _ (λ c l h. l ∙ ap judged (journal_next (byte_at c per e) first e.real k lt) ∙ good_next (page_entries (byte_at c per e) first e.real k) (journal_from (byte_at c per e) first e.real (k + 1)) h) left here

pub broken_left : (known : Option Content) (per : ℕ) (e : Extents) (first k : ℕ) (cause : Cause ℕ) → k < (e.real + 4095) / 4096 → IsLeft known per e first k
    → IfSome known (λ c. ExplainsOrFails cause (judged (page_entries (byte_at c per e) first e.real k)))
    → IfSome known (λ c. ExplainsOrFails cause (judged (journal_from (byte_at c per e) first e.real (first / 4096))))
broken_left known per e first k cause lt left here =
    both known _ _ _
    (λ c l h. subst (λ (x : Result (Unit {0}) ℕ). ExplainsOrFails cause x) (sym (l ∙ ap judged (journal_next (byte_at c per e) first e.real k lt)))
    (bad_next cause (page_entries (byte_at c per e) first e.real k) (journal_from (byte_at c per e) first e.real (k + 1)) h))
    left here

pub none_left : (known : Option Content) (per : ℕ) (e : Extents) (first k : ℕ) → (e.real + 4095) / 4096 ≤ k → IsLeft known per e first k
    → IfSome known (λ c. judged (journal_from (byte_at c per e) first e.real (first / 4096)) ≡ Ok tt)
none_left known per e first k le left = one known _ _ (λ c l. l ∙ ap judged (journal_last (byte_at c per e) first e.real k le)) left
