-- A page that is read.
use Rattle.std.proofs.Common.{◌≡◌, ℕ, ◌+◌, ◌-◌, ◌*◌, ◌<◌, List, map, Result, Ok, sym, ap, ◌∙◌, subst, arith}
use Rattle.std.specs.Prelude.{min, max, IfSome, Option}
use Rattle.std.specs.List.{range_with_len}
use Rattle.host_base.specs.Answers.{Explains, ExplainsOrFails}
use Rattle.host_base.proofs.Known.{one}
use Rattle.disk_model.specs.Content.{Content}
use Rattle.file_tree.specs.declared.journal.Usn.{Usn}
use Rattle.record_rules.specs.state_model.declared.stream.Extents.{Extents}
use Rattle.record_rules.specs.state_model.Streams.{byte_at}
use Rattle.journal_model.specs.declared.fault.UsnFault.{UsnFault}
use Rattle.journal_model.specs.declared.fault.UsnFault.TheVariants.{Cut, Shape, Memory}
use Rattle.journal_model.specs.UsnRecords.{usn_cause}
use Rattle.journal_model.specs.Pages.{page_records}
use Rattle.journal_model.specs.Journals.{bytes_between, placed, page_entries}
use Rattle.journal_model.proofs.JournalPages.{page_from_offset}
use Rattle.usn_journal.specs.PullErrors.{page_cause, of_record}

-- the bytes that were read are those of the page
page_there : (byte : ℕ → ℕ) (first next k n : ℕ) (page : List ℕ) → first < 4096 * k + 4096 → n ≡ min next (4096 * k + 4096) - 4096 * k → page ≡ map byte (range_with_len (4096 * k) n)
    → placed (page_records page (max first (4096 * k))) ≡ page_entries byte first next k
unfolding page_entries bytes_between
page_there byte first next k n page begun size read =
    ap (λ (bytes : List ℕ). placed (page_records bytes (max first (4096 * k)))) (read ∙ ap (λ (m : ℕ). map byte (range_with_len (4096 * k) m)) size)
    ∙ ap placed (page_from_offset byte k (max first (4096 * k)) (min next (4096 * k + 4096)) (omega arith) (omega arith) (omega arith))

bad_page : (fault : UsnFault) (r : Result (List Usn) UsnFault) → Explains (usn_cause fault) r → ExplainsOrFails (page_cause (of_record fault)) (placed r)
bad_page (Cut at) r is = ap placed is
bad_page (Shape at) r is = ap placed is
bad_page Memory r is = tt

pub page_given : (known : Option Content) (per : ℕ) (e : Extents) (first k n at : ℕ) (page : List ℕ) (entries : List Usn) → first < 4096 * k + 4096 → n ≡ min e.real (4096 * k + 4096) - 4096 * k → at ≡ max first (4096 * k)
    → IfSome known (λ c. page ≡ map (byte_at c per e) (range_with_len (4096 * k) n)) → page_records page at ≡ Ok entries
    → IfSome known (λ c. page_entries (byte_at c per e) first e.real k ≡ Ok entries)
page_given known per e first k n at page entries begun size place read is =
    one known _ _ (λ c r. sym (page_there (byte_at c per e) first e.real k n page begun size r) ∙ ap (λ (x : ℕ). placed (page_records page x)) (sym place) ∙ ap placed is) read

pub page_broken : (known : Option Content) (per : ℕ) (e : Extents) (first k n at : ℕ) (page : List ℕ) (fault : UsnFault) → first < 4096 * k + 4096 → n ≡ min e.real (4096 * k + 4096) - 4096 * k → at ≡ max first (4096 * k)
    → IfSome known (λ c. page ≡ map (byte_at c per e) (range_with_len (4096 * k) n)) → Explains (usn_cause fault) (page_records page at)
    → IfSome known (λ c. ExplainsOrFails (page_cause (of_record fault)) (page_entries (byte_at c per e) first e.real k))
page_broken known per e first k n at page fault begun size place read is =
    one known _ _ (λ c r. subst (λ (x : Result (List Usn) ℕ). ExplainsOrFails (page_cause (of_record fault)) x) (page_there (byte_at c per e) first e.real k n page begun size r)
    (bad_page fault (page_records page (max first (4096 * k))) (subst (λ (x : ℕ). Explains (usn_cause fault) (page_records page x)) place is))) read
