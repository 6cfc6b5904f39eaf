-- Where the records of a page begin and end.
use Rattle.std.proofs.Common.{◌≡◌, ℕ, zero, suc, ◌+◌, ◌-◌, ◌*◌, ◌%◌, ◌^◌, ◌<◌, ◌≤◌, Bool, true, false, cond, ◌==◌, List, [], ◌∷◌, ◌++◌, length, take, drop, map, Option, Some, None, Result, Ok, Err, refl, sym, ap, ◌∙◌, subst, All, arith, length-take, length-drop}
use Rattle.std.specs.Prelude.{min, max, nat_le}
use Rattle.std.specs.List.{range_with_len, AllByRecursion}
use Rattle.std.proofs.lemmas.List.Elements.{All-from_recursion, All-append, All-filter}
use Rattle.std.proofs.lemmas.List.FromFn.{length-map-range_with_len}
use Rattle.host_base.specs.Answers.{◌>>=◌, needs}
use Rattle.disk_model.specs.Numbers.{field}
use Rattle.file_tree.specs.declared.journal.Usn.{Usn}
use Rattle.disk_model.specs.Bytes.{all_zeros}
use Rattle.journal_model.specs.declared.fault.UsnFault.{UsnFault}
use Rattle.journal_model.specs.declared.fault.UsnFault.TheVariants.{Cut, Shape}
use Rattle.journal_model.specs.UsnRecords.{is_whole, is_length, own_bytes, is_usn, usn_of, entry_in, usn_in, known_version, page_rest}
use Rattle.journal_model.specs.Pages.{with_entry, records_in, records_of, page_records}
use Rattle.journal_model.specs.Journals.{bytes_between, placed, page_entries}
use Rattle.journal_model.proofs.UsnRead.{sound_parts, length-name_units, found_length}
use Rattle.usn_journal.specs.Pulls.{usn_end, from_on}

-- each of these records ends by this place
abbrev pub EndBy : ℕ → List Usn → Type 0
EndBy to entries = AllByRecursion (λ (entry : Usn). usn_end entry ≤ to) entries

-- ---- one record

-- an entry with its record's length
abbrev sized : ℕ → Option Usn → Result (Option Usn × ℕ) UsnFault
sized f entry = Ok (entry, f)

abbrev entry_of : Result (Option Usn × ℕ) UsnFault → Result (Option Usn) UsnFault
entry_of (Ok p) = Ok p.0
entry_of (Err fault) = Err fault

-- a record that is read passed its tests
passed : (w l : Bool) (cut shape : UsnFault) (r : Result (Option Usn) UsnFault) (f n : ℕ) (found : Option Usn)
    → (needs w cut >>= λ _. needs l shape >>= λ _. r >>= sized f) ≡ sized n found → r ≡ Ok found
passed false l cut shape r f n found e = absurd cc
passed true false cut shape r f n found e = absurd cc
passed true true cut shape (Ok x) f n found e = ap entry_of e
passed true true cut shape (Err x) f n found e = absurd cc

chosen : (v s : Bool) (shape : UsnFault) (u : Usn) (entry : Usn) → cond v (needs s shape >>= λ _. Ok (Some u)) (Ok None) ≡ Ok (Some entry) → (s ≡ true) × (u ≡ entry)
chosen true true shape u entry e = (refl, cc)
chosen true false shape u entry e = absurd cc
chosen false s shape u entry e = absurd cc

sound_end : (at : ℕ) (own : List ℕ) → is_usn at own ≡ true → usn_end (usn_of own) ≡ at + length own
unfolding usn_of
sound_end at own s =
    let sound = sound_parts at own s in
    let usn = sound.layout.usn in
    let size = sound.layout.size in
    let units = length-name_units own in
    let whole = sound.layout.whole_units in
    omega arith

entry_end : (at : ℕ) (own : List ℕ) (entry : Usn) → entry_in at own ≡ Ok (Some entry) → usn_end entry ≡ at + length own
unfolding entry_in
entry_end at own entry e =
    let p = chosen (field 0x04 2 own == known_version) (is_usn at own) (Shape at) (usn_of own) entry e in
    ap usn_end (sym p.1) ∙ sound_end at own p.0

read_end : (bytes : List ℕ) (at n : ℕ) (entry : Usn) → usn_in bytes at ≡ Ok (Some entry, n) → usn_end entry ≤ at + length bytes
unfolding usn_in
read_end bytes at n entry e =
    let r = passed (is_whole bytes) (is_length (field 0x00 4 bytes)) (Cut at) (Shape at) (entry_in at (own_bytes bytes)) (field 0x00 4 bytes) n (Some entry) e in
    let is = entry_end at (own_bytes bytes) entry r in
    let size = length-take (field 0x00 4 bytes) bytes in
    omega arith

-- ---- the records of bytes

-- records that end by a place, and one more
with_end : (found : Option Usn) (after : Result (List Usn) UsnFault) (entries : List Usn) (to : ℕ) → ((entry : Usn) → found ≡ Some entry → usn_end entry ≤ to) → ((more : List Usn) → after ≡ Ok more → EndBy to more)
    → with_entry found after ≡ Ok entries → EndBy to entries
with_end None after entries to here there e = there entries e
with_end (Some entry) (Ok more) entries to here there e =
    let is : entry ∷ more ≡ entries = cc in
    subst (EndBy to) is (here entry refl, there more refl)
with_end (Some entry) (Err fault) entries to here there e = absurd cc

step_end : (zeros : Bool) (read : Result (Option Usn × ℕ) UsnFault) (next : Option Usn × ℕ → Result (List Usn) UsnFault) (entries : List Usn) (to : ℕ)
    → ((found : Option Usn) (n : ℕ) → read ≡ Ok (found, n) → next (found, n) ≡ Ok entries → EndBy to entries) → cond zeros (Ok []) (read >>= next) ≡ Ok entries → EndBy to entries
step_end true read next entries to ends e =
    let is : [] ≡ entries = cc in
    subst (EndBy to) is tt
step_end false (Ok p) next entries to ends e = ends p.0 p.1 refl e
step_end false (Err fault) next entries to ends e = absurd cc

pub records_end : (most : ℕ) (bytes : List ℕ) (at to : ℕ) (entries : List Usn) → at + length bytes ≤ to → records_in most bytes at ≡ Ok entries → EndBy to entries
unfolding records_in
records_end zero bytes at to entries le e =
    let is : [] ≡ entries = cc in
    subst (EndBy to) is tt
records_end (suc most) bytes at to entries le e =
    step_end (all_zeros bytes) (usn_in bytes at) (λ (found : Option Usn × ℕ). with_entry found.0 (records_in most (drop found.1 bytes) (at + found.1))) entries to
    (λ found n read rest.
    let size = found_length bytes at found n read in
    let left = length-drop n bytes in
    with_end found (records_in most (drop n bytes) (at + n)) entries to
    (λ entry is. let end = read_end bytes at n entry (read ∙ ap (λ (x : Option Usn). Ok (x, n)) is) in omega arith)
    (λ more there. records_end most (drop n bytes) (at + n) to more (omega arith) there)
    rest)
    e

-- the records of a page's bytes end by the page's end
pub page_end : (page : List ℕ) (at k : ℕ) (entries : List Usn) → length page ≤ 4096 → 4096 * k ≤ at → at < 4096 * k + 4096 → page_records page at ≡ Ok entries → EndBy (4096 * k + 4096) entries
unfolding page_records records_of
page_end page at k entries short le lt e =
    let front = length-take 4096 page in
    let left = length-drop (at % 4096) (take 4096 page) in
    records_end (length (page_rest page at)) (page_rest page at) at (4096 * k + 4096) entries (omega arith) e

pub page_end_all : (page : List ℕ) (at k : ℕ) (entries : List Usn) → length page ≤ 4096 → 4096 * k ≤ at → at < 4096 * k + 4096 → page_records page at ≡ Ok entries → All (λ (entry : Usn). usn_end entry ≤ 4096 * k + 4096) entries
page_end_all page at k entries short le lt e = All-from_recursion (λ (entry : Usn). usn_end entry ≤ 4096 * k + 4096) entries (page_end page at k entries short le lt e)

placed_ok : (r : Result (List Usn) UsnFault) (entries : List Usn) → placed r ≡ Ok entries → r ≡ Ok entries
placed_ok (Ok x) entries e = cc
placed_ok (Err fault) entries e = absurd cc

-- the same of a page of a stream
pub entries_end : (byte : ℕ → ℕ) (first next k : ℕ) (entries : List Usn) → first < 4096 * k + 4096 → page_entries byte first next k ≡ Ok entries → EndBy (4096 * k + 4096) entries
unfolding page_entries records_of bytes_between
entries_end byte first next k entries begun e =
    let bytes : List ℕ = map byte (range_with_len (max first (4096 * k)) (min next (4096 * k + 4096) - max first (4096 * k))) in
    let size = length-map-range_with_len byte (max first (4096 * k)) (min next (4096 * k + 4096) - max first (4096 * k)) in
    records_end (length bytes) bytes (max first (4096 * k)) (4096 * k + 4096) entries (omega arith) (placed_ok (records_in (length bytes) bytes (max first (4096 * k))) entries e)

-- the same of what is kept of them, after others
pub ends_grown : (from to : ℕ) (found new entries : List Usn) → new ≡ found ++ from_on from entries → All (λ (entry : Usn). usn_end entry < 2 ^ 64) found → All (λ (entry : Usn). usn_end entry ≤ to) entries → to < 2 ^ 64
    → All (λ (entry : Usn). usn_end entry < 2 ^ 64) new
ends_grown from to found new entries grown before here small =
    let below : All (λ (entry : Usn). usn_end entry < 2 ^ 64) entries = λ k d lt. let le = here k d lt in omega arith in
    subst (All (λ (entry : Usn). usn_end entry < 2 ^ 64)) (sym grown)
    (All-append (λ (entry : Usn). usn_end entry < 2 ^ 64) found (from_on from entries) before (All-filter (λ (entry : Usn). nat_le from entry.usn) (λ (entry : Usn). usn_end entry < 2 ^ 64) entries below))

pub none_ends : (found : List Usn) → found ≡ [] → All (λ (entry : Usn). usn_end entry < 2 ^ 64) found
none_ends found none = subst (All (λ (entry : Usn). usn_end entry < 2 ^ 64)) (sym none) (λ k d lt. absurd (omega arith))
