-- The records of a journal begin at its first byte or behind it, so that all are those from there on.
use Rattle.std.proofs.Common.{◌≡◌, ℕ, zero, suc, ◌+◌, ◌<◌, ◌≤◌, Bool, true, false, cond, ◌==◌, List, [], ◌∷◌, ◌++◌, length, drop, take, map, Option, Some, None, Result, Ok, Err, refl, sym, ap, ◌∙◌, subst, arith}
use Rattle.std.specs.List.{AllByRecursion}
use Rattle.std.proofs.lemmas.Bool.{le-leb}
use Rattle.host_base.specs.Answers.{◌>>=◌, needs}
use Rattle.disk_model.specs.Numbers.{field}
use Rattle.disk_model.specs.Content.{Content}
use Rattle.file_tree.specs.declared.journal.Usn.{Usn}
use Rattle.image_open.specs.state_model.declared.stream.Extents.{Extents}
use Rattle.image_open.specs.state_model.Streams.{byte_at}
use Rattle.disk_model.specs.Bytes.{all_zeros}
use Rattle.volume_check.specs.journal_model.declared.fault.UsnFault.{UsnFault}
use Rattle.volume_check.specs.journal_model.declared.fault.UsnFault.TheVariants.{Cut, Shape}
use Rattle.volume_check.specs.journal_model.UsnRecords.{is_whole, is_length, own_bytes, is_usn, usn_of, entry_in, usn_in, known_version}
use Rattle.volume_check.specs.journal_model.Pages.{with_entry, records_in, records_of}
use Rattle.volume_check.specs.journal_model.Journals.{bytes_between, placed, joined, page_entries, page_from, page_to, journal_from, journal_in}
use Rattle.volume_check.proofs.journal_model.UsnRead.{sound_parts}
use Rattle.volume_check.specs.volume_state.Journals.{journal_first, journal_entries}
use Rattle.volume_check.specs.usn_journal.Pulls.{from_on, read_entries}

-- each of these records begins at this place or behind it
abbrev BeginFrom : ℕ → List Usn → Type 0
BeginFrom from entries = AllByRecursion (λ (entry : Usn). from ≤ entry.usn) entries

-- ---- one record

abbrev sized : ℕ → Option Usn → Result (Option Usn × ℕ) UsnFault
sized f entry = Ok (entry, f)

abbrev entry_of : Result (Option Usn × ℕ) UsnFault → Result (Option Usn) UsnFault
entry_of (Ok p) = Ok p.0
entry_of (Err fault) = Err fault

-- a record that is read passed its tests
passed : (w l : Bool) (cut shape : UsnFault) (r : Result (Option Usn) UsnFault) (f n : ℕ) (found : Option Usn)
    → (needs w cut >>= λ _. needs l shape >>= λ _. r >>= sized f) ≡ sized n found → r ≡ Ok found
passed false l cut shape r f n found e = absurd cc
passed true false cut shape r f n found e = absurd cc
passed true true cut shape (Ok x) f n found e = ap entry_of e
passed true true cut shape (Err x) f n found e = absurd cc

chosen : (v s : Bool) (shape : UsnFault) (u : Usn) (entry : Usn) → cond v (needs s shape >>= λ _. Ok (Some u)) (Ok None) ≡ Ok (Some entry) → (s ≡ true) × (u ≡ entry)
chosen true true shape u entry e = (refl, cc)
chosen true false shape u entry e = absurd cc
chosen false s shape u entry e = absurd cc

sound_begin : (at : ℕ) (own : List ℕ) → is_usn at own ≡ true → (usn_of own).usn ≡ at
unfolding usn_of
sound_begin at own s = (sound_parts at own s).layout.usn

entry_begin : (at : ℕ) (own : List ℕ) (entry : Usn) → entry_in at own ≡ Ok (Some entry) → entry.usn ≡ at
unfolding entry_in
entry_begin at own entry e =
    let p = chosen (field 0x04 2 own == known_version) (is_usn at own) (Shape at) (usn_of own) entry e in
    ap (λ (u : Usn). u.usn) (sym p.1) ∙ sound_begin at own p.0

read_begin : (bytes : List ℕ) (at n : ℕ) (entry : Usn) → usn_in bytes at ≡ Ok (Some entry, n) → entry.usn ≡ at
unfolding usn_in
read_begin bytes at n entry e = entry_begin at (own_bytes bytes) entry (passed (is_whole bytes) (is_length (field 0x00 4 bytes)) (Cut at) (Shape at) (entry_in at (own_bytes bytes)) (field 0x00 4 bytes) n (Some entry) e)

-- ---- the records of bytes

with_begin : (from : ℕ) (found : Option Usn) (behind : Result (List Usn) UsnFault) (entries : List Usn) → ((entry : Usn) → found ≡ Some entry → from ≤ entry.usn) → ((more : List Usn) → behind ≡ Ok more → BeginFrom from more)
    → with_entry found behind ≡ Ok entries → BeginFrom from entries
with_begin from None behind entries here there e = there entries e
with_begin from (Some entry) (Ok more) entries here there e =
    let is : entry ∷ more ≡ entries = cc in
    subst (BeginFrom from) is (here entry refl, there more refl)
with_begin from (Some entry) (Err fault) entries here there e = absurd cc

step_begin : (from : ℕ) (zeros : Bool) (read : Result (Option Usn × ℕ) UsnFault) (next : Option Usn × ℕ → Result (List Usn) UsnFault) (entries : List Usn)
    → ((found : Option Usn) (n : ℕ) → read ≡ Ok (found, n) → next (found, n) ≡ Ok entries → BeginFrom from entries) → cond zeros (Ok []) (read >>= next) ≡ Ok entries → BeginFrom from entries
step_begin from true read next entries begins e =
    let is : [] ≡ entries = cc in
    subst (BeginFrom from) is tt
step_begin from false (Ok p) next entries begins e = begins p.0 p.1 refl e
step_begin from false (Err fault) next entries begins e = absurd cc

records_begin : (most : ℕ) (bytes : List ℕ) (at from : ℕ) (entries : List Usn) → from ≤ at → records_in most bytes at ≡ Ok entries → BeginFrom from entries
unfolding records_in
records_begin zero bytes at from entries le e =
    let is : [] ≡ entries = cc in
    subst (BeginFrom from) is tt
records_begin (suc most) bytes at from entries le e =
    step_begin from (all_zeros bytes) (usn_in bytes at) (λ (found : Option Usn × ℕ). with_entry found.0 (records_in most (drop found.1 bytes) (at + found.1))) entries
    (λ found n read rest.
    with_begin from found (records_in most (drop n bytes) (at + n)) entries
    (λ entry is. let begin = read_begin bytes at n entry (read ∙ ap (λ (x : Option Usn). Ok (x, n)) is) in omega arith)
    (λ more there. records_begin most (drop n bytes) (at + n) from more (omega arith) there)
    rest)
    e

-- ---- the pages of a journal

placed_ok : (r : Result (List Usn) UsnFault) (entries : List Usn) → placed r ≡ Ok entries → r ≡ Ok entries
placed_ok (Ok x) entries e = cc
placed_ok (Err fault) entries e = absurd cc

page_begin : (byte : ℕ → ℕ) (first next k : ℕ) (entries : List Usn) → page_entries byte first next k ≡ Ok entries → BeginFrom first entries
unfolding page_entries records_of
page_begin byte first next k entries e =
    let bytes : List ℕ = bytes_between byte (page_from first k) (page_to next k) in
    records_begin (length bytes) bytes (page_from first k) first entries (omega arith) (placed_ok (records_in (length bytes) bytes (page_from first k)) entries e)

both_begin : (from : ℕ) (xs ys : List Usn) → BeginFrom from xs → BeginFrom from ys → BeginFrom from (xs ++ ys)
both_begin from [] ys a b = b
both_begin from (x ∷ xs) ys a b = (a.0, both_begin from xs ys a.1 b)

join_begin : (from : ℕ) (here behind : Result (List Usn) ℕ) (all : List Usn) → ((xs : List Usn) → here ≡ Ok xs → BeginFrom from xs) → ((ys : List Usn) → behind ≡ Ok ys → BeginFrom from ys)
    → (here >>= λ entries. behind >>= λ more. Ok (entries ++ more)) ≡ Ok all → BeginFrom from all
join_begin from (Ok xs) (Ok ys) all a b e =
    let is : xs ++ ys ≡ all = cc in
    subst (BeginFrom from) is (both_begin from xs ys (a xs refl) (b ys refl))
join_begin from (Ok xs) (Err place) all a b e = absurd cc
join_begin from (Err place) behind all a b e = absurd cc

pages_begin : (byte : ℕ → ℕ) (first next : ℕ) (pages : List ℕ) (all : List Usn) → joined (map (page_entries byte first next) pages) ≡ Ok all → BeginFrom first all
unfolding joined
pages_begin byte first next [] all e =
    let is : [] ≡ all = cc in
    subst (BeginFrom first) is tt
pages_begin byte first next (k ∷ pages) all e =
    join_begin first (page_entries byte first next k) (joined (map (page_entries byte first next) pages)) all (λ xs is. page_begin byte first next k xs is) (λ ys is. pages_begin byte first next pages ys is) e

entries_begin : (c : Content) (per : ℕ) (e : Extents) (all : List Usn) → journal_entries c per e ≡ Ok all → BeginFrom (journal_first per e) all
unfolding journal_entries journal_in journal_from
entries_begin c per e all is = pages_begin (byte_at c per e) (journal_first per e) e.real _ all is

-- ---- all are those from there on

keeps_all : (from : ℕ) (entries : List Usn) → BeginFrom from entries → from_on from entries ≡ entries
keeps_all from [] all = refl
keeps_all from (entry ∷ entries) all = rw (le-leb from entry.usn all.0) (ap (λ (es : List Usn). entry ∷ es) (keeps_all from entries all.1))

read_all : (c : Content) (per : ℕ) (e : Extents) (r : Result (List Usn) ℕ) → journal_entries c per e ≡ r → from_on (journal_first per e) (read_entries r) ≡ read_entries r
read_all c per e (Ok all) is = keeps_all (journal_first per e) all (entries_begin c per e all is)
read_all c per e (Err place) is = refl

-- so many that fewer are there are all
short : {X : Type 0} (most : ℕ) (xs : List X) → length (take most xs) < most → take most xs ≡ xs
short zero xs lt = absurd (omega (arith, lt))
short (suc most) [] lt = refl
short (suc most) (x ∷ xs) lt = ap (λ (ys : List _). x ∷ ys) (short most xs (omega (arith, lt)))

pub all_read : (c : Content) (per : ℕ) (e : Extents) (most first : ℕ) (found : List Usn) → first ≡ journal_first per e → found ≡ take most (from_on first (read_entries (journal_entries c per e))) → length found < most
    → read_entries (journal_entries c per e) ≡ found
all_read c per e most first found begin is few =
    let all : from_on first (read_entries (journal_entries c per e)) ≡ read_entries (journal_entries c per e) = rw begin (read_all c per e (journal_entries c per e) refl) in
    let front : found ≡ take most (read_entries (journal_entries c per e)) = is ∙ ap (take most) all in
    sym (front ∙ short most (read_entries (journal_entries c per e)) (rw front at few))
