-- Record pages of a log: when one is whole at its place, and its entries.
use Rattle.std.specs.Prelude.{◌≡◌, ℕ, zero, suc, ◌+◌, ◌-◌, ◌/◌, ◌==◌, ◌&&◌, ◌||◌, Bool, true, false, nat_eq, nat_lt, if◌then◌else◌, List, [], ◌∷◌, ◌++◌, length, take, drop, Option, Some, None, Result, Ok, Err, is_ok, codes}
use Rattle.std.specs.List.{starts_with}
use Rattle.disk_model.specs.host_base.Answers.{Cause, refused, no_memory}
use Rattle.disk_model.specs.Numbers.{field}
use Rattle.disk_model.specs.Fixups.{fixup_of, restored}
use Rattle.log_record.specs.log_model.declared.entry.Entry.{Entry}
use Rattle.log_record.specs.log_model.declared.fault.EntryFault.{EntryFault}
use Rattle.log_record.specs.log_model.Entries.{entry_at, entry_size}
use Rattle.log_page.specs.declared.fault.PageFault.{PageFault}
use Rattle.log_page.specs.declared.fault.PageFault.TheVariants.{NotWhole, Foreign, Memory}
use Rattle.log_page.specs.Places.{entries_at, lap_of}

-- where an error of a call comes from
abbrev pub page_cause : PageFault → Cause PageFault
page_cause NotWhole = refused NotWhole
page_cause (Foreign lsn) = refused (Foreign lsn)
page_cause Memory = no_memory

abbrev pub record_signature : List ℕ
record_signature = codes "RCRD"

-- the LSN of the last entry, that of the first one, and the offset of the first free byte
abbrev pub last_lsn : List ℕ → ℕ
last_lsn page = field 0x08 8 page

abbrev pub first_lsn : List ℕ → ℕ
first_lsn page = field 0x40 8 page

abbrev pub free_at : List ℕ → ℕ
free_at page = field 0x18 2 page

-- a page of a log of so many pages whose update sequence was undone: its first entry has this LSN, and its last one is of the same lap
abbrev pub is_record_page : ℕ → List ℕ → ℕ → Bool
is_record_page pages page lsn = starts_with nat_eq page record_signature && first_lsn page == lsn && lap_of pages (last_lsn page) == lap_of pages lsn

-- The page as it stands on the disk is whole at the place whose first entry has this LSN.
unfoldable pub is_whole_page : ℕ → List ℕ → ℕ → Bool
is_whole_page pages raw lsn = is_ok (fixup_of raw) && is_record_page pages (restored raw) lsn

-- ---- entries

-- What is read from a place on: the entries up to the first one of another shape, and the LSN of that one's place.
pub record Reading : Type 0 where
  pub entries : List Entry
  pub foreign : Option ℕ

abbrev pub no_reading : Reading
no_reading = record { entries = []; foreign = None }

abbrev pub entry_before : Entry → Reading → Reading
entry_before e rest = record { entries = e ∷ rest.entries; foreign = rest.foreign }

abbrev pub foreign_here : ℕ → Reading
foreign_here lsn = record { entries = []; foreign = Some lsn }

-- the LSN of an offset of the page whose first entry has this LSN
abbrev pub lsn_of : ℕ → ℕ → ℕ
lsn_of first at = first + (at - entries_at) / 8

-- the bytes from an offset of the page on, up to the first free one
abbrev pub bytes_from : List ℕ → ℕ → List ℕ
bytes_from page at = drop at (take (free_at page) page)

-- an entry with the LSN of its place stands at this offset
unfoldable pub entry_in : List ℕ → ℕ → ℕ → Option Entry
entry_in page first at = own_entry (lsn_of first at) (entry_at (bytes_from page at))
  where
    own_entry : ℕ → Result Entry EntryFault → Option Entry
    own_entry lsn (Ok e) = if e.lsn == lsn then Some e else None
    own_entry lsn (Err fault) = None

-- an entry is to be read at this offset: it lies before the first free byte; the page's first entry is there in any case
abbrev pub goes_on : List ℕ → ℕ → Bool
goes_on page at = at == entries_at || nat_lt at (free_at page)

-- an entry with what is read after it, or the place of one of another shape
abbrev pub entry_or_foreign : Option Entry → ℕ → (Entry → Reading) → Reading
entry_or_foreign (Some e) lsn after = entry_before e (after e)
entry_or_foreign None lsn after = foreign_here lsn

-- the entries of a page from an offset on, of so many at most
unfoldable pub entries_from : ℕ → List ℕ → ℕ → ℕ → Reading
entries_from zero page first at = no_reading
entries_from (suc most) page first at =
    if goes_on page at
    then entry_or_foreign (entry_in page first at) (lsn_of first at) (λ e. entries_from most page first (at + entry_size e))
    else no_reading

-- the same of all; each entry has at least 0x58 bytes
unfoldable pub page_reading : List ℕ → ℕ → ℕ → Reading
page_reading raw first at = entries_from (length raw) (restored raw) first at

-- the entries of a page that is whole at its place
abbrev pub all_or_foreign : Reading → Result (List Entry) PageFault
all_or_foreign reading = by_foreign reading.foreign
  where
    by_foreign : Option ℕ → Result (List Entry) PageFault
    by_foreign (Some lsn) = Err (Foreign lsn)
    by_foreign None = Ok reading.entries

unfoldable pub page_entries : ℕ → List ℕ → ℕ → Result (List Entry) PageFault
page_entries pages raw first = if is_whole_page pages raw first then all_or_foreign (page_reading raw first entries_at) else Err NotWhole

-- ---- what a call that appends a page's entries leaves

-- a front of these entries was appended
abbrev pub AppendsFront : List Entry → List Entry → List Entry → Type 0
AppendsFront entries old new = (n : ℕ) × (new ≡ old ++ take n entries)

abbrev pub AppendsReading : Reading → List Entry → List Entry → Result (Unit {0}) PageFault → Type 0
AppendsReading reading old new (Ok done) = (reading.foreign ≡ None) × (new ≡ old ++ reading.entries)
AppendsReading reading old new (Err (Foreign lsn)) = (reading.foreign ≡ Some lsn) × (new ≡ old ++ reading.entries)
AppendsReading reading old new (Err Memory) = AppendsFront reading.entries old new
AppendsReading reading old new (Err NotWhole) = ⊥

-- of a page that is whole; one that isn't leaves them as they were
abbrev pub AppendsPage : Bool → Reading → List Entry → List Entry → Result (Unit {0}) PageFault → Type 0
AppendsPage true reading old new result = AppendsReading reading old new result
AppendsPage false reading old new result = (result ≡ Err NotWhole) × (new ≡ old)
