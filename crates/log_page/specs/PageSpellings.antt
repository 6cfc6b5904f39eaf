-- A record page as it is written, before its update sequence is made, and that it is read again.
use Rattle.std.specs.Prelude.{◌≡◌, ℕ, ◌+◌, ◌-◌, ◌^◌, ◌<◌, ◌≤◌, true, List, [], ◌∷◌, ◌++◌, length, Some, None, Ok}
use Rattle.std.specs.List.{flat_map}
use Rattle.disk_model.specs.Numbers.{spell}
use Rattle.disk_model.specs.Bytes.{zeros, written}
use Rattle.disk_model.specs.Fixups.{is_in_shape}
use Rattle.fixup_record.specs.Protecting.{protected_bytes}
use Rattle.log_record.specs.log_model.declared.entry.Entry.{Entry}
use Rattle.log_record.specs.log_model.Entries.{entry_size, entry_spelling, FitsEntry}
use Rattle.log_page.specs.Places.{page_bytes, entries_at, lap_of, page_lsn}
use Rattle.log_page.specs.RecordPages.{record_signature, lsn_of, is_whole_page, page_reading, page_entries}
use Rattle.log_page.specs.LiveLogs.{said_lsn}

-- the LSN of the last of these entries; this one where there is none
abbrev pub end_lsn : ℕ → List Entry → ℕ
end_lsn lsn [] = lsn
end_lsn lsn (e ∷ entries) = end_lsn e.lsn entries

-- entries one behind the other
unfoldable pub entries_spelling : List Entry → List ℕ
entries_spelling entries = flat_map entry_spelling entries

-- the bytes before the entries: 9 words of the array at 0x28, the LSN of the last entry twice, and the offset of the first free byte
unfoldable pub page_front : ℕ → ℕ → List ℕ
page_front last free =
    let named = written 0x00 record_signature (zeros 0x40) in
    let arrayed = written 0x06 (spell 2 9) (written 0x04 (spell 2 0x28) named) in
    let told = written 0x20 (spell 8 last) (written 0x08 (spell 8 last) arrayed) in
    let counted = written 0x16 (spell 2 1) (written 0x14 (spell 2 1) (written 0x10 (spell 4 1) told)) in
    written 0x18 (spell 2 free) counted

-- the page of this number in this lap with these entries; zeros behind them
unfoldable pub page_spelling : ℕ → ℕ → ℕ → List Entry → List ℕ
page_spelling pages lap page entries =
    let bytes = entries_spelling entries in
    page_front (end_lsn (page_lsn pages lap page) entries) (entries_at + length bytes) ++ (bytes ++ zeros (page_bytes - entries_at - length bytes))

-- From this offset of the page on, whose first entry has this LSN, each entry begins where the one before ends, has a spelling and the LSN of its
-- place, and ends in the page.
abbrev pub AreInPlace : ℕ → ℕ → List Entry → Type 0
AreInPlace first at [] = at ≤ page_bytes
AreInPlace first at (e ∷ entries) = FitsEntry e × (e.lsn ≡ lsn_of first at) × AreInPlace first (at + entry_size e) entries

-- there is an entry, they are in place, and the last one's lap is the page's
pub record MakePage (pages lap page : ℕ) (entries : List Entry) : Type 0 where
  pub some : 0 < length entries
  pub placed : AreInPlace (page_lsn pages lap page) entries_at entries
  pub last : lap_of pages (end_lsn (page_lsn pages lap page) entries) ≡ lap_of pages (page_lsn pages lap page)

-- A page that is protected by whatever check word is whole at its LSN, gives its entries, and says the LSN of the last one.
pub record IsPageAgain (pages lap page : ℕ) (entries : List Entry) (raw : List ℕ) : Type 0 where
  pub whole : is_whole_page pages raw (page_lsn pages lap page) ≡ true
  pub reading : page_reading raw (page_lsn pages lap page) entries_at ≡ record { entries = entries; foreign = None }
  pub gives : page_entries pages raw (page_lsn pages lap page) ≡ Ok entries
  pub says : said_lsn raw ≡ Some (end_lsn (page_lsn pages lap page) entries)

pub record PageReadAgain : Type 0 where
  pub size : (pages lap page : ℕ) (entries : List Entry) → MakePage pages lap page entries → length (page_spelling pages lap page entries) ≡ page_bytes
  pub shape : (pages lap page : ℕ) (entries : List Entry) → MakePage pages lap page entries → is_in_shape (page_spelling pages lap page entries) ≡ true
  pub read : (pages lap page : ℕ) (entries : List Entry) (check : ℕ) → MakePage pages lap page entries → check < 2 ^ 16 → IsPageAgain pages lap page entries (protected_bytes (page_spelling pages lap page entries) check)
