-- Places in a log of so many pages of 4,096 bytes: its first two pages hold restart pages, and the pages from the fifth
-- on are a ring of record pages, gone round in laps. A log sequence number, LSN, says a lap and a place.
use Rattle.std.specs.Prelude.{ℕ, ◌+◌, ◌-◌, ◌*◌, ◌/◌, ◌%◌, ◌^◌, ◌==◌, ◌&&◌, Bool, nat_le, nat_lt, if◌then◌else◌}
use Rattle.std.specs.Int.{w64, leading_zeros}

abbrev pub page_bytes : ℕ
page_bytes = 4096

-- the first page of the ring
abbrev pub first_page : ℕ
first_page = 4

-- where the entries of a record page begin
abbrev pub entries_at : ℕ
entries_at = 0x40

-- how many binary digits a number has, which is below 2^64
unfoldable pub digits : ℕ → ℕ
digits n = 64 - leading_zeros w64 n

-- the low bits of an LSN say the place, in eights of bytes; those above say the lap
unfoldable pub place_bits : ℕ → ℕ
place_bits pages = digits (page_bytes * pages) - 3

abbrev pub sequence_bits : ℕ → ℕ
sequence_bits pages = 64 - place_bits pages

-- the LSN of the byte at this offset of the log, a multiple of 8, in this lap
abbrev pub lsn_at : ℕ → ℕ → ℕ → ℕ
lsn_at pages lap offset = lap * 2 ^ place_bits pages + offset / 8

abbrev pub lap_of : ℕ → ℕ → ℕ
lap_of pages lsn = lsn / 2 ^ place_bits pages

abbrev pub offset_of : ℕ → ℕ → ℕ
offset_of pages lsn = 8 * (lsn % 2 ^ place_bits pages)

abbrev pub page_of : ℕ → ℕ → ℕ
page_of pages lsn = offset_of pages lsn / page_bytes

-- the LSN of the first entry of this page in this lap
abbrev pub page_lsn : ℕ → ℕ → ℕ → ℕ
page_lsn pages lap page = lsn_at pages lap (page_bytes * page + entries_at)

-- the place lies in a page of the ring
abbrev pub is_in_ring : ℕ → ℕ → Bool
is_in_ring pages lsn = nat_le first_page (page_of pages lsn) && nat_lt (page_of pages lsn) pages

-- the page after this one in the ring
abbrev pub page_after : ℕ → ℕ → ℕ
page_after pages page = if page + 1 == pages then first_page else page + 1

-- and its lap, which is one more at each return to the ring's first page
abbrev pub lap_after : ℕ → ℕ → ℕ → ℕ
lap_after pages lap page = if page + 1 == pages then lap + 1 else lap
