-- The laws of places: digits, and what an LSN says.
use Rattle.std.specs.Prelude.{◌≡◌, ℕ, ◌-◌, ◌*◌, ◌%◌, ◌^◌, ◌<◌, ◌≤◌}
use Rattle.log_page.specs.Places.{page_bytes, digits, lsn_at, lap_of, offset_of}

-- the binary digits of a number are as many as its highest power of 2 says
abbrev pub HasDigits : Type 0
HasDigits = (n : ℕ) → 0 < n → n < 2 ^ 64 → (2 ^ (digits n - 1) ≤ n) × (n < 2 ^ digits n)

-- an LSN says the lap and the place that it was made of, which lies in the log
abbrev pub LsnSaysPlace : Type 0
LsnSaysPlace = (pages lap offset : ℕ) → page_bytes * pages < 2 ^ 64 → offset < page_bytes * pages → offset % 8 ≡ 0
    → (lap_of pages (lsn_at pages lap offset) ≡ lap) × (offset_of pages (lsn_at pages lap offset) ≡ offset)
