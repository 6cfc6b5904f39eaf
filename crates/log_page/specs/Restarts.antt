-- Restart pages of a log: when one is whole, its fields, which of two is chosen, and the one spelling that is written.
use Rattle.std.specs.Prelude.{◌≡◌, ℕ, ◌+◌, ◌-◌, ◌*◌, ◌/◌, ◌%◌, List, [], ◌∷◌, ◌++◌, drop, nat_eq, nat_le, nat_lt, ◌==◌, ◌&&◌, ◌||◌, not, Bool, true, false, if◌then◌else◌, Option, Some, None, Result, Ok, Err, is_ok, is_none, codes}
use Rattle.std.specs.List.{starts_with, list_all}
use Rattle.disk_model.specs.host_base.Answers.{◌>>=◌, needs}
use Rattle.disk_model.specs.Numbers.{field, spell}
use Rattle.disk_model.specs.Bytes.{zeros, written}
use Rattle.disk_model.specs.Fixups.{fixup_of, restored}
use Rattle.log_page.specs.declared.restart.Restart.{Restart}
use Rattle.log_page.specs.declared.fault.PageFault.{PageFault}
use Rattle.log_page.specs.declared.fault.PageFault.TheVariants.{NotWhole}
use Rattle.log_page.specs.Places.{page_bytes, digits}

abbrev pub restart_signature : List ℕ
restart_signature = codes "RSTR"

-- NTFSHOST in units of UTF-16, low bytes first
abbrev pub own_name : List ℕ
own_name = 0x4E ∷ 0 ∷ 0x54 ∷ 0 ∷ 0x46 ∷ 0 ∷ 0x53 ∷ 0 ∷ 0x48 ∷ 0 ∷ 0x4F ∷ 0 ∷ 0x53 ∷ 0 ∷ 0x54 ∷ 0 ∷ []

-- what a list of clients says that is empty
abbrev pub no_client : ℕ
no_client = 0xFFFF

-- ---- the fields of a page whose update sequence was undone

abbrev pub area_at : List ℕ → ℕ
area_at page = field 0x18 2 page

abbrev pub client_count : List ℕ → ℕ
client_count page = field (area_at page + 0x08) 2 page

abbrev pub first_in_use : List ℕ → ℕ
first_in_use page = field (area_at page + 0x0C) 2 page

-- where the array of clients stands
abbrev pub clients_at : List ℕ → ℕ
clients_at page = area_at page + field (area_at page + 0x16) 2 page

-- the area's first 0x2C bytes end in the page
abbrev pub has_area : List ℕ → Bool
has_area page = nat_le (area_at page + 0x2C) page_bytes

-- and so does an entry of A0 bytes for each client
abbrev pub has_clients : List ℕ → Bool
has_clients page = client_count page == 0 || nat_le (clients_at page + 0xA0 * client_count page) page_bytes

-- the list of clients in use is empty or begins at a client
abbrev pub has_list : List ℕ → Bool
has_list page = first_in_use page == no_client || nat_lt (first_in_use page) (client_count page)

abbrev pub is_restart_page : List ℕ → Bool
is_restart_page page = starts_with nat_eq page restart_signature && field 0x10 4 page == page_bytes && has_area page && has_clients page && has_list page

abbrev pub has_client : List ℕ → Bool
has_client page = nat_lt 0 (client_count page)

-- the first client's name is ours
abbrev pub has_own_name : List ℕ → Bool
has_own_name page = field (clients_at page + 0x1C) 4 page == 16 && starts_with nat_eq (drop (clients_at page + 0x20) page) own_name

-- the first client's oldest LSN
abbrev pub oldest_in : List ℕ → ℕ
oldest_in page = if has_client page then field (clients_at page) 8 page else 0

abbrev pub is_own : List ℕ → Bool
is_own page = has_client page && has_own_name page

-- the flag 2 is set
abbrev pub is_clean_flag : ℕ → Bool
is_clean_flag flags = flags / 2 % 2 == 1

unfoldable pub restart_in : List ℕ → Restart
restart_in page = record {
  major = field 0x1C 2 page;
  minor = field 0x1A 2 page;
  current = field (area_at page) 8 page;
  oldest = oldest_in page;
  opens = field (area_at page + 0x28) 4 page;
  bytes = field (area_at page + 0x18) 8 page;
  used = not (first_in_use page == no_client);
  clean = is_clean_flag (field (area_at page + 0x0E) 2 page);
  own = is_own page;
}

-- ---- the reader

-- the update sequence of the page as it stands on the disk holds, and what is undone is a restart page
unfoldable pub is_whole_restart : List ℕ → Bool
is_whole_restart raw = is_ok (fixup_of raw) && is_restart_page (restored raw)

unfoldable pub restart_of : List ℕ → Result Restart PageFault
restart_of raw = needs (is_whole_restart raw) NotWhole >>= λ _. Ok (restart_in (restored raw))

-- ---- two restart pages

-- the second one has the greater current LSN, or then the greater open count
abbrev pub is_newer : Restart → Restart → Bool
is_newer a b = nat_lt a.current b.current || (a.current == b.current && nat_lt a.opens b.opens)

-- the second page is chosen: it alone is whole, or it is the newer one
abbrev pub is_second_chosen : Result Restart PageFault → Result Restart PageFault → Bool
is_second_chosen (Ok a) (Ok b) = is_newer a b
is_second_chosen (Ok a) (Err e) = false
is_second_chosen (Err e) (Ok b) = true
is_second_chosen (Err e) (Err f) = false

abbrev pub whole_one : Result Restart PageFault → Option Restart
whole_one (Ok r) = Some r
whole_one (Err e) = None

-- the chosen one of two pages; none where neither is whole
abbrev pub chosen : Result Restart PageFault → Result Restart PageFault → Option Restart
chosen first second = if is_second_chosen first second then whole_one second else whole_one first

-- no client is in use, or the log was closed
abbrev pub is_clean : Restart → Bool
is_clean r = not r.used || r.clean

-- all bytes are FF
unfoldable pub is_blank : List ℕ → Bool
is_blank raw = list_all (λ b. b == 0xFF) raw

-- no restart page is whole, and one of the two is all FF
abbrev pub is_emptied : List ℕ → List ℕ → Bool
is_emptied first second = is_none (chosen (restart_of first) (restart_of second)) && (is_blank first || is_blank second)

-- ---- the spelling

-- the bytes up to the client's end, over zeros
abbrev pub headed : List ℕ → List ℕ
headed blank =
    let named = written 0x00 restart_signature blank in
    let arrayed = written 0x06 (spell 2 9) (written 0x04 (spell 2 0x1E) named) in
    let sized = written 0x14 (spell 4 0x1000) (written 0x10 (spell 4 0x1000) arrayed) in
    written 0x1C (spell 2 1) (written 0x1A (spell 2 1) (written 0x18 (spell 2 0x30) sized))

-- the restart area from 30 on
abbrev pub with_area : Restart → List ℕ → List ℕ
with_area r before =
    let counted = written 0x38 (spell 2 1) (written 0x30 (spell 8 r.current) before) in
    let listed = written 0x3C (spell 2 (if r.used then 0 else no_client)) (written 0x3A (spell 2 (if r.used then no_client else 0)) counted) in
    let flagged = written 0x40 (spell 4 (64 - (digits r.bytes - 3))) (written 0x3E (spell 2 (if r.clean then 2 else 0)) listed) in
    let placed = written 0x46 (spell 2 0x40) (written 0x44 (spell 2 0xE0) flagged) in
    let sized = written 0x54 (spell 2 0x30) (written 0x48 (spell 8 r.bytes) placed) in
    written 0x58 (spell 4 r.opens) (written 0x56 (spell 2 0x40) sized)

-- and its client from 70 on
abbrev pub with_client : Restart → List ℕ → List ℕ
with_client r before =
    let told = written 0x78 (spell 8 r.oldest) (written 0x70 (spell 8 r.oldest) before) in
    let alone = written 0x82 (spell 2 no_client) (written 0x80 (spell 2 no_client) told) in
    written 0x90 own_name (written 0x8C (spell 4 16) alone)

-- The page before its update sequence is made: array at 0x1E, area at 0x30, one client at 0x70; zeros where no field is.
unfoldable pub restart_front : Restart → List ℕ
restart_front r = with_client r (with_area r (headed (zeros 0x110)))

unfoldable pub restart_spelling : Restart → List ℕ
restart_spelling r = restart_front r ++ zeros 0xEF0

-- the fields have a spelling: that of our own logs, of version 1.1
pub record FitsRestart (r : Restart) : Type 0 where
  pub major : r.major ≡ 1
  pub minor : r.minor ≡ 1
  pub own : r.own ≡ true
