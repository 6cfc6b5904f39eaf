-- A written restart page is read as the same fields.
use Rattle.std.proofs.Common.{◌≡◌, ℕ, ◌+◌, ◌*◌, ◌<◌, ◌≤◌, ◌^◌, Bool, true, false, not, cond, eqb, leb, ltb, nat_eq, List, length, take, drop, slice_index, Result, Ok, refl, sym, ap, ◌∙◌, inr, arith}
use Rattle.std.specs.Prelude.{is_ok, ◌&&◌, ◌||◌, if◌then◌else◌}
use Rattle.std.specs.List.{starts_with}
use Rattle.std.specs.Cmp.Lexicographic.{pointwise}
use Rattle.std.proofs.lemmas.Bool.{eq-eqb, le-ltb, lt-leb, and_from}
use Rattle.std.proofs.lemmas.List.{ext_get_or, get_or-take, get_or-drop, length-take, length-drop}
use Rattle.disk_model.specs.host_base.Answers.{◌>>=◌, needs}
use Rattle.disk_model.specs.Numbers.{field}
use Rattle.disk_model.specs.Bytes.{part}
use Rattle.disk_model.specs.Fixups.{array_at, array_count, sector_count, restored}
use Rattle.disk_model.proofs.Fields.{field_same}
use Rattle.fixup_record.specs.Protecting.{protected_bytes}
use Rattle.fixup_record.specs.ProtectLaws.{IsUndone}
use Rattle.fixup_record.proofs.Protected.{undone, length-protected}
use Rattle.disk_model.proofs.Protection.{length-restored}
use Rattle.log_page.specs.declared.fault.PageFault.{PageFault}
use Rattle.log_page.specs.declared.fault.PageFault.TheVariants.{NotWhole}
use Rattle.log_page.specs.declared.restart.Restart.{Restart}
use Rattle.log_page.specs.Restarts.{restart_signature, own_name, no_client, area_at, client_count, first_in_use, clients_at, has_area, has_clients, has_list, is_restart_page, has_client, has_own_name, oldest_in, is_own, is_clean_flag, restart_in, is_whole_restart, restart_of, restart_front, restart_spelling, FitsRestart}
use Rattle.log_page.specs.RestartLaws.{HasRanges}
use Rattle.log_page.proofs.Spelled.{length-restart_spelling, length-restart_front, in_page, in_shape, array_is, count_is, system_is, area_is, minor_is, major_is, current_is, clients_is, in_use_is, flags_is, array_place_is, bytes_is, opens_is, oldest_is, name_bytes_is, signature_is, name_in_page}

-- ---- parts of two lists

-- parts whose bytes are equal are equal
pub part_same : (at n : ℕ) (xs ys : List ℕ) → at + n ≤ length xs → at + n ≤ length ys → ((k : ℕ) → k < n → slice_index xs (at + k) ≡ slice_index ys (at + k)) → part at n xs ≡ part at n ys
part_same at n xs ys fits fits' same =
    let size : length (part at n xs) ≡ n = length-take n (drop at xs) ∙ omega (arith, length-drop at xs) in
    let size' : length (part at n ys) ≡ n = length-take n (drop at ys) ∙ omega (arith, length-drop at ys) in
    ext_get_or 0 (part at n xs) (part at n ys) (size ∙ sym size') (λ i lt.
    let few : i < n = omega arith in
    get_or-take n (drop at xs) i 0 few ∙ get_or-drop at xs i 0 ∙ same i few ∙ sym (get_or-drop at ys i 0) ∙ sym (get_or-take n (drop at ys) i 0 few))

not_false : (a b : Bool) → a ≡ false → (a && b) ≡ false
not_false a b e = rw e refl

not_false_either : (a b : Bool) → b ≡ false → (a && b) ≡ false
not_false_either true b e = e
not_false_either false b e = refl

-- ---- lists and flags

abbrev list_word : Bool → ℕ
list_word u = if u then 0 else no_client

word_small : (u : Bool) → list_word u < 2 ^ 16
word_small true = omega arith
word_small false = omega arith

used_back : (u : Bool) → not (eqb (list_word u) no_client) ≡ u
used_back true = refl
used_back false = refl

list_back : (u : Bool) → (eqb (list_word u) no_client || ltb (list_word u) 1) ≡ true
list_back true = refl
list_back false = refl

abbrev flag_word : Bool → ℕ
flag_word u = if u then 2 else 0

flag_small : (u : Bool) → flag_word u < 2 ^ 16
flag_small true = omega arith
flag_small false = omega arith

clean_back : (u : Bool) → is_clean_flag (flag_word u) ≡ u
clean_back true = refl
clean_back false = refl

abbrev make : ℕ → ℕ → ℕ → ℕ → ℕ → ℕ → Bool → Bool → Bool → Restart
make major minor current oldest opens bytes used clean own = record { major = major; minor = minor; current = current; oldest = oldest; opens = opens; bytes = bytes; used = used; clean = clean; own = own }

abbrev answered : Restart → Result Restart PageFault
answered r = Ok r

-- a record whose fields are those of r
same_fields : (major minor current oldest opens bytes : ℕ) (used clean own : Bool) (r : Restart)
    → major ≡ r.major → minor ≡ r.minor → current ≡ r.current → oldest ≡ r.oldest → opens ≡ r.opens → bytes ≡ r.bytes → used ≡ r.used → clean ≡ r.clean → own ≡ r.own
    → make major minor current oldest opens bytes used clean own ≡ r
same_fields major minor current oldest opens bytes used clean own r a b c d e f g h i = rw (a, b, c, d, e, f, g, h, i) refl

passed : (w : Bool) (x r : Restart) → w ≡ true → x ≡ r → (needs w NotWhole >>= λ _. answered x) ≡ Ok r
passed w x r e f = rw (e, f) refl

-- ---- the page as it is read

module _ (r : Restart) (check : ℕ) (small : check < 2 ^ 16) where
  abbrev s : List ℕ
  s = restart_spelling r

  abbrev page : List ℕ
  page = restored (protected_bytes (restart_spelling r) check)

  at_1e : array_at s ≡ 0x1E
  at_1e = in_page r 0x04 2 0x1E (omega arith) (array_is r)

  has_9 : array_count s ≡ 9
  has_9 = in_page r 0x06 2 9 (omega arith) (count_is r)

  it : IsUndone s check
  it =
      let size = length-restart_spelling r in
      let e = at_1e in
      undone s check (omega arith) (omega arith) (in_shape r) (inr (omega arith)) small

  length-page : length page ≡ 4096
  length-page = length-restored (protected_bytes s check) ∙ length-protected s check ∙ length-restart_spelling r

  -- outside the array the bytes are those that were written
  before_is : (i : ℕ) → i < 0x1E → slice_index page i ≡ slice_index s i
  before_is i lt = let e = at_1e in it.others i (not_false (leb (array_at s) i) (ltb i (array_at s + 2 * (sector_count s + 1))) (lt-leb _ _ (omega arith)))

  after_is : (i : ℕ) → 0x30 ≤ i → slice_index page i ≡ slice_index s i
  after_is i le =
      let e = at_1e in
      let size = length-restart_spelling r in
      it.others i (not_false_either (leb (array_at s) i) (ltb i (array_at s + 2 * (sector_count s + 1))) (le-ltb _ _ (omega arith)))

  -- numbers before and after the array
  head_field : (at n value : ℕ) → at + n ≤ 0x1E → field at n (restart_front r) ≡ value → field at n page ≡ value
  head_field at n value le e = field_same at at n page s (λ k lt. before_is (at + k) (omega arith)) ∙ in_page r at n value (omega arith) e

  body_field : (at n value : ℕ) → 0x30 ≤ at → at + n ≤ 0x110 → field at n (restart_front r) ≡ value → field at n page ≡ value
  body_field at n value le fits e = field_same at at n page s (λ k lt. after_is (at + k) (omega arith)) ∙ in_page r at n value fits e

  -- ---- fields

  area : area_at page ≡ 0x30
  area = head_field 0x18 2 0x30 (omega arith) (area_is r)

  count : client_count page ≡ 1
  count = ap (λ (a : ℕ). field (a + 0x08) 2 page) area ∙ body_field 0x38 2 1 (omega arith) (omega arith) (clients_is r)

  clients : clients_at page ≡ 0x70
  clients = ap (λ (a : ℕ). a + field (a + 0x16) 2 page) area ∙ ap (λ (k : ℕ). 0x30 + k) (body_field 0x46 2 0x40 (omega arith) (omega arith) (array_place_is r))

  in_use : first_in_use page ≡ list_word r.used
  in_use = ap (λ (a : ℕ). field (a + 0x0C) 2 page) area ∙ body_field 0x3C 2 (list_word r.used) (omega arith) (omega arith) (in_use_is r (list_word r.used) refl (word_small r.used))

  used : not (eqb (first_in_use page) no_client) ≡ r.used
  used = ap (λ (n : ℕ). not (eqb n no_client)) in_use ∙ used_back r.used

  clean : is_clean_flag (field (area_at page + 0x0E) 2 page) ≡ r.clean
  clean =
      ap (λ (a : ℕ). is_clean_flag (field (a + 0x0E) 2 page)) area
      ∙ ap is_clean_flag (body_field 0x3E 2 (flag_word r.clean) (omega arith) (omega arith) (flags_is r (flag_word r.clean) refl (flag_small r.clean)))
      ∙ clean_back r.clean

  has_one : has_client page ≡ true
  has_one = ap (λ (k : ℕ). ltb 0 k) count

  named : has_own_name page ≡ true
  named =
      let bytes : field (clients_at page + 0x1C) 4 page ≡ 16 = ap (λ (a : ℕ). field (a + 0x1C) 4 page) clients ∙ body_field 0x8C 4 16 (omega arith) (omega arith) (name_bytes_is r) in
      let size = length-page in
      let front = length-restart_front r in
      let whole = length-restart_spelling r in
      let here : part (clients_at page + 0x20) 16 page ≡ own_name =
      ap (λ (a : ℕ). part (a + 0x20) 16 page) clients
      ∙ part_same 0x90 16 page s (omega arith) (omega arith) (λ k lt. after_is (0x90 + k) (omega arith))
      ∙ name_in_page r in
      and_from _ _ (eq-eqb _ _ bytes) (ap (pointwise nat_eq own_name) here)

  own : is_own page ≡ true
  own = and_from _ _ has_one named

  signed : starts_with nat_eq page restart_signature ≡ true
  signed =
      let size = length-page in
      let whole = length-restart_spelling r in
      let here : take 4 page ≡ restart_signature = part_same 0 4 page s (omega arith) (omega arith) (λ k lt. before_is (0 + k) (omega arith)) ∙ signature_is r in
      ap (pointwise nat_eq restart_signature) here

  listed : has_list page ≡ true
  listed =
      ap (λ (n : ℕ). eqb n no_client || ltb n (client_count page)) in_use
      ∙ ap (λ (k : ℕ). eqb (list_word r.used) no_client || ltb (list_word r.used) k) count
      ∙ list_back r.used

  roomy : has_clients page ≡ true
  roomy =
      ap (λ (a : ℕ). eqb (client_count page) 0 || leb (a + 0xA0 * client_count page) 4096) clients
      ∙ ap (λ (k : ℕ). eqb k 0 || leb (0x70 + 0xA0 * k) 4096) count

  is_page : is_restart_page page ≡ true
  is_page =
      let size : field 0x10 4 page ≡ 4096 = head_field 0x10 4 4096 (omega arith) (system_is r) in
      let inside : has_area page ≡ true = ap (λ (a : ℕ). leb (a + 0x2C) 4096) area in
      and_from _ _ (and_from _ _ (and_from _ _ (and_from _ _ signed (eq-eqb _ _ size)) inside) roomy) listed

  fields : FitsRestart r → HasRanges r → restart_in page ≡ r
  unfolding restart_in
  fields fits ranges =
      let major : field 0x1C 2 page ≡ r.major = head_field 0x1C 2 1 (omega arith) (major_is r) ∙ sym fits.major in
      let minor : field 0x1A 2 page ≡ r.minor = head_field 0x1A 2 1 (omega arith) (minor_is r) ∙ sym fits.minor in
      let current : field (area_at page) 8 page ≡ r.current = ap (λ (a : ℕ). field a 8 page) area ∙ body_field 0x30 8 r.current (omega arith) (omega arith) (current_is r ranges.current) in
      let first : field (clients_at page) 8 page ≡ r.oldest = ap (λ (a : ℕ). field a 8 page) clients ∙ body_field 0x70 8 r.oldest (omega arith) (omega arith) (oldest_is r ranges.oldest) in
      let oldest : oldest_in page ≡ r.oldest = ap (λ (b : Bool). cond b (field (clients_at page) 8 page) 0) has_one ∙ first in
      let opens : field (area_at page + 0x28) 4 page ≡ r.opens = ap (λ (a : ℕ). field (a + 0x28) 4 page) area ∙ body_field 0x58 4 r.opens (omega arith) (omega arith) (opens_is r ranges.opens) in
      let bytes : field (area_at page + 0x18) 8 page ≡ r.bytes = ap (λ (a : ℕ). field (a + 0x18) 8 page) area ∙ body_field 0x48 8 r.bytes (omega arith) (omega arith) (bytes_is r ranges.bytes) in
      same_fields _ _ _ _ _ _ _ _ _ r major minor current oldest opens bytes used clean (own ∙ sym fits.own)

  whole : is_whole_restart (protected_bytes s check) ≡ true
  unfolding is_whole_restart
  whole = and_from _ _ (ap is_ok it.answer) is_page

pub read_again : (r : Restart) (check : ℕ) → FitsRestart r → HasRanges r → check < 2 ^ 16 → restart_of (protected_bytes (restart_spelling r) check) ≡ Ok r
unfolding restart_of
read_again r check fits ranges small = passed _ _ r (whole r check small) (fields r check small fits ranges)
