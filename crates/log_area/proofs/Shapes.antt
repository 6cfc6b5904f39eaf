-- The array of a page that is made is in shape.
use Rattle.std.proofs.Common.{◌≡◌, ℕ, true, List, ◌++◌, length, drop, refl, ◌∙◌, arith}
use Rattle.std.proofs.lemmas.List.{length-append, length-drop}
use Rattle.disk_model.specs.Numbers.{field, spell}
use Rattle.disk_model.specs.Bytes.{zeros}
use Rattle.disk_model.specs.Fixups.{array_at, array_count, is_in_shape}
use Rattle.disk_model.proofs.Fields.{field-append}
use Rattle.disk_model.proofs.Protection.{shape_from}
use Rattle.log_reading.specs.log_page.PageSpellings.{page_front}
use Rattle.log_reading.proofs.log_page.Spelled.{field_here}

length-front : (last free : ℕ) → length (page_front last free) ≡ 0x40
unfolding page_front zeros spell
length-front last free = refl

array_is : (last free : ℕ) → field 0x04 2 (page_front last free) ≡ 0x28
unfolding page_front zeros spell
array_is last free = field_here 0x04 2 0x28 (page_front last free) (drop 0x06 (page_front last free)) refl (omega arith)

count_is : (last free : ℕ) → field 0x06 2 (page_front last free) ≡ 9
unfolding page_front zeros spell
count_is last free = field_here 0x06 2 9 (page_front last free) (drop 0x08 (page_front last free)) refl (omega arith)

pub front_shape : (last free : ℕ) (rest : List ℕ) → length rest ≡ 4032 → is_in_shape (page_front last free ++ rest) ≡ true
front_shape last free rest size =
    let front = length-front last free in
    let all : length (page_front last free ++ rest) ≡ 4096 = length-append (page_front last free) rest ∙ omega arith in
    let at : array_at (page_front last free ++ rest) ≡ 0x28 = field-append 0x04 2 (page_front last free) rest (omega arith) ∙ array_is last free in
    let count : array_count (page_front last free ++ rest) ≡ 9 = field-append 0x06 2 (page_front last free) rest (omega arith) ∙ count_is last free in
    shape_from (page_front last free ++ rest) (omega arith) (omega arith) (omega arith)

pub made_shape : (last free : ℕ) (bytes page : List ℕ) → length bytes ≡ 4096 → page ≡ page_front last free ++ drop 0x40 bytes → is_in_shape page ≡ true
made_shape last free bytes page size is =
    let rest = length-drop 0x40 bytes in
    rw is (front_shape last free (drop 0x40 bytes) (omega arith))
