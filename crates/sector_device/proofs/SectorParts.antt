-- Bytes in sectors, and parts of what was written.
use Rattle.std.proofs.Common.{◌≡◌, ◌⊎◌, ℕ, zero, suc, ◌+◌, ◌-◌, ◌*◌, ◌/◌, ◌%◌, ◌<◌, ◌≤◌, List, [], ◌∷◌, ◌++◌, length, take, drop, get_or, refl, sym, ap, ◌∙◌, inl, inr, arith}
use Rattle.std.proofs.lemmas.List.{append-nil, length-take-le, get_or-take, get_or-drop, take-append-drop, take-take, drop-take, drop-drop, ext_get_or, take_all, drop_all}
use Rattle.std.proofs.lemmas.Bool.{cases_lt}
use borrow.Rule.Slice.PartMut.{put_mid}
use Rattle.disk_model.specs.Bytes.{part, written}
use Rattle.disk_model.specs.Sectors.{sector_of, zero_sector, raw_from}
use Rattle.disk_model.proofs.Frames.{written_within, written_before, written_behind, length-written}
use Rattle.sector_device.specs.Sectors.{sector_in, sectors_of, IsMixOf}
use Rattle.sector_device.specs.WholeSectors.{length-sectors_of, get_or-sectors_of, length-part}

-- ---- raw bytes

take_two : (a b : ℕ) (xs : List ℕ) → take (a + b) xs ≡ take a xs ++ take b (drop a xs)
take_two a b xs =
    sym (take-append-drop a (take (a + b) xs)) ∙ ap (λ (l : List ℕ). l ++ drop a (take (a + b) xs)) (take-take a (a + b) xs (omega arith)) ∙ ap (λ (l : List ℕ). take a xs ++ l) (drop-take a b xs)

part_two : (k a b : ℕ) (bytes : List ℕ) → part k (a + b) bytes ≡ part k a bytes ++ part (k + a) b bytes
part_two k a b bytes = take_two a b (drop k bytes) ∙ ap (λ (l : List ℕ). take a (drop k bytes) ++ take b l) (drop-drop a k bytes)

sector_and_part : (bytes : List ℕ) (first n : ℕ) → sector_in bytes first ++ part (512 * (first + 1)) (512 * n) bytes ≡ part (512 * first) (512 * (n + 1)) bytes
unfolding sector_in
sector_and_part bytes first n =
    let at : 512 * (first + 1) ≡ 512 * first + 512 = omega arith in
    let long : 512 + 512 * n ≡ 512 * (n + 1) = omega arith in
    ap (λ (k : ℕ). part (512 * first) 512 bytes ++ part k (512 * n) bytes) at ∙ sym (part_two (512 * first) 512 (512 * n) bytes) ∙ ap (λ (k : ℕ). part (512 * first) k bytes) long

pub raw_from_is_part : (bytes : List ℕ) (first n : ℕ) → 512 * (first + n) ≤ length bytes → raw_from (sector_of (sectors_of bytes)) first n ≡ part (512 * first) (512 * n) bytes
unfolding raw_from
raw_from_is_part bytes first zero le = refl
raw_from_is_part bytes first (suc n) le =
    let here : sector_of (sectors_of bytes) first ≡ sector_in bytes first = get_or-sectors_of bytes first zero_sector (omega arith) in
    let rest : raw_from (sector_of (sectors_of bytes)) (first + 1) n ≡ part (512 * (first + 1)) (512 * n) bytes = raw_from_is_part bytes (first + 1) n (omega arith) in
    let more : n + 1 ≡ suc n = omega arith in
    ap (λ (l : List ℕ). l ++ raw_from (sector_of (sectors_of bytes)) (first + 1) n) here ∙ ap (λ (l : List ℕ). sector_in bytes first ++ l) rest ∙ sector_and_part bytes first n ∙ ap (λ (k : ℕ). part (512 * first) (512 * k) bytes) more

-- ---- what was written, part by part

get_or-part : (k n i : ℕ) (bytes : List ℕ) → i < n → get_or (part k n bytes) i 0 ≡ get_or bytes (k + i) 0
get_or-part k n i bytes lt = get_or-take n (drop k bytes) i 0 lt ∙ get_or-drop k bytes i 0

same_parts : (k j n : ℕ) (xs ys : List ℕ) → k + n ≤ length xs → j + n ≤ length ys → ((i : ℕ) → i < n → get_or xs (k + i) 0 ≡ get_or ys (j + i) 0) → part k n xs ≡ part j n ys
same_parts k j n xs ys inside inside' same =
    let len : length (part k n xs) ≡ n = length-part k n xs inside in
    let len' : length (part j n ys) ≡ n = length-part j n ys inside' in
    ext_get_or 0 (part k n xs) (part j n ys) (len ∙ sym len') (λ i lt.
    let lt' : i < n = omega arith in
    get_or-part k n i xs lt' ∙ same i lt' ∙ sym (get_or-part j n i ys lt'))

part_before : (at k n : ℕ) (new bytes : List ℕ) → k + n ≤ at → k + n ≤ length bytes → part k n (written at new bytes) ≡ part k n bytes
part_before at k n new bytes le inside =
    same_parts k k n (written at new bytes) bytes (omega (arith, length-written at new bytes)) inside (λ i lt. written_before at new bytes (k + i) 0 (omega arith))

part_within : (at k j n : ℕ) (new bytes : List ℕ) → k ≡ at + j → j + n ≤ length new → k + n ≤ length bytes → part k n (written at new bytes) ≡ part j n new
part_within at k j n new bytes e short inside =
    same_parts k j n (written at new bytes) new (omega (arith, length-written at new bytes)) short (λ i lt. written_within at new bytes (k + i) (j + i) 0 (omega arith) (omega arith) (omega arith))

part_behind : (at k n : ℕ) (new bytes : List ℕ) → at + length new ≤ k → k + n ≤ length bytes → part k n (written at new bytes) ≡ part k n bytes
part_behind at k n new bytes le inside =
    same_parts k k n (written at new bytes) bytes (omega (arith, length-written at new bytes)) inside (λ i lt. written_behind at new bytes (k + i) 0 (omega arith))

-- ---- sector by sector

sector_after : (bytes new : List ℕ) (first s : ℕ) → length new % 512 ≡ 0 → 512 * first + length new ≤ length bytes → s < length bytes / 512 → get_or (written first (sectors_of new) (sectors_of bytes)) s zero_sector ≡ sector_in (written (512 * first) new bytes) s
unfolding sector_in
sector_after bytes new first s whole le lt =
    let count : length (sectors_of new) ≡ length new / 512 = length-sectors_of new in
    let all : length (sectors_of bytes) ≡ length bytes / 512 = length-sectors_of bytes in
    elim (cases_lt s first) [
      | inl before ↦ written_before first (sectors_of new) (sectors_of bytes) s zero_sector before ∙ get_or-sectors_of bytes s zero_sector lt ∙ sym (part_before (512 * first) (512 * s) 512 new bytes (omega arith) (omega arith))
      | inr from ↦ elim (cases_lt s (first + length new / 512)) [
        | inl within ↦
            let j = s - first in
            let e : s ≡ first + (s - first) = omega arith in
            let short : s - first < length new / 512 = omega arith in
            written_within first (sectors_of new) (sectors_of bytes) s (s - first) zero_sector e (omega arith) (omega arith) ∙ get_or-sectors_of new (s - first) zero_sector short
            ∙ sym (part_within (512 * first) (512 * s) (512 * (s - first)) 512 new bytes (omega arith) (omega arith) (omega arith))
        | inr behind ↦ written_behind first (sectors_of new) (sectors_of bytes) s zero_sector (omega arith) ∙ get_or-sectors_of bytes s zero_sector lt ∙ sym (part_behind (512 * first) (512 * s) 512 new bytes (omega arith) (omega arith))
      ]
    ]

pub written_in_sectors : (bytes new : List ℕ) (first : ℕ) → length new % 512 ≡ 0 → 512 * first + length new ≤ length bytes → written first (sectors_of new) (sectors_of bytes) ≡ sectors_of (written (512 * first) new bytes)
written_in_sectors bytes new first whole le =
    let after = written (512 * first) new bytes in
    let len : length (written first (sectors_of new) (sectors_of bytes)) ≡ length bytes / 512 = length-written first (sectors_of new) (sectors_of bytes) ∙ length-sectors_of bytes in
    let len' : length (sectors_of after) ≡ length after / 512 = length-sectors_of after in
    let size : length after ≡ length bytes = length-written (512 * first) new bytes in
    let sizes : length (sectors_of after) ≡ length bytes / 512 = len' ∙ ap (λ (n : ℕ). n / 512) size in
    ext_get_or zero_sector _ _ (len ∙ sym sizes) (λ s lt.
    let lt' : s < length bytes / 512 = omega arith in
    let lt'' : s < length after / 512 = omega arith in
    sector_after bytes new first s whole le lt' ∙ sym (get_or-sectors_of after s zero_sector lt''))

-- ---- parts of bytes that are whole sectors

part_of_part : (at n k len : ℕ) (bytes : List ℕ) → k + len ≤ n → at + n ≤ length bytes → part k len (part at n bytes) ≡ part (at + k) len bytes
part_of_part at n k len bytes le inside =
    same_parts k (at + k) len (part at n bytes) bytes (omega (arith, length-part at n bytes inside)) (omega arith) (λ i lt.
    let e : at + (k + i) ≡ at + k + i = omega arith in
    get_or-part at n (k + i) bytes (omega arith) ∙ ap (λ (j : ℕ). get_or bytes j 0) e)

-- the sectors of a part are sectors of the whole
pub sector_of_part : (first n j : ℕ) (bytes : List ℕ) → n % 512 ≡ 0 → 512 * first + n ≤ length bytes → j < n / 512 → sector_of (sectors_of (part (512 * first) n bytes)) j ≡ sector_of (sectors_of bytes) (first + j)
unfolding sector_in
sector_of_part first n j bytes whole inside lt =
    let len : length (part (512 * first) n bytes) ≡ n = length-part (512 * first) n bytes inside in
    let at : 512 * first + 512 * j ≡ 512 * (first + j) = omega arith in
    get_or-sectors_of (part (512 * first) n bytes) j zero_sector (omega (arith, len))
    ∙ part_of_part (512 * first) n (512 * j) 512 bytes (omega arith) inside ∙ ap (λ (k : ℕ). part k 512 bytes) at
    ∙ sym (get_or-sectors_of bytes (first + j) zero_sector (omega arith))

pub count_of_part : (first n : ℕ) (bytes : List ℕ) → 512 * first + n ≤ length bytes → length (sectors_of (part (512 * first) n bytes)) ≡ n / 512
count_of_part first n bytes inside = length-sectors_of (part (512 * first) n bytes) ∙ ap (λ (k : ℕ). k / 512) (length-part (512 * first) n bytes inside)

-- the sectors of a front are a front of the sectors
pub sectors_of_front : (n : ℕ) (bytes : List ℕ) → n % 512 ≡ 0 → n ≤ length bytes → sectors_of (take n bytes) ≡ take (n / 512) (sectors_of bytes)
sectors_of_front n bytes whole le =
    let zero_at : 512 * 0 ≡ 0 = omega arith in
    let front : take n bytes ≡ part (512 * 0) n bytes = refl in
    let count : length (sectors_of (take n bytes)) ≡ n / 512 = count_of_part 0 n bytes (omega arith) in
    let all : length (sectors_of bytes) ≡ length bytes / 512 = length-sectors_of bytes in
    let short : length (take (n / 512) (sectors_of bytes)) ≡ n / 512 = length-take-le (n / 512) (sectors_of bytes) (omega (arith, all)) in
    ext_get_or zero_sector (sectors_of (take n bytes)) (take (n / 512) (sectors_of bytes)) (count ∙ sym short) (λ j lt.
    let lt' : j < n / 512 = omega (arith, count) in
    let same : 0 + j ≡ j = omega arith in
    sector_of_part 0 n j bytes whole (omega arith) lt' ∙ ap (λ (k : ℕ). sector_of (sectors_of bytes) k) same ∙ sym (get_or-take (n / 512) (sectors_of bytes) j zero_sector lt'))

-- ---- a failed write

pub outside_stays : (before new now : List (List ℕ)) (first s : ℕ) → IsMixOf before (written first new before) now → (s < first) ⊎ (first + length new ≤ s) → sector_of now s ≡ sector_of before s
outside_stays before new now first s mix (inl lt) =
    elim (mix.each s) [ inl old ↦ old | inr new' ↦ new' ∙ written_before first new before s zero_sector lt ]
outside_stays before new now first s mix (inr le) =
    elim (mix.each s) [ inl old ↦ old | inr new' ↦ new' ∙ written_behind first new before s zero_sector le ]

-- ---- a copy into a part of a slice

written-is : (at : ℕ) (new bytes : List ℕ) → at + length new ≤ length bytes → take at bytes ++ (new ++ drop (at + length new) bytes) ≡ written at new bytes
written-is zero [] [] le = refl
written-is zero (n ∷ new) [] le = absurd (omega arith)
written-is (suc at) new [] le = absurd (omega arith)
written-is zero [] (b ∷ bytes) le = refl
written-is zero (n ∷ new) (b ∷ bytes) le =
    let k : 0 + suc (length new) ≡ suc (0 + length new) = omega arith in
    ap (λ (j : ℕ). n ∷ (new ++ drop j (b ∷ bytes))) k ∙ ap (λ (l : List ℕ). n ∷ l) (written-is zero new bytes (omega arith))
written-is (suc at) new (b ∷ bytes) le =
    let k : suc at + length new ≡ suc (at + length new) = omega arith in
    ap (λ (j : ℕ). b ∷ (take at bytes ++ (new ++ drop j (b ∷ bytes)))) k ∙ ap (λ (l : List ℕ). b ∷ l) (written-is at new bytes (omega arith))

pub put_mid-written : (at k : ℕ) (bytes ys new : List ℕ) → ys ≡ new → k ≡ length new → at + length new ≤ length bytes → put_mid at k bytes ys ≡ written at new bytes
put_mid-written at k bytes ys new e f le =
    ap (λ (y : List ℕ). put_mid at k bytes y) e ∙ ap (λ (j : ℕ). put_mid at j bytes new) f ∙ ap (λ (l : List ℕ). take at bytes ++ (new ++ l)) (drop-drop (length new) at bytes) ∙ written-is at new bytes le

-- ---- a read and a write of bytes, as those of their sectors

pub read_is_raw : (out now items old : List ℕ) (first len : ℕ) → out ≡ part (512 * first) len now → now ≡ items → items ≡ old → len % 512 ≡ 0 → 512 * first + len ≤ 512 * (length old / 512) → out ≡ raw_from (sector_of (sectors_of old)) first (len / 512)
read_is_raw out now items old first len e f g whole le =
    let long : len ≡ 512 * (len / 512) = omega arith in
    let raw : raw_from (sector_of (sectors_of old)) first (len / 512) ≡ part (512 * first) (512 * (len / 512)) old = raw_from_is_part old first (len / 512) (omega arith) in
    e ∙ ap (λ (l : List ℕ). part (512 * first) len l) (f ∙ g) ∙ ap (λ (n : ℕ). part (512 * first) n old) long ∙ sym raw

-- a whole vector that was lent as a slice
pub lent_whole : (n : ℕ) (xs items : List ℕ) → length xs ≡ length items → n ≡ length items → take n (xs ++ drop (length xs) items) ≡ xs
lent_whole n xs items same len =
    let rest : drop (length xs) items ≡ [] = drop_all (length xs) items (omega arith) in
    ap (λ (l : List ℕ). take n (xs ++ l)) rest ∙ ap (λ (l : List ℕ). take n l) (append-nil xs) ∙ take_all n xs (omega arith)

-- the bytes after a write into a vector
pub bytes_after : (n at : ℕ) (xs now items old new : List ℕ) → xs ≡ written at new now → now ≡ items → n ≡ length items → items ≡ old → take n (xs ++ drop (length xs) items) ≡ written at new old
bytes_after n at xs now items old new e f len g =
    let same : length xs ≡ length items = ap (λ (l : List ℕ). length l) e ∙ length-written at new now ∙ ap (λ (l : List ℕ). length l) f in
    lent_whole n xs items same len ∙ e ∙ ap (λ (l : List ℕ). written at new l) (f ∙ g)

pub write_is_written : (n first : ℕ) (xs now items old new : List ℕ) → xs ≡ written (512 * first) new now → now ≡ items → n ≡ length items → items ≡ old → length new % 512 ≡ 0 → 512 * first + length new ≤ 512 * (length old / 512) → sectors_of (take n (xs ++ drop (length xs) items)) ≡ written first (sectors_of new) (sectors_of old)
write_is_written n first xs now items old new e f len g whole le =
    let same : length xs ≡ length items = ap (λ (l : List ℕ). length l) e ∙ length-written (512 * first) new now ∙ ap (λ (l : List ℕ). length l) f in
    let put : xs ≡ written (512 * first) new old = e ∙ ap (λ (l : List ℕ). written (512 * first) new l) (f ∙ g) in
    ap (λ (l : List ℕ). sectors_of l) (lent_whole n xs items same len ∙ put) ∙ sym (written_in_sectors old new first whole (omega arith))
