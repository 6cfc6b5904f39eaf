-- Regions that are written in pieces.
use Rattle.std.proofs.Common.{◌≡◌, ℕ, zero, suc, ◌+◌, ◌-◌, ◌*◌, ◌/◌, ◌%◌, ◌^◌, ◌<◌, ◌≤◌, List, [], ◌∷◌, ◌++◌, length, take, drop, Option, Some, None, map, replicate, refl, sym, ap, ◌∙◌, inl, inr, arith, length-append}
use Rattle.std.specs.List.{range_with_len}
use Rattle.std.specs.Option.{option_map}
use Rattle.std.proofs.lemmas.Bool.{cases_lt}
use Rattle.std.proofs.lemmas.List.{ext_get_or, get_or_append_left, get_or-append_right, take-append-le, drop-append-le, length-drop, length-replicate, get_or-replicate}
use Rattle.std.proofs.lemmas.Grind.{flat_map-append}
use Rattle.std.proofs.Math.Seq.{drop-append-add}
use Rattle.std.proofs.lemmas.List.FromFn.{length-map-range_with_len, get_or-map-range_with_len, map-range_with_len_more}
use Rattle.disk_model.specs.Numbers.{spell}
use Rattle.disk_model.specs.Bytes.{written}
use Rattle.record_model.specs.Attributes.{unit_bytes}
use Rattle.std.specs.Prelude.{IfSome}
use Rattle.sector_device.specs.Sectors.{sector_in, sectors_of, IsDiskOf}
use Rattle.sector_device.specs.WholeSectors.{length-sectors_of, get_or-sectors_of}
use Rattle.upcase_order.specs.Tables.{standard_upper, standard_units}
use Rattle.volume_format.specs.declared.layout.Layout.{Layout}
use Rattle.volume_format.specs.declared.filling.Filling.{Filling}
use Rattle.volume_format.specs.declared.filling.Filling.TheVariants.{Log, UpperCase, ClusterBits}
use Rattle.volume_format.specs.Layouts.{layout_of}
use Rattle.volume_format.specs.Images.{Region, put_regions, Puts, regions, formatted}
use Rattle.volume_format.specs.Fillings.{upper_case_byte, filling_byte, filling_bytes, IsInside}

-- ---- bytes by their places

pub mapped_add : (g : ℕ → ℕ) (a n m : ℕ) → map g (range_with_len a n) ++ map g (range_with_len (a + n) m) ≡ map g (range_with_len a (n + m))
mapped_add g a n m =
    let front : List ℕ = map g (range_with_len a n) in
    let size : length (map g (range_with_len a n)) ≡ n = length-map-range_with_len g a n in
    let rest : length (map g (range_with_len (a + n) m)) ≡ m = length-map-range_with_len g (a + n) m in
    let all : length (map g (range_with_len a (n + m))) ≡ n + m = length-map-range_with_len g a (n + m) in
    let both = length-append (map g (range_with_len a n)) (map g (range_with_len (a + n) m)) in
    ext_get_or 0 _ _ (omega arith) (λ i lt.
    let low : i < n + m = omega arith in
    elim (cases_lt i n) [
      | inl less ↦ get_or_append_left (map g (range_with_len a n)) (map g (range_with_len (a + n) m)) 0 i (omega arith)
          ∙ get_or-map-range_with_len g a n i (a + i) 0 less refl ∙ sym (get_or-map-range_with_len g a (n + m) i (a + i) 0 low refl)
      | inr le ↦ get_or-append_right (map g (range_with_len a n)) (map g (range_with_len (a + n) m)) n i 0 size le
          ∙ get_or-map-range_with_len g (a + n) m (i - n) (a + i) 0 (omega arith) (omega arith) ∙ sym (get_or-map-range_with_len g a (n + m) i (a + i) 0 low refl)
    ])

pub filling_add : (f : Filling) (at n m : ℕ) → filling_bytes f at n ++ filling_bytes f (at + n) m ≡ filling_bytes f at (n + m)
unfolding filling_bytes
filling_add f at n m = mapped_add (filling_byte f) at n m

pub filling_front : (f : Filling) (at n all : ℕ) → at + n ≡ all → filling_bytes f 0 at ++ filling_bytes f at n ≡ filling_bytes f 0 all
filling_front f at n all e =
    let same : at ≡ 0 + at = omega arith in
    ap (λ (k : ℕ). filling_bytes f 0 at ++ filling_bytes f k n) same ∙ filling_add f 0 at n ∙ ap (filling_bytes f 0) e

pub length-filling_bytes : (f : Filling) (at n : ℕ) → length (filling_bytes f at n) ≡ n
unfolding filling_bytes
length-filling_bytes f at n = length-map-range_with_len (filling_byte f) at n

pub inside_part : (f : Filling) (at n all : ℕ) → IsInside f 0 all → at + n ≤ all → IsInside f at n
inside_part Log at n all inside le = omega arith
inside_part UpperCase at n all inside le = omega arith
inside_part (ClusterBits v) at n all inside le = let small : 0 + all ≤ 2 ^ 32 = inside.1 in (inside.0, omega arith)

-- ---- sectors of bytes

sector_front : (xs ys : List ℕ) (s : ℕ) → 512 * s + 512 ≤ length xs → sector_in (xs ++ ys) s ≡ sector_in xs s
unfolding sector_in
sector_front xs ys s le =
    ap (take 512) (drop-append-le (512 * s) xs ys (omega arith)) ∙ take-append-le 512 (drop (512 * s) xs) ys (omega (arith, length-drop (512 * s) xs))

sector_back : (xs ys : List ℕ) (s t : ℕ) → 512 * s ≡ length xs + 512 * t → sector_in (xs ++ ys) s ≡ sector_in ys t
unfolding sector_in
sector_back xs ys s t e = ap (take 512) (ap (λ (k : ℕ). drop k (xs ++ ys)) e ∙ drop-append-add xs ys (512 * t))

pub sectors_append : (xs ys : List ℕ) → length xs % 512 ≡ 0 → sectors_of (xs ++ ys) ≡ sectors_of xs ++ sectors_of ys
sectors_append xs ys whole =
    let all = length-append xs ys in
    let a : length (sectors_of xs) ≡ length xs / 512 = length-sectors_of xs in
    let b : length (sectors_of ys) ≡ length ys / 512 = length-sectors_of ys in
    let c : length (sectors_of (xs ++ ys)) ≡ length (xs ++ ys) / 512 = length-sectors_of (xs ++ ys) in
    let both : length (sectors_of xs ++ sectors_of ys) ≡ length (sectors_of xs) + length (sectors_of ys) = length-append (sectors_of xs) (sectors_of ys) in
    ext_get_or [] _ _ (omega arith) (λ i lt.
    let low : i < length (xs ++ ys) / 512 = omega arith in
    elim (cases_lt i (length xs / 512)) [
      | inl less ↦ get_or-sectors_of (xs ++ ys) i [] low ∙ sector_front xs ys i (omega arith)
          ∙ sym (get_or-sectors_of xs i [] less) ∙ sym (get_or_append_left (sectors_of xs) (sectors_of ys) [] i (omega arith))
      | inr le ↦ get_or-sectors_of (xs ++ ys) i [] low ∙ sector_back xs ys i (i - length xs / 512) (omega arith)
          ∙ sym (get_or-sectors_of ys (i - length xs / 512) [] (omega arith)) ∙ sym (get_or-append_right (sectors_of xs) (sectors_of ys) (length xs / 512) i [] a le)
    ])

-- ---- sectors that are written

pub written_behind : {X : Type 0} (at : ℕ) (xs ys disk : List X) → written (at + length xs) ys (written at xs disk) ≡ written at (xs ++ ys) disk
written_behind at xs ys [] = refl
written_behind zero [] ys (b ∷ disk) = refl
written_behind {X} zero (x ∷ xs) ys (b ∷ disk) =
    let next : zero + length (x ∷ xs) ≡ suc (zero + length xs) = omega arith in
    ap (λ (k : ℕ). written k ys (x ∷ written zero xs disk)) next ∙ ap (λ (l : List X). x ∷ l) (written_behind zero xs ys disk)
written_behind {X} (suc at) xs ys (b ∷ disk) =
    let next : suc at + length xs ≡ suc (at + length xs) = omega arith in
    ap (λ (k : ℕ). written k ys (b ∷ written at xs disk)) next ∙ ap (λ (l : List X). b ∷ l) (written_behind at xs ys disk)

written_none : {X : Type 0} (at : ℕ) (disk : List X) → written at [] disk ≡ disk
written_none at [] = refl
written_none zero (b ∷ disk) = refl
written_none {X} (suc at) (b ∷ disk) = ap (λ (l : List X). b ∷ l) (written_none at disk)

-- a piece behind those before it
pub on_disk : (f : Filling) (cluster at n all : ℕ) (disk : List (List ℕ)) → at % 512 ≡ 0 → at + n ≡ all
    → written (8 * cluster + at / 512) (sectors_of (filling_bytes f at n)) (written (8 * cluster) (sectors_of (filling_bytes f 0 at)) disk) ≡ written (8 * cluster) (sectors_of (filling_bytes f 0 all)) disk
on_disk f cluster at n all disk whole e =
    let size : length (filling_bytes f 0 at) ≡ at = length-filling_bytes f 0 at in
    let count : length (sectors_of (filling_bytes f 0 at)) ≡ at / 512 = length-sectors_of (filling_bytes f 0 at) ∙ ap (λ (k : ℕ). k / 512) size in
    ap (λ (k : ℕ). written (8 * cluster + k) (sectors_of (filling_bytes f at n)) (written (8 * cluster) (sectors_of (filling_bytes f 0 at)) disk)) (sym count)
    ∙ written_behind (8 * cluster) (sectors_of (filling_bytes f 0 at)) (sectors_of (filling_bytes f at n)) disk
    ∙ ap (λ (s : List (List ℕ)). written (8 * cluster) s disk) (sym (sectors_append (filling_bytes f 0 at) (filling_bytes f at n) (omega arith)))
    ∙ ap (λ (bytes : List ℕ). written (8 * cluster) (sectors_of bytes) disk) (filling_front f at n all e)

abbrev pub region : ℕ → List ℕ → List Region
region cluster bytes = record { cluster = cluster; bytes = bytes } ∷ []

on_gives : (f : Filling) (cluster at n all : ℕ) (gives : Option (List (List ℕ))) → at % 512 ≡ 0 → at + n ≡ all
    → option_map (written (8 * cluster + at / 512) (sectors_of (filling_bytes f at n))) (option_map (put_regions (region cluster (filling_bytes f 0 at))) gives) ≡ option_map (put_regions (region cluster (filling_bytes f 0 all))) gives
on_gives f cluster at n all None whole e = refl
on_gives f cluster at n all (Some disk) whole e = ap Some (on_disk f cluster at n all disk whole e)

pub piece_more : (f : Filling) (cluster at n all : ℕ) (gives mid now : Option (List (List ℕ))) → at % 512 ≡ 0 → at + n ≡ all → Puts (region cluster (filling_bytes f 0 at)) gives mid
    → now ≡ option_map (written (8 * cluster + at / 512) (sectors_of (filling_bytes f at n))) mid → Puts (region cluster (filling_bytes f 0 all)) gives now
piece_more f cluster at n all gives mid now whole e before put =
    put ∙ ap (option_map (written (8 * cluster + at / 512) (sectors_of (filling_bytes f at n)))) before ∙ on_gives f cluster at n all gives whole e

pub no_piece : (f : Filling) (cluster : ℕ) (gives : Option (List (List ℕ))) → Puts (region cluster (filling_bytes f 0 0)) gives gives
unfolding filling_bytes sectors_of
no_piece f cluster None = refl
no_piece f cluster (Some disk) = ap Some (sym (written_none (8 * cluster) disk))

-- ---- what the long regions hold

pub log_filled : (n : ℕ) → replicate n 0xFF ≡ filling_bytes Log 0 n
unfolding filling_bytes filling_byte
log_filled n =
    ext_get_or 0 _ _ (omega (arith, length-replicate {A = ℕ} n 0xFF, length-map-range_with_len (filling_byte Log) 0 n)) (λ i lt.
    let low : i < n = omega (arith, length-replicate {A = ℕ} n 0xFF) in
    get_or-replicate n i 0xFF 0 low ∙ sym (get_or-map-range_with_len (filling_byte Log) 0 n i (0 + i) 0 low refl))

upper_small : (unit : ℕ) → standard_upper unit ≤ unit
upper_small unit = grind arith

low_byte : (i n : ℕ) → i ≡ 2 * n → upper_case_byte i ≡ standard_upper n % 256
unfolding upper_case_byte
low_byte i n e = let q : i / 2 ≡ n = omega arith in let r : i % 2 ≡ 0 = omega arith in rw (q, r) refl

high_byte : (i n : ℕ) → i ≡ 2 * n + 1 → upper_case_byte i ≡ standard_upper n / 256
unfolding upper_case_byte
high_byte i n e = let q : i / 2 ≡ n = omega arith in let r : i % 2 ≡ 1 = omega arith in rw (q, r) refl

spelled_unit : (n : ℕ) → n < 65536 → unit_bytes (standard_upper n ∷ []) ≡ filling_bytes UpperCase (2 * n) 2
unfolding unit_bytes spell filling_bytes filling_byte
spelled_unit n lt =
    let small = upper_small n in
    let high : standard_upper n / 256 % 256 ≡ standard_upper n / 256 = omega arith in
    ap (λ (k : ℕ). standard_upper n % 256 ∷ k ∷ []) high
    ∙ ap (λ (k : ℕ). k ∷ standard_upper n / 256 ∷ []) (sym (low_byte (2 * n) n refl)) ∙ ap (λ (k : ℕ). upper_case_byte (2 * n) ∷ k ∷ []) (sym (high_byte (2 * n + 1) n refl))

units_append : (xs ys : List ℕ) → unit_bytes (xs ++ ys) ≡ unit_bytes xs ++ unit_bytes ys
unfolding unit_bytes
units_append xs ys = flat_map-append (spell 2) xs ys

no_units : unit_bytes (standard_units 0) ≡ filling_bytes UpperCase 0 (2 * 0)
unfolding standard_units unit_bytes filling_bytes
no_units = refl

units_filled : (n : ℕ) → n ≤ 65536 → unit_bytes (standard_units n) ≡ filling_bytes UpperCase 0 (2 * n)
unfolding standard_units
units_filled zero le = no_units
units_filled (suc n) le =
    let one : suc n ≡ n + 1 = omega arith in
    let more : standard_units (suc n) ≡ standard_units n ++ standard_upper n ∷ [] = ap standard_units one ∙ map-range_with_len_more standard_upper 0 n n (omega arith) in
    ap unit_bytes more ∙ units_append (standard_units n) (standard_upper n ∷ [])
    ∙ ap (λ (l : List ℕ). l ++ unit_bytes (standard_upper n ∷ [])) (units_filled n (omega arith))
    ∙ ap (λ (l : List ℕ). filling_bytes UpperCase 0 (2 * n) ++ l) (spelled_unit n (omega arith))
    ∙ filling_front UpperCase (2 * n) 2 (2 * suc n) (omega arith)

pub upper_filled : (n all : ℕ) → n ≤ 65536 → 2 * n ≡ all → unit_bytes (standard_units n) ≡ filling_bytes UpperCase 0 all
upper_filled n all le e = units_filled n le ∙ ap (filling_bytes UpperCase 0) e

-- ---- the image on a device of so many sectors

pub image_known : (gives now : Option (List (List ℕ))) (count : ℕ) (v : Layout) (seed time : ℕ) → IfSome gives (IsDiskOf count) → v ≡ layout_of count → Puts (regions v seed time) gives now
    → now ≡ option_map (λ old. formatted old seed time) gives
unfolding formatted
image_known None now count v seed time whole e put = put
image_known (Some disk) now count v seed time whole e put =
    put ∙ ap (λ (w : Layout). Some (put_regions (regions w seed time) disk)) (e ∙ ap layout_of (sym whole.counted))
