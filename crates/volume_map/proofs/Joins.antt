-- Files joined one after the other, in place.
use Rattle.std.proofs.Common.{◌≡◌, ℕ, zero, suc, ◌+◌, ◌-◌, ◌<◌, ◌≤◌, List, [], ◌∷◌, ◌++◌, length, map, drop, get_or, Option, None, refl, sym, ap, ◌∙◌, arith}
use Rattle.std.specs.Prelude.{set}
use Rattle.std.specs.List.{range_with_len}
use Rattle.std.proofs.lemmas.List.{set-append_right, drop_more, append_assoc, append-nil, drop_all}
use Rattle.std.proofs.lemmas.List.FromFn.{map-range_with_len_more, length-map-range_with_len}
use Rattle.record_model.specs.declared.attribute.Attr.{Attr}
use Rattle.record_model.specs.Records.{Record}
use Rattle.state_model.specs.Files.{file_at, only_base}
use Rattle.state_model.specs.Loads.{table_in}
use Rattle.volume_map.specs.Lists.{joined_with, joined_at, joined_files}

pub any_default : {X : Type 0} (xs : List X) (i : ℕ) (d e : X) → i < length xs → get_or xs i d ≡ get_or xs i e
any_default [] i d e lt = absurd (omega (arith, lt))
any_default (x ∷ xs) zero d e lt = refl
any_default (x ∷ xs) (suc i) d e lt = any_default xs i d e (omega arith)

abbrev Files : Type 0
Files = List (Option Record)

seam : (a : Files) (y : Option Record) (b : Files) (n : ℕ) (x : Option Record) → length a ≡ n → get_or (a ++ y ∷ b) n x ≡ y
seam [] y b n x size = rw (← size) refl
seam (z ∷ a) y b n x size = rw (← size) (seam a y b (length a) x refl)

set_here : (a records : Files) (n : ℕ) (x y : Option Record) → length a ≡ n → n < length records → set (a ++ drop n records) n y ≡ (a ++ y ∷ []) ++ drop (n + 1) records
set_here a records n x y size lt =
    let zero_is : n - n ≡ 0 = omega arith in
    set-append_right a (drop n records) n n y size (omega arith)
    ∙ ap (λ (i : ℕ). a ++ set (drop n records) i y) zero_is
    ∙ ap (λ (ys : Files). a ++ set ys 0 y) (drop_more records n x lt)
    ∙ sym (append_assoc a (y ∷ []) (drop (n + 1) records))

here : (a records : Files) (n : ℕ) (x : Option Record) → length a ≡ n → n < length records → get_or (a ++ drop n records) n x ≡ get_or records n x
here a records n x size lt = ap (λ (ys : Files). get_or (a ++ ys) n x) (drop_more records n x lt) ∙ seam a (get_or records n x) (drop (n + 1) records) n x size

joined_here : (records : Files) (extras : List (List Attr)) (n : ℕ) (x y : Option Record) (e : List Attr) → n < length records → n < length extras → x ≡ get_or records n x → e ≡ get_or extras n e → y ≡ joined_with e (only_base x)
    → y ≡ joined_at (table_in records) extras n
unfolding joined_at file_at
joined_here records extras n x y e lt le is was made =
    made ∙ ap (λ (o : Option Record). joined_with e (only_base o)) (is ∙ any_default records n x None lt) ∙ ap (λ (s : List Attr). joined_with s (only_base (get_or records n None))) (was ∙ any_default extras n e [] le)

-- one file more
pub joins : (records : Files) (extras : List (List Attr)) (n : ℕ) (now : Files) (x y : Option Record) (e : List Attr) → n < length records → n < length extras → now ≡ joined_files (table_in records) extras n ++ drop n records
    → x ≡ get_or now n x → e ≡ get_or extras n e → y ≡ joined_with e (only_base x) → set now n y ≡ joined_files (table_in records) extras (n + 1) ++ drop (n + 1) records
unfolding joined_files
joins records extras n now x y e lt le so is was made =
    let a : Files = map (joined_at (table_in records) extras) (range_with_len 0 n) in
    let size : length a ≡ n = length-map-range_with_len (joined_at (table_in records) extras) 0 n in
    let there : x ≡ get_or records n x = is ∙ ap (λ (s : Files). get_or s n x) so ∙ here a records n x size lt in
    ap (λ (s : Files). set s n y) so ∙ set_here a records n x y size lt
    ∙ ap (λ (s : Files). s ++ drop (n + 1) records) (ap (λ (o : Option Record). a ++ o ∷ []) (joined_here records extras n x y e lt le there was made) ∙ sym (map-range_with_len_more (joined_at (table_in records) extras) 0 n n (omega arith)))

pub none_joined : (records : Files) (extras : List (List Attr)) → records ≡ joined_files (table_in records) extras 0 ++ records
unfolding joined_files
none_joined records extras = refl

pub all_joined : (records : Files) (extras : List (List Attr)) (n : ℕ) (now : Files) → length records ≤ n → n ≤ length records → now ≡ joined_files (table_in records) extras n ++ drop n records → now ≡ joined_files (table_in records) extras (length records)
all_joined records extras n now most least so =
    let same : n ≡ length records = omega arith in
    so ∙ ap (λ (k : ℕ). joined_files (table_in records) extras k ++ drop k records) same ∙ ap (λ (s : Files). joined_files (table_in records) extras (length records) ++ s) (drop_all (length records) records (omega arith)) ∙ append-nil (joined_files (table_in records) extras (length records))
