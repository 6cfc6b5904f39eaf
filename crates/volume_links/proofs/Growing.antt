-- Lists of long names that grow.
use Rattle.std.proofs.Common.{◌≡◌, ℕ, zero, suc, ◌+◌, ◌<◌, Bool, List, [], ◌∷◌, ◌++◌, Option, None, length, take, get_or, append_assoc, sym, ◌∙◌, ap, arith}
use Rattle.std.specs.List.{filter, filter_map, flat_map, cons_option, range_with_len}
use Rattle.std.proofs.lemmas.List.{take_more, append-nil, get_or_default}
use Rattle.std.proofs.lemmas.List.Concat.{flat_map-append}
use Rattle.std.proofs.lemmas.List.Elements.{filter-append, filter_map-append}
use Rattle.record_model.specs.Records.{Record}
use Rattle.file_tree.specs.declared.link.Link.{Link}
use Rattle.file_tree.specs.Trees.{is_long}
use Rattle.state_model.specs.Files.{only_base, file_links, links_at, file_at}
use Rattle.state_model.specs.Loads.{table_in}

long_more : {X Y : Type 0} (p : Y → Bool) (h : X → Option Y) (xs : List X) (i : ℕ) (d : X) → i < length xs → filter p (filter_map h (take (i + 1) xs)) ≡ filter p (filter_map h (take i xs)) ++ filter p (cons_option (h (get_or xs i d)) [])
long_more p h xs i d lt = ap (λ ys. filter p (filter_map h ys)) (take_more xs i d lt) ∙ ap (filter p) (filter_map-append h (take i xs) (get_or xs i d ∷ [])) ∙ filter-append p (filter_map h (take i xs)) (cons_option (h (get_or xs i d)) [])

-- one attribute more
pub long_step : {X Y : Type 0} (p : Y → Bool) (h : X → Option Y) (xs : List X) (i : ℕ) (x : X) (o : Option Y) (first old new : List Y)
    → i < length xs → x ≡ get_or xs i x → o ≡ h x → old ≡ first ++ filter p (filter_map h (take i xs)) → new ≡ old ++ filter p (cons_option o []) → new ≡ first ++ filter p (filter_map h (take (i + 1) xs))
long_step {Y = Y} p h xs i x o first old new lt here is before after =
    let more = long_more p h xs i x lt in
    after ∙ ap (λ ys. ys ++ filter p (cons_option o [])) before
    ∙ append_assoc first (filter p (filter_map h (take i xs))) (filter p (cons_option o []))
    ∙ ap (λ (y : Option Y). first ++ (filter p (filter_map h (take i xs)) ++ filter p (cons_option y []))) (is ∙ ap h here)
    ∙ ap (λ ys. first ++ ys) (sym more)

pub range_more : (a n : ℕ) → range_with_len a (n + 1) ≡ range_with_len a n ++ (a + n) ∷ []
range_more a zero = let e : a ≡ a + 0 = omega arith in ap (λ (k : ℕ). k ∷ []) e
range_more a (suc n) =
    let e : suc n + 1 ≡ suc (n + 1) = omega arith in
    let f : (a + 1) + n ≡ a + suc n = omega arith in
    ap (range_with_len a) e ∙ ap (λ (ks : List ℕ). a ∷ ks) (range_more (a + 1) n ∙ ap (λ (k : ℕ). range_with_len (a + 1) n ++ k ∷ []) f)

pub long_files : {Y : Type 0} (p : Y → Bool) (f : ℕ → List Y) (n : ℕ) → filter p (flat_map f (range_with_len 0 (n + 1))) ≡ filter p (flat_map f (range_with_len 0 n)) ++ filter p (f n)
long_files p f n =
    let e : 0 + n ≡ n = omega arith in
    ap (λ ns. filter p (flat_map f ns)) (range_more 0 n) ∙ ap (filter p) (flat_map-append f (range_with_len 0 n) ((0 + n) ∷ []))
    ∙ filter-append p (flat_map f (range_with_len 0 n)) (f (0 + n) ++ [])
    ∙ ap (λ ys. filter p (flat_map f (range_with_len 0 n)) ++ filter p ys) (append-nil (f (0 + n)) ∙ ap f e)

links_here : (files : List (Option Record)) (n : ℕ) (file : Option Record) → n < length files → file ≡ get_or files n file → file_links n (only_base file) ≡ links_at (table_in files) n
unfolding links_at file_at
links_here files n file lt here = ap (λ (o : Option Record). file_links n (only_base o)) (here ∙ get_or_default files n file None lt)

-- one file more
pub file_step : (files : List (Option Record)) (n : ℕ) (file : Option Record) (old new : List Link) → n < length files → file ≡ get_or files n file → old ≡ filter is_long (flat_map (links_at (table_in files)) (range_with_len 0 n))
    → new ≡ old ++ filter is_long (file_links n (only_base file)) → new ≡ filter is_long (flat_map (links_at (table_in files)) (range_with_len 0 (n + 1)))
file_step files n file old new lt here before after =
    after ∙ ap (λ ls. ls ++ filter is_long (file_links n (only_base file))) before
    ∙ ap (λ ls. filter is_long (flat_map (links_at (table_in files)) (range_with_len 0 n)) ++ filter is_long ls) (links_here files n file lt here)
    ∙ sym (long_files is_long (links_at (table_in files)) n)
