-- Changes that pass, and those that pass in any case.
use Rattle.std.proofs.Common.{◌≡◌, ℕ, zero, suc, ◌+◌, ◌-◌, ◌*◌, ◌/◌, ◌%◌, ◌<◌, ◌≤◌, Bool, true, false, List, [], ◌∷◌, length, refl, sym, ap, ◌∙◌, subst, arith}
use Rattle.std.specs.Prelude.{◌^◌, ◌&&◌, ◌==◌, not, min, nat_le, nat_lt, All}
use Rattle.std.specs.List.{AllByRecursion, list_any, list_all}
use Rattle.std.proofs.lemmas.Bool.{le-leb, leb-true, lt-ltb, ltb-true, eqb-true, eq-eqb}
use Rattle.std.proofs.lemmas.List.Elements.{recursion_from_All, All-from_recursion}
use Rattle.disk_model.specs.declared.block.Block.{Block}
use Rattle.disk_model.specs.declared.block.BlockKind.{BlockKind}
use Rattle.disk_model.specs.declared.block.BlockKind.TheVariants.{Plain, FileRec, Index}
use Rattle.disk_model.specs.declared.block.Change.{Change}
use Rattle.disk_model.specs.Sectors.{sectors, overlap, same_kind, same_block, are_rivals}
use Rattle.log_model.specs.Logs.{may_begin, is_in_grid}
use Rattle.log_page.specs.declared.places.LogPlace.{LogPlace}
use Rattle.log_reading.specs.Rings.{IsRingPlace}
use Rattle.block_view.specs.Changes.{Fits}
use Rattle.plan_draft.specs.Touching.{kind_place, block_key, rises}
use Rattle.plan_draft.specs.Finishing.{change_keys}
use Rattle.store_model.specs.Volumes.{is_free, is_known}
use Rattle.state_store.specs.txn_model.Values.{StoreFacts, own_of, is_own}
use Rattle.state_store.specs.Changes.{MayLog, AreBeside, AreApart}
use Rattle.put_checks.specs.Checks.{end_of, meets_run, lies_inside, lies_apart, fits_some, may_be_logged, are_in_row, may_put}
use Rattle.put_checks.specs.Laws.{ChecksAreEnough, ChecksAreMet}
use Rattle.put_checks.proofs.Known.{and_left, and_right, both, not_false, free_apart, found_apart}

some_sectors : (d : Block) → 0 < sectors d.kind
some_sectors d = by d.kind
  where
    by : (k : BlockKind) → 0 < sectors k
    by Plain = omega arith
    by FileRec = omega arith
    by Index = omega arith

-- ---- one change

module _ (f : StoreFacts) (ring : IsRingPlace f.place) where
  logged : (x : Change) → may_be_logged f.place f.found x ≡ true → MayLog f x
  logged x is =
      let b = x.block in
      let inside = and_left (lies_inside f.place b) (lies_apart f.place f.found b && fits_some x) is in
      let rest = and_right (lies_inside f.place b) (lies_apart f.place f.found b && fits_some x) is in
      let apart = and_left (lies_apart f.place f.found b) (fits_some x) rest in
      let fits = and_right (lies_apart f.place f.found b) (fits_some x) rest in
      let grid = and_left (is_in_grid b) (nat_lt (b.first / 8) f.place.clusters && nat_le (b.first + sectors b.kind) f.place.device) inside in
      let there = and_right (is_in_grid b) (nat_lt (b.first / 8) f.place.clusters && nat_le (b.first + sectors b.kind) f.place.device) inside in
      let bytes = and_right (nat_lt 0 (length x.new)) ((length x.new == length x.old) && nat_le (x.offset + length x.new) (512 * sectors b.kind)) fits in
      record {
        known = both (is_in_grid b) (is_free (own_of f) b) grid
            (free_apart f.place f.found b ring (not_false (list_any (meets_run b) f.place.runs) (and_left (not (list_any (meets_run b) f.place.runs)) (not (list_any (overlap b) f.found)) apart))
            (not_false (list_any (overlap b) f.found) (and_right (not (list_any (meets_run b) f.place.runs)) (not (list_any (overlap b) f.found)) apart)));
        volume = ltb-true (b.first / 8) f.place.clusters (and_left (nat_lt (b.first / 8) f.place.clusters) (nat_le (b.first + sectors b.kind) f.place.device) there);
        inside = leb-true (b.first + sectors b.kind) f.place.device (and_right (nat_lt (b.first / 8) f.place.clusters) (nat_le (b.first + sectors b.kind) f.place.device) there);
        some = ltb-true 0 (length x.new) (and_left (nat_lt 0 (length x.new)) ((length x.new == length x.old) && nat_le (x.offset + length x.new) (512 * sectors b.kind)) fits);
        fits = record {
          same_length = eqb-true (length x.new) (length x.old) (and_left (length x.new == length x.old) (nat_le (x.offset + length x.new) (512 * sectors b.kind)) bytes);
          inside = leb-true (x.offset + length x.new) (512 * sectors b.kind) (and_right (length x.new == length x.old) (nat_le (x.offset + length x.new) (512 * sectors b.kind)) bytes);
        };
      }

  each_logged : (xs : List Change) → list_all (may_be_logged f.place f.found) xs ≡ true → AllByRecursion (MayLog f) xs
  each_logged [] is = tt
  each_logged (x ∷ xs) is = (logged x (and_left (may_be_logged f.place f.found x) (list_all (may_be_logged f.place f.found) xs) is), each_logged xs (and_right (may_be_logged f.place f.found x) (list_all (may_be_logged f.place f.found) xs) is))

passes : (f : StoreFacts) (x : Change) → MayLog f x → list_any (meets_run x.block) f.place.runs ≡ false → may_be_logged f.place f.found x ≡ true
passes f x may beside =
    let b = x.block in
    let grid = and_left (is_in_grid b) (is_free (own_of f) b) may.known in
    let off : list_any (overlap b) f.found ≡ false = found_apart f.place f.found b some_sectors (and_right (is_in_grid b) (is_free (own_of f) b) may.known) in
    both (lies_inside f.place b) (lies_apart f.place f.found b && fits_some x)
    (both (is_in_grid b) (nat_lt (b.first / 8) f.place.clusters && nat_le (b.first + sectors b.kind) f.place.device) grid
    (both (nat_lt (b.first / 8) f.place.clusters) (nat_le (b.first + sectors b.kind) f.place.device) (lt-ltb (b.first / 8) f.place.clusters may.volume) (le-leb (b.first + sectors b.kind) f.place.device may.inside)))
    (both (lies_apart f.place f.found b) (fits_some x) (both (not (list_any (meets_run b) f.place.runs)) (not (list_any (overlap b) f.found)) (ap not beside) (ap not off))
    (both (nat_lt 0 (length x.new)) ((length x.new == length x.old) && nat_le (x.offset + length x.new) (512 * sectors b.kind)) (lt-ltb 0 (length x.new) may.some)
    (both (length x.new == length x.old) (nat_le (x.offset + length x.new) (512 * sectors b.kind)) (eq-eqb (length x.new) (length x.old) may.fits.same_length) (le-leb (x.offset + length x.new) (512 * sectors b.kind) may.fits.inside))))

all_pass : (f : StoreFacts) (xs : List Change) → AllByRecursion (MayLog f) xs → AllByRecursion (λ (x : Change). list_any (meets_run x.block) f.place.runs ≡ false) xs → list_all (may_be_logged f.place f.found) xs ≡ true
all_pass f [] may beside = refl
all_pass f (x ∷ xs) may beside = both (may_be_logged f.place f.found x) (list_all (may_be_logged f.place f.found) xs) (passes f x may.0 beside.0) (all_pass f xs may.1 beside.1)

-- ---- in a row

-- a block that begins where another one ends, or behind it, isn't it, and shares no sector with it
beside : (a b : Block) → a.first + sectors a.kind ≤ b.first → AreBeside a b
beside a b behind =
    let some = some_sectors a in
    let none : overlap a b ≡ false = no_overlap in
    record { other = not_same; no_rival = ap (λ (t : Bool). not (same_kind a.kind b.kind) && t) none ∙ and_false (not (same_kind a.kind b.kind)) }
  where
    and_false : (t : Bool) → (t && false) ≡ false
    and_false true = refl
    and_false false = refl

    false_by : (t : Bool) → (t ≡ true → ⊥) → t ≡ false
    false_by true never = absurd (never refl)
    false_by false never = refl

    no_overlap : overlap a b ≡ false
    no_overlap = false_by (overlap a b) (λ is. let right = ltb-true b.first (a.first + sectors a.kind) (and_right (nat_lt a.first (b.first + sectors b.kind)) (nat_lt b.first (a.first + sectors a.kind)) is) in omega (arith, right, behind))

    not_same : same_block a b ≡ false
    not_same = false_by (same_block a b) (λ is. let e : a.first ≡ b.first = eqb-true a.first b.first (and_left (a.first == b.first) (same_kind a.kind b.kind) is) in let some = some_sectors a in omega (arith, e, some, behind))

-- a block on such a device ends before the last number of 64 bits
ends_at : (b : Block) (device : ℕ) → b.first + sectors b.kind ≤ device → device ≤ 2 ^ 62 → end_of b ≡ b.first + sectors b.kind
ends_at b device inside near = min_left (b.first + sectors b.kind) (2 ^ 64 - 1) (omega (arith, inside, near))
  where
    min_left : (n m : ℕ) → n ≤ m → min n m ≡ n
    min_left n m le = omega (arith, le)

all_behind : (from : ℕ) (a : Block) (xs : List Change) → a.first + sectors a.kind ≤ from → are_in_row from xs ≡ true → (device : ℕ) → device ≤ 2 ^ 62 → AllByRecursion (λ (y : Change). y.block.first + sectors y.block.kind ≤ device) xs → AllByRecursion (λ (y : Change). AreBeside a y.block) xs
unfolding are_in_row
all_behind from a [] ends is device near inside = tt
all_behind from a (y ∷ ys) ends is device near inside =
    let here = leb-true from y.block.first (and_left (nat_le from y.block.first) (are_in_row (end_of y.block) ys) is) in
    let e = ends_at y.block device inside.0 near in
    (beside a y.block (omega (arith, ends, here)), all_behind (end_of y.block) a ys (omega (arith, ends, here, e)) (and_right (nat_le from y.block.first) (are_in_row (end_of y.block) ys) is) device near inside.1)

in_row : (from : ℕ) (xs : List Change) → are_in_row from xs ≡ true → (device : ℕ) → device ≤ 2 ^ 62 → AllByRecursion (λ (y : Change). y.block.first + sectors y.block.kind ≤ device) xs → AreApart xs
unfolding are_in_row
in_row from [] is device near inside = tt
in_row from (x ∷ xs) is device near inside =
    let rest = and_right (nat_le from x.block.first) (are_in_row (end_of x.block) xs) is in
    let e = ends_at x.block device inside.0 near in
    (all_behind (end_of x.block) x.block xs (omega (arith, e)) rest device near inside.1, in_row (end_of x.block) xs rest device near inside.1)

ends_of : (f : StoreFacts) (xs : List Change) → AllByRecursion (MayLog f) xs → AllByRecursion (λ (y : Change). y.block.first + sectors y.block.kind ≤ f.place.device) xs
ends_of f [] mays = tt
ends_of f (x ∷ xs) mays = (mays.0.inside, ends_of f xs mays.1)

pub enough : ChecksAreEnough
unfolding may_put
enough f xs ring near is =
    let each = each_logged f ring xs (and_left (list_all (may_be_logged f.place f.found) xs) (are_in_row 0 xs) is) in
    (All-from_recursion (MayLog f) xs each, in_row 0 xs (and_right (list_all (may_be_logged f.place f.found) xs) (are_in_row 0 xs) is) f.place.device near (ends_of f xs each))

-- ---- changes in the order of their blocks

least_place : (k : BlockKind) → kind_place k ≤ 2
least_place Plain = omega arith
least_place FileRec = omega arith
least_place Index = omega arith

in_order : (x y : Block) → block_key x < block_key y → x.first ≤ y.first
in_order x y less = let p = least_place x.kind in let q = least_place y.kind in omega (arith, less, p, q)

-- two blocks of one kind in the grid of which the second begins inside the first begin at one sector
one_place : (k : BlockKind) (a b : ℕ) → may_begin k a ≡ true → may_begin k b ≡ true → a ≤ b → b < a + sectors k → a ≡ b
one_place Plain a b ga gb le lt = omega (arith, le, lt)
one_place FileRec a b ga gb le lt = let p = eqb-true (a % 2) 0 ga in let q = eqb-true (b % 2) 0 gb in omega (arith, p, q, le, lt)
one_place Index a b ga gb le lt = let p = eqb-true (a % 8) 0 ga in let q = eqb-true (b % 8) 0 gb in omega (arith, p, q, le, lt)

one_kind : (j k : BlockKind) → same_kind j k ≡ true → j ≡ k
one_kind Plain Plain is = refl
one_kind Plain FileRec is = absurd cc
one_kind Plain Index is = absurd cc
one_kind FileRec Plain is = absurd cc
one_kind FileRec FileRec is = refl
one_kind FileRec Index is = absurd cc
one_kind Index Plain is = absurd cc
one_kind Index FileRec is = absurd cc
one_kind Index Index is = refl

separate : (x y : Block) → is_in_grid x ≡ true → is_in_grid y ≡ true → block_key x < block_key y → AreBeside x y → x.first + sectors x.kind ≤ y.first
separate x y gx gy less are = by_lt (nat_lt y.first (x.first + sectors x.kind)) refl
  where
    le : x.first ≤ y.first
    le = in_order x y less

    meets : nat_lt y.first (x.first + sectors x.kind) ≡ true → overlap x y ≡ true
    meets inside = both (nat_lt x.first (y.first + sectors y.kind)) (nat_lt y.first (x.first + sectors x.kind)) (let some = some_sectors y in lt-ltb x.first (y.first + sectors y.kind) (omega (arith, le, some))) inside

    clash : (t : Bool) → t ≡ true → t ≡ false → ⊥
    clash true p q = absurd cc
    clash false p q = absurd cc

    no_kind : (t u : Bool) → u ≡ true → (not t && u) ≡ false → t ≡ true
    no_kind true u is none = refl
    no_kind false true is none = absurd cc
    no_kind false false is none = absurd cc

    same : nat_lt y.first (x.first + sectors x.kind) ≡ true → same_block x y ≡ true
    same inside =
        let alike = no_kind (same_kind x.kind y.kind) (overlap x y) (meets inside) are.no_rival in
        let kind = one_kind x.kind y.kind alike in
        let place : x.first ≡ y.first = one_place x.kind x.first y.first gx (subst (λ (k : BlockKind). may_begin k y.first ≡ true) (sym kind) gy) le (ltb-true y.first (x.first + sectors x.kind) inside) in
        both (x.first == y.first) (same_kind x.kind y.kind) (eq-eqb x.first y.first place) alike

    not_below : (n : ℕ) → nat_lt y.first (x.first + sectors x.kind) ≡ false → x.first + sectors x.kind - y.first ≡ n → x.first + sectors x.kind ≤ y.first
    not_below zero isnt is = omega (arith, is)
    not_below (suc n) isnt is = absurd (clash (nat_lt y.first (x.first + sectors x.kind)) (lt-ltb y.first (x.first + sectors x.kind) (omega (arith, is))) isnt)

    by_lt : (t : Bool) → nat_lt y.first (x.first + sectors x.kind) ≡ t → x.first + sectors x.kind ≤ y.first
    by_lt true is = absurd (clash (same_block x y) (same is) are.other)
    by_lt false is = not_below (x.first + sectors x.kind - y.first) is refl

-- the first of the changes begins at this sector or behind it
abbrev Begins : ℕ → List Change → Type 0
Begins from [] = Unit {0}
Begins from (x ∷ xs) = from ≤ x.block.first

next_begins : (f : StoreFacts) (x : Change) (xs : List Change) → MayLog f x → AllByRecursion (MayLog f) xs → AllByRecursion (λ (y : Change). AreBeside x.block y.block) xs → rises (suc (block_key x.block)) (change_keys xs) ≡ true → Begins (x.block.first + sectors x.block.kind) xs
unfolding rises
next_begins f x [] may mays are is = tt
next_begins f x (y ∷ ys) may mays are is =
    separate x.block y.block (and_left (is_in_grid x.block) (is_free (own_of f) x.block) may.known) (and_left (is_in_grid y.block) (is_free (own_of f) y.block) mays.0.known)
    (let key = leb-true (suc (block_key x.block)) (block_key y.block) (and_left (nat_le (suc (block_key x.block)) (block_key y.block)) (rises (suc (block_key y.block)) (change_keys ys)) is) in omega (arith, key)) are.0

met_from : (f : StoreFacts) → f.place.device ≤ 2 ^ 62 → (from : ℕ) (xs : List Change) → AllByRecursion (MayLog f) xs → AreApart xs → (least : ℕ) → rises least (change_keys xs) ≡ true → Begins from xs → are_in_row from xs ≡ true
unfolding are_in_row rises
met_from f near from [] mays apart least is begins = refl
met_from f near from (x ∷ xs) mays apart least is begins =
    let tail = and_right (nat_le least (block_key x.block)) (rises (suc (block_key x.block)) (change_keys xs)) is in
    let e = ends_at x.block f.place.device mays.0.inside near in
    both (nat_le from x.block.first) (are_in_row (end_of x.block) xs) (le-leb from x.block.first begins)
    (met_from f near (end_of x.block) xs mays.1 apart.1 (suc (block_key x.block)) tail (subst (λ (n : ℕ). Begins n xs) (sym e) (next_begins f x xs mays.0 mays.1 apart.0 tail)))

begins_at_zero : (xs : List Change) → Begins 0 xs
begins_at_zero [] = tt
begins_at_zero (x ∷ xs) = omega arith

pub met : ChecksAreMet
unfolding may_put
met f xs near mays apart is beside =
    let each = recursion_from_All (MayLog f) xs mays in
    both (list_all (may_be_logged f.place f.found) xs) (are_in_row 0 xs) (all_pass f xs each beside) (met_from f near 0 xs each apart 0 is (begins_at_zero xs))
