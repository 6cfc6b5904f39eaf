-- Which blocks stand whole in the log behind changes.
use Rattle.std.proofs.Common.{◌≡◌, subst, ℕ, zero, suc, ◌+◌, ◌<◌, ◌≤◌, Bool, true, false, cond, List, [], ◌∷◌, ◌++◌, length, drop, get_or, Option, Some, Result, Ok, Err, drop-cons, add-one, refl, sym, ap, ap₂, ◌∙◌, arith}
use Rattle.std.proofs.lemmas.Bool.{ne_eqb}
use Rattle.std.proofs.lemmas.List.{drop_all}
use Rattle.std.specs.Prelude.{◌||◌, ◌==◌, All, OnOk, unwrap_or}
use Rattle.std.specs.List.{list_any}
use Rattle.store_pools.specs.disk_model.declared.block.Block.{Block}
use Rattle.store_pools.specs.disk_model.declared.block.Change.{Change}
use Rattle.store_pools.specs.disk_model.Sectors.{same_block, are_rivals}
use Rattle.store_pools.specs.log_model.Logs.{is_in_grid}
use Rattle.store_pools.specs.block_pool.Pools.{held, with_block}
use Rattle.store_pools.specs.Pools.{marks_of}
use Rattle.store_pools.proofs.Pools.{held_with}
use Rattle.store_pools.specs.txn_model.declared.mark.Mark.{Mark}
use Rattle.store_pools.specs.txn_model.Calls.{rivals_of}
use Rattle.txn_log.specs.Counts.{change_sizes, imaged_after, sizes_of, pages_of, capped}
use Rattle.txn_log.specs.Counting.{counted, imaged_in}
use Rattle.txn_log.proofs.Sharing.{among_is}
use Rattle.txn_log.proofs.Counts.{counted_all}

-- what is told where some rivals were told, and those of this list are left
abbrev pub left_of : List Block → (Block → Option Bool) → Block → Option Bool
left_of rivals told b = cond (list_any (same_block b) rivals) (Some false) (told b)

either : (u v : Bool) (x : Option Bool) → cond v (Some false) (cond u (Some false) x) ≡ cond (u || v) (Some false) x
either true true x = refl
either true false x = refl
either false true x = refl
either false false x = refl

-- a rival more was told
pub rival_told : (r : Block) (left rest : List Block) (told told' : List (Block × Bool)) → left ≡ r ∷ rest → told' ≡ with_block r false told → (b : Block) → left_of rest (held told') b ≡ left_of left (held told) b
rival_told r left rest told told' first is b =
    ap (λ (o : Option Bool). cond (list_any (same_block b) rest) (Some false) o) (ap (λ (es : List (Block × Bool)). held es b) is ∙ held_with r false told b)
    ∙ either (same_block b r) (list_any (same_block b) rest) (held told b)
    ∙ sym (ap (λ (rs : List Block). left_of rs (held told) b) first)

by_cases : (u v : Bool) (x : Option Bool) (y : Bool) → unwrap_or (cond u (Some true) (cond v (Some false) x)) y ≡ cond u true (cond v false (unwrap_or x y))
by_cases true v x y = refl
by_cases false true x y = refl
by_cases false false x y = refl

-- a change was told: of blocks that begin where their kind may
pub change_told : (c : Block) (told told' : List (Block × Bool)) (marks : List (Block × Mark)) → is_in_grid c ≡ true
    → ((b : Block) → held told' b ≡ cond (same_block b c) (Some true) (cond (list_any (same_block b) (rivals_of c)) (Some false) (held told b)))
    → (b : Block) → is_in_grid b ≡ true → imaged_in told' marks b ≡ imaged_after c (imaged_in told marks) b
change_told c told told' marks grid is b grid' =
    ap (λ (o : Option Bool). unwrap_or o (marks_of marks b).imaged) (is b)
    ∙ by_cases (same_block b c) (list_any (same_block b) (rivals_of c)) (held told b) (marks_of marks b).imaged
    ∙ ap (λ (t : Bool). cond (same_block b c) true (cond t false (imaged_in told marks b))) (among_is c b grid grid')

-- what follows from the one at Ok follows at Ok
pub on_ok : {T E : Type 0} {P Q : Type 0} (r : Result T E) → (P → Q) → OnOk r P → OnOk r Q
on_ok (Ok x) f is = f is
on_ok (Err e) f is = is

-- the item of a list at this place, and those behind it
pub item_and_rest : {X : Type 0} (xs : List X) (i : ℕ) (x : X) → i < length xs → x ≡ get_or xs i x → drop i xs ≡ x ∷ drop (i + 1) xs
item_and_rest xs i x inside is = rw (add-one) (drop-cons xs i x inside ∙ ap (λ (y : _). y ∷ drop (suc i) xs) (sym is))

-- a list that isn't empty has some items
pub not_none : (xs : List ℕ) → (xs ≡ [] → false ≡ true) → (length xs == 0) ≡ false
not_none [] some = sym (some refl)
not_none (x ∷ xs) some = ne_eqb (length (x ∷ xs)) 0 (λ e. absurd (omega (arith, e)))

-- two words of which blocks stand whole agree on blocks that begin where their kind may
abbrev pub AreAlike : (Block → Bool) → (Block → Bool) → Type 0
AreAlike f g = (b : Block) → is_in_grid b ≡ true → f b ≡ g b

alike_after : (c : Block) (f g : Block → Bool) → AreAlike f g → AreAlike (imaged_after c f) (imaged_after c g)
alike_after c f g same b grid = ap (λ (t : Bool). cond (same_block b c) true (cond (are_rivals c b) false t)) (same b grid)

-- then the same sizes are logged
pub same_sizes : (f g : Block → Bool) (changes : List Change) → AreAlike f g → All (λ (c : Change). is_in_grid c.block ≡ true) changes → sizes_of f changes ≡ sizes_of g changes
same_sizes f g [] same grid = refl
same_sizes f g (c ∷ changes) same grid =
    let rest : All (λ (x : Change). is_in_grid x.block ≡ true) changes = λ k d lt. grid (suc k) d (omega (arith, lt)) in
    ap₂ (λ (xs ys : List ℕ). cond (length c.new == 0) xs ys) (same_sizes f g changes same rest)
    (ap₂ (λ (t : Bool) (ys : List ℕ). change_sizes t c ++ ys) (same c.block (grid 0 c (omega arith))) (same_sizes (imaged_after c.block f) (imaged_after c.block g) changes (alike_after c.block f g same) rest))

-- the changes from this place on begin where their kind may
grid_behind : (changes : List Change) (k : ℕ) → All (λ (c : Change). is_in_grid c.block ≡ true) changes → All (λ (c : Change). is_in_grid c.block ≡ true) (drop k changes)
grid_behind changes zero grid = grid
grid_behind [] (suc k) grid = grid
grid_behind (c ∷ changes) (suc k) grid = grid_behind changes k (λ i d lt. grid (suc i) d (omega (arith, lt)))

-- a change more was counted
pub change_counted : (changes : List Change) (k : ℕ) (change : Change) (told told' : List (Block × Bool)) (marks : List (Block × Mark)) (pages free pages' free' : ℕ) (imaged : Bool) (total : ℕ)
    → All (λ (c : Change). is_in_grid c.block ≡ true) changes → k < length changes → change ≡ get_or changes k change → (length change.new == 0) ≡ false → imaged ≡ imaged_in told marks change.block
    → ((b : Block) → held told' b ≡ cond (same_block b change.block) (Some true) (cond (list_any (same_block b) (rivals_of change.block)) (Some false) (held told b)))
    → ((sizes : List ℕ) → counted pages' free' sizes ≡ counted pages free (change_sizes imaged change ++ sizes))
    → counted pages free (sizes_of (imaged_in told marks) (drop k changes)) ≡ total → counted pages' free' (sizes_of (imaged_in told' marks) (drop (k + 1) changes)) ≡ total
change_counted changes k change told told' marks pages free pages' free' imaged total grid inside is some imaged_is told_is counts before =
    let rest : List Change = drop (k + 1) changes in
    let own : is_in_grid change.block ≡ true = subst (λ (c : Change). is_in_grid c.block ≡ true) (sym is) (grid k change inside) in
    ap (λ (xs : List ℕ). counted pages' free' xs)
    (same_sizes (imaged_in told' marks) (imaged_after change.block (imaged_in told marks)) rest (change_told change.block told told' marks own told_is) (grid_behind changes (k + 1) grid))
    ∙ counts (sizes_of (imaged_after change.block (imaged_in told marks)) rest)
    ∙ ap (λ (t : Bool). counted pages free (change_sizes t change ++ sizes_of (imaged_after change.block (imaged_in told marks)) rest)) imaged_is
    ∙ sym (ap (λ (t : Bool). counted pages free (cond t (sizes_of (imaged_in told marks) rest) (change_sizes (imaged_in told marks change.block) change ++ sizes_of (imaged_after change.block (imaged_in told marks)) rest))) some)
    ∙ sym (ap (λ (cs : List Change). counted pages free (sizes_of (imaged_in told marks) cs)) (item_and_rest changes k change inside is))
    ∙ before

-- one of no bytes was passed over
pub change_passed : (changes : List Change) (k : ℕ) (change : Change) (told : List (Block × Bool)) (marks : List (Block × Mark)) (pages free : ℕ) (total : ℕ)
    → k < length changes → change ≡ get_or changes k change → (length change.new == 0) ≡ true
    → counted pages free (sizes_of (imaged_in told marks) (drop k changes)) ≡ total → counted pages free (sizes_of (imaged_in told marks) (drop (k + 1) changes)) ≡ total
change_passed changes k change told marks pages free total inside is none before =
    let rest : List Change = drop (k + 1) changes in
    sym (ap (λ (t : Bool). counted pages free (cond t (sizes_of (imaged_in told marks) rest) (change_sizes (imaged_in told marks change.block) change ++ sizes_of (imaged_after change.block (imaged_in told marks)) rest))) none)
    ∙ sym (ap (λ (cs : List Change). counted pages free (sizes_of (imaged_in told marks) cs)) (item_and_rest changes k change inside is))
    ∙ before

-- the commit was counted
pub commit_counted : (changes : List Change) (k : ℕ) (told : List (Block × Bool)) (marks : List (Block × Mark)) (pages free free0 result : ℕ) (imaged : Block → Bool) → length changes ≤ k → result ≡ counted pages free (0x58 ∷ [])
    → counted pages free (sizes_of (imaged_in told marks) (drop k changes)) ≡ counted 0 free0 (sizes_of imaged changes) → result ≡ capped (pages_of free0 (sizes_of imaged changes))
commit_counted changes k told marks pages free free0 result imaged all is before =
    is ∙ sym (ap (λ (cs : List Change). counted pages free (sizes_of (imaged_in told marks) cs)) (drop_all k changes all)) ∙ before ∙ counted_all free0 (sizes_of imaged changes)
