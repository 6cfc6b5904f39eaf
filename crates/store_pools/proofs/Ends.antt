-- What the blocks of a transaction become at its end: the bodies from before it leave one by one, and each block's mark is turned.
use Rattle.std.proofs.Common.{◌≡◌, ℕ, suc, ◌+◌, Bool, true, false, cond, List, [], ◌∷◌, Option, Some, None, refl, sym, ap, subst, ◌∙◌, arith}
use Rattle.std.specs.Prelude.{is_some, IsSome}
use Rattle.std.proofs.Math.Path.{fun_ext}
use Rattle.std.specs.Option.{option_map, option_or}
use Rattle.txn_model.specs.disk_model.declared.block.Block.{Block}
use Rattle.txn_model.specs.disk_model.declared.block.Body.{Body}
use Rattle.txn_model.specs.disk_model.Sectors.{same_block}
use Rattle.txn_model.proofs.disk_model.Frames.{same_block-is}
use Rattle.std.specs.Cmp.{unsigned_tied}
use Rattle.std.proofs.lemmas.Bool.Decides.{nat_tests}
use Rattle.txn_model.specs.block_pool.Numbers.{block_number}
use Rattle.txn_model.specs.block_pool.Pools.{held, with_block}
use Rattle.txn_model.proofs.block_pool.Ordering.{order_equal}
use Rattle.txn_model.specs.declared.mark.Mark.{Mark}
use Rattle.txn_model.specs.Values.{no_mark}
use Rattle.store_pools.specs.declared.kept.KeptBody.{KeptBody}
use Rattle.store_pools.specs.Pools.{body_of_kept, bodies_of, marks_of}
use Rattle.store_pools.proofs.Pools.{held_with, marks_with, is_kept}

-- the mark of a block, once it is turned where its body from before the transaction is left
abbrev pub once_turned : (Mark → Mark) → Option KeptBody → Mark → Mark
once_turned turn o m = cond (is_some o) (turn m) m

by_test : (turn : Mark → Mark) (t : Bool) (o : Option KeptBody) (x : KeptBody) (m there : Mark) → (t ≡ true → o ≡ None) → (t ≡ true → m ≡ there) → once_turned turn o (cond t (turn there) m) ≡ once_turned turn (cond t (Some x) o) m
by_test turn true None x m there none same = ap turn (sym (same refl))
by_test turn true (Some y) x m there none same = let clash : Some y ≡ None = none refl in absurd cc
by_test turn false o x m there none same = refl

-- one more of them is turned
turn_step : (turn : Mark → Mark) (c : Block) (x : KeptBody) (rest : List (Block × KeptBody)) (marks : List (Block × Mark)) (b : Block) → held rest c ≡ None
    → once_turned turn (held rest b) (marks_of (with_block c (turn (marks_of marks c)) marks) b) ≡ once_turned turn (held ((c, x) ∷ rest) b) (marks_of marks b)
turn_step turn c x rest marks b alone =
    ap (once_turned turn (held rest b)) (marks_with c (turn (marks_of marks c)) marks b)
    ∙ by_test turn (same_block b c) (held rest b) x (marks_of marks b) (marks_of marks c) (λ e. ap (held rest) (same_block-is b c e) ∙ alone) (λ e. ap (marks_of marks) (same_block-is b c e))

still_some : {X : Type 0} (t : Bool) (x : KeptBody) (m : X) (o : Option KeptBody) (p : Option X) → (IsSome (cond t (Some x) o) → IsSome p) → IsSome o → IsSome (cond t (Some m) p)
still_some true x m o p old is = refl
still_some false x m o p old is = old is

-- and the others have marks still
marked_step : (c : Block) (x : KeptBody) (m : Mark) (rest : List (Block × KeptBody)) (marks : List (Block × Mark)) → ((b : Block) → IsSome (held ((c, x) ∷ rest) b) → IsSome (held marks b))
    → (b : Block) → IsSome (held rest b) → IsSome (held (with_block c m marks) b)
marked_step c x m rest marks marked b is =
    subst (λ (o : Option Mark). IsSome o) (sym (held_with c m marks b)) (still_some (same_block b c) x m (held rest b) (held marks b) (marked b) is)

same_self : (b : Block) → same_block b b ≡ true
same_self b = sym (order_equal b b) ∙ unsigned_tied (block_number b) (block_number b) ∙ grind (arith, nat_tests)

-- the first of them has what all have
pub first_has : (P : Block → Type 0) (c : Block) (x : KeptBody) (rest before : List (Block × KeptBody)) → before ≡ (c, x) ∷ rest → ((b : Block) → IsSome (held before b) → P b) → P c
first_has P c x rest before is all =
    all c (subst (λ (es : List (Block × KeptBody)). IsSome (held es c)) (sym is) (subst (λ (t : Bool). IsSome (cond t (Some x) (held rest c))) (sym (same_self c)) refl))

-- ---- one more

pub turn_more : (turn : Mark → Mark) (c : Block) (x : KeptBody) (rest before : List (Block × KeptBody)) (marks now : List (Block × Mark)) → before ≡ (c, x) ∷ rest → held rest c ≡ None → now ≡ with_block c (turn (marks_of marks c)) marks
    → (b : Block) → once_turned turn (held rest b) (marks_of now b) ≡ once_turned turn (held before b) (marks_of marks b)
turn_more turn c x rest before marks now is alone made b =
    ap (λ (ms : List (Block × Mark)). once_turned turn (held rest b) (marks_of ms b)) made ∙ turn_step turn c x rest marks b alone
    ∙ ap (λ (es : List (Block × KeptBody)). once_turned turn (held es b) (marks_of marks b)) (sym is)

pub marked_more : (c : Block) (x : KeptBody) (m : Mark) (rest before : List (Block × KeptBody)) (marks now : List (Block × Mark)) → before ≡ (c, x) ∷ rest → now ≡ with_block c m marks → ((b : Block) → IsSome (held before b) → IsSome (held marks b))
    → (b : Block) → IsSome (held rest b) → IsSome (held now b)
marked_more c x m rest before marks now is made marked b has =
    subst (λ (ms : List (Block × Mark)). IsSome (held ms b)) (sym made)
    (marked_step c x m rest marks (λ d some. marked d (subst (λ (es : List (Block × KeptBody)). IsSome (held es d)) (sym is) some)) b has)

pub bodied_more : (c : Block) (x : KeptBody) (rest before bodies now : List (Block × KeptBody)) → before ≡ (c, x) ∷ rest → now ≡ with_block c x bodies → ((b : Block) → IsSome (held before b) → IsSome (held bodies b))
    → (b : Block) → IsSome (held rest b) → IsSome (held now b)
bodied_more c x rest before bodies now is made bodied b has =
    subst (λ (o : Option KeptBody). IsSome o) (sym (ap (λ (es : List (Block × KeptBody)). held es b) made ∙ held_with c x bodies b))
    (still_some (same_block b c) x x (held rest b) (held bodies b) (λ some. bodied b (subst (λ (es : List (Block × KeptBody)). IsSome (held es b)) (sym is) some)) has)

-- ---- bodies that come back

by_body : (t : Bool) (o : Option KeptBody) (x : KeptBody) (p : Option Body) → (t ≡ true → o ≡ None)
    → option_or (option_map body_of_kept o) (cond t (Some (body_of_kept x)) p) ≡ option_or (option_map body_of_kept (cond t (Some x) o)) p
by_body true None x p none = refl
by_body true (Some y) x p none = let clash : Some y ≡ None = none refl in absurd cc
by_body false o x p none = refl

there : (t : Bool) (x : KeptBody) (o : Option KeptBody) → option_map body_of_kept (cond t (Some x) o) ≡ cond t (Some (body_of_kept x)) (option_map body_of_kept o)
there true x o = refl
there false x o = refl

-- one more of them is back
pub back_more : (c : Block) (x : KeptBody) (rest before bodies now : List (Block × KeptBody)) → before ≡ (c, x) ∷ rest → held rest c ≡ None → now ≡ with_block c x bodies
    → (b : Block) → option_or (bodies_of rest b) (bodies_of now b) ≡ option_or (bodies_of before b) (bodies_of bodies b)
back_more c x rest before bodies now is alone made b =
    ap (λ (o : Option KeptBody). option_or (bodies_of rest b) (option_map body_of_kept o)) (ap (λ (es : List (Block × KeptBody)). held es b) made ∙ held_with c x bodies b)
    ∙ ap (option_or (bodies_of rest b)) (there (same_block b c) x (held bodies b))
    ∙ by_body (same_block b c) (held rest b) x (bodies_of bodies b) (λ e. ap (held rest) (same_block-is b c e) ∙ alone)
    ∙ ap (λ (es : List (Block × KeptBody)). option_or (bodies_of es b) (bodies_of bodies b)) (sym is)

-- ---- all of them

pub turned_all : (turn : Mark → Mark) (before : List (Block × KeptBody)) (marks now : List (Block × Mark)) → ((b : Block) → marks_of now b ≡ once_turned turn (held before b) (marks_of marks b))
    → marks_of now ≡ (λ b. cond (is_some (bodies_of before b)) (turn (marks_of marks b)) (marks_of marks b))
turned_all turn before marks now is = fun_ext (λ b. is b ∙ ap (λ (t : Bool). cond t (turn (marks_of marks b)) (marks_of marks b)) (sym (is_kept (held before b))))

pub back_all : (before bodies now : List (Block × KeptBody)) → ((b : Block) → bodies_of now b ≡ option_or (bodies_of before b) (bodies_of bodies b)) → bodies_of now ≡ (λ b. option_or (bodies_of before b) (bodies_of bodies b))
back_all before bodies now is = fun_ext (λ b. is b)

pub one_more : (n : ℕ) → n + 1 ≡ suc n
one_more n = omega arith
