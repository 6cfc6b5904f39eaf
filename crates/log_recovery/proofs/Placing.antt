-- Blocks as keys, and the places that a map has of them.
use Rattle.std.proofs.Common.{◌≡◌, ℕ, zero, suc, ◌+◌, ◌-◌, ◌<◌, Bool, true, false, not, cond, ◌&&◌, ◌||◌, List, [], ◌∷◌, length, drop, get_or, Option, Some, refl, sym, ap, ◌∙◌, arith}
use Rattle.std.specs.Prelude.{if◌then◌else◌, ◌==◌, option_map}
use Rattle.std.specs.List.{slice_get}
use Rattle.std.specs.declared.cmp.Ordering.{Ordering}
use Rattle.std.specs.declared.cmp.Ordering.TheVariants.{Less, Equal, Greater}
use Rattle.std.specs.Ordering.{is_eq, eq_by_cmp, nat_cmp, ordering_then}
use Rattle.std.proofs.Math.Seq.{drop-cons}
use Rattle.log_reading.specs.disk_model.declared.block.Block.{Block}
use Rattle.log_reading.specs.disk_model.declared.block.BlockKind.{BlockKind}
use Rattle.log_reading.specs.disk_model.declared.block.BlockKind.TheVariants.{Plain, FileRec, Index}
use Rattle.log_reading.specs.disk_model.Bodies.{BodyOf}
use Rattle.log_reading.specs.disk_model.Sectors.{same_block, same_kind}
use Rattle.log_recovery.specs.declared.found.RecoveredBlock.{RecoveredBlock}
use Rattle.log_recovery.specs.Recovering.{held_body}
use Rattle.log_recovery.specs.Places.{kind_number, key_of, key_order, place_from, body_at}
use Rattle.log_recovery.proofs.Walking.{number_equal}
use Rattle.log_recovery.proofs.Steps.{same_block-swap}

then_equal : (o p : Ordering) → is_eq (ordering_then o p) ≡ (is_eq o && is_eq p)
then_equal Less p = refl
then_equal Equal p = refl
then_equal Greater p = refl

kind_equal : (k l : BlockKind) → (kind_number k == kind_number l) ≡ same_kind k l
kind_equal Plain Plain = refl
kind_equal Plain FileRec = refl
kind_equal Plain Index = refl
kind_equal FileRec Plain = refl
kind_equal FileRec FileRec = refl
kind_equal FileRec Index = refl
kind_equal Index Plain = refl
kind_equal Index FileRec = refl
kind_equal Index Index = refl

key_equal : (a b : Block) → eq_by_cmp key_order (key_of a) (key_of b) ≡ same_block a b
key_equal a b =
    then_equal (nat_cmp a.first b.first) (nat_cmp (kind_number a.kind) (kind_number b.kind))
    ∙ ap (λ (t : Bool). t && is_eq (nat_cmp (kind_number a.kind) (kind_number b.kind))) (number_equal a.first b.first)
    ∙ ap (λ (t : Bool). (a.first == b.first) && t) (number_equal (kind_number a.kind) (kind_number b.kind) ∙ kind_equal a.kind b.kind)

-- after a block is put
pub put_at : (block b : Block) (old now : Option ℕ) (place : ℕ) → now ≡ cond (eq_by_cmp key_order (key_of block) (key_of b)) (Some place) old → now ≡ (if same_block b block then Some place else old)
put_at block b old now place made = made ∙ ap (λ (t : Bool). cond t (Some place) old) (key_equal block b ∙ same_block-swap block b)

-- after a block is met
pub met_at : (block b : Block) (old now : Bool) → now ≡ cond (eq_by_cmp key_order (key_of block) (key_of b)) true old → now ≡ (old || same_block b block)
met_at block b old now made = made ∙ ap (λ (t : Bool). cond t true old) (key_equal block b ∙ same_block-swap block b) ∙ swap (same_block b block) old
  where
    swap : (t o : Bool) → cond t true o ≡ (o || t)
    swap true true = refl
    swap true false = refl
    swap false true = refl
    swap false false = refl

-- a block that was met before, and one that wasn't
pub met_again : (first met updated : Bool) → first ≡ not met → met ≡ updated → first ≡ false → updated ≡ true
met_again first met updated is same again = sym same ∙ turn met (sym is ∙ again)
  where
    turn : (t : Bool) → not t ≡ false → t ≡ true
    turn true e = refl
    turn false e = absurd cc

pub met_first : (first met updated : Bool) → first ≡ not met → met ≡ updated → first ≡ true → updated ≡ false
met_first first met updated is same new = sym same ∙ turn met (sym is ∙ new)
  where
    turn : (t : Bool) → not t ≡ true → t ≡ false
    turn true e = absurd cc
    turn false e = refl

-- one more from the end
pub place_more : (bodies : List RecoveredBlock) (done i : ℕ) (r : RecoveredBlock) (b : Block) (old now : Option ℕ) → length bodies ≡ i + done + 1 → r ≡ get_or bodies i r → now ≡ (if same_block b r.block then Some i else old)
    → old ≡ place_from (length bodies - done) (drop (length bodies - done) bodies) b → now ≡ place_from (length bodies - (done + 1)) (drop (length bodies - (done + 1)) bodies) b
place_more bodies done i r b old now size is made so_far =
    let here : length bodies - done ≡ i + 1 = omega arith in
    let next : length bodies - (done + 1) ≡ i = omega arith in
    let lt : i < length bodies = omega arith in
    let more : suc i ≡ i + 1 = omega arith in
    let rest : drop i bodies ≡ r ∷ drop (i + 1) bodies = drop-cons bodies i r lt ∙ ap (λ (x : RecoveredBlock). x ∷ drop (suc i) bodies) (sym is) ∙ ap (λ (k : ℕ). r ∷ drop k bodies) more in
    made ∙ ap (λ (o : Option ℕ). if same_block b r.block then Some i else o) (so_far ∙ ap (λ (k : ℕ). place_from k (drop k bodies) b) here)
    ∙ sym (ap (λ (rs : List RecoveredBlock). place_from i rs b) rest) ∙ sym (ap (λ (k : ℕ). place_from k (drop k bodies) b) next)

-- what stands at the front of the rest
front_of_rest : (xs rs : List RecoveredBlock) (r : RecoveredBlock) (i : ℕ) → drop i xs ≡ r ∷ rs → (slice_get xs i ≡ Some r) × (drop (i + 1) xs ≡ rs)
front_of_rest [] rs r zero e = absurd cc
front_of_rest [] rs r (suc i) e = absurd cc
front_of_rest (x ∷ xs) rs r zero e = let a : x ≡ r = cc in let b : xs ≡ rs = cc in (ap (λ (y : RecoveredBlock). Some y) a, b)
front_of_rest (x ∷ xs) rs r (suc i) e =
    let parts = front_of_rest xs rs r i e in
    let next : suc i + 1 ≡ suc (i + 1) = omega arith in
    (parts.0, ap (λ (k : ℕ). drop k (x ∷ xs)) next ∙ parts.1)

by_test : (t : Bool) (x : BodyOf) (o : Option BodyOf) (p : Option ℕ) (i : ℕ) (bodies : List RecoveredBlock) → body_at bodies (Some i) ≡ Some x → body_at bodies p ≡ o → body_at bodies (if t then Some i else p) ≡ (if t then Some x else o)
by_test true x o p i bodies here rest = here
by_test false x o p i bodies here rest = rest

pub held_at : (bodies rs : List RecoveredBlock) (i : ℕ) (b : Block) → drop i bodies ≡ rs → body_at bodies (place_from i rs b) ≡ held_body rs b
held_at bodies [] i b e = refl
held_at bodies (r ∷ rs) i b e =
    let parts = front_of_rest bodies rs r i e in
    by_test (same_block b r.block) r.body (held_body rs b) (place_from (i + 1) rs b) i bodies (ap (option_map (λ (x : RecoveredBlock). x.body)) parts.0) (held_at bodies rs (i + 1) b parts.1)
