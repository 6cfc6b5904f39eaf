-- The order of blocks, by their numbers.
use Rattle.std.proofs.Common.{◌≡◌, ℕ, zero, suc, ◌+◌, ◌*◌, ◌%◌, ◌<◌, Bool, true, false, ◌&&◌, refl, sym, ap, subst, ◌∙◌, arith}
use Rattle.std.proofs.lemmas.Bool.Decides.{nat_tests}
use Rattle.std.specs.Prelude.{◌==◌}
use Rattle.std.specs.Ordering.{is_eq, nat_cmp}
use Rattle.std.specs.Cmp.{unsigned_tied}
use Rattle.disk_model.specs.declared.block.Block.{Block}
use Rattle.disk_model.specs.declared.block.BlockKind.{BlockKind}
use Rattle.disk_model.specs.declared.block.BlockKind.TheVariants.{Plain, FileRec, Index}
use Rattle.disk_model.specs.Sectors.{same_block, same_kind}
use Rattle.disk_model.proofs.Frames.{same_block-is}
use Rattle.block_pool.specs.Numbers.{kind_number, kind_at, block_number, block_at}
use Rattle.block_pool.specs.Pools.{block_order}

number_equal : (a b : ℕ) (k l : BlockKind) → ((3 * a + kind_number k) == (3 * b + kind_number l)) ≡ ((a == b) && same_kind k l)
number_equal a b Plain Plain = grind (arith, nat_tests)
number_equal a b Plain FileRec = grind (arith, nat_tests)
number_equal a b Plain Index = grind (arith, nat_tests)
number_equal a b FileRec Plain = grind (arith, nat_tests)
number_equal a b FileRec FileRec = grind (arith, nat_tests)
number_equal a b FileRec Index = grind (arith, nat_tests)
number_equal a b Index Plain = grind (arith, nat_tests)
number_equal a b Index FileRec = grind (arith, nat_tests)
number_equal a b Index Index = grind (arith, nat_tests)

-- two blocks stand at one place of the order exactly where they are the same
pub order_equal : (a b : Block) → is_eq (block_order a b) ≡ same_block a b
order_equal a b = unsigned_tied (block_number a) (block_number b) ∙ number_equal a.first b.first a.kind b.kind

kind_there : (n : ℕ) → n < 3 → kind_number (kind_at n) ≡ n
kind_there zero lt = refl
kind_there (suc zero) lt = refl
kind_there (suc (suc zero)) lt = refl
kind_there (suc (suc (suc n))) lt = absurd (omega arith)

-- the number of a number's block
pub number_at : (n : ℕ) → block_number (block_at n) ≡ n
number_at n = let small : n % 3 < 3 = omega arith in let kind = kind_there (n % 3) small in omega arith

-- and the block of a block's number
pub at_number : (b : Block) → block_at (block_number b) ≡ b
at_number b = same_block-is (block_at (block_number b)) b (sym (order_equal (block_at (block_number b)) b) ∙ ap (λ (n : ℕ). is_eq (nat_cmp n (block_number b))) (number_at (block_number b)) ∙ unsigned_tied (block_number b) (block_number b) ∙ grind (arith, nat_tests))

pub same_block-swap : (a b : Block) → same_block a b ≡ same_block b a
same_block-swap a b = by_cases (same_block a b) (same_block b a) refl refl
  where
    turned : (c d : Block) → same_block c d ≡ true → same_block d c ≡ true
    turned c d e = let same : c ≡ d = same_block-is c d e in subst (λ (x : Block). same_block x c ≡ true) same (subst (λ (x : Block). same_block c x ≡ true) (sym same) e)

    by_cases : (s t : Bool) → same_block a b ≡ s → same_block b a ≡ t → s ≡ t
    by_cases true true p q = refl
    by_cases true false p q = sym (sym q ∙ turned a b p)
    by_cases false true p q = sym p ∙ turned b a q
    by_cases false false p q = refl
