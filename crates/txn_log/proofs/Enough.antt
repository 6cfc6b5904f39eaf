-- The pages that were counted are enough.
use Rattle.std.proofs.Common.{◌≡◌, subst, ℕ, ◌+◌, Bool, true, false, cond, List, [], ◌∷◌, ◌++◌, length, map, refl, sym, ap, ◌∙◌, arith}
use mathlib.Core.Path.{fun_ext}
use Rattle.std.specs.Prelude.{◌==◌}
use Rattle.std.proofs.lemmas.Bool.{ne_eqb}
use Rattle.store_pools.specs.disk_model.declared.block.Block.{Block}
use Rattle.store_pools.specs.disk_model.declared.block.Change.{Change}
use Rattle.store_pools.specs.disk_model.Sectors.{same_block, are_rivals}
use Rattle.store_pools.specs.log_model.declared.entry.Act.TheVariants.{Commit}
use Rattle.store_pools.specs.log_model.Entries.{act_size}
use Rattle.store_pools.specs.log_area.Areas.{LogAreaOf, free_pages}
use Rattle.store_pools.specs.txn_model.declared.mark.Mark.{Mark}
use Rattle.store_pools.specs.txn_model.Pieces.{log_with}
use Rattle.store_pools.specs.txn_model.Calls.{changed_mark, rival_mark}
use Rattle.txn_log.specs.Counts.{change_sizes, imaged_after, sizes_of, pages_of, pages_needed}
use Rattle.txn_log.specs.Laws.{HasRoom, IsLogged, acts_of, PagesAreEnough}
use Rattle.txn_log.proofs.Rooms.{Enough, enough}
use Rattle.txn_log.proofs.Fitting.{change_fits}

module _ (imaged : Block → Bool) (c : Change) (changes : List Change) where
  abbrev behind : List ℕ
  behind = sizes_of (imaged_after c.block imaged) changes

  -- the sizes of a change's updates, and those of the rest
  sizes_are : (before present : List ℕ) → IsLogged c before present → sizes_of imaged (c ∷ changes) ≡ map act_size (acts_of imaged c before present) ++ behind
  sizes_are before present k =
      ap (λ (t : Bool). cond t (sizes_of imaged changes) (change_sizes (imaged c.block) c ++ behind)) (ne_eqb (length c.new) 0 (λ e. absurd (let some = k.some in omega (arith, e))))
      ∙ ap (λ (ns : List ℕ). ns ++ behind) (sym (change_fits (imaged c.block) c before present k).1)

  module _ (a : LogAreaOf) (tx last : ℕ) (before present : List ℕ) (k : IsLogged c before present) (r : HasRoom a tx last (pages_needed a.free imaged (c ∷ changes))) where
    pub all : Enough a tx last (acts_of imaged c before present) behind
    all = enough a tx last (acts_of imaged c before present) behind (change_fits (imaged c.block) c before present k).0 (subst (λ (ns : List ℕ). HasRoom a tx last (pages_of a.free ns)) (sizes_are before present k) r)

    pub fallen : pages_of (log_with a tx last (acts_of imaged c before present)).free behind + free_pages a ≡ pages_needed a.free imaged (c ∷ changes) + free_pages (log_with a tx last (acts_of imaged c before present))
    fallen = all.falls ∙ sym (ap (λ (ns : List ℕ). pages_of a.free ns + free_pages (log_with a tx last (acts_of imaged c before present))) (sizes_are before present k))

marked : (same rival : Bool) (until : ℕ) (m : Mark) → (cond same (changed_mark until m) (cond rival (rival_mark until m) m)).imaged ≡ cond same true (cond rival false m.imaged)
marked true rival until m = refl
marked false true until m = refl
marked false false until m = refl

pub pages_are_enough : PagesAreEnough
pages_are_enough = record {
  ring = λ a k. record { some = k.some; few = k.few; above = k.above; below = k.below; order = let first = k.durable_pages in let second = k.written_pages in let third = k.sealed_pages in omega arith };
  change = λ a imaged c changes tx last before present k r. (all imaged c changes a tx last before present k r).may;
  rest = λ a imaged c changes tx last before present k r. (all imaged c changes a tx last before present k r).room;
  falls = λ a imaged c changes tx last before present k r. fallen imaged c changes a tx last before present k r;
  commit = λ a imaged tx last r. (enough a tx last (Commit ∷ []) [] (tt, tt) r).may;
  nothing = λ free imaged c changes none.
      ap (λ (t : Bool). pages_of free (cond t (sizes_of imaged changes) (change_sizes (imaged c.block) c ++ behind imaged c changes))) (ap (λ (ns : List ℕ). length ns == 0) none);
  marks = λ c until mark. fun_ext (λ b. marked (same_block b c) (are_rivals c b) until (mark b));
}
