-- The bodies and the marks of pools, by blocks.
use Rattle.std.proofs.Common.{◌≡◌, Bool, true, false, cond, List, Option, Some, None, refl, ap, ◌∙◌}
use Rattle.std.specs.Prelude.{is_some, unwrap_or}
use Rattle.std.specs.Option.{option_map}
use Rattle.txn_model.specs.disk_model.declared.block.Block.{Block}
use Rattle.txn_model.specs.disk_model.Sectors.{same_block}
use Rattle.txn_model.specs.block_pool.Pools.{held, with_block, without_block}
use Rattle.txn_model.proofs.block_pool.LookUps.{looks_up}
use Rattle.txn_model.specs.declared.mark.Mark.{Mark}
use Rattle.txn_model.specs.Values.{no_mark}
use Rattle.store_pools.specs.declared.kept.KeptBody.{KeptBody}
use Rattle.store_pools.specs.Pools.{body_of_kept, bodies_of, marks_of}

module _ {X : Type 0} where
  pub held_with : (c : Block) (x : X) (es : List (Block × X)) (b : Block) → held (with_block c x es) b ≡ cond (same_block b c) (Some x) (held es b)
  held_with c x es b = ap (λ (f : Block → Option X). f b) ((looks_up X).with c x es)

  pub held_without : (c : Block) (es : List (Block × X)) (b : Block) → held (without_block c es) b ≡ cond (same_block b c) None (held es b)
  held_without c es b = ap (λ (f : Block → Option X). f b) ((looks_up X).without c es)

unwrapped : (t : Bool) (m : Mark) (o : Option Mark) → unwrap_or (cond t (Some m) o) no_mark ≡ cond t m (unwrap_or o no_mark)
unwrapped true m o = refl
unwrapped false m o = refl

pub marks_with : (c : Block) (m : Mark) (es : List (Block × Mark)) (b : Block) → marks_of (with_block c m es) b ≡ cond (same_block b c) m (marks_of es b)
marks_with c m es b = ap (λ (o : Option Mark). unwrap_or o no_mark) (held_with c m es b) ∙ unwrapped (same_block b c) m (held es b)

pub is_kept : (o : Option KeptBody) → is_some (option_map body_of_kept o) ≡ is_some o
is_kept (Some k) = refl
is_kept None = refl
