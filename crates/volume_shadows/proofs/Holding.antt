-- Shadows that each say of another block say of a block what the first of them says.
use Rattle.std.proofs.Common.{◌≡◌, ℕ, Bool, true, false, cond, List, [], ◌∷◌, map, Option, Some, None, refl, ap, ◌∙◌}
use Rattle.std.specs.List.{AllByRecursion, IsDistinct}
use Rattle.disk_model.specs.declared.block.Block.{Block}
use Rattle.disk_model.specs.Sectors.{same_block}
use Rattle.disk_model.proofs.Frames.{same_block-is}
use Rattle.log_recovery.specs.declared.found.Shadow.{Shadow}
use Rattle.log_recovery.specs.Recovering.{shadow_block, held_lsn}
use Rattle.volume_shadows.specs.Least.{lesser}
use Rattle.volume_shadows.specs.Live.{least_lsn}

-- none of these says anything of the block
no_more : (b first : Block) (shadows : List Shadow) → same_block b first ≡ true → AllByRecursion (λ x. same_block first x ≡ false) (map shadow_block shadows) → least_lsn shadows b ≡ None
no_more b first [] same others = refl
no_more b first (s ∷ shadows) same others =
    ap (λ (x : Block). lesser (cond (same_block x s.block) (Some s.lsn) None) (least_lsn shadows b)) (same_block-is b first same)
    ∙ ap (λ (t : Bool). lesser (cond t (Some s.lsn) None) (least_lsn shadows b)) others.0
    ∙ no_more b first shadows same others.1

held_by : (b : Block) (s : Shadow) (shadows : List Shadow) (t : Bool) → (t ≡ true → least_lsn shadows b ≡ None) → least_lsn shadows b ≡ held_lsn shadows b
    → lesser (cond t (Some s.lsn) None) (least_lsn shadows b) ≡ cond t (Some s.lsn) (held_lsn shadows b)
held_by b s shadows true none rest = ap (λ (o : Option ℕ). lesser (Some s.lsn) o) (none refl)
held_by b s shadows false none rest = rest

pub least_held : (shadows : List Shadow) → IsDistinct same_block (map shadow_block shadows) → (b : Block) → least_lsn shadows b ≡ held_lsn shadows b
unfolding IsDistinct
least_held [] distinct b = refl
least_held (s ∷ shadows) distinct b = held_by b s shadows (same_block b s.block) (λ same. no_more b s.block shadows same distinct.0) (least_held shadows distinct.1 b)
