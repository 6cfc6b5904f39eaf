use Rattle.std.proofs.Common.{◌≡◌, ℕ, Bool, true, false, List, refl, sym, arith}
use Rattle.plan_draft.specs.declared.touched.Touched.{Touched}
use Rattle.plan_draft.specs.Touching.{touch_again, again_at}
use Rattle.plan_draft.proofs.Puts.{again_set}
use Rattle.plan_draft.proofs.putting.touch_again.Goals as goal

is_fresh : (t : Touched) (fresh : Bool) (bytes : List ℕ) → fresh ≡ true → record { block = t.block; old = t.old; torn = t.torn; fresh = true; new = bytes } ≡ touch_again t fresh bytes
is_fresh t fresh bytes is = rw is refl

stays : (t : Touched) (fresh : Bool) (bytes : List ℕ) → fresh ≡ false → record { block = t.block; old = t.old; torn = t.torn; fresh = t.fresh; new = bytes } ≡ touch_again t fresh bytes
stays t fresh bytes is = rw is refl

pub returns-then-fresh : goal.returns-then-fresh
returns-then-fresh c = again_set c.args.touched.now.items c.args.at c.args.fresh c.args.new c.index_mut-item.result.now _ (omega arith) c.index_mut-item.ensures.value (is_fresh c.index_mut-item.result.now c.args.fresh c.args.new c.if-fresh.true)

pub returns-else-fresh : goal.returns-else-fresh
returns-else-fresh c = again_set c.args.touched.now.items c.args.at c.args.fresh c.args.new c.index_mut-item.result.now _ (omega arith) c.index_mut-item.ensures.value (stays c.index_mut-item.result.now c.args.fresh c.args.new c.if-fresh.false)
