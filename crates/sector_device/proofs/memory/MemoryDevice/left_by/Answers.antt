use Rattle.std.proofs.Common.{List, ℕ, length, sym, ap, ◌∙◌, arith}
use Rattle.sector_device.proofs.Leaving.{image_since, image_now, lent_inside}
use Rattle.sector_device.proofs.memory.MemoryDevice.left_by.Goals as goal

pub leave-requires-clause-inside : goal.leave-requires-clause-inside
leave-requires-clause-inside c =
    lent_inside c.args.self.now.moment c.args.self.now.done.items c.deref-2.result.now c.args.self.now.bytes.items c.deref_mut.result.now c.deref-2.ensures.value (c.deref_mut.ensures.value ∙ c.in_ok-image.ensures.items ∙ c.deref.ensures.value) c.args.self.now.kept

pub returns-clause-since : goal.returns-clause-since
returns-clause-since c =
    image_since c.min-count.result c.in_ok-image.image.len c.args.self.now.done.items c.deref-2.result.now c.args.self.now.bytes.items c.in_ok-image.image.items c.deref_mut.result.now c.leave.new.image
    c.deref-2.ensures.value (c.in_ok-image.ensures.items ∙ c.deref.ensures.value) c.deref_mut.ensures.value (sym c.deref_mut.ensures.len ∙ ap (λ (l : List ℕ). length l) c.deref_mut.ensures.value) (omega (arith, c.leave.auto.image)) c.leave.ensures

pub returns-clause-now : goal.returns-clause-now
returns-clause-now c = λ all.
    let size = ap (λ l. length l) c.deref-2.ensures.value in
    image_now c.min-count.result c.in_ok-image.image.len c.args.self.now.done.items c.deref-2.result.now c.args.self.now.bytes.items c.in_ok-image.image.items c.deref_mut.result.now c.leave.new.image
    c.deref-2.ensures.value (c.in_ok-image.ensures.items ∙ c.deref.ensures.value) c.deref_mut.ensures.value (sym c.deref_mut.ensures.len ∙ ap (λ (l : List ℕ). length l) c.deref_mut.ensures.value) (omega (arith, c.leave.auto.image)) c.leave.ensures
    (omega (arith, all, size, c.deref-2.ensures.len, c.min-count.ensures, c.len-2.ensures))
