use Rattle.std.proofs.Common.{ℕ, List, ◌*◌, length, take, drop, ◌++◌, refl, sym, ap, ◌∙◌, arith}
use Rattle.disk_model.proofs.Frames.{length-written}
use Rattle.sector_device.specs.Sectors.{sectors_of}
use Rattle.sector_device.proofs.SectorParts.{bytes_after, written_in_sectors}
use Rattle.sector_device.proofs.KeptCalls.{lay_kept, lay_inside, kept_part}
use Rattle.sector_device.proofs.memory.MemoryDevice.lay.Goals as goal

pub returns-clause-ok : goal.returns-clause-ok
returns-clause-ok c =
    lay_kept c.args.self.now.writes c.args.self.now.syncs c.args.at c.args.first c.args.self.now.bytes.items c.args.bytes.now
    (take c.args.self.now.bytes.len (c.write_over.new.bytes ++ drop (length c.write_over.new.bytes) c.args.self.now.bytes.items))
    c.in_ok-old.old c.args.self.now.done.items c.push.new.self.items c.requires.whole c.requires.within
    (kept_part c.args.first (length c.args.bytes.now) c.in_ok-old.old c.deref.result.now c.args.self.now.bytes.items c.in_ok-old.ensures c.deref.ensures.value)
    (bytes_after c.args.self.now.bytes.len (512 * c.args.first) c.write_over.new.bytes c.deref_mut.result.now c.args.self.now.bytes.items c.args.self.now.bytes.items c.args.bytes.now c.write_over.ensures c.deref_mut.ensures.value (sym c.deref_mut.ensures.len ∙ ap (λ (l : List ℕ). length l) c.deref_mut.ensures.value) refl)
    c.in_ok-push.ensures.items

pub returns-clause-written : goal.returns-clause-written
returns-clause-written c =
    ap (λ (l : List ℕ). sectors_of l) (bytes_after c.args.self.now.bytes.len (512 * c.args.first) c.write_over.new.bytes c.deref_mut.result.now c.args.self.now.bytes.items c.args.self.now.bytes.items c.args.bytes.now c.write_over.ensures c.deref_mut.ensures.value (sym c.deref_mut.ensures.len ∙ ap (λ (l : List ℕ). length l) c.deref_mut.ensures.value) refl)
    ∙ sym (written_in_sectors c.args.self.now.bytes.items c.args.bytes.now c.args.first c.requires.whole (omega (arith, c.requires.within)))

pub invariant_of-self-2-clause-kept : goal.invariant_of-self-2-clause-kept
invariant_of-self-2-clause-kept c =
    lay_inside c.args.self.now.moment c.args.at c.args.first c.args.self.now.bytes.items c.args.bytes.now
    (take c.args.self.now.bytes.len (c.write_over.new.bytes ++ drop (length c.write_over.new.bytes) c.args.self.now.bytes.items))
    c.in_ok-old.old c.args.self.now.done.items c.push.new.self.items c.requires.over c.requires.within
    (kept_part c.args.first (length c.args.bytes.now) c.in_ok-old.old c.deref.result.now c.args.self.now.bytes.items c.in_ok-old.ensures c.deref.ensures.value)
    (bytes_after c.args.self.now.bytes.len (512 * c.args.first) c.write_over.new.bytes c.deref_mut.result.now c.args.self.now.bytes.items c.args.self.now.bytes.items c.args.bytes.now c.write_over.ensures c.deref_mut.ensures.value (sym c.deref_mut.ensures.len ∙ ap (λ (l : List ℕ). length l) c.deref_mut.ensures.value) refl)
    c.in_ok-push.ensures.items c.args.self.now.kept

pub invariant_of-self-2-clause-few : goal.invariant_of-self-2-clause-few
invariant_of-self-2-clause-few c =
    let e = (bytes_after c.args.self.now.bytes.len (512 * c.args.first) c.write_over.new.bytes c.deref_mut.result.now c.args.self.now.bytes.items c.args.self.now.bytes.items c.args.bytes.now c.write_over.ensures c.deref_mut.ensures.value (sym c.deref_mut.ensures.len ∙ ap (λ (l : List ℕ). length l) c.deref_mut.ensures.value) refl) in
    omega (arith, ap (λ (l : List ℕ). length l) e, length-written (512 * c.args.first) c.args.bytes.now c.args.self.now.bytes.items, c.args.self.now.few)
