use Rattle.std.proofs.Common.{◌≡◌, ℕ, ◌*◌, ◌≤◌, false, length, ap, ◌∙◌, arith}
use Rattle.disk_model.specs.Bytes.{zeros}
use Rattle.disk_model.specs.Bodies.{BodyOf}
use Rattle.disk_model.specs.Sectors.{sectors}
use Rattle.disk_model.specs.declared.block.BlockKind.{BlockKind}
use Rattle.disk_model.specs.declared.block.BlockKind.TheVariants.{Plain, FileRec, Index}
use Rattle.disk_model.proofs.Frames.{length-written}
use Rattle.record_model.proofs.UnitBytes.{length-zeros}
use Rattle.volume_rows.proofs.pulls.SectorsView.body.Goals as goal

some_sector : (kind : BlockKind) → 1 ≤ sectors kind
some_sector Plain = omega arith
some_sector FileRec = omega arith
some_sector Index = omega arith

size_of : (b : BodyOf) (n count : ℕ) → b ≡ record { bytes = zeros n; torn = false } → n ≡ 512 * count → length b.bytes ≡ 512 * count
size_of b n count e is = ap (λ (x : BodyOf). length x.bytes) e ∙ length-zeros n ∙ is

pub put-requires : goal.put-requires
put-requires c =
    let size = size_of c.set_zeros.new.self (512 * c.sectors.result) (sectors c.args.block.kind) c.set_zeros.ensures (omega (arith, c.sectors.ensures)) in
    omega (arith, size, some_sector c.args.block.kind)

pub returns-then-block-eq16-clause-size : goal.returns-then-block-eq16-clause-size
returns-then-block-eq16-clause-size c =
    let size = size_of c.set_zeros.new.self (512 * c.sectors.result) (sectors c.args.block.kind) c.set_zeros.ensures (omega (arith, c.sectors.ensures)) in
    ap (λ (x : BodyOf). length x.bytes) c.put.ensures ∙ length-written 0 _ c.set_zeros.new.self.bytes ∙ size

pub returns-else-block-eq16-clause-size : goal.returns-else-block-eq16-clause-size
returns-else-block-eq16-clause-size c = size_of c.set_zeros.new.self (512 * c.sectors.result) (sectors c.args.block.kind) c.set_zeros.ensures (omega (arith, c.sectors.ensures))
