use Rattle.std.proofs.Common.{◌+◌, ◌-◌, ◌*◌, take, drop, refl, arith}
use Rattle.sector_device.specs.Sectors.{sectors_of}
use Rattle.sector_device.specs.WholeSectors.{length-sectors_of}
use Rattle.sector_device.proofs.Leaving.{write_begins, write_goes_on, write_ends}
use Rattle.sector_device.proofs.choosing.choose_of_write.Goals as goal

pub loop-j-init : goal.loop-j-init
loop-j-init c = record { fair = λ disk at calls fair. write_begins disk (sectors_of c.args.image.now) c.args.decided.now at c.args.first c.args.old.now calls fair }

pub decide-requires-clause-within : goal.decide-requires-clause-within
decide-requires-clause-within c =
    let count = length-sectors_of c.args.old.now in
    omega (arith, count, c.requires.within, c.loop-j-test.true, c.loop-j.auto.image)

pub loop-j-preserved : goal.loop-j-preserved
loop-j-preserved c = record {
  fair = λ disk at calls fair.
      write_goes_on disk (sectors_of c.loop-j.image) (sectors_of c.decide.new.image) c.loop-j.decided c.decide.new.decided at c.args.first c.loop-j.j c.args.old.now
      (take (512 * c.loop-j.j + 512 - 512 * c.loop-j.j) (drop (512 * c.loop-j.j) c.args.old.now)) calls (omega (arith, c.loop-j-test.true)) refl c.decide.ensures (c.loop-j.invariant.fair disk at calls fair);
}

pub returns : goal.returns
returns c = λ disk at calls fair.
    write_ends disk (sectors_of c.loop-j.image) c.loop-j.decided at c.args.first c.loop-j.j c.args.old.now calls (omega (arith, c.loop-j-test.false, c.loop-j.auto.j-end)) (c.loop-j.invariant.fair disk at calls fair)
