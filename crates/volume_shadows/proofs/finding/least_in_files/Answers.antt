use Rattle.std.proofs.Common.{Option, ℕ, ap, ◌∙◌, arith}
use Rattle.state_model.specs.Files.{file_at}
use Rattle.state_model.specs.Loads.{table_in}
use Rattle.volume_shadows.specs.Least.{lesser, least_of}
use Rattle.volume_shadows.specs.Live.{file_blocks, least_lsn}
use Rattle.volume_shadows.proofs.Leasts.{range_step, range_end}
use Rattle.volume_shadows.proofs.finding.least_in_files.Goals as goal

pub loop-number-preserved : goal.loop-number-preserved
loop-number-preserved c =
    range_step (λ (n : ℕ). least_of (least_lsn c.args.sorted.now) (file_blocks c.args.per n (file_at (table_in c.args.files.now) n))) c.loop-number.number c.args.count c.loop-number.least c.lesser-least.result _
    c.loop-number-test.true (c.lesser-least.ensures ∙ ap (λ (o : Option ℕ). lesser c.loop-number.least o) c.in_ok-more.ensures) c.loop-number.invariant

pub returns : goal.returns
returns c =
    range_end (λ (n : ℕ). least_of (least_lsn c.args.sorted.now) (file_blocks c.args.per n (file_at (table_in c.args.files.now) n))) c.loop-number.number c.args.count c.loop-number.least _
    (omega (arith, c.loop-number-test.false)) c.loop-number.invariant
