use Rattle.std.proofs.Common.{Some, sym, ap, ◌∙◌, subst}
use Rattle.state_model.specs.declared.stream.Stream.{Stream}
use Rattle.state_model.specs.declared.stream.Stream.TheVariants.{Held}
use Rattle.data_plan.specs.step_model.Streams.{wanted_size, used_key}
use Rattle.directory_growth.specs.Bitmap.{BitsAfter}
use Rattle.directory_growth.proofs.bitmap.bits_after.Goals as goal

pub returns-in-Held-clause-after : goal.returns-in-Held-clause-after
returns-in-Held-clause-after g c = λ n.
    subst (λ (s : Stream). BitsAfter (g.B.FreeBits.bits c.args.bits.now) (g.B.FreeBits.bits c.held_after.new.bits) c.args.beside c.args.file.now (Some s) (wanted_size (used_key n) (Some s) c.args.least) c.held_after.result) (ap Held c.as_slice.ensures ∙ sym c.in-Held.is) (c.held_after.ensures.after n)

pub returns-in-Placed-clause-after : goal.returns-in-Placed-clause-after
returns-in-Placed-clause-after g c = λ n.
    subst (λ (s : Stream). BitsAfter (g.B.FreeBits.bits c.args.bits.now) (g.B.FreeBits.bits c.placed_after.new.bits) c.args.beside c.args.file.now (Some s) (wanted_size (used_key n) (Some s) c.args.least) c.placed_after.result) (sym c.in-Placed.is) (c.placed_after.ensures.after n)
