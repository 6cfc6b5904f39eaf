use Rattle.std.proofs.Common.{arith}
use Rattle.log_area.proofs.Shapes.{made_shape}
use Rattle.log_area.proofs.page.RingPage.write.Goals as goal

pub protect-requires-clause-shape : goal.protect-requires-clause-shape
protect-requires-clause-shape c = made_shape c.self.inside.last c.self.inside.free c.copy_from_slice.new.self c.seal_page.new.page (omega (arith, c.copy_from_slice.ensures.len, c.requires, c.self.invariant.size)) c.seal_page.ensures.sealed
