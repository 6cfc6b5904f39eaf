use Rattle.std.proofs.Common.{◌≡◌, not}
use Rattle.std.specs.Prelude.{count_by}
use Rattle.draft_bitmaps.specs.state_model.declared.stream.Stream.TheVariants.{Placed}
use Rattle.draft_growth.specs.Growing.{wanted_for}
use Rattle.draft_growth.proofs.Space.{spaced_as}
use Rattle.draft_growth.proofs.longer.wider.Goals as goal

pub returns-clause-space : goal.returns-clause-space
returns-clause-space g c =
    let asked : c.saturating_sub-wanted.result ≡ wanted_for c.args.per c.args.size (Placed c.args.extents.now) = cc in
    spaced_as c.grow.result _ c.saturating_sub-wanted.result (count_by not (g.B.FreeBits.bits c.args.bits.now)) asked c.grow.ensures.short c.grow.ensures.enough
