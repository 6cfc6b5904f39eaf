use Rattle.std.proofs.Common.{sym, ◌∙◌, arith}
use Rattle.state_model.specs.record_model.declared.attribute.Attr.{Attr}
use Rattle.volume_shadows.specs.Least.{least_of}
use Rattle.volume_shadows.specs.Live.{attr_blocks, least_lsn}
use Rattle.volume_shadows.proofs.Leasts.{least_step, least_end, least_again, least_flat}
use Rattle.volume_shadows.proofs.finding.least_in_attrs.Goals as goal

pub loop-attr-preserved : goal.loop-attr-preserved
loop-attr-preserved c = record {
  left = least_step (λ (a : Attr). least_of (least_lsn c.args.sorted.now) (attr_blocks c.args.per c.args.number c.args.attrs.now a)) c.args.attrs.now c.loop-attr.attr-index c.attr-item.result c.loop-attr.least c.in_ok-now.now _
      c.loop-attr-test.true c.attr-item.is c.in_ok-now.ensures c.loop-attr.invariant.left;
  before = least_again c.loop-attr.least _ c.in_ok-now.now c.in_ok-now.ensures;
}

pub returns : goal.returns
returns c =
    least_end (λ (a : Attr). least_of (least_lsn c.args.sorted.now) (attr_blocks c.args.per c.args.number c.args.attrs.now a)) c.args.attrs.now c.loop-attr.attr-index c.loop-attr.least _
    (omega (arith, c.loop-attr-test.false)) c.loop-attr.invariant.left
    ∙ sym (least_flat (least_lsn c.args.sorted.now) (attr_blocks c.args.per c.args.number c.args.attrs.now) c.args.attrs.now)
