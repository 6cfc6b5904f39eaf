use Rattle.std.proofs.Common.{refl, sym, ap, ◌∙◌}
use Rattle.disk_model.specs.declared.block.Body.{Body}
use Rattle.log_reading.proofs.Bytes.{all_initialised, rest_put}
use Rattle.log_reading.proofs.pages.clear_rest.Goals as goal

pub returns-then-valid-lt512-clause-value : goal.returns-then-valid-lt512-clause-value
returns-then-valid-lt512-clause-value c = ap (λ (b : Body). b.bytes) c.put.ensures ∙ rest_put c.args.valid _ c.args.body.now.bytes refl

pub returns-else-valid-lt512-clause-value : goal.returns-else-valid-lt512-clause-value
returns-else-valid-lt512-clause-value c = sym (all_initialised c.args.valid c.args.body.now.bytes c.if-valid-lt512.false)
