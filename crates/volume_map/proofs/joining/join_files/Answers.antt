use Rattle.std.proofs.Common.{◌∙◌, sym, ap, arith, Option}
use Rattle.record_model.specs.Records.{Record}
use Rattle.state_model.specs.Files.{only_base}
use Rattle.volume_map.specs.Lists.{joined_with}
use Rattle.volume_map.proofs.Joins.{none_joined, joins}
use Rattle.volume_map.proofs.joining.join_files.Goals as goal

pub loop-number-init : goal.loop-number-init
loop-number-init c = none_joined c.args.records.now c.args.extras.now

pub loop-number-preserved : goal.loop-number-preserved
loop-number-preserved c =
    joins c.args.records.now c.args.extras.now c.loop-number.number c.loop-number.records c.index-records-number.result c.join_one.new.file c.index-extras-number.result (omega arith) (omega (arith, c.requires)) c.loop-number.invariant
    c.index-records-number.is c.index-extras-number.is (c.in_ok-join_one.ensures ∙ ap (λ (o : Option Record). joined_with c.index-extras-number.result (only_base o)) (sym c.index-records-number.is))
