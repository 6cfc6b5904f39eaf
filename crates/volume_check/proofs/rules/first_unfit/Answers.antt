use Rattle.std.proofs.Common.{sym, ◌∙◌}
use Rattle.volume_tree.specs.volume_map.Maps.{volume_in}
use Rattle.volume_check.proofs.Steps.{in_place}
use Rattle.volume_check.proofs.rules.first_unfit.Goals as goal

pub returns-clause-value : goal.returns-clause-value
returns-clause-value g c =
    in_place _ (volume_in c.args.map.now) c.in_ok-number.number (sym c.keeps_place.ensures ∙ c.if-not-keeps_place.false)
    (rw c.deref.ensures.value at (c.in_ok-number.ensures.value (record { mft = c.args.map.now.mft; table = c.args.map.now.table })))
