use Rattle.std.proofs.Common.{◌≡◌, take}
use Rattle.data_plan.specs.draft_records.Records.{with_normal}
use Rattle.made_data.proofs.putting.push_all_normal.Given as goal

abbrev pub invariant-loop-attr : goal.invariant-loop-attr
invariant-loop-attr l = l.to ≡ with_normal l.initial.to (take l.attr-index l.attrs)
