use Rattle.image_open.proofs.Stretches.{is_nearer, next_alike}
use Rattle.image_open.proofs.place.next_of_run.Goals as goal

pub returns-clause-alike : goal.returns-clause-alike
returns-clause-alike c =
    let first = is_nearer c.args.v c.args.next c.args.run.now.vcn c.nearer-begin.result c.requires.above c.nearer-begin.ensures.value in
    let second = is_nearer c.args.v c.nearer-begin.result c.saturating_add.result c.nearer.result first.above c.nearer.ensures.value in
    next_alike c.args.v c.args.next c.nearer-begin.result c.saturating_add.result c.nearer.result c.args.run.now c.requires.below c.saturating_add.ensures first second
