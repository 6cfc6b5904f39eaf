use Rattle.change_lookup.proofs.Coming.{refused_there, changed_there}
use Rattle.change_lookup.proofs.files.changed_there.Goals as goal

pub returns-in-Some-clause-value : goal.returns-in-Some-clause-value
returns-in-Some-clause-value g c =
    refused_there (g.C.Lookup.tree c.args.tree.now) c.in_ok-counts.counts c.room.result c.count.result c.args.op.now c.args.node c.in-Some.reply c.in_ok-counts.ensures c.in-Some.ensures.value c.requires.journal c.room.ensures

pub returns-in-None-clause-value : goal.returns-in-None-clause-value
returns-in-None-clause-value g c =
    changed_there (g.C.Lookup.tree c.args.tree.now) c.in_ok-counts.counts c.room.result c.count.result c.args.op.now c.args.node c.changes_file-changes.result c.in_ok-counts.ensures c.in-None.ensures.value c.changes_file-changes.ensures
    c.requires.journal c.room.ensures
