use Rattle.std.proofs.Common.{sym}
use Rattle.change_lookup.proofs.Coming.{system_known, fixed_known, name_known}
use Rattle.change_lookup.proofs.places.name_refusal.Goals as goal

pub returns-then-system-clause-value : goal.returns-then-system-clause-value
returns-then-system-clause-value g c = system_known (g.C.Lookup.tree c.args.tree.now) (g.C.Lookup.upper c.args.tree.now) c.args.directory.now c.args.name.now c.requires.kind (rw c.if-system.true at c.in_ok-system.ensures.value)

pub returns-in-Some-clause-value : goal.returns-in-Some-clause-value
returns-in-Some-clause-value g c = fixed_known (g.C.Lookup.tree c.args.tree.now) (g.C.Lookup.upper c.args.tree.now) c.args.directory.now c.args.name.now c.in-Some.reply (sym c.in-Some.ensures.value) c.requires.kind (rw c.if-system.false at c.in_ok-system.ensures.value)

pub returns-in-None-clause-value : goal.returns-in-None-clause-value
returns-in-None-clause-value g c =
    name_known (g.C.Lookup.tree c.args.tree.now) (g.C.Lookup.upper c.args.tree.now) c.args.directory.now c.args.name.now c.taken_row.result (sym c.in-None.ensures.value) c.requires.kind (rw c.if-system.false at c.in_ok-system.ensures.value)
    (rw c.in_ok-system.ensures.asks.same at (rw c.in_ok-system.ensures.asks.table at c.taken_row.ensures.value))
