use Rattle.std.proofs.Common.{sym, ◌∙◌}
use Rattle.record_model.specs.Nodes.{most_entries}
use Rattle.index_node.proofs.Walking.{starts, ends_at_last, ends_short, ends_faulty, ends_full, goes_on}
use Rattle.index_node.proofs.walk.entries_at.Goals as goal

pub loop-init : goal.loop-init
loop-init c = rw c.new-found.ensures (starts c.args.flag c.args.bytes.now)

pub returns-in-Last : goal.returns-in-Last
returns-in-Last c =
    rw (sym c.loop.invariant ∙ ends_at_last c.args.flag (most_entries c.args.bytes.now) c.loop.counter c.loop.rest.now c.loop.found c.in-Last.length c.loop-test.true (sym c.in_ok-length.ensures ∙ c.in-Last.is), ← c.split_at-in-Last.ensures.front, ← c.in_ok-add-in-Last.ensures)
    c.verdict.ensures

pub returns-in-Short : goal.returns-in-Short
returns-in-Short c = sym c.loop.invariant ∙ ends_short c.args.flag (most_entries c.args.bytes.now) c.loop.counter c.loop.rest.now c.loop.found c.loop-test.true (sym c.in_ok-length.ensures ∙ c.in-Short.is)

pub returns-in-Faulty : goal.returns-in-Faulty
returns-in-Faulty c = sym c.loop.invariant ∙ ends_faulty c.args.flag (most_entries c.args.bytes.now) c.loop.counter c.loop.rest.now c.loop.found c.loop-test.true (sym c.in_ok-length.ensures ∙ c.in-Faulty.is)

pub loop-preserved : goal.loop-preserved
loop-preserved c =
    rw (c.in_ok-add-in-Inner.ensures, c.split_at.ensures.front, c.split_at.ensures.back)
    (sym (goes_on c.args.flag (most_entries c.args.bytes.now) c.loop.counter c.loop.rest.now c.loop.found c.in-Inner.length c.loop-test.true (sym c.in_ok-length.ensures ∙ c.in-Inner.is)) ∙ c.loop.invariant)

pub returns : goal.returns
returns c = sym c.loop.invariant ∙ ends_full c.args.flag (most_entries c.args.bytes.now) c.loop.counter c.loop.rest.now c.loop.found c.loop-test.false
