use Rattle.std.proofs.Common.{rules, ◌≡◌, ◌+◌, ◌∷◌, length, drop, refl, ◌∙◌}
use Rattle.tree_lookup.proofs.Ways.{starts, names_start, next_part, over, names_behind, leads_known, ends_known, stands_known}
use Rattle.tree_lookup.proofs.walking.reached.Goals as goal

pub loop-at-init : goal.loop-at-init
loop-at-init g c = record {
  leads = starts (g.L.Lookup.tree c.args.tree.now) (g.L.Lookup.upper c.args.tree.now) c.args.path.now;
  names = names_start c.args.path.now c.requires.names;
  same = refl;
  table = refl;
  stays = refl;
  counted = refl;
}

pub returns-in-Err-clause-value : goal.returns-in-Err-clause-value
returns-in-Err-clause-value g c =
    let next : drop c.loop-at.at c.args.path.now ≡ c.as_slice.result.now ∷ drop (c.loop-at.at + 1) c.args.path.now = next_part c.args.path.now c.loop-at.at c.as_slice.result.now (search rules) (search rules) in
    ends_known (g.L.Lookup.tree c.args.tree.now) (g.L.Lookup.upper c.args.tree.now) c.args.path.now c.loop-at.at c.loop-at.number c.in-Err.reply c.as_slice.result.now next c.loop-at.invariant.leads
    (rw c.loop-at.invariant.same at (rw c.loop-at.invariant.table at (rw c.in-Err.is at c.in_ok-child.ensures.value)))

pub loop-at-preserved : goal.loop-at-preserved
loop-at-preserved g c =
    let next : drop c.loop-at.at c.args.path.now ≡ c.as_slice.result.now ∷ drop (c.loop-at.at + 1) c.args.path.now = next_part c.args.path.now c.loop-at.at c.as_slice.result.now (search rules) (search rules) in
    record {
      leads = leads_known (g.L.Lookup.tree c.args.tree.now) (g.L.Lookup.upper c.args.tree.now) c.args.path.now c.loop-at.at c.loop-at.number c.in-Ok.child c.as_slice.result.now next c.loop-at.invariant.leads
          (rw c.loop-at.invariant.same at (rw c.loop-at.invariant.table at (rw c.in-Ok.is at c.in_ok-child.ensures.value)));
      names = names_behind c.args.path.now c.loop-at.at c.as_slice.result.now next c.loop-at.invariant.names;
      same = c.in_ok-child.ensures.asks.same ∙ c.loop-at.invariant.same;
      table = c.in_ok-child.ensures.asks.table ∙ c.loop-at.invariant.table;
      stays = c.in_ok-child.ensures.asks.stays ∙ c.loop-at.invariant.stays;
      counted = c.in_ok-child.ensures.asks.counted ∙ c.loop-at.invariant.counted;
    }

pub returns-clause-value : goal.returns-clause-value
returns-clause-value g c =
    stands_known (g.L.Lookup.tree c.args.tree.now) (g.L.Lookup.upper c.args.tree.now) c.args.path.now (length c.args.path.now) c.loop-at.number c.last_node.result (over c.args.path.now) (search rules)
    (rw c.loop-at.invariant.same at c.last_node.ensures.value)
