use Rattle.std.proofs.Common.{◌≡◌, ◌*◌, ◌^◌, ◌<◌, rules, sym, ap, ◌∙◌}
use Rattle.block_pool.proofs.Walks.{turned_pairs, turned_small}
use Rattle.block_pool.proofs.pool.Pool.turn_all.Goals as goal

pub returns : goal.returns
returns g c =
    turned_pairs _ _ _
    (λ k v b w f' call.
    let left : call.left.now ≡ g.F.Turns.turned c.args.change.now call.value.now = search rules in
    (search rules, sym call.leaves ∙ left ∙ ap (g.F.Turns.turned c.args.change.now) call.shows.1, search rules))
    c.self.inside.values.entries c.retain.new.self.entries _ c.retain.ensures.filtered c.self.view_is

pub invariant_of-self : goal.invariant_of-self
invariant_of-self g c =
    turned_small _ (λ n. n < 3 * 2 ^ 64) _ _
    (λ k v b w f' call.
    let left : call.left.now ≡ g.F.Turns.turned c.args.change.now call.value.now = search rules in
    (search rules, sym call.leaves ∙ left ∙ ap (g.F.Turns.turned c.args.change.now) call.shows.1, search rules))
    c.self.inside.values.entries c.retain.new.self.entries c.retain.ensures.filtered c.self.invariant
