use Rattle.std.proofs.Common.{◌≡◌, ℕ, ◌*◌, ◌^◌, ◌<◌, not, rules, sym, ap, ◌∙◌}
use Rattle.std.specs.Map.{lookup}
use Rattle.std.specs.Ordering.{is_eq, nat_cmp}
use Rattle.block_pool.specs.Pools.{passes}
use Rattle.block_pool.proofs.Walks.{kept_pairs, kept_small}
use Rattle.block_pool.proofs.pool.Pool.drop_where.Goals as goal

pub returns : goal.returns
returns g c =
    kept_pairs _ _ c.other.inside.values.entries _ c.other.view_is _
    (λ k v b w f' call.
    let answer : b ≡ not (passes (g.P.Tests.told c.args.test.now) (lookup (λ m. is_eq (nat_cmp call.key.now m)) c.other.inside.values.entries)) = search rules in
    let left : call.left.now ≡ call.value.now = search rules in
    (answer ∙ ap (λ (n : ℕ). not (passes (g.P.Tests.told c.args.test.now) (lookup (λ m. is_eq (nat_cmp n m)) c.other.inside.values.entries))) call.shows.0, sym call.leaves ∙ left ∙ call.shows.1, search rules))
    c.self.inside.values.entries c.retain.new.self.entries _ c.retain.ensures.filtered c.self.view_is

pub invariant_of-self : goal.invariant_of-self
invariant_of-self g c =
    kept_small _ _ c.other.inside.values.entries _ c.other.view_is (λ n. n < 3 * 2 ^ 64) _
    (λ k v b w f' call.
    let answer : b ≡ not (passes (g.P.Tests.told c.args.test.now) (lookup (λ m. is_eq (nat_cmp call.key.now m)) c.other.inside.values.entries)) = search rules in
    let left : call.left.now ≡ call.value.now = search rules in
    (answer ∙ ap (λ (n : ℕ). not (passes (g.P.Tests.told c.args.test.now) (lookup (λ m. is_eq (nat_cmp n m)) c.other.inside.values.entries))) call.shows.0, sym call.leaves ∙ left ∙ call.shows.1, search rules))
    c.self.inside.values.entries c.retain.new.self.entries c.retain.ensures.filtered c.self.invariant
