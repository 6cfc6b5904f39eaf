use Rattle.std.proofs.Common.{ℕ, ◌*◌, ◌^◌, ◌<◌, ◌≡◌, true, List, sym, subst, ◌∙◌, arith}
use Rattle.std.specs.Prelude.{All}
use Rattle.std.specs.Ordering.{nat_cmp}
use Rattle.std.specs.BTreeMap.Range.{IsEntryInRange}
use Rattle.std.specs.declared.ops.Bound.TheVariants.{Included, Unbounded}
use Rattle.disk_model.specs.declared.block.Block.{Block}
use Rattle.block_pool.specs.Numbers.{block_number}
use Rattle.block_pool.specs.Pools.{IsNextFrom, NoneFrom}
use Rattle.block_pool.proofs.Ordering.{number_at}
use Rattle.block_pool.proofs.Ranges.{is_from, all_in, all_left, passed_by, least_passed, none_passed, first_known, known_small, none_from, next_from}
use Rattle.block_pool.proofs.pool.Pool.next_where.Goals as goal

pub loop-found-init : goal.loop-found-init
loop-found-init g c =
    let n = c.number_after-number.result in
    let same = c.into_iter-found-iterator.ensures.into_iter_gives in
    all_left (is_from n) c.self.inside.values.entries c.into_iter-found-iterator.result (same ∙ c.range-found-items.ensures.between tt)
    (g.P.Tests.told c.args.test.now) c.range-found-items.ensures.ordered
    (all_in n c.self.inside.values c.into_iter-found-iterator.result (subst (λ (r : List (ℕ × g.row.T.Denot)). All (IsEntryInRange nat_cmp (Included n) Unbounded c.self.inside.values) r) (sym same) (c.range-found-items.ensures.in_range tt).0))

pub block_at-requires : goal.block_at-requires
block_at-requires g c =
    record {
      small = known_small c.number_after-number.result c.self.inside.values.entries c.into_iter-found-iterator.result (c.into_iter-found-iterator.ensures.into_iter_gives ∙ c.range-found-items.ensures.between tt) c.args.self.now c.self.view_is
          c.in-Some.found.now c.in-Some.value.now
          (first_known (g.P.Tests.told c.args.test.now) c.into_iter-found-iterator.result c.loop-found.found-iterator c.next.new.self (c.in-Some.found.now, c.in-Some.value.now) c.in-Some.ensures.steps c.loop-found.invariant) c.self.invariant;
    }

pub returns-then-passes-clause-small : goal.returns-then-passes-clause-small
returns-then-passes-clause-small g c =
    let small = known_small c.number_after-number.result c.self.inside.values.entries c.into_iter-found-iterator.result (c.into_iter-found-iterator.ensures.into_iter_gives ∙ c.range-found-items.ensures.between tt) c.args.self.now c.self.view_is
    c.in-Some.found.now c.in-Some.value.now
    (first_known (g.P.Tests.told c.args.test.now) c.into_iter-found-iterator.result c.loop-found.found-iterator c.next.new.self (c.in-Some.found.now, c.in-Some.value.now) c.in-Some.ensures.steps c.loop-found.invariant) c.self.invariant in
    subst (λ (b : Block). block_number b < 3 * 2 ^ 64) (sym c.block_at.ensures) (let same = number_at c.in-Some.found.now in omega (arith, same, small))

pub returns-then-passes-clause-next : goal.returns-then-passes-clause-next
returns-then-passes-clause-next g c =
    let told = g.P.Tests.told c.args.test.now in
    let passed : told c.in-Some.value.now ≡ true = sym c.passes.ensures ∙ c.if-passes.true in
    subst (λ (n : ℕ). IsNextFrom told c.args.self.now n c.block_at.result) c.number_after-number.ensures.value
    (subst (λ (b : Block). IsNextFrom told c.args.self.now c.number_after-number.result b) (sym c.block_at.ensures)
    (next_from c.number_after-number.result c.self.inside.values.entries c.into_iter-found-iterator.result (c.into_iter-found-iterator.ensures.into_iter_gives ∙ c.range-found-items.ensures.between tt) c.args.self.now c.self.view_is
    told c.in-Some.found.now c.in-Some.value.now
    (first_known told c.into_iter-found-iterator.result c.loop-found.found-iterator c.next.new.self (c.in-Some.found.now, c.in-Some.value.now) c.in-Some.ensures.steps c.loop-found.invariant)
    passed
    (least_passed told c.into_iter-found-iterator.result c.loop-found.found-iterator c.next.new.self (c.in-Some.found.now, c.in-Some.value.now) c.in-Some.ensures.steps c.loop-found.invariant)))

pub loop-found-preserved : goal.loop-found-preserved
loop-found-preserved g c =
    passed_by (g.P.Tests.told c.args.test.now) c.into_iter-found-iterator.result c.loop-found.found-iterator c.next.new.self (c.in-Some.found.now, c.in-Some.value.now) c.in-Some.ensures.steps
    (sym c.passes.ensures ∙ c.if-passes.false) c.loop-found.invariant

pub returns-clause-none : goal.returns-clause-none
returns-clause-none g c =
    let told = g.P.Tests.told c.args.test.now in
    subst (λ (n : ℕ). NoneFrom told c.args.self.now n) c.number_after-number.ensures.value
    (none_from c.number_after-number.result c.self.inside.values.entries c.into_iter-found-iterator.result (c.into_iter-found-iterator.ensures.into_iter_gives ∙ c.range-found-items.ensures.between tt) c.args.self.now c.self.view_is
    told (none_passed told c.into_iter-found-iterator.result c.loop-found.found-iterator c.in-None.ensures.steps.0 c.loop-found.invariant))
