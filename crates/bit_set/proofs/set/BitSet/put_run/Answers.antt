use Rattle.std.proofs.Common.{◌≡◌, ℕ, ◌+◌, ◌-◌, List, length, sym, ap, arith}
use Rattle.bit_set.specs.Words.{word_bit, bits_of}
use Rattle.bit_set.proofs.Bitwise.{clear_count-le}
use Rattle.bit_set.proofs.Views.{is_view, lent_back, put, counted_after, run_counted}
use Rattle.bit_set.proofs.set.BitSet.put_run.Goals as goal

pub overflow_add-first : goal.overflow_add-first
overflow_add-first c = omega (arith, (is_view _ _ _ c.self.view_is).count, c.self.invariant.counted.fits)

pub overflow_add-first-2 : goal.overflow_add-first-2
overflow_add-first-2 c = omega (arith, (is_view _ _ _ c.self.view_is).count, c.self.invariant.counted.fits)

pub clear_between-was_clear-requires-clause-within : goal.clear_between-was_clear-requires-clause-within
clear_between-was_clear-requires-clause-within c = omega (arith, (is_view _ _ _ c.self.view_is).count, c.self.invariant.counted.room, ap length c.deref.ensures.value)

pub fill-requires-clause-within : goal.fill-requires-clause-within
fill-requires-clause-within c = omega (arith, (is_view _ _ _ c.self.view_is).count, c.self.invariant.counted.room, ap length c.deref_mut.ensures.value)

pub overflow_sub-self : goal.overflow_sub-self
overflow_sub-self c =
    let len : c.args.first + c.args.len - c.args.first ≡ c.args.len = omega arith in
    let was = rw (c.deref.ensures.value, len) at c.clear_between-was_clear.ensures.count in
    rw was (run_counted c.self.inside.words.items c.self.inside.bits c.self.inside.clear c.args.first c.args.len c.self.invariant.counted (omega (arith, (is_view _ _ _ c.self.view_is).count)))

pub overflow_add-self : goal.overflow_add-self
overflow_add-self c =
    let len : c.args.first + c.args.len - c.args.first ≡ c.args.len = omega arith in
    let was = rw (c.deref.ensures.value, len) at c.clear_between-was_clear.ensures.count in
    let fills = rw c.deref_mut.ensures.value at c.fill.ensures in
    let after = counted_after c.self.inside.words.items c.fill.new.words c.self.inside.bits c.self.inside.clear c.args.first c.args.len c.args.value c.self.invariant.counted (omega (arith, (is_view _ _ _ c.self.view_is).count)) fills in
    rw (was, c.clear_of.ensures, after.count) (omega (arith, clear_count-le (word_bit c.fill.new.words) 0 c.self.inside.bits, c.self.invariant.counted.fits))

pub overflow_add-first-3 : goal.overflow_add-first-3
overflow_add-first-3 c = omega (arith, (is_view _ _ _ c.self.view_is).count, c.self.invariant.counted.fits)

pub invariant_of-self : goal.invariant_of-self
invariant_of-self c =
    let len : c.args.first + c.args.len - c.args.first ≡ c.args.len = omega arith in
    let was = rw (c.deref.ensures.value, len) at c.clear_between-was_clear.ensures.count in
    let fills = rw c.deref_mut.ensures.value at c.fill.ensures in
    let words = lent_back c.self.inside.words.len c.fill.new.words c.self.inside.words.items (omega (arith, c.fill.ensures.same_count, c.deref_mut.ensures.len)) (omega (arith, ap length c.deref_mut.ensures.value, c.deref_mut.ensures.len)) in
    let tree = lent_back c.self.inside.tree.len c.mend_run.new.tree c.self.inside.tree.items (omega (arith, c.mend_run.ensures.same_count, c.deref_mut-2.ensures.len)) (omega (arith, ap length c.deref_mut-2.ensures.value, c.deref_mut-2.ensures.len)) in
    let mended = rw (c.deref-2.ensures.value, words, c.deref_mut-2.ensures.value) at c.mend_run.ensures.mended in
    let counted = counted_after c.self.inside.words.items c.fill.new.words c.self.inside.bits c.self.inside.clear c.args.first c.args.len c.args.value c.self.invariant.counted (omega (arith, (is_view _ _ _ c.self.view_is).count)) fills in
    rw (words, tree, was, c.clear_of.ensures)
    (record {
      counted = counted;
      over = record {
        whole = omega (arith, c.self.invariant.over.whole, c.mend_run.ensures.same_count, ap length c.deref_mut-2.ensures.value);
        few = c.self.invariant.over.few;
        right = mended c.self.inside.words.items fills.others c.self.invariant.over.right;
      };
    })

pub returns : goal.returns
returns c =
    let fills = rw c.deref_mut.ensures.value at c.fill.ensures in
    let whole = lent_back c.self.inside.words.len c.fill.new.words c.self.inside.words.items (omega (arith, c.fill.ensures.same_count, c.deref_mut.ensures.len)) (omega (arith, ap length c.deref_mut.ensures.value, c.deref_mut.ensures.len)) in
    put c.args.self.now _ c.self.inside.words.items c.fill.new.words c.self.inside.bits c.args.first c.args.len c.args.value
    (is_view _ _ _ c.self.view_is)
    (is_view c.fill.new.words c.self.inside.bits _ (ap (λ (words : List ℕ). bits_of words c.self.inside.bits) (sym whole)))
    (omega (arith, (is_view _ _ _ c.self.view_is).count))
    fills
