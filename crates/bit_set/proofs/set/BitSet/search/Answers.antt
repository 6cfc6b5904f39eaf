use Rattle.std.proofs.Common.{length, ap, arith}
use Rattle.bit_set.proofs.Views.{is_view}
use Rattle.bit_set.proofs.Searches.{found_bits}
use Rattle.bit_set.proofs.set.BitSet.search.Goals as goal

pub search-requires-clause-within : goal.search-requires-clause-within
search-requires-clause-within c = omega (arith, (is_view _ _ _ c.self.view_is).count, c.self.invariant.counted.room, ap length c.deref.ensures.value)

pub search-requires-clause-few : goal.search-requires-clause-few
search-requires-clause-few c = c.self.invariant.over.few

pub search-requires-clause-small : goal.search-requires-clause-small
search-requires-clause-small c = omega (arith, c.self.invariant.over.whole, c.self.invariant.counted.fits, ap length c.deref-2.ensures.value)

pub returns : goal.returns
returns c =
    let found = c.search.ensures in
    let here = rw (c.deref.ensures.value, c.deref-2.ensures.value) at found in
    found_bits c.args.self.now c.self.inside.words.items c.self.inside.bits c.args.from c.args.want.end c.args.want.len _ _ (is_view _ _ _ c.self.view_is) c.requires.within (here c.self.invariant.over.right)
