use Rattle.std.proofs.Common.{◌≡◌, true, false, sym, subst, arith, below_more}
use Rattle.record_model.specs.Nodes.{FitsEntry, FitsLast}
use Rattle.index_node.proofs.RootPlaces.{fit_entries, item_at, entry_fits, last_fits, some_fit}
use Rattle.index_node.proofs.root_spelling.each_fits.Goals as goal

pub loop-i-preserved : goal.loop-i-preserved
loop-i-preserved c = record {
  fits =
      below_more _ _ c.loop-i.invariant.fits
      (subst FitsEntry (item_at c.args.entries.now c.loop-i.i c.index-entries-i.result c.loop-i-test.true c.index-entries-i.is) (c.fits_entry.ensures.0 c.if-not-fits_entry.false));
  inside = λ some. omega arith;
}

pub returns-then-not-fits_entry : goal.returns-then-not-fits_entry
returns-then-not-fits_entry c = (
  λ e. absurd cc,
  λ all.
      let is = item_at c.args.entries.now c.loop-i.i c.index-entries-i.result c.loop-i-test.true c.index-entries-i.is in
      let fits : c.fits_entry.result ≡ true = c.fits_entry.ensures.1 (subst FitsEntry (sym is) (entry_fits c.args.entries.now c.loop-i.i (omega arith) all)) in
      let other : c.fits_entry.result ≡ false = c.if-not-fits_entry.true in
      absurd cc,
)

pub returns : goal.returns
returns c = (λ e. absurd cc, λ all. some_fit c.args.entries.now c.loop-i.i all (omega arith) c.loop-i.invariant.inside)

pub returns-then-i-entries : goal.returns-then-i-entries
returns-then-i-entries c =
    let is = item_at c.args.entries.now c.loop-i.i c.index-entries-i.result c.loop-i-test.true c.index-entries-i.is in (
      λ fits. fit_entries c.args.entries.now c.loop-i.i c.if-i-entries.true c.loop-i.invariant.fits (subst FitsLast is (c.fits_last.ensures.0 fits)),
      λ all. c.fits_last.ensures.1 (subst FitsLast (sym is) (last_fits c.args.entries.now c.loop-i.i c.if-i-entries.true all)),
    )
