use Rattle.std.proofs.Common.{List, [], ◌∷◌, ◌++◌, sym, ◌∙◌, subst}
use Rattle.std.specs.Prelude.{IfSome}
use Rattle.record_model.specs.disk_model.declared.block.Change.{Change}
use Rattle.record_model.specs.disk_model.Content.{Content}
use Rattle.index_change.specs.Changing.{PutNodes, AllWereOld}
use Rattle.index_tree.specs.Places.{place_of}
use Rattle.index_change.proofs.Counted.{put_more, old_known, all_fit}
use Rattle.index_change.proofs.changing.changes_of.Goals as goal

pub loop-write-preserved : goal.loop-write-preserved
loop-write-preserved g c = record {
  put = subst (λ (l : List Change). PutNodes (place_of c.args.dir.now) (c.loop-write.yielded ++ c.in-Some.write ∷ []) l) (sym c.in_ok-push.ensures.pushed) (put_more (place_of c.args.dir.now) c.loop-write.yielded c.loop-write.changes.items c.in-Some.write c.in_ok-change.change c.loop-write.invariant.put c.in_ok-change.ensures.put);
  old = subst (λ (l : List Change). IfSome (g.V.View.content c.args.v.now) (λ (x : Content). AllWereOld x l)) (sym c.in_ok-push.ensures.pushed) (old_known (g.V.View.content c.args.v.now) _ c.loop-write.changes.items c.in_ok-change.change c.loop-write.invariant.same c.loop-write.invariant.old c.in_ok-change.ensures.old);
  same = c.in_ok-change.ensures.same ∙ c.loop-write.invariant.same;
  kept = c.in_ok-change.ensures.kept ∙ c.loop-write.invariant.kept;
  counted = c.in_ok-change.ensures.cause.counted ∙ c.loop-write.invariant.counted;
}

pub returns-clause-fits : goal.returns-clause-fits
returns-clause-fits g c = all_fit (place_of c.args.dir.now) c.loop-write.yielded c.loop-write.changes.items c.loop-write.invariant.put
