use Rattle.std.proofs.Common.{rules, ◌≡◌, refl, ◌∙◌}
use Rattle.file_puts.specs.index_tree.Places.{place_of}
use Rattle.file_makes.proofs.Joins.{made_put}
use Rattle.file_makes.proofs.making.make_file.Goals as goal

pub returns-clause-put : goal.returns-clause-put
returns-clause-put g c =
    let same_behind = c.in_ok-root.ensures.asks.same ∙ c.in_ok-lsn.ensures.asks.same in
    let changes_are : c.deref.result.now ≡ c.in_ok-root.field-0.changes.items = search rules in
    made_put (g.V.View.content c.args.draft.now.view.now) (g.V.View.content c.laid_out.new.draft.view.now) (g.V.View.content c.put_root.new.draft.view.now) c.args.per c.args.streams.now c.args.numbers.now c.args.made.now c.args.directory.now (place_of c.args.dir.now) c.args.dir.now.root c.args.nodes c.in_ok-root.field-0
    c.in_ok-lsn.lsn c.in_ok-file.file c.deref.result.now c.in_ok-root.field-0.root c.args.draft.now.touched.items c.laid_out.new.draft.touched.items c.put_root.new.draft.touched.items _ c.requires.per c.in_ok-file.ensures.lsn c.in_ok-root.ensures.laid refl changes_are same_behind (c.in_ok-put_root.ensures.asks.same ∙ same_behind)
    (c.in_ok-root.ensures.touched ∙ c.in_ok-lsn.ensures.touched) c.in_ok-lsn.ensures.lsn c.in_ok-file.ensures.value c.in_ok-put_root.ensures.put c.in_ok-put_behind.ensures.put
