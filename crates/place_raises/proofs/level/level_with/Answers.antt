use Rattle.std.proofs.Common.{◌<◌, arith}
use Rattle.index_tree.specs.Places.{place_of}
use Rattle.place_raises.proofs.Levels.{level_known, deep_known}
use Rattle.place_raises.proofs.level.level_with.Goals as goal

pub returns-then-height-ge-MOST_LEVELS-clause-deep : goal.returns-then-height-ge-MOST_LEVELS-clause-deep
returns-then-height-ge-MOST_LEVELS-clause-deep g c =
    deep_known (g.V.View.content c.args.draft.now.view.now) c.args.draft.now.touched.items c.args.file.now (place_of c.args.dir.now) c.args.dir.now.root c.args.entries c.as_slice.result.now c.in_ok-height.height c.as_slice.ensures c.requires.place c.requires.root c.requires.entries c.if-height-ge-MOST_LEVELS.true c.in_ok-height.ensures.value

pub returns-clause-level : goal.returns-clause-level
returns-clause-level g c =
    let low : c.in_ok-height.height < 16 = (let not_high = c.if-height-ge-MOST_LEVELS.false in omega (arith, not_high)) in
    level_known c.levels_are_read.ensures (g.V.View.content c.args.draft.now.view.now) c.args.draft.now.touched.items c.args.file.now (place_of c.args.dir.now) c.args.dir.now.root c.args.entries c.as_slice.result.now c.in_ok-height.height c.args.first c.in_ok-level.level.root c.in_ok-level.level.node c.ranges.first.fits c.as_slice.ensures
    c.requires.place c.requires.root c.requires.first c.requires.entries low (c.have_spelling.ensures.0 c.if-not-have_spelling.false) c.in_ok-level.ensures.root c.in_ok-level.ensures.node c.in_ok-level.ensures.long c.in_ok-height.ensures.value
