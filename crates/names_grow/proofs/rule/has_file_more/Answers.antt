use Rattle.std.proofs.Common.{subst, sym, ◌∙◌}
use Rattle.same_names.specs.map_change.Parts.{live_parts}
use Rattle.same_names.specs.map_change.Applying.{applied}
use Rattle.names_grow.specs.Trying.{BeginsFile}
use Rattle.names_grow.proofs.More.{more_begins}
use Rattle.names_grow.proofs.Parts.{more_ok, ok_more}
use Rattle.names_grow.proofs.rule.has_file_more.Goals as goal

pub returns-then-not-begins_file-clause-only : goal.returns-then-not-begins_file-clause-only
returns-then-not-begins_file-clause-only c more =
    sym c.if-not-begins_file.true
    ∙ c.begins_file.ensures.only (subst (BeginsFile c.args.rule.now.number c.args.rule.now.link.now) (sym c.deref.ensures.value)
    (more_begins c.ways_are_short.ensures c.args.rule.now.number c.args.rule.now.link.now (live_parts c.args.live.now).volume.files (applied c.args.change.now (live_parts c.args.live.now)).volume.files more))

pub returns-clause-same : goal.returns-clause-same
returns-clause-same c =
    more_ok c.ways_are_short.ensures c.args.rule.now.number c.args.rule.now.link.now (live_parts c.args.live.now).volume.files (applied c.args.change.now (live_parts c.args.live.now)).volume.files c.goes_on.result c.requires.known.leaf
    (subst (BeginsFile c.args.rule.now.number c.args.rule.now.link.now) c.deref.ensures.value (c.begins_file.ensures.same c.if-not-begins_file.false)) c.goes_on.ensures.same

pub returns-clause-only : goal.returns-clause-only
returns-clause-only c =
    ok_more c.ways_are_short.ensures c.args.rule.now.number c.args.rule.now.link.now (live_parts c.args.live.now).volume.files (applied c.args.change.now (live_parts c.args.live.now)).volume.files c.goes_on.result c.goes_on.ensures.only
