use Rattle.std.proofs.Common.{◌∙◌}
use Rattle.std.proofs.lemmas.Result.{err_from_is_err_and}
use Rattle.stream_map.specs.disk_model.Content.{Content}
use Rattle.index_model.specs.Walks.{below, kid_met, named_event}
use Rattle.index_model.specs.Indexes.{node_of_block, entry_link}
use Rattle.index_tree.specs.Places.{place_of}
use Rattle.index_tree.proofs.Steps.{entry_fails, entry_passes, entries_done, first_fails, second_gives, quiet}
use Rattle.index_tree.proofs.walking.Walker.+walking.Goals as goal

pub entries-returns-in_err-entry-clause-value : goal.entries-returns-in_err-entry-clause-value
entries-returns-in_err-entry-clause-value g t c =
    let p = err_from_is_err_and c.from_residual.result c.from_residual.ensures.1 in
    rw (p.1, p.2)
    (entry_fails _ _ (place_of c.args.self.now.dir.now) c.args.self.now.up.now c.loop-entry.met c.args.met.now (λ (content : Content). node_of_block content (place_of c.args.self.now.dir.now)) c.args.levels c.args.vcn c.args.entries.now c.loop-entry.entry-index c.entry-item.result _
    c.loop-entry.invariant.same c.loop-entry-test.true c.entry-item.is c.loop-entry.invariant.rest c.in_err-entry.ensures.value)

pub entries-loop-entry-preserved : goal.entries-loop-entry-preserved
entries-loop-entry-preserved g t c = record {
  rest =
      entry_passes _ _ (place_of c.args.self.now.dir.now) c.args.self.now.up.now c.loop-entry.met c.entry.new.met c.args.met.now (λ (content : Content). node_of_block content (place_of c.args.self.now.dir.now)) c.args.levels c.args.vcn c.args.entries.now c.loop-entry.entry-index c.entry-item.result
      c.loop-entry.invariant.same c.loop-entry-test.true c.entry-item.is c.loop-entry.invariant.rest c.in_ok-entry.ensures.value;
  same = c.in_ok-entry.ensures.same ∙ c.loop-entry.invariant.same;
  kept = c.in_ok-entry.ensures.kept ∙ c.loop-entry.invariant.kept;
  counted = c.in_ok-entry.ensures.cause.counted ∙ c.loop-entry.invariant.counted;
}

pub entries-returns-clause-value : goal.entries-returns-clause-value
entries-returns-clause-value g t c =
    entries_done _ (place_of c.args.self.now.dir.now) c.args.self.now.up.now c.loop-entry.met c.args.met.now (λ (content : Content). node_of_block content (place_of c.args.self.now.dir.now)) c.args.levels c.args.vcn c.args.entries.now c.loop-entry.entry-index
    c.loop-entry-test.false c.loop-entry.invariant.rest

pub entry-returns-in_err-below-clause-value : goal.entry-returns-in_err-below-clause-value
entry-returns-in_err-below-clause-value g t c =
    let p = err_from_is_err_and c.from_residual.result c.from_residual.ensures.1 in
    rw (p.1, p.2)
    (first_fails _ (place_of c.args.self.now.dir.now) c.args.self.now.up.now c.args.met.now (λ (content : Content). below (kid_met (node_of_block content (place_of c.args.self.now.dir.now)) c.args.levels c.args.vcn) c.args.entry.now.down) (λ _. named_event c.args.vcn (entry_link c.args.entry.now)) _ c.in_err-below.ensures.value)

pub entry-returns-clause-value : goal.entry-returns-clause-value
entry-returns-clause-value g t c =
    second_gives _ (place_of c.args.self.now.dir.now) c.args.self.now.up.now c.args.met.now c.below.new.met (λ (content : Content). below (kid_met (node_of_block content (place_of c.args.self.now.dir.now)) c.args.levels c.args.vcn) c.args.entry.now.down) (named_event c.args.vcn (entry_link c.args.entry.now)) (λ _. c.key.new.self) c.key.result
    c.in_ok-below.ensures.value (c.key.ensures (place_of c.args.self.now.dir.now))

pub entry-returns-clause-cause : goal.entry-returns-clause-cause
entry-returns-clause-cause g t c = quiet _ _ _ c.key.result _ c.in_ok-below.ensures.cause.counted (c.key.ensures (place_of c.args.self.now.dir.now))
