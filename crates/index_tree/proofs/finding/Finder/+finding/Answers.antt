use Rattle.std.proofs.Common.{◌∙◌, sym, ap}
use Rattle.std.proofs.lemmas.Result.{err_from_is_err_and}
use Rattle.stream_map.specs.disk_model.Content.{Content}
use Rattle.index_model.specs.Indexes.{node_of_block, entry_link}
use Rattle.index_model.specs.Walks.{below, beside, found_event, side_of, kid_sought}
use Rattle.index_tree.specs.Faults.{is_behind}
use Rattle.index_tree.specs.Places.{place_of}
use Rattle.index_tree.proofs.Steps.{first_fails, second_fails, second_passes, quiet_err}
use Rattle.index_tree.proofs.Searching.{place_fails, place_passes, place_ends, places_done}
use Rattle.index_tree.proofs.finding.Finder.+finding.Goals as goal

pub entries-returns-in_err-side-clause-value : goal.entries-returns-in_err-side-clause-value
entries-returns-in_err-side-clause-value g t c =
    let p = err_from_is_err_and c.from_residual.result c.from_residual.ensures.1 in
    rw (p.1, p.2)
    (place_fails _ _ (place_of c.args.self.now.dir.now) c.args.self.now.up.now c.args.self.now.name.now c.loop-entry.met c.args.met.now (λ (content : Content). node_of_block content (place_of c.args.self.now.dir.now)) c.args.levels c.args.vcn c.args.entries.now c.loop-entry.entry-index c.entry-item.result _
    c.loop-entry.invariant.same c.loop-entry-test.true c.entry-item.is c.loop-entry.invariant.rest c.in_err-side.ensures.value)

pub entries-returns-then-is_behind-clause-value : goal.entries-returns-then-is_behind-clause-value
entries-returns-then-is_behind-clause-value g t c =
    place_ends _ _ (place_of c.args.self.now.dir.now) c.args.self.now.up.now c.args.self.now.name.now c.loop-entry.met c.entry.new.met c.args.met.now (λ (content : Content). node_of_block content (place_of c.args.self.now.dir.now)) c.args.levels c.args.vcn c.args.entries.now c.loop-entry.entry-index c.entry-item.result
    c.loop-entry.invariant.same c.loop-entry-test.true c.entry-item.is (sym (ap is_behind c.in_ok-side.ensures.side) ∙ sym c.is_behind.ensures ∙ c.if-is_behind.true) c.loop-entry.invariant.rest c.in_ok-side.ensures.value

pub entries-loop-entry-preserved : goal.entries-loop-entry-preserved
entries-loop-entry-preserved g t c = record {
  rest =
      place_passes _ _ (place_of c.args.self.now.dir.now) c.args.self.now.up.now c.args.self.now.name.now c.loop-entry.met c.entry.new.met c.args.met.now (λ (content : Content). node_of_block content (place_of c.args.self.now.dir.now)) c.args.levels c.args.vcn c.args.entries.now c.loop-entry.entry-index c.entry-item.result
      c.loop-entry.invariant.same c.loop-entry-test.true c.entry-item.is (sym (ap is_behind c.in_ok-side.ensures.side) ∙ sym c.is_behind.ensures ∙ c.if-is_behind.false) c.loop-entry.invariant.rest c.in_ok-side.ensures.value;
  same = c.in_ok-side.ensures.same ∙ c.loop-entry.invariant.same;
  kept = c.in_ok-side.ensures.kept ∙ c.loop-entry.invariant.kept;
  counted = c.in_ok-side.ensures.cause.counted ∙ c.loop-entry.invariant.counted;
}

pub entries-returns-clause-value : goal.entries-returns-clause-value
entries-returns-clause-value g t c =
    places_done _ (place_of c.args.self.now.dir.now) c.args.self.now.up.now c.args.self.now.name.now c.loop-entry.met c.args.met.now (λ (content : Content). node_of_block content (place_of c.args.self.now.dir.now)) c.args.levels c.args.vcn c.args.entries.now c.loop-entry.entry-index
    c.loop-entry-test.false c.loop-entry.invariant.rest

pub entry-returns-in_err-beside-clause-value : goal.entry-returns-in_err-beside-clause-value
entry-returns-in_err-beside-clause-value g t c =
    let p = err_from_is_err_and c.from_residual-in_err-beside.result c.from_residual-in_err-beside.ensures.1 in
    rw (p.1, p.2)
    (first_fails _ (place_of c.args.self.now.dir.now) c.args.self.now.up.now c.args.met.now (λ (content : Content). beside (side_of c.args.self.now.up.now c.args.self.now.name.now (entry_link c.args.entry.now)) (below (kid_sought c.args.self.now.up.now c.args.self.now.name.now (node_of_block content (place_of c.args.self.now.dir.now)) c.args.levels c.args.vcn) c.args.entry.now.down)) (λ _. found_event (side_of c.args.self.now.up.now c.args.self.now.name.now (entry_link c.args.entry.now)) (entry_link c.args.entry.now)) _
    (rw (c.side_of-side.ensures, c.in_ok-link.ensures) at c.in_err-beside.ensures.value))

pub entry-returns-in_err-find-clause-value : goal.entry-returns-in_err-find-clause-value
entry-returns-in_err-find-clause-value g t c =
    let p = err_from_is_err_and c.from_residual-in_err-find.result c.from_residual-in_err-find.ensures.1 in
    rw (p.1, p.2)
    (second_fails _ (place_of c.args.self.now.dir.now) c.args.self.now.up.now c.args.met.now c.beside.new.met (λ (content : Content). beside (side_of c.args.self.now.up.now c.args.self.now.name.now (entry_link c.args.entry.now)) (below (kid_sought c.args.self.now.up.now c.args.self.now.name.now (node_of_block content (place_of c.args.self.now.dir.now)) c.args.levels c.args.vcn) c.args.entry.now.down)) (found_event (side_of c.args.self.now.up.now c.args.self.now.name.now (entry_link c.args.entry.now)) (entry_link c.args.entry.now)) _
    (rw (c.side_of-side.ensures, c.in_ok-link.ensures) at c.in_ok-beside.ensures.value)
    (rw (c.side_of-side.ensures, c.in_ok-link.ensures) at (c.in_err-find.ensures (place_of c.args.self.now.dir.now) c.args.self.now.up.now)))

pub entry-returns-in_err-find-clause-cause : goal.entry-returns-in_err-find-clause-cause
entry-returns-in_err-find-clause-cause g t c =
    let p = err_from_is_err_and c.from_residual-in_err-find.result c.from_residual-in_err-find.ensures.1 in
    rw (p.1, p.2) (quiet_err _ _ _ _ c.in_ok-beside.ensures.cause.counted (c.in_err-find.ensures (place_of c.args.self.now.dir.now) c.args.self.now.up.now))

pub entry-returns-clause-value : goal.entry-returns-clause-value
entry-returns-clause-value g t c =
    second_passes _ (place_of c.args.self.now.dir.now) c.args.self.now.up.now c.args.met.now c.beside.new.met c.find.new.self (λ (content : Content). beside (side_of c.args.self.now.up.now c.args.self.now.name.now (entry_link c.args.entry.now)) (below (kid_sought c.args.self.now.up.now c.args.self.now.name.now (node_of_block content (place_of c.args.self.now.dir.now)) c.args.levels c.args.vcn) c.args.entry.now.down)) (found_event (side_of c.args.self.now.up.now c.args.self.now.name.now (entry_link c.args.entry.now)) (entry_link c.args.entry.now))
    (rw (c.side_of-side.ensures, c.in_ok-link.ensures) at c.in_ok-beside.ensures.value)
    (rw (c.side_of-side.ensures, c.in_ok-link.ensures) at (c.in_ok-find.ensures (place_of c.args.self.now.dir.now) c.args.self.now.up.now))
