use Rattle.std.proofs.Common.{◌≡◌, None, refl, ap, sym, ◌∙◌, arith, below_more}
use Rattle.std.proofs.lemmas.List.Elements.{All-get_or}
use Rattle.record_model.specs.declared.entry.Entry.{Entry}
use Rattle.record_model.specs.Nodes.{down_flag, children_of, last_entry}
use Rattle.index_node.proofs.RootPlaces.{all_at, item_at}
use Rattle.index_node.proofs.root_spelling.are_alike.Goals as goal

pub loop-entry-preserved : goal.loop-entry-preserved
loop-entry-preserved c =
    below_more _ _ c.loop-entry.invariant
    (ap (λ (e : Entry). down_flag e.down) (sym (item_at c.args.entries.now c.loop-entry.entry-index c.entry-item.result c.loop-entry-test.true c.entry-item.is)) ∙ sym c.down_flag.ensures.value ∙ c.if-down_flag-flag.false)

pub returns : goal.returns
returns c = (
  λ _. all_at (λ (e : Entry). down_flag e.down ≡ children_of c.args.entries.now) c.args.entries.now
      (λ k lt. c.loop-entry.invariant k (omega arith) ∙ c.children_of-flag.ensures.value),
  λ all. refl,
)

pub returns-then-down_flag-flag : goal.returns-then-down_flag-flag
returns-then-down_flag-flag c = (
  λ e. absurd cc,
  λ all.
      let is = item_at c.args.entries.now c.loop-entry.entry-index c.entry-item.result c.loop-entry-test.true c.entry-item.is in
      let own = All-get_or (λ (e : Entry). down_flag e.down ≡ children_of c.args.entries.now) c.args.entries.now c.loop-entry.entry-index (last_entry None) c.loop-entry-test.true all in
      absurd (c.if-down_flag-flag.true (c.down_flag.ensures.value ∙ ap (λ (e : Entry). down_flag e.down) is ∙ own ∙ sym c.children_of-flag.ensures.value)),
)
