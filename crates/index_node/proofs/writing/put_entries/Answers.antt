use Rattle.std.proofs.Common.{rules, sym, ap, ◌∙◌, arith}
use Rattle.disk_model.specs.Bytes.{written}
use Rattle.record_model.specs.declared.entry.Entry.{Entry}
use Rattle.record_model.specs.Nodes.{entry_length, entry_spelling}
use Rattle.index_node.proofs.Sizes.{sum_more, sum_inside, key_below}
use Rattle.index_node.proofs.Placing.{nothing_put, entries_put}
use Rattle.index_node.proofs.writing.put_entries.Goals as goal

pub loop-entry-init : goal.loop-entry-init
loop-entry-init c = record { put = sym (nothing_put 0x40 c.args.out.now); end = search rules }

pub entry_length-at-requires : goal.entry_length-at-requires
entry_length-at-requires c =
    let e = c.entry-item.result in
    omega (arith, key_below e, ap entry_length c.entry-item.is, sum_inside c.args.entries.now c.loop-entry.entry-index e c.loop-entry-test.true, c.requires.short)

pub loop-entry-preserved : goal.loop-entry-preserved
loop-entry-preserved c =
    let e = c.entry-item.result in
    let i = c.loop-entry.entry-index in
    record {
      put = entries_put c.args.entries.now i e c.loop-entry.at c.args.out.now c.loop-entry.out c.put_entry.new.out c.loop-entry-test.true c.loop-entry.invariant.end c.loop-entry.invariant.put (c.put_entry.ensures ∙ ap (λ (x : Entry). written c.loop-entry.at (entry_spelling x) c.loop-entry.out) c.entry-item.is);
      end = omega (arith, c.loop-entry.invariant.end, c.entry_length-at.ensures, ap entry_length c.entry-item.is, sum_more c.args.entries.now i e c.loop-entry-test.true);
    }
