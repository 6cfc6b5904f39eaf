use Rattle.std.proofs.Common.{ℕ, List, set, get_or, None, ◌∙◌, ap, arith}
use Rattle.std.proofs.lemmas.List.{get_or_default}
use Rattle.record_model.specs.declared.entry.Entry.{Entry}
use Rattle.record_model.specs.Nodes.{no_file, last_entry}
use Rattle.index_node.proofs.Sizes.{ended_at}
use Rattle.index_node.proofs.node.end_at.Goals as goal

pub returns : goal.returns
returns c =
    let e = c.index-as_slice-at.result in
    let down = (get_or c.as_slice.result.now c.args.at e).down in
    c.replace.ensures.list
    ∙ ap (λ (key : List ℕ). set c.args.entries.now c.args.at (record { child = no_file; key = key; down = down })) c.new.ensures
    ∙ ended_at c.args.entries.now c.args.at down c.requires
    (ap (λ (xs : List Entry). (get_or xs c.args.at e).down) c.as_slice.ensures ∙ ap (λ (x : Entry). x.down) (get_or_default c.args.entries.now c.args.at e (last_entry None) (omega (arith, c.requires))))
