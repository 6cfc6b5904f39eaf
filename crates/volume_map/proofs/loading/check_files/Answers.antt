use Rattle.std.proofs.Common.{◌≡◌, ◌∙◌, ap, arith, length, List, map, Bool}
use Rattle.std.proofs.lemmas.Grind.{common_steps}
use Rattle.record_model.specs.declared.attribute.Attr.{Attr}
use Rattle.state_model.specs.Loads.{table_in}
use Rattle.volume_map.specs.Lists.{read_of}
use Rattle.volume_map.proofs.Loaded.{checked, tens_length}
use Rattle.volume_map.proofs.Owners.{extras_length}
use Rattle.volume_map.proofs.loading.check_files.Goals as goal

pub join_files-requires : goal.join_files-requires
join_files-requires c =
    ap (λ (xs : List (List Attr)). length xs) (c.deref.ensures.value ∙ c.in_ok-extras.ensures.value) ∙ extras_length (map read_of c.args.lists.now) (table_in c.args.records.now) (length c.args.records.now) (length c.args.records.now)

pub check_rules-requires-clause-tens : goal.check_rules-requires-clause-tens
check_rules-requires-clause-tens c =
    let size : length c.deref-2.result.now ≡ length c.args.lists.now = ap (λ (xs : List Bool). length xs) (c.deref-2.ensures.value ∙ c.in_ok-tens.ensures.value) ∙ tens_length (table_in c.args.records.now) (map read_of c.args.lists.now) (length c.args.lists.now) in
    grind (arith, common_steps, size, c.requires.lists, c.join_files.auto.records)

pub returns : goal.returns
returns c =
    let same : length c.join_files.new.records ≡ length c.args.records.now = grind (arith, common_steps, c.join_files.auto.records) in
    checked c.args.per c.args.extents.now c.args.records.now c.args.rules.now (map read_of c.args.lists.now) c.deref-2.result.now _ c.join_files.new.records c.has_cut_block-cut.result (length c.args.lists.now) (length c.join_files.new.records) c.check_rules.result
    c.requires.lists same (c.deref-2.ensures.value ∙ c.in_ok-tens.ensures.value) (c.deref.ensures.value ∙ c.in_ok-extras.ensures.value) c.in_ok-join_files.ensures (rw (← c.as_slice.ensures.value) c.has_cut_block-cut.ensures) c.check_rules.ensures
