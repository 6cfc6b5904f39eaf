use Rattle.std.proofs.Common.{◌∙◌, refl, ap, arith, length, List}
use Rattle.std.proofs.lemmas.List.{length-append}
use Rattle.state_model.specs.Loads.{table_in}
use Rattle.volume_map.specs.declared.list_read.ListRead.{ListRead}
use Rattle.volume_map.proofs.ReadLists.{lists_first, lists_more}
use Rattle.volume_map.proofs.lists.read_lists.Goals as goal

pub loop-number-init : goal.loop-number-init
loop-number-init g c = record {
  read = lists_first _ c.args.per (table_in c.args.records.now) _ c.new-lists.ensures.items;
  len = ap (λ (xs : List ListRead). length xs) c.new-lists.ensures.items;
  kept = record { same = refl; stays = refl; later = omega arith };
  counted = refl;
}

pub loop-number-preserved : goal.loop-number-preserved
loop-number-preserved g c = record {
  read = lists_more _ c.args.per (table_in c.args.records.now) c.loop-number.number c.loop-number.lists.items _ c.in_ok-list.list c.loop-number.invariant.read (rw c.loop-number.invariant.kept.same at c.in_ok-list.ensures.value) c.in_ok-push.ensures;
  len = ap (λ (xs : List ListRead). length xs) c.in_ok-push.ensures ∙ length-append c.loop-number.lists.items _ ∙ omega (arith, c.loop-number.invariant.len);
  kept = record {
    same = c.in_ok-list.ensures.kept.same ∙ c.loop-number.invariant.kept.same;
    stays = c.in_ok-list.ensures.kept.stays ∙ c.loop-number.invariant.kept.stays;
    later = omega (arith, c.loop-number.invariant.kept.later, c.in_ok-list.ensures.kept.later);
  };
  counted = c.in_ok-list.ensures.kept.counted ∙ c.loop-number.invariant.counted;
}
