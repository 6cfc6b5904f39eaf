use Rattle.std.proofs.Common.{rules, refl, sym, subst, ◌∙◌, All, List, [], arith}
use Rattle.std.specs.Ordering.{nat_cmp}
use Rattle.std.specs.BTreeSet.{contains}
use mathlib.Core.Path.{fun_ext}
use Rattle.std.proofs.lemmas.List.Elements.{All-from_recursion}
use Rattle.log_recovery.specs.declared.found.RecoveredBlock.{RecoveredBlock}
use Rattle.log_recovery.specs.Recovering.{IsSized}
use Rattle.log_recovery.proofs.Ending.{found_none, done_known}
use Rattle.log_recovery.proofs.Grouping.{group_shadows}
use Rattle.log_recovery.proofs.recovering.recover_placed.Goals as goal

pub loop-index-init : goal.loop-index-init
loop-index-init g c = record {
  found = found_none (g.V.View.content c.args.view.now) c.args.entries.now c.new-bodies.result.items c.new-bodies.ensures.items;
  met = λ b. search rules;
  bodies = subst (λ (rs : List RecoveredBlock). All IsSized rs) (sym c.new-bodies.ensures.items) (All-from_recursion IsSized [] (tt {0}));
  kept = record { same = refl; stays = refl; later = omega arith };
  counted = refl;
}

pub returns-clause-answer : goal.returns-clause-answer
returns-clause-answer g c =
    let log = c.args.entries.now in
    let shadows = c.in_ok-shadows.ensures in
    done_known (g.V.View.content c.args.view.now) log c.loop-index.index (record { bodies = c.loop-index.bodies; shadows = c.in_ok-shadows.shadows }) (g.met.V.View.sized c.args.view.now) c.requires.level (omega arith)
    (record {
      held = λ b. shadows.held b ∙ group_shadows (contains nat_cmp c.in_ok-ended_of.field-0) c.in_ok-groups_of.field-0 log b (fun_ext c.in_ok-ended_of.ensures) c.in_ok-groups_of.ensures;
      once = shadows.once;
    }) c.loop-index.invariant.found
