use Rattle.std.proofs.Common.{◌≡◌, ◌-◌, true, false, sym, ap, ◌∙◌, arith}
use Rattle.std.specs.Prelude.{◌==◌, nat_lt}
use Rattle.std.proofs.lemmas.Bool.Decides.{nat_tests}
use Rattle.file_tree.specs.Walks.{root, first_user_record, at_some}
use Rattle.tree_model.specs.Refusals.{is_in_system}
use Rattle.tree_model.proofs.WaysUp.{at_root, at_system, above_is, no_more}
use Rattle.tree_model.proofs.file_rows.is_in_system.Goals as goal

pub returns-then-number-eq-ROOT : goal.returns-then-number-eq-ROOT
returns-then-number-eq-ROOT c =
    let is : (c.loop-left.number == root) ≡ true = grind (arith, nat_tests, c.if-number-eq-ROOT.true) in
    sym (at_root c.args.links.now c.loop-left.left c.loop-left.number (omega (arith, c.loop-left-test.true)) is) ∙ c.loop-left.invariant

pub returns-then-number-lt-FIRST_USER_RECORD : goal.returns-then-number-lt-FIRST_USER_RECORD
returns-then-number-lt-FIRST_USER_RECORD c =
    let is : (c.loop-left.number == root) ≡ false = grind (arith, nat_tests, c.if-number-eq-ROOT.false) in
    let low : nat_lt c.loop-left.number first_user_record ≡ true = grind (arith, nat_tests, c.if-number-lt-FIRST_USER_RECORD.true) in
    sym (at_system c.args.links.now c.loop-left.left c.loop-left.number (omega (arith, c.loop-left-test.true)) is low) ∙ c.loop-left.invariant

pub loop-left-preserved : goal.loop-left-preserved
loop-left-preserved c =
    let is : (c.loop-left.number == root) ≡ false = grind (arith, nat_tests, c.if-number-eq-ROOT.false) in
    let low : nat_lt c.loop-left.number first_user_record ≡ false = grind (arith, nat_tests, c.if-number-lt-FIRST_USER_RECORD.false) in
    ap (at_some (is_in_system c.args.links.now (c.loop-left.left - 1))) c.in-Some.ensures
    ∙ sym (above_is c.args.links.now c.loop-left.left c.loop-left.number (omega (arith, c.loop-left-test.true)) is low) ∙ c.loop-left.invariant

pub returns-in-None : goal.returns-in-None
returns-in-None c =
    let is : (c.loop-left.number == root) ≡ false = grind (arith, nat_tests, c.if-number-eq-ROOT.false) in
    let low : nat_lt c.loop-left.number first_user_record ≡ false = grind (arith, nat_tests, c.if-number-lt-FIRST_USER_RECORD.false) in
    ap (at_some (is_in_system c.args.links.now (c.loop-left.left - 1))) c.in-None.ensures
    ∙ sym (above_is c.args.links.now c.loop-left.left c.loop-left.number (omega (arith, c.loop-left-test.true)) is low) ∙ c.loop-left.invariant

pub returns : goal.returns
returns c = sym (no_more c.args.links.now c.loop-left.left c.loop-left.number (omega (arith, c.loop-left-test.false))) ∙ c.loop-left.invariant
