use Rattle.std.proofs.Common.{◌≡◌, ℕ, List, false, ◌∙◌, sym, ap, arith}
use Rattle.std.specs.Prelude.{nat_lt}
use Rattle.std.proofs.lemmas.Bool.Decides.{nat_tests}
use Rattle.std.proofs.lemmas.List.{get_or_past}
use Rattle.bit_set.specs.Words.{word_bit}
use Rattle.bit_set.proofs.Views.{is_view}
use Rattle.bit_set.proofs.set.BitSet.test.Goals as goal

pub returns-then-number-self : goal.returns-then-number-self
returns-then-number-self c =
    c.is_set.ensures
    ∙ ap (λ (words : List ℕ). word_bit words c.args.number) c.deref.ensures.value
    ∙ sym ((is_view _ _ _ c.self.view_is).inside c.args.number (omega arith))

pub returns-else-number-self : goal.returns-else-number-self
returns-else-number-self c =
    let past : nat_lt c.args.number c.self.inside.bits ≡ false = grind (arith, nat_tests) in
    past ∙ sym (get_or_past c.args.self.now c.args.number false (omega (arith, (is_view _ _ _ c.self.view_is).count)))
