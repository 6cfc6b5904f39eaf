use Rattle.std.proofs.Common.{◌≡◌, refl, None, arith}
use Rattle.std.specs.Prelude.{position}
use Rattle.utf16_name.specs.Names.{is_bad_unit}
use Rattle.utf16_name.proofs.Naming.{position-of_lawful, lawful-of_position}
use Rattle.utf16_name.proofs.name.check.Goals as goal

pub returns-in-Some-clause-lawful : goal.returns-in-Some-clause-lawful
returns-in-Some-clause-lawful c = (λ e. cc, λ name. let none = position-of_lawful c.args.units.now name.lawful in let some = c.first_bad.ensures in cc)

pub returns-clause-lawful : goal.returns-clause-lawful
returns-clause-lawful c =
    let none : position is_bad_unit c.args.units.now ≡ None = grind arith in
    (λ e. record { some = grind arith; within = grind arith; lawful = lawful-of_position c.args.units.now (λ k. omega (arith, c.type_inv.units k)) none }, λ name. refl)
