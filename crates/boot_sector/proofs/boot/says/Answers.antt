use Rattle.std.proofs.Common.{ℕ, ◌-◌, ◌^◌, eqb, ap, sym, ◌∙◌}
use Rattle.boot_sector.proofs.Spelling.{power_test, negative_said}
use Rattle.boot_sector.proofs.boot.says.Goals as goal

pub returns-else-raw-lt128 : goal.returns-else-raw-lt128
returns-else-raw-lt128 c =
    power_test (0x100 - c.args.raw) c.args.power ∙ ap (λ (x : ℕ). eqb x (2 ^ c.args.power)) (sym (negative_said c.args.per_cluster c.args.raw c.if-raw-lt128.false))
