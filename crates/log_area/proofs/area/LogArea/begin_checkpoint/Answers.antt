use Rattle.std.proofs.Common.{ℕ, ◌%◌, ◌∙◌, ap, sym, subst}
use Rattle.log_area.specs.Areas.{LogAreaOf, IsLogArea, number_lsn}
use Rattle.log_area.proofs.Numbering.{front_exact}
use Rattle.log_area.proofs.area.LogArea.begin_checkpoint.Goals as goal

pub returns-clause-exact : goal.returns-clause-exact
returns-clause-exact c =
    front_exact c.seal.new.self c.lsn_at.result (subst IsLogArea c.self.view_is c.self.invariant.0)
    (c.lsn_at.ensures.value ∙ ap (λ (n : ℕ). number_lsn c.seal.new.self n 0x40 % 18446744073709551616) (ap (λ (a : LogAreaOf). a.sealed) c.self.view_is))
