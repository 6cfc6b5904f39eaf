-- The steps of putting a record.
use Rattle.std.proofs.Common.{◌≡◌, ℕ, ◌*◌, sym, ap, ◌∙◌}
use Rattle.record_model.specs.disk_model.declared.block.BlockKind.{BlockKind}
use Rattle.record_model.specs.disk_model.declared.block.BlockKind.TheVariants.{FileRec}
use Rattle.record_model.specs.disk_model.Sectors.{sectors}

pub kind_of_size : (n : ℕ) (kind : BlockKind) → kind ≡ FileRec → n ≡ 1024 → n ≡ 512 * sectors kind
kind_of_size n kind is size = size ∙ sym (ap (λ (k : BlockKind). 512 * sectors k) is)
