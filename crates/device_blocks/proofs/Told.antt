-- What a piece tells of check words.
use Rattle.std.proofs.Common.{◌≡◌, ℕ, List, Option, Some, None, refl, sym, ap, ◌∙◌, inr}
use Rattle.std.specs.Prelude.{IfSome}
use Rattle.disk_model.specs.declared.block.Block.{Block}
use Rattle.disk_model.specs.declared.block.BlockKind.{BlockKind}
use Rattle.disk_model.specs.declared.block.BlockKind.TheVariants.{Plain}
use Rattle.disk_model.specs.Sectors.{sector_of, sectors, raw_from}
use Rattle.fixup_record.specs.Spellings.{is_sequenced}
use Rattle.device_blocks.specs.declared.word.CheckWord.{CheckWord}
use Rattle.device_blocks.specs.declared.word.CheckWord.TheVariants.{Missing}
use Rattle.device_blocks.specs.Words.{stood_check, read_word, IsToldOf}
use Rattle.device_blocks.proofs.Stood.{stood_plain}

-- the word that stands in the block's raw bytes
pub told_by : (gives : Option (List (List ℕ))) (word : CheckWord) (block : Block) (raw : List ℕ) (n : ℕ) → IfSome gives (λ disk. raw ≡ raw_from (sector_of disk) block.first n) → n ≡ sectors block.kind
    → word ≡ read_word (stood_check block.kind raw) → IfSome gives (IsToldOf word block)
told_by None word block raw n is count stands = tt
told_by (Some disk) word block raw n is count stands =
    inr (stands ∙ ap (λ (r : List ℕ). read_word (stood_check block.kind r)) (is ∙ ap (raw_from (sector_of disk) block.first) count))

-- a plain block has none
pub plain_told : (gives : Option (List (List ℕ))) (block : Block) → block.kind ≡ Plain → IfSome gives (IsToldOf Missing block)
plain_told None block e = tt
plain_told (Some disk) block e =
    let raw = raw_from (sector_of disk) block.first (sectors block.kind) in
    inr (sym (ap read_word (stood_plain block.kind raw (ap (λ (k : BlockKind). is_sequenced k raw) e))))
