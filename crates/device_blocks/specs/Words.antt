-- The check word that stands in a block, what is known of it, and the word under which a body is written there.
use Rattle.std.specs.Prelude.{◌≡◌, ◌⊎◌, ⊤, ℕ, List, Option, Some, None, Result, Ok, Err, if◌then◌else◌}
use Rattle.disk_model.specs.declared.block.Block.{Block}
use Rattle.disk_model.specs.declared.block.BlockKind.{BlockKind}
use Rattle.disk_model.specs.declared.fixups.FixupFault.{FixupFault}
use Rattle.disk_model.specs.Fixups.{fixup_of}
use Rattle.disk_model.specs.Sectors.{sector_of, sectors, raw_from}
use Rattle.fixup_record.specs.Protecting.{next_check_word}
use Rattle.fixup_record.specs.Spellings.{is_sequenced}
use Rattle.log_area.specs.Areas.{IsWord}
use Rattle.device_blocks.specs.declared.word.CheckWord.{CheckWord}
use Rattle.device_blocks.specs.declared.word.CheckWord.TheVariants.{Unread, Missing, Stands, Sent}

abbrev pub check_or_none : Result ℕ FixupFault → Option ℕ
check_or_none (Ok check) = Some check
check_or_none (Err fault) = None

-- the check word of raw bytes as a block of this kind, none where they aren't signed or are torn
unfoldable pub stood_check : BlockKind → List ℕ → Option ℕ
stood_check kind raw = if is_sequenced kind raw then check_or_none (fixup_of raw) else None

-- what is known of it once it was read
abbrev pub read_word : Option ℕ → CheckWord
read_word None = Missing
read_word (Some check) = Stands check

-- what is known of the check word of a block that was read on these sectors
abbrev pub word_at : List (List ℕ) → Block → CheckWord
word_at disk block = read_word (stood_check block.kind (raw_from (sector_of disk) block.first (sectors block.kind)))

-- what is told of it there is that, or nothing
abbrev pub IsToldOf : CheckWord → Block → List (List ℕ) → Type 0
IsToldOf word block disk = (word ≡ Unread) ⊎ (word ≡ word_at disk block)

-- the check word of the next write: 1, or the one behind that which stands there
abbrev pub next_word : Option ℕ → ℕ
next_word None = 1
next_word (Some check) = next_check_word check

-- the same of what is known of it: none where the block has to be read first; and a word that was sent is sent again
abbrev pub known_word : CheckWord → Option ℕ
known_word Unread = None
known_word Missing = Some 1
known_word (Stands check) = Some (next_check_word check)
known_word (Sent check) = Some check

-- the word of a body that stands there, written under this one
abbrev pub written_word : BlockKind → List ℕ → ℕ → CheckWord
written_word kind bytes check = if is_sequenced kind bytes then Stands check else Missing

-- the word once the body was changed: what was sent may stand there, so that the next write takes another one
abbrev pub changed_word : CheckWord → CheckWord
changed_word Unread = Unread
changed_word Missing = Missing
changed_word (Stands check) = Stands check
changed_word (Sent check) = Stands check

-- a word that was sent is neither 0 nor FFFF
abbrev pub IsFitWord : CheckWord → Type 0
IsFitWord Unread = ⊤
IsFitWord Missing = ⊤
IsFitWord (Stands check) = ⊤
IsFitWord (Sent check) = IsWord check
