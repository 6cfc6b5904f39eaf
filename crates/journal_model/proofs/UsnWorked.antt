-- The worked record, both ways.
use Rattle.std.proofs.Common.{◌≡◌, ◌++◌, Some, Ok, refl}
use Rattle.record_model.specs.disk_model.Numbers.{field, spell}
use Rattle.record_model.specs.disk_model.Bytes.{zeros, all_zeros}
use Rattle.record_model.specs.Attributes.{units_at, unit_bytes, filled}
use Rattle.journal_model.specs.UsnRecords.{is_whole, is_length, name_units, padding, has_layout, is_usn, usn_of, entry_in, usn_in, usn_at, head_spelling, usn_spelling}
use Rattle.journal_model.specs.UsnVector.{worked_entry, worked_bytes}

pub worked_written : usn_spelling worked_entry ≡ worked_bytes
unfolding usn_spelling head_spelling spell filled zeros unit_bytes
worked_written = refl

pub worked_read : usn_at (zeros 64 ++ worked_bytes) 64 ≡ Ok (Some worked_entry, 64)
unfolding is_whole is_length all_zeros name_units padding has_layout is_usn usn_of entry_in usn_in usn_at field zeros units_at
worked_read = refl
