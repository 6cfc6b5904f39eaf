-- What the checks of an entry say when they pass.
use Rattle.std.proofs.Common.{◌≡◌, ℕ, ◌+◌, ◌*◌, ◌^◌, ◌<◌, ◌≤◌, List, length, Result, Ok, Err, sym, arith}
use Rattle.std.specs.Prelude.{nat_le, ◌==◌, ◌&&◌, OnOk, IfOk}
use Rattle.std.proofs.lemmas.Bool.{and_parts, leb-true}
use Rattle.disk_model.specs.host_base.Answers.{Gives}
use Rattle.disk_model.specs.Numbers.{field}
use Rattle.disk_model.specs.Bytes.{AreBytes}
use Rattle.log_model.specs.declared.entry.Entry.{Entry}
use Rattle.log_model.specs.declared.fault.EntryFault.{EntryFault}
use Rattle.log_model.specs.declared.fault.EntryFault.TheVariants.{Shape}
use Rattle.log_model.specs.Entries.{entry_cause, said_size, is_sized, front_fits, update_fits, entry_at, entry_size, FitsEntry}
use Rattle.log_model.proofs.Passing.{four_passed}
use Rattle.log_model.proofs.EntryRead.{update_parts, placed_from_test}
use Rattle.log_model.proofs.EntryTables.{read_table, read_fits}

-- an entry's bytes are there
pub front_inside : (s : List ℕ) (r : Result (Unit {0}) EntryFault) → r ≡ front_fits s → OnOk r (said_size s ≤ length s)
unfolding front_fits is_sized
front_inside s (Ok u) e =
    let a = four_passed (field 0x10 8 s == field 0x08 8 s) (0x30 + field 0x18 4 s == said_size s && nat_le (said_size s) (length s)) (field 0x1C 4 s == 0) (field 0x20 4 s == 1) (Shape 0x10) (Shape 0x18) (Shape 0x1C) (Shape 0x20) (sym e) in
    leb-true _ _ (and_parts (0x30 + field 0x18 4 s == said_size s) (nat_le (said_size s) (length s)) a.1).1
front_inside s (Err f) e = tt

-- the first sector of an update is a number of 64 bits
pub first_low : (s : List ℕ) (r : Result (Unit {0}) EntryFault) → r ≡ update_fits s → OnOk r (8 * field 0x50 8 s + field 0x44 2 s < 2 ^ 64)
first_low s (Ok u) e =
    let p = update_parts s (sym e) in
    let placed = placed_from_test (field 0x42 2 s) (field 0x44 2 s) p.kind p.placed in
    omega (arith, p.lcn, placed.0)
first_low s (Err f) e = tt

-- an entry that was read has a spelling, and its bytes are there
pub answer_fits : (bytes : List ℕ) (r : Result Entry EntryFault) → AreBytes bytes → Gives (λ (e : Entry). e) entry_cause r (entry_at bytes) → IfOk r FitsEntry
answer_fits bytes (Ok e) each is = read_fits bytes e each is
answer_fits bytes (Err f) each is = tt

pub answer_inside : (bytes : List ℕ) (r : Result Entry EntryFault) → Gives (λ (e : Entry). e) entry_cause r (entry_at bytes) → IfOk r (λ (e : Entry). entry_size e ≤ length bytes)
answer_inside bytes (Ok e) is = (read_table bytes e is).inside
answer_inside bytes (Err f) is = tt
