-- The written spelling of an entry is in the table, and is read again.
use Rattle.std.proofs.Common.{◌≡◌, ℕ, ◌+◌, ◌-◌, ◌/◌, ◌%◌, ◌^◌, ◌<◌, ◌≤◌, List, [], ◌++◌, length, take, drop, Ok, refl, sym, ap, ◌∙◌, subst, arith}
use Rattle.std.proofs.lemmas.List.{append_assoc, append-nil, length-append, length-drop, length-replicate, drop-drop, drop_at, take_at}
use Rattle.disk_model.specs.Numbers.{field, spell}
use Rattle.disk_model.specs.Bytes.{part, zeros, up8}
use Rattle.disk_model.proofs.Fields.{field-drop, field-spell}
use Rattle.log_model.specs.declared.entry.Entry.{Entry}
use Rattle.log_model.specs.declared.entry.Act.{Act}
use Rattle.log_model.specs.declared.entry.Act.TheVariants.{Update, Commit}
use Rattle.log_model.specs.Entries.{update_operation, head_size, update_size, entry_at, InProfile, IsUpdate, IsCommit, IsEntry, act_size, entry_size, filled, front_spelling, update_spelling, commit_spelling, entry_spelling, FitsEntry}
use Rattle.log_model.proofs.EntryRead.{small_kind}
use Rattle.log_model.proofs.EntryTables.{table_read}

-- a number that is spelled at a place is read there
field_here : (at n value : ℕ) (s rest : List ℕ) → drop at s ≡ spell n value ++ rest → value < 256 ^ n → field at n s ≡ value
field_here at n value s rest e small =
    let place : at ≡ at + 0 = omega arith in
    ap (λ (x : ℕ). field x n s) place ∙ sym (field-drop 0 n at s) ∙ ap (field 0 n) e ∙ field-spell 0 n value [] rest refl small

pub length-zeros : (n : ℕ) → length (zeros n) ≡ n
unfolding zeros
length-zeros n = length-replicate n 0

pub length-filled : (bytes : List ℕ) → length (filled bytes) ≡ up8 (length bytes)
unfolding filled
length-filled bytes = omega (arith, length-append bytes (zeros (up8 (length bytes) - length bytes)), length-zeros (up8 (length bytes) - length bytes))

-- ---- bytes that are filled up

module _ (s bytes rest : List ℕ) (at : ℕ) (placed : drop at s ≡ filled bytes ++ rest) where
  abbrev left : ℕ
  left = up8 (length bytes) - length bytes

  apart : drop at s ≡ bytes ++ (zeros left ++ rest)
  unfolding filled
  apart = placed ∙ append_assoc bytes (zeros left) rest

  bytes_here : part at (length bytes) s ≡ bytes
  bytes_here = ap (take (length bytes)) apart ∙ take_at bytes (zeros left ++ rest) (length bytes) refl

  zeros_here : part (at + length bytes) left s ≡ zeros left
  zeros_here =
      ap (take left) (sym (drop-drop (length bytes) at s) ∙ ap (drop (length bytes)) apart ∙ drop_at bytes (zeros left ++ rest) (length bytes) refl) ∙ take_at (zeros left) rest left (length-zeros left)

  rest_here : drop (at + up8 (length bytes)) s ≡ rest
  rest_here = sym (drop-drop (up8 (length bytes)) at s) ∙ ap (drop (up8 (length bytes))) placed ∙ drop_at (filled bytes) rest (up8 (length bytes)) (length-filled bytes)

-- ---- an update

module _ (lsn previous tx first kind at : ℕ) (redo undo : List ℕ) where
  abbrev update : Entry
  update = record { lsn = lsn; previous = previous; tx = tx; act = Update first kind at redo undo }

  abbrev us : List ℕ
  us = entry_spelling update

  update_after : drop 0x58 us ≡ filled redo ++ filled undo
  unfolding entry_spelling front_spelling update_spelling spell zeros
  update_after = refl

  update_long : 0x58 ≤ length us
  unfolding entry_spelling front_spelling update_spelling spell zeros
  update_long = omega arith

  length-update : length us ≡ head_size + (up8 (length redo) + up8 (length undo))
  length-update =
      let rest : length (drop 0x58 us) ≡ length (filled redo) + length (filled undo) = ap length update_after ∙ length-append (filled redo) (filled undo) in
      omega (arith, update_long, rest, length-drop 0x58 us, length-filled redo, length-filled undo)

  module _ (fits : FitsEntry update) where
    abbrev profile : InProfile first kind redo undo
    profile = fits.act.1

    abbrev n : ℕ
    n = length redo

    few : length redo ≤ 1900
    few = profile.few

    whole : length us ≡ update_size n
    whole = omega (arith, length-update, ap up8 profile.same)

    undo_placed : drop (0x58 + up8 n) us ≡ filled undo ++ []
    undo_placed = rest_here us redo (filled undo) 0x58 update_after ∙ sym (append-nil (filled undo))

    lsn_is : field 0x00 8 us ≡ lsn
    unfolding entry_spelling front_spelling update_spelling spell zeros
    lsn_is = field_here 0x00 8 lsn us (drop 0x08 us) refl fits.lsn

    previous_is : field 0x08 8 us ≡ previous
    unfolding entry_spelling front_spelling update_spelling spell zeros
    previous_is = field_here 0x08 8 previous us (drop 0x10 us) refl fits.previous

    undo_next_is : field 0x10 8 us ≡ previous
    unfolding entry_spelling front_spelling update_spelling spell zeros
    undo_next_is = field_here 0x10 8 previous us (drop 0x18 us) refl fits.previous

    client_is : field 0x18 4 us ≡ update_size n - 0x30
    unfolding entry_spelling front_spelling update_spelling spell zeros
    client_is = field_here 0x18 4 (update_size n - 0x30) us (drop 0x1C us) refl (omega (arith, few))

    zero_is : field 0x1C 4 us ≡ 0
    unfolding entry_spelling front_spelling update_spelling spell zeros
    zero_is = field_here 0x1C 4 0 us (drop 0x20 us) refl (omega arith)

    record_is : field 0x20 4 us ≡ 1
    unfolding entry_spelling front_spelling update_spelling spell zeros
    record_is = field_here 0x20 4 1 us (drop 0x24 us) refl (omega arith)

    tx_is : field 0x24 4 us ≡ tx
    unfolding entry_spelling front_spelling update_spelling spell zeros
    tx_is = field_here 0x24 4 tx us (drop 0x28 us) refl fits.tx

    zero_too_is : field 0x28 2 us ≡ 0
    unfolding entry_spelling front_spelling update_spelling spell zeros
    zero_too_is = field_here 0x28 2 0 us (drop 0x2A us) refl (omega arith)

    redo_operation_is : field 0x30 2 us ≡ update_operation
    unfolding entry_spelling front_spelling update_spelling spell zeros
    redo_operation_is = field_here 0x30 2 update_operation us (drop 0x32 us) refl (omega arith)

    undo_operation_is : field 0x32 2 us ≡ update_operation
    unfolding entry_spelling front_spelling update_spelling spell zeros
    undo_operation_is = field_here 0x32 2 update_operation us (drop 0x34 us) refl (omega arith)

    redo_offset_is : field 0x34 2 us ≡ 0x28
    unfolding entry_spelling front_spelling update_spelling spell zeros
    redo_offset_is = field_here 0x34 2 0x28 us (drop 0x36 us) refl (omega arith)

    redo_length_is : field 0x36 2 us ≡ n
    unfolding entry_spelling front_spelling update_spelling spell zeros
    redo_length_is = field_here 0x36 2 n us (drop 0x38 us) refl (omega (arith, few))

    undo_offset_is : field 0x38 2 us ≡ 0x28 + up8 n
    unfolding entry_spelling front_spelling update_spelling spell zeros
    undo_offset_is = field_here 0x38 2 (0x28 + up8 n) us (drop 0x3A us) refl (omega (arith, few))

    undo_length_is : field 0x3A 2 us ≡ n
    unfolding entry_spelling front_spelling update_spelling spell zeros
    undo_length_is = field_here 0x3A 2 n us (drop 0x3C us) refl (omega (arith, few))

    target_is : field 0x3C 2 us ≡ 0
    unfolding entry_spelling front_spelling update_spelling spell zeros
    target_is = field_here 0x3C 2 0 us (drop 0x3E us) refl (omega arith)

    clusters_is : field 0x3E 2 us ≡ 1
    unfolding entry_spelling front_spelling update_spelling spell zeros
    clusters_is = field_here 0x3E 2 1 us (drop 0x40 us) refl (omega arith)

    first_byte_is : field 0x40 2 us ≡ at
    unfolding entry_spelling front_spelling update_spelling spell zeros
    first_byte_is = field_here 0x40 2 at us (drop 0x42 us) refl fits.act.0

    block_kind_is : field 0x42 2 us ≡ kind
    unfolding entry_spelling front_spelling update_spelling spell zeros
    block_kind_is = field_here 0x42 2 kind us (drop 0x44 us) refl (omega (arith, small_kind kind (first % 8) profile.placed))

    sector_is : field 0x44 2 us ≡ first % 8
    unfolding entry_spelling front_spelling update_spelling spell zeros
    sector_is = field_here 0x44 2 (first % 8) us (drop 0x46 us) refl (omega arith)

    gap_is : field 0x46 2 us ≡ 0
    unfolding entry_spelling front_spelling update_spelling spell zeros
    gap_is = field_here 0x46 2 0 us (drop 0x48 us) refl (omega arith)

    vcn_is : field 0x48 8 us ≡ 0
    unfolding entry_spelling front_spelling update_spelling spell zeros
    vcn_is = field_here 0x48 8 0 us (drop 0x50 us) refl (omega arith)

    lcn_is : field 0x50 8 us ≡ first / 8
    unfolding entry_spelling front_spelling update_spelling spell zeros
    lcn_is = field_here 0x50 8 (first / 8) us (drop 0x58 us) refl (omega (arith, profile.wide))

    update_act : IsUpdate us first kind at redo undo
    update_act = record {
      size = whole;
      redo_operation = redo_operation_is;
      undo_operation = undo_operation_is;
      redo_offset = redo_offset_is;
      redo_length = redo_length_is;
      undo_offset = undo_offset_is;
      undo_length = undo_length_is ∙ sym profile.same;
      target = target_is;
      clusters = clusters_is;
      first_byte = first_byte_is;
      block_kind = block_kind_is;
      sector = sector_is;
      zero = gap_is;
      vcn = vcn_is;
      lcn = lcn_is;
      redo_bytes = bytes_here us redo (filled undo) 0x58 update_after;
      redo_zeros = zeros_here us redo (filled undo) 0x58 update_after;
      undo_bytes = bytes_here us undo [] (0x58 + up8 n) undo_placed;
      undo_zeros = ap (λ (x : ℕ). part (0x58 + up8 n + x) (up8 x - x) us) (sym profile.same) ∙ zeros_here us undo [] (0x58 + up8 n) undo_placed ∙ ap (λ (x : ℕ). zeros (up8 x - x)) profile.same;
      profile = profile;
    }

    update_entry : IsEntry us update
    update_entry = record {
      lsn = lsn_is;
      previous = previous_is;
      undo_next = undo_next_is;
      own_length = omega (arith, client_is, whole);
      zero = zero_is;
      kind = record_is;
      tx = tx_is;
      some = fits.some;
      zero_too = zero_too_is;
      act = update_act;
    }

-- ---- a commit

module _ (lsn previous tx : ℕ) where
  abbrev commit : Entry
  commit = record { lsn = lsn; previous = previous; tx = tx; act = Commit }

  abbrev cs : List ℕ
  cs = entry_spelling commit

  length-commit : length cs ≡ head_size
  unfolding entry_spelling front_spelling commit_spelling spell zeros
  length-commit = refl

  module _ (fits : FitsEntry commit) where
    lsn_of : field 0x00 8 cs ≡ lsn
    unfolding entry_spelling front_spelling commit_spelling spell zeros
    lsn_of = field_here 0x00 8 lsn cs (drop 0x08 cs) refl fits.lsn

    previous_of : field 0x08 8 cs ≡ previous
    unfolding entry_spelling front_spelling commit_spelling spell zeros
    previous_of = field_here 0x08 8 previous cs (drop 0x10 cs) refl fits.previous

    undo_next_of : field 0x10 8 cs ≡ previous
    unfolding entry_spelling front_spelling commit_spelling spell zeros
    undo_next_of = field_here 0x10 8 previous cs (drop 0x18 cs) refl fits.previous

    client_of : field 0x18 4 cs ≡ 0x28
    unfolding entry_spelling front_spelling commit_spelling spell zeros
    client_of = field_here 0x18 4 0x28 cs (drop 0x1C cs) refl (omega arith)

    tx_of : field 0x24 4 cs ≡ tx
    unfolding entry_spelling front_spelling commit_spelling spell zeros
    tx_of = field_here 0x24 4 tx cs (drop 0x28 cs) refl fits.tx

    commit_act : IsCommit cs
    unfolding entry_spelling front_spelling commit_spelling spell zeros field
    commit_act = record {
      size = refl;
      redo_operation = refl;
      undo_operation = refl;
      redo_offset = refl;
      redo_length = refl;
      undo_offset = refl;
      undo_length = refl;
      clusters = refl;
      first_byte = refl;
      block_kind = refl;
      sector = refl;
      zero = refl;
    }

    commit_entry : IsEntry cs commit
    unfolding entry_spelling front_spelling commit_spelling spell zeros field
    commit_entry = record {
      lsn = lsn_of;
      previous = previous_of;
      undo_next = undo_next_of;
      own_length = omega (arith, client_of, length-commit);
      zero = refl;
      kind = refl;
      tx = tx_of;
      some = fits.some;
      zero_too = refl;
      act = commit_act;
    }

-- ---- either

abbrev entry_by : ℕ → ℕ → ℕ → Act → Entry
entry_by lsn previous tx act = record { lsn = lsn; previous = previous; tx = tx; act = act }

spelled_by : (act : Act) (lsn previous tx : ℕ) → FitsEntry (entry_by lsn previous tx act) → IsEntry (entry_spelling (entry_by lsn previous tx act)) (entry_by lsn previous tx act)
spelled_by (Update first kind at redo undo) lsn previous tx fits = update_entry lsn previous tx first kind at redo undo fits
spelled_by Commit lsn previous tx fits = commit_entry lsn previous tx fits

size_by : (act : Act) (lsn previous tx : ℕ) → FitsEntry (entry_by lsn previous tx act) → length (entry_spelling (entry_by lsn previous tx act)) ≡ act_size act
size_by (Update first kind at redo undo) lsn previous tx fits = whole lsn previous tx first kind at redo undo fits
size_by Commit lsn previous tx fits = length-commit lsn previous tx

pub spelled_table : (e : Entry) → FitsEntry e → IsEntry (entry_spelling e) e
spelled_table e fits = spelled_by e.act e.lsn e.previous e.tx fits

pub length-entry_spelling : (e : Entry) → FitsEntry e → length (entry_spelling e) ≡ entry_size e
length-entry_spelling e fits = size_by e.act e.lsn e.previous e.tx fits

pub spelled_read : (e : Entry) (rest : List ℕ) → FitsEntry e → entry_at (entry_spelling e ++ rest) ≡ Ok e
spelled_read e rest fits =
    let s = entry_spelling e in
    let size = length-entry_spelling e fits in
    let front : take (entry_size e) (s ++ rest) ≡ s = take_at s rest (entry_size e) size in
    table_read (s ++ rest) e record { inside = omega (arith, length-append s rest, size); own = subst (λ (x : List ℕ). IsEntry x e) (sym front) (spelled_table e fits) }
