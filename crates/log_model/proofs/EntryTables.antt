-- Entries of the log: what the tests say of the bytes of an entry, and of longer ones.
use Rattle.std.proofs.Common.{◌≡◌, ℕ, ◌+◌, ◌-◌, ◌*◌, ◌/◌, ◌%◌, ◌^◌, ◌<◌, ◌≤◌, true, false, List, length, take, Ok, refl, sym, ap, ◌∙◌, subst, inl, inr, arith}
use Rattle.std.specs.Prelude.{◌==◌}
use Rattle.std.proofs.lemmas.Bool.{eqb-true, eq-eqb}
use Rattle.std.proofs.lemmas.List.{length-take-le}
use Rattle.disk_model.specs.Numbers.{field}
use Rattle.disk_model.specs.Bytes.{AreBytes, part, zeros, up8, all_zeros}
use Rattle.disk_model.proofs.Fields.{field-take, field-lt}
use Rattle.log_model.specs.declared.entry.Entry.{Entry}
use Rattle.log_model.specs.declared.entry.Act.{Act}
use Rattle.log_model.specs.declared.entry.Act.TheVariants.{Update, Commit}
use Rattle.log_model.specs.Entries.{update_operation, commit_operation, head_size, update_size, said_size, is_placed, is_filled, update_fits, commit_fits, update_of, act_at, entry_at, IsPlaced, IsUpdate, IsCommit, IsAct, IsEntry, act_size, entry_size, FitsAct, FitsEntry}
use Rattle.log_model.specs.EntryLaws.{BeginsEntry}
use Rattle.log_model.proofs.EntryRead.{zeros_from_test, zeros_pass, part-take, length-part, FrontParts, UpdateParts, CommitParts, placed_from_test, test_from_placed, small_kind, update_parts, update_from, commit_parts, commit_from, good, Chose, chose, chosen_update, chosen_commit, said_update, said_other, made, entry_parts, entry_from}

filled_is : (at n : ℕ) (bytes : List ℕ) → at + up8 n ≤ length bytes → is_filled at n bytes ≡ true → part (at + n) (up8 n - n) bytes ≡ zeros (up8 n - n)
filled_is at n bytes le h = zeros_from_test (part (at + n) (up8 n - n) bytes) h ∙ ap zeros (length-part (at + n) (up8 n - n) bytes (omega (arith, le)))

low_size : (act : Act) → head_size ≤ act_size act
low_size (Update first kind at redo undo) = omega arith
low_size Commit = omega arith

module _ (bytes : List ℕ) (m : ℕ) (inside : m ≤ length bytes) (long : head_size ≤ m) where
  abbrev s : List ℕ
  s = take m bytes

  size : length s ≡ m
  size = length-take-le m bytes inside

  own : (at n : ℕ) → at + n ≤ head_size → field at n s ≡ field at n bytes
  own at n le = field-take at n m bytes (omega (arith, le, long))

  back : (at n : ℕ) → at + n ≤ head_size → field at n bytes ≡ field at n s
  back at n le = sym (own at n le)

  -- ---- from the tests to the table

  front_table : (e : Entry) → FrontParts bytes → made bytes e.act ≡ e → said_size bytes ≡ m → IsAct s e.act → IsEntry s e
  front_table e p same said act =
      let tx : field 0x24 4 bytes ≡ e.tx = ap (λ (x : Entry). x.tx) same in
      let previous : field 0x08 8 bytes ≡ e.previous = ap (λ (x : Entry). x.previous) same in
      record {
        lsn = own 0x00 8 (omega arith) ∙ ap (λ (x : Entry). x.lsn) same;
        previous = own 0x08 8 (omega arith) ∙ previous;
        undo_next = own 0x10 8 (omega arith) ∙ p.undo_next ∙ previous;
        own_length = ap (λ (x : ℕ). 0x30 + x) (own 0x18 4 (omega arith)) ∙ p.own_length ∙ said ∙ sym size;
        zero = own 0x1C 4 (omega arith) ∙ p.zero;
        kind = own 0x20 4 (omega arith) ∙ p.kind;
        tx = own 0x24 4 (omega arith) ∙ tx;
        some = omega (arith, p.some, tx);
        zero_too = own 0x28 2 (omega arith) ∙ p.zero_too;
        act = act;
      }

  update_table : UpdateParts bytes → field 0x30 2 bytes ≡ update_operation → m ≡ update_size (field 0x36 2 bytes) → IsAct s (update_of bytes)
  unfolding update_of
  update_table p operation whole =
      let n = field 0x36 2 bytes in
      let lcn = field 0x50 8 bytes in
      let sector = field 0x44 2 bytes in
      let redo : List ℕ = part 0x58 n bytes in
      let undo : List ℕ = part (0x58 + up8 n) n bytes in
      let redo_size : length redo ≡ n = length-part 0x58 n bytes (omega (arith, whole, inside)) in
      let undo_size : length undo ≡ n = length-part (0x58 + up8 n) n bytes (omega (arith, whole, inside)) in
      let placed = placed_from_test (field 0x42 2 bytes) sector p.kind p.placed in
      let rest : (8 * lcn + sector) % 8 ≡ sector = omega (arith, placed.0) in
      let front : (8 * lcn + sector) / 8 ≡ lcn = omega (arith, placed.0) in
      record {
        size = size ∙ whole ∙ ap update_size (sym redo_size);
        redo_operation = own 0x30 2 (omega arith) ∙ operation;
        undo_operation = own 0x32 2 (omega arith) ∙ p.undo_operation;
        redo_offset = own 0x34 2 (omega arith) ∙ p.redo_offset;
        redo_length = own 0x36 2 (omega arith) ∙ sym redo_size;
        undo_offset = own 0x38 2 (omega arith) ∙ p.undo_offset ∙ ap (λ (x : ℕ). 0x28 + up8 x) (sym redo_size);
        undo_length = own 0x3A 2 (omega arith) ∙ p.undo_length ∙ sym undo_size;
        target = own 0x3C 2 (omega arith) ∙ p.target;
        clusters = own 0x3E 2 (omega arith) ∙ p.clusters;
        first_byte = own 0x40 2 (omega arith);
        block_kind = own 0x42 2 (omega arith);
        sector = own 0x44 2 (omega arith) ∙ sym rest;
        zero = own 0x46 2 (omega arith) ∙ p.zero;
        vcn = own 0x48 8 (omega arith) ∙ p.vcn;
        lcn = own 0x50 8 (omega arith) ∙ sym front;
        redo_bytes = ap (λ (x : ℕ). part 0x58 x s) redo_size ∙ part-take 0x58 n m bytes (omega (arith, whole));
        redo_zeros = ap (λ (x : ℕ). part (0x58 + x) (up8 x - x) s) redo_size ∙ part-take (0x58 + n) (up8 n - n) m bytes (omega (arith, whole)) ∙ filled_is 0x58 n bytes (omega (arith, whole, inside)) p.redo_zeros ∙ ap (λ (x : ℕ). zeros (up8 x - x)) (sym redo_size);
        undo_bytes = ap (λ (x : ℕ). part (0x58 + up8 x) (length undo) s) redo_size ∙ ap (λ (x : ℕ). part (0x58 + up8 n) x s) undo_size ∙ part-take (0x58 + up8 n) n m bytes (omega (arith, whole));
        undo_zeros = ap (λ (x : ℕ). part (0x58 + up8 x + x) (up8 x - x) s) redo_size ∙ part-take (0x58 + up8 n + n) (up8 n - n) m bytes (omega (arith, whole)) ∙ filled_is (0x58 + up8 n) n bytes (omega (arith, whole, inside)) p.undo_zeros ∙ ap (λ (x : ℕ). zeros (up8 x - x)) (sym redo_size);
        profile = record { wide = omega (arith, p.lcn, placed.0); placed = subst (IsPlaced (field 0x42 2 bytes)) (sym rest) placed.1; some = omega (arith, p.some, redo_size); few = omega (arith, p.few, redo_size); same = undo_size ∙ sym redo_size };
      }

  commit_table : CommitParts bytes → field 0x30 2 bytes ≡ commit_operation → m ≡ head_size → IsAct s Commit
  commit_table p operation whole = record {
    size = size ∙ whole;
    redo_operation = own 0x30 2 (omega arith) ∙ operation;
    undo_operation = own 0x32 2 (omega arith) ∙ p.undo_operation;
    redo_offset = own 0x34 2 (omega arith) ∙ p.redo_offset;
    redo_length = own 0x36 2 (omega arith) ∙ p.redo_length;
    undo_offset = own 0x38 2 (omega arith) ∙ p.undo_offset;
    undo_length = own 0x3A 2 (omega arith) ∙ p.undo_length;
    clusters = own 0x3E 2 (omega arith) ∙ p.clusters;
    first_byte = own 0x40 2 (omega arith) ∙ p.first_byte;
    block_kind = own 0x42 2 (omega arith) ∙ p.block_kind;
    sector = own 0x44 2 (omega arith) ∙ p.sector;
    zero = own 0x46 2 (omega arith) ∙ p.zero;
  }

  -- ---- and back

  table_front : (e : Entry) → IsEntry s e → said_size bytes ≡ m → FrontParts bytes
  table_front e t said =
      let tx : field 0x24 4 bytes ≡ e.tx = back 0x24 4 (omega arith) ∙ t.tx in
      record {
        undo_next = back 0x10 8 (omega arith) ∙ t.undo_next ∙ sym t.previous ∙ own 0x08 8 (omega arith);
        own_length = ap (λ (x : ℕ). 0x30 + x) (back 0x18 4 (omega arith)) ∙ t.own_length ∙ size ∙ sym said;
        inside = omega (arith, said, inside);
        zero = back 0x1C 4 (omega arith) ∙ t.zero;
        kind = back 0x20 4 (omega arith) ∙ t.kind;
        some = omega (arith, t.some, tx);
        zero_too = back 0x28 2 (omega arith) ∙ t.zero_too;
      }

  module _ (first kind at : ℕ) (redo undo : List ℕ) (t : IsUpdate s first kind at redo undo) where
    whole : m ≡ update_size (length redo)
    whole = sym size ∙ t.size

    count : field 0x36 2 bytes ≡ length redo
    count = back 0x36 2 (omega arith) ∙ t.redo_length

    kind_is : field 0x42 2 bytes ≡ kind
    kind_is = back 0x42 2 (omega arith) ∙ t.block_kind

    sector_is : field 0x44 2 bytes ≡ first % 8
    sector_is = back 0x44 2 (omega arith) ∙ t.sector

    lcn_is : field 0x50 8 bytes ≡ first / 8
    lcn_is = back 0x50 8 (omega arith) ∙ t.lcn

    operation_is : field 0x30 2 bytes ≡ update_operation
    operation_is = back 0x30 2 (omega arith) ∙ t.redo_operation

    zeros_here : (at : ℕ) → at + up8 (length redo) ≤ m → part (at + length redo) (up8 (length redo) - length redo) s ≡ zeros (up8 (length redo) - length redo) → is_filled at (length redo) bytes ≡ true
    zeros_here at le e =
        ap all_zeros (sym (part-take (at + length redo) (up8 (length redo) - length redo) m bytes (omega (arith, le))) ∙ e) ∙ zeros_pass (up8 (length redo) - length redo)

    table_parts : UpdateParts bytes
    table_parts = record {
      undo_operation = back 0x32 2 (omega arith) ∙ t.undo_operation;
      redo_offset = back 0x34 2 (omega arith) ∙ t.redo_offset;
      some = omega (arith, count, t.profile.some);
      few = omega (arith, count, t.profile.few);
      undo_offset = back 0x38 2 (omega arith) ∙ t.undo_offset ∙ ap (λ (x : ℕ). 0x28 + up8 x) (sym count);
      undo_length = back 0x3A 2 (omega arith) ∙ t.undo_length ∙ t.profile.same ∙ sym count;
      target = back 0x3C 2 (omega arith) ∙ t.target;
      clusters = back 0x3E 2 (omega arith) ∙ t.clusters;
      kind = omega (arith, kind_is, small_kind kind (first % 8) t.profile.placed);
      placed = ap (λ (x : ℕ). is_placed x (field 0x44 2 bytes)) kind_is ∙ ap (is_placed kind) sector_is ∙ test_from_placed kind (first % 8) (omega arith) t.profile.placed;
      zero = back 0x46 2 (omega arith) ∙ t.zero;
      vcn = back 0x48 8 (omega arith) ∙ t.vcn;
      lcn = omega (arith, lcn_is, t.profile.wide);
      redo_zeros = ap (λ (x : ℕ). is_filled 0x58 x bytes) count ∙ zeros_here 0x58 (omega (arith, whole)) t.redo_zeros;
      undo_zeros = ap (λ (x : ℕ). is_filled (0x58 + up8 x) x bytes) count ∙ zeros_here (0x58 + up8 (length redo)) (omega (arith, whole)) t.undo_zeros;
    }

    redo_here : part 0x58 (field 0x36 2 bytes) bytes ≡ redo
    redo_here = ap (λ (x : ℕ). part 0x58 x bytes) count ∙ sym (part-take 0x58 (length redo) m bytes (omega (arith, whole))) ∙ t.redo_bytes

    undo_here : part (0x58 + up8 (field 0x36 2 bytes)) (field 0x36 2 bytes) bytes ≡ undo
    undo_here =
        ap (λ (x : ℕ). part (0x58 + up8 x) x bytes) (count ∙ sym t.profile.same)
        ∙ ap (λ (x : ℕ). part (0x58 + up8 x) (length undo) bytes) t.profile.same
        ∙ sym (part-take (0x58 + up8 (length redo)) (length undo) m bytes (omega (arith, whole, t.profile.same)))
        ∙ t.undo_bytes

    value_here : update_of bytes ≡ Update first kind at redo undo
    unfolding update_of
    value_here =
        let n = field 0x36 2 bytes in
        let first_is : 8 * field 0x50 8 bytes + field 0x44 2 bytes ≡ first = omega (arith, lcn_is, sector_is) in
        ap (λ (x : ℕ). Update x (field 0x42 2 bytes) (field 0x40 2 bytes) (part 0x58 n bytes) (part (0x58 + up8 n) n bytes)) first_is
        ∙ ap (λ (x : ℕ). Update first x (field 0x40 2 bytes) (part 0x58 n bytes) (part (0x58 + up8 n) n bytes)) kind_is
        ∙ ap (λ (x : ℕ). Update first kind x (part 0x58 n bytes) (part (0x58 + up8 n) n bytes)) (back 0x40 2 (omega arith) ∙ t.first_byte)
        ∙ ap (λ (x : List ℕ). Update first kind at x (part (0x58 + up8 n) n bytes)) redo_here
        ∙ ap (Update first kind at redo) undo_here

    update_act : act_at bytes ≡ Ok (Update first kind at redo undo)
    unfolding act_at
    update_act =
        chosen_update (field 0x30 2 bytes == update_operation) (field 0x30 2 bytes == commit_operation) (update_fits bytes) (commit_fits bytes) (update_of bytes) (eq-eqb _ _ operation_is) (update_from bytes table_parts)
        ∙ ap good value_here

    update_said : said_size bytes ≡ m
    update_said = said_update bytes operation_is ∙ ap update_size count ∙ sym whole

  module _ (t : IsCommit s) where
    other : (field 0x30 2 bytes == update_operation) ≡ false
    other = ap (λ (x : ℕ). x == update_operation) (back 0x30 2 (omega arith) ∙ t.redo_operation)

    commit_act : act_at bytes ≡ Ok Commit
    unfolding act_at
    commit_act =
        chosen_commit (field 0x30 2 bytes == update_operation) (field 0x30 2 bytes == commit_operation) (update_fits bytes) (commit_fits bytes) (update_of bytes) other (eq-eqb _ _ (back 0x30 2 (omega arith) ∙ t.redo_operation))
        (commit_from bytes record {
          undo_operation = back 0x32 2 (omega arith) ∙ t.undo_operation;
          redo_offset = back 0x34 2 (omega arith) ∙ t.redo_offset;
          redo_length = back 0x36 2 (omega arith) ∙ t.redo_length;
          undo_offset = back 0x38 2 (omega arith) ∙ t.undo_offset;
          undo_length = back 0x3A 2 (omega arith) ∙ t.undo_length;
          clusters = back 0x3E 2 (omega arith) ∙ t.clusters;
          first_byte = back 0x40 2 (omega arith) ∙ t.first_byte;
          block_kind = back 0x42 2 (omega arith) ∙ t.block_kind;
          sector = back 0x44 2 (omega arith) ∙ t.sector;
          zero = back 0x46 2 (omega arith) ∙ t.zero;
        })

    commit_said : said_size bytes ≡ m
    commit_said = said_other bytes other ∙ sym (sym size ∙ t.size)

  table_act : (act : Act) → IsAct s act → (said_size bytes ≡ m) × (act_at bytes ≡ Ok act)
  table_act (Update first kind at redo undo) t = (update_said first kind at redo undo t, update_act first kind at redo undo t)
  table_act Commit t = (commit_said t, commit_act t)

  table_made : (e : Entry) → IsEntry s e → made bytes e.act ≡ e
  table_made e t =
      ap (λ (x : ℕ). make x (field 0x08 8 bytes) (field 0x24 4 bytes)) (back 0x00 8 (omega arith) ∙ t.lsn)
      ∙ ap (λ (x : ℕ). make e.lsn x (field 0x24 4 bytes)) (back 0x08 8 (omega arith) ∙ t.previous)
      ∙ ap (make e.lsn e.previous) (back 0x24 4 (omega arith) ∙ t.tx)
    where
      make : ℕ → ℕ → ℕ → Entry
      make lsn previous tx = record { lsn = lsn; previous = previous; tx = tx; act = e.act }

  pub table_entry : (e : Entry) → IsEntry s e → entry_at bytes ≡ Ok e
  table_entry e t =
      let act = table_act e.act t.act in
      entry_from bytes e record { long = omega (arith, long, inside); front = table_front e t act.0; act = act.1; same = table_made e t }

-- ---- what is read is in the table

abbrev Sized : List ℕ → Act → Type 0
Sized bytes act = (said_size bytes ≡ act_size act) × (head_size ≤ said_size bytes) × IsAct (take (said_size bytes) bytes) act

sized_update : (bytes : List ℕ) → said_size bytes ≤ length bytes → field 0x30 2 bytes ≡ update_operation → UpdateParts bytes → Sized bytes (update_of bytes)
unfolding update_of
sized_update bytes inside operation p =
    let n = field 0x36 2 bytes in
    let said : said_size bytes ≡ update_size n = said_update bytes operation in
    let long : head_size ≤ said_size bytes = omega (arith, said) in
    let count : length (part 0x58 n bytes) ≡ n = length-part 0x58 n bytes (omega (arith, said, inside)) in
    (said ∙ ap update_size (sym count), long, update_table bytes (said_size bytes) inside long p operation said)

sized_commit : (bytes : List ℕ) → said_size bytes ≤ length bytes → (field 0x30 2 bytes == update_operation) ≡ false → field 0x30 2 bytes ≡ commit_operation → CommitParts bytes → Sized bytes Commit
sized_commit bytes inside other operation p =
    let said : said_size bytes ≡ head_size = said_other bytes other in
    let long : head_size ≤ said_size bytes = omega (arith, said) in
    (said, long, commit_table bytes (said_size bytes) inside long p operation said)

sized_act : (bytes : List ℕ) (act : Act) → said_size bytes ≤ length bytes → act_at bytes ≡ Ok act → Sized bytes act
unfolding act_at
sized_act bytes act inside h =
    let u = field 0x30 2 bytes == update_operation in
    let c = field 0x30 2 bytes == commit_operation in
    by (chose u c (update_fits bytes) (commit_fits bytes) (update_of bytes) act h)
  where
    by : Chose (field 0x30 2 bytes == update_operation) (field 0x30 2 bytes == commit_operation) (update_fits bytes) (commit_fits bytes) (update_of bytes) act → Sized bytes act
    by (inl (is, fits, same)) = subst (Sized bytes) same (sized_update bytes inside (eqb-true _ _ is) (update_parts bytes fits))
    by (inr (isnt, is, fits, same)) = subst (Sized bytes) same (sized_commit bytes inside isnt (eqb-true _ _ is) (commit_parts bytes fits))

pub read_table : (bytes : List ℕ) (e : Entry) → entry_at bytes ≡ Ok e → BeginsEntry bytes e
read_table bytes e h =
    let p = entry_parts bytes e h in
    let z = sized_act bytes e.act p.front.inside p.act in
    let said : said_size bytes ≡ entry_size e = z.0 in
    let table : IsEntry (take (said_size bytes) bytes) e = front_table bytes (said_size bytes) p.front.inside z.1 e p.front p.same refl z.2 in
    record { inside = subst (λ (m : ℕ). m ≤ length bytes) said p.front.inside; own = subst (λ (m : ℕ). IsEntry (take m bytes) e) said table }

pub table_read : (bytes : List ℕ) (e : Entry) → BeginsEntry bytes e → entry_at bytes ≡ Ok e
table_read bytes e b = table_entry bytes (entry_size e) b.inside (low_size e.act) e b.own

-- ---- what is read has a spelling

act_fits : (act : Act) (s : List ℕ) → field 0x40 2 s < 256 ^ 2 → IsAct s act → FitsAct act
act_fits (Update first kind at redo undo) s low t = (subst (λ (x : ℕ). x < 2 ^ 16) t.first_byte low, t.profile)
act_fits Commit s low t = tt

pub read_fits : (bytes : List ℕ) (e : Entry) → AreBytes bytes → entry_at bytes ≡ Ok e → FitsEntry e
read_fits bytes e each h =
    let p = entry_parts bytes e h in
    let b = read_table bytes e h in
    let m = entry_size e in
    let place : field 0x40 2 (take m bytes) ≡ field 0x40 2 bytes = field-take 0x40 2 m bytes (omega (arith, low_size e.act)) in
    let tx : field 0x24 4 bytes ≡ e.tx = ap (λ (x : Entry). x.tx) p.same in
    record {
      lsn = subst (λ (x : ℕ). x < 2 ^ 64) (ap (λ (x : Entry). x.lsn) p.same) (field-lt 0x00 8 bytes each);
      previous = subst (λ (x : ℕ). x < 2 ^ 64) (ap (λ (x : Entry). x.previous) p.same) (field-lt 0x08 8 bytes each);
      some = b.own.some;
      tx = subst (λ (x : ℕ). x < 2 ^ 32) tx (field-lt 0x24 4 bytes each);
      act = act_fits e.act (take m bytes) (subst (λ (x : ℕ). x < 256 ^ 2) (sym place) (field-lt 0x40 2 bytes each)) b.own.act;
    }
