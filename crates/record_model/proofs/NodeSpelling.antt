-- The written spelling of a node is in the table, in 4,096 bytes.
use Rattle.std.proofs.Common.{◌≡◌, ℕ, true, ◌+◌, ◌-◌, ◌*◌, ◌/◌, ◌%◌, ◌^◌, ◌<◌, ◌≤◌, List, [], ◌∷◌, ◌++◌, length, map, take, drop, Option, Some, None, All, refl, sym, ap, ◌∙◌, subst, arith}
use Rattle.std.specs.Prelude.{◌==◌}
use Rattle.std.specs.List.{concat, flat_map}
use Rattle.std.proofs.lemmas.List.Sums.{sum_by-cons}
use Rattle.std.proofs.lemmas.List.{append-nil, length-append, length-drop, drop-drop, take_at, drop_at}
use Rattle.disk_model.specs.host_base.FileRefs.{packed, unpacked}
use Rattle.disk_model.specs.declared.block.BlockKind.TheVariants.{Index}
use Rattle.disk_model.specs.Numbers.{field, spell}
use Rattle.disk_model.specs.Bytes.{part, zeros, up8}
use Rattle.disk_model.specs.Content.{is_signed}
use Rattle.disk_model.specs.Fixups.{array_at, array_count}
use Rattle.disk_model.proofs.Fields.{length-spell}
use Rattle.record_model.specs.declared.entry.Entry.{Entry}
use Rattle.record_model.specs.Attributes.{filled}
use Rattle.record_model.specs.Nodes.{Node, first_entry, used_end, allocated_end, children_flag, entry_bytes, child_flag, SpellsDown, SpellsEntry, SpellsLast, SpellEntries, down_flag, IsNode, down_bytes, last_flag, entry_length, entry_spelling, entries_length, node_used, node_room, children_of, node_head, node_spelling, FitsDown, FitsEntry, FitsLast, FitEntries, FitsNode}
use Rattle.record_model.proofs.UnitBytes.{field_here, length-zeros, length-filled, filled_front}
use Rattle.record_model.proofs.FileNames.{lawful_parts}
use Rattle.record_model.proofs.RecordSpelling.{unpacked-packed}

-- ---- one entry

length-down_bytes : (down : Option ℕ) → length (down_bytes down) ≡ 8 * down_flag down
length-down_bytes None = refl
length-down_bytes (Some vcn) = length-spell 8 vcn

down_flag_small : (down : Option ℕ) → down_flag down ≤ 1
down_flag_small None = omega arith
down_flag_small (Some vcn) = omega arith

module _ (e : Entry) where
  abbrev s : List ℕ
  s = entry_spelling e

  placed : drop 0x10 s ≡ filled 0x10 e.key ++ down_bytes e.down
  unfolding entry_spelling spell zeros
  placed = refl

  behind_head : length s ≡ 0x10 + length (filled 0x10 e.key ++ down_bytes e.down)
  unfolding entry_spelling spell zeros
  behind_head = omega arith

  -- how many bytes an entry takes
  pub length-entry_spelling : length s ≡ entry_length e
  unfolding entry_length
  length-entry_spelling = omega (arith, behind_head, length-append (filled 0x10 e.key) (down_bytes e.down), length-filled 0x10 e.key, length-down_bytes e.down)

  reference_is : e.child.number < 2 ^ 48 → e.child.seq < 2 ^ 16 → field 0x00 8 s ≡ packed e.child
  unfolding entry_spelling spell zeros
  reference_is number seq = field_here 0x00 8 (packed e.child) s (drop 0x08 s) refl (omega arith)

  own_length_is : entry_length e < 2 ^ 16 → field 0x08 2 s ≡ entry_length e
  unfolding entry_spelling spell zeros
  own_length_is short = field_here 0x08 2 (entry_length e) s (drop 0x0A s) refl short

  key_length_is : length e.key < 2 ^ 16 → field 0x0A 2 s ≡ length e.key
  unfolding entry_spelling spell zeros
  key_length_is short = field_here 0x0A 2 (length e.key) s (drop 0x0C s) refl short

  flags_are : down_flag e.down + last_flag e.key < 2 ^ 16 → field 0x0C 2 s ≡ down_flag e.down + last_flag e.key
  unfolding entry_spelling spell zeros
  flags_are short = field_here 0x0C 2 (down_flag e.down + last_flag e.key) s (drop 0x0E s) refl short

  key_is : part 0x10 (length e.key) s ≡ e.key
  key_is =
      let padding = zeros (up8 (0x10 + length e.key) - (0x10 + length e.key)) in
      ap (take (length e.key)) (placed ∙ filled_front 0x10 e.key (down_bytes e.down)) ∙ take_at e.key (padding ++ down_bytes e.down) (length e.key) refl

  down_placed : drop (0x10 + length (filled 0x10 e.key)) s ≡ down_bytes e.down
  down_placed = sym (drop-drop (length (filled 0x10 e.key)) 0x10 s) ∙ ap (drop (length (filled 0x10 e.key))) placed ∙ drop_at (filled 0x10 e.key) (down_bytes e.down) (length (filled 0x10 e.key)) refl

key_short : (e : Entry) → length e.key < entry_length e
unfolding entry_length
key_short e = omega arith

entry_eights : (e : Entry) → entry_length e % 8 ≡ 0
unfolding entry_length
entry_eights e = omega arith

key_room : (e : Entry) → 0x10 + length e.key + 8 * down_flag e.down ≤ entry_length e
unfolding entry_length
key_room e = omega arith

-- the VCN of a child is the last 8 bytes
down_is : (e : Entry) (down : Option ℕ) → e.down ≡ down → FitsDown down → child_flag (entry_spelling e) ≡ down_flag down → SpellsDown (entry_spelling e) down
down_is e None same fits flag = flag
down_is e (Some vcn) same fits flag =
    let s = entry_spelling e in
    let size : length s ≡ 0x10 + length (filled 0x10 e.key) + 8 = omega (arith, behind_head e, length-append (filled 0x10 e.key) (down_bytes e.down), ap length (ap down_bytes same), length-spell 8 vcn) in
    let place : length s - 8 ≡ 0x10 + length (filled 0x10 e.key) = omega (arith, size) in
    let here : drop (length s - 8) s ≡ spell 8 vcn ++ [] = ap (λ (k : ℕ). drop k s) place ∙ down_placed e ∙ ap down_bytes same ∙ sym (append-nil (spell 8 vcn)) in
    (flag, field_here (length s - 8) 8 vcn s [] here fits)

some_key : (key : List ℕ) → 0 < length key → last_flag key ≡ 0
some_key [] some = absurd (omega arith)
some_key (b ∷ key) some = refl

entry_spells : (e : Entry) → FitsEntry e → entry_length e < 2 ^ 16 → SpellsEntry (entry_spelling e) e
entry_spells e fits short =
    let s = entry_spelling e in
    let lawful = lawful_parts e.key fits.key in
    let before : last_flag e.key ≡ 0 = some_key e.key (omega (arith, lawful.size)) in
    let small = down_flag_small e.down in
    let flags : field 0x0C 2 s ≡ down_flag e.down + last_flag e.key = flags_are e (omega (arith, before, small)) in
    let child : child_flag s ≡ down_flag e.down = omega (arith, flags, before, small) in
    let not_last : field 0x0C 2 s / 2 % 2 ≡ 0 = omega (arith, flags, before, small) in
    record {
      reference = ap unpacked (reference_is e fits.number fits.seq) ∙ unpacked-packed e.child fits.number;
      own_length = own_length_is e short ∙ sym (length-entry_spelling e);
      eights = ap (λ (n : ℕ). n % 8) (length-entry_spelling e) ∙ entry_eights e;
      key_length = key_length_is e (omega (arith, key_short e));
      key_inside = omega (arith, length-entry_spelling e, key_room e, child);
      key = key_is e;
      lawful = fits.key;
      before_last = ap (λ (n : ℕ). n == 1) not_last;
      down = down_is e e.down refl fits.down child;
    }

last_spells : (e : Entry) → FitsLast e → entry_length e < 2 ^ 16 → SpellsLast (entry_spelling e) e
last_spells e fits short =
    let s = entry_spelling e in
    let last : last_flag e.key ≡ 2 = ap last_flag (sym fits.no_key) in
    let small = down_flag_small e.down in
    let flags : field 0x0C 2 s ≡ down_flag e.down + last_flag e.key = flags_are e (omega (arith, last, small)) in
    let child : child_flag s ≡ down_flag e.down = omega (arith, flags, last, small) in
    let one : field 0x0C 2 s / 2 % 2 ≡ 1 = omega (arith, flags, last, small) in
    record {
      no_reference = fits.no_reference;
      own_length = own_length_is e short ∙ sym (length-entry_spelling e);
      eights = ap (λ (n : ℕ). n % 8) (length-entry_spelling e) ∙ entry_eights e;
      down_inside = omega (arith, length-entry_spelling e, key_room e, child);
      no_key = fits.no_key;
      last = ap (λ (n : ℕ). n == 1) one;
      down = down_is e e.down refl fits.down child;
    }

-- ---- all entries

entries_spell : (entries : List Entry) → FitEntries entries → entries_length entries < 2 ^ 16 → SpellEntries (map entry_spelling entries) entries
entries_spell [] fit short = absurd fit
entries_spell (e ∷ []) fit short = last_spells e fit (omega (arith, sum_by-cons entry_length e []))
entries_spell (e ∷ f ∷ entries) fit short =
    let parts = sum_by-cons entry_length e (f ∷ entries) in
    (entry_spells e fit.0 (omega (arith, parts)), entries_spell (f ∷ entries) fit.1 (omega (arith, parts)))

joined_spellings : (entries : List Entry) → flat_map entry_spelling entries ≡ concat (map entry_spelling entries)
joined_spellings [] = refl
joined_spellings (e ∷ entries) = ap (λ (x : List ℕ). entry_spelling e ++ x) (joined_spellings entries)

pub length-entry_spellings : (entries : List Entry) → length (flat_map entry_spelling entries) ≡ entries_length entries
length-entry_spellings [] = refl
length-entry_spellings (e ∷ entries) = omega (arith, length-append (entry_spelling e) (flat_map entry_spelling entries), length-entry_spelling e, length-entry_spellings entries, sum_by-cons entry_length e entries)

-- ---- the body

pub node_signed : (n : Node) → is_signed Index (node_spelling n) ≡ true
unfolding node_spelling node_head
node_signed n = refl

pub node_place : (n : Node) → array_at (node_spelling n) ≡ 0x28
unfolding node_spelling node_head spell zeros
node_place n = field_here 0x04 2 0x28 (node_spelling n) (drop 0x06 (node_spelling n)) refl (omega arith)

pub node_count : (n : Node) → array_count (node_spelling n) ≡ 9
unfolding node_spelling node_head spell zeros
node_count n = field_here 0x06 2 9 (node_spelling n) (drop 0x08 (node_spelling n)) refl (omega arith)

pub node_array : (n : Node) → part 0x28 18 (node_spelling n) ≡ zeros 18
unfolding node_spelling node_head spell zeros
node_array n = refl

children_small : (entries : List Entry) → children_of entries ≤ 1
children_small [] = omega arith
children_small (e ∷ entries) = down_flag_small e.down

used_is_length : (entries : List Entry) → node_used entries ≡ 0x28 + entries_length entries
unfolding node_used
used_is_length entries = refl

-- ---- the table

module _ (n : Node) (fits : FitsNode n) where
  abbrev body : List ℕ
  body = node_spelling n

  abbrev node : List ℕ
  node = drop 0x18 body

  abbrev used : ℕ
  used = node_used n.entries

  abbrev entries : List ℕ
  entries = flat_map entry_spelling n.entries

  behind : drop 0x28 node ≡ entries ++ zeros (node_room - used)
  unfolding node_spelling node_head spell zeros
  behind = refl

  size : length body ≡ 0x40 + length (entries ++ zeros (node_room - used))
  unfolding node_spelling node_head spell zeros
  size = omega arith

  pub length-node_spelling : length body ≡ 4096
  length-node_spelling = omega (arith, size, length-append entries (zeros (node_room - used)), length-entry_spellings n.entries, length-zeros (node_room - used), fits.used, used_is_length n.entries)

  lsn_is : field 0x08 8 body ≡ n.lsn
  unfolding node_spelling node_head spell zeros
  lsn_is = field_here 0x08 8 n.lsn body (drop 0x10 body) refl fits.lsn

  vcn_is : field 0x10 8 body ≡ n.vcn
  unfolding node_spelling node_head spell zeros
  vcn_is = field_here 0x10 8 n.vcn body (drop 0x18 body) refl fits.vcn

  first_is : first_entry node ≡ 0x28
  unfolding node_spelling node_head spell zeros
  first_is = field_here 0x00 4 0x28 node (drop 0x04 node) refl (omega arith)

  used_is : used_end node ≡ used
  unfolding node_spelling node_head spell zeros
  used_is = field_here 0x04 4 used node (drop 0x08 node) refl (omega (arith, fits.used))

  allocated_is : allocated_end node ≡ node_room
  unfolding node_spelling node_head spell zeros
  allocated_is = field_here 0x08 4 node_room node (drop 0x0C node) refl (omega arith)

  flag_is : field 0x0C 1 node ≡ children_of n.entries
  unfolding node_spelling node_head spell zeros
  flag_is = field_here 0x0C 1 (children_of n.entries) node (drop 0x0D node) refl (omega (arith, children_small n.entries))

  children_is : children_flag node ≡ children_of n.entries
  children_is = omega (arith, flag_is, children_small n.entries)

  placed_is : entry_bytes node ≡ concat (map entry_spelling n.entries) ++ zeros 0
  unfolding entry_bytes zeros
  placed_is =
      let count : used - 0x28 ≡ length entries = omega (arith, used_is_length n.entries, length-entry_spellings n.entries) in
      ap (λ (k : ℕ). part k (used_end node - k) node) first_is
      ∙ ap (λ (k : ℕ). part 0x28 (k - 0x28) node) used_is
      ∙ ap (take (used - 0x28)) behind
      ∙ take_at entries (zeros (node_room - used)) (used - 0x28) (sym count)
      ∙ joined_spellings n.entries
      ∙ sym (append-nil (concat (map entry_spelling n.entries)))

  pub node_spells : IsNode body n
  node_spells = record {
    signature = node_signed n;
    vcn = vcn_is;
    lsn = lsn_is;
    holds = record {
      first_behind = omega (arith, first_is);
      first_eights = ap (λ (k : ℕ). k % 8) first_is;
      first_inside = omega (arith, first_is, used_is, used_is_length n.entries);
      used = omega (arith, used_is, allocated_is, fits.used);
      allocated = omega (arith, allocated_is, length-drop 0x18 body, length-node_spelling);
      spellings = map entry_spelling n.entries;
      behind = zeros 0;
      placed = placed_is;
      spelled = entries_spell n.entries fits.entries (omega (arith, fits.used, used_is_length n.entries));
      flags = subst (λ (flag : ℕ). All (λ e. down_flag e.down ≡ flag) n.entries) (sym children_is) fits.flags;
    };
  }
