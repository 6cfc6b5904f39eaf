-- The spelling of a root is in the table.
use Rattle.std.proofs.Common.{◌≡◌, ℕ, ◌+◌, ◌-◌, ◌%◌, ◌≤◌, List, [], ◌∷◌, ◌++◌, length, take, drop, All, Option, Some, None, refl, sym, ap, ◌∙◌, subst, arith}
use Rattle.std.specs.List.{flat_map}
use Rattle.std.proofs.lemmas.List.{append-nil, length-append, length-drop, take_at}
use Rattle.disk_model.specs.Numbers.{field, spell}
use Rattle.disk_model.specs.Bytes.{part, written, zeros}
use Rattle.index_node.proofs.Placing.{put_first, put_next, all_put}
use Rattle.record_model.specs.declared.entry.Entry.{Entry}
use Rattle.record_model.specs.Nodes.{Node, first_entry, used_end, allocated_end, children_flag, entry_bytes, down_flag, entry_spelling, entries_length, node_used, node_room, children_of, node_head, node_spelling, HoldsEntries, IsRoot, FitsNode}
use Rattle.record_model.proofs.UnitBytes.{field_here}
use Rattle.record_model.proofs.NodeSpelling.{length-entry_spellings, node_spells}
use Rattle.record_model.proofs.NodeTables.{ok_from_root}
use Rattle.index_node.specs.Roots.{root_used, root_head, root_spelling, new_node, HaveSpelling}
use Rattle.index_node.specs.RootLaws.{RootReadAgain, SpelledInEachBlock}

pub used_is : (entries : List Entry) → root_used entries ≡ 0x10 + entries_length entries
unfolding root_used
used_is entries = refl

pub node_used_is : (entries : List Entry) → node_used entries ≡ 0x28 + entries_length entries
unfolding node_used
node_used_is entries = refl

down_small : (entries : List Entry) → children_of entries ≤ 1
down_small [] = omega arith
down_small (e ∷ entries) = small e.down
  where
    small : (down : Option ℕ) → down_flag down ≤ 1
    small None = omega arith
    small (Some v) = omega arith

-- ---- a block's entries

module _ (n : Node) (fits : FitsNode n) where
  abbrev block : List ℕ
  block = drop 0x18 (node_spelling n)

  pub entries_placed : drop 0x40 (node_spelling n) ≡ flat_map entry_spelling n.entries ++ zeros (node_room - node_used n.entries)
  unfolding node_spelling node_head spell zeros
  entries_placed = refl

  block_first : first_entry block ≡ 0x28
  unfolding node_spelling node_head spell zeros
  block_first = field_here 0x00 4 0x28 block (drop 0x04 block) refl (omega arith)

  block_used : used_end block ≡ node_used n.entries
  unfolding node_spelling node_head spell zeros
  block_used = field_here 0x04 4 (node_used n.entries) block (drop 0x08 block) refl (omega (arith, fits.used))

  block_flag : field 0x0C 1 block ≡ children_of n.entries
  unfolding node_spelling node_head spell zeros
  block_flag = field_here 0x0C 1 (children_of n.entries) block (drop 0x0D block) refl (omega (arith, down_small n.entries))

  block_bytes : entry_bytes block ≡ flat_map entry_spelling n.entries
  unfolding entry_bytes node_spelling node_head spell
  block_bytes =
      let count : node_used n.entries - 0x28 ≡ length (flat_map entry_spelling n.entries) = omega (arith, node_used_is n.entries, length-entry_spellings n.entries) in
      ap (λ (k : ℕ). part k (used_end block - k) block) block_first
      ∙ ap (λ (k : ℕ). part 0x28 (k - 0x28) block) block_used
      ∙ ap (take (node_used n.entries - 0x28)) entries_placed
      ∙ take_at (flat_map entry_spelling n.entries) (zeros (node_room - node_used n.entries)) (node_used n.entries - 0x28) (sym count)

  -- the entries' bytes in a block
  pub entries_part : (bytes : ℕ) → bytes ≡ entries_length n.entries → part 0x40 bytes (node_spelling n) ≡ flat_map entry_spelling n.entries
  entries_part bytes e =
      ap (take bytes) entries_placed ∙ take_at (flat_map entry_spelling n.entries) (zeros (node_room - node_used n.entries)) bytes (length-entry_spellings n.entries ∙ sym e)

-- ---- the root

module _ (clusters : ℕ) (entries : List Entry) (fits : HaveSpelling entries) where
  abbrev value : List ℕ
  value = root_spelling clusters entries

  abbrev node : List ℕ
  node = drop 0x10 value

  abbrev spelled : List ℕ
  spelled = flat_map entry_spelling entries

  short : entries_length entries ≤ 4032
  short = omega (arith, fits.used, node_used_is entries)

  size : length value ≡ 0x20 + length spelled
  unfolding root_spelling root_head spell zeros
  size = omega arith

  pub length-root_spelling : length value ≡ 0x20 + entries_length entries
  length-root_spelling = omega (arith, size, length-entry_spellings entries)

  behind : drop 0x10 node ≡ spelled
  unfolding root_spelling root_head spell zeros
  behind = refl

  kind_is : field 0x00 4 value ≡ 0x30
  unfolding root_spelling root_head spell zeros
  kind_is = field_here 0x00 4 0x30 value (drop 0x04 value) refl (omega arith)

  collation_is : field 0x04 4 value ≡ 1
  unfolding root_spelling root_head spell zeros
  collation_is = field_here 0x04 4 1 value (drop 0x08 value) refl (omega arith)

  block_bytes_is : field 0x08 4 value ≡ 4096
  unfolding root_spelling root_head spell zeros
  block_bytes_is = field_here 0x08 4 4096 value (drop 0x0C value) refl (omega arith)

  first_is : first_entry node ≡ 0x10
  unfolding root_spelling root_head spell zeros
  first_is = field_here 0x00 4 0x10 node (drop 0x04 node) refl (omega arith)

  used_end_is : used_end node ≡ root_used entries
  unfolding root_spelling root_head spell zeros
  used_end_is = field_here 0x04 4 (root_used entries) node (drop 0x08 node) refl (omega (arith, short, used_is entries))

  allocated_is : allocated_end node ≡ root_used entries
  unfolding root_spelling root_head spell zeros
  allocated_is = field_here 0x08 4 (root_used entries) node (drop 0x0C node) refl (omega (arith, short, used_is entries))

  flag_is : field 0x0C 1 node ≡ children_of entries
  unfolding root_spelling root_head spell zeros
  flag_is = field_here 0x0C 1 (children_of entries) node (drop 0x0D node) refl (omega (arith, down_small entries))

  bytes_are : entry_bytes node ≡ spelled
  unfolding entry_bytes root_spelling root_head spell
  bytes_are =
      let count : root_used entries - 0x10 ≡ length spelled = omega (arith, used_is entries, length-entry_spellings entries) in
      ap (λ (k : ℕ). part k (used_end node - k) node) first_is
      ∙ ap (λ (k : ℕ). part 0x10 (k - 0x10) node) used_end_is
      ∙ ap (take (root_used entries - 0x10)) behind
      ∙ ap (take (root_used entries - 0x10)) (sym (append-nil spelled))
      ∙ take_at spelled [] (root_used entries - 0x10) (sym count)

  holds : HoldsEntries node entries
  holds =
      let h : HoldsEntries (block (new_node 0 entries) fits) entries = (node_spells (new_node 0 entries) fits).holds in
      let flags : children_flag (block (new_node 0 entries) fits) ≡ children_flag node = ap (λ (k : ℕ). k % 2) (block_flag (new_node 0 entries) fits ∙ sym flag_is) in
      record {
        first_behind = omega (arith, first_is);
        first_eights = ap (λ (k : ℕ). k % 8) first_is;
        first_inside = omega (arith, first_is, used_end_is, used_is entries);
        used = omega (arith, used_end_is, allocated_is);
        allocated = omega (arith, allocated_is, length-drop 0x10 value, length-root_spelling, used_is entries);
        spellings = h.spellings;
        behind = h.behind;
        placed = bytes_are ∙ sym (block_bytes (new_node 0 entries) fits) ∙ h.placed;
        spelled = h.spelled;
        flags = subst (λ (flag : ℕ). All (λ (e : Entry). down_flag e.down ≡ flag) entries) flags h.flags;
      }

  pub root_spells : IsRoot value entries
  root_spells = record {
    size = omega (arith, length-root_spelling);
    kind = kind_is;
    collation = collation_is;
    block_bytes = block_bytes_is;
    holds = holds;
  }

pub root_law : RootReadAgain
root_law = record {
  size = length-root_spelling;
  spelled = root_spells;
  read = λ clusters entries fits. ok_from_root (root_spelling clusters entries) entries (root_spells clusters entries fits);
}

pub each_block : SpelledInEachBlock
each_block vcn entries small fits = record { vcn = small; lsn = fits.lsn; entries = fits.entries; flags = fits.flags; used = fits.used }

-- ---- putting a root

length-root_head : (clusters used flag : ℕ) → length (root_head clusters used flag) ≡ 0x20
unfolding root_head spell zeros
length-root_head clusters used flag = refl

pub root_put : (clusters used flag : ℕ) (entries out a b : List ℕ) → a ≡ written 0 (root_head clusters used flag) out → b ≡ written 0x20 entries a → 0x20 + length entries ≡ length out → b ≡ root_head clusters used flag ++ entries
root_put clusters used flag entries out a b p q size =
    let head = root_head clusters used flag in
    let first = put_first head 0x20 (length-root_head clusters used flag) p in
    (put_next entries (length entries) 0x20 first refl refl q).put ∙ all_put (head ++ entries) out (length-append head entries ∙ ap (λ (k : ℕ). k + length entries) (length-root_head clusters used flag) ∙ size)

pub root_is : (clusters used flag : ℕ) (bytes : List ℕ) (entries : List Entry) → used ≡ 0x10 + entries_length entries → flag ≡ children_of entries → bytes ≡ flat_map entry_spelling entries → root_head clusters used flag ++ bytes ≡ root_spelling clusters entries
unfolding root_spelling root_used
root_is clusters used flag bytes entries u f b =
    ap (λ (k : ℕ). root_head clusters k flag ++ bytes) u ∙ ap (λ (k : ℕ). root_head clusters (0x10 + entries_length entries) k ++ bytes) f ∙ ap (λ (x : List ℕ). root_head clusters (0x10 + entries_length entries) (children_of entries) ++ x) b
