-- How many bytes the regions have, and the root's node.
use Rattle.std.proofs.Common.{◌≡◌, ℕ, zero, suc, ◌*◌, ◌^◌, ◌<◌, ◌≤◌, inl, inr, List, [], ◌∷◌, length, take, drop, None, refl, ap, ◌∙◌, arith, length-append}
use Rattle.std.specs.List.{AllByRecursion}
use Rattle.std.proofs.lemmas.Bool.{cases_lt}
use Rattle.std.proofs.lemmas.List.{take_all, take-append-le, drop-append-le, drop_at, length-drop, length-replicate}
use Rattle.std.proofs.lemmas.List.Elements.{All-from_recursion}
use Rattle.std.proofs.lemmas.List.FromFn.{length-map-range_with_len}
use Rattle.std.proofs.lemmas.List.Sums.{sum_by-cons}
use Rattle.disk_model.specs.Bytes.{zeros, part}
use Rattle.fixup_record.proofs.Protected.{length-protected}
use Rattle.record_model.specs.declared.entry.Entry.{Entry}
use Rattle.record_model.specs.Nodes.{node_spelling, entry_length, entries_length, node_used, down_flag, children_of, FitEntries, FitsEntry, FitsNode, last_entry}
use Rattle.record_model.specs.Records.{record_spelling}
use Rattle.record_model.proofs.RecordSpelling.{length-record_spelling}
use Rattle.record_model.proofs.NodeSpelling.{length-node_spelling}
use Rattle.record_model.proofs.UnitBytes.{length-zeros, length-unit_bytes}
use Rattle.boot_sector.specs.BootSectors.{boot_spelling}
use Rattle.boot_sector.proofs.Spelling.{length-boot_spelling}
use Rattle.upcase_order.specs.Tables.{standard_table}
use Rattle.upcase_order.proofs.Units.{length-standard_units, standard_table-is}
use Rattle.volume_format.specs.declared.layout.Layout.{Layout}
use Rattle.volume_format.specs.Layouts.{IsLayout}
use Rattle.volume_format.specs.Files.{first_check, record_of, record_bytes, table_bytes}
use Rattle.volume_format.specs.Indexes.{entry_of, root_entries, root_node, block_bytes}
use Rattle.volume_format.specs.Images.{boot_of, boot_bytes, record_bits, cluster_bits, cluster_bits_byte, log_bytes, upper_case_bytes}
use Rattle.format_blocks.proofs.Naming.{length-name_value, name_lawful, name_short}
use Rattle.format_blocks.proofs.Recording.{sequence_small, record_fits}

-- ---- the root's node

-- entries of at most so many bytes
entries_short : (entries : List Entry) → AllByRecursion (λ e. entry_length e ≤ 104) entries → entries_length entries ≤ 104 * length entries
entries_short [] short = omega arith
entries_short (e ∷ entries) short = omega (arith, short.0, entries_short entries short.1, sum_by-cons entry_length e entries)

module _ (v : Layout) (layout : IsLayout v) (time : ℕ) (small : time < 2 ^ 64) where
  entry_fits : (n : ℕ) → n < 12 → FitsEntry (entry_of v time n)
  entry_fits n lt = record { number = omega arith; seq = sequence_small n; key = name_lawful v layout time n small lt; down = tt }

  entry_short : (n : ℕ) → n < 12 → entry_length (entry_of v time n) ≤ 104
  unfolding entry_length
  entry_short n lt = omega (arith, length-name_value v time n, name_short n lt)

  last_short : entry_length (last_entry None) ≤ 104
  unfolding entry_length
  last_short = omega arith

  no_downs : AllByRecursion (λ e. down_flag e.down ≡ children_of (root_entries v time)) (root_entries v time)
  unfolding root_entries
  no_downs = (refl, (refl, (refl, (refl, (refl, (refl, (refl, (refl, (refl, (refl, (refl, (refl, (refl, tt)))))))))))))

  entries_fit : FitEntries (root_entries v time)
  unfolding root_entries
  entries_fit =
      let fit = λ (n : ℕ) (lt : n < 12). entry_fits n lt in (
        fit 4 (omega arith),
        (
          fit 8 (omega arith),
          (
            fit 6 (omega arith),
            (
              fit 7 (omega arith),
              (
                fit 11 (omega arith),
                (
                  fit 2 (omega arith),
                  (
                    fit 0 (omega arith),
                    (
                      fit 1 (omega arith),
                      (
                        fit 9 (omega arith),
                        (
                          fit 10 (omega arith),
                          (
                            fit 3 (omega arith),
                            (
                              fit 5 (omega arith),
                              record { no_reference = refl; no_key = refl; down = tt },
                            ),
                          ),
                        ),
                      ),
                    ),
                  ),
                ),
              ),
            ),
          ),
        ),
      )

  each_short : AllByRecursion (λ e. entry_length e ≤ 104) (root_entries v time)
  unfolding root_entries
  each_short =
      let short = λ (n : ℕ) (lt : n < 12). entry_short n lt in (
        short 4 (omega arith),
        (
          short 8 (omega arith),
          (
            short 6 (omega arith),
            (
              short 7 (omega arith),
              (
                short 11 (omega arith),
                (
                  short 2 (omega arith),
                  (
                    short 0 (omega arith),
                    (
                      short 1 (omega arith),
                      (
                        short 9 (omega arith),
                        (
                          short 10 (omega arith),
                          (
                            short 3 (omega arith),
                            (
                              short 5 (omega arith),
                              (last_short, tt),
                            ),
                          ),
                        ),
                      ),
                    ),
                  ),
                ),
              ),
            ),
          ),
        ),
      )

  thirteen : length (root_entries v time) ≡ 13
  unfolding root_entries
  thirteen = refl

  pub node_fits : FitsNode (root_node v time)
  unfolding node_used
  node_fits = record {
    vcn = omega arith;
    lsn = omega arith;
    entries = entries_fit;
    flags = All-from_recursion (λ (e : Entry). down_flag e.down ≡ children_of (root_entries v time)) (root_entries v time) no_downs;
    used = omega (arith, entries_short (root_entries v time) each_short, thirteen);
  }

  pub length-block : length (block_bytes v time) ≡ 4096
  unfolding block_bytes
  length-block = length-protected (node_spelling (root_node v time)) first_check ∙ length-node_spelling (root_node v time) node_fits

  -- ---- the file table

  pub length-record_bytes : (n : ℕ) → n < 64 → length (record_bytes v time n) ≡ 1024
  unfolding record_bytes
  length-record_bytes n lt = length-protected (record_spelling (record_of v time n)) first_check ∙ length-record_spelling (record_of v time n) (record_fits v layout time small n lt)

  pub length-table : (m : ℕ) → m ≤ 64 → length (table_bytes v time m) ≡ 1024 * m
  unfolding table_bytes
  length-table zero le = refl
  length-table (suc m) le = omega (arith, length-append (table_bytes v time m) (record_bytes v time m), length-table m (omega arith), length-record_bytes m (omega arith))

  -- the bytes of a record in the table
  pub record_part : (m n : ℕ) → n < m → m ≤ 64 → part (1024 * n) 1024 (table_bytes v time m) ≡ record_bytes v time n
  unfolding table_bytes
  record_part zero n lt le = absurd (omega arith)
  record_part (suc m) n lt le =
      let front = table_bytes v time m in
      let last = record_bytes v time m in
      let size : length (table_bytes v time m) ≡ 1024 * m = length-table m (omega arith) in
      elim (cases_lt n m) [
        | inl before ↦
            ap (take 1024) (drop-append-le (1024 * n) front last (omega arith))
            ∙ take-append-le 1024 (drop (1024 * n) front) last (omega (arith, length-drop (1024 * n) front))
            ∙ record_part m n before (omega arith)
        | inr here ↦
            let same : m ≡ n = omega arith in
            ap (take 1024) (drop_at front last (1024 * n) (omega arith)) ∙ take_all 1024 last (omega (arith, length-record_bytes m (omega arith))) ∙ ap (record_bytes v time) same
      ]

-- ---- the other regions

pub length-boot : (v : Layout) (seed : ℕ) → length (boot_bytes v seed) ≡ 8192
unfolding boot_bytes
length-boot v seed = omega (arith, length-append (boot_spelling (boot_of v seed)) (zeros 7680), length-boot_spelling (boot_of v seed), length-zeros 7680)

pub length-record_bits : length record_bits ≡ 4096
unfolding record_bits
length-record_bits = ap (λ (n : ℕ). suc (suc (suc n))) (length-zeros 4093)

pub length-upper_case : length upper_case_bytes ≡ 131072
unfolding upper_case_bytes
length-upper_case = omega (arith, length-unit_bytes standard_table, ap length standard_table-is, length-standard_units 65536)

pub length-log : (v : Layout) → length (log_bytes v) ≡ 4096 * v.log_pages
unfolding log_bytes
length-log v = length-replicate (4096 * v.log_pages) 0xFF

pub length-cluster_bits : (v : Layout) → length (cluster_bits v) ≡ 4096 * v.bitmap_clusters
unfolding cluster_bits
length-cluster_bits v = length-map-range_with_len (cluster_bits_byte v) 0 (4096 * v.bitmap_clusters)
