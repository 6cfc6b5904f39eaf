-- The node of the root's index has a spelling.
use Rattle.std.proofs.Common.{◌≡◌, ℕ, ◌^◌, ◌<◌, ◌≤◌, None, refl, arith}
use Rattle.std.specs.Prelude.{All}
use Rattle.std.proofs.lemmas.List.Elements.{All-from_recursion}
use Rattle.record_model.specs.declared.entry.Entry.{Entry}
use Rattle.record_model.specs.Nodes.{down_flag, children_of, entry_length, node_used, FitsEntry, FitsNode, last_entry}
use Rattle.volume_format.specs.declared.layout.Layout.{Layout}
use Rattle.volume_format.specs.Layouts.{IsLayout}
use Rattle.volume_format.specs.Files.{sequence}
use Rattle.volume_format.specs.Indexes.{in_order, entry_of, root_entries, root_node}
use Rattle.volume_format.proofs.FittingRecords.{has_name, name_lawful, length-name_value}

pub order_small : All (λ n. n < 12) in_order
order_small = All-from_recursion (λ n. n < 12) in_order (omega arith, (omega arith, (omega arith, (omega arith, (omega arith, (omega arith, (omega arith, (omega arith, (omega arith, (omega arith, (omega arith, (omega arith, tt))))))))))))

module _ (v : Layout) (fits : IsLayout v) (time : ℕ) (small : time < 2 ^ 64) where
  entry_fits : (n : ℕ) → n < 12 → FitsEntry (entry_of v time n)
  unfolding sequence
  entry_fits n lt = record { number = omega arith; seq = grind arith; key = name_lawful v fits time n small lt; down = tt }

  entry_short : (n : ℕ) → n < 12 → entry_length (entry_of v time n) ≤ 104
  unfolding entry_length
  entry_short n lt = let size = length-name_value v time n in let short = (has_name n lt).short in omega arith

  last_short : entry_length (last_entry None) ≤ 16
  unfolding entry_length
  last_short = omega arith

  used_short : node_used (root_entries v time) ≤ 4072
  unfolding node_used root_entries
  used_short =
      let a = entry_short 0 (omega arith) in
      let b = entry_short 1 (omega arith) in
      let c = entry_short 2 (omega arith) in
      let d = entry_short 3 (omega arith) in
      let e = entry_short 4 (omega arith) in
      let f = entry_short 5 (omega arith) in
      let g = entry_short 6 (omega arith) in
      let h = entry_short 7 (omega arith) in
      let i = entry_short 8 (omega arith) in
      let j = entry_short 9 (omega arith) in
      let k = entry_short 10 (omega arith) in
      let l = entry_short 11 (omega arith) in
      let m = last_short in
      omega arith

  pub node_fits : FitsNode (root_node v time)
  unfolding root_entries
  node_fits = record {
    vcn = omega arith;
    lsn = omega arith;
    entries = (entry_fits 4 (omega arith), (entry_fits 8 (omega arith), (entry_fits 6 (omega arith), (entry_fits 7 (omega arith), (entry_fits 11 (omega arith), (entry_fits 2 (omega arith), (entry_fits 0 (omega arith), (entry_fits 1 (omega arith), (entry_fits 9 (omega arith), (entry_fits 10 (omega arith), (entry_fits 3 (omega arith), (entry_fits 5 (omega arith), record { no_reference = refl; no_key = refl; down = tt }))))))))))));
    flags = All-from_recursion (λ (e : Entry). down_flag e.down ≡ children_of (root_entries v time)) (root_entries v time) (refl, (refl, (refl, (refl, (refl, (refl, (refl, (refl, (refl, (refl, (refl, (refl, (refl, tt)))))))))))));
    used = used_short;
  }
