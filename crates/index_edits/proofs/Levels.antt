-- The root and the node of a level more, as they are written.
use Rattle.std.proofs.Common.{◌≡◌, ℕ, ◌<◌, ◌^◌, Bool, true, false, not, ◌&&◌, eqb, List, [], ◌∷◌, length, Some, Ok, refl, ap, ◌∙◌, arith}
use Rattle.std.proofs.lemmas.Bool.{eq-eqb}
use Rattle.std.proofs.lemmas.List.Elements.{All-nil, All-cons}
use Rattle.disk_model.specs.declared.block.BlockKind.TheVariants.{Index}
use Rattle.disk_model.specs.Bodies.{BodyOf}
use Rattle.disk_model.specs.Content.{is_signed}
use Rattle.disk_model.specs.Numbers.{field}
use Rattle.host_base.specs.Answers.{◌>>=◌, needs}
use Rattle.record_model.specs.declared.entry.Entry.{Entry as Raw}
use Rattle.record_model.specs.Nodes.{Node, FitsNode, last_entry, down_flag, children_of, entry_length, node_used, node_at, node_spelling}
use Rattle.record_model.proofs.NodeSpelling.{node_signed, length-node_spelling, node_spells}
use Rattle.record_model.proofs.NodeTables.{ok_from_node}
use Rattle.index_model.specs.Indexes.{entries_of_node, is_index_body, node_of_body}
use Rattle.index_node.specs.Roots.{root_spelling, new_node, HaveSpelling}
use Rattle.index_node.proofs.RootSpelled.{root_law, each_block}
use Rattle.index_edits.specs.Levels.{LevelsAreRead}

node_read : (v : ℕ) (entries : List Raw) → FitsNode (new_node v entries) → node_of_body v (record { bytes = node_spelling (new_node v entries); torn = false }) ≡ Ok entries
unfolding node_of_body
node_read v entries fits =
    let n : Node = new_node v entries in
    let body : BodyOf = record { bytes = node_spelling n; torn = false } in
    let spells = node_spells n fits in
    let is_one : is_index_body body ≡ true = ap (λ (b : Bool). b && not false && is_signed Index (node_spelling n)) (eq-eqb (length (node_spelling n)) 4096 (length-node_spelling n fits)) ∙ node_signed n in
    let own : eqb (field 0x10 8 (node_spelling n)) v ≡ true = eq-eqb (field 0x10 8 (node_spelling n)) v spells.vcn in
    ap (λ (b : Bool). needs b 1 >>= λ _. needs (eqb (field 0x10 8 (node_spelling n)) v) 2 >>= λ _. entries_of_node (node_at (node_spelling n))) is_one
    ∙ ap (λ (b : Bool). needs b 2 >>= λ _. entries_of_node (node_at (node_spelling n))) own
    ∙ ap entries_of_node (ok_from_node (node_spelling n) n spells)

one_spelled : (f : ℕ) → f < 2 ^ 64 → HaveSpelling (last_entry (Some f) ∷ [])
unfolding node_used entry_length
one_spelled f low = record {
  vcn = omega arith;
  lsn = omega arith;
  entries = record { no_reference = refl; no_key = refl; down = low };
  flags = All-cons (λ (e : Raw). down_flag e.down ≡ children_of (last_entry (Some f) ∷ [])) (last_entry (Some f)) [] refl (All-nil (λ (e : Raw). down_flag e.down ≡ children_of (last_entry (Some f) ∷ [])));
  used = omega arith;
}

one_size : (clusters f : ℕ) → f < 2 ^ 64 → length (root_spelling clusters (last_entry (Some f) ∷ [])) ≡ 56
unfolding entry_length
one_size clusters f low = root_law.size clusters (last_entry (Some f) ∷ []) (one_spelled f low)

pub levels_read : LevelsAreRead
levels_read = record {
  node = λ f entries low spelled. node_read f entries (each_block f entries low spelled);
  long = λ f entries low spelled. length-node_spelling (new_node f entries) (each_block f entries low spelled);
  root = one_spelled;
  size = one_size;
}
