-- Record 2, where the boot sector says, is a block of the file table.
use Rattle.std.proofs.Common.{◌≡◌, ◌≢◌, ℕ, ◌+◌, ◌*◌, true, false, List, Option, Some, None, refl, sym, ap, ap₂, ◌∙◌}
use Rattle.std.proofs.lemmas.Bool.{and_parts, eqb-true, false_from_ne_true}
use Rattle.disk_model.specs.declared.block.Block.{Block}
use Rattle.disk_model.specs.declared.block.BlockKind.{BlockKind}
use Rattle.disk_model.specs.declared.block.BlockKind.TheVariants.{FileRec}
use Rattle.disk_model.specs.Content.{Content}
use Rattle.disk_model.specs.Sectors.{overlap}
use Rattle.record_model.specs.declared.runs.Run.{Run}
use Rattle.state_model.specs.declared.geometry.Geometry.{Geometry}
use Rattle.state_model.specs.Loads.{boot_block}
use Rattle.state_model.specs.Streams.{block_at}
use Rattle.volume_model.specs.Volumes.{Volume}
use Rattle.volume_model.specs.Sizes.{is_at, keeps_place, placed_record}
use Rattle.stream_laws.specs.Owners.{Owns}
use Rattle.stream_laws.specs.Tables.{table_key}
use Rattle.stream_laws.proofs.Owning.{are_one}
use Rattle.stream_laws.proofs.Placing.{lies}
use Rattle.stream_laws.proofs.Rewriting.{volume_parts}
use Rattle.stream_laws.proofs.Tabling.{table_runs}
use Rattle.names_stay.proofs.tree_laws.Keeping.{rules_of}
use Rattle.names_stay.specs.plan_owners.States.{Stands}
use Rattle.names_stay.proofs.plan_owners.Outside.{once}
use Rattle.names_stay.proofs.plan_owners.Standing.{rule_4_parts, begins}
use Rattle.writes_keep.proofs.Behind.{table_kind}

block_with : ℕ → BlockKind → Block
block_with first kind = record { first = first; kind = kind }

module _ (c : Content) (g : Geometry) (clusters : ℕ) (v : Volume) (s : Stands c g clusters v) where
  second_place : keeps_place v ≡ true → is_at (v.mft * v.per + 2 * 2) (placed_record v 2) ≡ true
  unfolding keeps_place
  second_place placed = (and_parts _ _ (and_parts _ _ (and_parts _ _ placed).1).1).0

  at_place : (first : ℕ) (o : Option Block) → is_at first o ≡ true → (b : Block) × ((o ≡ Some b) × (b.first ≡ first))
  at_place first None at = absurd cc
  at_place first (Some b) at = (b, (refl, eqb-true b.first first at))

  second_block : block_at v.per v.table.runs FileRec 2 ≡ Some (boot_block g 2)
  unfolding block_with
  second_block =
      let p = volume_parts c g clusters v s.loaded in
      let at = at_place (v.mft * v.per + 2 * 2) (placed_record v 2) (second_place (rule_4_parts c v (rules_of c v s.kept).rule_4).0) in
      let kind = (lies v.per v.table.runs FileRec 2 at.0 at.1.0).kind_is in
      let first : at.0.first ≡ g.mft * g.per_cluster + 2 * 2 = at.1.1 ∙ ap (λ (x : ℕ). x * v.per + 2 * 2) (sym p.place) ∙ ap (λ (x : ℕ). g.mft * x + 2 * 2) (sym p.per) in
      at.1.0 ∙ ap (λ (x : ℕ). Some (block_with x at.0.kind)) first ∙ ap (λ (k : BlockKind). Some (block_with (g.mft * g.per_cluster + 2 * 2) k)) (sym kind)

  second_owned : Owns v (boot_block g 2)
  second_owned = record { stream = table_key; number = 2; lies = ap₂ (λ (l : List Run) (k : BlockKind). block_at v.per l k 2) (table_runs c g clusters v (begins c g clusters v s)) table_kind ∙ second_block }

  -- another block that the volume owns shares no sector with it
  pub off_second : (b : Block) (own : Owns v b) → (own.stream ≡ table_key → own.number ≢ 2) → overlap b (boot_block g 2) ≡ false
  unfolding second_owned
  off_second b own other = false_from_ne_true (overlap b (boot_block g 2)) (λ meets. (let one = are_one v b (boot_block g 2) s.some (once c g clusters v s) own second_owned meets in other one.stream one.number))
