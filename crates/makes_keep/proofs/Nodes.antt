-- Nodes that are put have spellings.
use Rattle.std.proofs.Common.{◌≡◌, ℕ, ◌+◌, ◌*◌, true, not, ◌&&◌, eqb, leb, List, length, ap, ◌∙◌, arith}
use Rattle.std.specs.List.{list_all}
use Rattle.std.proofs.lemmas.Bool.{and_from, or_right}
use Rattle.disk_model.specs.declared.block.BlockKind.TheVariants.{Index}
use Rattle.disk_model.specs.Bytes.{part, zeros}
use Rattle.disk_model.specs.Fixups.{array_at, array_count, sector_count, is_in_shape}
use Rattle.disk_model.proofs.Protection.{shape_from}
use Rattle.fixup_record.specs.Spellings.{is_sequenced, has_zeros, is_ready, has_spelling}
use Rattle.record_model.specs.NodeLaws.{NodeIsBody}
use Rattle.record_model.specs.Nodes.{Node, node_spelling, FitsNode}
use Rattle.record_model.proofs.NodeSpelling.{length-node_spelling}

module _ (body : NodeIsBody) (n : Node) (fits : FitsNode n) where
  bytes : List ℕ
  bytes = node_spelling n

  place : array_at bytes ≡ 0x28
  unfolding bytes
  place = body.place n

  count : array_count bytes ≡ 9
  unfolding bytes
  count = body.count n

  sized : length bytes ≡ 4096
  unfolding bytes
  sized = length-node_spelling n fits

  shape : is_in_shape bytes ≡ true
  shape =
      shape_from bytes
      (let size = sized in let words = count in omega (arith, size, words))
      (let at = place in omega (arith, at))
      (let at = place in let words = count in omega (arith, at, words))

  zeros_there : has_zeros bytes ≡ true
  unfolding bytes has_zeros zeros
  zeros_there =
      let count : 2 * (sector_count bytes + 1) ≡ 18 = (let size = sized in omega (arith, size)) in
      ap (λ (k : ℕ). list_all (λ b. eqb b 0) (part k (2 * (sector_count bytes + 1)) bytes)) place
      ∙ ap (λ (k : ℕ). list_all (λ b. eqb b 0) (part 0x28 k bytes)) count
      ∙ ap (list_all (λ b. eqb b 0)) (body.array n)

  pub node_spelled : has_spelling Index (node_spelling n) ≡ true
  unfolding bytes has_spelling
  node_spelled =
      or_right (not (is_sequenced Index bytes)) (is_ready bytes)
      (and_from (is_in_shape bytes && leb 8 (array_at bytes)) (has_zeros bytes) (and_from (is_in_shape bytes) (leb 8 (array_at bytes)) shape (ap (leb 8) place)) zeros_there)
