use Rattle.std.proofs.Common.{◌≡◌, length, ℕ, List, ◌∷◌, [], ◌++◌, ap, ◌∙◌, refl}
use Rattle.disk_model.specs.Numbers.{spell}
use Rattle.disk_model.specs.Bytes.{written, zeros}
use Rattle.disk_model.proofs.Fields.{length-spell}
use Rattle.index_node.specs.Roots.{root_head}
use Rattle.index_node.proofs.Placing.{put_first, put_next, one_byte}
use Rattle.index_node.proofs.root_writing.put_head.Goals as goal

padded : (value : ℕ) → value ∷ [] ≡ spell 1 value → value ∷ 0 ∷ 0 ∷ 0 ∷ [] ≡ spell 1 value ++ zeros 3
unfolding zeros
padded value e = ap (λ (l : List ℕ). l ++ zeros 3) e

four : (value : ℕ) → length (spell 1 value ++ zeros 3) ≡ 4
unfolding spell zeros
four value = refl

pub returns : goal.returns
unfolding root_head
returns c =
    let clusters = c.put_bytes.ensures ∙ ap (λ (x : List ℕ). written 0x0C x c.put_u32-3.new.bytes) (padded c.args.clusters (one_byte c.args.clusters c.ranges.clusters.fits)) in
    let flag = c.put_bytes-2.ensures ∙ ap (λ (x : List ℕ). written 0x1C x c.put_u32-6.new.bytes) (padded c.args.flag (one_byte c.args.flag c.ranges.flag.fits)) in
    let a = put_first (spell 4 0x30) 4 (length-spell 4 0x30) c.put_u32.ensures in
    let b = put_next (spell 4 1) 4 0x04 a (length-spell 4 1) refl c.put_u32-2.ensures in
    let d = put_next (spell 4 4096) 4 0x08 b (length-spell 4 4096) refl c.put_u32-3.ensures in
    let e = put_next (spell 1 c.args.clusters ++ zeros 3) 4 0x0C d (four c.args.clusters) refl clusters in
    let f = put_next (spell 4 0x10) 4 0x10 e (length-spell 4 0x10) refl c.put_u32-4.ensures in
    let g = put_next (spell 4 c.args.used) 4 0x14 f (length-spell 4 c.args.used) refl c.put_u32-5.ensures in
    let h = put_next (spell 4 c.args.used) 4 0x18 g (length-spell 4 c.args.used) refl c.put_u32-6.ensures in
    (put_next (spell 1 c.args.flag ++ zeros 3) 4 0x1C h (four c.args.flag) refl flag).put
