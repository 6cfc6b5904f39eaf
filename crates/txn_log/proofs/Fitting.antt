-- The updates of a change have spellings, and their sizes are those that are counted.
use Rattle.std.proofs.Common.{◌≡◌, subst, ℕ, zero, suc, ◌+◌, ◌-◌, ◌*◌, ◌%◌, ◌^◌, ◌<◌, ◌≤◌, min, Bool, true, false, List, [], ◌∷◌, length, map, drop, refl, sym, ap, ap₂, ◌∙◌, inl, inr, arith}
use Rattle.std.specs.List.{AllByRecursion}
use Rattle.std.proofs.lemmas.Bool.{cases_lt, eqb-true}
use Rattle.std.proofs.lemmas.List.{length-take-le, length-drop}
use Rattle.store_pools.specs.disk_model.declared.block.Block.{Block}
use Rattle.store_pools.specs.disk_model.declared.block.BlockKind.{BlockKind}
use Rattle.store_pools.specs.disk_model.declared.block.BlockKind.TheVariants.{Plain, FileRec, Index}
use Rattle.store_pools.specs.disk_model.declared.block.Change.{Change}
use Rattle.store_pools.specs.disk_model.Bytes.{part, written}
use Rattle.store_pools.specs.disk_model.Sectors.{sectors}
use Rattle.store_pools.proofs.disk_model.Frames.{length-written}
use Rattle.store_pools.specs.log_model.Entries.{act_size, update_size, IsPlaced, FitsAct}
use Rattle.store_pools.specs.log_model.Logs.{may_begin, is_in_grid}
use Rattle.store_pools.specs.block_pool.Numbers.{kind_number}
use Rattle.store_pools.specs.txn_model.Pieces.{Piece, cut, logged_acts, update_of_piece}
use Rattle.txn_log.specs.Counts.{piece_size, change_sizes}
use Rattle.txn_log.specs.Laws.{IsLogged}
use Rattle.txn_log.proofs.Cuts.{cut_first, cut_none}

-- a piece of at most 1,900 bytes that ends by this byte
pub record IsCut (to : ℕ) (p : Piece) : Type 0 where
  pub some : 0 < p.count
  pub few : p.count ≤ 1900
  pub inside : p.at + p.count ≤ to

cuts : (most at n to : ℕ) → at + n ≤ to → AllByRecursion (IsCut to) (cut most at n)
cuts zero at n to le = tt
cuts (suc most) at n to le =
    let rest : AllByRecursion (IsCut to) (cut most (at + min 1900 n) (n - min 1900 n)) = cuts most (at + min 1900 n) (n - min 1900 n) to (omega (arith, le)) in
    elim (cases_lt 0 n) [
      | inl some ↦ subst (λ (qs : List Piece). AllByRecursion (IsCut to) qs) (sym (cut_first most at n some)) (record { some = omega (arith, some); few = omega arith; inside = omega (arith, le) }, rest)
      | inr none ↦ subst (λ (qs : List Piece). AllByRecursion (IsCut to) qs) (sym (cut_none (suc most) at n (omega (arith, none)))) tt
    ]

length-part : (at n : ℕ) (xs : List ℕ) → at + n ≤ length xs → length (part at n xs) ≡ n
length-part at n xs le = length-take-le n (drop at xs) (omega (arith, le, length-drop at xs))

placed : (kind : BlockKind) (first : ℕ) → may_begin kind first ≡ true → IsPlaced (kind_number kind) (first % 8)
placed Plain first grid = inl refl
placed FileRec first grid = let even = eqb-true (first % 2) 0 grid in inr (inl (refl, omega arith))
placed Index first grid = inr (inr (refl, eqb-true (first % 8) 0 grid))

room : (kind : BlockKind) → 512 * sectors kind ≤ 4096
room Plain = omega arith
room FileRec = omega arith
room Index = omega arith

module _ (b : Block) (before after : List ℕ) (grid : is_in_grid b ≡ true) (wide : b.first < 2 ^ 64) (size_before : length before ≡ 512 * sectors b.kind) (size : length after ≡ 512 * sectors b.kind) where
  -- the update of a piece
  piece_fits : (p : Piece) → IsCut (512 * sectors b.kind) p → FitsAct (update_of_piece b before after p) × (act_size (update_of_piece b before after p) ≡ piece_size p)
  piece_fits p k =
      let inside = k.inside in
      let most = room b.kind in
      let some = k.some in
      let redo : length (part p.at p.count after) ≡ p.count = length-part p.at p.count after (omega (arith, size)) in
      let undo : length (part p.at p.count before) ≡ p.count = length-part p.at p.count before (omega (arith, size_before)) in (
        (omega arith, record { wide = wide; placed = placed b.kind b.first grid; some = omega (arith, redo); few = omega (arith, redo, k.few); same = undo ∙ sym redo }),
        ap update_size redo,
      )

  -- and those of pieces
  pub pieces_fit : (ps : List Piece) → AllByRecursion (IsCut (512 * sectors b.kind)) ps → AllByRecursion FitsAct (map (update_of_piece b before after) ps) × (map act_size (map (update_of_piece b before after) ps) ≡ map piece_size ps)
  pieces_fit [] k = (tt, refl)
  pieces_fit (p ∷ ps) k =
      let own = piece_fits p k.0 in
      let rest = pieces_fit ps k.1 in
      ((own.0, rest.0), ap₂ (λ (n : ℕ) (ns : List ℕ). n ∷ ns) own.1 rest.1)

pub change_fits : (imaged : Bool) (c : Change) (before present : List ℕ) → IsLogged c before present
    → AllByRecursion FitsAct (logged_acts imaged c.block c.offset c.new before present) × (map act_size (logged_acts imaged c.block c.offset c.new before present) ≡ change_sizes imaged c)
change_fits true c before present k =
    pieces_fit c.block before (written c.offset c.new present) k.grid k.wide k.size_before (length-written c.offset c.new present ∙ k.size) (cut 3 c.offset (length c.new))
    (cuts 3 c.offset (length c.new) (512 * sectors c.block.kind) k.fits)
change_fits false c before present k =
    pieces_fit c.block before (written c.offset c.new present) k.grid k.wide k.size_before (length-written c.offset c.new present ∙ k.size) (cut 3 0 (512 * sectors c.block.kind))
    (cuts 3 0 (512 * sectors c.block.kind) (512 * sectors c.block.kind) (omega arith))
