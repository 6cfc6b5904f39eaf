-- The entries of a node from a place on.
use Rattle.std.proofs.Common.{◌≡◌, ℕ, zero, suc, ◌+◌, ◌≤◌, ◌<◌, List, [], ◌∷◌, refl, ap, length, drop, arith, length-drop}
use Rattle.std.proofs.lemmas.List.{drop_all}
use Rattle.record_model.specs.declared.entry.Entry.{Entry as Raw}
use Rattle.index_model.specs.declared.key.Key.{Key}
use Rattle.index_plan.specs.declared.side.KeySide.{KeySide}
use Rattle.index_plan.specs.declared.side.KeySide.TheVariants as sides
use Rattle.index_plan.specs.Lists.{entry_at, own_key}
use Rattle.index_plan.specs.Seeking.{side_of}

pub at_front : (xs : List Raw) (i : ℕ) → i < length xs → drop i xs ≡ entry_at i xs ∷ drop (suc i) xs
at_front [] i h = absurd (omega arith)
at_front (x ∷ xs) zero h = refl
at_front (x ∷ xs) (suc i) h = at_front xs i (omega arith)

-- the last entry, and one before it
pub side_last : (side : Key → KeySide) (r : Raw) (raws : List Raw) (at : ℕ) → length raws ≤ at + 1 → side_of side r (drop (at + 1) raws) ≡ sides.Beside
side_last side r raws at h = ap (side_of side r) (drop_all (at + 1) raws h)

pub inner : (side : Key → KeySide) (r : Raw) (raws : List Raw) → 0 < length raws → side_of side r raws ≡ side (own_key r)
inner side r [] h = absurd (omega arith)
inner side r (s ∷ raws) h = refl

pub side_inner : (side : Key → KeySide) (r : Raw) (raws : List Raw) (at : ℕ) → at + 1 < length raws → side_of side r (drop (at + 1) raws) ≡ side (own_key r)
side_inner side r raws at h = inner side r (drop (at + 1) raws) (omega (arith, length-drop (at + 1) raws))
