-- A root that has room beside more used bytes has room beside fewer.
use Rattle.std.proofs.Common.{◌≡◌, inl, inr, ℕ, ◌≤◌, Bool, true, false, List, arith}
use Rattle.plan_model.specs.record_model.declared.entry.Entry.{Entry as Raw}
use Rattle.plan_model.specs.index_model.declared.key.Key.{Key}
use Rattle.plan_model.specs.index_model.Trees.{Tree, raws_of}
use Rattle.plan_model.specs.index_plan.Growth.{fits_in}
use Rattle.plan_model.specs.index_change.Plans.{root_room}
use Rattle.plan_model.proofs.index_plan.Halves.{fits_bytes}
use Rattle.step_model.specs.Spreads.{RootMay}
use Rattle.node_spreads.specs.Nodes.{SpreadsWiden}

more_room : (less used : ℕ) (value : List ℕ) → less ≤ used → root_room used value ≤ root_room less value
unfolding root_room
more_room less used value least = omega (arith, least)

fits_more : (low high : ℕ) (raws : List Raw) → low ≤ high → fits_in low raws ≡ true → fits_in high raws ≡ true
fits_more low high raws less fits = (fits_bytes high raws).1 (let most = (fits_bytes low raws).0 fits in omega (arith, most, less))

root_may : (level : Bool) (low high : ℕ) (key : Key) (t s : Tree) → low ≤ high → RootMay level low key t s → RootMay level high key t s
root_may true low high key t s less may = may
root_may false low high key t s less (inl stays) = inl stays
root_may false low high key t s less (inr (inl fits)) = inr (inl (fits_more low high (raws_of s) less fits))
root_may false low high key t s less (inr (inr takes)) = inr (inr takes)

pub spreads_wider : SpreadsWiden
spreads_wider nodes upper less used value key t level s more least k = record {
  keys = k.keys;
  once = k.once;
  fit = k.fit;
  root = root_may level (root_room used value) (root_room less value) key t s (more_room less used value least) k.root;
  height = k.height;
  fresh = k.fresh;
  behind = k.behind;
}
