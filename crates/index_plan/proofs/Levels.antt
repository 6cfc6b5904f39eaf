-- A level comes only where the root has room for fewer than 600 bytes more.
use Rattle.std.proofs.Common.{◌≡◌, ℕ, ◌+◌, ◌≤◌, ◌<◌, Bool, true, false, List, [], ◌∷◌, Option, Some, None, refl, sym, ap, subst, arith, length, leb, ◌⊎◌, inl, inr, if◌then◌else◌}
use Rattle.std.proofs.lemmas.Bool.Decides.{leb_tells}
use Rattle.std.proofs.lemmas.List.Elements.{All-head, All-tail}
use Rattle.record_model.specs.declared.entry.Entry.{Entry as Raw}
use Rattle.record_model.specs.Nodes.{entries_length}
use Rattle.index_model.specs.declared.key.Key.{Key}
use Rattle.index_model.specs.Trees.{raw}
use Rattle.index_plan.specs.declared.write.Write.{Write}
use Rattle.index_plan.specs.Growth.{fits_in}
use Rattle.index_plan.specs.Plans.{Plan, Spot}
use Rattle.index_plan.specs.Lists.{Rise, rise, overfull, overfull_by}
use Rattle.index_plan.specs.Takings.{Taken, drawn, none_drawn, instead, key_of, plan_with, climbed, too_full}
use Rattle.index_plan.specs.Room.{Sized, EachSpotSized, EachNodeSized}
use Rattle.index_plan.specs.Laws.{LevelLaw}
use Rattle.index_plan.proofs.Halves.{bytes, fits_bytes, level_needs}
use Rattle.index_plan.proofs.Fitting.{bytes_is, short_bytes, AllFit, ShortPending, ShortKey, Fitting, rise_fits, climbed_fits, instead_bytes, drawn_fits, taken_key, taken_fresh, taken_plan}

needs : (room : ℕ) (root : List Raw) (at : ℕ) (pending : Option Raw) → ShortPending pending → overfull_by room root at pending ≡ true → room < entries_length root + 600
needs room root at None s e = absurd cc
needs room root at (Some r) s e = let l = level_needs room root at r e (short_bytes r s) in let b = bytes_is root in omega arith

level_of : (room : ℕ) (root : List Raw) (at : ℕ) (r : Rise) → ShortPending r.pending → overfull room root at r ≡ true → room < entries_length root + 600
unfolding overfull
level_of room root at r s e = needs room root at r.pending s e

no_room : (room : ℕ) (raws : List Raw) → (if fits_in room raws then false else true) ≡ true → room < bytes raws
no_room room raws e = at (fits_in room raws) refl e
  where
    at : (b : Bool) → fits_in room raws ≡ b → (if b then false else true) ≡ true → room < bytes raws
    at true is e' = absurd cc
    at false is e' = tell (leb_tells (bytes raws) room)
      where
        tell : ((leb (bytes raws) room ≡ true) × (bytes raws ≤ room)) ⊎ ((leb (bytes raws) room ≡ false) × (room < bytes raws)) → room < bytes raws
        tell (inl h) = let fit : fits_in room raws ≡ true = (fits_bytes room raws).1 h.1 in absurd cc
        tell (inr h) = h.1

removed_level : (room : ℕ) (root : List Raw) (at : ℕ) (path : List Spot) (key : Option Key) (plan : Plan) → EachSpotSized path → length path ≤ length plan.fresh → ShortKey key → AllFit plan.writes → too_full room root at path key plan ≡ true → room < entries_length root + 600
unfolding too_full
removed_level room root at [] key plan each enough s fits e =
    let n = no_room room (instead at root key) e in
    let i = instead_bytes at root key s in
    let b = bytes_is root in
    omega arith
removed_level room root at (n ∷ path) key plan each enough s fits e =
    level_of room root at (climbed key plan n path) (climbed_fits key plan n path (All-head (λ x. Sized x.node) n path each) (All-tail (λ x. Sized x.node) n path each) (omega arith) s fits).short e

inserted_level : (room : ℕ) (root : List Raw) (at : ℕ) (path : List Spot) (new : Key) (plan : Plan) → plan.writes ≡ [] → EachSpotSized path → length path ≤ length plan.fresh → length new.value ≤ 576 → overfull room root at (rise path (record { pending = Some (raw new None); plan = plan })) ≡ true → room < entries_length root + 600
inserted_level room root at path new plan empty each enough short e =
    let start : Fitting plan.fresh 0 (record { pending = Some (raw new None); plan = plan }) = record { fits = subst AllFit (sym empty) tt; short = short; left = omega arith } in
    let risen = rise_fits path plan.fresh 0 (record { pending = Some (raw new None); plan = plan }) each (omega arith) start in
    level_of room root at (rise path (record { pending = Some (raw new None); plan = plan })) risen.short e

taken_level : (room : ℕ) (root : List Raw) (at : ℕ) (path : List Spot) (chain : List Write) (plan : Plan) → plan.writes ≡ [] → EachSpotSized path → EachNodeSized chain → length path ≤ length plan.fresh → too_full room root at path (key_of (drawn none_drawn chain).taken) (plan_with plan (drawn none_drawn chain).taken) ≡ true → room < entries_length root + 600
taken_level room root at path chain plan empty each nodes enough e =
    let taken : Option Taken = (drawn none_drawn chain).taken in
    let f = drawn_fits chain nodes in
    let same : length (plan_with plan taken).fresh ≡ length plan.fresh = ap (λ (l : List ℕ). length l) (taken_fresh plan taken) in
    removed_level room root at path (key_of taken) (plan_with plan taken) each (omega arith) (taken_key taken f) (taken_plan plan taken f (subst AllFit (sym empty) tt)) e

pub level_law : LevelLaw
level_law = record { inserts = inserted_level; removes = taken_level }
