-- A level comes only where the record has no room for the entry that reached the root.
use Rattle.std.proofs.Common.{◌≡◌, ℕ, ◌+◌, ◌≤◌, ◌<◌, Bool, true, false, List, [], ◌∷◌, Option, Some, None, refl, sym, ap, ◌∙◌, subst, arith, length, insert, if◌then◌else◌}
use Rattle.record_model.specs.declared.entry.Entry.{Entry as Raw}
use Rattle.record_model.specs.Nodes.{entry_length, entries_length, last_entry}
use Rattle.index_model.specs.declared.key.Key.{Key}
use Rattle.index_model.specs.Trees.{Tree, raw, raws_of, levels, one_if}
use Rattle.index_model.proofs.OneTree.{same_tree}
use Rattle.index_plan.specs.Growth.{fits_in}
use Rattle.index_plan.specs.Laws.{inserted_by}
use Rattle.index_plan.specs.Lists.{Rise, rise, place, way, overfull, overfull_by}
use Rattle.index_plan.specs.Paths.{Path, over}
use Rattle.index_plan.specs.Plans.{Spot}
use Rattle.index_plan.specs.Room.{EachSpotSized}
use Rattle.index_plan.specs.Search.{path_to}
use Rattle.index_plan.proofs.Fitting.{bytes_is, short_bytes, ShortPending, Fitting, rise_fits}
use Rattle.index_plan.proofs.Growing.{some_is}
use Rattle.index_plan.proofs.Halves.{fits_bytes, insert_bytes}
use Rattle.index_laws.specs.Levels.{NoRoomForEntry, LevelAdded, LevelCause, LevelOfInsertion, LevelNeeded, RootIsLowered}
use Rattle.index_laws.proofs.Reaching.{over_room, each_tight, reaches, way_few}

-- ---- the root

-- an entry that reached the root, which its record has no room for
pub record Full (room : ℕ) (root : List Raw) (pending : Option Raw) : Type 0 where
  pub entry : Raw
  pub takes : pending ≡ Some entry
  pub with_entry : room < entries_length root + entry_length entry

full_by : (room : ℕ) (root : List Raw) (at : ℕ) (pending : Option Raw) → overfull_by room root at pending ≡ true → Full room root pending
full_by room root at None e = absurd cc
full_by room root at (Some r) e = tell (fits_in room (insert root at r)) refl e
  where
    tell : (b : Bool) → fits_in room (insert root at r) ≡ b → (if b then false else true) ≡ true → Full room root (Some r)
    tell true is e' = absurd cc
    tell false is e' =
        let over = over_room room (insert root at r) is in
        let i = insert_bytes root at r in
        let b = bytes_is root in
        record { entry = r; takes = refl; with_entry = omega arith }

full_root : (room : ℕ) (root : List Raw) (at : ℕ) (r : Rise) → overfull room root at r ≡ true → Full room root r.pending
unfolding overfull
full_root room root at r e = full_by room root at r.pending e

by_full : (room : ℕ) (root : List Raw) (at : ℕ) (pending : Option Raw) (e : Raw) → pending ≡ Some e → room < entries_length root + entry_length e → overfull_by room root at pending ≡ true
by_full room root at None e is lt = absurd cc
by_full room root at (Some x) e is lt = tell (fits_in room (insert root at x)) refl
  where
    tell : (b : Bool) → fits_in room (insert root at x) ≡ b → (if b then false else true) ≡ true
    tell true fit =
        let f = (fits_bytes room (insert root at x)).0 fit in
        let i = insert_bytes root at x in
        let k = bytes_is root in
        let same : entry_length x ≡ entry_length e = ap entry_length (some_is x e is) in
        absurd (omega arith)
    tell false is' = refl

root_full : (room : ℕ) (root : List Raw) (at : ℕ) (r : Rise) (e : Raw) → r.pending ≡ Some e → room < entries_length root + entry_length e → overfull room root at r ≡ true
unfolding overfull
root_full room root at r e is lt = by_full room root at r.pending e is lt

-- on a way with no block, the entry is the new one
unrisen : (path : List Spot) (r : Rise) (x e : Raw) → length path ≤ 0 → r.pending ≡ Some x → (rise path r).pending ≡ Some e → x ≡ e
unrisen [] r x e none is up = some_is x e (sym is ∙ up)
unrisen (s ∷ spots) r x e none is up = absurd (omega arith)

-- ---- the plan

abbrev start : Key → List ℕ → Rise
start new fresh = record { pending = Some (raw new None); plan = record { writes = []; fresh = fresh } }

start_fits : (new : Key) (fresh : List ℕ) → length new.value ≤ 576 → Fitting fresh 0 (start new fresh)
start_fits new fresh short = record { fits = tt; short = short; left = omega arith }

no_room : (room : ℕ) (t : Tree) (new : Key) (fresh : List ℕ) (p : Path) → levels t ≤ 16 → EachSpotSized (way p t) → 17 ≤ length fresh → length new.value ≤ 576 → Full room (raws_of t) (inserted_by p new fresh t).pending → NoRoomForEntry room t new (inserted_by p new fresh t)
no_room room t new fresh p low sized enough short full =
    let few = way_few p t in
    let risen = rise_fits (way p t) fresh 0 (start new fresh) sized (omega arith) (start_fits new fresh short) in
    let small = short_bytes full.entry (subst ShortPending full.takes risen.short) in
    record {
      without_blocks = λ one. let same : raw new None ≡ full.entry = unrisen (way p t) (start new fresh) (raw new None) full.entry (omega arith) refl full.takes in let long : entry_length (raw new None) ≡ entry_length full.entry = ap entry_length same in let w = full.with_entry in omega arith;
      with_blocks = let w = full.with_entry in omega arith;
      entry = full.entry;
      takes = full.takes;
      with_entry = full.with_entry;
    }

abbrev Lowered : Tree → Type 0
Lowered after = (f : ℕ) × (raws_of after ≡ last_entry (Some f) ∷ [])

cause : (room : ℕ) (t : Tree) (new : Key) (fresh : List ℕ) (p : Path) → levels t ≤ 16 → EachSpotSized (way p t) → 17 ≤ length fresh → length new.value ≤ 576 → overfull room (raws_of t) (place p) (inserted_by p new fresh t) ≡ true → LevelCause room t new (way p t) (inserted_by p new fresh t)
cause room t new fresh p low sized enough short e =
    let full = full_root room (raws_of t) (place p) (inserted_by p new fresh t) e in
    let few = way_few p t in
    let tight = each_tight (way p t) fresh 0 (start new fresh) sized (omega arith) (start_fits new fresh short) full.entry full.takes in
    record {
      no_room = no_room room t new fresh p low sized enough short full;
      reached = reaches (way p t) (start new fresh) full.entry full.takes tight;
    }

higher : (room : ℕ) (t after : Tree) (new : Key) (fresh : List ℕ) (p : Path) → levels t ≤ 16 → EachSpotSized (way p t) → 17 ≤ length fresh → length new.value ≤ 576 → levels t < levels after → levels after ≤ levels t + one_if (overfull room (raws_of t) (place p) (inserted_by p new fresh t)) → (overfull room (raws_of t) (place p) (inserted_by p new fresh t) ≡ true → Lowered after) → LevelAdded room t after new (way p t) (inserted_by p new fresh t)
higher room t after new fresh p low sized enough short more most lowers = tell (overfull room (raws_of t) (place p) (inserted_by p new fresh t)) refl most
  where
    tell : (b : Bool) → overfull room (raws_of t) (place p) (inserted_by p new fresh t) ≡ b → levels after ≤ levels t + one_if b → LevelAdded room t after new (way p t) (inserted_by p new fresh t)
    tell true e most' = record { one = omega arith; lowered = lowers e; cause = cause room t new fresh p low sized enough short e }
    tell false e most' = absurd (omega arith)

pub level_added : LevelOfInsertion
level_added nodes goes new fresh t after room planned st once rises low sized enough short inserts root_is stands more =
    let n = inserts t refl st once rises low in
    let same : levels n.tree ≡ levels after = ap levels (same_tree (over nodes planned.plan.writes) n.tree after (sym n.root ∙ root_is) n.stands stands) in
    let h = n.height in
    higher room t after new fresh (path_to goes t) low sized enough short more (omega arith) (λ e. let o = n.one_entry e enough in (o.0, sym root_is ∙ o.1))

pub level_needed : LevelNeeded
level_needed nodes goes new fresh t room st low sized enough short needs =
    cause room t new fresh (path_to goes t) low sized enough short (needs t refl st low)

pub root_lowered : RootIsLowered
root_lowered nodes goes new fresh t room planned entry st once rises low enough inserts takes lt =
    let n = inserts t refl st once rises low in
    n.one_entry (root_full room (raws_of t) (place (path_to goes t)) (inserted_by (path_to goes t) new fresh t) entry takes lt) enough
