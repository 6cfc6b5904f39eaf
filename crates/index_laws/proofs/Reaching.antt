-- How an entry reaches the root.
use Rattle.std.proofs.Common.{◌≡◌, ℕ, ◌+◌, ◌≤◌, ◌<◌, Bool, true, false, List, [], ◌∷◌, Option, Some, None, refl, subst, arith, length, insert, nat_lt, leb, ◌⊎◌, inl, inr, if◌then◌else◌}
use Rattle.std.specs.Prelude.{All}
use Rattle.std.proofs.lemmas.Bool.Decides.{leb_tells}
use Rattle.std.proofs.lemmas.List.Elements.{All-nil, All-cons, All-tail}
use Rattle.record_model.specs.declared.entry.Entry.{Entry as Raw}
use Rattle.record_model.specs.Nodes.{node_used, node_room}
use Rattle.index_model.specs.declared.key.Key.{Key}
use Rattle.index_model.specs.Trees.{Tree, Leaf, Down, Entry, DownEntry, levels}
use Rattle.index_plan.specs.declared.write.Write.{Write}
use Rattle.index_plan.specs.Growth.{fits, fits_in, middle}
use Rattle.index_plan.specs.Lists.{Rise, written, halved, halved_if, settle, step, step_by, rise, way}
use Rattle.index_plan.specs.Paths.{Path, Here, Below, Behind}
use Rattle.index_plan.specs.Plans.{Plan, Spot}
use Rattle.index_plan.specs.Room.{IsShort, Sized, EachSpotSized, is_tight}
use Rattle.index_plan.specs.Search.{path_to}
use Rattle.index_plan.proofs.Fitting.{bytes_is, short_bytes, ShortPending, Fitting, rise_fits}
use Rattle.index_plan.proofs.Growing.{level_one}
use Rattle.index_plan.proofs.Halves.{bytes, fits_bytes, insert_bytes}
use Rattle.index_plan.proofs.Mirror.{lt_test}
use Rattle.index_laws.specs.Levels.{CutUpwards, HasEvenWays, IsLeafThere}

-- what fits no room takes more bytes than there are
pub over_room : (room : ℕ) (raws : List Raw) → fits_in room raws ≡ false → room < bytes raws
over_room room raws e = tell (leb_tells (bytes raws) room)
  where
    tell : ((leb (bytes raws) room ≡ true) × (bytes raws ≤ room)) ⊎ ((leb (bytes raws) room ≡ false) × (room < bytes raws)) → room < bytes raws
    tell (inl h) = let fit : fits_in room raws ≡ true = (fits_bytes room raws).1 h.1 in absurd cc
    tell (inr h) = h.1

-- ---- one block

-- a block out of which an entry goes upwards
pub record WasCut (v : ℕ) (raws : List Raw) (r : Rise) : Type 0 where
  pub too_long : fits raws ≡ false
  pub at : ℕ
  pub into : ℕ
  pub writes : List Write
  pub fresh : List ℕ
  pub split : r ≡ halved at into v raws writes fresh

halved_cut : (i v : ℕ) (raws : List Raw) (plan : Plan) (fresh : List ℕ) (e : Raw) → fits raws ≡ false → (halved_if i v raws plan fresh).pending ≡ Some e → WasCut v raws (halved_if i v raws plan fresh)
halved_cut i v raws plan [] e long up = absurd cc
halved_cut i v raws plan (f ∷ fresh) e long up = record { too_long = long; at = i; into = f; writes = plan.writes; fresh = fresh; split = refl }

abbrev settled_by : Bool → Bool → ℕ → List Raw → Plan → Rise
settled_by b c v raws plan = if b then written v raws plan else (if c then halved_if (middle raws) v raws plan plan.fresh else written v raws plan)

settled_cut : (b c : Bool) (v : ℕ) (raws : List Raw) (plan : Plan) (e : Raw) → fits raws ≡ b → (settled_by b c v raws plan).pending ≡ Some e → WasCut v raws (settled_by b c v raws plan)
settled_cut true c v raws plan e is up = absurd cc
settled_cut false true v raws plan e is up = halved_cut (middle raws) v raws plan plan.fresh e is up
settled_cut false false v raws plan e is up = absurd cc

settle_cut : (v : ℕ) (raws : List Raw) (plan : Plan) (e : Raw) → (settle v raws plan).pending ≡ Some e → WasCut v raws (settle v raws plan)
unfolding settle
settle_cut v raws plan e up = settled_cut (fits raws) (nat_lt (middle raws + 1) (length raws)) v raws plan e refl up

by_cut : (f : Spot) (plan : Plan) (o : Option Raw) (e : Raw) → (step_by f plan o).pending ≡ Some e → (taken : Raw) × (o ≡ Some taken) × WasCut f.vcn (insert f.node f.at taken) (step_by f plan o)
by_cut f plan None e up = absurd cc
by_cut f plan (Some x) e up = (x, refl, settle_cut f.vcn (insert f.node f.at x) plan e up)

step_cut : (f : Spot) (r : Rise) (e : Raw) → (step f r).pending ≡ Some e → (taken : Raw) × (r.pending ≡ Some taken) × WasCut f.vcn (insert f.node f.at taken) (step f r)
step_cut f r e up = by_cut f r.plan r.pending e up

tight_by : (raws : List Raw) (b : Bool) → is_tight raws ≡ b → 3432 < bytes raws → b ≡ true
unfolding is_tight node_used
tight_by raws true is h = refl
tight_by raws false is h = let t : nat_lt node_room (node_used raws + 600) ≡ true = lt_test node_room (node_used raws + 600) (let b = bytes_is raws in omega arith) in cc

-- a block that is too long with one short entry more has fewer than 600 free bytes
tight_block : (raws : List Raw) (at : ℕ) (e : Raw) → IsShort e → fits (insert raws at e) ≡ false → is_tight raws ≡ true
unfolding fits
tight_block raws at e short long =
    let over = over_room 4032 (insert raws at e) long in
    let i = insert_bytes raws at e in
    let s = short_bytes e short in
    tight_by raws (is_tight raws) refl (omega arith)

-- ---- the way

pub each_tight : (spots : List Spot) (fresh : List ℕ) (count : ℕ) (r : Rise) → EachSpotSized spots → count + length spots ≤ length fresh → Fitting fresh count r → (e : Raw) → (rise spots r).pending ≡ Some e → All (λ s. is_tight s.node ≡ true) spots
each_tight [] fresh count r sized enough f e up = All-nil (λ s. is_tight s.node ≡ true)
each_tight (s ∷ spots) fresh count r sized enough f e up =
    let rest = All-tail (λ x. Sized x.node) s spots sized in
    let below = rise_fits spots fresh count r rest (omega arith) f in
    let c = step_cut s (rise spots r) e up in
    All-cons (λ x. is_tight x.node ≡ true) s spots (tight_block s.node s.at c.0 (subst ShortPending c.1 below.short) c.2.too_long) (each_tight spots fresh count r rest (omega arith) f c.0 c.1)

pub reaches : (path : List Spot) (r : Rise) (e : Raw) → (rise path r).pending ≡ Some e → All (λ s. is_tight s.node ≡ true) path → IsLeafThere path ⊎ CutUpwards path (rise path r)
reaches [] r e up tight = inl refl
reaches (s ∷ spots) r e up tight =
    let c = step_cut s (rise spots r) e up in
    inr (record {
      block = s;
      below = spots;
      first = refl;
      taken = c.0;
      too_long = c.2.too_long;
      at = c.2.at;
      into = c.2.into;
      writes = c.2.writes;
      fresh = c.2.fresh;
      split = c.2.split;
      tight = tight;
    })

-- the way leads to fewer blocks than the index has levels
pub way_few : (p : Path) (t : Tree) → length (way p t) + 1 ≤ levels t
way_few Here t = level_one t
way_few (Below p) Leaf = omega arith
way_few (Below p) (Down v t) = let h = way_few p t in omega arith
way_few (Below p) (Entry key rest) = level_one rest
way_few (Below p) (DownEntry v t key rest) = let h = way_few p t in omega arith
way_few (Behind p) Leaf = omega arith
way_few (Behind p) (Down v t) = let h = level_one t in omega arith
way_few (Behind p) (Entry key rest) = way_few p rest
way_few (Behind p) (DownEntry v t key rest) = let h = way_few p rest in omega arith

-- ---- even ways

even_one : (goes : Key → Bool) (n : ℕ) (t : Tree) → HasEvenWays n t → way (path_to goes t) t ≡ [] → n ≡ 1
even_one goes n Leaf even none = even
even_one goes n (Down v t) even none = absurd cc
even_one goes n (Entry key rest) even none = even.0
even_one goes n (DownEntry v t key rest) even none = at (goes key) none (λ none'. even_one goes n rest even.2 none')
  where
    at : (b : Bool) → way (if b then Below (path_to goes t) else Behind (path_to goes rest)) (DownEntry v t key rest) ≡ [] → (way (path_to goes rest) rest ≡ [] → n ≡ 1) → n ≡ 1
    at true none' later = absurd cc
    at false none' later = later none'

pub even_leaf : (goes : Key → Bool) (t : Tree) → HasEvenWays (levels t) t → IsLeafThere (way (path_to goes t) t) → levels t ≡ 1
even_leaf goes t even none = even_one goes (levels t) t even none
