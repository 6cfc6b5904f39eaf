-- What several calls of a store do to its window, one behind the other.
use Rattle.std.proofs.Common.{◌≡◌, ◌⊎◌, subst, ℕ, ◌≤◌, max, Bool, true, false, List, refl, sym, ◌∙◌, inl, inr, arith}
use Rattle.disk_model.specs.declared.block.Block.{Block}
use Rattle.disk_model.specs.Sectors.{sector_of}
use Rattle.sector_device.specs.Moments.{Changes, LeftSince}
use Rattle.log_page.specs.declared.places.LogPlace.{LogPlace}
use Rattle.store_model.specs.Geometry.{SectorBytes}
use Rattle.store_claims.specs.Windows.{StoreWindow}
use Rattle.store_model.proofs.Told.{true≢false}
use Rattle.found_stays.specs.txn_model.Values.{StoreFacts, own_of, is_own}
use Rattle.found_stays.specs.txn_state.States.{facts_of}
use Rattle.found_stays.specs.txn_laws.Windows.{RecoversWithin, lap_behind, next_lap_in, LapsDuring, SimulatesAs}
use Rattle.found_stays.proofs.txn_laws.Telling.{window_ends}
use Rattle.found_stays.specs.txn_core.Seen.{Seen, TakesStepAs}
use Rattle.found_stays.specs.Found.{AreOffLog, StaysOver}
use Rattle.found_stays.proofs.Bearing.{none_stays, both_stay}
use Rattle.txn_close.specs.Passing.{IsSpared, Spares, LeavesWithin, LeavesFound, BeginsNoPage, PassesAs, Fewer, GoesAs}

-- ---- windows

spares_same : (f : StoreFacts) (w : StoreWindow) → Spares f w w
spares_same f w = record { waiting = omega arith; others = λ k le b spared. refl; claims = λ k b is. is; kept = λ k le b is. refl }

spares_joined : (f : StoreFacts) (old mid new : StoreWindow) → Spares f old mid → Spares f mid new → Spares f old new
spares_joined f old mid new one two = record {
  waiting = (let a = one.waiting in let b = two.waiting in omega (arith, a, b));
  others = λ k le b spared. two.others k le b spared ∙ one.others k (let few = two.waiting in omega (arith, le, few)) b spared;
  claims = λ k b is. two.claims k b (one.claims k b is);
  kept = λ k le b is. two.kept k le b (one.claims k b is) ∙ one.kept k (let few = two.waiting in omega (arith, le, few)) b is;
}

wider : (base next : StoreFacts) (w v : StoreWindow) → ((b : Block) → IsSpared base b → IsSpared next b) → Spares next w v → Spares base w v
wider base next w v spared s = record { waiting = s.waiting; others = λ k le b is. s.others k le b (spared b is); claims = s.claims; kept = s.kept }

-- ---- blocks that are spared

pub fewer_same : (f : StoreFacts) → Fewer f f
fewer_same f = record { dirty = λ b is. is; dead = λ b is. is }

pub fewer_joined : (f g h : StoreFacts) → Fewer f g → Fewer g h → Fewer f h
fewer_joined f g h one two = record { dirty = λ b is. one.dirty b (two.dirty b is); dead = λ b is. one.dead b (two.dead b is) }

not_now : (before now : Bool) → (now ≡ true → before ≡ true) → before ≡ false → now ≡ false
not_now before true rises is = absurd (true≢false (sym (rises refl) ∙ is))
not_now before false rises is = refl

pub spared_on : (f g : StoreFacts) → Fewer f g → (b : Block) → IsSpared f b → IsSpared g b
spared_on f g fewer b spared = record {
  alive = not_now (f.mark b).dead (g.mark b).dead (fewer.dead b) spared.alive;
  alone = λ c rival. not_now (f.mark c).dirty (g.mark c).dirty (fewer.dirty c) (spared.alone c rival);
}

-- ---- pages of the log

pub none_begun : (f : StoreFacts) → BeginsNoPage f f
none_begun f = record { pages = refl; lap = refl; begun = refl }

pub begun_joined : (f g h : StoreFacts) → BeginsNoPage f g → BeginsNoPage g h → BeginsNoPage f h
begun_joined f g h one two = record { pages = two.pages ∙ one.pages; lap = two.lap ∙ one.lap; begun = two.begun ∙ one.begun }

-- ---- passes

pub here : (f g : StoreFacts) (w : StoreWindow) (image : SectorBytes) → g.place ≡ f.place → g.found ≡ f.found → RecoversWithin g.place (own_of g) w image → RecoversWithin f.place (own_of f) w image
here f g w image place found x =
    subst (λ (bs : List Block). RecoversWithin f.place (is_own f.place bs) w image) found (subst (λ (p : LogPlace). RecoversWithin p (is_own p g.found) w image) place x)

pub passes_none : {ends : Bool} (base : StoreFacts) (count moment : ℕ) (c : Changes) (f : StoreFacts) → PassesAs ends ends base count moment c c f f
passes_none base count moment c f = record { known = λ e is. (e, is); place = refl; found = refl; steps = λ w has. (w, has, spares_same base w, λ t image le left. inl left); rises = omega arith; begins_none = none_begun f; laps = λ w has t image le left. inl left; stays = λ w first has off. none_stays count f.found first c c refl }

pub passes_step : {ends : Bool} (base : StoreFacts) (count moment : ℕ) (old now : Changes) (f g : StoreFacts) (After : StoreWindow → StoreWindow → Type 0) → ((w v : StoreWindow) → After w v → Spares base w v)
    → lap_behind f ≤ lap_behind g → BeginsNoPage f g → LeavesFound ends count old now f → SimulatesAs ends count moment old now f g After → PassesAs ends ends base count moment old now f g
passes_step base count moment old now f g After spares rises begins stays s = record {
  known = s.known;
  place = s.place;
  found = s.found;
  steps = λ w has. let x = s.steps w has in (x.0, x.1, spares w x.0 x.2, λ t image le left. by w x.0 image t (spares w x.0 x.2) (x.3 t image le left));
  rises = rises;
  begins_none = begins;
  laps = s.laps;
  stays = stays;
}
  where
    by : (w v : StoreWindow) (image : List (List ℕ)) (t : ℕ) → Spares base w v → LeftSince count old t image ⊎ (RecoversWithin f.place (own_of f) w (sector_of image) ⊎ RecoversWithin f.place (own_of f) v (sector_of image))
        → LeftSince count old t image ⊎ ((u : StoreWindow) × Spares base w u × RecoversWithin f.place (own_of f) u (sector_of image))
    by w v image t follows (inl before) = inl before
    by w v image t follows (inr (inl recovers)) = inr (w, spares_same base w, recovers)
    by w v image t follows (inr (inr recovers)) = inr (v, follows, recovers)

found_here : (f g : StoreFacts) (count : ℕ) (first : SectorBytes) (old now : Changes) → g.place ≡ f.place → g.found ≡ f.found → (AreOffLog g.place g.found → StaysOver count g.found first old now) → AreOffLog f.place f.found → StaysOver count f.found first old now
found_here f g count first old now place found stays off =
    subst (λ (bs : List Block). StaysOver count bs first old now) found (stays (subst (λ (p : LogPlace). AreOffLog p g.found) (sym place) (subst (λ (bs : List Block). AreOffLog f.place bs) (sym found) off)))

laps_joined : (count early late : ℕ) (old mid now : Changes) (f g h : StoreFacts) → early ≤ late → g.place ≡ f.place → lap_behind f ≤ lap_behind g → lap_behind g ≤ lap_behind h → LapsDuring count early old mid f g → LapsDuring count late mid now g h → LapsDuring count early old now f h
laps_joined count early late old mid now f g h later place low high first second = λ t image le left.
    elim (second t image (omega (arith, le, later)) left) [
      | inl between ↦ by image (first t image le between)
      | inr less ↦ inr (let here = subst (λ (p : LogPlace). next_lap_in p (sector_of image) ≤ max (lap_behind g) (lap_behind h)) place less in omega (arith, here, high))
    ]
  where
    by : {A : Type 0} (image : List (List ℕ)) → A ⊎ (next_lap_in f.place (sector_of image) ≤ max (lap_behind f) (lap_behind g)) → A ⊎ (next_lap_in f.place (sector_of image) ≤ max (lap_behind f) (lap_behind h))
    by image (inl before) = inl before
    by image (inr less) = inr (omega (arith, less, low, high))

pub passes_joined : {ends mid_ends last : Bool} (base next : StoreFacts) (count early late : ℕ) (old mid now : Changes) (f g h : StoreFacts) → early ≤ late → ((b : Block) → IsSpared base b → IsSpared next b)
    → PassesAs ends mid_ends base count early old mid f g → PassesAs mid_ends last next count late mid now g h → PassesAs ends last base count early old now f h
passes_joined base next count early late old mid now f g h later spared one two = record {
  known = λ e is. let d = two.known e is in one.known d.0 d.1;
  place = two.place ∙ one.place;
  found = two.found ∙ one.found;
  steps = λ w has.
      let x = one.steps w has in
      let y = two.steps x.0 x.1 in
      (y.0, y.1, spares_joined base w x.0 y.0 x.2 (wider base next x.0 y.0 spared y.2), λ t image le left. by w x.0 t image le x.2 x.3 y.3 left);
  rises = (let a = one.rises in let b = two.rises in omega (arith, a, b));
  begins_none = begun_joined f g h one.begins_none two.begins_none;
  laps = λ w has. let x = one.steps w has in laps_joined count early late old mid now f g h later one.place one.rises two.rises (one.laps w has) (two.laps x.0 x.1);
  stays = λ w first has off. let x = one.steps w has in both_stay count f.found first old mid now (one.stays w first has off) (found_here f g count first mid now one.place one.found (two.stays x.0 first x.1) off);
}
  where
    by : (w u : StoreWindow) (t : ℕ) (image : List (List ℕ)) → t ≤ early → Spares base w u → LeavesWithin base count early old mid f w → LeavesWithin next count late mid now g u → LeftSince count now t image
        → LeftSince count old t image ⊎ ((v : StoreWindow) × Spares base w v × RecoversWithin f.place (own_of f) v (sector_of image))
    by w u t image le follows first second left =
        elim (second t image (omega (arith, le, later)) left) [
          | inl between ↦ first t image le between
          | inr r ↦ inr (r.0, spares_joined base w u r.0 follows (wider base next u r.0 spared r.1), here f g r.0 (sector_of image) one.place one.found r.2)
        ]

-- a store that goes on is one that ends, before the calls and behind them
pub passes_to_end : (base : StoreFacts) (count moment : ℕ) (old now : Changes) (f g : StoreFacts) → PassesAs false false base count moment old now f g → PassesAs false true base count moment old now f g
passes_to_end base count moment old now f g passes = record {
  known = passes.known;
  place = passes.place;
  found = passes.found;
  steps = λ w has. let x = passes.steps w has in (x.0, window_ends now g x.0 x.1, x.2, x.3);
  rises = passes.rises;
  begins_none = passes.begins_none;
  laps = passes.laps;
  stays = passes.stays;
}

passes_from : (base : StoreFacts) (count moment : ℕ) (old now : Changes) (f g : StoreFacts) → PassesAs true true base count moment old now f g → PassesAs false true base count moment old now f g
passes_from base count moment old now f g passes = record {
  known = passes.known;
  place = passes.place;
  found = passes.found;
  steps = λ w has. passes.steps w (window_ends old f w has);
  rises = passes.rises;
  begins_none = passes.begins_none;
  laps = λ w has. passes.laps w (window_ends old f w has);
  stays = λ w first has. passes.stays w first (window_ends old f w has);
}

-- ---- calls of a store

pub goes_none : {ends : Bool} {D : Type 0} (count moment : D → ℕ) (changes : D → Changes) (base : StoreFacts) (s : Seen D) → Fewer base (facts_of s.state) → GoesAs ends ends count moment changes base s s
goes_none count moment changes base s fewer =
    record { later = omega arith; sectors = refl; fewer = fewer; passes = passes_none base (count s.device) (moment s.device) (changes s.device) (facts_of s.state) }

pub goes_step : {ends : Bool} {D : Type 0} (count moment : D → ℕ) (changes : D → Changes) (base : StoreFacts) (After : StoreWindow → StoreWindow → Type 0) (old new : Seen D) → moment old.device ≤ moment new.device → count new.device ≡ count old.device
    → Fewer base (facts_of new.state) → ((w v : StoreWindow) → After w v → Spares base w v) → lap_behind (facts_of old.state) ≤ lap_behind (facts_of new.state) → BeginsNoPage (facts_of old.state) (facts_of new.state) → LeavesFound ends (count old.device) (changes old.device) (changes new.device) (facts_of old.state) → TakesStepAs ends count moment changes After old new
    → GoesAs ends ends count moment changes base old new
goes_step count moment changes base After old new later sectors fewer spares rises begins stays step = record {
  later = later;
  sectors = sectors;
  fewer = fewer;
  passes = passes_step base (count old.device) (moment old.device) (changes old.device) (changes new.device) (facts_of old.state) (facts_of new.state) After spares rises begins stays step;
}

pub goes_joined : {ends mid_ends last : Bool} {D : Type 0} (count moment : D → ℕ) (changes : D → Changes) (base : StoreFacts) (old mid new : Seen D) → GoesAs ends mid_ends count moment changes base old mid → GoesAs mid_ends last count moment changes (facts_of mid.state) mid new
    → GoesAs ends last count moment changes base old new
goes_joined {ends} {mid_ends} {last} {D} count moment changes base old mid new one two = record {
  later = (let a = one.later in let b = two.later in omega (arith, a, b));
  sectors = two.sectors ∙ one.sectors;
  fewer = fewer_joined base (facts_of mid.state) (facts_of new.state) one.fewer two.fewer;
  passes = passes_joined base (facts_of mid.state) (count old.device) (moment old.device) (moment mid.device) (changes old.device) (changes mid.device) (changes new.device) (facts_of old.state) (facts_of mid.state) (facts_of new.state) one.later
      (spared_on base (facts_of mid.state) one.fewer) one.passes
      (subst (λ (n : ℕ). PassesAs mid_ends last (facts_of mid.state) n (moment mid.device) (changes mid.device) (changes new.device) (facts_of mid.state) (facts_of new.state)) one.sectors two.passes);
}

pub goes_to_end : {D : Type 0} (count moment : D → ℕ) (changes : D → Changes) (base : StoreFacts) (old new : Seen D) → GoesAs false false count moment changes base old new → GoesAs false true count moment changes base old new
goes_to_end count moment changes base old new goes = record {
  later = goes.later;
  sectors = goes.sectors;
  fewer = goes.fewer;
  passes = passes_to_end base (count old.device) (moment old.device) (changes old.device) (changes new.device) (facts_of old.state) (facts_of new.state) goes.passes;
}

pub goes_from : {D : Type 0} (count moment : D → ℕ) (changes : D → Changes) (base : StoreFacts) (old new : Seen D) → GoesAs true true count moment changes base old new → GoesAs false true count moment changes base old new
goes_from count moment changes base old new goes = record {
  later = goes.later;
  sectors = goes.sectors;
  fewer = goes.fewer;
  passes = passes_from base (count old.device) (moment old.device) (changes old.device) (changes new.device) (facts_of old.state) (facts_of new.state) goes.passes;
}
