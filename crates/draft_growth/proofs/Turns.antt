-- The steps of putting the bits of runs.
use Rattle.std.proofs.Common.{◌≡◌, ℕ, ◌+◌, ◌<◌, ◌≤◌, Bool, List, [], ◌∷◌, length, get_or, drop, Option, Some, None, refl, sym, subst}
use Rattle.std.specs.Prelude.{IfSome}
use Rattle.std.proofs.lemmas.List.{drop_more, drop_all}
use Rattle.disk_model.specs.Content.{Content}
use Rattle.record_model.specs.declared.runs.Run.{Run}
use Rattle.draft_bitmaps.specs.state_model.declared.stream.Extents.{Extents}
use Rattle.draft_bitmaps.specs.plan_draft.declared.touched.Touched.{Touched}
use Rattle.draft_bitmaps.specs.declared.bitmap.Bitmap.{Bitmap}
use Rattle.draft_growth.specs.Clusters.{PutsClustersOf, PutsRunsOf}

-- what is put of the runs that are left leads from now on to what is put of all
pub record Leads (c : Content) (per : ℕ) (table mirror : Extents) (bit : Bool) (runs left : List Run) (b between : Bitmap) (old now : List Touched) : Type 0 where
  pub all : (after : Bitmap) (new : List Touched) → PutsRunsOf c per table mirror bit left between now new after → PutsRunsOf c per table mirror bit runs b old new after

nothing_put : (c : Content) (per : ℕ) (table mirror : Extents) (bit : Bool) (runs : List Run) (b : Bitmap) (old : List Touched) → runs ≡ [] → PutsRunsOf c per table mirror bit runs b old old b
unfolding PutsRunsOf
nothing_put c per table mirror bit [] b old none = (refl, refl)
nothing_put c per table mirror bit (r ∷ runs) b old none = absurd cc

one_put : (c : Content) (per : ℕ) (table mirror : Extents) (bit : Bool) (r : Run) (runs : List Run) (b between after : Bitmap) (old mid new : List Touched) → PutsClustersOf c per table mirror bit r.lcn r.len b old mid between
    → PutsRunsOf c per table mirror bit runs between mid new after → PutsRunsOf c per table mirror bit (r ∷ runs) b old new after
unfolding PutsRunsOf
one_put c per table mirror bit r runs b between after old mid new first rest = (between, mid, first, rest)

pub begins : (content : Option Content) (per : ℕ) (table mirror : Extents) (bit : Bool) (runs : List Run) (b : Bitmap) (old : List Touched) → IfSome content (λ c. Leads c per table mirror bit runs runs b b old old)
begins None per table mirror bit runs b old = tt
begins (Some c) per table mirror bit runs b old = record { all = λ after new put. put }

pub step : (content : Option Content) (per : ℕ) (table mirror : Extents) (bit : Bool) (runs : List Run) (i : ℕ) (d : Run) (b between after : Bitmap) (old mid new : List Touched) → i < length runs
    → IfSome content (λ c. Leads c per table mirror bit runs (drop i runs) b between old mid) → IfSome content (λ c. PutsClustersOf c per table mirror bit (get_or runs i d).lcn (get_or runs i d).len between mid new after)
    → IfSome content (λ c. Leads c per table mirror bit runs (drop (i + 1) runs) b after old new)
step None per table mirror bit runs i d b between after old mid new lt leads put = tt
step (Some c) per table mirror bit runs i d b between after old mid new lt leads put =
    let is : drop i runs ≡ get_or runs i d ∷ drop (i + 1) runs = drop_more runs i d lt in
    record {
      all = λ end last rest.
          leads.all end last
          (subst (λ (l : List Run). PutsRunsOf c per table mirror bit l between mid last end) (sym is) (one_put c per table mirror bit (get_or runs i d) (drop (i + 1) runs) between after end mid new last put rest));
    }

pub ends : (content : Option Content) (per : ℕ) (table mirror : Extents) (bit : Bool) (runs : List Run) (i : ℕ) (b after : Bitmap) (old new : List Touched) → length runs ≤ i
    → IfSome content (λ c. Leads c per table mirror bit runs (drop i runs) b after old new) → IfSome content (λ c. PutsRunsOf c per table mirror bit runs b old new after)
ends None per table mirror bit runs i b after old new past leads = tt
ends (Some c) per table mirror bit runs i b after old new past leads = leads.all after new (nothing_put c per table mirror bit (drop i runs) after new (drop_all i runs past))
