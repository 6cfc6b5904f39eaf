-- The steps of putting the bits of runs.
use Rattle.std.proofs.Common.{◌≡◌, ◌⊎◌, ℕ, suc, ◌+◌, ◌<◌, ◌≤◌, Bool, List, [], ◌∷◌, length, get_or, drop, Option, Some, None, refl, sym, ap, subst, ◌∙◌, inl, inr, arith}
use Rattle.std.specs.Prelude.{IfSome, Result, Ok, Err, OnErr}
use Rattle.std.proofs.lemmas.List.{drop_more, drop_all}
use Rattle.draft_bits.specs.disk_model.Content.{Content}
use Rattle.draft_bits.specs.record_model.declared.runs.Run.{Run}
use Rattle.draft_bits.specs.state_model.declared.stream.Extents.{Extents}
use Rattle.draft_bits.specs.plan_draft.declared.touched.Touched.{Touched}
use Rattle.draft_runs.specs.Clusters.{PutsClusters, PutsClustersFront, PutsRuns, PutsRunsFront}

-- what is put of the runs that are left leads from now on to what is put of all
pub record Leads (c : Content) (per : ℕ) (e : Extents) (value : Bool) (runs left : List Run) (old now : List Touched) : Type 0 where
  pub all : (new : List Touched) → PutsRuns c per e value left now new → PutsRuns c per e value runs old new
  pub front : (new : List Touched) → PutsRunsFront c per e value left now new → PutsRunsFront c per e value runs old new

-- ---- what a list puts

pub nothing_put : (c : Content) (per : ℕ) (e : Extents) (value : Bool) (runs : List Run) (old : List Touched) → runs ≡ [] → PutsRuns c per e value runs old old
unfolding PutsRuns
nothing_put c per e value [] old none = refl
nothing_put c per e value (r ∷ runs) old none = absurd cc

one_put : (c : Content) (per : ℕ) (e : Extents) (value : Bool) (r : Run) (runs : List Run) (old mid new : List Touched) → PutsClusters c per e value r.lcn r.len old mid → PutsRuns c per e value runs mid new → PutsRuns c per e value (r ∷ runs) old new
unfolding PutsRuns
one_put c per e value r runs old mid new first rest = (mid, (first, rest))

one_front : (c : Content) (per : ℕ) (e : Extents) (value : Bool) (r : Run) (runs : List Run) (old mid new : List Touched) → PutsClusters c per e value r.lcn r.len old mid → PutsRunsFront c per e value runs mid new → PutsRunsFront c per e value (r ∷ runs) old new
unfolding PutsRunsFront
one_front c per e value r runs old mid new first rest = inr (mid, (first, rest))

part_front : (c : Content) (per : ℕ) (e : Extents) (value : Bool) (r : Run) (runs : List Run) (old new : List Touched) → PutsClustersFront c per e value r.lcn r.len old new → PutsRunsFront c per e value (r ∷ runs) old new
unfolding PutsRunsFront
part_front c per e value r runs old new part = inl part

-- ---- the loop

pub on_err : {T E : Type 0} (r : Result T E) (P : Type 0) → P → OnErr r P
on_err (Ok x) P holds = tt
on_err (Err e) P holds = holds

pub begins : (content : Option Content) (per : ℕ) (e : Extents) (value : Bool) (runs : List Run) (old : List Touched) → IfSome content (λ c. Leads c per e value runs runs old old)
begins None per e value runs old = tt
begins (Some c) per e value runs old = record { all = λ new put. put; front = λ new put. put }

pub step : (content : Option Content) (per : ℕ) (e : Extents) (value : Bool) (runs : List Run) (i : ℕ) (d : Run) (old mid new : List Touched) → i < length runs → IfSome content (λ c. Leads c per e value runs (drop i runs) old mid)
    → IfSome content (λ c. PutsClusters c per e value (get_or runs i d).lcn (get_or runs i d).len mid new) → IfSome content (λ c. Leads c per e value runs (drop (i + 1) runs) old new)
step None per e value runs i d old mid new lt leads put = tt
step (Some c) per e value runs i d old mid new lt leads put =
    let is : drop i runs ≡ get_or runs i d ∷ drop (i + 1) runs = drop_more runs i d lt in
    record {
      all = λ last rest. leads.all last (subst (λ (l : List Run). PutsRuns c per e value l mid last) (sym is) (one_put c per e value (get_or runs i d) (drop (i + 1) runs) mid new last put rest));
      front = λ last rest. leads.front last (subst (λ (l : List Run). PutsRunsFront c per e value l mid last) (sym is) (one_front c per e value (get_or runs i d) (drop (i + 1) runs) mid new last put rest));
    }

pub stops : (content : Option Content) (per : ℕ) (e : Extents) (value : Bool) (runs : List Run) (i : ℕ) (d : Run) (old mid new : List Touched) → i < length runs → IfSome content (λ c. Leads c per e value runs (drop i runs) old mid)
    → IfSome content (λ c. PutsClustersFront c per e value (get_or runs i d).lcn (get_or runs i d).len mid new) → IfSome content (λ c. PutsRunsFront c per e value runs old new)
stops None per e value runs i d old mid new lt leads put = tt
stops (Some c) per e value runs i d old mid new lt leads put =
    let is : drop i runs ≡ get_or runs i d ∷ drop (i + 1) runs = drop_more runs i d lt in
    leads.front new (subst (λ (l : List Run). PutsRunsFront c per e value l mid new) (sym is) (part_front c per e value (get_or runs i d) (drop (i + 1) runs) mid new put))

pub ends : (content : Option Content) (per : ℕ) (e : Extents) (value : Bool) (runs : List Run) (i : ℕ) (old new : List Touched) → length runs ≤ i → IfSome content (λ c. Leads c per e value runs (drop i runs) old new) → IfSome content (λ c. PutsRuns c per e value runs old new)
ends None per e value runs i old new past leads = tt
ends (Some c) per e value runs i old new past leads = leads.all new (nothing_put c per e value (drop i runs) new (drop_all i runs past))
