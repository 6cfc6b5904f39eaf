-- A stream of an index in clusters, in the words of a step.
use Rattle.std.proofs.Common.{◌≡◌, ℕ, ◌-◌, ◌*◌, ◌<◌, ◌≤◌, ◌⊎◌, Bool, true, false, cond, List, [], ◌∷◌, ◌++◌, refl, sym, ap, ◌∙◌, subst, inl, inr, arith}
use Rattle.std.specs.Prelude.{◌==◌}
use Rattle.std.specs.List.{AllByRecursion}
use Rattle.std.proofs.lemmas.Bool.{cases_lt}
use Rattle.std.proofs.lemmas.List.{append-nil}
use Rattle.record_model.specs.declared.attribute.Attr.{Attr}
use Rattle.record_model.specs.declared.runs.Run.{Run}
use Rattle.record_model.specs.Constants.{names_index}
use Rattle.record_model.specs.Records.{Record}
use Rattle.state_model.specs.declared.stream.Extents.{Extents}
use Rattle.state_model.specs.Loads.{total_clusters}
use Rattle.state_model.specs.Streams.{attributes_of}
use Rattle.space_model.specs.Choosing.{chosen}
use Rattle.stream_runs.specs.Runs.{grown, last_cluster}
use Rattle.data_plan.specs.record_streams.Placing.{placed_record}
use Rattle.data_plan.specs.resized_streams.declared.resized.Resized.{Resized}
use Rattle.data_plan.specs.resized_streams.Resizing.{lengthened, with_sizes, IsGrown, IsSized}
use Rattle.data_plan.specs.step_model.Placing.{Growth, more_of, runs_after}
use Rattle.data_plan.specs.step_model.Used.{used_after, own_attr, placed_attr}
use Rattle.data_plan.specs.step_model.Streams.{Wanted, placed_among, placed_by}
use Rattle.data_plan.specs.used_laws.Laws.{IsOther}
use Rattle.data_plan.proofs.used_laws.Beside.{together}
use Rattle.data_plan.proofs.Cases.{above, equal, runs_grown, runs_same}
use Rattle.directory_growth.specs.Clusters.{longer_extents, IsLonger, counted_record}
use Rattle.directory_growth.specs.Growing.{extents_after, ComesInto}

-- ---- what the calls make

no_more : (per size wanted : ℕ) (runs : List Run) (e : Extents) → wanted ≡ 0 → longer_extents per size wanted runs e ≡ with_sizes size size e
unfolding longer_extents
no_more per size wanted runs e zero = ap (λ (b : Bool). cond b (with_sizes size size e) (lengthened per runs (with_sizes size size e))) (equal wanted 0 zero)

some_more : (per size wanted : ℕ) (runs : List Run) (e : Extents) → 0 < wanted → longer_extents per size wanted runs e ≡ lengthened per runs (with_sizes size size e)
unfolding longer_extents
some_more per size wanted runs e some = ap (λ (b : Bool). cond b (with_sizes size size e) (lengthened per runs (with_sizes size size e))) (above wanted 0 some)

pub sized_longer : (per kind size wanted : ℕ) (runs : List Run) (e : Extents) (r : Record) (z : Resized) → wanted ≡ 0 → runs ≡ [] → IsSized per kind names_index e r size size z → IsLonger per kind e r size wanted runs z
sized_longer per kind size wanted runs e r z zero none is =
    let same = no_more per size wanted runs e zero in
    record {
      extents = is.extents ∙ sym same;
      file = is.file ∙ sym (ap (λ (x : Extents). placed_record per kind names_index x r) same);
      taken = is.taken ∙ sym none;
      freed = is.freed;
    }

pub grown_longer : (per kind size wanted : ℕ) (runs : List Run) (e raised : Extents) (r : Record) (z : Resized) → 0 < wanted → raised ≡ with_sizes size size e → IsGrown per kind names_index raised r runs z → IsLonger per kind e r size wanted runs z
grown_longer per kind size wanted runs e raised r z some raises is =
    let same = ap (lengthened per runs) raises ∙ sym (some_more per size wanted runs e some) in
    record {
      extents = is.extents ∙ same;
      file = is.file ∙ ap (λ (x : Extents). placed_record per kind names_index x r) same;
      taken = is.taken;
      freed = is.freed;
    }

-- ---- what the step says

-- clusters of a stream that is to have so many
pub record TakesMore (bits : List Bool) (e : Extents) (w : Wanted) (size wanted : ℕ) : Type 0 where
  pub more : more_of (placed_among bits e.runs w) ≡ wanted
  pub runs : (placed_among bits e.runs w).runs ≡ chosen bits (last_cluster e.runs) wanted
  pub extents : longer_extents 8 size wanted (chosen bits (last_cluster e.runs) wanted) e ≡ extents_after (placed_among bits e.runs w) e size

abbrev made : ℕ → List Run → ℕ → Extents
made size runs allocated = record { runs = runs; allocated = allocated; real = size; initialised = size }

after_by : (g : Growth) (e : Extents) (size : ℕ) (t : Bool) (runs : List Run) (allocated : ℕ) → (g.clusters == total_clusters g.old) ≡ t → runs_after g ≡ runs → cond t e.allocated (4096 * total_clusters runs) ≡ allocated → extents_after g e size ≡ made size runs allocated
after_by g e size t runs allocated test is size_is =
    ap (λ (b : Bool). made size (runs_after g) (cond b e.allocated (4096 * total_clusters (runs_after g)))) test
    ∙ ap (λ (l : List Run). made size l (cond t e.allocated (4096 * total_clusters l))) is
    ∙ ap (made size runs) size_is

pub takes_more : (bits : List Bool) (e : Extents) (w : Wanted) (size wanted : ℕ) → total_clusters e.runs ≤ w.clusters → wanted ≡ w.clusters - total_clusters e.runs → TakesMore bits e w size wanted
takes_more bits e w size wanted few same = (let runs = ap (chosen bits (last_cluster e.runs)) (sym same) in record { more = sym same; runs = runs; extents = by (cases_lt 0 wanted) runs })
  where
    by : (0 < wanted) ⊎ (wanted ≤ 0) → (placed_among bits e.runs w).runs ≡ chosen bits (last_cluster e.runs) wanted → longer_extents 8 size wanted (chosen bits (last_cluster e.runs) wanted) e ≡ extents_after (placed_among bits e.runs w) e size
    by (inl some) runs =
        let g = placed_among bits e.runs w in
        let taken = chosen bits (last_cluster e.runs) wanted in
        let less : total_clusters e.runs < w.clusters = omega (arith, some, same) in
        let all : 4096 * total_clusters (grown e.runs taken) ≡ total_clusters (grown e.runs taken) * 4096 = omega arith in
        some_more 8 size wanted taken e some
        ∙ sym (after_by g e size false (grown e.runs taken) (total_clusters (grown e.runs taken) * 4096) (above w.clusters (total_clusters e.runs) less) (runs_grown g less ∙ ap (grown e.runs) runs) all)
    by (inr none) runs =
        let g = placed_among bits e.runs w in
        let taken = chosen bits (last_cluster e.runs) wanted in
        let zero : wanted ≡ 0 = omega (arith, none) in
        let equal_to : w.clusters ≡ total_clusters e.runs = omega (arith, zero, same, few) in
        no_more 8 size wanted taken e zero
        ∙ sym (after_by g e size true e.runs e.allocated (equal w.clusters (total_clusters e.runs) equal_to) (runs_same g equal_to) refl)

-- what was made is what comes
pub comes_into : (per kind : ℕ) (bits : List Bool) (e : Extents) (w : Wanted) (size wanted : ℕ) (r : Record) (z : Resized) → per ≡ 8 → TakesMore bits e w size wanted → IsLonger per kind e r size wanted (chosen bits (last_cluster e.runs) wanted) z → ComesInto kind (placed_among bits e.runs w) r e size z
comes_into per kind bits e w size wanted r z eight takes is =
    let runs = chosen bits (last_cluster e.runs) wanted in
    let is8 : IsLonger 8 kind e r size wanted runs z = subst (λ (p : ℕ). IsLonger p kind e r size wanted runs z) eight is in
    record {
      clusters = refl;
      taken = is8.taken ∙ sym takes.runs;
      freed = is8.freed;
      extents = is8.extents ∙ takes.extents;
      file = is8.file ∙ ap (λ (x : Extents). placed_record 8 kind names_index x r) takes.extents;
    }

-- ---- used bytes

-- a stream of an index that is to have this size in so many clusters
abbrev pub wanted_in : ℕ → ℕ → ℕ → ℕ → Wanted
wanted_in n kind size clusters = record { stream = record { file = n; kind = kind; name = names_index }; real = size; initialised = size; clusters = clusters }

counted_none : (per kind wanted : ℕ) (f : Extents) (c : Record) → wanted ≡ 0 → counted_record per kind wanted f c ≡ c
unfolding counted_record
counted_none per kind wanted f c zero = ap (λ (b : Bool). cond b c (placed_record per kind names_index f c)) (equal wanted 0 zero)

counted_some : (per kind wanted : ℕ) (f : Extents) (c : Record) → 0 < wanted → counted_record per kind wanted f c ≡ placed_record per kind names_index f c
unfolding counted_record
counted_some per kind wanted f c some = ap (λ (b : Bool). cond b c (placed_record per kind names_index f c)) (above wanted 0 some)

-- beside other attributes that come, the record that is counted has the used bytes that the step says
abbrev CountsAs : ℕ → ℕ → ℕ → ℕ → ℕ → List Bool → Extents → Record → List Attr → Type 0
CountsAs n kind size clusters wanted bits e c more =
    used_after more (counted_record 8 kind wanted (longer_extents 8 size wanted (chosen bits (last_cluster e.runs) wanted) e) c) ≡ used_after (more ++ (placed_by c (wanted_in n kind size clusters) (placed_among bits e.runs (wanted_in n kind size clusters))).attrs) c

used_more : (n kind size clusters wanted : ℕ) (bits : List Bool) (e : Extents) (c : Record) (a : Attr) (others more : List Attr) → attributes_of kind names_index c.attrs ≡ a ∷ others → AllByRecursion (IsOther kind names_index) more → total_clusters e.runs ≤ clusters → wanted ≡ clusters - total_clusters e.runs → 0 < wanted
    → CountsAs n kind size clusters wanted bits e c more
used_more n kind size clusters wanted bits e c a others more is apart few same some =
    let w = wanted_in n kind size clusters in
    let g = placed_among bits e.runs w in
    let f = longer_extents 8 size wanted (chosen bits (last_cluster e.runs) wanted) e in
    let takes = takes_more bits e w size wanted few same in
    let own = own_attr kind names_index c in
    let less : total_clusters e.runs < clusters = omega (arith, some, same) in
    ap (used_after more) (counted_some 8 kind wanted f c some)
    ∙ ap (λ (x : Extents). used_after more (placed_record 8 kind names_index x c)) takes.extents
    ∙ together.placed 8 kind names_index (extents_after g e size) c a others more is apart
    ∙ sym (ap (λ (b : Bool). used_after (more ++ cond b [] (placed_attr size size (runs_after g) own ∷ [])) c) (above clusters (total_clusters e.runs) less))

used_same : (n kind size clusters wanted : ℕ) (bits : List Bool) (e : Extents) (c : Record) (more : List Attr) → total_clusters e.runs ≤ clusters → wanted ≡ clusters - total_clusters e.runs → wanted ≤ 0 → CountsAs n kind size clusters wanted bits e c more
used_same n kind size clusters wanted bits e c more few same none =
    let w = wanted_in n kind size clusters in
    let g = placed_among bits e.runs w in
    let f = longer_extents 8 size wanted (chosen bits (last_cluster e.runs) wanted) e in
    let own = own_attr kind names_index c in
    let zero : wanted ≡ 0 = omega (arith, none) in
    let equal_to : clusters ≡ total_clusters e.runs = omega (arith, zero, same, few) in
    ap (used_after more) (counted_none 8 kind wanted f c zero)
    ∙ sym (ap (λ (l : List Attr). used_after l c) (append-nil more))
    ∙ sym (ap (λ (b : Bool). used_after (more ++ cond b [] (placed_attr size size (runs_after g) own ∷ [])) c) (equal clusters (total_clusters e.runs) equal_to))

pub counted_used : (n kind size clusters wanted : ℕ) (bits : List Bool) (e : Extents) (c : Record) (a : Attr) (others more : List Attr) → attributes_of kind names_index c.attrs ≡ a ∷ others → AllByRecursion (IsOther kind names_index) more → total_clusters e.runs ≤ clusters → wanted ≡ clusters - total_clusters e.runs
    → used_after more (counted_record 8 kind wanted (longer_extents 8 size wanted (chosen bits (last_cluster e.runs) wanted) e) c) ≡ used_after (more ++ (placed_by c (wanted_in n kind size clusters) (placed_among bits e.runs (wanted_in n kind size clusters))).attrs) c
counted_used n kind size clusters wanted bits e c a others more is apart few same = elim (cases_lt 0 wanted) [
  | inl some ↦ used_more n kind size clusters wanted bits e c a others more is apart few same some
  | inr none ↦ used_same n kind size clusters wanted bits e c more few same none
]
