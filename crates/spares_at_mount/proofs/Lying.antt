-- The log of a mounted volume lies in clusters that the volume's log has.
use Rattle.std.proofs.Common.{◌≡◌, ◌≢◌, subst, ℕ, ◌+◌, ◌*◌, ◌/◌, ◌<◌, ◌≤◌, Bool, true, false, cond, ◌&&◌, eqb, ltb, List, [], ◌∷◌, ◌++◌, Option, Some, None, refl, sym, ap, ◌∙◌, inl, inr, arith}
use Rattle.std.specs.Prelude.{is_some, unwrap_or, filter}
use Rattle.std.specs.List.{flat_map, sum_by}
use Rattle.std.proofs.lemmas.Bool.{and_parts, ltb-true}
use Rattle.std.proofs.lemmas.List.Elements.{filter-append}
use Rattle.std.proofs.lemmas.List.Sums.{sum_by-cons, sum_by-append}
use Rattle.disk_model.specs.declared.block.Block.{Block}
use Rattle.disk_model.specs.declared.block.BlockKind.TheVariants.{Plain}
use Rattle.disk_model.specs.Content.{Content}
use Rattle.record_model.specs.Constants.{data_type, file_name}
use Rattle.record_model.specs.declared.attribute.Attr.{Attr}
use Rattle.record_model.specs.declared.attribute.OwnForm.{OwnForm}
use Rattle.record_model.specs.declared.attribute.OwnForm.TheVariants.{Resident, Mapped}
use Rattle.record_model.specs.declared.runs.Run.{Run}
use Rattle.record_model.specs.Records.{Record}
use Rattle.state_model.specs.declared.geometry.Geometry.{Geometry}
use Rattle.state_model.specs.declared.stream.Extents.{Extents}
use Rattle.state_model.specs.declared.stream.Stream.{Stream}
use Rattle.state_model.specs.declared.stream.Stream.TheVariants.{Held, Placed}
use Rattle.state_model.specs.Loads.{total_clusters, data_stream}
use Rattle.state_model.specs.Streams.{is_attribute_of, attributes_of, attribute_runs, form_runs, form_stream, joined, stream_of, block_at}
use Rattle.mount_laws.specs.log_page.declared.places.LogPlace.{LogPlace}
use Rattle.mount_laws.specs.log_reading.LogPages.{log_sector}
use Rattle.state_store.specs.log_area.Areas.{page_first}
use Rattle.mount_laws.specs.volume_model.Volumes.{Volume, file_in, file_stream, log_file}
use Rattle.mount_laws.specs.volume_model.Owners.{uses}
use Rattle.mount_laws.specs.volume_model.Sizes.{are_joined, follow, keeps_streams}
use Rattle.mount_laws.specs.stream_laws.Sharing.{stream_at, runs_in}
use Rattle.mount_laws.proofs.stream_laws.Placing.{lies_in_used}
use Rattle.mount_laws.proofs.stream_laws.Sharing.{attr_uses, attributes_sum, stream_uses, uses-flat_map, uses-none}
use Rattle.mount_laws.specs.plan_owners.States.{Stands}
use Rattle.mount_laws.specs.plan_owners.Agreeing.{log_key}
use Rattle.mount_laws.proofs.plan_owners.Standing.{streams_at}
use Rattle.plan_growth.proofs.Placed.{stream_rule}
use Rattle.mount_laws.specs.image_open.LogPlaces.{place_of_log, stream_place, LieAlike}
use Rattle.mount_laws.proofs.image_open.Lying.{log_lies_in_stream}
use Rattle.mount_laws.specs.Laws.{LiesByRecord}
use Rattle.spares_at_mount.specs.Mounts.{LiesInLog}

-- ---- clusters of joined attributes

no_runs : (a : Attr) (value : List ℕ) (indexed : ℕ) → a.form ≡ Resident value indexed → attribute_runs a ≡ []
unfolding attribute_runs
no_runs a value indexed is = ap form_runs is

-- a value is the only attribute of its stream
never_held : (a : Attr) (more : List Attr) (x : ℕ) → attribute_runs a ≡ [] → are_joined (a ∷ more) ≡ true → 1 ≤ sum_by (attr_uses x) (a ∷ more) → ⊥
never_held a [] x none is some = (let sum = sum_by-cons (attr_uses x) a [] in let own : attr_uses x a ≡ 0 = ap (λ (l : List Run). uses l x) none ∙ uses-none x in let rest : sum_by (attr_uses x) [] ≡ 0 = refl in omega (arith, sum, own, rest, some))
never_held a (b ∷ more) x none is some =
    let parts = and_parts (eqb _ 0 && ltb 0 (total_clusters (attribute_runs a))) (follow (0 + total_clusters (attribute_runs a)) (b ∷ more)) is in
    let long = ltb-true 0 (total_clusters (attribute_runs a)) (and_parts (eqb _ 0) (ltb 0 (total_clusters (attribute_runs a))) parts.0).1 in
    let short : total_clusters (attribute_runs a) ≡ 0 = ap total_clusters none in
    omega (arith, long, short)

joined_used : (attributes : List Attr) (x : ℕ) → are_joined attributes ≡ true → 1 ≤ sum_by (attr_uses x) attributes → 1 ≤ uses (runs_in (joined attributes)) x
joined_used [] x is some = (let none : sum_by (attr_uses x) [] ≡ 0 = refl in absurd (omega (arith, none, some)))
joined_used (a ∷ more) x is some = by a.form refl
  where
    by : (form : OwnForm) → a.form ≡ form → 1 ≤ uses (runs_in (joined (a ∷ more))) x
    by (Resident value indexed) held = absurd (never_held a more x (no_runs a value indexed held) is some)
    by (Mapped sizes pairs) placed =
        let all : uses (runs_in (joined (a ∷ more))) x ≡ uses (flat_map attribute_runs (a ∷ more)) x = ap (λ (f : OwnForm). uses (runs_in (Some (form_stream f (flat_map attribute_runs (a ∷ more))))) x) placed in
        let sum : uses (flat_map attribute_runs (a ∷ more)) x ≡ sum_by (attr_uses x) (a ∷ more) = uses-flat_map attribute_runs (a ∷ more) x in
        omega (arith, all, sum, some)

-- what a stream has by a file's own record it has by all of them
merged_used : (file base : Record) (more : List Attr) (x : ℕ) → file.attrs ≡ base.attrs ++ more → are_joined (attributes_of data_type [] file.attrs) ≡ true → 1 ≤ uses (runs_in (stream_of data_type [] base.attrs)) x → 1 ≤ uses (runs_in (stream_of data_type [] file.attrs)) x
unfolding stream_of
merged_used file base more x is are some =
    let own = stream_uses data_type [] base.attrs x in
    let all : sum_by (attr_uses x) (attributes_of data_type [] file.attrs) ≡ sum_by (attr_uses x) (filter (is_attribute_of data_type []) file.attrs) = attributes_sum (attr_uses x) data_type [] file.attrs in
    let parts : sum_by (attr_uses x) (filter (is_attribute_of data_type []) file.attrs) ≡ sum_by (attr_uses x) (filter (is_attribute_of data_type []) base.attrs ++ filter (is_attribute_of data_type []) more) =
    ap (λ (l : List Attr). sum_by (attr_uses x) (filter (is_attribute_of data_type []) l)) is ∙ ap (sum_by (attr_uses x)) (filter-append (is_attribute_of data_type []) base.attrs more)
    in
    let sum = sum_by-append (attr_uses x) (filter (is_attribute_of data_type []) base.attrs) (filter (is_attribute_of data_type []) more) in
    let mine : 1 ≤ uses (runs_in (joined (attributes_of data_type [] base.attrs))) x = some in
    joined_used (attributes_of data_type [] file.attrs) x are (omega (arith, own, all, parts, sum, mine))

is_data_name : file_name ≢ data_type
is_data_name is = omega (arith, is)

file_joined : (c : Content) (g : Geometry) (clusters : ℕ) (v : Volume) (n : ℕ) (file : Record) → Stands c g clusters v → file_in v n ≡ Some file → are_joined (attributes_of data_type [] file.attrs) ≡ true
unfolding keeps_streams
file_joined c g clusters v n file s is = by (attributes_of data_type [] file.attrs) refl
  where
    by : (attributes : List Attr) → attributes_of data_type [] file.attrs ≡ attributes → are_joined (attributes_of data_type [] file.attrs) ≡ true
    by [] none = ap are_joined none
    by (a ∷ others) some = (stream_rule v.per v.clusters data_type [] file a others is_data_name some (and_parts _ _ (and_parts _ _ (and_parts _ _ (streams_at c g clusters v n file s is)).0).0).0).0

-- ---- pages

some_of : (o : Option ℕ) → is_some o ≡ true → (s : ℕ) × (o ≡ Some s)
some_of None is = absurd cc
some_of (Some s) is = (s, refl)

none_either : (t : Bool) (o : Option ℕ) → o ≡ None → is_some (cond t o o) ≡ true → ⊥
none_either true None none is = absurd cc
none_either false None none is = absurd cc
none_either t (Some s) none is = absurd cc

module _ (sectors : ℕ) (c : Content) (g : Geometry) (total : ℕ) (place : LogPlace) (v : Volume) (is : LiesByRecord sectors c g total place v) where
  page_used : (k : ℕ) → k < place.pages → (s : Option Stream) → data_stream is.base ≡ s → place ≡ place_of_log 8 total sectors s → 1 ≤ uses (runs_in s) (page_first place k / 8)
  unfolding stream_place
  page_used k below None none at = (let pages : place.pages ≡ 0 = ap (λ (p : LogPlace). p.pages) at in absurd (omega (arith, pages, below)))
  page_used k below (Some (Held value)) held at = absurd (none_either _ None refl (subst (λ (p : LogPlace). is_some (log_sector p (8 * k)) ≡ true) at (is.there (8 * k) (omega (arith, below)))))
  page_used k below (Some (Placed e)) placed at =
      let found = some_of (log_sector place (8 * k)) (is.there (8 * k) (omega (arith, below))) in
      let first : page_first place k ≡ found.0 = ap (λ (o : Option ℕ). unwrap_or o 0) found.1 in
      let lies = log_lies_in_stream.only 8 total sectors e (8 * k) found.0 (ap (λ (p : LogPlace). log_sector p (8 * k)) (sym at) ∙ found.1) in
      let used = lies_in_used 8 e.runs Plain (8 * k) (record { first = found.0; kind = Plain }) (omega arith) lies found.0 (omega arith, omega arith) in
      subst (λ (i : ℕ). 1 ≤ uses e.runs (i / 8)) (sym first) used

  pub lies_in_log : LiesInLog place v
  unfolding data_stream
  lies_in_log k below =
      let base : 1 ≤ uses (runs_in (stream_of data_type [] is.base.attrs)) (page_first place k / 8) = page_used k below (data_stream is.base) refl is.lies in
      let all = merged_used is.file is.base is.more (page_first place k / 8) is.attrs (file_joined c g total v log_file is.file is.stands is.is_file) base in
      subst (λ (o : Option Record). 1 ≤ uses (runs_in (file_stream data_type [] o)) (page_first place k / 8)) (sym is.is_file) all

pub alike_lies : (p q : LogPlace) (v : Volume) → LieAlike p q → LiesInLog q v → LiesInLog p v
alike_lies p q v alike lies k below =
    let pages = alike.pages in
    let first : page_first p k ≡ page_first q k = ap (λ (o : Option ℕ). unwrap_or o 0) (alike.sectors (8 * k)) in
    subst (λ (i : ℕ). 0 < uses (runs_in (stream_at v log_key)) (i / 8)) (sym first) (lies k (omega (arith, below, pages)))
