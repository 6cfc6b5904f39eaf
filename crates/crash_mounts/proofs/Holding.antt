-- The pages of a log hold each live block of it.
use Rattle.std.proofs.Common.{◌≡◌, ℕ, ◌+◌, ◌*◌, ◌/◌, ◌%◌, ◌<◌, ◌≤◌, true, ◌&&◌, eqb, leb, List, [], Option, Some, None, refl, sym, ap, ◌∙◌, subst, arith}
use Rattle.std.specs.Prelude.{is_some}
use Rattle.std.specs.List.{list_all}
use Rattle.std.proofs.lemmas.Bool.{and_parts, eqb-true, leb-true}
use Rattle.disk_model.specs.declared.block.Block.{Block}
use Rattle.disk_model.specs.declared.block.BlockKind.{BlockKind}
use Rattle.disk_model.specs.declared.block.BlockKind.TheVariants.{Plain}
use Rattle.disk_model.specs.Sectors.{sectors}
use Rattle.disk_model.specs.Content.{Content}
use Rattle.record_model.specs.declared.runs.Run.{Run}
use Rattle.record_model.specs.Records.{Record}
use Rattle.record_model.specs.Constants.{data_type}
use Rattle.state_model.specs.declared.geometry.Geometry.{Geometry}
use Rattle.state_model.specs.declared.stream.Extents.{Extents}
use Rattle.state_model.specs.Loads.{total_clusters}
use Rattle.state_model.specs.declared.stream.Stream.{Stream}
use Rattle.state_model.specs.declared.stream.Stream.TheVariants.{Held, Placed}
use Rattle.state_model.specs.Streams.{attributes_of, stream_of, block_at}
use Rattle.volume_model.specs.Volumes.{Volume, file_in, file_stream, log_file}
use Rattle.volume_model.specs.Owners.{uses}
use Rattle.volume_model.specs.Sizes.{fits_volume, has_sizes, lies_inside, keeps_streams}
use Rattle.stream_laws.specs.Owners.{stream_kind, initialised_in}
use Rattle.stream_laws.specs.Sharing.{StreamKey, stream_at, runs_in}
use Rattle.mount_laws.specs.plan_owners.Agreeing.{log_key}
use Rattle.mount_laws.specs.plan_owners.Kinds.{cluster_of}
use Rattle.mount_laws.specs.plan_owners.States.{Stands}
use Rattle.mount_laws.proofs.plan_owners.Standing.{streams_at}
use Rattle.plan_growth.proofs.plan_model.Drafting.{per_is}
use Rattle.plan_growth.proofs.Placed.{some_attributes, stream_rule}
use Rattle.log_page.specs.declared.places.LogPlace.{LogPlace}
use Rattle.log_reading.specs.LogPages.{log_sector}
use Rattle.log_reading.specs.Rings.{IsRingPlace}
use Rattle.member_states.specs.log_area.Areas.{page_first}
use Rattle.mount_laws.specs.image_open.LogPlaces.{place_of_log, LieAlike}
use Rattle.mount_laws.proofs.image_open.Lying.{log_lies_in_stream}
use Rattle.crash_mounts.specs.Clearing.{PagesHoldLog, PagesHold, LogsAreFiles}
use Rattle.crash_mounts.proofs.Logs.{first_at}

-- a live block at a place of a stream
record LiesAt (v : Volume) (key : StreamKey) (b : Block) : Type 0 where
  number : ℕ
  lies : block_at v.per (runs_in (stream_at v key)) (stream_kind key) number ≡ Some b
  begins : 512 * (sectors (stream_kind key) * number) < initialised_in (stream_at v key)

plain_log : stream_kind log_key ≡ Plain
unfolding stream_kind
plain_log = refl

same_some : (x y : ℕ) → Some x ≡ Some y → x ≡ y
same_some x y is = cc

same_first : (b c : Block) → Some b ≡ Some c → b.first ≡ c.first
same_first b c is = (let same : b ≡ c = cc in ap (λ (x : Block). x.first) same)

lies_nowhere : (per : ℕ) (kind : BlockKind) (n : ℕ) (b : Block) → block_at per [] kind n ≡ Some b → ⊥
unfolding block_at
lies_nowhere per kind n b is = absurd cc

module _ (place own : LogPlace) (total device : ℕ) (v : Volume) (per : v.per ≡ 8) (ring : IsRingPlace place) (alike : LieAlike place own) (b : Block) (n : ℕ) where
  -- the n-th sector of the log
  by_sector : (s : ℕ) → log_sector own n ≡ Some s → b.first ≡ s → n < 8 * place.pages → (k : ℕ) × (k < place.pages) × (page_first place k / 8 ≡ cluster_of b)
  by_sector s at first below =
      let k = n / 8 in
      let i = n % 8 in
      let inside : k < place.pages = omega (arith, below) in
      let few : i < 8 = omega arith in
      let number : 8 * k + i ≡ n = omega arith in
      let page = ring.pages k inside in
      let row : page.0 + i ≡ s = same_some (page.0 + i) s (sym (page.1.row i few) ∙ ap (log_sector place) number ∙ alike.sectors n ∙ at) in
      let begun = page.1.begun in
      let is = first_at place k page.0 page.1 in
      (k, inside, omega (arith, is, begun, few, row, first))

  by_stream : (s : Option Stream) → block_at 8 (runs_in s) Plain n ≡ Some b → n < 8 * place.pages → own ≡ place_of_log 8 total device s → (k : ℕ) × (k < place.pages) × (page_first place k / 8 ≡ cluster_of b)
  by_stream None lies below is = absurd (lies_nowhere 8 Plain n b lies)
  by_stream (Some (Held value)) lies below is = absurd (lies_nowhere 8 Plain n b lies)
  by_stream (Some (Placed e)) lies below is =
      let page = ring.pages (n / 8) (omega (arith, below)) in
      let at : log_sector own n ≡ Some (page.0 + n % 8) = sym (alike.sectors n) ∙ ap (log_sector place) (omega arith) ∙ page.1.row (n % 8) (omega arith) in
      let found = log_lies_in_stream.only 8 total device e n (page.0 + n % 8) (ap (λ (p : LogPlace). log_sector p n) (sym is) ∙ at) in
      by_sector (page.0 + n % 8) at (same_first b (record { first = page.0 + n % 8; kind = Plain }) (sym lies ∙ found)) below

pub by_sizes : (place own : LogPlace) (total sectors : ℕ) (first v : Volume) → v.per ≡ 8 → IsRingPlace place → LieAlike place own → own ≡ place_of_log 8 total sectors (stream_at first log_key) → runs_in (stream_at v log_key) ≡ runs_in (stream_at first log_key)
    → initialised_in (stream_at v log_key) ≤ 4096 * place.pages → PagesHoldLog place v
by_sizes place own total device first v per ring alike is same most b live log =
    let at : LiesAt v live.owned.stream b = record { number = live.owned.number; lies = live.owned.lies; begins = live.begins } in
    let here : LiesAt v log_key b = subst (λ (key : StreamKey). LiesAt v key b) log at in
    let plain : block_at v.per (runs_in (stream_at v log_key)) Plain here.number ≡ Some b = subst (λ (kind : BlockKind). block_at v.per (runs_in (stream_at v log_key)) kind here.number ≡ Some b) plain_log here.lies in
    let eight : block_at 8 (runs_in (stream_at v log_key)) Plain here.number ≡ Some b = subst (λ (p : ℕ). block_at p (runs_in (stream_at v log_key)) Plain here.number ≡ Some b) per plain in
    let begins : 512 * (1 * here.number) < initialised_in (stream_at v log_key) = subst (λ (kind : BlockKind). 512 * (sectors kind * here.number) < initialised_in (stream_at v log_key)) plain_log here.begins in
    by_stream place own total device v per ring alike b here.number (stream_at first log_key) (ap (λ (runs : List Run). block_at 8 runs Plain here.number) (sym same) ∙ eight) (omega (arith, begins, most)) is

-- ---- no more is initialised than there are clusters

sizes_are : (per : ℕ) (e : Extents) → has_sizes per e ≡ true → e.initialised ≤ total_clusters e.runs * (512 * per)
sizes_are per e is =
    let sizes = and_parts (leb e.initialised e.real && leb e.real e.allocated) (eqb e.allocated (total_clusters e.runs * (512 * per))) is in
    let two = and_parts (leb e.initialised e.real) (leb e.real e.allocated) sizes.0 in
    let one = leb-true e.initialised e.real two.0 in
    let next = leb-true e.real e.allocated two.1 in
    let all = eqb-true e.allocated (total_clusters e.runs * (512 * per)) sizes.1 in
    omega (arith, one, next, all)

module _ (c : Content) (g : Geometry) (clusters : ℕ) (v : Volume) (s : Stands c g clusters v) where
  by_file : (e : Extents) (o : Option Record) → file_in v log_file ≡ o → file_stream data_type [] o ≡ Some (Placed e) → has_sizes v.per e ≡ true
  unfolding keeps_streams stream_of
  by_file e None at is = absurd cc
  by_file e (Some r) at is =
      let some = some_attributes (attributes_of data_type [] r.attrs) (Placed e) is in
      let all = (and_parts _ _ (and_parts _ _ (and_parts _ _ (streams_at c g clusters v log_file r s at)).0).0).0 in
      let both = stream_rule v.per v.clusters data_type [] r some.0 some.1 (λ x. omega (arith, x)) some.2 all in
      (and_parts (list_all (lies_inside v.clusters) e.runs) (has_sizes v.per e) (sym (ap (fits_volume v.per v.clusters) is) ∙ both.1)).1

  by_clusters : (o : Option Stream) → stream_at v log_key ≡ o → initialised_in o ≤ total_clusters (runs_in o) * (512 * v.per)
  by_clusters None is = omega arith
  by_clusters (Some (Held value)) is = omega arith
  by_clusters (Some (Placed e)) is = sizes_are v.per e (by_file e (file_in v log_file) refl is)

pub pages_hold : PagesHold
pages_hold = record {
  sizes = by_sizes;
  clusters = λ place own total device first v c g clusters eight s ring alike is same few.
      let per : v.per ≡ 8 = per_is c g clusters v eight s in
      let most = by_clusters c g clusters v s (stream_at v log_key) refl in
      let bytes : 512 * v.per ≡ 4096 = ap (λ (p : ℕ). 512 * p) per in
      let less : initialised_in (stream_at v log_key) ≤ total_clusters (runs_in (stream_at v log_key)) * 4096 = subst (λ (k : ℕ). initialised_in (stream_at v log_key) ≤ total_clusters (runs_in (stream_at v log_key)) * k) bytes most in
      by_sizes place own total device first v per ring alike is same (omega (arith, less, few));
}

-- ---- a file

some_runs : (x : ℕ) (o : Option Record) → 0 < uses (runs_in (file_stream data_type [] o)) x → is_some o ≡ true
unfolding uses
some_runs x None some = absurd (omega (arith, some))
some_runs x (Some r) some = refl

pub logs_are_files : LogsAreFiles
logs_are_files v x some = some_runs x (file_in v log_file) some
