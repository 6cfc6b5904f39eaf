-- A value leaves its record for clusters that nobody has and whose bits are set.
use Rattle.std.proofs.Common.{◌≡◌, ◌≢◌, ◌⊎◌, ℕ, ◌+◌, ◌*◌, ◌<◌, ◌≤◌, true, false, ◌&&◌, eqb, ltb, List, [], ◌∷◌, ◌++◌, length, Some, refl, sym, ap, subst, ◌∙◌, inl, inr, arith}
use Rattle.std.specs.List.{list_all, list_any, flat_map, AllByRecursion}
use Rattle.std.proofs.lemmas.Bool.{cases_lt, and_parts, and_from, both_ways, le-leb, eq-eqb}
use Rattle.disk_model.specs.declared.block.Block.{Block}
use Rattle.disk_model.specs.declared.block.BlockKind.{BlockKind}
use Rattle.disk_model.specs.declared.block.BlockKind.TheVariants.{Plain, FileRec, Index}
use Rattle.disk_model.specs.Sectors.{sectors}
use Rattle.disk_model.specs.Content.{Content, HasSizes}
use Rattle.record_model.specs.declared.attribute.OwnForm.{OwnForm}
use Rattle.record_model.specs.declared.attribute.OwnForm.TheVariants.{Resident, Mapped}
use Rattle.record_model.specs.declared.attribute.Attr.{Attr}
use Rattle.record_model.specs.declared.record.RecHead.{RecHead}
use Rattle.record_model.specs.declared.runs.Run.{Run}
use Rattle.record_model.specs.Constants.{index_allocation}
use Rattle.record_model.specs.Pairs.{cluster_limit, HasSpelling}
use Rattle.record_model.specs.Records.{Record}
use Rattle.bit_set.specs.Bits.{bit}
use Rattle.state_model.specs.declared.geometry.Geometry.{Geometry}
use Rattle.state_model.specs.declared.stream.Extents.{Extents}
use Rattle.state_model.specs.declared.stream.Stream.TheVariants.{Held, Placed}
use Rattle.state_model.specs.Loads.{total_clusters}
use Rattle.state_model.specs.Streams.{attributes_of, attribute_runs, block_at, joined, stream_of}
use Rattle.volume_model.specs.Volumes.{Volume, cluster_bits}
use Rattle.volume_model.specs.Nodes.{first_flags}
use Rattle.volume_model.specs.Owners.{uses, volume_runs}
use Rattle.volume_model.specs.Sizes.{are_joined, fits_volume, is_hole, lies_inside}
use Rattle.volume_state.specs.Journals.{limits_name}
use Rattle.stream_laws.specs.Leaving.{LiesFree}
use Rattle.stream_laws.specs.Owners.{IsLive, stream_kind}
use Rattle.stream_laws.specs.Places.{AreOnce}
use Rattle.stream_laws.proofs.Leaving.{free_in_runs}
use Rattle.stream_map.proofs.Reading.{kind-block_at}
use Rattle.stream_runs.proofs.Merging.{follow-grown}
use Rattle.record_streams.specs.Placing.{placed_record}
use Rattle.record_streams.proofs.Streams.{placed_one}
use Rattle.resized_streams.specs.declared.resized.Resized.{Resized}
use Rattle.resized_streams.specs.Resizing.{clusters_for, IsGrown, lengthened, unplaced}
use Rattle.plan_owners.specs.States.{Stands}
use Rattle.plan_bodies.specs.Bodies.{AreBodies, content_with, NewBody}
use Rattle.table_edits.specs.plan_model.Drafts.{IsPut}
use Rattle.table_edits.specs.plan_model.Made.{ReadsAs}
use Rattle.table_edits.proofs.plan_model.Drafting.{per_is}
use Rattle.table_edits.specs.plan_edits.Puts.{IsSectorOf}
use Rattle.table_edits.specs.plan_growth.Streams.{IsOwnStream, IsWritten, key_of}
use Rattle.table_edits.proofs.plan_growth.Growing.{total-grown, uses-grown}
use Rattle.table_edits.proofs.plan_growth.Placed.{other_pieces, placed_all, placed_directory, placed_head, placed_info, placed_is_there, placed_links, placed_names, placed_root, placed_sizes, placed_types, placed_uses, some_attributes}
use Rattle.table_edits.proofs.plan_growth.Ruled.{stream_joined}
use Rattle.table_edits.proofs.plan_growth.Runs.{grown_inside, grown_whole}
use Rattle.table_edits.proofs.plan_growth.Sizing.{mirror_record}
use Rattle.table_edits.proofs.plan_growth.Written.{placed_reads, Reads}
use Rattle.table_edits.proofs.plan_table.Remade.{HasOther, IsOther}
use Rattle.bitmap_edits.proofs.OwnRuns.{MovesRuns, own_other}
use Rattle.bitmap_edits.proofs.Restreaming.{Follows, GoesFar, GoesTo, owned_once}

-- ---- a value in clusters

-- a value that stands in one attribute has no clusters
one_form : (form : OwnForm) (a : Attr) (others : List Attr) (value : List ℕ) → a.form ≡ form → joined (a ∷ others) ≡ Some (Held value) → attribute_runs a ≡ []
unfolding attribute_runs
one_form (Resident x indexed) a others value form is = rw form refl
one_form (Mapped sizes pairs) a others value form is = (let never : joined (a ∷ others) ≡ Some (Placed (record { runs = flat_map attribute_runs (a ∷ others); allocated = sizes.allocated; real = sizes.real; initialised = sizes.initialised })) = rw form refl in absurd cc)

held_runs : (attributes : List Attr) (value : List ℕ) → are_joined attributes ≡ true → joined attributes ≡ Some (Held value) → flat_map attribute_runs attributes ≡ []
held_runs [] value lawful is = refl
held_runs (a ∷ []) value lawful is = ap (λ (l : List Run). l ++ []) (one_form a.form a [] value refl is)
held_runs (a ∷ b ∷ others) value lawful is =
    let none : total_clusters (attribute_runs a) ≡ 0 = ap total_clusters (one_form a.form a (b ∷ others) value refl is) in
    let some = (and_parts _ _ (and_parts _ _ lawful).0).1 in
    absurd (both_ways (ltb 0 (total_clusters (attribute_runs a))) (ap (ltb 0) none) some)

pub leaving_other : (per clusters kind : ℕ) (name value : List ℕ) (f : Extents) (r : Record) → IsOther kind → HasSpelling 0 f.runs → stream_of kind name r.attrs ≡ Some (Held value) → are_joined (attributes_of kind name r.attrs) ≡ true → HasOther per clusters kind name (Held value) (Placed f) r (placed_record per kind name f r)
unfolding stream_of
leaving_other per clusters kind name value f r other spelled is lawful =
    let some : (a : Attr) × (others : List Attr) × (attributes_of kind name r.attrs ≡ a ∷ others) = some_attributes (attributes_of kind name r.attrs) (Held value) is in
    let head : (placed_record per kind name f r).head ≡ r.head = placed_head per kind name f r some.0 some.1 some.2 spelled in
    let none : flat_map attribute_runs (attributes_of kind name r.attrs) ≡ [] = held_runs (attributes_of kind name r.attrs) value lawful is in
    record {
      seq = ap (λ (h : RecHead). h.seq) head;
      base = ap (λ (h : RecHead). eqb h.base.number 0 && eqb h.base.seq 0) head;
      directory = placed_directory per kind name f r some.0 some.1 some.2 spelled;
      types = placed_types per kind name f r some.0 some.1 some.2 spelled;
      links = λ n. placed_links per kind name f r some.0 some.1 some.2 spelled n other.not_name;
      names = placed_names per kind name f r some.0 some.1 some.2 spelled;
      info = placed_info per kind name f r some.0 some.1 some.2 spelled other.not_info;
      root = placed_root per kind name f r some.0 some.1 some.2 spelled other.not_root;
      stream = placed_is_there per kind name f r some.0 some.1 some.2 spelled;
      first = ap first_flags (placed_one per kind name f r some.0 some.1 some.2) ∙ sym (ap first_flags some.2);
      pieces = other_pieces per kind name f r some.0 some.1 some.2 spelled;
      balance = λ x. (let sum = placed_uses per kind name f r some.0 some.1 some.2 spelled x in let before : uses (flat_map attribute_runs (attributes_of kind name r.attrs)) x ≡ uses [] x = ap (λ (l : List Run). uses l x) none in omega (arith, sum, before));
      sizes = λ old fits. placed_sizes per kind name f r some.0 some.1 some.2 spelled per clusters fits old;
      reads = placed_all per kind name f r some.0 some.1 some.2 spelled Reads (placed_reads per f some.0 spelled);
    }

has_room : (per total size : ℕ) → per ≡ 8 → clusters_for per size ≤ total → size ≤ total * (512 * per)
has_room per total size eight = subst (λ (p : ℕ). clusters_for p size ≤ total → size ≤ total * (512 * p)) (sym eight) (λ enough. omega (arith, enough))

none_used : (x : ℕ) → uses [] x ≡ 0
unfolding uses
none_used x = refl

-- A value, neither an index's nor the limits of a change journal, leaves its record for these clusters, of which nobody has one and each bit
-- is set; its blocks are sectors. Its file is put so, each sector that holds a byte of the new value is put whole, and all bits stay.
pub record LeavesSet (c : Content) (v : Volume) (n kind : ℕ) (name was value : List ℕ) (r : Record) (more : List Run) (z : Resized) (s : Record) (bodies : List NewBody) : Type 0 where
  pub own : IsOwnStream v n kind name r (Held was)
  pub no_index : index_allocation ≢ kind
  pub no_limits : limits_name ≢ name
  pub plain : stream_kind (key_of n kind name) ≡ Plain
  pub grown : IsGrown v.per kind name (unplaced (length value)) r more z
  pub more_spelled : HasSpelling 0 more
  pub hole_free : list_any is_hole more ≡ false
  pub inside : list_all (lies_inside v.clusters) more ≡ true
  pub once : AreOnce more
  pub free : (x : ℕ) → 0 < uses more x → uses (volume_runs v.files) x ≡ 0
  pub set : (x : ℕ) → x < v.clusters → 0 < uses more x → bit (cluster_bits c v) x ≡ true
  pub enough : clusters_for v.per (length value) ≤ total_clusters more
  pub room : total_clusters more ≤ cluster_limit
  pub written : IsWritten z.file s
  pub whole : AreBodies bodies
  pub anew : ReadsAs v bodies n s
  pub each : AllByRecursion (λ q. GoesTo v n q.block ⊎ IsSectorOf v.per z.extents.runs q.block) bodies
  pub covers : (m : ℕ) (b : Block) → block_at v.per z.extents.runs Plain m ≡ Some b → 512 * m < length value → IsPut bodies b
  pub marked : (x : ℕ) → x < v.clusters → bit (cluster_bits (content_with c bodies) v) x ≡ bit (cluster_bits c v) x

module _ (c : Content) (g : Geometry) (clusters : ℕ) (v : Volume) (n kind : ℕ) (name was value : List ℕ) (r : Record) (more : List Run) (z : Resized) (s : Record) (bodies : List NewBody) (sized : HasSizes c) (eight : g.per_cluster ≡ 8) (state : Stands c g clusters v) (k : LeavesSet c v n kind name was value r more z s bodies) where
  abbrev f : Extents
  f = lengthened v.per more (unplaced (length value))

  per_8 : v.per ≡ 8
  per_8 = per_is c g clusters v eight state

  total_now : total_clusters f.runs ≡ total_clusters more
  total_now = total-grown [] more ∙ omega arith

  new_fits : fits_volume v.per v.clusters (Some (Placed f)) ≡ true
  new_fits =
      let size : ℕ = length value in
      let high : size ≤ f.allocated = subst (λ (x : ℕ). size ≤ x * (512 * v.per)) (sym total_now) (has_room v.per (total_clusters more) size per_8 k.enough) in
      and_from _ _ (grown_inside v.clusters [] more refl k.inside) (and_from _ _ (and_from _ _ (le-leb size size (omega arith)) (le-leb size f.allocated high)) (eq-eqb f.allocated f.allocated refl))

  spelled_now : HasSpelling 0 f.runs
  spelled_now = follow-grown [] more tt k.more_spelled (let few = k.room in omega (arith, few))

  pub used_by : (x : ℕ) → uses (lengthened v.per more (unplaced (length value))).runs x ≡ uses more x
  used_by x = uses-grown [] more x ∙ ap (λ (m : ℕ). m + uses more x) (none_used x) ∙ omega arith

  used_there : (x : ℕ) → uses z.extents.runs x ≡ uses more x
  used_there x = ap (λ (e : Extents). uses e.runs x) k.grown.extents ∙ used_by x

  lies_free : (m : ℕ) (b : Block) → block_at v.per z.extents.runs Plain m ≡ Some b → LiesFree v b
  lies_free m b there = free_in_runs v z.extents.runs Plain m b state.some (λ x some. k.free x (let same = used_there x in omega (arith, same, some))) there

  not_index : (m : ℕ) (b : Block) → block_at v.per z.extents.runs Plain m ≡ Some b → Index ≢ b.kind
  not_index m b there same = let plain : b.kind ≡ Plain = kind-block_at v.per z.extents.runs Plain m b (sym there) in let clash : Index ≡ Plain = same ∙ plain in absurd cc

  far : (b : Block) → GoesTo v n b ⊎ IsSectorOf v.per z.extents.runs b → GoesFar v n b
  far b (inl near) = inl near
  far b (inr sector) = inr (lies_free sector.0 b sector.1, not_index sector.0 b sector.1)

  all_far : (more_bodies : List NewBody) → AllByRecursion (λ q. GoesTo v n q.block ⊎ IsSectorOf v.per z.extents.runs q.block) more_bodies → AllByRecursion (λ q. GoesFar v n q.block) more_bodies
  all_far [] all = tt
  all_far (q ∷ more_bodies) all = (far q.block all.0, all_far more_bodies all.1)

  follows : Follows (content_with c bodies) v n kind name (Held was) (Placed f)
  follows = record {
    holes = λ none. grown_whole [] more refl k.hole_free;
    records = λ file type alias none. absurd (let clash : FileRec ≡ Plain = mirror_record n kind name file type alias ∙ k.plain in absurd cc);
    nodes = λ type alias. absurd (k.no_index type);
    blocks = λ type alias. absurd (k.no_index type);
    no_entries = k.own.no_entries;
    limits = λ same. absurd (k.no_limits same);
  }

  once_now : (x : ℕ) → x < v.clusters → uses (volume_runs v.files) x + uses f.runs x ≤ 1 + uses [] x
  once_now x low =
      let same = used_by x in
      let most = owned_once c g clusters v x state low in
      let one = k.once x in
      elim (cases_lt 0 (uses more x)) [
        | inl some ↦ (let none = k.free x some in omega (arith, same, one, none))
        | inr none ↦ omega (arith, same, most, none)
      ]

  live_so : (m : ℕ) (b : Block) → block_at v.per f.runs (stream_kind (key_of n kind name)) m ≡ Some b → 512 * (sectors (stream_kind (key_of n kind name)) * m) < f.initialised → IsLive v b ⊎ IsPut bodies b
  live_so m b lies begins =
      let there : block_at v.per z.extents.runs Plain m ≡ Some b = ap (λ (x : Extents). block_at v.per x.runs Plain m) k.grown.extents ∙ ap (λ (x : BlockKind). block_at v.per f.runs x m) (sym k.plain) ∙ lies in
      let low : 512 * (1 * m) < length value = subst (λ (x : BlockKind). 512 * (sectors x * m) < length value) k.plain begins in
      inr (k.covers m b there (omega (arith, low)))

  pub leaves_runs : MovesRuns c v n kind name (Held was) (lengthened v.per more (unplaced (length value))) r z.file s bodies
  leaves_runs = record {
    own = k.own;
    one = subst (HasOther v.per v.clusters kind name (Held was) (Placed f) r) (sym k.grown.file) (leaving_other v.per v.clusters kind name was f r (own_other v n kind name r (Held was) k.own) spelled_now k.own.stream (stream_joined c g clusters v n kind name r (Held was) state k.own));
    written = k.written;
    whole = k.whole;
    anew = k.anew;
    each = all_far bodies k.each;
    marked = k.marked;
    fits = new_fits;
    follows = follows;
    once = once_now;
    set = λ x low some none. k.set x low (let same = used_by x in omega (arith, same, some));
    live = live_so;
  }
