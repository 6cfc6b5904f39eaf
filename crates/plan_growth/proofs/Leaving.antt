-- A value leaves its record for clusters of its own.
use Rattle.std.proofs.Common.{◌≡◌, ℕ, ◌*◌, ◌<◌, ◌≤◌, Bool, true, false, ◌||◌, leb, ltb, List, [], ◌∷◌, ◌++◌, length, Option, Some, None, refl, sym, ap, subst, ◌∙◌, inl, inr, arith}
use Rattle.std.specs.List.{flat_map}
use Rattle.std.proofs.lemmas.Bool.{cases_lt, and_parts, and_from, both_ways, or_left, or_right, le-leb, lt-leb, eq-eqb}
use Rattle.plan_model.specs.disk_model.declared.block.Block.{Block}
use Rattle.plan_model.specs.disk_model.declared.block.Body.{Body}
use Rattle.plan_model.specs.disk_model.declared.block.BlockKind.{BlockKind}
use Rattle.plan_model.specs.disk_model.declared.block.BlockKind.TheVariants.{FileRec}
use Rattle.plan_model.specs.disk_model.Sectors.{sectors}
use Rattle.plan_model.specs.disk_model.Content.{Content, HasSizes}
use Rattle.plan_model.specs.record_model.declared.attribute.OwnForm.{OwnForm}
use Rattle.plan_model.specs.record_model.declared.attribute.OwnForm.TheVariants.{Resident, Mapped}
use Rattle.plan_model.specs.record_model.declared.attribute.Attr.{Attr}
use Rattle.plan_model.specs.record_model.declared.runs.Run.{Run}
use Rattle.plan_model.specs.record_model.Records.{Record}
use Rattle.plan_model.specs.bit_set.Bits.{bit}
use Rattle.plan_model.specs.state_model.declared.geometry.Geometry.{Geometry}
use Rattle.plan_model.specs.state_model.declared.stream.Extents.{Extents}
use Rattle.plan_model.specs.state_model.declared.stream.Stream.TheVariants.{Held, Placed}
use Rattle.plan_model.specs.state_model.Loads.{total_clusters}
use Rattle.plan_model.specs.state_model.Streams.{attributes_of, attribute_runs, joined, stream_of, block_at}
use Rattle.plan_model.specs.volume_model.Volumes.{Volume, cluster_bits}
use Rattle.plan_model.specs.volume_model.Owners.{uses}
use Rattle.plan_model.specs.volume_model.Sizes.{are_joined, fits_volume, is_torn_at, begun, has_torn}
use Rattle.plan_model.specs.stream_laws.Owners.{stream_kind}
use Rattle.plan_model.specs.stream_laws.Rewrites.{is_edited}
use Rattle.plan_model.specs.stream_laws.Sharing.{stream_at}
use Rattle.resized_streams.proofs.stream_runs.Merging.{follow-grown}
use Rattle.resized_streams.specs.record_streams.Placing.{placed_record}
use Rattle.resized_streams.specs.declared.resized.Resized.{Resized}
use Rattle.resized_streams.specs.Resizing.{clusters_for, unplaced, lengthened}
use Rattle.plan_model.specs.plan_owners.States.{Stands}
use Rattle.plan_model.specs.plan_bodies.Bodies.{NewBody, content_with, body_or}
use Rattle.plan_model.proofs.plan_bodies.Putting.{body_put}
use Rattle.plan_model.specs.Drafts.{GoesOn, IsPut, gives_runs}
use Rattle.plan_model.specs.Edits.{LeadsTo}
use Rattle.plan_model.specs.Informed.{with_record}
use Rattle.plan_model.proofs.Drafting.{per_is}
use Rattle.plan_model.proofs.Quiet.{given_here, given_before, given_clear}
use Rattle.plan_growth.specs.Trees.{TreeFollows}
use Rattle.plan_growth.specs.Streams.{IsWritten, key_of, marks_streams}
use Rattle.plan_growth.specs.Growing.{MayGive}
use Rattle.plan_growth.specs.Leaving.{MovesValue}
use Rattle.plan_growth.proofs.Runs.{grown_inside, grown_whole}
use Rattle.plan_growth.proofs.Alike.{begun_in}
use Rattle.plan_growth.proofs.Ruled.{stream_joined}
use Rattle.plan_growth.proofs.Growing.{total-grown, uses-grown, set_or}
use Rattle.plan_growth.proofs.Sizing.{none_from, mirror_record}
use Rattle.plan_growth.proofs.Resizing.{Follows, BitsFollow, resized_leads, own_now, resized_goes_on, resized_tree}

-- a value that stands in one attribute has no clusters
one_form : (form : OwnForm) (a : Attr) (others : List Attr) (value : List ℕ) → a.form ≡ form → joined (a ∷ others) ≡ Some (Held value) → attribute_runs a ≡ []
unfolding attribute_runs
one_form (Resident x indexed) a others value form is = rw form refl
one_form (Mapped sizes pairs) a others value form is = (let never : joined (a ∷ others) ≡ Some (Placed (record { runs = flat_map attribute_runs (a ∷ others); allocated = sizes.allocated; real = sizes.real; initialised = sizes.initialised })) = rw form refl in absurd cc)

held_runs : (attributes : List Attr) (value : List ℕ) → are_joined attributes ≡ true → joined attributes ≡ Some (Held value) → flat_map attribute_runs attributes ≡ []
held_runs [] value lawful is = refl
held_runs (a ∷ []) value lawful is = ap (λ (l : List Run). l ++ []) (one_form a.form a [] value refl is)
held_runs (a ∷ b ∷ others) value lawful is =
    let none : total_clusters (attribute_runs a) ≡ 0 = ap total_clusters (one_form a.form a (b ∷ others) value refl is) in
    let some = (and_parts _ _ (and_parts _ _ lawful).0).1 in
    absurd (both_ways (ltb 0 (total_clusters (attribute_runs a))) (ap (ltb 0) none) some)

held_before : (kind : ℕ) (name : List ℕ) (r : Record) (value : List ℕ) → are_joined (attributes_of kind name r.attrs) ≡ true → stream_of kind name r.attrs ≡ Some (Held value) → (x : ℕ) → uses (flat_map attribute_runs (attributes_of kind name r.attrs)) x ≡ uses [] x
unfolding stream_of
held_before kind name r value lawful is x = ap (λ (l : List Run). uses l x) (held_runs (attributes_of kind name r.attrs) value lawful is)

has_room : (per total size : ℕ) → per ≡ 8 → clusters_for per size ≤ total → size ≤ total * (512 * per)
has_room per total size eight = subst (λ (p : ℕ). clusters_for p size ≤ total → size ≤ total * (512 * p)) (sym eight) (λ enough. omega (arith, enough))

module _ (c : Content) (g : Geometry) (clusters : ℕ) (v : Volume) (n kind : ℕ) (name value : List ℕ) (r : Record) (more : List Run) (z : Resized) (s : Record) (bodies : List NewBody) (sized : HasSizes c) (eight : g.per_cluster ≡ 8) (state : Stands c g clusters v)
    (k : MovesValue c v n kind name value r more z s bodies) where
  abbrev e : Extents
  e = unplaced (length value)

  abbrev f : Extents
  f = lengthened v.per more (unplaced (length value))

  abbrev d : Content
  d = content_with c bodies

  abbrev taken : ℕ → ℕ
  taken x = uses more x

  abbrev given : ℕ → ℕ
  given x = 0

  per_8 : v.per ≡ 8
  per_8 = per_is c g clusters v eight state

  total_now : total_clusters f.runs ≡ total_clusters more
  total_now = total-grown [] more ∙ omega arith

  new_fits : fits_volume v.per v.clusters (Some (Placed f)) ≡ true
  new_fits =
      let size : ℕ = length value in
      let high : size ≤ f.allocated = subst (λ (x : ℕ). size ≤ x * (512 * v.per)) (sym total_now) (has_room v.per (total_clusters more) size per_8 k.enough) in
      and_from _ _ (grown_inside v.clusters [] more refl k.taken.inside) (and_from _ _ (and_from _ _ (le-leb size size (omega arith)) (le-leb size f.allocated high)) (eq-eqb f.allocated f.allocated refl))

  none_marked : (x : ℕ) → bit (cluster_bits c v) x ≡ true → uses more x ≤ 0
  none_marked x set = elim (cases_lt 0 (uses more x)) [
    | inl some ↦ absurd (both_ways (bit (cluster_bits c v) x) (k.taken.clear x some) set)
    | inr none ↦ none
  ]

  covers_now : (m : ℕ) (b : Block) → block_at v.per f.runs (stream_kind (key_of n kind name)) m ≡ Some b → 512 * (sectors (stream_kind (key_of n kind name)) * m) < length value → IsPut bodies b
  covers_now m b lies = k.covers m b (ap (λ (x : Extents). block_at v.per x.runs (stream_kind (key_of n kind name)) m) k.grown.extents ∙ lies)

  untorn : (b : Block) → IsPut bodies b → (d b).torn ≡ false
  untorn b put = ap (λ (x : Body). x.torn) (body_put c bodies b sized k.puts.whole ∙ ap (body_or (c b)) put.1)

  records_whole : FileRec ≡ stream_kind (key_of n kind name) → has_torn d v.per FileRec 1024 f ≡ false
  unfolding has_torn
  records_whole is = none_from (λ m. is_torn_at d (block_at v.per f.runs FileRec m)) 0 (begun 1024 (length value)) (λ m low high. by_block m (begun_in FileRec m (length value) (omega (arith, high))) (block_at v.per f.runs FileRec m) refl)
    where
      by_block : (m : ℕ) → 512 * (2 * m) < length value → (o : Option Block) → block_at v.per f.runs FileRec m ≡ o → is_torn_at d o ≡ false
      by_block m begins None at = refl
      by_block m begins (Some b) at =
          untorn b (covers_now m b (ap (λ (x : BlockKind). block_at v.per f.runs x m) (sym is) ∙ at) (subst (λ (x : BlockKind). 512 * (sectors x * m) < length value) is begins))

  bit_set : (x : ℕ) → x < v.clusters → 0 < uses more x → bit (cluster_bits d v) x ≡ true
  bit_set x low some = k.marked x low ∙ or_left (leb 1 (uses more x)) (bit (cluster_bits c v) x) (le-leb 1 (uses more x) some)

  follows : Follows c d v n kind name r (Held k.was) f taken given
  follows = record {
    spelled = follow-grown [] more tt k.taken.spelled (let few = k.room in omega (arith, few));
    before = held_before kind name r k.was (stream_joined c g clusters v n kind name r (Held k.was) state k.own) k.own.stream;
    fits = new_fits;
    holes = λ none. grown_whole [] more refl k.taken.whole;
    records = λ file type alias none. records_whole (mirror_record n kind name file type alias);
    nodes = λ type alias. absurd (k.no_index type);
    blocks = λ type alias. absurd (k.no_index type);
    limits = λ same. absurd (k.no_limits same);
    balance = λ x. omega (arith, uses-grown [] more x);
    clear = λ x low clear. k.taken.once x;
    marked = λ x low set. none_marked x set;
    not_taken = λ x low clear. set_or (uses more x) (bit (cluster_bits c v) x) (sym (k.marked x low) ∙ clear);
    freed = λ x low was is. absurd (both_ways (bit (cluster_bits d v) x) is (k.marked x low ∙ or_right (leb 1 (uses more x)) (bit (cluster_bits c v) x) was));
  }

  written_now : IsWritten (placed_record v.per kind name (lengthened v.per more (unplaced (length value))) r) s
  written_now = subst (λ (x : Record). IsWritten x s) k.grown.file k.written

  pub moved_leads : LeadsTo (is_edited (record { number = n; file = Some s } ∷ [])) c v (content_with c bodies) g clusters (with_record v n s)
  moved_leads = resized_leads c g clusters v n kind name r (Held k.was) f taken given bodies sized eight state k.own marks_streams (λ t is. inl is) s written_now k.puts follows

  pub moved_stream : stream_at (with_record v n s) (key_of n kind name) ≡ Some (Placed z.extents)
  moved_stream =
      own_now c g clusters v n kind name r (Held k.was) f taken given bodies sized eight state k.own marks_streams (λ t is. inl is) s written_now k.puts follows ∙ ap (λ (x : Extents). Some (Placed x)) (sym k.grown.extents)

  pub moved_tree : TreeFollows c (content_with c bodies) v n r s
  moved_tree = resized_tree c g clusters v n kind name r (Held k.was) f taken given bodies sized eight state k.own marks_streams (λ t is. inl is) s written_now k.puts follows refl

  bits : BitsFollow v.clusters (cluster_bits c v) (cluster_bits d v) taken given
  bits = record {
    cleared = λ x low less. absurd (omega (arith, less));
    set = λ x low some. (k.taken.clear x some, bit_set x low some);
    others = λ x low none. k.marked x low ∙ ap (λ (t : Bool). t || bit (cluster_bits c v) x) (lt-leb 1 (uses more x) (omega (arith, none)));
  }

  is_new : (x : ℕ) → 0 < uses f.runs x → uses [] x ≡ 0 → 0 < uses more x
  is_new x some none = omega (arith, some, none, uses-grown [] more x)

  pub moved_goes_on : (first : Content) (start : Volume) (gave : ℕ → Option BlockKind) → MayGive first start (stream_kind (key_of n kind name)) more gave
      → GoesOn first start c g clusters v bodies (with_record v n s) gave (gives_runs (stream_kind (key_of n kind name)) more gave)
  moved_goes_on first start gave may =
      let own_kind : BlockKind = stream_kind (key_of n kind name) in
      resized_goes_on c g clusters v n kind name r (Held k.was) f taken given bodies sized eight state k.own marks_streams (λ t is. inl is) s written_now k.puts follows first start gave (gives_runs own_kind more gave) bits
      (λ m b lies begins. inr (covers_now m b lies begins)) (λ x some none. given_here own_kind more gave x (is_new x some none)) (given_before own_kind more gave may.same)
      (given_clear own_kind more gave (cluster_bits first start) may.taken may.before)
