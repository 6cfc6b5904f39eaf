-- A stream gets other sizes.
use Rattle.std.proofs.Common.{◌≡◌, ◌≢◌, ◌⊎◌, ℕ, zero, suc, ◌+◌, ◌*◌, ◌<◌, ◌≤◌, Bool, true, false, ◌&&◌, ◌||◌, eqb, nat_eq, leb, List, [], ◌∷◌, Option, Some, None, refl, sym, ap, ap₂, subst, ◌∙◌, inl, inr, arith}
use Rattle.std.specs.List.{list_all, list_any, range_with_len}
use Rattle.std.specs.Cmp.Lexicographic.{pointwise}
use Rattle.std.proofs.lemmas.Bool.{cases_lt, cases_Bool, and_parts, and_from, or_parts, le-leb, eqb-true}
use Rattle.plan_model.specs.disk_model.declared.block.Block.{Block}
use Rattle.plan_model.specs.disk_model.declared.block.BlockKind.{BlockKind}
use Rattle.plan_model.specs.disk_model.declared.block.BlockKind.TheVariants.{FileRec}
use Rattle.plan_model.specs.disk_model.Sectors.{sectors}
use Rattle.plan_model.specs.disk_model.declared.block.Body.{Body}
use Rattle.plan_model.specs.disk_model.Content.{Content, HasSizes}
use Rattle.plan_model.specs.record_model.Records.{Record}
use Rattle.plan_model.specs.record_model.Constants.{data_type, index_allocation}
use Rattle.plan_model.specs.bit_set.Bits.{bit}
use Rattle.plan_model.specs.state_model.declared.geometry.Geometry.{Geometry}
use Rattle.plan_model.specs.state_model.declared.stream.Extents.{Extents}
use Rattle.plan_model.specs.state_model.declared.stream.Stream.{Stream}
use Rattle.plan_model.specs.state_model.declared.stream.Stream.TheVariants.{Placed}
use Rattle.plan_model.specs.state_model.Loads.{total_clusters}
use Rattle.plan_model.specs.state_model.Streams.{block_at}
use Rattle.plan_model.specs.volume_model.Volumes.{Volume, cluster_bits, mirror_file}
use Rattle.plan_model.specs.volume_model.Sizes.{has_hole, lies_inside, has_sizes, fits_volume, is_torn_at, begun, has_torn}
use Rattle.plan_model.specs.stream_laws.Owners.{stream_kind, initialised_in, IsLive}
use Rattle.plan_model.specs.stream_laws.Sharing.{StreamKey, stream_at, runs_in}
use Rattle.plan_model.specs.stream_laws.Rewrites.{is_edited}
use Rattle.plan_model.proofs.stream_laws.Sharing.{same_from_test, same_key}
use Rattle.resized_streams.specs.record_streams.Placing.{placed_record}
use Rattle.resized_streams.specs.declared.resized.Resized.{Resized}
use Rattle.resized_streams.specs.Resizing.{with_sizes}
use Rattle.plan_model.specs.plan_owners.States.{Stands}
use Rattle.plan_model.specs.plan_bodies.Bodies.{NewBody, content_with, body_or}
use Rattle.plan_model.proofs.plan_bodies.Putting.{body_put}
use Rattle.plan_model.specs.Drafts.{GoesOn, IsPut}
use Rattle.plan_model.specs.Edits.{LeadsTo}
use Rattle.plan_model.specs.Informed.{with_record}
use Rattle.plan_growth.specs.Trees.{TreeFollows}
use Rattle.plan_growth.specs.Streams.{IsWritten, key_of, marks_streams}
use Rattle.plan_growth.specs.Sizing.{marks_and, SizesStream}
use Rattle.plan_growth.proofs.Alike.{begun_in}
use Rattle.plan_growth.proofs.Ruled.{runs_before, stream_fits}
use Rattle.plan_growth.proofs.Resizing.{Follows, resized_leads, own_now, own_was, resized_goes_on, resized_tree, as_fresh}

-- ---- what no place of a list has

pub none_at : (p : ℕ → Bool) (a n i : ℕ) → list_any p (range_with_len a n) ≡ false → a ≤ i → i < a + n → p i ≡ false
none_at p a zero i none low high = absurd (omega (arith, low, high))
none_at p a (suc n) i none low high =
    let parts = or_parts (p a) (list_any p (range_with_len (a + 1) n)) none in
    elim (cases_lt a i) [
      | inl behind ↦ none_at p (a + 1) n i parts.1 (omega (arith, behind)) (omega (arith, high))
      | inr here ↦ (let same : i ≡ a = omega (arith, low, here) in ap p same ∙ parts.0)
    ]

pub none_from : (p : ℕ → Bool) (a n : ℕ) → ((i : ℕ) → a ≤ i → i < a + n → p i ≡ false) → list_any p (range_with_len a n) ≡ false
none_from p a zero each = refl
none_from p a (suc n) each = ap₂ (λ (s t : Bool). s || t) (each a (omega arith) (omega arith)) (none_from p (a + 1) n (λ i low high. each i (omega (arith, low)) (omega (arith, high))))

-- a record that begins below so many bytes is among those that are begun
among_begun : (m initialised : ℕ) → 1024 * m < initialised → m < 0 + begun 1024 initialised
among_begun m initialised below = omega (arith, below)

-- the unnamed data of $MFTMirr is file records
pub mirror_record : (n kind : ℕ) (name : List ℕ) → n ≡ mirror_file → data_type ≡ kind → [] ≡ name → FileRec ≡ stream_kind (key_of n kind name)
unfolding stream_kind
mirror_record n kind name file type alias =
    ap (λ (x : ℕ). stream_kind (key_of x data_type [])) (sym file) ∙ ap (λ (x : ℕ). stream_kind (key_of n x [])) type ∙ ap (λ (l : List ℕ). stream_kind (key_of n kind l)) alias

which_streams : (n kind : ℕ) (name : List ℕ) (t : StreamKey) → index_allocation ≢ kind → marks_and n kind name t ≡ true → (marks_streams t ≡ true) ⊎ ((t ≡ key_of n kind name) × (index_allocation ≢ kind))
which_streams n kind name t no_index chosen = elim (cases_Bool (marks_streams t)) [
  | inl mark ↦ inl mark
  | inr other ↦
      (let own : (eqb t.file n && eqb t.kind kind && pointwise nat_eq t.name name) ≡ true = sym (ap (λ (x : Bool). x || (eqb t.file n && eqb t.kind kind && pointwise nat_eq t.name name)) other) ∙ chosen in
      let parts = and_parts (eqb t.file n && eqb t.kind kind) (pointwise nat_eq t.name name) own in
      let two = and_parts (eqb t.file n) (eqb t.kind kind) parts.0 in
      inr (same_key t (key_of n kind name) (eqb-true t.file n two.0) (eqb-true t.kind kind two.1) (same_from_test t.name name parts.1), no_index))
]

module _ (c : Content) (g : Geometry) (clusters : ℕ) (v : Volume) (n kind : ℕ) (name : List ℕ) (e : Extents) (r : Record) (real initialised : ℕ) (z : Resized) (s : Record) (bodies : List NewBody) (sized : HasSizes c) (eight : g.per_cluster ≡ 8) (state : Stands c g clusters v)
    (k : SizesStream c v n kind name e r real initialised z s bodies) where
  abbrev f : Extents
  f = with_sizes real initialised e

  abbrev d : Content
  d = content_with c bodies

  abbrev w : Volume
  w = with_record v n s

  abbrev streams : StreamKey → Bool
  streams = marks_and n kind name

  abbrev none : ℕ → ℕ
  none x = 0

  only : (t : StreamKey) → streams t ≡ true → (marks_streams t ≡ true) ⊎ ((t ≡ key_of n kind name) × (index_allocation ≢ kind))
  only t = which_streams n kind name t k.no_index

  old_fits : fits_volume v.per v.clusters (Some (Placed e)) ≡ true
  old_fits = stream_fits c g clusters v n kind name r (Placed e) state k.own

  new_fits : fits_volume v.per v.clusters (Some (Placed f)) ≡ true
  new_fits =
      let parts = and_parts (list_all (lies_inside v.clusters) e.runs) (has_sizes v.per e) old_fits in
      let clusters_are = (and_parts (leb e.initialised e.real && leb e.real e.allocated) (eqb e.allocated (total_clusters e.runs * (512 * v.per))) parts.1).1 in
      and_from _ _ parts.0 (and_from _ _ (and_from _ _ (le-leb initialised real k.lawful) (le-leb real e.allocated k.room)) clusters_are)

  untorn : (b : Block) → IsPut bodies b → (d b).torn ≡ false
  untorn b put = ap (λ (x : Body). x.torn) (body_put c bodies b sized k.puts.whole ∙ ap (body_or (c b)) put.1)

  -- records of the mirror that come to be initialised are put, and so not torn
  records_whole : FileRec ≡ stream_kind (key_of n kind name) → has_torn d v.per FileRec 1024 e ≡ false → has_torn d v.per FileRec 1024 f ≡ false
  unfolding has_torn
  records_whole is whole =
      none_from (λ m. is_torn_at d (block_at v.per e.runs FileRec m)) 0 (begun 1024 initialised) (λ m low high.
      let begins : 512 * (2 * m) < initialised = begun_in FileRec m initialised (omega (arith, high)) in
      elim (cases_lt (1024 * m) e.initialised) [
        | inl was ↦ none_at (λ m. is_torn_at d (block_at v.per e.runs FileRec m)) 0 (begun 1024 e.initialised) m whole (omega arith) (among_begun m e.initialised was)
        | inr new ↦ by_block m new begins (block_at v.per e.runs FileRec m) refl
      ])
    where
      by_block : (m : ℕ) → e.initialised ≤ 1024 * m → 512 * (2 * m) < initialised → (o : Option Block) → block_at v.per e.runs FileRec m ≡ o → is_torn_at d o ≡ false
      by_block m new begins None at = refl
      by_block m new begins (Some b) at =
          untorn b
          (k.covers m b (ap (λ (x : BlockKind). block_at v.per e.runs x m) (sym is) ∙ at) (subst (λ (x : BlockKind). e.initialised ≤ 512 * (sectors x * m)) is (omega (arith, new))) (subst (λ (x : BlockKind). 512 * (sectors x * m) < initialised) is begins))

  follows : Follows c d v n kind name r (Placed e) f none none
  follows = record {
    spelled = k.spelled;
    before = runs_before kind name r e k.own.stream;
    fits = new_fits;
    holes = λ whole. whole;
    records = λ file type alias. records_whole (mirror_record n kind name file type alias);
    nodes = λ type alias. absurd (k.no_index type);
    blocks = λ type alias. absurd (k.no_index type);
    limits = λ same. (e, refl);
    balance = λ x. refl;
    clear = λ x low clear. omega arith;
    marked = λ x low set. omega arith;
    not_taken = λ x low clear. refl;
    freed = λ x low was is. (let clash : true ≡ false = sym was ∙ sym (k.marked x low) ∙ is in absurd cc);
  }

  written_now : IsWritten (placed_record v.per kind name (with_sizes real initialised e) r) s
  written_now = subst (λ (x : Record). IsWritten x s) k.sized.file k.written

  pub sized_leads : LeadsTo (is_edited (record { number = n; file = Some s } ∷ [])) c v (content_with c bodies) g clusters (with_record v n s)
  sized_leads = resized_leads c g clusters v n kind name r (Placed e) f none none bodies sized eight state k.own streams only s written_now (as_fresh streams v n kind name s bodies k.puts) follows

  own_v : stream_at v (key_of n kind name) ≡ Some (Placed e)
  own_v = own_was c g clusters v n kind name r (Placed e) f none none bodies sized eight state k.own streams only s written_now (as_fresh streams v n kind name s bodies k.puts) follows

  pub sized_stream : stream_at (with_record v n s) (key_of n kind name) ≡ Some (Placed z.extents)
  sized_stream =
      own_now c g clusters v n kind name r (Placed e) f none none bodies sized eight state k.own streams only s written_now (as_fresh streams v n kind name s bodies k.puts) follows
      ∙ ap (λ (x : Extents). Some (Placed x)) (sym k.sized.extents)

  covered : (m : ℕ) (b : Block) → block_at v.per f.runs (stream_kind (key_of n kind name)) m ≡ Some b → 512 * (sectors (stream_kind (key_of n kind name)) * m) < f.initialised → IsLive v b ⊎ IsPut bodies b
  covered m b lies begins = elim (cases_lt (512 * (sectors (stream_kind (key_of n kind name)) * m)) e.initialised) [
    | inl was ↦
        inl
        (record {
          owned = record { stream = key_of n kind name; number = m; lies = ap (λ (o : Option Stream). block_at v.per (runs_in o) (stream_kind (key_of n kind name)) m) own_v ∙ lies };
          begins = subst (λ (o : Option Stream). 512 * (sectors (stream_kind (key_of n kind name)) * m) < initialised_in o) (sym own_v) was;
        })
    | inr new ↦ inr (k.covers m b lies new begins)
  ]

  pub sized_goes_on : (first : Content) (start : Volume) (gave : ℕ → Option BlockKind) → ((other : BlockKind) (x : ℕ) → gave x ≡ Some other → bit (cluster_bits first start) x ≡ false) → GoesOn first start c g clusters v bodies (with_record v n s) gave gave
  sized_goes_on first start gave clear =
      resized_goes_on c g clusters v n kind name r (Placed e) f none none bodies sized eight state k.own streams only s written_now (as_fresh streams v n kind name s bodies k.puts) follows first start gave gave
      (record { cleared = λ x low less. absurd (omega (arith, less)); set = λ x low less. absurd (omega (arith, less)); others = λ x low same. k.marked x low })
      covered (λ x some was. absurd (omega (arith, some, was))) (λ other x is. is) clear

  pub sized_tree : has_hole (Some (Placed e)) ≡ false → TreeFollows c (content_with c bodies) v n r s
  sized_tree = resized_tree c g clusters v n kind name r (Placed e) f none none bodies sized eight state k.own streams only s written_now (as_fresh streams v n kind name s bodies k.puts) follows
