-- A file's record is put with a stream in other clusters, while all bits of clusters stay: the state that it leads to.
use Rattle.std.proofs.Common.{◌≡◌, ◌≢◌, ◌⊎◌, ℕ, ◌+◌, ◌*◌, ◌<◌, ◌≤◌, Bool, true, false, ◌&&◌, eqb, List, Option, Some, None, refl, sym, ap, subst, ◌∙◌, inl, inr, arith}
use Rattle.std.specs.Prelude.{All}
use Rattle.std.specs.List.{AllByRecursion}
use Rattle.std.proofs.lemmas.Bool.{cases_lt, both_ways, eq-eqb, ne_eqb}
use Rattle.disk_model.specs.declared.block.Block.{Block}
use Rattle.disk_model.specs.declared.block.BlockKind.{BlockKind}
use Rattle.disk_model.specs.declared.block.BlockKind.TheVariants.{FileRec}
use Rattle.disk_model.specs.Content.{Content, HasSizes}
use Rattle.disk_model.specs.Sectors.{sectors}
use Rattle.record_model.specs.Constants.{file_name, standard_information}
use Rattle.record_model.specs.Records.{Record}
use Rattle.bit_set.specs.Bits.{bit}
use Rattle.state_model.specs.declared.geometry.Geometry.{Geometry}
use Rattle.state_model.specs.declared.stream.Extents.{Extents}
use Rattle.state_model.specs.declared.stream.Stream.{Stream}
use Rattle.state_model.specs.declared.stream.Stream.TheVariants.{Placed}
use Rattle.state_model.specs.Loads.{has_all_pairs, table_slot, Used}
use Rattle.state_model.specs.Rules.{implies}
use Rattle.state_model.specs.Streams.{block_at}
use Rattle.volume_model.specs.Volumes.{Volume, bitmap_file, bytes_or, cluster_bits, count_of, file_in, file_stream}
use Rattle.volume_model.specs.Owners.{uses, volume_runs}
use Rattle.volume_model.specs.Sizes.{fits_volume, has_hole, keeps_bitmaps}
use Rattle.volume_state.specs.Rules.{broken_5, broken_6}
use Rattle.stream_laws.specs.Owners.{initialised_in, IsLive, Owns, stream_kind}
use Rattle.stream_laws.specs.Rewrites.{is_edited}
use Rattle.stream_laws.specs.Sharing.{runs_in, stream_at, StreamKey}
use Rattle.stream_laws.proofs.Sharing.{stream_of_volume}
use Rattle.stream_laws.proofs.Tabling.{inside_list}
use Rattle.tree_laws.proofs.Ascending.{all_by}
use Rattle.tree_laws.proofs.Parting.{cluster_bits_stay}
use Rattle.plan_owners.specs.States.{Stands}
use Rattle.plan_owners.specs.Kinds.{OwnsAs}
use Rattle.plan_owners.proofs.Standing.{some_file}
use Rattle.plan_bodies.specs.Bodies.{AreBodies, content_with, NewBody}
use Rattle.table_edits.specs.plan_model.Drafts.{IsPut}
use Rattle.table_edits.specs.plan_model.Made.{ReadsAs}
use Rattle.table_edits.specs.plan_model.Edits.{LeadsTo}
use Rattle.table_edits.specs.plan_model.Informed.{with_record}
use Rattle.table_edits.proofs.plan_model.OneRecord.{own_record, OwnRecord, slot_begins, slot_put}
use Rattle.table_edits.proofs.plan_model.Quiet.{record_owned}
use Rattle.table_edits.specs.plan_growth.Streams.{IsOwnStream, IsWritten, key_of, marks_streams}
use Rattle.table_edits.specs.plan_growth.Trees.{TreeFollows}
use Rattle.table_edits.proofs.plan_growth.Resizing.{slot_open, used_pairs}
use Rattle.table_edits.proofs.plan_growth.Written.{all_read, Reads}
use Rattle.table_edits.proofs.plan_table.Remade.{HasOther, IsOther}
use Rattle.bitmap_edits.proofs.Now.{alike_itself, alike_written, HasNow, now_by}
use Rattle.bitmap_edits.proofs.Restreaming.{clusters_now, file_there, five_by, Follows, GoesFar, GoesTo, IsOneFile, now_leads, now_tree, one_differs, one_edit, owned_set, own_now, reads_on, same_files, six_by, which}

-- A stream of a file comes to have these clusters, and its file is put so; what is put besides goes to the bits of clusters, to the mirror, or to clusters that nobody has. No bit of
-- a cluster changes: those that the stream comes to have are nobody's, and set. What is newly live is put whole.
pub record MovesRuns (c : Content) (v : Volume) (n kind : ℕ) (name : List ℕ) (old : Stream) (f : Extents) (r p s : Record) (bodies : List NewBody) : Type 0 where
  pub own : IsOwnStream v n kind name r old
  pub one : HasOther v.per v.clusters kind name old (Placed f) r p
  pub written : IsWritten p s
  pub whole : AreBodies bodies
  pub anew : ReadsAs v bodies n s
  pub each : AllByRecursion (λ q. GoesFar v n q.block) bodies
  pub marked : (x : ℕ) → x < v.clusters → bit (cluster_bits (content_with c bodies) v) x ≡ bit (cluster_bits c v) x
  pub fits : fits_volume v.per v.clusters (Some (Placed f)) ≡ true
  pub follows : Follows (content_with c bodies) v n kind name old (Placed f)
  pub once : (x : ℕ) → x < v.clusters → uses (volume_runs v.files) x + uses f.runs x ≤ 1 + uses (runs_in (Some old)) x
  pub set : (x : ℕ) → x < v.clusters → 0 < uses f.runs x → uses (runs_in (Some old)) x ≡ 0 → bit (cluster_bits c v) x ≡ true
  pub live : (m : ℕ) (b : Block) → block_at v.per f.runs (stream_kind (key_of n kind name)) m ≡ Some b → 512 * (sectors (stream_kind (key_of n kind name)) * m) < f.initialised → IsLive v b ⊎ IsPut bodies b

-- of a file one stream is put so
pub own_other : (v : Volume) (n kind : ℕ) (name : List ℕ) (r : Record) (old : Stream) → IsOwnStream v n kind name r old → IsOther kind
own_other v n kind name r old own = record {
  not_name = λ same. both_ways (eqb kind file_name) own.placeable.not_name (eq-eqb kind file_name (sym same));
  not_info = λ same. both_ways (eqb kind standard_information) own.placeable.not_info (eq-eqb kind standard_information (sym same));
  not_root = own.no_root;
}

module _ (c : Content) (g : Geometry) (clusters : ℕ) (v : Volume) (n kind : ℕ) (name : List ℕ) (old : Stream) (f : Extents) (r p s : Record) (bodies : List NewBody) (sized : HasSizes c) (eight : g.per_cluster ≡ 8) (state : Stands c g clusters v) (k : MovesRuns c v n kind name old f r p s bodies) where
  abbrev d : Content
  d = content_with c bodies

  abbrev w : Volume
  w = with_record v n s

  abbrev key : StreamKey
  key = key_of n kind name

  its : OwnRecord c v n r
  its = own_record c g clusters v n r state k.own.file k.own.no_list

  reads : All Reads r.attrs
  unfolding has_all_pairs
  reads = all_read r.attrs (used_pairs v.table.initialised (1024 * n) c (block_at v.per v.table.runs FileRec n) r (slot_open c v n r its.slot))

  now : HasNow v.per v.clusters kind name old (Placed f) r s
  now = now_by v.per v.clusters kind name old (Placed f) r r p s (alike_itself v.per v.clusters r) k.own.stream k.one (alike_written v.per v.clusters p s k.written (k.one.reads reads)) k.fits

  one_file : IsOneFile v n r
  one_file = record { file = k.own.file; table = k.own.apart.table; upcase = k.own.apart.upcase; no_list = k.own.no_list }

  slot : table_slot d v.per v.table n ≡ Used s
  slot = slot_put c v n s bodies k.anew.block k.anew.bytes sized k.whole (slot_begins c v n r its.slot) k.anew.place k.anew.put k.anew.reads

  below : n < count_of v
  below = inside_list v.files n r (some_file v n r k.own.file)

  pub owners : (x : ℕ) → uses (volume_runs w.files) x + uses (runs_in (Some old)) x ≡ uses (volume_runs v.files) x + uses f.runs x
  owners x = clusters_now v n r s old (Placed f) x below k.own.file (now.balance x)

  pub bits_stay : (x : ℕ) → x < v.clusters → bit (cluster_bits d w) x ≡ bit (cluster_bits c v) x
  bits_stay x low = ap (λ (l : List Bool). bit l x) (cluster_bits_stay d v w.files n (one_differs v n s) k.own.apart.bitmap) ∙ k.marked x low

  pub stream_was : stream_at v key ≡ Some old
  stream_was = ap (file_stream kind name) k.own.file ∙ k.own.stream

  some_of_all : (x : ℕ) → uses (runs_in (Some old)) x ≤ uses (volume_runs v.files) x
  some_of_all x = subst (λ (o : Option Stream). uses (runs_in o) x ≤ uses (volume_runs v.files) x) stream_was (stream_of_volume v key x)

  set_now : (x : ℕ) → x < v.clusters → 0 < uses (volume_runs w.files) x → bit (cluster_bits d w) x ≡ true
  set_now x low some =
      let sums = owners x in
      let part = some_of_all x in
      bits_stay x low ∙ elim (cases_lt 0 (uses (volume_runs v.files) x)) [
        | inl owned ↦ owned_set c g clusters v x state low owned
        | inr none ↦ k.set x low (omega (arith, some, sums, none)) (omega (arith, part, none))
      ]

  five : broken_5 w ≡ None
  five = five_by w (λ x low. (let sums = owners x in let once = k.once x low in omega (arith, sums, once)))

  six : broken_6 d w ≡ None
  six = six_by d w set_now

  bitmaps : keeps_bitmaps w n ≡ true
  unfolding keeps_bitmaps
  bitmaps = no_bitmaps (eqb n 0) (eqb n bitmap_file) _ _ (ne_eqb n 0 k.own.apart.table) (ne_eqb n bitmap_file k.own.apart.bitmap)
    where
      no_bitmaps : (a b x y : Bool) → a ≡ false → b ≡ false → (implies a x && implies b y) ≡ true
      no_bitmaps true b x y is not = absurd cc
      no_bitmaps false true x y is not = absurd cc
      no_bitmaps false false x y is not = refl

  pub leads : LeadsTo (is_edited (one_edit n s)) c v d g clusters w
  leads = now_leads c g clusters v n kind name old (Placed f) r s bodies sized eight state one_file now k.follows slot k.each five six bitmaps

  pub tree : has_hole (Some old) ≡ false → TreeFollows c d v n r s
  tree = now_tree c g clusters v n kind name old (Placed f) r s bodies sized eight state one_file now k.follows slot k.each five six bitmaps

  pub files_stay : (m : ℕ) → m ≢ n → file_in w m ≡ file_in v m
  files_stay = same_files c g clusters v n kind name old (Placed f) r s bodies sized eight state one_file now k.follows slot k.each five six bitmaps

  pub file_now : file_in w n ≡ Some s
  file_now = file_there v n s below (now.base ∙ its.base)

  pub stream_now : stream_at w key ≡ Some (Placed f)
  stream_now = own_now c g clusters v n kind name old (Placed f) r s bodies sized eight state one_file now k.follows slot k.each five six bitmaps

  which_of : (t : StreamKey) → (t ≡ key) ⊎ (stream_at w t ≡ stream_at v t)
  which_of = which c g clusters v n kind name old (Placed f) r s bodies sized eight state one_file now k.follows slot k.each five six bitmaps

  -- what is put goes to what the first volume owns, where it goes to no free cluster
  pub all_owned : AllByRecursion (λ q. GoesTo v n q.block) bodies → AllByRecursion (λ q. Owns v q.block) bodies
  all_owned each = all_by (λ q. GoesTo v n q.block) (λ q. Owns v q.block) is_owned bodies each
    where
      is_owned : (q : NewBody) → GoesTo v n q.block → Owns v q.block
      is_owned q (inl owned) = record { stream = owned.stream; number = owned.number; lies = owned.lies }
      is_owned q (inr at) = record_owned c g clusters v n q.block state at

  -- a cluster that is owned was owned as this kind, or is a new one of the stream's
  pub owned_or_new : (block_kind : BlockKind) (x : ℕ) → OwnsAs w block_kind x → OwnsAs v block_kind x ⊎ ((0 < uses f.runs x) × ((uses (runs_in (Some old)) x ≡ 0) × (stream_kind key ≡ block_kind)))
  owned_or_new block_kind x owns = elim (which_of owns.stream) [
    | inl same ↦
        (let has_now : 0 < uses f.runs x = subst (λ (o : Option Stream). 0 < uses (runs_in o) x) (ap (stream_at w) same ∙ stream_now) owns.has in
        elim (cases_lt 0 (uses (runs_in (Some old)) x)) [
          | inl was ↦ inl (record { stream = owns.stream; is_kind = owns.is_kind; has = subst (λ (o : Option Stream). 0 < uses (runs_in o) x) (sym (ap (stream_at v) same ∙ stream_was)) was })
          | inr none ↦ inr (has_now, (omega (arith, none), sym (ap stream_kind same) ∙ owns.is_kind))
        ])
    | inr stays ↦ inl (record { stream = owns.stream; is_kind = owns.is_kind; has = subst (λ (o : Option Stream). 0 < uses (runs_in o) x) stays owns.has })
  ]

  -- a block that is live was so, or is put whole
  pub live_before : (x : Block) → IsLive w x → IsLive v x ⊎ IsPut bodies x
  live_before x live =
      let t = live.owned.stream in
      let m = live.owned.number in
      elim (which_of t) [
        | inl same ↦
            (let lies_now : block_at v.per f.runs (stream_kind key) m ≡ Some x = subst (λ (o : Option Stream). block_at v.per (runs_in o) (stream_kind key) m ≡ Some x) stream_now (subst (λ (y : StreamKey). block_at v.per (runs_in (stream_at w y)) (stream_kind y) m ≡ Some x) same live.owned.lies) in
            let begins_now : 512 * (sectors (stream_kind key) * m) < f.initialised = subst (λ (o : Option Stream). 512 * (sectors (stream_kind key) * m) < initialised_in o) stream_now (subst (λ (y : StreamKey). 512 * (sectors (stream_kind y) * m) < initialised_in (stream_at w y)) same live.begins) in
            k.live m x lies_now begins_now)
        | inr stays ↦
            inl
            (record {
              owned = record { stream = t; number = m; lies = ap (λ (o : Option Stream). block_at v.per (runs_in o) (stream_kind t) m) (sym stays) ∙ live.owned.lies };
              begins = subst (λ (o : Option Stream). 512 * (sectors (stream_kind t) * m) < initialised_in o) stays live.begins;
            })
      ]

  -- what the stream reads of the new content at its old place is what it read
  pub reads_stay : marks_streams key ≡ false → bytes_or d v.per (Some old) ≡ bytes_or c v.per (stream_at v key)
  reads_stay apart =
      ap (bytes_or d v.per) (sym stream_was)
      ∙ reads_on c g clusters v n kind name old (Placed f) r s bodies sized eight state one_file now k.follows slot k.each five six bitmaps key apart (λ same. k.own.apart.table (sym (ap (λ (t : StreamKey). t.file) same)))
