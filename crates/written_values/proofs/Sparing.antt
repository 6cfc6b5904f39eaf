-- What an operation on a file leaves: the streams of other files, and all bodies but those that it puts.
use Rattle.std.proofs.Common.{◌≡◌, ◌≢◌, ◌⊎◌, ℕ, ◌≤◌, Bool, true, false, not, ◌&&◌, ◌||◌, eqb, nat_eq, List, [], ◌∷◌, Option, Some, refl, sym, ap, ◌∙◌, inl, inr, arith}
use Rattle.std.specs.Prelude.{All}
use Rattle.std.specs.List.{list_all, list_any, AllByRecursion}
use Rattle.std.specs.Cmp.Lexicographic.{pointwise}
use Rattle.std.proofs.lemmas.Bool.{and_parts, and_from, or_left, or_right, or_cases, both_ways, cases_eq, eq-eqb, eqb-true, ne_eqb}
use Rattle.disk_model.specs.declared.block.Block.{Block}
use Rattle.disk_model.specs.declared.block.BlockKind.TheVariants.{FileRec}
use Rattle.disk_model.specs.Sectors.{overlap}
use Rattle.disk_model.specs.Content.{Content, HasSizes}
use Rattle.record_model.specs.declared.attribute.Attr.{Attr}
use Rattle.record_model.specs.Records.{Record}
use Rattle.record_model.specs.Constants.{data_type}
use Rattle.record_model.specs.declared.runs.Run.{Run}
use Rattle.record_model.specs.Pairs.{HasSpelling}
use Rattle.file_tree.specs.declared.node.Node.{Node}
use Rattle.file_tree.specs.Walks.{first_user_record}
use Rattle.change_steps.specs.state_model.declared.geometry.Geometry.{Geometry}
use Rattle.change_steps.specs.state_model.declared.stream.Extents.{Extents}
use Rattle.change_steps.specs.state_model.declared.stream.Stream.{Stream}
use Rattle.change_steps.specs.state_model.Files.{has_type}
use Rattle.change_steps.specs.state_model.Loads.{table_in, has_fitting_pairs}
use Rattle.change_steps.specs.state_model.Streams.{attributes_of, stream_of, block_at}
use Rattle.change_steps.specs.volume_model.Volumes.{Volume, file_in, file_stream, table_file, mirror_file, bitmap_file, cluster_bits}
use Rattle.change_steps.specs.volume_model.Owners.{uses}
use Rattle.change_steps.specs.stream_laws.Owners.{stream_kind}
use Rattle.change_steps.specs.stream_laws.Replacing.{FileEdit, with_edits}
use Rattle.change_steps.specs.stream_laws.Sharing.{StreamKey, stream_at, runs_in}
use Rattle.change_steps.proofs.stream_laws.Editing.{other_file}
use Rattle.change_steps.proofs.tree_laws.Ascending.{all_by}
use Rattle.change_steps.proofs.tree_laws.Naming.{file_elsewhere}
use Rattle.tree_model.specs.declared.script.Op.{Op}
use Rattle.change_steps.specs.plan_owners.States.{Stands}
use Rattle.plan_bodies.specs.Bodies.{NewBody, AreBodies, content_with}
use Rattle.change_steps.specs.plan_model.Drafts.{FollowsOwners}
use Rattle.change_steps.specs.plan_model.Edits.{IsOwnedIn}
use Rattle.change_steps.specs.plan_model.Informed.{with_record}
use Rattle.change_steps.specs.record_streams.Placing.{placed_record}
use Rattle.change_steps.specs.plan_growth.Streams.{IsOwnStream, IsWritten, marks_streams}
use Rattle.change_steps.proofs.plan_growth.Placed.{same_or_other, some_attributes, placed_types, placed_all, other_stream}
use Rattle.change_steps.proofs.plan_growth.Written.{Reads, all_read, placed_reads, written_types, written_stream}
use Rattle.change_steps.proofs.plan_values.Valued.{old_pairs}
use Rattle.change_steps.specs.step_model.Contents.{same_key, is_among, HasGrown, is_touched, touched_streams, MayDiffer, IsLeft}
use Rattle.change_steps.specs.step_model.Placing.{Growth, runs_after}
use Rattle.change_steps.specs.step_model.Used.{is_in_record}
use Rattle.change_steps.specs.step_model.Streams.{data_of}
use Rattle.change_steps.proofs.step_model.Leaving.{contents_left}
use Rattle.change_steps.specs.data_plan.Changes.{data_in, growth_of}
use Rattle.written_values.proofs.Growths.{growth_is, IsOf}

-- ---- other files

pub elsewhere : (v : Volume) (n m : ℕ) (s : Record) → m ≢ n → file_in (with_record v n s) m ≡ file_in v m
elsewhere v n m s other =
    let edits : List FileEdit = record { number = n; file = Some s } ∷ [] in
    file_elsewhere (table_in v.files) (table_in (with_edits edits v.files)) n m (λ k differs. other_file v.files edits k ((λ same. differs (sym same)), tt)) other

-- ---- a record of which the data stands in other clusters

module _ (c : Content) (g : Geometry) (clusters : ℕ) (v : Volume) (n : ℕ) (r s : Record) (old : Stream) (f : Extents) (state : Stands c g clusters v) (own : IsOwnStream v n data_type [] r old) (spelled : HasSpelling 0 f.runs) (written : IsWritten (placed_record v.per data_type [] f r) s) where
  abbrev p : Record
  p = placed_record v.per data_type [] f r

  some : (a : Attr) × (others : List Attr) × (attributes_of data_type [] r.attrs ≡ a ∷ others)
  unfolding stream_of
  some = some_attributes (attributes_of data_type [] r.attrs) old own.stream

  fit : list_all has_fitting_pairs r.attrs ≡ true
  fit = old_pairs c g clusters v n r state (record { file = own.file; apart = own.apart; no_list = own.no_list })

  reads : All Reads p.attrs
  reads = placed_all v.per data_type [] f r some.0 some.1 some.2 spelled Reads (placed_reads v.per f some.0 spelled) (all_read r.attrs fit)

  pub other_streams : (kind : ℕ) (name : List ℕ) → (kind ≢ data_type) ⊎ (name ≢ []) → stream_of kind name s.attrs ≡ stream_of kind name r.attrs
  other_streams kind name differ = written_stream p s written reads kind name ∙ other_stream v.per data_type [] f r some.0 some.1 some.2 spelled kind name differ

  pub same_types : (kind : ℕ) → has_type kind s ≡ has_type kind r
  same_types kind = written_types p s written reads kind ∙ placed_types v.per data_type [] f r some.0 some.1 some.2 spelled kind

-- ---- bodies

-- the volume has this file in another record, and the other files and the table of before
pub record IsBeside (n : ℕ) (v x : Volume) : Type 0 where
  pub per : x.per ≡ v.per
  pub table : x.table ≡ v.table
  pub files : (m : ℕ) → m ≢ n → file_in x m ≡ file_in v m

pub beside_itself : (n : ℕ) (v : Volume) → IsBeside n v v
beside_itself n v = record { per = refl; table = refl; files = λ m other. refl }

pub beside_record : (n : ℕ) (v x : Volume) (s : Record) → IsBeside n v x → IsBeside n v (with_record x n s)
beside_record n v x s is = record { per = is.per; table = is.table; files = λ m other. elsewhere x n m s other ∙ is.files m other }

-- a stream of this file is touched, and so is one of $Bitmap or $MFTMirr
is_chosen : ℕ → ℕ → StreamKey → Bool
is_chosen n m s = is_touched (n ∷ []) m && not (eqb m table_file && eqb s.kind data_type && pointwise nat_eq s.name [])

chosen_by : (n m : ℕ) (s : StreamKey) → s.file ≡ m → is_chosen n m s ≡ true → touched_streams (n ∷ []) s ≡ true
unfolding is_chosen
chosen_by n m s file is = ap (λ (k : ℕ). is_touched (n ∷ []) k && not (eqb k table_file && eqb s.kind data_type && pointwise nat_eq s.name [])) file ∙ is

bitmap_chosen : (n : ℕ) (s : StreamKey) → is_chosen n bitmap_file s ≡ true
unfolding is_chosen
bitmap_chosen n s = refl

mirror_chosen : (n : ℕ) (s : StreamKey) → is_chosen n mirror_file s ≡ true
unfolding is_chosen
mirror_chosen n s = refl

own_touched : (n : ℕ) → is_touched (n ∷ []) n ≡ true
own_touched n = or_right _ (list_any (λ (m : ℕ). eqb n m) (n ∷ [])) (or_left (eqb n n) false (eq-eqb n n refl))

own_chosen : (n : ℕ) (s : StreamKey) → first_user_record ≤ n → is_chosen n n s ≡ true
unfolding is_chosen
own_chosen n s user = and_from _ _ (own_touched n) (ap (λ (t : Bool). not (t && eqb s.kind data_type && pointwise nat_eq s.name [])) (ne_eqb n table_file (λ same. omega (arith, same, user))))

module _ (n : ℕ) (v x w : Volume) (user : first_user_record ≤ n) (before : IsBeside n v x) (after : IsBeside n v w) where
  -- a block that an edit of the file's record puts
  abbrev pub PutsTo : (StreamKey → Bool) → Block → Type 0
  PutsTo streams b = IsOwnedIn streams x b ⊎ (block_at x.per x.table.runs FileRec n ≡ Some b)

  marked_file : (t : StreamKey) → marks_streams t ≡ true → (t.file ≡ bitmap_file) ⊎ (t.file ≡ mirror_file)
  marked_file t is =
      let which = (and_parts (eqb t.file bitmap_file || eqb t.file mirror_file) (eqb t.kind data_type) (and_parts ((eqb t.file bitmap_file || eqb t.file mirror_file) && eqb t.kind data_type) (pointwise nat_eq t.name []) is).0).0 in
      elim (or_cases (eqb t.file bitmap_file) (eqb t.file mirror_file) which) [
        | inl bits ↦ inl (eqb-true t.file bitmap_file bits)
        | inr mirror ↦ inr (eqb-true t.file mirror_file mirror)
      ]

  in_volume : (t : StreamKey) (number : ℕ) (b : Block) → t.file ≢ n → block_at x.per (runs_in (stream_at x t)) (stream_kind t) number ≡ Some b → block_at v.per (runs_in (stream_at v t)) (stream_kind t) number ≡ Some b
  in_volume t number b other lies =
      ap (λ (k : ℕ). block_at k (runs_in (stream_at v t)) (stream_kind t) number) (sym before.per)
      ∙ ap (λ (o : Option Record). block_at x.per (runs_in (file_stream t.kind t.name o)) (stream_kind t) number) (sym (before.files t.file other))
      ∙ lies

  mark_differs : (b : Block) → IsOwnedIn marks_streams x b → MayDiffer (n ∷ []) v w b
  mark_differs b k = elim (marked_file k.stream k.chosen) [
    | inl bits ↦ inr (inl (record { stream = k.stream; chosen = chosen_by n bitmap_file k.stream bits (bitmap_chosen n k.stream); number = k.number; lies = in_volume k.stream k.number b (λ same. omega (arith, same, bits, user)) k.lies }))
    | inr mirror ↦ inr (inl (record { stream = k.stream; chosen = chosen_by n mirror_file k.stream mirror (mirror_chosen n k.stream); number = k.number; lies = in_volume k.stream k.number b (λ same. omega (arith, same, mirror, user)) k.lies }))
  ]

  record_differs : (b : Block) → block_at x.per x.table.runs FileRec n ≡ Some b → MayDiffer (n ∷ []) v w b
  record_differs b lies =
      inl
      (record {
        number = n;
        touched = inl (own_touched n);
        place = ap (λ (k : ℕ). block_at k w.table.runs FileRec n) (after.per ∙ sym before.per) ∙ ap (λ (e : Extents). block_at x.per e.runs FileRec n) (after.table ∙ sym before.table) ∙ lies;
      })

  one_differs : (b : Block) → PutsTo marks_streams b → MayDiffer (n ∷ []) v w b
  one_differs b (inl owned) = mark_differs b owned
  one_differs b (inr its) = record_differs b its

  -- all else stays behind such an edit
  pub others_stay : (d : Content) (bodies : List NewBody) → HasSizes d → AreBodies bodies → AllByRecursion (λ p. PutsTo marks_streams p.block) bodies → (b : Block) → ((y : Block) → MayDiffer (n ∷ []) v w y → overlap b y ≡ false) → content_with d bodies b ≡ d b
  others_stay d bodies sized whole each b apart =
      contents_left.stays d v w (n ∷ []) bodies sized whole (all_by (λ (p : NewBody). PutsTo marks_streams p.block) (λ (p : NewBody). MayDiffer (n ∷ []) v w p.block) (λ p is. one_differs p.block is) bodies each) b apart

-- ---- what is left

-- The last volume has the file with this record, in which the data has the runs that it comes to have, no more clusters than it had, and
-- the other streams have their runs.
pub record Ends (v w : Volume) (n : ℕ) (r q : Record) (growth : Growth) : Type 0 where
  pub was : file_in v n ≡ Some r
  pub now : file_in w n ≡ Some q
  pub beside : IsBeside n v w
  pub others : (kind : ℕ) (name : List ℕ) → (kind ≢ data_type) ⊎ (name ≢ []) → runs_in (stream_of kind name q.attrs) ≡ runs_in (stream_of kind name r.attrs)
  pub stands : is_in_record (data_in q) ≡ growth.stands
  pub runs : runs_in (data_in q) ≡ runs_after growth
  pub fewer : (x : ℕ) → uses (runs_in (data_in q)) x ≤ uses (runs_in (data_in r)) x

module _ (c d : Content) (v w : Volume) (clusters n : ℕ) (r q : Record) (op : Op) (a : Node) (number : a.number ≡ n) (ends : Ends v w n r q (growth_of (cluster_bits c v) r op a)) where
  abbrev growth : Growth
  growth = growth_of (cluster_bits c v) r op a

  is : IsOf (cluster_bits c v) r a growth
  is = growth_is (cluster_bits c v) r op a

  -- a stream is that of the data, or has its runs
  which : (t : StreamKey) → ((t.file ≡ n) × (t.kind ≡ data_type) × (t.name ≡ [])) ⊎ (runs_in (stream_at w t) ≡ runs_in (stream_at v t))
  which t = elim (cases_eq t.file n) [
    | inl file ↦ elim (same_or_other data_type t.kind [] t.name) [
      | inl same ↦ inl (file, same.0, same.1)
      | inr differ ↦
          inr
          (ap (λ (m : ℕ). runs_in (file_stream t.kind t.name (file_in w m))) file
          ∙ ap (λ (o : Option Record). runs_in (file_stream t.kind t.name o)) ends.now
          ∙ ends.others t.kind t.name differ
          ∙ sym (ap (λ (m : ℕ). runs_in (file_stream t.kind t.name (file_in v m))) file ∙ ap (λ (o : Option Record). runs_in (file_stream t.kind t.name o)) ends.was))
    ]
    | inr other ↦ inr (ap (λ (o : Option Record). runs_in (file_stream t.kind t.name o)) (ends.beside.files t.file other))
  ]

  among : (t : StreamKey) → t.file ≡ n → t.kind ≡ data_type → t.name ≡ [] → is_among (growth ∷ []) t ≡ true
  among t file kind name =
      or_left (same_key growth.stream t) false
      (ap (λ (k : StreamKey). same_key k t) is.stream
      ∙ and_from _ _ (and_from _ _ (eq-eqb a.number t.file (number ∙ sym file)) (eq-eqb data_type t.kind (sym kind))) (ap (pointwise nat_eq []) name))

  same_runs : (t : StreamKey) → is_among (growth ∷ []) t ≡ false → runs_in (stream_at w t) ≡ runs_in (stream_at v t)
  same_runs t apart = elim (which t) [
    | inl own ↦ absurd (both_ways (is_among (growth ∷ []) t) apart (among t own.0 own.1 own.2))
    | inr stays ↦ stays
  ]

  own_key : growth.stream ≡ data_of n
  own_key = is.stream ∙ ap data_of number

  at_own : (x : Volume) (s : Record) → file_in x n ≡ Some s → stream_at x growth.stream ≡ data_in s
  at_own x s file = ap (stream_at x) own_key ∙ ap (file_stream data_type []) file

  has_grown : HasGrown v w growth
  has_grown = record {
    stands = ap is_in_record (at_own w q ends.now) ∙ ends.stands;
    old = is.old ∙ sym (ap runs_in (at_own v r ends.was));
    runs = ap runs_in (at_own w q ends.now) ∙ ends.runs;
  }

  no_more : (t : StreamKey) (x : ℕ) → uses (runs_in (stream_at w t)) x ≤ uses (runs_in (stream_at v t)) x
  no_more t x = elim (which t) [
    | inl own ↦
        (let key : (y : Volume) (s : Record) → file_in y n ≡ Some s → uses (runs_in (stream_at y t)) x ≡ uses (runs_in (data_in s)) x = λ y s file.
        ap (λ (m : ℕ). uses (runs_in (file_stream t.kind t.name (file_in y m))) x) own.0
        ∙ ap (λ (o : Option Record). uses (runs_in (file_stream t.kind t.name o)) x) file
        ∙ ap (λ (k : ℕ). uses (runs_in (stream_of k t.name s.attrs)) x) own.1
        ∙ ap (λ (l : List ℕ). uses (runs_in (stream_of data_type l s.attrs)) x) own.2
        in
        let now = key w q ends.now in
        let was = key v r ends.was in
        let fewer = ends.fewer x in
        omega (arith, now, was, fewer))
    | inr stays ↦ (let same = ap (λ (l : List Run). uses l x) stays in omega (arith, same))
  ]

  pub is_left : FollowsOwners clusters (cluster_bits c v) (cluster_bits d w) v.files w.files → ((b : Block) → ((y : Block) → MayDiffer (n ∷ []) v w y → overlap b y ≡ false) → d b ≡ c b) → IsLeft c v clusters (n ∷ []) (growth ∷ []) d w
  is_left bits stays = record {
    placed = (is.placed, tt);
    grown = (has_grown, tt);
    others = same_runs;
    bits = bits;
    takes = λ t x more. (let most = no_more t x in absurd (omega (arith, most, more)));
    stays = stays;
  }
