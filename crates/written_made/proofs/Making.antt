-- A file that gets unnamed data without bytes: the first edit, over which the rest of a write is put.
use Rattle.std.proofs.Common.{◌≡◌, ℕ, ◌<◌, ◌≤◌, ◌^◌, Bool, true, false, ◌&&◌, eqb, nat_eq, List, [], ◌∷◌, length, Option, Some, None, Ok, refl, sym, ap, ap₂, subst, ◌∙◌, inl, inr, arith}
use Rattle.std.specs.Cmp.Lexicographic.{pointwise}
use Rattle.std.proofs.lemmas.Bool.{cases_eq, le-leb}
use Rattle.host_base.specs.Answers.{needs}
use Rattle.disk_model.specs.declared.block.BlockKind.{BlockKind}
use Rattle.disk_model.specs.Content.{Content, HasSizes}
use Rattle.record_model.specs.declared.attribute.Attr.{Attr}
use Rattle.record_model.specs.Constants.{data_type}
use Rattle.record_model.specs.Records.{Record, record_spelling}
use Rattle.file_changes.specs.record_writer.NormalLaws.{FitsByRoom}
use Rattle.bit_set.specs.Words.{bits_of_bytes}
use Rattle.file_tree.specs.declared.node.Node.{Node}
use Rattle.state_model.specs.declared.geometry.Geometry.{Geometry}
use Rattle.state_model.specs.declared.stream.Stream.{Stream}
use Rattle.state_model.specs.declared.stream.Stream.TheVariants.{Held}
use Rattle.state_model.specs.Loads.{extents_or}
use Rattle.state_model.specs.Streams.{is_attribute_of, joined, stream_of}
use Rattle.volume_model.specs.Volumes.{Volume, count_of, file_in, file_stream, bytes_or, cluster_bits, mirror_file, bitmap_file}
use Rattle.file_changes.specs.volume_state.Trees.{tree_of}
use Rattle.file_changes.specs.stream_laws.Sharing.{StreamKey, stream_at, runs_in}
use Rattle.file_changes.specs.plan_owners.States.{Stands}
use Rattle.plan_bodies.specs.Bodies.{NewBody, content_with, put_bodies}
use Rattle.plan_bodies.proofs.Putting.{contents_put, sized_with}
use Rattle.plan_draft.specs.declared.touched.Touched.{Touched}
use Rattle.plan_draft.specs.Touching.{bodies_of}
use Rattle.plan_draft.specs.Drafts.{drafted}
use Rattle.plan_draft.specs.Same.{PutSame}
use Rattle.file_changes.specs.plan_model.Attributes.{IsValue}
use Rattle.file_changes.specs.plan_model.Drafts.{DraftIn, gives_none}
use Rattle.file_changes.specs.plan_model.Edits.{LeadsTo}
use Rattle.file_changes.specs.plan_model.Informed.{with_record}
use Rattle.file_changes.specs.plan_model.Parts.{ReplacesAttrs}
use Rattle.file_changes.proofs.plan_model.Drafting.{begins_empty, goes_on, per_is}
use Rattle.file_changes.specs.stream_laws.Rewrites.{is_edited}
use Rattle.file_changes.specs.record_streams.Fitting.{FitsButRoom}
use Rattle.file_changes.proofs.record_streams.Kept.{but_room_fits}
use Rattle.file_changes.specs.draft_records.Records.{written_bytes, fits_room, touch_record}
use Rattle.file_changes.specs.plan_growth.Trees.{with_data, TreeFollows}
use Rattle.file_changes.specs.plan_values.Values.{is_data}
use Rattle.file_changes.specs.plan_values.Made.{MakesData}
use Rattle.file_changes.specs.plan_values.Trees.{FileFollows}
use Rattle.file_changes.proofs.plan_values.Made.{data_is_made, made_stays}
use Rattle.file_changes.specs.plan_edits.Moves.{EditsDraft}
use Rattle.file_changes.specs.plan_edits.Records.{PutsRecordOf}
use Rattle.file_changes.proofs.plan_informed.Informed.{values_edit}
use Rattle.file_changes.specs.plan_changes.Files.{IsChangeable, with_own, Follows}
use Rattle.file_changes.specs.plan_changes.Going.{StandsAs}
use Rattle.file_changes.specs.plan_changes.Nodes.{NodeBecomes}
use Rattle.file_changes.proofs.plan_changes.Going.{files_going}
use Rattle.file_changes.proofs.plan_changes.Showing.{files_are}
use Rattle.made_data.specs.data_plan.Changes.{data_in}
use Rattle.made_data.specs.data_plan.Laws.{HasMadeData}
use Rattle.made_data.specs.Laws.{MadeIsCounted}
use Rattle.made_data.specs.Made.{with_empty_data, made_record, has_data}
use Rattle.file_changes.specs.file_puts.declared.streams.VolumeStreams.{VolumeStreams}
use Rattle.file_changes.specs.file_puts.Puts.{PutsFileRecord}
use Rattle.file_changes.specs.file_puts.Written.{AreStreamsOf}
use Rattle.file_changes.proofs.written_values.Joining.{nothing_put, nothing_kept, puts_record}
use Rattle.file_changes.proofs.written_values.Owning.{IsOwned, is_owned}
use Rattle.file_changes.proofs.written_values.Sparing.{elsewhere}

-- A file without unnamed data in a state, of which the record has room with data that is empty.
pub record LacksData (c : Content) (g : Geometry) (clusters : ℕ) (v : Volume) (s : VolumeStreams) (n : ℕ) (a : Node) (r : Record) : Type 0 where
  pub sized : HasSizes c
  pub eight : g.per_cluster ≡ 8
  pub stands : Stands c g clusters v
  pub streams : AreStreamsOf v s
  pub file : IsChangeable c v n r a
  pub none : has_data r ≡ false
  pub fits : FitsButRoom r
  pub short : length r.attrs < 2 ^ 10
  pub room : written_bytes (with_empty_data r) ≤ 1024

-- what is touched where the record with data that is empty is put
abbrev pub touch_made : Content → VolumeStreams → ℕ → Record → List Touched
touch_made c s n r = touch_record c 8 s.table s.mirror n (record_spelling (made_record r)) []

-- the content with it, and its volume
abbrev pub with_made : Content → VolumeStreams → ℕ → Record → Content
with_made c s n r = drafted (touch_made c s n r) c

abbrev pub made_volume : Volume → ℕ → Record → Volume
made_volume v n r = with_record v n (made_record r)

-- It is an edit that leads to a state with the same tree and bits, in which the streams have their clusters.
pub record GetsData (c : Content) (g : Geometry) (clusters : ℕ) (v : Volume) (s : VolumeStreams) (n : ℕ) (a : Node) (r : Record) : Type 0 where
  pub bodies : List NewBody
  pub same : PutSame (bodies_of (touch_made c s n r)) bodies
  pub content : content_with c bodies ≡ with_made c s n r
  pub draft : DraftIn c g clusters v bodies (made_volume v n r) gives_none
  pub stands : Stands (with_made c s n r) g clusters (made_volume v n r)
  pub file : IsChangeable (with_made c s n r) (made_volume v n r) n (made_record r) a
  pub node : NodeBecomes n a a (tree_of c v) (tree_of (with_made c s n r) (made_volume v n r))
  pub room : (tree_of (with_made c s n r) (made_volume v n r)).room ≡ (tree_of c v).room
  pub bits : cluster_bits (with_made c s n r) (made_volume v n r) ≡ cluster_bits c v
  pub runs : (t : StreamKey) → runs_in (stream_at (made_volume v n r) t) ≡ runs_in (stream_at v t)
  pub streams : AreStreamsOf (made_volume v n r) s
  pub count : count_of (made_volume v n r) ≡ count_of v

none_given : (kind : BlockKind) → None ≡ Some kind → ⊥
none_given kind given = cc

-- a node shows the same of data without bytes as of none
as_it_was : (c d : Content) (v : Volume) (n : ℕ) (r q : Record) (a : Node) → data_in q ≡ Some (Held []) → data_in r ≡ None → with_own c v r a ≡ a → with_own d v q a ≡ a
as_it_was c d v n r q a holds none itself =
    ap (λ (o : Option Stream). with_data o (bytes_or d v.per o) a) holds ∙ sym (ap (λ (o : Option Stream). with_data o (bytes_or c v.per o) a) none) ∙ itself

module _ (counted : MadeIsCounted) (c : Content) (g : Geometry) (clusters : ℕ) (v : Volume) (s : VolumeStreams) (n : ℕ) (a : Node) (r : Record) (k : LacksData c g clusters v s n a r) where
  abbrev first : Content
  first = drafted [] c

  abbrev p : Record
  p = with_empty_data r

  abbrev q : Record
  q = made_record r

  abbrev pre : List Touched
  pre = touch_made c s n r

  abbrev d : Content
  d = with_made c s n r

  abbrev x : Volume
  x = made_volume v n r

  start : first ≡ c
  start = nothing_put c k.sized

  first_sized : HasSizes first
  first_sized = sized_with c (bodies_of []) k.sized

  state : Stands first g clusters v
  state = subst (λ (y : Content). Stands y g clusters v) (sym start) k.stands

  file : IsChangeable first v n r a
  file = subst (λ (y : Content). IsChangeable y v n r a) (sym start) k.file

  owned : IsOwned v n r
  owned = is_owned c g clusters v n r a k.stands k.file

  eight : v.per ≡ 8
  eight = per_is c g clusters v k.eight k.stands

  -- ---- the record

  made : HasMadeData r p
  made = counted.made r k.none

  abbrev one : Attr
  one = made.new

  none_there : stream_of data_type [] r.attrs ≡ None
  unfolding stream_of
  none_there = ap joined (counted.none r k.none)

  comes : ReplacesAttrs [] (one ∷ []) r p
  comes = record { seq = refl; flags = refl; attrs = record { front = made.front; behind = made.back; was = made.before; is = made.after } }

  of_data : is_data one ≡ true
  unfolding is_attribute_of
  of_data = ap₂ (λ (y : ℕ) (l : List ℕ). eqb y data_type && pointwise nat_eq l []) made.empty.kind made.empty.unnamed

  value : IsValue one.form
  value = subst IsValue (sym made.empty.form) tt

  fits : FitsByRoom p
  fits = but_room_fits p (counted.fits r k.fits k.short)

  room : fits_room p ≡ Ok tt
  room = ap (λ (b : Bool). needs b (written_bytes p)) (le-leb (written_bytes p) 1024 k.room)

  -- ---- the edit

  put : PutsFileRecord c s n p [] pre
  put = record { fits = fits; room = room; put = refl }

  puts : PutsRecordOf c v s.mirror n p [] pre
  puts = puts_record c v s n p [] pre k.sized nothing_kept eight k.streams.table k.streams.mirror put

  edit : (bodies : List NewBody) × (EditsDraft c [] pre bodies × MakesData first v n r p q one bodies)
  edit = values_edit.made c g clusters v s.mirror n r p one [] pre state owned.own none_there comes refl of_data value made.empty.flags puts

  is : MakesData first v n r p q one edit.0
  is = edit.1.1

  content : content_with first edit.0 ≡ d
  content = edit.1.0.content

  leads : LeadsTo (is_edited (record { number = n; file = Some q } ∷ [])) first v (content_with first edit.0) g clusters x
  leads = data_is_made.leads first g clusters v n r p q one edit.0 first_sized state is

  stands_then : Stands d g clusters x
  stands_then = subst (λ (y : Content). Stands y g clusters x) content leads.stands

  draft : DraftIn c g clusters v (put_bodies edit.0 []) x gives_none
  draft =
      goes_on c g clusters v v x [] edit.0 gives_none gives_none k.sized k.eight k.stands (begins_empty c g clusters v k.sized k.stands)
      (data_is_made.goes_on c v first g clusters v n r p q one edit.0 gives_none first_sized state is (λ kind y given. absurd (none_given kind given)))

  all_content : content_with c (put_bodies edit.0 []) ≡ d
  all_content = contents_put c [] edit.0 k.sized (record { whole = tt; own = tt }) is.put.puts.whole ∙ content

  -- ---- the tree

  follows : Follows first v n a d q (with_own d v q a)
  follows = files_are.data_follows first d v n r q a file (subst (λ (y : Content). TreeFollows first y v n r q) content (data_is_made.data_alone first g clusters v n r p q one edit.0 first_sized state is))

  as_was : with_own d v q a ≡ a
  as_was = as_it_was first d v n r q a (counted.holds r k.none) none_there (files_are.itself first v n r a file)

  file_then : IsChangeable d x n q a
  file_then = subst (λ (b : Node). IsChangeable d x n q b) as_was follows.file

  node : NodeBecomes n a a (tree_of c v) (tree_of d x)
  node = subst (λ (y : Content). NodeBecomes n a a (tree_of y v) (tree_of d x)) start (subst (λ (b : Node). NodeBecomes n a b (tree_of first v) (tree_of d x)) as_was follows.tree)

  tree : FileFollows first d v n r q
  tree = subst (λ (y : Content). FileFollows first y v n r q) content (data_is_made.tree first g clusters v n r p q one edit.0 first_sized state is)

  room_same : (tree_of d x).room ≡ (tree_of c v).room
  room_same = tree.room ∙ ap (λ (y : Content). (tree_of y v).room) start

  -- ---- bits and streams

  bits_stay : cluster_bits d x ≡ cluster_bits d v
  unfolding cluster_bits
  bits_stay = (let low = owned.user in ap (λ (o : Option Record). bits_of_bytes (bytes_or d v.per (file_stream data_type [] o)) v.clusters) (elsewhere v n bitmap_file q (λ same. omega (arith, same, low))))

  bits : cluster_bits d x ≡ cluster_bits c v
  bits = bits_stay ∙ ap (λ (y : Content). cluster_bits y v) (sym content) ∙ is.put.marked ∙ ap (λ (y : Content). cluster_bits y v) start

  stands_as : StandsAs v n p q
  stands_as = files_going.made first g clusters v n r p q one edit.0 first_sized state is

  own_runs : (kind : ℕ) (name : List ℕ) → runs_in (stream_of kind name q.attrs) ≡ runs_in (stream_of kind name r.attrs)
  own_runs kind name = ap runs_in (stands_as.streams kind name) ∙ (made_stays first g clusters v n r p q one edit.0 first_sized state is).runs kind name

  runs : (t : StreamKey) → runs_in (stream_at x t) ≡ runs_in (stream_at v t)
  runs t = elim (cases_eq t.file n) [
    | inl same ↦
        ap (λ (m : ℕ). runs_in (file_stream t.kind t.name (file_in x m))) same
        ∙ ap (λ (o : Option Record). runs_in (file_stream t.kind t.name o)) stands_as.own.file
        ∙ own_runs t.kind t.name
        ∙ sym (ap (λ (m : ℕ). runs_in (file_stream t.kind t.name (file_in v m))) same ∙ ap (λ (o : Option Record). runs_in (file_stream t.kind t.name o)) k.file.file)
    | inr other ↦ ap (λ (o : Option Record). runs_in (file_stream t.kind t.name o)) (elsewhere v n t.file q other)
  ]

  streams : AreStreamsOf x s
  streams =
      let low = owned.user in
      record {
        table = k.streams.table;
        mirror = ap (λ (o : Option Record). extents_or (file_stream data_type [] o)) (elsewhere v n mirror_file q (λ same. omega (arith, same, low))) ∙ k.streams.mirror;
        bitmap = record {
          stream = ap (λ (o : Option Record). file_stream data_type [] o) (elsewhere v n bitmap_file q (λ same. omega (arith, same, low))) ∙ k.streams.bitmap.stream;
          lawful = k.streams.bitmap.lawful;
          below = k.streams.bitmap.below;
          lies = k.streams.bitmap.lies;
        };
      }

  pub gets_data : GetsData c g clusters v s n a r
  gets_data = record {
    bodies = put_bodies edit.0 [];
    same = edit.1.0.same;
    content = all_content;
    draft = draft;
    stands = stands_then;
    file = file_then;
    node = node;
    room = room_same;
    bits = bits;
    runs = runs;
    streams = streams;
    count = leads.count;
  }
