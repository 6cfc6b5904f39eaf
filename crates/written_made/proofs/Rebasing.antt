-- What an operation has written over the content with a file's first edit, it has written over the content without it.
use Rattle.std.proofs.Common.{◌≡◌, ℕ, ◌/◌, ◌≤◌, Bool, true, false, ◌&&◌, ◌||◌, cond, eqb, nat_eq, ltb, List, [], ◌∷◌, Option, Some, None, refl, sym, ap, ap₂, subst, ◌∙◌, inl, inr, arith}
use Rattle.std.specs.List.{AllByRecursion, list_any}
use Rattle.std.specs.List.Sorted.{IsPermutation}
use Rattle.std.specs.Option.{option_or}
use Rattle.std.specs.Cmp.Lexicographic.{pointwise}
use Rattle.std.proofs.lemmas.Bool.{cases_eq, le-ltb, ne_eqb, or_left, or_right, eq-eqb}
use Rattle.host_base.specs.declared.file_ref.FileRef.{FileRef}
use Rattle.disk_model.specs.declared.block.Block.{Block}
use Rattle.disk_model.specs.declared.block.BlockKind.TheVariants.{FileRec}
use Rattle.disk_model.specs.Sectors.{overlap}
use Rattle.disk_model.specs.Content.{Content, HasSizes}
use Rattle.record_model.specs.declared.runs.Run.{Run}
use Rattle.record_model.specs.Constants.{data_type}
use Rattle.record_model.specs.Records.{Record, record_spelling}
use Rattle.bit_set.specs.Bits.{bit}
use Rattle.file_tree.specs.declared.link.Link.{Link}
use Rattle.file_tree.specs.declared.node.Node.{Node}
use Rattle.file_tree.specs.declared.tree.Tree.{Tree}
use Rattle.file_tree.specs.Trees.{node_at as node_by_number}
use Rattle.file_tree.specs.Walks.{first_user_record}
use Rattle.state_model.specs.declared.geometry.Geometry.{Geometry}
use Rattle.state_model.specs.declared.stream.Extents.{Extents}
use Rattle.state_model.specs.Streams.{block_at}
use Rattle.volume_model.specs.Volumes.{Volume, cluster_bits, table_file, mirror_file, bitmap_file}
use Rattle.volume_model.specs.Owners.{uses}
use Rattle.file_changes.specs.volume_state.Trees.{tree_of}
use Rattle.file_changes.specs.stream_laws.Owners.{stream_kind}
use Rattle.file_changes.specs.stream_laws.Sharing.{StreamKey}
use Rattle.file_changes.specs.stream_laws.Tables.{table_key}
use Rattle.file_changes.proofs.stream_laws.Tabling.{table_runs}
use Rattle.tree_model.specs.declared.script.Op.{Op}
use Rattle.tree_model.specs.Needs.{changes_file, needed}
use Rattle.tree_model.specs.Effects.{ref_at, file_after, HasChanged}
use Rattle.tree_model.proofs.FileNeeds.{needs_of_change}
use Rattle.file_changes.specs.plan_owners.States.{Stands}
use Rattle.file_changes.proofs.plan_owners.Standing.{begins}
use Rattle.plan_bodies.specs.Bodies.{NewBody, content_with, body_in, put_bodies}
use Rattle.plan_bodies.proofs.Putting.{either}
use Rattle.plan_draft.specs.declared.touched.Touched.{Touched}
use Rattle.plan_draft.specs.Touching.{bodies_of}
use Rattle.plan_draft.specs.Drafts.{drafted}
use Rattle.plan_draft.specs.Same.{PutSame}
use Rattle.plan_draft.proofs.Touching.{are_bodies}
use Rattle.file_changes.specs.plan_model.Drafts.{FollowsOwners, DraftIn}
use Rattle.file_changes.specs.plan_model.Edits.{IsOwnedIn}
use Rattle.file_changes.proofs.plan_model.Drafting.{per_is}
use Rattle.file_changes.specs.plan_changes.Nodes.{NodeBecomes}
use Rattle.file_changes.specs.draft_bits.Effects.{IsKept}
use Rattle.file_changes.specs.draft_records.Records.{record_block, is_past, has_mirror, touch_if}
use Rattle.file_changes.specs.step_model.Placing.{Growth, AllPlaced}
use Rattle.file_changes.specs.step_model.Streams.{data_of}
use Rattle.file_changes.specs.step_model.Contents.{same_key, is_among, is_touched, touched_streams, HasGrown, MayDiffer, IsLeft}
use Rattle.file_changes.proofs.step_model.Leaving.{contents_left}
use Rattle.made_data.specs.Made.{made_record}
use Rattle.file_changes.specs.file_puts.declared.streams.VolumeStreams.{VolumeStreams}
use Rattle.file_changes.specs.file_puts.Written.{HasWritten}
use Rattle.written_made.proofs.Alike.{AreAlike, same_drafted}
use Rattle.written_made.proofs.Joining.{joined, joined_content}
use Rattle.written_made.proofs.Making.{touch_made, with_made, made_volume, GetsData}

-- ---- the tree

same_nodes : (n m : ℕ) (a : Node) (t u : Tree) → NodeBecomes n a a t u → node_by_number u.nodes m ≡ node_by_number t.nodes m
same_nodes n m a t u same = elim (cases_eq m n) [
  | inl is ↦ ap (node_by_number u.nodes) is ∙ same.is ∙ sym (ap (node_by_number t.nodes) is ∙ same.was)
  | inr other ↦ same.others m other
]

-- where a node became itself, what the tree behind that became the one before has become
changed_too : (n stamp most : ℕ) (op : Op) (a : Node) (t u w : Tree) → NodeBecomes n a a t u → u.room ≡ t.room → HasChanged u most op a stamp w → HasChanged t most op a stamp w
changed_too n stamp most op a t u w same room is =
    let now : Node = file_after is.stands op a stamp in
    let least = is.after.room in
    record {
      stands = is.stands;
      may_stand = is.may_stand;
      after = record {
        node = λ m. is.after.node m ∙ ap (λ (o : Option Node). cond (eqb m now.number) (Some now) o) (same_nodes n m a t u same);
        spare = λ m. is.after.spare m ∙ ap (λ (l : List FileRef). ref_at l m) same.spare;
        links = subst (λ (l : List Link). IsPermutation l w.links) same.links is.after.links;
        count = is.after.count ∙ same.count;
        journal = is.after.journal ∙ same.journal;
        room = omega (arith, least, room);
      };
    }

-- ---- the bodies

none_or : (o p q : Option (List ℕ)) → q ≡ o → (o ≡ None → p ≡ None) → option_or q p ≡ o
none_or None p q same none = ap (λ (y : Option (List ℕ)). option_or y p) same ∙ none refl
none_or (Some bytes) p q same none = ap (λ (y : Option (List ℕ)). option_or y p) same

-- ---- the record's block

module _ (P : Block → Type 0) (c : Content) (first second : Option Block) (fresh fresh_second : Bool) (bytes : List ℕ) (each : (b : Block) → first ≡ Some b → P b) where
  one_each : (o : Option Block) → first ≡ o → AllByRecursion (λ p. P p.block) (bodies_of (touch_if c o fresh bytes []))
  one_each None is = tt
  one_each (Some b) is = (each b is, tt)

  all_each : (t : Bool) → t ≡ false → AllByRecursion (λ p. P p.block) (bodies_of (cond t (touch_if c second fresh_second bytes (touch_if c first fresh bytes [])) (touch_if c first fresh bytes [])))
  all_each true is = absurd cc
  all_each false is = one_each first refl

own_touched : (n : ℕ) → is_touched (n ∷ []) n ≡ true
own_touched n = or_right (eqb n table_file || eqb n mirror_file || eqb n bitmap_file) (list_any (λ (m : ℕ). eqb n m) (n ∷ [])) (or_left (eqb n n) false (eq-eqb n n refl))

no_mirror : (mirror : Extents) (n : ℕ) → first_user_record ≤ n → has_mirror mirror n ≡ false
no_mirror mirror n low = ap (λ (t : Bool). t && ltb n (mirror.real / 1024)) (le-ltb n 4 (omega (arith, low)))

-- the file table isn't the data of a user's file
table_apart : (n : ℕ) (growth : Growth) → first_user_record ≤ n → growth.stream ≡ data_of n → is_among (growth ∷ []) table_key ≡ false
table_apart n growth low stream =
    ap (λ (t : StreamKey). same_key t table_key || false) stream
    ∙ ap (λ (t : Bool). (t && eqb data_type data_type && pointwise nat_eq [] []) || false) (ne_eqb n table_file (λ same. omega (arith, same, low)))

-- ---- all of it

module _ (c : Content) (g : Geometry) (clusters : ℕ) (v : Volume) (s : VolumeStreams) (op : Op) (n stamp : ℕ) (a : Node) (r : Record) (growth : Growth) (new more : List Touched) (sized : HasSizes c) (eight : g.per_cluster ≡ 8) (state : Stands c g clusters v) (table : s.table ≡ v.table)
    (journal : (tree_of c v).journal ≡ None) (changes : changes_file op a ≡ true) (user : first_user_record ≤ n) (stream : growth.stream ≡ data_of n) (kept : IsKept (touch_made c s n r)) (gets : GetsData c g clusters v s n a r) (alike : AreAlike (bodies_of (touch_made c s n r)) new more)
    (is : HasWritten (with_made c s n r) g clusters (made_volume v n r) op n stamp a growth more) where
  abbrev d : Content
  d = with_made c s n r

  abbrev x : Volume
  x = made_volume v n r

  abbrev w : Volume
  w = is.after

  abbrev all : List NewBody
  all = put_bodies is.bodies gets.bodies

  same_then : drafted more d ≡ drafted new c
  same_then = same_drafted c (bodies_of (touch_made c s n r)) sized (are_bodies (touch_made c s n r) kept.rises kept.whole) new more alike

  draft : DraftIn c g clusters v all w is.gave
  draft = joined c d g clusters v x w gets.bodies is.bodies is.gave sized state gets.draft gets.content gets.bits is.draft

  content : content_with c all ≡ drafted new c
  content = joined_content c d g clusters v x w gets.bodies is.bodies is.gave sized state gets.draft gets.content gets.bits is.draft ∙ is.content ∙ same_then

  same : PutSame (bodies_of new) all
  same b =
      let now : body_in is.bodies b ≡ body_in (bodies_of new) b = sym (is.same b) ∙ ap (λ (l : List NewBody). body_in l b) alike.bodies in
      sym
      (either gets.bodies is.bodies b is.draft.whole.own
      ∙ none_or (body_in (bodies_of new) b) (body_in gets.bodies b) (body_in is.bodies b) now (λ none. sym (gets.same b) ∙ alike.covers b none))

  tree : HasChanged (tree_of c v) (needed (tree_of c v) 0 op a) op a stamp (tree_of (drafted new c) w)
  tree =
      subst (λ (y : Content). HasChanged (tree_of c v) (needed (tree_of c v) 0 op a) op a stamp (tree_of y w)) same_then
      (subst (λ (m : ℕ). HasChanged (tree_of c v) m op a stamp (tree_of (drafted more d) w)) (needs_of_change (tree_of d x) op a (gets.node.journal ∙ journal) changes ∙ sym (needs_of_change (tree_of c v) op a journal changes))
      (changed_too n stamp (needed (tree_of d x) 0 op a) op a (tree_of c v) (tree_of d x) (tree_of (drafted more d) w) gets.node gets.room is.tree))

  -- ---- what is left

  table_now : w.table.runs ≡ s.table.runs
  table_now =
      sym (table_runs (content_with d is.bodies) g clusters w (begins (content_with d is.bodies) g clusters w is.draft.stands))
      ∙ is.left.others table_key (table_apart n growth user stream)
      ∙ gets.runs table_key
      ∙ table_runs c g clusters v (begins c g clusters v state)
      ∙ ap (λ (e : Extents). e.runs) (sym table)

  record_differs : (b : Block) → record_block 8 s.table n ≡ Some b → MayDiffer (n ∷ []) v w b
  record_differs b lies =
      inl
      (record {
        number = n;
        touched = inl (own_touched n);
        place = ap₂ (λ (per : ℕ) (l : List Run). block_at per l FileRec n) (per_is (content_with d is.bodies) g clusters w eight is.draft.stands) table_now ∙ lies;
      })

  each : AllByRecursion (λ p. MayDiffer (n ∷ []) v w p.block) (bodies_of (touch_made c s n r))
  each =
      all_each (MayDiffer (n ∷ []) v w) c (record_block 8 s.table n) (record_block 8 s.mirror n) (is_past s.table n) (is_past s.mirror n) (record_spelling (made_record r)) record_differs (has_mirror s.mirror n)
      (no_mirror s.mirror n user)

  owned_before : (b : Block) → IsOwnedIn (touched_streams (n ∷ [])) x b → IsOwnedIn (touched_streams (n ∷ [])) v b
  owned_before b own = record {
    stream = own.stream;
    chosen = own.chosen;
    number = own.number;
    lies = ap (λ (l : List Run). block_at v.per l (stream_kind own.stream) own.number) (sym (gets.runs own.stream)) ∙ own.lies;
  }

  may_differ : (b : Block) → MayDiffer (n ∷ []) x w b → MayDiffer (n ∷ []) v w b
  may_differ b (inl its) =
      inl
      (record {
        number = its.number;
        touched = elim its.touched [
          | inl own ↦ inl own
          | inr new ↦ inr (subst (λ (m : ℕ). m ≤ its.number) gets.count new.0, new.1)
        ];
        place = its.place;
      })
  may_differ b (inr (inl own)) = inr (inl (owned_before b own))
  may_differ b (inr (inr own)) = inr (inr own)

  stays : (b : Block) → ((y : Block) → MayDiffer (n ∷ []) v w y → overlap b y ≡ false) → drafted new c b ≡ c b
  stays b apart =
      ap (λ (y : Content). y b) (sym same_then)
      ∙ is.left.stays b (λ y may. apart y (may_differ y may))
      ∙ contents_left.stays c v w (n ∷ []) (bodies_of (touch_made c s n r)) sized (are_bodies (touch_made c s n r) kept.rises kept.whole) each b apart

  left : IsLeft c v clusters (n ∷ []) (growth ∷ []) (drafted new c) w
  left =
      let grown : HasGrown x w growth = is.left.grown.0 in
      record {
        placed = subst (λ (l : List Bool). AllPlaced l (growth ∷ [])) gets.bits is.left.placed;
        grown = (record { stands = grown.stands; old = grown.old ∙ gets.runs growth.stream; runs = grown.runs }, tt);
        others = λ t none. is.left.others t none ∙ gets.runs t;
        bits = subst (λ (y : Content). FollowsOwners clusters (cluster_bits c v) (cluster_bits y w) v.files w.files) content draft.marks;
        takes = λ t y more. (let was = ap (λ (l : List Run). uses l y) (gets.runs t) in sym (ap (λ (l : List Bool). bit l y) gets.bits) ∙ is.left.takes t y (omega (arith, was, more)));
        stays = stays;
      }

  pub written_before : HasWritten c g clusters v op n stamp a growth new
  written_before = record { after = w; gave = is.gave; bodies = all; same = same; content = content; draft = draft; tree = tree; left = left }
