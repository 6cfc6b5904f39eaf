-- A write, or a greater size, of a file whose data stands in clusters.
use Rattle.std.proofs.Common.{◌≡◌, ℕ, ◌+◌, ◌<◌, ◌≤◌, max, false, List, [], length, Option, Some, sym, ap, subst, ◌∙◌, arith}
use Rattle.disk_model.specs.Content.{Content, HasSizes as HasBlockSizes}
use Rattle.plan_informed.specs.record_model.Constants.{data_type}
use Rattle.plan_informed.specs.record_model.Records.{Record}
use Rattle.tree_model.specs.file_tree.declared.node.Node.{Node}
use Rattle.tree_model.specs.file_tree.declared.tree.Tree.{Tree}
use Rattle.bit_set.specs.Bits.{bit}
use Rattle.plan_informed.specs.state_model.declared.geometry.Geometry.{Geometry}
use Rattle.plan_informed.specs.state_model.declared.stream.Extents.{Extents}
use Rattle.plan_informed.specs.state_model.declared.stream.Stream.{Stream}
use Rattle.plan_informed.specs.state_model.declared.stream.Stream.TheVariants.{Placed}
use Rattle.plan_informed.specs.state_model.Files.{info_of}
use Rattle.plan_informed.specs.state_model.Loads.{total_clusters}
use Rattle.plan_informed.specs.volume_model.Volumes.{Volume, file_stream, bytes_or, cluster_bits}
use Rattle.plan_informed.specs.volume_state.Trees.{tree_of}
use Rattle.tree_model.specs.declared.script.Op.{Op}
use Rattle.tree_model.specs.Needs.{size_after}
use Rattle.tree_model.specs.Effects.{valid_after, bytes_after, HasChanged}
use Rattle.plan_informed.proofs.stream_laws.Changing.{length-extent_bytes}
use Rattle.plan_informed.specs.plan_owners.States.{Stands}
use Rattle.plan_informed.specs.plan_bodies.Bodies.{NewBody}
use Rattle.plan_informed.proofs.plan_bodies.Putting.{sized_with}
use Rattle.plan_informed.specs.plan_draft.declared.touched.Touched.{Touched}
use Rattle.plan_informed.specs.plan_draft.Touching.{bodies_of}
use Rattle.plan_informed.specs.plan_draft.Drafts.{drafted}
use Rattle.plan_informed.specs.plan_model.Informed.{with_info, with_record, InfoDiffers}
use Rattle.plan_informed.specs.draft_records.Records.{written_record}
use Rattle.plan_informed.specs.resized_streams.declared.resized.Resized.{Resized}
use Rattle.plan_informed.specs.plan_growth.Sizing.{SizesStream}
use Rattle.plan_informed.specs.plan_growth.Trees.{with_data, TreeFollows}
use Rattle.plan_informed.proofs.plan_growth.Ruled.{stream_fits, sizes_lawful}
use Rattle.plan_informed.proofs.plan_growth.Sizing.{sized_leads, sized_tree}
use Rattle.plan_informed.specs.plan_values.Values.{IsOwnFile, WritesValues}
use Rattle.plan_informed.proofs.plan_values.Valued.{values_written}
use Rattle.plan_informed.specs.plan_edits.Moves.{EditsDraft}
use Rattle.plan_informed.specs.plan_edits.Sizes.{put_over}
use Rattle.plan_informed.proofs.plan_edits.Sizing.{sized_edit}
use Rattle.plan_informed.proofs.Informed.{values_edit}
use Rattle.plan_changes.specs.Bytes.{place_of, put_of, HasSizes}
use Rattle.plan_changes.specs.Changes.{IsDataAfter}
use Rattle.plan_changes.specs.Files.{own_data, with_own, Follows}
use Rattle.plan_changes.specs.Going.{GoesOnIn}
use Rattle.plan_changes.specs.Nodes.{NodeBecomes}
use Rattle.plan_changes.specs.Writes.{sized_volume, WritesInClusters, WrittenInClusters}
use Rattle.plan_changes.proofs.Becoming.{nodes_are}
use Rattle.plan_changes.proofs.Bringing.{bytes_come}
use Rattle.plan_changes.proofs.Changing.{changes_done}
use Rattle.plan_changes.proofs.Falling.{rooms_are}
use Rattle.plan_changes.proofs.Going.{files_going}
use Rattle.plan_changes.proofs.Showing.{files_are}

module _ (c : Content) (g : Geometry) (clusters : ℕ) (v : Volume) (mirror : Extents) (op : Op) (n stamp most : ℕ) (a : Node) (t : Tree) (e : Extents) (r : Record) (z : Resized) (fresh : ℕ) (p : Record) (old mid new : List Touched) (eight : g.per_cluster ≡ 8) (state : Stands (drafted old c) g clusters v)
    (k : WritesInClusters c v mirror op n stamp most a t e r z fresh p old mid new) where
  abbrev first : Content
  first = drafted old c

  abbrev behind : Content
  behind = drafted mid c

  abbrev last : Content
  last = drafted new c

  abbrev s : Record
  s = written_record z.file

  abbrev w : Volume
  w = sized_volume v n z

  abbrev u : Volume
  u = with_record w n (written_record p)

  sized_of : (touched : List Touched) → HasBlockSizes (drafted touched c)
  sized_of touched = sized_with c (bodies_of touched) k.put.file.sized

  -- ---- the sizes and the bytes

  edit : (bodies : List NewBody) × (EditsDraft c old mid bodies × SizesStream first v n data_type [] e r (size_after op a) (valid_after op a) z s bodies)
  edit = sized_edit.edit c g clusters v mirror n data_type [] e r (size_after op a) (valid_after op a) z fresh (place_of op a) (put_of op a) old mid state k.sizes k.put

  state_then : Stands behind g clusters w
  state_then = subst (λ (x : Content). Stands x g clusters w) edit.1.0.content (sized_leads first g clusters v n data_type [] e r (size_after op a) (valid_after op a) z s edit.0 (sized_of old) eight state edit.1.1).stands

  tree_then : TreeFollows first behind v n r s
  tree_then = subst (λ (x : Content). TreeFollows first x v n r s) edit.1.0.content (sized_tree first g clusters v n data_type [] e r (size_after op a) (valid_after op a) z s edit.0 (sized_of old) eight state edit.1.1 k.whole)

  goes : GoesOnIn v n data_type [] r s (Placed z.extents)
  goes = files_going.sized first g clusters v n data_type [] e r (size_after op a) (valid_after op a) z s edit.0 state edit.1.1

  follows : Follows first v n (with_own first v r a) behind s (with_own behind v s (with_own first v r a))
  follows = files_are.data_follows first behind v n r s (with_own first v r a) k.file tree_then

  -- ---- the bytes

  was : own_data r ≡ Some (Placed e)
  was = k.sizes.own.stream

  sizes : HasSizes a
  sizes = record { all = ap length (sym k.bytes) ∙ ap (λ (o : Option Stream). length (bytes_or first v.per o)) was ∙ length-extent_bytes first v.per e ∙ k.size; valid = within }
    where
      lawful : e.initialised ≤ e.real
      lawful = (sizes_lawful v.per v.clusters e (stream_fits first g clusters v n data_type [] r (Placed e) state k.sizes.own)).0

      within : a.valid ≤ a.size
      within = subst (λ (x : ℕ). x ≤ a.size) k.valid (subst (λ (x : ℕ). e.initialised ≤ x) k.size lawful)

  valid_is : valid_after op a ≡ max e.initialised (place_of op a + length (put_of op a))
  valid_is = bytes_come.valid op a sizes k.grows ∙ ap (λ (x : ℕ). max x (place_of op a + length (put_of op a))) (sym k.valid)

  size_is : size_after op a ≡ max e.real (place_of op a + length (put_of op a))
  size_is = bytes_come.size op a sizes k.grows ∙ ap (λ (x : ℕ). max x (place_of op a + length (put_of op a))) (sym k.size)

  reads : bytes_or behind v.per (own_data s) ≡ bytes_after op a
  reads =
      sym (ap (λ (o : Option Record). bytes_or behind v.per (file_stream data_type [] o)) follows.file.file)
      ∙ sized_edit.bytes c g clusters v mirror n data_type [] e r (size_after op a) (valid_after op a) z fresh (place_of op a) (put_of op a) old mid eight state k.sizes k.put k.whole k.no_fresh valid_is size_is
      ∙ ap (λ (o : Option Record). put_over (place_of op a) (put_of op a) (bytes_or first v.per (file_stream data_type [] o))) k.file.file
      ∙ ap (put_over (place_of op a) (put_of op a)) k.bytes
      ∙ bytes_come.bytes op a sizes k.grows

  -- ---- the times

  own : IsOwnFile w n s
  own = record { file = goes.own.file; apart = goes.own.apart; no_list = goes.own.no_list }

  times : (bodies : List NewBody) × (EditsDraft c mid new bodies × WritesValues behind w n s p (written_record p) bodies)
  times = values_edit.times c g clusters w mirror n s p mid new state_then own k.times k.informed

  state_last : Stands last g clusters u
  state_last = subst (λ (x : Content). Stands x g clusters u) times.1.0.content (values_written.leads behind g clusters w n s p (written_record p) times.0 (sized_of mid) state_then times.1.1).stands

  informed : InfoDiffers n (info_of p) (tree_of behind w) (tree_of last u)
  informed = subst (λ (x : Content). InfoDiffers n (info_of p) (tree_of behind w) (tree_of x u)) times.1.0.content (values_written.times_alone behind g clusters w n s p (written_record p) times.0 (sized_of mid) state_then times.1.1 k.times)

  becomes : NodeBecomes n a (with_info (info_of p) (with_data (own_data s) (bytes_or behind v.per (own_data s)) a)) t (tree_of last u)
  becomes =
      let data_is = nodes_are.behind n a (with_own first v r a) (with_own behind v s (with_own first v r a)) t (tree_of first v) (tree_of behind w) k.before follows.tree in
      nodes_are.behind n a (with_own behind v s (with_own first v r a)) (with_info (info_of p) (with_own behind v s (with_own first v r a))) t (tree_of behind w) (tree_of last u) data_is (nodes_are.informed n (info_of p) (with_own behind v s (with_own first v r a)) (tree_of behind w) (tree_of last u) follows.tree.is informed)

  -- ---- what the operation leaves

  after : IsDataAfter false op a (own_data s) (bytes_or behind v.per (own_data s))
  after =
      subst (λ (o : Option Stream). IsDataAfter false op a o (bytes_or behind v.per (own_data s))) (sym goes.own.stream)
      (changes_done.placed op z.extents (bytes_or behind v.per (own_data s)) a k.grows (ap (λ (x : Extents). x.real) k.sizes.sized.extents) (ap (λ (x : Extents). x.initialised) k.sizes.sized.extents)
      (ap (λ (x : Extents). total_clusters x.runs) k.sizes.sized.extents ∙ k.clusters) reads)

  bits : (x : ℕ) → x < v.clusters → bit (cluster_bits first v) x ≡ false → bit (cluster_bits behind v) x ≡ false
  bits x low clear = sym (ap (λ (y : Content). bit (cluster_bits y v) x) edit.1.0.content) ∙ edit.1.1.marked x low ∙ clear

  room : t.room ≤ (tree_of last u).room + most
  room =
      let was_room = k.room in
      let kept = rooms_are.kept first behind v n s goes.own.apart.bitmap bits in
      let same = informed.room in
      omega (arith, was_room, kept, same)

  is_written : Stands last g clusters u × HasChanged t most op a stamp (tree_of last u)
  is_written = (state_last, changes_done.done false op n stamp most (info_of p) (own_data s) (bytes_or behind v.per (own_data s)) a t (tree_of last u) (files_are.shows first v n r (with_own first v r a) k.file).number becomes after k.stamps tt room)

pub written_so : WrittenInClusters
written_so c g clusters v mirror op n stamp most a t e r z fresh p old mid new eight state k = is_written c g clusters v mirror op n stamp most a t e r z fresh p old mid new eight state k
