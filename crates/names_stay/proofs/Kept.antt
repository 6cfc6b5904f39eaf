-- What comes of a file's record where its data is written or cut keeps the file's names, and its attribute lists.
use Rattle.std.proofs.Common.{◌≡◌, subst, ℕ, Bool, true, false, cond, eqb, List, [], ◌∷◌, ◌++◌, take, drop, map, Option, None, refl, sym, ap, ap₂, ◌∙◌, inl, inr}
use Rattle.std.specs.Prelude.{insert}
use Rattle.std.specs.List.{filter_map, cons_option}
use Rattle.std.proofs.lemmas.Bool.{cases_Bool, eqb-true}
use Rattle.std.proofs.lemmas.List.{take-append-drop}
use Rattle.std.proofs.lemmas.List.Elements.{filter_map-append}
use Rattle.host_base.specs.declared.file_ref.FileRef.{FileRef}
use Rattle.disk_model.specs.Content.{Content}
use Rattle.record_model.specs.declared.attribute.OwnForm.{OwnForm}
use Rattle.record_model.specs.declared.attribute.OwnForm.TheVariants.{Resident, Mapped}
use Rattle.record_model.specs.declared.attribute.Attr.{Attr}
use Rattle.record_model.specs.Constants.{file_name, data_type, standard_information}
use Rattle.record_model.specs.Records.{Record}
use Rattle.written_values.specs.record_writer.Normal.{normal, normal_form}
use Rattle.file_tree.specs.declared.link.Link.{Link}
use Rattle.file_tree.specs.declared.node.Node.{Node}
use Rattle.state_model.specs.declared.stream.Extents.{Extents}
use Rattle.state_model.specs.Files.{form_link, attr_link, record_links, reference, has_type}
use Rattle.state_model.specs.Streams.{is_attribute_of, attributes_of}
use Rattle.tree_model.specs.declared.script.Op.{Op}
use Rattle.tree_model.specs.Needs.{shrinks, size_after}
use Rattle.tree_model.specs.Effects.{valid_after, bytes_after}
use Rattle.stream_laws.proofs.Sharing.{attribute_kind}
use Rattle.written_values.specs.plan_model.Informed.{is_info}
use Rattle.plan_draft.specs.declared.touched.Touched.{Touched}
use Rattle.written_values.specs.record_streams.Placing.{without_stream, with_stream, placed_attr, placed_first, placed_record}
use Rattle.written_values.proofs.record_streams.Streams.{first_passes}
use Rattle.written_values.specs.record_values.Values.{valued_attr, valued_first, valued_record}
use Rattle.written_values.specs.record_times.Times.{timed_attr, timed_attrs, place_of_type, new_id as new_info_id, new_info, with_next_id as with_info_id, timed_record}
use Rattle.written_values.specs.draft_records.Records.{written_record}
use Rattle.written_values.specs.resized_streams.declared.resized.Resized.{Resized}
use Rattle.written_values.specs.resized_streams.Resizing.{unplaced, lengthened, shortened, with_sizes}
use Rattle.written_values.specs.step_model.Placing.{Growth}
use Rattle.made_data.specs.Ids.{place_of, new_id, with_id}
use Rattle.made_data.specs.Made.{has_data, empty_data, with_empty_data, made_record, record_with_data}
use Rattle.made_data.specs.data_plan.declared.change.DataChange.{DataChange}
use Rattle.made_data.specs.data_plan.declared.change.DataChange.TheVariants as change
use Rattle.made_data.specs.data_plan.Changes.{IsChange}
use Rattle.written_values.specs.file_puts.declared.streams.VolumeStreams.{VolumeStreams}
use Rattle.written_values.specs.file_puts.Puts.{with_bytes, PutsFileRecord, PutsTimes, PutsSizes, PutsSized, PutsChange}
use Rattle.names_stay.specs.Lists.{lists_of}
use Rattle.names_stay.proofs.Counted.{of_other, timed, with_data as data_lists, inserted as inserted_lists, each_normal as normal_lists}

-- the second record has the sequence number and the names of the first, and as many attribute lists
pub record KeepsNames (r q : Record) : Type 0 where
  pub seq : q.head.seq ≡ r.head.seq
  pub links : (child : FileRef) → filter_map (attr_link child) q.attrs ≡ filter_map (attr_link child) r.attrs
  pub lists : lists_of q.attrs ≡ lists_of r.attrs

pub kept_links : (n : ℕ) (r q : Record) → KeepsNames r q → record_links n q ≡ record_links n r
unfolding record_links
kept_links n r q k = ap (λ (seq : ℕ). filter_map (attr_link (record { number = n; seq = seq })) q.attrs) k.seq ∙ k.links (reference n r)

itself : (r : Record) → KeepsNames r r
itself r = record { seq = refl; links = λ child. refl; lists = refl }

pub twice : (r q p : Record) → KeepsNames r q → KeepsNames q p → KeepsNames r p
twice r q p first second = record { seq = second.seq ∙ first.seq; links = λ child. second.links child ∙ first.links child; lists = second.lists ∙ first.lists }

-- ---- attributes that are no names

no_link : (child : FileRef) (a : Attr) → eqb a.head.kind file_name ≡ false → attr_link child a ≡ None
unfolding attr_link
no_link child a is = ap (λ (t : Bool). cond t (form_link child a.form) None) is

of_kind : (child : FileRef) (a : Attr) (kind : ℕ) → a.head.kind ≡ kind → eqb kind file_name ≡ false → attr_link child a ≡ None
of_kind child a kind is other = no_link child a (ap (λ (k : ℕ). eqb k file_name) is ∙ other)

data_unnamed : (child : FileRef) (a : Attr) → is_attribute_of data_type [] a ≡ true → attr_link child a ≡ None
data_unnamed child a is = of_kind child a data_type (attribute_kind data_type [] a is).0 refl

without_data : (child : FileRef) (attrs : List Attr) → filter_map (attr_link child) (without_stream data_type [] attrs) ≡ filter_map (attr_link child) attrs
without_data child [] = refl
without_data child (a ∷ attrs) = elim (cases_Bool (is_attribute_of data_type [] a)) [
  | inl is ↦ rw is (without_data child attrs ∙ sym (ap (λ (o : Option Link). cons_option o (filter_map (attr_link child) attrs)) (data_unnamed child a is)))
  | inr is ↦ rw is (ap (cons_option (attr_link child a)) (without_data child attrs))
]

with_data : (child : FileRef) (new : Attr) (attrs : List Attr) → attr_link child new ≡ None → filter_map (attr_link child) (with_stream data_type [] new attrs) ≡ filter_map (attr_link child) attrs
with_data child new [] none = refl
with_data child new (a ∷ attrs) none = elim (cases_Bool (is_attribute_of data_type [] a)) [
  | inl is ↦
      rw is
      (ap (λ (o : Option Link). cons_option o (filter_map (attr_link child) (without_stream data_type [] attrs))) none
      ∙ without_data child attrs
      ∙ sym (ap (λ (o : Option Link). cons_option o (filter_map (attr_link child) attrs)) (data_unnamed child a is)))
  | inr is ↦ rw is (ap (cons_option (attr_link child a)) (with_data child new attrs none))
]

inserted : (child : FileRef) (p : ℕ) (new : Attr) (attrs : List Attr) → attr_link child new ≡ None → filter_map (attr_link child) (insert attrs p new) ≡ filter_map (attr_link child) attrs
inserted child p new attrs none =
    filter_map-append (attr_link child) (take p attrs) (new ∷ drop p attrs)
    ∙ ap (λ (o : Option Link). filter_map (attr_link child) (take p attrs) ++ cons_option o (filter_map (attr_link child) (drop p attrs))) none
    ∙ sym (filter_map-append (attr_link child) (take p attrs) (drop p attrs))
    ∙ ap (filter_map (attr_link child)) (take-append-drop p attrs)

-- ---- a record as it is written

form_normal : (child : FileRef) (form : OwnForm) → form_link child (normal_form form) ≡ form_link child form
form_normal child (Resident value indexed) = refl
form_normal child (Mapped sizes pairs) = refl

normal_link : (child : FileRef) (a : Attr) → attr_link child (normal a) ≡ attr_link child a
unfolding attr_link
normal_link child a = ap (λ (o : Option Link). cond (eqb a.head.kind file_name) o None) (form_normal child a.form)

each_normal : (child : FileRef) (attrs : List Attr) → filter_map (attr_link child) (map normal attrs) ≡ filter_map (attr_link child) attrs
each_normal child [] = refl
each_normal child (a ∷ attrs) = ap₂ (λ (o : Option Link) (l : List Link). cons_option o l) (normal_link child a) (each_normal child attrs)

pub written_kept : (r : Record) → KeepsNames r (written_record r)
written_kept r = record { seq = refl; links = λ child. each_normal child r.attrs; lists = normal_lists r.attrs }

-- ---- its data

placed_by : (per : ℕ) (e : Extents) (r : Record) (pieces : List Attr) → attributes_of data_type [] r.attrs ≡ pieces → KeepsNames r (placed_first per data_type [] e r pieces)
placed_by per e r [] is = itself r
placed_by per e r (a ∷ others) is = record { seq = refl; links = λ child. with_data child (placed_attr per e a) r.attrs (of_kind child (placed_attr per e a) data_type (attribute_kind data_type [] a (first_passes data_type [] r.attrs a others is)).0 refl); lists = data_lists (placed_attr per e a) r.attrs (of_other (placed_attr per e a) data_type (attribute_kind data_type [] a (first_passes data_type [] r.attrs a others is)).0 refl) }

placed_kept : (per : ℕ) (e : Extents) (r : Record) → KeepsNames r (placed_record per data_type [] e r)
placed_kept per e r = placed_by per e r (attributes_of data_type [] r.attrs) refl

valued_by : (value : List ℕ) (r : Record) (pieces : List Attr) → attributes_of data_type [] r.attrs ≡ pieces → KeepsNames r (valued_first data_type [] value r pieces)
valued_by value r [] is = itself r
valued_by value r (a ∷ others) is = record { seq = refl; links = λ child. with_data child (valued_attr value a) r.attrs (of_kind child (valued_attr value a) data_type (attribute_kind data_type [] a (first_passes data_type [] r.attrs a others is)).0 refl); lists = data_lists (valued_attr value a) r.attrs (of_other (valued_attr value a) data_type (attribute_kind data_type [] a (first_passes data_type [] r.attrs a others is)).0 refl) }

valued_kept : (value : List ℕ) (r : Record) → KeepsNames r (valued_record data_type [] value r)
valued_kept value r = valued_by value r (attributes_of data_type [] r.attrs) refl

made_kept : (r : Record) → KeepsNames r (made_record r)
made_kept r =
    twice r (with_empty_data r) (made_record r) (record { seq = refl; links = λ child. inserted child (place_of data_type [] r.attrs) (with_id (new_id r) (empty_data 0)) r.attrs (of_kind child (with_id (new_id r) (empty_data 0)) data_type refl refl); lists = inserted_lists (place_of data_type [] r.attrs) (with_id (new_id r) (empty_data 0)) r.attrs (of_other (with_id (new_id r) (empty_data 0)) data_type refl refl) }) (written_kept (with_empty_data r))

-- the record by which a file is written keeps its names
pub by_kept : (r : Record) → KeepsNames r (record_with_data r)
by_kept r = chosen (has_data r)
  where
    chosen : (t : Bool) → KeepsNames r (cond t r (made_record r))
    chosen true = itself r
    chosen false = made_kept r

-- ---- its times

timed_links : (child : FileRef) (stamp : ℕ) (attrs : List Attr) → filter_map (attr_link child) (timed_attrs stamp attrs) ≡ filter_map (attr_link child) attrs
timed_links child stamp [] = refl
timed_links child stamp (a ∷ attrs) = elim (cases_Bool (is_info a)) [
  | inl is ↦
      (let kind : a.head.kind ≡ standard_information = eqb-true a.head.kind standard_information is in
      rw is (ap (λ (o : Option Link). cons_option o (filter_map (attr_link child) attrs)) (of_kind child (timed_attr stamp a) standard_information kind refl ∙ sym (of_kind child a standard_information kind refl))))
  | inr is ↦ rw is (ap (cons_option (attr_link child a)) (timed_links child stamp attrs))
]

timed_kept : (stamp : ℕ) (r : Record) → KeepsNames r (timed_record stamp r)
timed_kept stamp r = chosen (has_type standard_information r)
  where
    chosen : (t : Bool)
        → KeepsNames r (cond t (record { head = r.head; attrs = timed_attrs stamp r.attrs }) (record { head = with_info_id r.head; attrs = insert r.attrs (place_of_type standard_information r.attrs) (new_info (new_info_id r) stamp) }))
    chosen true = record { seq = refl; links = λ child. timed_links child stamp r.attrs; lists = timed stamp r.attrs }
    chosen false = record { seq = refl; links = λ child. inserted child (place_of_type standard_information r.attrs) (new_info (new_info_id r) stamp) r.attrs (of_kind child (new_info (new_info_id r) stamp) standard_information refl refl); lists = inserted_lists (place_of_type standard_information r.attrs) (new_info (new_info_id r) stamp) r.attrs (of_other (new_info (new_info_id r) stamp) standard_information refl refl) }

-- ---- what is put last

-- the record that a draft has put last keeps the names of this one
pub record LastPut (c : Content) (s : VolumeStreams) (n : ℕ) (r : Record) (new : List Touched) : Type 0 where
  pub last : Record
  pub before : List Touched
  pub put : PutsFileRecord c s n last before new
  pub keeps : KeepsNames r last

resized_kept : (r : Record) (e : Extents) (z : Resized) → z.file ≡ placed_record 8 data_type [] e r → KeepsNames r (written_record z.file)
resized_kept r e z is = subst (λ (q : Record). KeepsNames r (written_record q)) (sym is) (twice r (placed_record 8 data_type [] e r) (written_record (placed_record 8 data_type [] e r)) (placed_kept 8 e r) (written_kept (placed_record 8 data_type [] e r)))

module _ (c : Content) (s : VolumeStreams) (n : ℕ) (op : Op) (a : Node) (stamp : ℕ) (r : Record) where
  times_last : (q : Record) (old new : List Touched) → KeepsNames r q → PutsTimes c s n stamp q old new → LastPut c s n r new
  times_last q old new keeps put = record { last = timed_record stamp q; before = old; put = put; keeps = twice r q (timed_record stamp q) keeps (timed_kept stamp q) }

  sizes_last : (q : Record) (e : Extents) (old new : List Touched) → KeepsNames r q → PutsSizes c s n op a stamp e q old new → LastPut c s n r new
  sizes_last q e old new keeps put = times_last (written_record put.z.file) put.far new (twice r q (written_record put.z.file) keeps (resized_kept q (with_sizes (size_after op a) (valid_after op a) e) put.z put.sized.file)) put.times

  sized_last : (g : Growth) (t : Bool) (z : Resized) → IsChange g r op a (change.Sized z) → (old new : List Touched) → PutsSized t c s n op a stamp r z old new → LastPut c s n r new
  sized_last g true z is old new put = times_last (written_record z.file) put.mid new (resized_kept r (with_sizes (size_after op a) (valid_after op a) is.e) z is.sized.file) put.times
  sized_last g false z is old new put = sizes_last r put.e old new (itself r) put.sizes

  pub change_last : (g : Growth) (x : DataChange) → IsChange g r op a x → (old new : List Touched) → PutsChange c s n op a stamp r x old new → LastPut c s n r new
  change_last g (change.Stays size) is old new put = (let value : List ℕ = bytes_after op (with_bytes put.value a) in times_last (valued_record data_type [] value r) old new (valued_kept value r) put.put)
  change_last g (change.Leaves z) is old new put = times_last (written_record z.file) put.mid new (resized_kept r (lengthened 8 g.runs (unplaced (size_after op a))) z is.grown.file) put.times
  change_last g (change.Grows z) is old new put = sizes_last (written_record z.file) z.extents put.mid new (resized_kept r (lengthened 8 g.runs is.e) z is.grown.file) put.sizes
  change_last g (change.Cut z) is old new put = times_last (written_record z.file) put.mid new (resized_kept r (shortened 8 (size_after op a) is.e) z is.cut.file) put.times
  change_last g (change.Sized z) is old new put = sized_last g (shrinks op a) z is old new put
