-- The clusters of an attribute list, as its own record has it, are no other stream's.
use Rattle.std.proofs.Common.{◌≡◌, ◌≢◌, ℕ, ◌+◌, ◌≤◌, true, List, ◌++◌, get_or, Option, Some, None, refl, sym, ap, ◌∙◌, inl, inr, arith}
use Rattle.std.specs.Prelude.{Bool}
use Rattle.std.specs.List.{sum_by, filter, flat_map, range_with_len}
use Rattle.std.proofs.lemmas.Bool.{cases_eq}
use Rattle.std.proofs.lemmas.List.Sums.{sum_by-append}
use Rattle.std.proofs.lemmas.List.Elements.{filter-append}
use Rattle.disk_model.specs.Content.{Content}
use Rattle.record_model.specs.declared.attribute.Attr.{Attr}
use Rattle.record_model.specs.Constants.{attribute_list}
use Rattle.record_model.specs.Records.{Record}
use Rattle.state_model.specs.declared.geometry.Geometry.{Geometry}
use Rattle.state_model.specs.Loads.{record_count, list_stream, named_attrs, entries_of, all_attrs, whole_file}
use Rattle.state_model.specs.Streams.{is_attribute_of, attribute_runs, stream_of}
use Rattle.volume_model.specs.Volumes.{Volume, file_in, file_stream}
use Rattle.volume_model.specs.Owners.{volume_runs, uses}
use Rattle.stream_laws.specs.Sharing.{StreamKey, stream_at, runs_in}
use Rattle.stream_laws.specs.Volumes.{base_record}
use Rattle.stream_laws.proofs.Counting.{one_of_all, two_of_all, filter_of_all, filters_of_all}
use Rattle.stream_laws.proofs.Sharing.{attr_uses, file_uses, uses-flat_map, volume_sum, stream_uses, attribute_kind, stream_of_file, file_weight}
use Rattle.written_values.specs.plan_owners.States.{Stands}
use Rattle.written_values.proofs.plan_owners.Standing.{slots, joined_at, listed_file}
use Rattle.written_values.proofs.plan_owners.Outside.{once}
use Rattle.written_values.proofs.plan_owners.Unnamed.{slot_of_base}

part_uses : (x kind : ℕ) (name : List ℕ) (attrs more all : List Attr) → all ≡ attrs ++ more → uses (runs_in (stream_of kind name attrs)) x ≤ sum_by (attr_uses x) (filter (is_attribute_of kind name) all)
part_uses x kind name attrs more all are =
    let test : Attr → Bool = is_attribute_of kind name in
    let split : sum_by (attr_uses x) (filter test all) ≡ sum_by (attr_uses x) (filter test attrs) + sum_by (attr_uses x) (filter test more) =
    ap (λ (l : List Attr). sum_by (attr_uses x) (filter test l)) are ∙ ap (sum_by (attr_uses x)) (filter-append test attrs more) ∙ sum_by-append (attr_uses x) (filter test attrs) (filter test more)
    in
    omega (arith, stream_uses kind name attrs x, split)

module _ (c : Content) (g : Geometry) (clusters : ℕ) (v : Volume) (state : Stands c g clusters v) (m : ℕ) (r : Record) (base : base_record c v.per v.table m ≡ Some r) where
  -- the file has the attributes of its record, and behind them those that its list names
  whole : (f : Record) × (file_in v m ≡ Some f) × ((more : List Attr) × (f.attrs ≡ r.attrs ++ more))
  unfolding all_attrs
  whole =
      let p = slots c v in
      let slot = slot_of_base c v m r base in
      let f : Record = record { head = r.head; attrs = all_attrs c v.per p (record_count v.table) m r } in
      let there : get_or v.files m None ≡ Some f = joined_at c g clusters v state.loaded m slot.0 ∙ ap (whole_file c v.per p (record_count v.table) m) base in
      (f, listed_file c g clusters v m f state.loaded there, (flat_map (λ k. named_attrs (entries_of c v.per r).entries m r k (p k)) (range_with_len 0 (record_count v.table)), refl))

  abbrev f : Record
  f = whole.0

  abbrev is_file : file_in v m ≡ Some whole.0
  is_file = whole.1

  file_sum : (x : ℕ) → file_uses x (file_in v m) ≡ sum_by (attr_uses x) f.attrs
  file_sum x = ap (file_uses x) is_file ∙ uses-flat_map attribute_runs f.attrs x

  module _ (name : List ℕ) (x : ℕ) where
    mine : uses (runs_in (stream_of attribute_list name r.attrs)) x ≤ sum_by (attr_uses x) (filter (is_attribute_of attribute_list name) f.attrs)
    mine = part_uses x attribute_list name r.attrs whole.2.0 f.attrs whole.2.1

    part : sum_by (attr_uses x) (filter (is_attribute_of attribute_list name) f.attrs) ≤ sum_by (attr_uses x) f.attrs
    part = filter_of_all (attr_uses x) (is_attribute_of attribute_list name) f.attrs

    stream_in_volume : uses (runs_in (stream_of attribute_list name r.attrs)) x ≤ uses (volume_runs v.files) x
    stream_in_volume = (let own = mine in let some = part in let all = file_sum x in omega (arith, own, some, all, file_weight v m x, one_of_all (file_uses x) v.files m, volume_sum v.files x))

    stream_alone : (t : StreamKey) → t.kind ≢ attribute_list → uses (runs_in (stream_of attribute_list name r.attrs)) x + uses (runs_in (stream_at v t)) x ≤ 1
    stream_alone t differ =
        let own = mine in
        let all = file_sum x in
        let most = once c g clusters v state x in
        elim (cases_eq t.file m) [
          | inl same ↦
              (let its : uses (runs_in (stream_at v t)) x ≡ uses (runs_in (stream_of t.kind t.name f.attrs)) x = ap (λ (o : Option Record). uses (runs_in (file_stream t.kind t.name o)) x) (ap (file_in v) same ∙ is_file) in
              let never : (a : Attr) → is_attribute_of attribute_list name a ≡ true → is_attribute_of t.kind t.name a ≡ true → ⊥ = λ a first second. differ (sym (attribute_kind t.kind t.name a second).0 ∙ (attribute_kind attribute_list name a first).0) in
              let both = filters_of_all (attr_uses x) (is_attribute_of attribute_list name) (is_attribute_of t.kind t.name) f.attrs never in
              omega (arith, own, its, stream_uses t.kind t.name f.attrs x, both, all, volume_sum v.files x, file_weight v m x, one_of_all (file_uses x) v.files m, most))
          | inr files ↦
              (let some = part in
              let two = two_of_all (file_uses x) v.files m t.file (λ same. files (sym same)) in
              omega (arith, own, some, all, volume_sum v.files x, file_weight v m x, file_weight v t.file x, stream_of_file t.kind t.name (file_in v t.file) x, two, most))
        ]

  -- its clusters are some of the volume's
  pub list_in_volume : (x : ℕ) → uses (runs_in (list_stream r)) x ≤ uses (volume_runs v.files) x
  unfolding list_stream
  list_in_volume x = stream_in_volume _ x

  -- and no stream of another type has one of them
  pub list_alone : (t : StreamKey) (x : ℕ) → t.kind ≢ attribute_list → uses (runs_in (list_stream r)) x + uses (runs_in (stream_at v t)) x ≤ 1
  unfolding list_stream
  list_alone t x differ = stream_alone _ x t differ
