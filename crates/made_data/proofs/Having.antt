-- The record of a file as it is once its data is made.
use Rattle.std.proofs.Common.{◌≡◌, ℕ, ◌<◌, ◌≤◌, ◌^◌, Bool, true, false, not, ◌&&◌, List, [], ◌∷◌, length, map, take, drop, Some, None, refl, sym, ap, subst, ◌∙◌, arith}
use Rattle.std.specs.Prelude.{insert, ◌==◌}
use Rattle.std.specs.List.{filter, list_any}
use Rattle.std.proofs.lemmas.Bool.{or_parts}
use Rattle.std.proofs.lemmas.List.{take-append-drop}
use Rattle.std.proofs.lemmas.List.Elements.{All-nil}
use Rattle.record_model.specs.declared.attribute.Attr.{Attr}
use Rattle.record_model.specs.Constants.{data_type}
use Rattle.record_model.specs.Records.{Record, spelled_bytes}
use Rattle.record_model.specs.Values.{has_lawful_value}
use Rattle.data_plan.specs.record_writer.Normal.{normal}
use Rattle.data_plan.proofs.record_writer.Measures.{length-spelling, spelled_count}
use Rattle.file_tree.specs.declared.node.Node.{Node}
use Rattle.data_plan.specs.state_model.declared.stream.Stream.TheVariants.{Held}
use Rattle.data_plan.specs.state_model.Files.{has_type}
use Rattle.data_plan.specs.state_model.Loads.{has_all_pairs}
use Rattle.data_plan.specs.state_model.Streams.{is_attribute_of, attributes_of, sorted_into, joined, stream_of}
use Rattle.data_plan.specs.volume_model.Volumes.{size_or}
use Rattle.data_plan.specs.volume_model.Nodes.{valid_or, clusters_or}
use Rattle.tree_model.specs.declared.script.Op.{Op}
use Rattle.data_plan.specs.draft_records.Records.{written_bytes}
use Rattle.data_plan.specs.record_streams.Fitting.{IsShort, FitsButRoom}
use Rattle.made_data.specs.Ids.{place_of, new_id}
use Rattle.data_plan.specs.step_model.Used.{is_replaced, used_after, new_attr, first_or, own_attr}
use Rattle.data_plan.specs.step_model.Streams.{Comes, data_comes}
use Rattle.data_plan.proofs.used_laws.Lengths.{filter_yes, written_used}
use Rattle.data_plan.proofs.used_laws.Beside.{one_more}
use Rattle.data_plan.specs.Changes.{data_in, ShowsData, BeginsAtZero, StandsBelow, HasData, growth_of, row_of}
use Rattle.data_plan.specs.Laws.{HasMadeData, DataMade}
use Rattle.made_data.specs.Made.{empty_data, with_empty_data, made_record, has_data}
use Rattle.made_data.specs.Laws.{MadeIsCounted}
use Rattle.made_data.proofs.Counting.{kept, any_kept, used_kept, come_alike, row_alike}
use Rattle.made_data.proofs.Standing.{any_put, none_pass, one_passes, others_pass, attr_fits, written_fits, spelled_put, attr_pairs, written_pairs}

-- ---- its unnamed data

abbrev own : Attr → Bool
own a = is_attribute_of data_type [] a

pub no_data : (r : Record) → has_data r ≡ false → attributes_of data_type [] r.attrs ≡ []
unfolding has_data attributes_of
no_data r none = ap (sorted_into []) (none_pass own r.attrs none)

is_own : (id : ℕ) → own (empty_data id) ≡ true
unfolding is_attribute_of
is_own id = refl

own_normal : (a : Attr) → own (normal a) ≡ own a
unfolding is_attribute_of
own_normal a = refl

pub is_made : (r : Record) → has_data r ≡ false → HasMadeData r (with_empty_data r)
is_made r none =
    let p = place_of data_type [] r.attrs in
    record {
      none = no_data r none;
      new = empty_data (new_id r);
      empty = record { kind = refl; unnamed = refl; flags = refl; indexed = 0; form = refl };
      front = take p r.attrs;
      back = drop p r.attrs;
      before = sym (take-append-drop p r.attrs);
      after = refl;
    }

pub one_data : (r : Record) → has_data r ≡ false → attributes_of data_type [] (made_record r).attrs ≡ empty_data (new_id r) ∷ []
unfolding has_data attributes_of
one_data r none =
    let p = place_of data_type [] r.attrs in
    ap (sorted_into []) (kept own own_normal (insert r.attrs p (empty_data (new_id r))) ∙ ap (map normal) (one_passes own p (empty_data (new_id r)) r.attrs (is_own (new_id r)) none))

first_data : (r : Record) → has_data r ≡ false → attributes_of data_type [] (with_empty_data r).attrs ≡ empty_data (new_id r) ∷ []
unfolding has_data attributes_of
first_data r none = ap (sorted_into []) (one_passes own (place_of data_type [] r.attrs) (empty_data (new_id r)) r.attrs (is_own (new_id r)) none)

held_by : (s : Record) (id : ℕ) → attributes_of data_type [] s.attrs ≡ empty_data id ∷ [] → data_in s ≡ Some (Held [])
unfolding stream_of
held_by s id is = ap joined is

pub holds_none : (r : Record) → has_data r ≡ false → data_in (made_record r) ≡ Some (Held [])
holds_none r none = held_by (made_record r) (new_id r) (one_data r none)

none_held : (r : Record) → has_data r ≡ false → data_in r ≡ None
unfolding stream_of
none_held r none = ap joined (no_data r none)

own_by : (s : Record) (id : ℕ) → attributes_of data_type [] s.attrs ≡ empty_data id ∷ [] → own_attr data_type [] s ≡ empty_data id
unfolding own_attr
own_by s id is = ap (first_or (new_attr data_type [])) is

-- ---- what a step says

same_comes : (bits : List Bool) (r : Record) (op : Op) (node : Node) → has_data r ≡ false → data_comes bits (made_record r) op node ≡ data_comes bits (with_empty_data r) op node
same_comes bits r op node none =
    let first = first_data r none in
    let then = one_data r none in
    come_alike bits (with_empty_data r) (made_record r) op node
    (held_by (made_record r) (new_id r) then ∙ sym (held_by (with_empty_data r) (new_id r) first))
    (own_by (made_record r) (new_id r) then ∙ sym (own_by (with_empty_data r) (new_id r) first))
    (λ new. used_kept new (with_empty_data r))

growth_is : DataMade → (bits : List Bool) (r : Record) (op : Op) (node : Node) → has_data r ≡ false → growth_of bits (made_record r) op node ≡ growth_of bits r op node
growth_is made bits r op node none = ap (λ (z : Comes). z.growth) (same_comes bits r op node none) ∙ made.growth bits r (with_empty_data r) op node (is_made r none)

row_is : DataMade → (bits : List Bool) (r : Record) (op : Op) (node : Node) → has_data r ≡ false → row_of bits (made_record r) op node ≡ row_of bits r op node
row_is made bits r op node none =
    row_alike bits (with_empty_data r) (made_record r) op node (same_comes bits r op node none) (λ new. used_kept new (with_empty_data r)) ∙ made.row bits r (with_empty_data r) op node (is_made r none)

shows_still : (node : Node) (r : Record) → has_data r ≡ false → ShowsData node r → ShowsData node (made_record r)
shows_still node r none k =
    let was = none_held r none in
    let is = holds_none r none in
    record {
      size = k.size ∙ ap size_or was ∙ sym (ap size_or is);
      valid = k.valid ∙ ap valid_or was ∙ sym (ap valid_or is);
      clusters = k.clusters ∙ ap clusters_or was ∙ sym (ap clusters_or is);
    }

-- ---- types

types_still : (r : Record) (kind : ℕ) → has_type kind r ≡ true → has_type kind (made_record r) ≡ true
unfolding has_type
types_still r kind is =
    let p = place_of data_type [] r.attrs in
    any_kept (λ (a : Attr). a.head.kind == kind) (λ a. refl) (insert r.attrs p (empty_data (new_id r))) ∙ any_put (λ (a : Attr). a.head.kind == kind) p (empty_data (new_id r)) r.attrs is

-- ---- a spelling but for room

lawful_data : (id : ℕ) → has_lawful_value (empty_data id) ≡ true
unfolding has_lawful_value
lawful_data id = refl

short_data : (id : ℕ) → id < 2 ^ 16 → IsShort (empty_data id)
short_data id small = record {
  fits = record {
    kind = omega arith;
    flags = omega arith;
    id = small;
    name_short = omega arith;
    units = All-nil (λ (unit : ℕ). unit < 2 ^ 16);
    form = record { value_short = omega arith; indexed_byte = omega arith };
  };
  kind = omega arith;
  lawful = lawful_data id;
  short = omega (arith, length-spelling (empty_data id));
}

pub made_fits : (r : Record) → FitsButRoom r → length r.attrs < 2 ^ 10 → FitsButRoom (with_empty_data r)
made_fits r fits few = attr_fits (empty_data 0) r fits few short_data

-- ---- used bytes

others_left : (q : Attr → Bool) (p id : ℕ) (attrs : List Attr) → q (empty_data id) ≡ false → ((a : Attr) → own a ≡ false → q a ≡ true) → list_any own attrs ≡ false → filter q (insert attrs p (empty_data id)) ≡ attrs
others_left q p id attrs out other none = others_pass q p (empty_data id) attrs out ∙ all_pass q attrs other none
  where
    all_pass : (q : Attr → Bool) (attrs : List Attr) → ((a : Attr) → own a ≡ false → q a ≡ true) → list_any own attrs ≡ false → filter q attrs ≡ attrs
    all_pass q [] other none = refl
    all_pass q (a ∷ attrs) other none = (let parts = or_parts (own a) (list_any own attrs) none in filter_yes q a attrs (other a parts.0) ∙ ap (λ (l : List Attr). a ∷ l) (all_pass q attrs other parts.1))

-- other data takes as many bytes as it without bytes, or more
pub least_room : (r : Record) (new : Attr) → has_data r ≡ false → new.head.kind ≡ data_type → new.name ≡ [] → written_bytes (with_empty_data r) ≤ used_after (new ∷ []) (made_record r)
unfolding has_data
least_room r new none kind name =
    let p = place_of data_type [] r.attrs in
    let q : Attr → Bool = λ a. not (is_attribute_of new.head.kind new.name a) && not (is_replaced [] a) in
    let alike : (a : Attr) → is_attribute_of new.head.kind new.name a ≡ own a = λ a. ap (λ (k : ℕ). is_attribute_of k new.name a) kind ∙ ap (λ (l : List ℕ). is_attribute_of data_type l a) name in
    let out : q (empty_data (new_id r)) ≡ false = ap (λ (b : Bool). not b && not (is_replaced [] (empty_data (new_id r)))) (alike (empty_data (new_id r)) ∙ is_own (new_id r)) in
    let other : (a : Attr) → own a ≡ false → q a ≡ true = λ a is. ap (λ (b : Bool). not b && not (is_replaced [] a)) (alike a ∙ is) in
    let left = ap spelled_bytes (others_left q p (new_id r) r.attrs out other none) in
    let whole = one_more [] new (with_empty_data r) in
    let same = used_kept (new ∷ []) (with_empty_data r) in
    let all = written_used (with_empty_data r) in
    let sum = spelled_put p (empty_data (new_id r)) r.attrs in
    let long = length-spelling (empty_data (new_id r)) in
    let most = spelled_count (new ∷ []) in
    omega (arith, left, whole, same, all, sum, long, most)

-- ---- all of it

has_made : (clusters : ℕ) (r : Record) → has_data r ≡ false → FitsButRoom r → length r.attrs < 2 ^ 10 → has_all_pairs r ≡ true → HasData clusters (made_record r)
has_made clusters r none fits few pairs =
    let made : Record = with_empty_data r in
    record {
      fits = written_fits made (made_fits r fits few);
      pairs = written_pairs made (attr_pairs (empty_data 0) r refl pairs);
      begins = subst BeginsAtZero (sym (one_data r none)) refl;
      stands = subst (StandsBelow clusters) (sym (holds_none r none)) tt;
    }

pub made_counted : DataMade → MadeIsCounted
made_counted made = record {
  none = no_data;
  made = is_made;
  fits = made_fits;
  room = least_room;
  own = λ r none. own_by (made_record r) (new_id r) (one_data r none);
  pieces = one_data;
  holds = holds_none;
  growth = growth_is made;
  row = row_is made;
  has = has_made;
  shows = shows_still;
  types = types_still;
}
