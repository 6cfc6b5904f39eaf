-- What a step says of a record doesn't hang on whether its pairs are filled.
use Rattle.std.proofs.Common.{◌≡◌, ℕ, Bool, true, false, List, [], ◌∷◌, map, Option, refl, sym, ap, ◌∙◌, arith}
use Rattle.std.specs.Prelude.{not, ◌||◌, ◌&&◌, ◌==◌, if◌then◌else◌}
use Rattle.std.specs.List.{filter, list_any}
use Rattle.record_model.specs.declared.attribute.Attr.{Attr}
use Rattle.record_model.specs.Constants.{data_type}
use Rattle.record_model.specs.Records.{Record, spelled_bytes}
use Rattle.data_plan.specs.record_writer.Normal.{normal}
use Rattle.file_tree.specs.declared.node.Node.{Node}
use Rattle.data_plan.specs.state_model.declared.stream.Stream.{Stream}
use Rattle.data_plan.specs.state_model.Loads.{total_clusters}
use Rattle.data_plan.specs.state_model.Streams.{is_attribute_of}
use Rattle.data_plan.specs.stream_laws.Sharing.{runs_in}
use Rattle.tree_model.specs.declared.script.Op.{Op}
use Rattle.tree_model.specs.Needs.{size_after, shrinks}
use Rattle.tree_model.specs.Effects.{valid_after, clusters_after}
use Rattle.data_plan.specs.draft_records.Records.{written_record}
use Rattle.data_plan.specs.step_model.Placing.{Growth, runs_after}
use Rattle.data_plan.specs.step_model.Used.{is_replaced, attrs_with, used_after, own_attr, value_attr, placed_attr, is_in_record, stays_in}
use Rattle.data_plan.specs.step_model.Streams.{Comes, in_record, placed_among, in_clusters, comes, data_of, wanted_data, data_comes}
use Rattle.data_plan.specs.step_model.Plans.{full_row}
use Rattle.data_plan.proofs.used_laws.Lengths.{filter_yes, filter_no, bytes-append, written_used}
use Rattle.data_plan.specs.Changes.{data_in, row_of}

-- ---- attributes as they are written

kept_by : (q : Attr → Bool) → ((a : Attr) → q (normal a) ≡ q a) → (a : Attr) (attrs : List Attr) (t : Bool) → q a ≡ t → filter q (map normal attrs) ≡ map normal (filter q attrs) → filter q (normal a ∷ map normal attrs) ≡ map normal (filter q (a ∷ attrs))
kept_by q same a attrs true is rest = filter_yes q (normal a) (map normal attrs) (same a ∙ is) ∙ ap (λ (l : List Attr). normal a ∷ l) rest ∙ sym (ap (map normal) (filter_yes q a attrs is))
kept_by q same a attrs false is rest = filter_no q (normal a) (map normal attrs) (same a ∙ is) ∙ rest ∙ sym (ap (map normal) (filter_no q a attrs is))

-- tests of an attribute's type and name
pub kept : (q : Attr → Bool) → ((a : Attr) → q (normal a) ≡ q a) → (attrs : List Attr) → filter q (map normal attrs) ≡ map normal (filter q attrs)
kept q same [] = refl
kept q same (a ∷ attrs) = kept_by q same a attrs (q a) refl (kept q same attrs)

pub any_kept : (q : Attr → Bool) → ((a : Attr) → q (normal a) ≡ q a) → (attrs : List Attr) → list_any q (map normal attrs) ≡ list_any q attrs
any_kept q same [] = refl
any_kept q same (a ∷ attrs) = ap (λ (b : Bool). b || list_any q (map normal attrs)) (same a) ∙ ap (λ (b : Bool). q a || b) (any_kept q same attrs)

normal_bytes : (r : Record) (attrs : List Attr) → spelled_bytes (map normal attrs) ≡ spelled_bytes attrs
normal_bytes r attrs = (let both = written_used (record { head = r.head; attrs = attrs }) in omega (arith, both))

is_kept : (new : List Attr) (a : Attr) → is_replaced new (normal a) ≡ is_replaced new a
unfolding is_attribute_of
is_kept new a = refl

-- the used bytes with attributes that come
pub used_kept : (new : List Attr) (r : Record) → used_after new (written_record r) ≡ used_after new r
unfolding used_after attrs_with
used_kept new r =
    let left : List Attr → List Attr = λ l. filter (λ (a : Attr). not (is_replaced new a)) l in
    let same = ap spelled_bytes (kept (λ (a : Attr). not (is_replaced new a)) (λ a. ap not (is_kept new a)) r.attrs) ∙ normal_bytes r (left r.attrs) in
    let one = bytes-append new (left (map normal r.attrs)) in
    let two = bytes-append new (left r.attrs) in
    omega (arith, same, one, two)

-- ---- what a step says

-- in clusters by this growth, as an attribute like this one
abbrev placed_come : Op → Node → Growth → Attr → Comes
placed_come op node g own = record { attrs = if clusters_after false op node == total_clusters g.old then [] else placed_attr (size_after op node) (valid_after op node) (runs_after g) own ∷ []; growth = g }

abbrev value_come : Op → Node → Attr → Comes
value_come op node own = record { attrs = value_attr (size_after op node) own ∷ []; growth = in_record (data_of node.number) }

-- by what it says of the data, its attribute and the used bytes with a value
abbrev come_by : List Bool → Op → Node → Option Stream → Attr → ℕ → Comes
come_by bits op node held own used =
    if is_in_record held && shrinks op node then value_come op node own
    else (if stays_in held (size_after op node) used then value_come op node own else placed_come op node (placed_among bits (runs_in held) (wanted_data op node)) own)

come_is : (bits : List Bool) (r : Record) (op : Op) (node : Node) → data_comes bits r op node ≡ come_by bits op node (data_in r) (own_attr data_type [] r) (used_after (value_attr (size_after op node) (own_attr data_type [] r) ∷ []) r)
unfolding data_comes comes in_clusters
come_is bits r op node = refl

-- records with the same data, and the same used bytes, come to the same
pub come_alike : (bits : List Bool) (r s : Record) (op : Op) (node : Node) → data_in s ≡ data_in r → own_attr data_type [] s ≡ own_attr data_type [] r → ((new : List Attr) → used_after new s ≡ used_after new r) → data_comes bits s op node ≡ data_comes bits r op node
come_alike bits r s op node streams attrs used =
    let value : Attr → List Attr = λ a. value_attr (size_after op node) a ∷ [] in
    let bytes : used_after (value (own_attr data_type [] s)) s ≡ used_after (value (own_attr data_type [] r)) r = used (value (own_attr data_type [] s)) ∙ ap (λ (a : Attr). used_after (value a) r) attrs in
    come_is bits s op node
    ∙ ap (λ (o : Option Stream). come_by bits op node o (own_attr data_type [] s) (used_after (value (own_attr data_type [] s)) s)) streams
    ∙ ap (λ (a : Attr). come_by bits op node (data_in r) a (used_after (value (own_attr data_type [] s)) s)) attrs
    ∙ ap (come_by bits op node (data_in r) (own_attr data_type [] r)) bytes
    ∙ sym (come_is bits r op node)

pub row_alike : (bits : List Bool) (r s : Record) (op : Op) (node : Node) → data_comes bits s op node ≡ data_comes bits r op node → ((new : List Attr) → used_after new s ≡ used_after new r) → row_of bits s op node ≡ row_of bits r op node
row_alike bits r s op node same used =
    ap (λ (z : Comes). full_row (used_after z.attrs s ∷ [])) same ∙ ap (λ (n : ℕ). full_row (n ∷ [])) (used (data_comes bits r op node).attrs)
