-- The clusters of attributes, streams and files.
use Rattle.std.proofs.Common.{◌≡◌, ◌≢◌, ℕ, ◌+◌, ◌<◌, ◌≤◌, Bool, true, false, cond, eqb, nat_eq, ltb, List, [], ◌∷◌, ◌++◌, Option, Some, None, refl, sym, ap, ◌∙◌, inl, inr, arith}
use Rattle.std.specs.Prelude.{slice_get}
use Rattle.std.specs.List.{sum_by, filter, flat_map}
use Rattle.std.specs.Cmp.Lexicographic.{pointwise}
use Rattle.std.proofs.lemmas.Bool.{cases_eq, cases_Bool, and_parts, eqb-true}
use Rattle.std.proofs.lemmas.List.Sums.{sum_by-cons}
use Rattle.std.proofs.lemmas.List.Concat.{flat_map-append}
use Rattle.volume_model.specs.disk_model.declared.block.Block.{Block}
use Rattle.volume_model.specs.disk_model.declared.block.BlockKind.{BlockKind}
use Rattle.volume_model.specs.disk_model.Sectors.{overlap}
use Rattle.volume_model.specs.record_model.declared.attribute.OwnForm.{OwnForm}
use Rattle.volume_model.specs.record_model.declared.attribute.OwnForm.TheVariants.{Resident, Mapped}
use Rattle.volume_model.specs.record_model.declared.attribute.Attr.{Attr}
use Rattle.volume_model.specs.record_model.declared.runs.Run.{Run}
use Rattle.volume_model.specs.record_model.Records.{Record}
use Rattle.volume_model.specs.state_model.Files.{file_at, only_base, is_base_record}
use Rattle.volume_model.specs.state_model.Loads.{table_in}
use Rattle.volume_model.specs.state_model.Streams.{first_vcn, is_attribute_of, with_attribute, sorted_into, attributes_of, attribute_runs, form_stream, joined, stream_of, block_at}
use Rattle.volume_model.specs.Volumes.{Volume, file_in, file_stream}
use Rattle.volume_model.specs.Owners.{file_runs, volume_runs, uses}
use Rattle.stream_laws.specs.Places.{AreOnce, AreApart}
use Rattle.stream_laws.specs.Sharing.{file_attrs, volume_attrs, StreamKey, stream_at, runs_in}
use Rattle.stream_laws.proofs.Placing.{uses-append, lists_apart}
use Rattle.stream_laws.proofs.Counting.{weight, one_of_all, two_of_all, weight_at, filter_of_all, filters_of_all}

-- ---- sums of uses

pub uses-none : (x : ℕ) → uses [] x ≡ 0
unfolding uses
uses-none x = refl

-- the uses of runs that are joined are the sum of those of their parts
pub uses-flat_map : {X : Type 0} (f : X → List Run) (xs : List X) (x : ℕ) → uses (flat_map f xs) x ≡ sum_by (λ y. uses (f y) x) xs
uses-flat_map f [] x = uses-none x
uses-flat_map {X} f (y ∷ xs) x = uses-append (f y) (flat_map f xs) x ∙ ap (λ (k : ℕ). uses (f y) x + k) (uses-flat_map f xs x) ∙ sym (sum_by-cons (λ (z : X). uses (f z) x) y xs)

-- how often an attribute has a cluster, and how often a file
abbrev pub attr_uses : ℕ → Attr → ℕ
attr_uses x a = uses (attribute_runs a) x

abbrev pub file_uses : ℕ → Option Record → ℕ
file_uses x o = uses (file_runs o) x

pub volume_sum : (files : List (Option Record)) (x : ℕ) → uses (volume_runs files) x ≡ sum_by (file_uses x) files
unfolding volume_runs
volume_sum files x = uses-flat_map file_runs files x

-- ---- attributes

one_file : (o : Option Record) → file_runs o ≡ flat_map attribute_runs (file_attrs o)
one_file None = refl
one_file (Some r) = refl

pub runs_of_attrs : (files : List (Option Record)) → volume_runs files ≡ flat_map attribute_runs (volume_attrs files)
unfolding volume_runs
runs_of_attrs [] = refl
runs_of_attrs (o ∷ files) =
    ap (λ (l : List Run). l ++ flat_map file_runs files) (one_file o)
    ∙ ap (λ (l : List Run). flat_map attribute_runs (file_attrs o) ++ l) (runs_of_attrs files)
    ∙ sym (flat_map-append attribute_runs (file_attrs o) (volume_attrs files))

pub attrs_apart : (files : List (Option Record)) (i j : ℕ) (a b : Attr) → AreOnce (volume_runs files) → i ≢ j → slice_get (volume_attrs files) i ≡ Some a → slice_get (volume_attrs files) j ≡ Some b → AreApart (attribute_runs a) (attribute_runs b)
attrs_apart files i j a b once differ first second x =
    let all : uses (volume_runs files) x ≡ sum_by (attr_uses x) (volume_attrs files) = ap (λ (l : List Run). uses l x) (runs_of_attrs files) ∙ uses-flat_map attribute_runs (volume_attrs files) x in
    let two = two_of_all (attr_uses x) (volume_attrs files) i j differ in
    let mine : weight (attr_uses x) (slice_get (volume_attrs files) i) ≡ attr_uses x a = ap (weight (attr_uses x)) first in
    let its : weight (attr_uses x) (slice_get (volume_attrs files) j) ≡ attr_uses x b = ap (weight (attr_uses x)) second in
    omega (arith, all, two, mine, its, once x)

pub attr_blocks_apart : (per : ℕ) (files : List (Option Record)) (i j : ℕ) (a b : Attr) (kind other : BlockKind) (n m : ℕ) (x y : Block) → 0 < per → AreOnce (volume_runs files) → i ≢ j → slice_get (volume_attrs files) i ≡ Some a → slice_get (volume_attrs files) j ≡ Some b → block_at per (attribute_runs a) kind n ≡ Some x → block_at per (attribute_runs b) other m ≡ Some y → overlap x y ≡ false
attr_blocks_apart per files i j a b kind other n m x y some once differ first second = lists_apart per (attribute_runs a) (attribute_runs b) kind other n m x y some (attrs_apart files i j a b once differ first second)

-- ---- the attributes of a stream

with_attribute_sum : (f : Attr → ℕ) (a : Attr) (attributes : List Attr) → sum_by f (with_attribute a attributes) ≡ f a + sum_by f attributes
with_attribute_sum f a [] = sum_by-cons f a []
with_attribute_sum f a (b ∷ attributes) = elim (cases_Bool (ltb (first_vcn a) (first_vcn b))) [
  | inl before ↦ rw before (sum_by-cons f a (b ∷ attributes))
  | inr behind ↦ rw behind (omega (arith, sum_by-cons f b (with_attribute a attributes), sum_by-cons f b attributes, with_attribute_sum f a attributes))
]

sorted_sum : (f : Attr → ℕ) (attributes attrs : List Attr) → sum_by f (sorted_into attributes attrs) ≡ sum_by f attributes + sum_by f attrs
sorted_sum f attributes [] = omega arith
sorted_sum f attributes (a ∷ attrs) = omega (arith, sorted_sum f (with_attribute a attributes) attrs, with_attribute_sum f a attributes, sum_by-cons f a attrs)

pub attributes_sum : (f : Attr → ℕ) (kind : ℕ) (name : List ℕ) (attrs : List Attr) → sum_by f (attributes_of kind name attrs) ≡ sum_by f (filter (is_attribute_of kind name) attrs)
unfolding attributes_of
attributes_sum f kind name attrs =
    let none : 0 + sum_by f (filter (is_attribute_of kind name) attrs) ≡ sum_by f (filter (is_attribute_of kind name) attrs) = omega arith in
    sorted_sum f [] (filter (is_attribute_of kind name) attrs) ∙ none

form_uses : (form : OwnForm) (runs : List Run) (x : ℕ) → uses (runs_in (Some (form_stream form runs))) x ≤ uses runs x
form_uses (Resident value indexed) runs x = omega (arith, uses-none x)
form_uses (Mapped sizes pairs) runs x = omega arith

joined_uses : (attributes : List Attr) (x : ℕ) → uses (runs_in (joined attributes)) x ≤ sum_by (attr_uses x) attributes
joined_uses [] x = omega (arith, uses-none x)
joined_uses (a ∷ attributes) x = omega (arith, form_uses a.form (flat_map attribute_runs (a ∷ attributes)) x, uses-flat_map attribute_runs (a ∷ attributes) x)

-- the clusters of a stream are those of its attributes
pub stream_uses : (kind : ℕ) (name : List ℕ) (attrs : List Attr) (x : ℕ) → uses (runs_in (stream_of kind name attrs)) x ≤ sum_by (attr_uses x) (filter (is_attribute_of kind name) attrs)
unfolding stream_of
stream_uses kind name attrs x = omega (arith, joined_uses (attributes_of kind name attrs) x, attributes_sum (attr_uses x) kind name attrs)

-- ---- which stream an attribute belongs to

pub same_from_test : (xs ys : List ℕ) → pointwise nat_eq xs ys ≡ true → xs ≡ ys
same_from_test [] [] same = refl
same_from_test [] (y ∷ ys) same = absurd cc
same_from_test (x ∷ xs) [] same = absurd cc
same_from_test (x ∷ xs) (y ∷ ys) same =
    let parts = and_parts (eqb x y) (pointwise nat_eq xs ys) same in
    let head : x ≡ y = eqb-true x y parts.0 in
    let rest : xs ≡ ys = same_from_test xs ys parts.1 in
    cc

pub attribute_kind : (kind : ℕ) (name : List ℕ) (a : Attr) → is_attribute_of kind name a ≡ true → (a.head.kind ≡ kind) × (a.name ≡ name)
unfolding is_attribute_of
attribute_kind kind name a is =
    let parts = and_parts (eqb a.head.kind kind) (pointwise nat_eq a.name name) is in
    (eqb-true a.head.kind kind parts.0, same_from_test a.name name parts.1)

-- ---- streams of one file

pub stream_of_file : (kind : ℕ) (name : List ℕ) (o : Option Record) (x : ℕ) → uses (runs_in (file_stream kind name o)) x ≤ file_uses x o
stream_of_file kind name None x = omega arith
stream_of_file kind name (Some r) x = omega (arith, stream_uses kind name r.attrs x, filter_of_all (attr_uses x) (is_attribute_of kind name) r.attrs, uses-flat_map attribute_runs r.attrs x)

streams_of_file : (kind other : ℕ) (name alias : List ℕ) (o : Option Record) (x : ℕ) → ((a : Attr) → is_attribute_of kind name a ≡ true → is_attribute_of other alias a ≡ true → ⊥) → uses (runs_in (file_stream kind name o)) x + uses (runs_in (file_stream other alias o)) x ≤ file_uses x o
streams_of_file kind other name alias None x never = omega (arith, uses-none x)
streams_of_file kind other name alias (Some r) x never =
    omega (arith, stream_uses kind name r.attrs x, stream_uses other alias r.attrs x, filters_of_all (attr_uses x) (is_attribute_of kind name) (is_attribute_of other alias) r.attrs never, uses-flat_map attribute_runs r.attrs x)

-- ---- streams of a volume

based : (t : Bool) (r : Record) (x : ℕ) → file_uses x (cond t (Some r) None) ≤ file_uses x (Some r)
based true r x = omega arith
based false r x = omega (arith, uses-none x)

base_uses : (o : Option Record) (x : ℕ) → file_uses x (only_base o) ≤ file_uses x o
base_uses None x = omega arith
base_uses (Some r) x = based (is_base_record r) r x

pub file_weight : (v : Volume) (n x : ℕ) → file_uses x (file_in v n) ≤ weight (file_uses x) (slice_get v.files n)
unfolding file_at
file_weight v n x = omega (arith, base_uses (table_in v.files n) x, weight_at (file_uses x) v.files n None (uses-none x))

pub stream_of_volume : (v : Volume) (s : StreamKey) (x : ℕ) → uses (runs_in (stream_at v s)) x ≤ uses (volume_runs v.files) x
stream_of_volume v s x =
    omega (arith, stream_of_file s.kind s.name (file_in v s.file) x, file_weight v s.file x, one_of_all (file_uses x) v.files s.file, volume_sum v.files x)

pub stream_once : (v : Volume) (s : StreamKey) → AreOnce (volume_runs v.files) → AreOnce (runs_in (stream_at v s))
stream_once v s once x = omega (arith, stream_of_volume v s x, once x)

key : ℕ → ℕ → List ℕ → StreamKey
key file kind name = record { file = file; kind = kind; name = name }

pub same_key : (s t : StreamKey) → s.file ≡ t.file → s.kind ≡ t.kind → s.name ≡ t.name → s ≡ t
unfolding key
same_key s t file kind name =
    ap (λ (n : ℕ). key n s.kind s.name) file ∙ ap (λ (n : ℕ). key t.file n s.name) kind ∙ ap (λ (l : List ℕ). key t.file t.kind l) name

pub streams_apart : (v : Volume) (s t : StreamKey) → AreOnce (volume_runs v.files) → s ≢ t → AreApart (runs_in (stream_at v s)) (runs_in (stream_at v t))
streams_apart v s t once differ x = elim (cases_eq s.file t.file) [
  | inl file ↦
      (let never : (a : Attr) → is_attribute_of s.kind s.name a ≡ true → is_attribute_of t.kind t.name a ≡ true → ⊥ = λ a first second.
      let mine = attribute_kind s.kind s.name a first in
      let its = attribute_kind t.kind t.name a second in
      differ (same_key s t file (sym mine.0 ∙ its.0) (sym mine.1 ∙ its.1)) in
      let both = streams_of_file s.kind t.kind s.name t.name (file_in v s.file) x never in
      let here : uses (runs_in (file_stream t.kind t.name (file_in v s.file))) x ≡ uses (runs_in (stream_at v t)) x = ap (λ (n : ℕ). uses (runs_in (file_stream t.kind t.name (file_in v n))) x) file in
      omega (arith, both, here, file_weight v s.file x, one_of_all (file_uses x) v.files s.file, volume_sum v.files x, once x))
  | inr files ↦
      omega (arith, stream_of_file s.kind s.name (file_in v s.file) x, stream_of_file t.kind t.name (file_in v t.file) x, file_weight v s.file x, file_weight v t.file x, two_of_all (file_uses x) v.files s.file t.file files, volume_sum v.files x, once x)
]

pub stream_blocks_apart : (v : Volume) (s t : StreamKey) (kind other : BlockKind) (n m : ℕ) (a b : Block) → 0 < v.per → AreOnce (volume_runs v.files) → s ≢ t → block_at v.per (runs_in (stream_at v s)) kind n ≡ Some a → block_at v.per (runs_in (stream_at v t)) other m ≡ Some b → overlap a b ≡ false
stream_blocks_apart v s t kind other n m a b some once differ = lists_apart v.per (runs_in (stream_at v s)) (runs_in (stream_at v t)) kind other n m a b some (streams_apart v s t once differ)
