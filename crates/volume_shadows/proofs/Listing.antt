-- The list of live blocks has exactly these.
use Rattle.std.proofs.Common.{◌≡◌, ℕ, zero, suc, ◌*◌, ◌<◌, ◌≤◌, Bool, true, false, cond, min, List, [], ◌∷◌, ◌++◌, length, get_or, filter, Option, Some, None, refl, sym, ap, ◌∙◌, ◌⊎◌, inl, inr, subst, arith}
use Rattle.std.specs.List.{Contains, cons_option, filter_map, flat_map, range_with_len}
use Rattle.std.proofs.lemmas.Bool.{cases_lt}
use Rattle.disk_model.specs.declared.block.Block.{Block}
use Rattle.disk_model.specs.declared.block.BlockKind.{BlockKind}
use Rattle.disk_model.specs.declared.block.BlockKind.TheVariants.{Plain, FileRec, Index}
use Rattle.disk_model.specs.Sectors.{sectors}
use Rattle.state_model.specs.record_model.declared.attribute.Attr.{Attr}
use Rattle.state_model.specs.record_model.Records.{Record}
use Rattle.state_model.specs.declared.stream.Extents.{Extents}
use Rattle.state_model.specs.declared.stream.Stream.{Stream}
use Rattle.state_model.specs.declared.stream.Stream.TheVariants.{Held, Placed}
use Rattle.state_model.specs.Files.{file_at, only_base}
use Rattle.state_model.specs.Loads.{table_in}
use Rattle.state_model.specs.Streams.{is_attribute_of, sorted_into, attributes_of, joined, stream_of, block_at}
use Rattle.stream_laws.specs.volume_model.Volumes.{Volume, file_in, file_stream}
use Rattle.stream_laws.specs.volume_model.Sizes.{begun}
use Rattle.stream_laws.specs.Sharing.{StreamKey, stream_at, runs_in}
use Rattle.stream_laws.specs.Owners.{stream_kind, initialised_in, IsLive}
use Rattle.stream_laws.proofs.Sharing.{attribute_kind}
use Rattle.volume_shadows.specs.Least.{lesser, least_of}
use Rattle.volume_shadows.specs.Live.{stream_key, blocks_in, attr_blocks, file_blocks, live_in, live_blocks, least_live}
use Rattle.volume_shadows.proofs.Leasts.{AtMost, Has, least_at_most, range_has, range_below}

-- ---- members

contains_has : {A : Type 0} (xs : List A) (x : A) → Has x xs → Contains xs x
contains_has [] x has = absurd has
contains_has (y ∷ ys) x (inl same) = (0, omega arith, sym same)
contains_has (y ∷ ys) x (inr has) = let rest = contains_has ys x has in (suc rest.0, omega (arith, rest.1), rest.2)

has_at : {A : Type 0} (xs : List A) (x : A) (k : ℕ) → k < length xs → get_or xs k x ≡ x → Has x xs
has_at [] x k lt is = absurd (omega (arith, lt))
has_at (y ∷ ys) x zero lt is = inl (sym is)
has_at (y ∷ ys) x (suc k) lt is = inr (has_at ys x k (omega (arith, lt)) is)

has_left : {A : Type 0} (x : A) (xs ys : List A) → Has x xs → Has x (xs ++ ys)
has_left x [] ys has = absurd has
has_left x (z ∷ zs) ys (inl same) = inl same
has_left x (z ∷ zs) ys (inr has) = inr (has_left x zs ys has)

has_right : {A : Type 0} (x : A) (xs ys : List A) → Has x ys → Has x (xs ++ ys)
has_right x [] ys has = has
has_right x (z ∷ zs) ys has = inr (has_right x zs ys has)

has_either : {A : Type 0} (x : A) (xs ys : List A) → Has x (xs ++ ys) → Has x xs ⊎ Has x ys
has_either x [] ys has = inr has
has_either x (z ∷ zs) ys (inl same) = inl (inl same)
has_either x (z ∷ zs) ys (inr has) = elim (has_either x zs ys has) [
  | inl left ↦ inl (inr left)
  | inr right ↦ inr right
]

has_flat : {A B : Type 0} (f : A → List B) (x : A) (y : B) (xs : List A) → Has x xs → Has y (f x) → Has y (flat_map f xs)
has_flat f x y [] has inside = absurd has
has_flat {A} {B} f x y (z ∷ zs) (inl same) inside = has_left y (f z) (flat_map f zs) (subst (λ (w : A). Has y (f w)) same inside)
has_flat f x y (z ∷ zs) (inr has) inside = has_right y (f z) (flat_map f zs) (has_flat f x y zs has inside)

-- an element of one of the lists
record IsOf {A B : Type 0} (f : A → List B) (xs : List A) (y : B) : Type 0 where
  of : A
  has : Has of xs
  inside : Has y (f of)

flat_has : {A B : Type 0} (f : A → List B) (y : B) (xs : List A) → Has y (flat_map f xs) → IsOf f xs y
flat_has f y [] has = absurd has
flat_has f y (z ∷ zs) has = elim (has_either y (f z) (flat_map f zs) has) [
  | inl here ↦ record { of = z; has = inl refl; inside = here }
  | inr behind ↦ (let rest = flat_has f y zs behind in record { of = rest.of; has = inr rest.has; inside = rest.inside })
]

cons_has : {B : Type 0} (o : Option B) (y : B) (ys : List B) → o ≡ Some y → Has y (cons_option o ys)
cons_has None y ys is = absurd cc
cons_has (Some z) y ys is = inl cc

cons_behind : {B : Type 0} (o : Option B) (y : B) (ys : List B) → Has y ys → Has y (cons_option o ys)
cons_behind None y ys has = has
cons_behind (Some z) y ys has = inr has

has_filtered : {A B : Type 0} (f : A → Option B) (x : A) (y : B) (xs : List A) → Has x xs → f x ≡ Some y → Has y (filter_map f xs)
has_filtered f x y [] has is = absurd has
has_filtered {A} {B} f x y (z ∷ zs) (inl same) is = cons_has (f z) y (filter_map f zs) (subst (λ (w : A). f w ≡ Some y) same is)
has_filtered f x y (z ∷ zs) (inr has) is = cons_behind (f z) y (filter_map f zs) (has_filtered f x y zs has is)

-- an element that one of these gives
record IsGiven {A B : Type 0} (f : A → Option B) (xs : List A) (y : B) : Type 0 where
  by : A
  has : Has by xs
  gives : f by ≡ Some y

given_by : {A B : Type 0} (f : A → Option B) (y : B) (z : A) (zs : List A) (o : Option B) → f z ≡ o → (Has y (filter_map f zs) → IsGiven f zs y) → Has y (cons_option o (filter_map f zs)) → IsGiven f (z ∷ zs) y
given_by f y z zs None is rest has = let r = rest has in record { by = r.by; has = inr r.has; gives = r.gives }
given_by f y z zs (Some w) is rest (inl same) = record { by = z; has = inl refl; gives = is ∙ ap (λ v. Some v) (sym same) }
given_by f y z zs (Some w) is rest (inr has) = let r = rest has in record { by = r.by; has = inr r.has; gives = r.gives }

filtered_has : {A B : Type 0} (f : A → Option B) (y : B) (xs : List A) → Has y (filter_map f xs) → IsGiven f xs y
filtered_has f y [] has = absurd has
filtered_has f y (z ∷ zs) has = given_by f y z zs (f z) refl (filtered_has f y zs) has

-- ---- the places below a size

begun_above : (kind : BlockKind) (n size : ℕ) → 512 * (sectors kind * n) < size → n < begun (512 * sectors kind) size
begun_above Plain n size lt = omega (arith, lt)
begun_above FileRec n size lt = omega (arith, lt)
begun_above Index n size lt = omega (arith, lt)

below_begun : (kind : BlockKind) (n size : ℕ) → n < begun (512 * sectors kind) size → 512 * (sectors kind * n) < size
below_begun Plain n size lt = omega (arith, lt)
below_begun FileRec n size lt = omega (arith, lt)
below_begun Index n size lt = omega (arith, lt)

-- ---- a stream's attributes

-- some attribute passes the test
record IsSome (p : Attr → Bool) (attrs : List Attr) : Type 0 where
  attr : Attr
  has : Has attr attrs
  passes : p attr ≡ true

some_by : (p : Attr → Bool) (a : Attr) (attrs : List Attr) (t : Bool) → p a ≡ t → (filter p attrs ≡ []) ⊎ IsSome p attrs → (cond t (a ∷ filter p attrs) (filter p attrs) ≡ []) ⊎ IsSome p (a ∷ attrs)
some_by p a attrs true passes rest = inr (record { attr = a; has = inl refl; passes = passes })
some_by p a attrs false passes (inl none) = inl none
some_by p a attrs false passes (inr found) = inr (record { attr = found.attr; has = inr found.has; passes = found.passes })

some_passes : (p : Attr → Bool) (attrs : List Attr) → (filter p attrs ≡ []) ⊎ IsSome p attrs
some_passes p [] = inl refl
some_passes p (a ∷ attrs) = some_by p a attrs (p a) refl (some_passes p attrs)

no_stream : (kind : ℕ) (name : List ℕ) (attrs : List Attr) → filter (is_attribute_of kind name) attrs ≡ [] → stream_of kind name attrs ≡ None
unfolding stream_of attributes_of
no_stream kind name attrs none = ap (λ (found : List Attr). joined (sorted_into [] found)) none

-- a stream has an attribute
has_attribute : (kind : ℕ) (name : List ℕ) (attrs : List Attr) (s : Stream) → stream_of kind name attrs ≡ Some s → IsSome (is_attribute_of kind name) attrs
has_attribute kind name attrs s is = elim (some_passes (is_attribute_of kind name) attrs) [
  | inl none ↦ absurd (let never : ◌≡◌ {A = Option Stream} None (Some s) = sym (no_stream kind name attrs none) ∙ is in cc)
  | inr found ↦ found
]

-- ---- a live block stands in the list

lies_nowhere : (per : ℕ) (kind : BlockKind) (n : ℕ) (b : Block) → block_at per [] kind n ≡ Some b → ⊥
unfolding block_at
lies_nowhere per kind n b is = absurd cc

blocks_have : (per : ℕ) (kind : BlockKind) (e : Extents) (n : ℕ) (b : Block) → block_at per e.runs kind n ≡ Some b → 512 * (sectors kind * n) < e.initialised → Has b (blocks_in per kind (Some (Placed e)))
unfolding blocks_in
blocks_have per kind e n b lies begins =
    let below = begun_above kind n e.initialised begins in
    has_filtered (block_at per e.runs kind) n b (range_with_len 0 (begun (512 * sectors kind) e.initialised)) (range_has n 0 (begun (512 * sectors kind) e.initialised) (omega arith) (omega (arith, below))) lies

past_none : (files : List (Option Record)) (n : ℕ) (r : Record) → get_or files n None ≡ Some r → n < length files
past_none [] n r is = absurd cc
past_none (f ∷ files) zero r is = omega arith
past_none (f ∷ files) (suc n) r is = let lt : n < length files = past_none files n r is in omega (arith, lt)

only_some : (o : Option Record) (r : Record) → only_base o ≡ Some r → (q : Record) × (o ≡ Some q)
only_some None r is = absurd cc
only_some (Some q) r is = (q, refl)

number_below : (files : List (Option Record)) (n : ℕ) (r : Record) → file_at (table_in files) n ≡ Some r → n < length files
unfolding file_at
number_below files n r is = let found = only_some (get_or files n None) r is in past_none files n found.0 found.1

module _ (v : Volume) (b : Block) (key : StreamKey) (n : ℕ) where
  in_attr : (r : Record) (a : Attr) (e : Extents) → is_attribute_of key.kind key.name a ≡ true → stream_of key.kind key.name r.attrs ≡ Some (Placed e) → block_at v.per e.runs (stream_kind key) n ≡ Some b
      → 512 * (sectors (stream_kind key) * n) < e.initialised → Has b (attr_blocks v.per key.file r.attrs a)
  in_attr r a e passes is lies begins =
      let same = attribute_kind key.kind key.name a passes in
      subst (λ (kind : ℕ). Has b (blocks_in v.per (stream_kind (record { file = key.file; kind = kind; name = a.name })) (stream_of kind a.name r.attrs))) (sym same.0)
      (subst (λ (name : List ℕ). Has b (blocks_in v.per (stream_kind (record { file = key.file; kind = key.kind; name = name })) (stream_of key.kind name r.attrs))) (sym same.1)
      (subst (λ (s : Option Stream). Has b (blocks_in v.per (stream_kind key) s)) (sym is) (blocks_have v.per (stream_kind key) e n b lies begins)))

  in_stream : (r : Record) (s : Option Stream) → stream_of key.kind key.name r.attrs ≡ s → block_at v.per (runs_in s) (stream_kind key) n ≡ Some b → 512 * (sectors (stream_kind key) * n) < initialised_in s
      → Has b (file_blocks v.per key.file (Some r))
  in_stream r None is lies begins = absurd (lies_nowhere v.per (stream_kind key) n b lies)
  in_stream r (Some (Held value)) is lies begins = absurd (lies_nowhere v.per (stream_kind key) n b lies)
  in_stream r (Some (Placed e)) is lies begins =
      let found = has_attribute key.kind key.name r.attrs (Placed e) is in
      has_flat (attr_blocks v.per key.file r.attrs) found.attr b r.attrs found.has (in_attr r found.attr e found.passes is lies begins)

  in_file : (o : Option Record) → file_in v key.file ≡ o → block_at v.per (runs_in (file_stream key.kind key.name o)) (stream_kind key) n ≡ Some b
      → 512 * (sectors (stream_kind key) * n) < initialised_in (file_stream key.kind key.name o) → Has b (live_blocks v)
  unfolding live_in
  in_file None is lies begins = absurd (lies_nowhere v.per (stream_kind key) n b lies)
  in_file (Some r) is lies begins =
      has_flat (λ m. file_blocks v.per m (file_at (table_in v.files) m)) key.file b (range_with_len 0 (length v.files)) (range_has key.file 0 (length v.files) (omega arith) (omega (arith, number_below v.files key.file r is)))
      (subst (λ (o : Option Record). Has b (file_blocks v.per key.file o)) (sym is) (in_stream r (stream_of key.kind key.name r.attrs) refl lies begins))

live_is_in : (v : Volume) (b : Block) → IsLive v b → Has b (live_blocks v)
live_is_in v b live = in_file v b live.owned.stream live.owned.number (file_in v live.owned.stream.file) refl live.owned.lies live.begins

pub live_has : (v : Volume) (b : Block) → IsLive v b → Contains (live_blocks v) b
live_has v b live = contains_has (live_blocks v) b (live_is_in v b live)

-- ---- and only live ones do

make_live : (v : Volume) (b : Block) (key : StreamKey) (n : ℕ) (e : Extents) → stream_at v key ≡ Some (Placed e) → block_at v.per e.runs (stream_kind key) n ≡ Some b → 512 * (sectors (stream_kind key) * n) < e.initialised → IsLive v b
make_live v b key n e is lies begins = record {
  owned = record { stream = key; number = n; lies = ap (λ (s : Option Stream). block_at v.per (runs_in s) (stream_kind key) n) is ∙ lies };
  begins = subst (λ (s : Option Stream). 512 * (sectors (stream_kind key) * n) < initialised_in s) (sym is) begins;
}

from_stream : (v : Volume) (b : Block) (key : StreamKey) (s : Option Stream) → stream_at v key ≡ s → Has b (blocks_in v.per (stream_kind key) s) → IsLive v b
unfolding blocks_in
from_stream v b key None is has = absurd has
from_stream v b key (Some (Held value)) is has = absurd has
from_stream v b key (Some (Placed e)) is has =
    let kind = stream_kind key in
    let given = filtered_has (block_at v.per e.runs kind) b (range_with_len 0 (begun (512 * sectors kind) e.initialised)) has in
    let below = range_below given.by 0 (begun (512 * sectors kind) e.initialised) given.has in
    make_live v b key given.by e is given.gives (below_begun kind given.by e.initialised (omega (arith, below)))

from_file : (v : Volume) (b : Block) (n : ℕ) (o : Option Record) → file_in v n ≡ o → Has b (file_blocks v.per n o) → IsLive v b
from_file v b n None is has = absurd has
from_file v b n (Some r) is has =
    let found = flat_has (attr_blocks v.per n r.attrs) b r.attrs has in
    from_stream v b (stream_key n found.of) (stream_of found.of.head.kind found.of.name r.attrs) (ap (λ (o : Option Record). file_stream found.of.head.kind found.of.name o) is) found.inside

in_is_live : (v : Volume) (b : Block) → Has b (live_blocks v) → IsLive v b
unfolding live_in
in_is_live v b has =
    let found = flat_has (λ m. file_blocks v.per m (file_at (table_in v.files) m)) b (range_with_len 0 (length v.files)) has in
    from_file v b found.of (file_in v found.of) refl found.inside

pub has_live : (v : Volume) (b : Block) → Contains (live_blocks v) b → IsLive v b
has_live v b contains = in_is_live v b (has_at (live_blocks v) b contains.0 contains.1 contains.2)

-- ---- what is said

below_none : (a : Option ℕ) → AtMost None a → a ≡ None
below_none None at_most = refl
below_none (Some x) at_most = absurd cc

below_some : (x y : ℕ) → AtMost (Some x) (Some y) → x ≤ y
below_some x y at_most = let same : min x y ≡ x = cc in omega (arith, same)

said_at_most : (said : Block → Option ℕ) (v : Volume) (b : Block) → IsLive v b → AtMost (least_live said v) (said b)
unfolding least_live
said_at_most said v b live = least_at_most said b (live_blocks v) (live_is_in v b live)

pub none_said_live : (said : Block → Option ℕ) (v : Volume) (b : Block) → least_live said v ≡ None → IsLive v b → said b ≡ None
none_said_live said v b none live = below_none (said b) (subst (λ (o : Option ℕ). AtMost o (said b)) none (said_at_most said v b live))

pub least_below : (said : Block → Option ℕ) (v : Volume) (lsn other : ℕ) (b : Block) → least_live said v ≡ Some lsn → IsLive v b → said b ≡ Some other → lsn ≤ other
least_below said v lsn other b least live is =
    below_some lsn other (subst (λ (o : Option ℕ). AtMost (Some lsn) o) is (subst (λ (o : Option ℕ). AtMost o (said b)) least (said_at_most said v b live)))

-- one of these gives it
record IsFrom (f : Block → Option ℕ) (xs : List Block) (x : ℕ) : Type 0 where
  from : Block
  has : Has from xs
  gives : f from ≡ Some x

from_one : (f : Block → Option ℕ) (b : Block) (bs : List Block) (x : ℕ) (o rest : Option ℕ) → f b ≡ o → ((y : ℕ) → rest ≡ Some y → IsFrom f bs y) → lesser o rest ≡ Some x → IsFrom f (b ∷ bs) x
from_one f b bs x None rest here later is = let r = later x is in record { from = r.from; has = inr r.has; gives = r.gives }
from_one f b bs x (Some y) None here later is = record { from = b; has = inl refl; gives = here ∙ is }
from_one f b bs x (Some y) (Some z) here later is =
    let least : min y z ≡ x = cc in
    elim (cases_lt z y) [
      | inl lt ↦ (let same : z ≡ x = omega (arith, lt, least) in let r = later z refl in record { from = r.from; has = inr r.has; gives = r.gives ∙ ap (λ (n : ℕ). Some n) same })
      | inr le ↦ (let same : y ≡ x = omega (arith, le, least) in record { from = b; has = inl refl; gives = here ∙ ap (λ (n : ℕ). Some n) same })
    ]

least_from : (f : Block → Option ℕ) (bs : List Block) (x : ℕ) → least_of f bs ≡ Some x → IsFrom f bs x
least_from f [] x is = absurd cc
least_from f (b ∷ bs) x is = from_one f b bs x (f b) (least_of f bs) refl (least_from f bs) is

pub least_is_of : (said : Block → Option ℕ) (v : Volume) (lsn : ℕ) → least_live said v ≡ Some lsn → (b : Block) × IsLive v b × (said b ≡ Some lsn)
unfolding least_live
least_is_of said v lsn is = let found = least_from said (live_blocks v) lsn is in (found.from, in_is_live v found.from found.has, found.gives)
