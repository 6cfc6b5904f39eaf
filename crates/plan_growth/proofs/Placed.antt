-- What of a record stays where a stream of it stands in other clusters, and what its streams and clusters become.
use Rattle.std.proofs.Common.{◌≡◌, ◌≢◌, ◌⊎◌, ℕ, ◌+◌, Bool, true, false, ◌&&◌, ◌||◌, cond, eqb, nat_eq, List, [], ◌∷◌, ◌++◌, Option, Some, None, refl, sym, ap, ap₂, subst, ◌∙◌, inl, inr, arith}
use Rattle.std.specs.Prelude.{filter, find, All}
use Rattle.std.specs.List.{list_all, list_any, filter_map, flat_map, cons_option, sum_by}
use Rattle.std.specs.Cmp.Lexicographic.{pointwise}
use Rattle.std.proofs.lemmas.Bool.{cases_Bool, cases_eq, and_parts, and_from, or_left, or_right, both_ways, ne_eqb, eq-eqb}
use Rattle.std.proofs.lemmas.List.Sums.{sum_by-cons}
use Rattle.std.proofs.lemmas.List.Elements.{All-nil, All-cons, All-head, All-filter}
use Rattle.plan_model.specs.record_model.declared.attribute.Attr.{Attr}
use Rattle.plan_model.specs.record_model.declared.attribute.OwnForm.{OwnForm}
use Rattle.plan_model.specs.record_model.declared.attribute.OwnForm.TheVariants.{Resident, Mapped}
use Rattle.plan_model.specs.record_model.declared.runs.Run.{Run}
use Rattle.plan_model.specs.record_model.Records.{Record}
use Rattle.plan_model.specs.record_model.declared.record.RecHead.{RecHead}
use Rattle.plan_model.specs.record_model.Pairs.{HasSpelling}
use Rattle.plan_model.specs.record_model.Constants.{standard_information, file_name, index_root}
use Rattle.plan_model.specs.file_tree.declared.link.Link.{Link}
use Rattle.host_base.specs.declared.file_ref.FileRef.{FileRef}
use Rattle.plan_model.specs.state_model.declared.stream.Extents.{Extents}
use Rattle.plan_model.specs.state_model.declared.stream.Stream.{Stream}
use Rattle.plan_model.specs.state_model.declared.stream.Stream.TheVariants.{Placed}
use Rattle.plan_model.specs.state_model.Files.{form_link, attr_link, reference, record_links, is_directory_record, has_type, attr_info, info_of}
use Rattle.plan_model.specs.state_model.Indexes.{is_names_root}
use Rattle.plan_model.specs.state_model.Rules.{keeps_names}
use Rattle.plan_model.specs.state_model.Streams.{is_attribute_of, attributes_of, attribute_runs, joined, stream_of}
use Rattle.plan_model.specs.volume_model.Indexes.{attr_value, root_value}
use Rattle.plan_model.specs.volume_model.Owners.{file_runs, uses}
use Rattle.plan_model.specs.volume_model.Sizes.{are_joined, fits_volume, keeps_stream}
use Rattle.plan_model.specs.stream_laws.Sharing.{runs_in}
use Rattle.plan_model.proofs.stream_laws.Sharing.{attr_uses, uses-flat_map, attributes_sum, attribute_kind, same_from_test}
use Rattle.resized_streams.specs.record_streams.Placing.{without_stream, with_stream, placed_attr, placed_first, placed_record}
use Rattle.resized_streams.proofs.record_streams.Kept.{all_with as with_all, all_of_stream}
use Rattle.resized_streams.proofs.record_streams.Streams.{placed_is, first_passes, own_with, others_with, placed_one, placed_stream, placed_others, some_by}

-- ---- what a test says of a list, by what passes

pub head_of : List Attr → Option Attr
head_of [] = None
head_of (a ∷ attrs) = Some a

some_of : List Attr → Bool
some_of [] = false
some_of (a ∷ attrs) = true

pub find_by_filter : (q : Attr → Bool) (attrs : List Attr) → find q attrs ≡ head_of (filter q attrs)
unfolding head_of
find_by_filter q [] = refl
find_by_filter q (a ∷ attrs) = elim (cases_Bool (q a)) [
  | inl is ↦ rw is refl
  | inr is ↦ rw is (find_by_filter q attrs)
]

any_by_filter : (q : Attr → Bool) (attrs : List Attr) → list_any q attrs ≡ some_of (filter q attrs)
unfolding some_of
any_by_filter q [] = refl
any_by_filter q (a ∷ attrs) = elim (cases_Bool (q a)) [
  | inl is ↦ rw is refl
  | inr is ↦ rw is (any_by_filter q attrs)
]

pub no_link : (child : FileRef) (a : Attr) → eqb a.head.kind file_name ≡ false → attr_link child a ≡ None
unfolding attr_link
no_link child a is = ap (λ (t : Bool). cond t (form_link child a.form) None) is

links_step : (child : FileRef) (a : Attr) (attrs rest : List Attr) (t : Bool) → eqb a.head.kind file_name ≡ t → filter_map (attr_link child) attrs ≡ filter_map (attr_link child) rest → filter_map (attr_link child) (a ∷ attrs) ≡ filter_map (attr_link child) (cond t (a ∷ rest) rest)
links_step child a attrs rest true is same = ap (cons_option (attr_link child a)) same
links_step child a attrs rest false is same = ap (λ (o : Option Link). cons_option o (filter_map (attr_link child) attrs)) (no_link child a is) ∙ same

links_by_filter : (child : FileRef) (attrs : List Attr) → filter_map (attr_link child) attrs ≡ filter_map (attr_link child) (filter (λ a. eqb a.head.kind file_name) attrs)
links_by_filter child [] = refl
links_by_filter child (a ∷ attrs) = links_step child a attrs (filter (λ x. eqb x.head.kind file_name) attrs) (eqb a.head.kind file_name) refl (links_by_filter child attrs)

-- ---- sums over attributes

without_sum : (f : Attr → ℕ) (kind : ℕ) (name : List ℕ) (attrs : List Attr) → sum_by f (without_stream kind name attrs) + sum_by f (filter (is_attribute_of kind name) attrs) ≡ sum_by f attrs
without_sum f kind name [] = refl
without_sum f kind name (a ∷ attrs) =
    let rest = without_sum f kind name attrs in
    elim (cases_Bool (is_attribute_of kind name a)) [
      | inl is ↦ rw is (omega (arith, rest, sum_by-cons f a (filter (is_attribute_of kind name) attrs), sum_by-cons f a attrs))
      | inr is ↦ rw is (omega (arith, rest, sum_by-cons f a (without_stream kind name attrs), sum_by-cons f a attrs))
    ]

with_sum : (f : Attr → ℕ) (kind : ℕ) (name : List ℕ) (new : Attr) (attrs : List Attr) (b : Attr) (rest : List Attr) → filter (is_attribute_of kind name) attrs ≡ b ∷ rest
    → sum_by f (with_stream kind name new attrs) + sum_by f (filter (is_attribute_of kind name) attrs) ≡ sum_by f attrs + f new
with_sum f kind name new [] b rest some = absurd cc
with_sum f kind name new (a ∷ attrs) b rest some = elim (cases_Bool (is_attribute_of kind name a)) [
  | inl is ↦
      rw is (omega (arith, without_sum f kind name attrs, sum_by-cons f new (without_stream kind name attrs), sum_by-cons f a (filter (is_attribute_of kind name) attrs), sum_by-cons f a attrs))
  | inr is ↦
      (let less : filter (is_attribute_of kind name) attrs ≡ b ∷ rest = sym (ap (λ (t : Bool). cond t (a ∷ filter (is_attribute_of kind name) attrs) (filter (is_attribute_of kind name) attrs)) is) ∙ some in
      rw is (omega (arith, with_sum f kind name new attrs b rest less, sum_by-cons f a (with_stream kind name new attrs), sum_by-cons f a attrs)))
]

-- ---- all attributes

all_without : (Q : Attr → Bool) (kind : ℕ) (name : List ℕ) (attrs : List Attr) → ((a : Attr) → is_attribute_of kind name a ≡ false → Q a ≡ true) → list_all Q (without_stream kind name attrs) ≡ true
all_without Q kind name [] each = refl
all_without Q kind name (a ∷ attrs) each = elim (cases_Bool (is_attribute_of kind name a)) [
  | inl is ↦ rw is (all_without Q kind name attrs each)
  | inr is ↦ rw is (and_from _ _ (each a is) (all_without Q kind name attrs each))
]

-- those of the stream keep it, and so do the others, where they kept another test
all_with : (P Q : Attr → Bool) (kind : ℕ) (name : List ℕ) (new : Attr) (attrs : List Attr) → ((a : Attr) → is_attribute_of kind name a ≡ true → Q a ≡ true) → ((a : Attr) → is_attribute_of kind name a ≡ false → Q a ≡ P a) → Q new ≡ true → list_all P attrs ≡ true → list_all Q (with_stream kind name new attrs) ≡ true
all_with P Q kind name new [] own others here all = refl
all_with P Q kind name new (a ∷ attrs) own others here all =
    let parts = and_parts (P a) (list_all P attrs) all in
    elim (cases_Bool (is_attribute_of kind name a)) [
      | inl is ↦ rw is (and_from _ _ here (kept attrs parts.1))
      | inr is ↦ rw is (and_from _ _ (others a is ∙ parts.0) (all_with P Q kind name new attrs own others here parts.1))
    ]
  where
    kept : (more : List Attr) → list_all P more ≡ true → list_all Q (without_stream kind name more) ≡ true
    kept [] all = refl
    kept (b ∷ more) all =
        let parts = and_parts (P b) (list_all P more) all in
        elim (cases_Bool (is_attribute_of kind name b)) [
          | inl is ↦ rw is (kept more parts.1)
          | inr is ↦ rw is (and_from _ _ (others b is ∙ parts.0) (kept more parts.1))
        ]

-- ---- which stream

-- one is the other stream, or differs in type or name
pub same_or_other : (kind other : ℕ) (name alias : List ℕ) → ((other ≡ kind) × (alias ≡ name)) ⊎ ((other ≢ kind) ⊎ (alias ≢ name))
same_or_other kind other name alias = elim (cases_eq other kind) [
  | inl one ↦ elim (cases_Bool (pointwise nat_eq alias name)) [
    | inl same ↦ inl (one, same_from_test alias name same)
    | inr differ ↦ inr (inr (λ e. both_ways (pointwise nat_eq alias name) differ (ap (λ (l : List ℕ). pointwise nat_eq l name) e ∙ itself name)))
  ]
  | inr two ↦ inr (inl two)
]
  where
    itself : (xs : List ℕ) → pointwise nat_eq xs xs ≡ true
    itself [] = refl
    itself (x ∷ xs) = and_from _ _ (eq-eqb x x refl) (itself xs)

of_another : (kind : ℕ) (name : List ℕ) (a : Attr) → is_attribute_of kind name a ≡ false → (a.head.kind ≢ kind) ⊎ (a.name ≢ name)
unfolding is_attribute_of
of_another kind name a is = elim (same_or_other kind a.head.kind name a.name) [
  | inl same ↦ absurd (both_ways (is_attribute_of kind name a) is (and_from _ _ (eq-eqb a.head.kind kind same.0) (ap (λ (l : List ℕ). pointwise nat_eq l name) same.1 ∙ itself name)))
  | inr differ ↦ differ
]
  where
    itself : (xs : List ℕ) → pointwise nat_eq xs xs ≡ true
    itself [] = refl
    itself (x ∷ xs) = and_from _ _ (eq-eqb x x refl) (itself xs)

-- ---- the runs of a stream in clusters

by_form : (form : OwnForm) (a : Attr) (others : List Attr) (e : Extents) → a.form ≡ form → joined (a ∷ others) ≡ Some (Placed e) → e.runs ≡ flat_map attribute_runs (a ∷ others)
by_form (Resident value indexed) a others e form is = absurd cc
by_form (Mapped sizes pairs) a others e form is =
    let as_placed : Option Stream = Some (Placed (record { runs = flat_map attribute_runs (a ∷ others); allocated = sizes.allocated; real = sizes.real; initialised = sizes.initialised })) in
    let same : joined (a ∷ others) ≡ as_placed = rw form refl in
    ap runs_in (sym is ∙ same)

pub some_attributes : (attributes : List Attr) (s : Stream) → joined attributes ≡ Some s → (a : Attr) × (others : List Attr) × (attributes ≡ a ∷ others)
some_attributes [] s is = absurd cc
some_attributes (a ∷ others) s is = (a, others, refl)

pub runs_of_attributes : (attributes : List Attr) (e : Extents) → joined attributes ≡ Some (Placed e) → e.runs ≡ flat_map attribute_runs attributes
runs_of_attributes [] e is = absurd cc
runs_of_attributes (a ∷ others) e is = by_form a.form a others e refl is

-- an attribute of the stream has its type
own_type : (kind : ℕ) (name : List ℕ) (attrs : List Attr) (b : Attr) (rest : List Attr) → filter (is_attribute_of kind name) attrs ≡ b ∷ rest → list_any (λ (x : Attr). eqb x.head.kind kind) attrs ≡ true
own_type kind name [] b rest is = absurd cc
own_type kind name (x ∷ attrs) b rest is = elim (cases_Bool (is_attribute_of kind name x)) [
  | inl own ↦ or_left _ _ (eq-eqb x.head.kind kind (attribute_kind kind name x own).0)
  | inr other ↦ or_right _ _ (own_type kind name attrs b rest (sym (ap (λ (t : Bool). cond t (x ∷ filter (is_attribute_of kind name) attrs) (filter (is_attribute_of kind name) attrs)) other) ∙ is))
]

pub stream_type : (kind : ℕ) (name : List ℕ) (r : Record) (a : Attr) (more : List Attr) → attributes_of kind name r.attrs ≡ a ∷ more → has_type kind r ≡ true
unfolding attributes_of has_type
stream_type kind name r a more some = (let first = some_by (filter (is_attribute_of kind name) r.attrs) a more some in own_type kind name r.attrs first.0 first.1 first.2)

-- ---- a record in which a stream is placed

module _ (per kind : ℕ) (name : List ℕ) (f : Extents) (r : Record) (a : Attr) (more : List Attr) (some : attributes_of kind name r.attrs ≡ a ∷ more) (spelled : HasSpelling 0 f.runs) where
  abbrev new : Attr
  new = placed_attr per f a

  abbrev s : Record
  s = placed_record per kind name f r

  abbrev whole : Record
  whole = record { head = r.head; attrs = with_stream kind name (placed_attr per f a) r.attrs }

  same_record : s ≡ whole
  same_record = ap (placed_first per kind name f r) some

  attrs_are : s.attrs ≡ with_stream kind name new r.attrs
  attrs_are = ap (λ (x : Record). x.attrs) same_record

  passes : is_attribute_of kind name a ≡ true
  passes = first_passes kind name r.attrs a more some

  new_passes : is_attribute_of kind name new ≡ true
  new_passes = placed_is per kind name f a true passes

  pub placed_head : s.head ≡ r.head
  placed_head = ap (λ (x : Record). x.head) same_record

  first_own : (b : Attr) × (rest : List Attr) × (filter (is_attribute_of kind name) r.attrs ≡ b ∷ rest)
  unfolding attributes_of
  first_own = some_by (filter (is_attribute_of kind name) r.attrs) a more some

  -- what passes a test stays, where none of the stream's attributes does
  pub stays : (q : Attr → Bool) → ((b : Attr) → is_attribute_of kind name b ≡ true → q b ≡ false) → filter q s.attrs ≡ filter q r.attrs
  stays q spares = ap (filter q) attrs_are ∙ others_with q kind name new r.attrs spares (spares new new_passes)

  pub placed_find : (q : Attr → Bool) → ((b : Attr) → is_attribute_of kind name b ≡ true → q b ≡ false) → find q s.attrs ≡ find q r.attrs
  placed_find q spares = find_by_filter q s.attrs ∙ ap head_of (stays q spares) ∙ sym (find_by_filter q r.attrs)

  other_type : (t : ℕ) → t ≢ kind → (b : Attr) → is_attribute_of kind name b ≡ true → eqb b.head.kind t ≡ false
  other_type t other b is = ne_eqb b.head.kind t (λ e. other (sym e ∙ (attribute_kind kind name b is).0))

  pub placed_types : (t : ℕ) → has_type t s ≡ has_type t r
  unfolding has_type
  placed_types t = elim (cases_eq t kind) [
    | inl own ↦
        (let test : ℕ → Record → Bool = λ k x. list_any (λ (y : Attr). eqb y.head.kind k) x.attrs in
        ap (λ (k : ℕ). test k s) own
        ∙ ap (test kind) same_record
        ∙ own_type kind name (with_stream kind name new r.attrs) new [] (own_with kind name new r.attrs first_own.0 first_own.1 new_passes first_own.2)
        ∙ sym (own_type kind name r.attrs first_own.0 first_own.1 first_own.2)
        ∙ sym (ap (λ (k : ℕ). test k r) own))
    | inr other ↦
        any_by_filter (λ (x : Attr). eqb x.head.kind t) s.attrs ∙ ap some_of (stays (λ (x : Attr). eqb x.head.kind t) (other_type t other)) ∙ sym (any_by_filter (λ (x : Attr). eqb x.head.kind t) r.attrs)
  ]

  pub placed_directory : is_directory_record s ≡ is_directory_record r
  placed_directory = ap is_directory_record same_record

  pub placed_links : (n : ℕ) → file_name ≢ kind → record_links n s ≡ record_links n r
  unfolding record_links
  placed_links n other =
      ap (λ (q : ℕ). filter_map (attr_link (record { number = n; seq = q })) s.attrs) (ap (λ (h : RecHead). h.seq) placed_head)
      ∙ links_by_filter (reference n r) s.attrs
      ∙ ap (filter_map (attr_link (reference n r))) (stays (λ (x : Attr). eqb x.head.kind file_name) (other_type file_name other))
      ∙ sym (links_by_filter (reference n r) r.attrs)

  pub placed_names : (n : ℕ) (links : List Link) → keeps_names n s links ≡ keeps_names n r links
  unfolding keeps_names
  placed_names n links = rw (placed_types standard_information, placed_directory) refl

  pub placed_info : standard_information ≢ kind → info_of s ≡ info_of r
  unfolding info_of
  placed_info other = ap attr_info (placed_find (λ (x : Attr). eqb x.head.kind standard_information) (other_type standard_information other))

  pub placed_root : index_root ≢ kind → root_value s ≡ root_value r
  unfolding root_value is_names_root
  placed_root other = ap attr_value (placed_find is_names_root (λ b is. no_root (eqb b.head.kind index_root) _ (other_type index_root other b is)))
    where
      no_root : (x y : Bool) → x ≡ false → (x && y) ≡ false
      no_root true y is = absurd cc
      no_root false y is = refl

  pub placed_is_there : stream_of kind name s.attrs ≡ Some (Placed f)
  placed_is_there = placed_stream per kind name f r a more some spelled

  pub other_pieces : (other : ℕ) (alias : List ℕ) → (other ≢ kind) ⊎ (alias ≢ name) → attributes_of other alias s.attrs ≡ attributes_of other alias r.attrs
  other_pieces other alias differ = placed_others per kind other name alias f r differ

  pub other_stream : (other : ℕ) (alias : List ℕ) → (other ≢ kind) ⊎ (alias ≢ name) → stream_of other alias s.attrs ≡ stream_of other alias r.attrs
  unfolding stream_of
  other_stream other alias differ = ap joined (other_pieces other alias differ)

  pub placed_all : (P : Attr → Type 0) → P new → All P r.attrs → All P s.attrs
  placed_all P here all = subst (All P) (sym attrs_are) (with_all P kind name new r.attrs here all)

  -- ---- its clusters

  runs_read : attribute_runs new ≡ f.runs
  unfolding stream_of
  runs_read =
      let one = placed_one per kind name f r a more some in
      let here : joined (new ∷ []) ≡ Some (Placed f) = sym (ap joined one) ∙ placed_is_there in
      sym (runs_of_attributes (new ∷ []) f here ∙ only (attribute_runs new))
    where
      only : (l : List Run) → l ++ [] ≡ l
      only [] = refl
      only (x ∷ l) = ap (λ (m : List Run). x ∷ m) (only l)

  -- the clusters of the stream's attributes go, and those of its new runs come
  pub placed_uses : (x : ℕ) → uses (file_runs (Some s)) x + uses (flat_map attribute_runs (attributes_of kind name r.attrs)) x ≡ uses (file_runs (Some r)) x + uses f.runs x
  placed_uses x =
      let now : uses (file_runs (Some s)) x ≡ sum_by (attr_uses x) (with_stream kind name new r.attrs) = ap (λ (l : List Attr). uses (flat_map attribute_runs l) x) attrs_are ∙ uses-flat_map attribute_runs (with_stream kind name new r.attrs) x in
      let before : uses (file_runs (Some r)) x ≡ sum_by (attr_uses x) r.attrs = uses-flat_map attribute_runs r.attrs x in
      let own : uses (flat_map attribute_runs (attributes_of kind name r.attrs)) x ≡ sum_by (attr_uses x) (attributes_of kind name r.attrs) = uses-flat_map attribute_runs (attributes_of kind name r.attrs) x in
      let new_uses : attr_uses x new ≡ uses f.runs x = ap (λ (l : List Run). uses l x) runs_read in
      let sums = with_sum (attr_uses x) kind name new r.attrs first_own.0 first_own.1 first_own.2 in
      let parts = attributes_sum (attr_uses x) kind name r.attrs in
      omega (arith, now, before, own, new_uses, sums, parts)

  -- ---- its streams keep their rule

  own_kept : (size clusters : ℕ) (b : Attr) → fits_volume size clusters (Some (Placed f)) ≡ true → is_attribute_of kind name b ≡ true → keeps_stream size clusters s.attrs b ≡ true
  unfolding keeps_stream
  own_kept size clusters b fits is =
      let which = attribute_kind kind name b is in
      let one = placed_one per kind name f r a more some in
      or_right _ _
      (and_from _ _
      (ap₂ (λ (k : ℕ) (l : List ℕ). are_joined (attributes_of k l s.attrs)) which.0 which.1 ∙ ap are_joined one)
      (ap₂ (λ (k : ℕ) (l : List ℕ). fits_volume size clusters (stream_of k l s.attrs)) which.0 which.1 ∙ ap (fits_volume size clusters) placed_is_there ∙ fits))

  others_kept : (size clusters : ℕ) (b : Attr) → is_attribute_of kind name b ≡ false → keeps_stream size clusters s.attrs b ≡ keeps_stream size clusters r.attrs b
  unfolding keeps_stream
  others_kept size clusters b is =
      let differ = of_another kind name b is in
      ap₂ (λ (l : List Attr) (o : Option Stream). eqb b.head.kind file_name || (are_joined l && fits_volume size clusters o)) (other_pieces b.head.kind b.name differ) (other_stream b.head.kind b.name differ)

  pub placed_sizes : (size clusters : ℕ) → fits_volume size clusters (Some (Placed f)) ≡ true → list_all (keeps_stream size clusters r.attrs) r.attrs ≡ true → list_all (keeps_stream size clusters s.attrs) s.attrs ≡ true
  placed_sizes size clusters fits old =
      ap (list_all (keeps_stream size clusters s.attrs)) attrs_are
      ∙ all_with (keeps_stream size clusters r.attrs) (keeps_stream size clusters s.attrs) kind name new r.attrs (λ b. own_kept size clusters b fits) (others_kept size clusters) (own_kept size clusters new fits new_passes) old

-- ---- the rule of a stream that a file has

all_from : (Q : Attr → Bool) (attrs : List Attr) → list_all Q attrs ≡ true → All (λ a. Q a ≡ true) attrs
all_from Q [] all = All-nil (λ a. Q a ≡ true)
all_from Q (a ∷ attrs) all = (let parts = and_parts (Q a) (list_all Q attrs) all in All-cons (λ x. Q x ≡ true) a attrs parts.0 (all_from Q attrs parts.1))

pub stream_rule : (size clusters kind : ℕ) (name : List ℕ) (r : Record) (a : Attr) (more : List Attr) → file_name ≢ kind → attributes_of kind name r.attrs ≡ a ∷ more → list_all (keeps_stream size clusters r.attrs) r.attrs ≡ true
    → (are_joined (attributes_of kind name r.attrs) ≡ true) × (fits_volume size clusters (stream_of kind name r.attrs) ≡ true)
unfolding keeps_stream
stream_rule size clusters kind name r a more no_name some all =
    let Q : Attr → Bool = keeps_stream size clusters r.attrs in
    let P : Attr → Type 0 = λ x. Q x ≡ true in
    let each = all_of_stream P kind name r.attrs (All-filter (is_attribute_of kind name) P r.attrs (all_from Q r.attrs all)) in
    let first : Q a ≡ true = All-head P a more (subst (All P) some each) in
    let own = attribute_kind kind name a (first_passes kind name r.attrs a more some) in
    let not_name : eqb a.head.kind file_name ≡ false = ne_eqb a.head.kind file_name (λ e. no_name (sym e ∙ own.0)) in
    let parts = and_parts (are_joined (attributes_of a.head.kind a.name r.attrs)) (fits_volume size clusters (stream_of a.head.kind a.name r.attrs)) (sym (ap (λ (t : Bool). t || (are_joined (attributes_of a.head.kind a.name r.attrs) && fits_volume size clusters (stream_of a.head.kind a.name r.attrs))) not_name) ∙ first) in (
      sym (ap₂ (λ (x : ℕ) (l : List ℕ). are_joined (attributes_of x l r.attrs)) own.0 own.1) ∙ parts.0,
      sym (ap₂ (λ (x : ℕ) (l : List ℕ). fits_volume size clusters (stream_of x l r.attrs)) own.0 own.1) ∙ parts.1,
    )
