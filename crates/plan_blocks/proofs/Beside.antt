-- What a record shows beside the blocks of its index and their bitmap.
use Rattle.std.proofs.Common.{◌≡◌, ◌≢◌, ◌⊎◌, ℕ, ◌+◌, Bool, true, false, not, ◌&&◌, ◌||◌, cond, eqb, ltb, nat_eq, List, [], ◌∷◌, ◌++◌, Option, Some, None, refl, sym, ap, ap₂, ◌∙◌, inl, inr, arith}
use Rattle.std.specs.Prelude.{filter, find, All}
use Rattle.std.specs.List.{list_all, list_any, filter_map, flat_map, cons_option, sum_by}
use Rattle.std.specs.Cmp.Lexicographic.{pointwise}
use Rattle.std.proofs.lemmas.Bool.{cases_Bool, and_parts, and_from, or_left, or_right, or_from, both_ways, false_from_ne_true, ne_eqb, eq-eqb}
use Rattle.std.proofs.lemmas.List.Sums.{sum_by-cons}
use Rattle.std.proofs.lemmas.List.Elements.{All-filter}
use Rattle.record_model.specs.declared.attribute.Attr.{Attr}
use Rattle.record_model.specs.declared.attribute.OwnForm.{OwnForm}
use Rattle.record_model.specs.declared.attribute.OwnForm.TheVariants.{Resident, Mapped}
use Rattle.record_model.specs.declared.runs.Run.{Run}
use Rattle.record_model.specs.Records.{Record}
use Rattle.record_model.specs.Constants.{standard_information, file_name, index_root, index_allocation, bitmap_type, names_index}
use Rattle.file_tree.specs.declared.link.Link.{Link}
use Rattle.host_base.specs.declared.file_ref.FileRef.{FileRef}
use Rattle.state_model.specs.declared.stream.Extents.{Extents}
use Rattle.state_model.specs.declared.stream.Stream.{Stream}
use Rattle.state_model.specs.declared.stream.Stream.TheVariants.{Held, Placed}
use Rattle.state_model.specs.Files.{form_link, attr_link, reference, record_links, is_directory_record, has_type, attr_info, info_of}
use Rattle.state_model.specs.Indexes.{is_names_root}
use Rattle.state_model.specs.Loads.{extents_or, total_clusters}
use Rattle.state_model.specs.Rules.{keeps_names}
use Rattle.state_model.specs.Streams.{is_attribute_of, attributes_of, sorted_into, attribute_runs, joined, stream_of}
use Rattle.volume_model.specs.Indexes.{attr_value, root_value, index_stream}
use Rattle.volume_model.specs.Nodes.{first_flags}
use Rattle.volume_model.specs.Owners.{file_runs, uses}
use Rattle.volume_model.specs.Sizes.{are_joined, fits_volume, keeps_stream}
use Rattle.stream_laws.proofs.Sharing.{attr_uses, uses-none, uses-flat_map, attributes_sum, attribute_kind}
use Rattle.plan_edits.specs.plan_growth.Streams.{IsWritten}
use Rattle.plan_edits.proofs.plan_growth.Placed.{same_or_other}
use Rattle.plan_edits.proofs.plan_growth.Written.{Reads, written_types, written_directory, written_links, written_root, written_info, written_stream, written_flags, written_runs, written_sizes}
use Rattle.plan_blocks.specs.Blocks.{is_of_blocks, beside_blocks, used_stream, HasNoPlace, HasBlocks}

-- ---- tests that none of these attributes passes

abbrev pub Misses : (Attr → Bool) → Type 0
Misses q = (a : Attr) → is_of_blocks a ≡ true → q a ≡ false

-- one of the two streams
pub which_blocks : (a : Attr) → is_of_blocks a ≡ true → (is_attribute_of index_allocation names_index a ≡ true) ⊎ (is_attribute_of bitmap_type names_index a ≡ true)
unfolding is_of_blocks
which_blocks a is = elim (cases_Bool (is_attribute_of index_allocation names_index a)) [
  | inl one ↦ inl one
  | inr other ↦ inr (sym (ap (λ (t : Bool). t || is_attribute_of bitmap_type names_index a) other) ∙ is)
]

its_type : (a : Attr) → is_of_blocks a ≡ true → (a.head.kind ≡ index_allocation) ⊎ (a.head.kind ≡ bitmap_type)
its_type a is = elim (which_blocks a is) [
  | inl one ↦ inl (attribute_kind index_allocation names_index a one).0
  | inr two ↦ inr (attribute_kind bitmap_type names_index a two).0
]

pub other_type : (t : ℕ) → t ≢ index_allocation → t ≢ bitmap_type → Misses (λ a. eqb a.head.kind t)
other_type t one two a is = elim (its_type a is) [
  | inl same ↦ ne_eqb a.head.kind t (λ e. one (sym e ∙ same))
  | inr same ↦ ne_eqb a.head.kind t (λ e. two (sym e ∙ same))
]

pub no_root : Misses is_names_root
unfolding is_names_root
no_root a is = none_of (eqb a.head.kind index_root) _ (other_type index_root (λ e. omega (arith, e)) (λ e. omega (arith, e)) a is)
  where
    none_of : (x y : Bool) → x ≡ false → (x && y) ≡ false
    none_of true y never = absurd cc
    none_of false y never = refl

-- the stream is neither of the two
pub record IsBeside (kind : ℕ) (name : List ℕ) : Type 0 where
  pub blocks : (kind ≢ index_allocation) ⊎ (name ≢ names_index)
  pub bits : (kind ≢ bitmap_type) ⊎ (name ≢ names_index)

pub differs : (kind other : ℕ) (name alias : List ℕ) (a : Attr) → (kind ≢ other) ⊎ (name ≢ alias) → is_attribute_of other alias a ≡ true → is_attribute_of kind name a ≡ false
differs kind other name alias a (inl types) is = false_from_ne_true (is_attribute_of kind name a) (λ own. types (sym (attribute_kind kind name a own).0 ∙ (attribute_kind other alias a is).0))
differs kind other name alias a (inr names) is = false_from_ne_true (is_attribute_of kind name a) (λ own. names (sym (attribute_kind kind name a own).1 ∙ (attribute_kind other alias a is).1))

pub other_stream : (kind : ℕ) (name : List ℕ) → IsBeside kind name → Misses (is_attribute_of kind name)
other_stream kind name beside a is = elim (which_blocks a is) [
  | inl one ↦ differs kind index_allocation name names_index a beside.blocks one
  | inr two ↦ differs kind bitmap_type name names_index a beside.bits two
]

-- ---- what is read without them

pub filter_bare : (q : Attr → Bool) → Misses q → (attrs : List Attr) → filter q (beside_blocks attrs) ≡ filter q attrs
filter_bare q misses [] = refl
filter_bare q misses (a ∷ attrs) = elim (cases_Bool (is_of_blocks a)) [
  | inl is ↦ rw (is, misses a is) (filter_bare q misses attrs)
  | inr is ↦ rw is (ap (λ (l : List Attr). cond (q a) (a ∷ l) l) (filter_bare q misses attrs))
]

any_bare : (q : Attr → Bool) → Misses q → (attrs : List Attr) → list_any q (beside_blocks attrs) ≡ list_any q attrs
any_bare q misses [] = refl
any_bare q misses (a ∷ attrs) = elim (cases_Bool (is_of_blocks a)) [
  | inl is ↦ rw (is, misses a is) (any_bare q misses attrs)
  | inr is ↦ rw is (ap (λ (t : Bool). q a || t) (any_bare q misses attrs))
]

find_bare : (q : Attr → Bool) → Misses q → (attrs : List Attr) → find q (beside_blocks attrs) ≡ find q attrs
find_bare q misses [] = refl
find_bare q misses (a ∷ attrs) = elim (cases_Bool (is_of_blocks a)) [
  | inl is ↦ rw (is, misses a is) (find_bare q misses attrs)
  | inr is ↦ rw is (ap (λ (o : Option Attr). cond (q a) (Some a) o) (find_bare q misses attrs))
]

no_link : (child : FileRef) (a : Attr) → eqb a.head.kind file_name ≡ false → attr_link child a ≡ None
unfolding attr_link
no_link child a is = ap (λ (t : Bool). cond t (form_link child a.form) None) is

links_bare : (child : FileRef) (attrs : List Attr) → filter_map (attr_link child) (beside_blocks attrs) ≡ filter_map (attr_link child) attrs
links_bare child [] = refl
links_bare child (a ∷ attrs) = elim (cases_Bool (is_of_blocks a)) [
  | inl is ↦
      (let none : attr_link child a ≡ None = no_link child a (other_type file_name (λ e. omega (arith, e)) (λ e. omega (arith, e)) a is) in
      rw is (links_bare child attrs ∙ sym (ap (λ (o : Option Link). cons_option o (filter_map (attr_link child) attrs)) none)))
  | inr is ↦ rw is (ap (cons_option (attr_link child a)) (links_bare child attrs))
]

pieces_bare : (kind : ℕ) (name : List ℕ) → IsBeside kind name → (attrs : List Attr) → attributes_of kind name (beside_blocks attrs) ≡ attributes_of kind name attrs
unfolding attributes_of
pieces_bare kind name beside attrs = ap (sorted_into []) (filter_bare (is_attribute_of kind name) (other_stream kind name beside) attrs)

stream_bare : (kind : ℕ) (name : List ℕ) → IsBeside kind name → (attrs : List Attr) → stream_of kind name (beside_blocks attrs) ≡ stream_of kind name attrs
unfolding stream_of
stream_bare kind name beside attrs = ap joined (pieces_bare kind name beside attrs)

-- ---- sums

pub from_one : (b : Attr) → is_attribute_of index_allocation names_index b ≡ true → is_of_blocks b ≡ true
unfolding is_of_blocks
from_one b one = or_left _ _ one

pub from_two : (b : Attr) → is_attribute_of bitmap_type names_index b ≡ true → is_of_blocks b ≡ true
unfolding is_of_blocks
from_two b two = or_right _ _ two

from_none : (b : Attr) → is_attribute_of index_allocation names_index b ≡ false → is_attribute_of bitmap_type names_index b ≡ false → is_of_blocks b ≡ false
unfolding is_of_blocks
from_none b one two = or_from _ _ one two

blocks_sum : (q : Attr → ℕ) (attrs : List Attr) → sum_by q (beside_blocks attrs) + (sum_by q (filter (is_attribute_of index_allocation names_index) attrs) + sum_by q (filter (is_attribute_of bitmap_type names_index) attrs)) ≡ sum_by q attrs
blocks_sum q [] = refl
blocks_sum q (a ∷ attrs) =
    let rest = blocks_sum q attrs in
    let whole = sum_by-cons q a attrs in
    elim (cases_Bool (is_attribute_of index_allocation names_index a)) [
      | inl one ↦
          (let not_two : is_attribute_of bitmap_type names_index a ≡ false = differs bitmap_type index_allocation names_index names_index a (inl (λ e. omega (arith, e))) one in
          let is : is_of_blocks a ≡ true = from_one a one in
          rw (is, one, not_two) (omega (arith, rest, whole, sum_by-cons q a (filter (is_attribute_of index_allocation names_index) attrs))))
      | inr not_one ↦ elim (cases_Bool (is_attribute_of bitmap_type names_index a)) [
        | inl two ↦ (let is : is_of_blocks a ≡ true = from_two a two in rw (is, not_one, two) (omega (arith, rest, whole, sum_by-cons q a (filter (is_attribute_of bitmap_type names_index) attrs))))
        | inr not_two ↦ (let is : is_of_blocks a ≡ false = from_none a not_one not_two in rw (is, not_one, not_two) (omega (arith, rest, whole, sum_by-cons q a (beside_blocks attrs))))
      ]
    ]

-- ---- the clusters of a stream

held_runs : (a : Attr) (others : List Attr) → attribute_runs a ≡ [] → are_joined (a ∷ others) ≡ true → flat_map attribute_runs (a ∷ others) ≡ []
held_runs a [] none lawful = ap (λ (l : List Run). l ++ []) none
held_runs a (b ∷ others) none lawful =
    let some = (and_parts _ _ (and_parts _ _ lawful).0).1 in
    absurd (both_ways (ltb 0 (total_clusters (attribute_runs a))) (ap (λ (l : List Run). ltb 0 (total_clusters l)) none) some)

no_runs : (a : Attr) (value : List ℕ) (indexed : ℕ) → a.form ≡ Resident value indexed → attribute_runs a ≡ []
unfolding attribute_runs
no_runs a value indexed is = rw is refl

by_form : (form : OwnForm) (a : Attr) (others : List Attr) → a.form ≡ form → are_joined (a ∷ others) ≡ true → flat_map attribute_runs (a ∷ others) ≡ (extents_or (joined (a ∷ others))).runs
by_form (Resident value indexed) a others is lawful =
    let as_held : joined (a ∷ others) ≡ Some (Held value) = rw is refl in
    held_runs a others (no_runs a value indexed is) lawful ∙ sym (ap (λ (o : Option Stream). (extents_or o).runs) as_held)
by_form (Mapped sizes pairs) a others is lawful =
    let as_placed : joined (a ∷ others) ≡ Some (Placed (record { runs = flat_map attribute_runs (a ∷ others); allocated = sizes.allocated; real = sizes.real; initialised = sizes.initialised })) = rw is refl in
    sym (ap (λ (o : Option Stream). (extents_or o).runs) as_placed)

joined_runs : (attributes : List Attr) → are_joined attributes ≡ true → flat_map attribute_runs attributes ≡ (extents_or (joined attributes)).runs
joined_runs [] lawful = refl
joined_runs (a ∷ others) lawful = by_form a.form a others refl lawful

stream_sum : (kind : ℕ) (name : List ℕ) (attrs : List Attr) (x : ℕ) → are_joined (attributes_of kind name attrs) ≡ true → sum_by (attr_uses x) (filter (is_attribute_of kind name) attrs) ≡ uses (extents_or (stream_of kind name attrs)).runs x
unfolding stream_of
stream_sum kind name attrs x lawful =
    sym (attributes_sum (attr_uses x) kind name attrs) ∙ sym (uses-flat_map attribute_runs (attributes_of kind name attrs) x) ∙ ap (λ (l : List Run). uses l x) (joined_runs (attributes_of kind name attrs) lawful)

-- ---- all attributes

all_bare : (Q : Attr → Bool) (attrs : List Attr) → ((a : Attr) → is_of_blocks a ≡ true → Q a ≡ true) → list_all Q (beside_blocks attrs) ≡ true → list_all Q attrs ≡ true
all_bare Q [] here all = refl
all_bare Q (a ∷ attrs) here all = elim (cases_Bool (is_of_blocks a)) [
  | inl is ↦ and_from _ _ (here a is) (all_bare Q attrs here (rw is at all))
  | inr is ↦ (let parts = and_parts (Q a) (list_all Q (beside_blocks attrs)) (rw is at all) in and_from _ _ parts.0 (all_bare Q attrs here parts.1))
]

all_less : (P Q : Attr → Bool) (attrs : List Attr) → ((a : Attr) → is_of_blocks a ≡ false → Q a ≡ P a) → list_all P attrs ≡ true → list_all Q (beside_blocks attrs) ≡ true
all_less P Q [] same all = refl
all_less P Q (a ∷ attrs) same all =
    let parts = and_parts (P a) (list_all P attrs) all in
    elim (cases_Bool (is_of_blocks a)) [
      | inl is ↦ rw is (all_less P Q attrs same parts.1)
      | inr is ↦ rw is (and_from _ _ (same a is ∙ parts.0) (all_less P Q attrs same parts.1))
    ]

all_more : (P Q : Attr → Bool) (attrs : List Attr) → ((a : Attr) → is_of_blocks a ≡ false → Q a ≡ P a) → list_all P (beside_blocks attrs) ≡ true → list_all Q (beside_blocks attrs) ≡ true
all_more P Q [] same all = refl
all_more P Q (a ∷ attrs) same all = elim (cases_Bool (is_of_blocks a)) [
  | inl is ↦ rw is (all_more P Q attrs same (rw is at all))
  | inr is ↦ (let parts = and_parts (P a) (list_all P (beside_blocks attrs)) (rw is at all) in rw is (and_from _ _ (same a is ∙ parts.0) (all_more P Q attrs same parts.1)))
]

-- the stream of an attribute beside them is beside them
own_beside : (a : Attr) → is_of_blocks a ≡ false → IsBeside a.head.kind a.name
unfolding is_of_blocks is_attribute_of
own_beside a is = record { blocks = other index_allocation (or_none _ _ is).0; bits = other bitmap_type (or_none _ _ is).1 }
  where
    or_none : (x y : Bool) → (x || y) ≡ false → (x ≡ false) × (y ≡ false)
    or_none true y none = absurd cc
    or_none false y none = (refl, none)

    itself : (xs : List ℕ) → pointwise nat_eq xs xs ≡ true
    itself [] = refl
    itself (x ∷ xs) = and_from _ _ (eq-eqb x x refl) (itself xs)

    other : (kind : ℕ) → (eqb a.head.kind kind && pointwise nat_eq a.name names_index) ≡ false → (a.head.kind ≢ kind) ⊎ (a.name ≢ names_index)
    other kind none = elim (same_or_other kind a.head.kind names_index a.name) [
      | inl same ↦ absurd (both_ways (eqb a.head.kind kind && pointwise nat_eq a.name names_index) none (and_from _ _ (eq-eqb a.head.kind kind same.0) (ap (λ (l : List ℕ). pointwise nat_eq l names_index) same.1 ∙ itself names_index)))
      | inr differ ↦ differ
    ]

kept_bare : (size clusters : ℕ) (attrs : List Attr) (a : Attr) → is_of_blocks a ≡ false → keeps_stream size clusters (beside_blocks attrs) a ≡ keeps_stream size clusters attrs a
unfolding keeps_stream
kept_bare size clusters attrs a is =
    let beside = own_beside a is in
    ap₂ (λ (l : List Attr) (o : Option Stream). eqb a.head.kind file_name || (are_joined l && fits_volume size clusters o)) (pieces_bare a.head.kind a.name beside attrs) (stream_bare a.head.kind a.name beside attrs)

-- ---- the record

abbrev pub bare : Record → Record
bare r = record { head = r.head; attrs = beside_blocks r.attrs }

module _ (r s : Record) (f : Extents) (k : HasBlocks r s f) (reads : All Reads r.attrs) where
  written : IsWritten (bare r) (bare s)
  written = record { seq = k.seq; flags = k.flags; base = k.base; attrs = k.others }

  reads_bare : All Reads (bare r).attrs
  reads_bare = All-filter (λ (a : Attr). not (is_of_blocks a)) Reads r.attrs reads

  pub same_types : (t : ℕ) → t ≢ index_allocation → t ≢ bitmap_type → has_type t s ≡ has_type t r
  unfolding has_type
  same_types t one two =
      let misses : Misses (λ a. eqb a.head.kind t) = other_type t one two in
      sym (any_bare (λ a. eqb a.head.kind t) misses s.attrs) ∙ written_types (bare r) (bare s) written reads_bare t ∙ any_bare (λ a. eqb a.head.kind t) misses r.attrs

  pub same_directory : is_directory_record s ≡ is_directory_record r
  same_directory = written_directory (bare r) (bare s) written reads_bare

  pub same_links : (n : ℕ) → record_links n s ≡ record_links n r
  unfolding record_links
  same_links n = sym (links_bare (reference n s) s.attrs) ∙ written_links (bare r) (bare s) written reads_bare n ∙ links_bare (reference n r) r.attrs

  pub same_names : (n : ℕ) (links : List Link) → keeps_names n s links ≡ keeps_names n r links
  unfolding keeps_names
  same_names n links = rw (same_types standard_information (λ e. omega (arith, e)) (λ e. omega (arith, e)), same_directory) refl

  pub same_root : root_value s ≡ root_value r
  unfolding root_value
  same_root = sym (ap attr_value (find_bare is_names_root no_root s.attrs)) ∙ written_root (bare r) (bare s) written reads_bare ∙ ap attr_value (find_bare is_names_root no_root r.attrs)

  pub same_info : info_of s ≡ info_of r
  unfolding info_of
  same_info =
      let misses : Misses (λ a. eqb a.head.kind standard_information) = other_type standard_information (λ e. omega (arith, e)) (λ e. omega (arith, e)) in
      sym (ap attr_info (find_bare (λ a. eqb a.head.kind standard_information) misses s.attrs))
      ∙ written_info (bare r) (bare s) written reads_bare
      ∙ ap attr_info (find_bare (λ a. eqb a.head.kind standard_information) misses r.attrs)

  pub same_stream : (kind : ℕ) (name : List ℕ) → IsBeside kind name → stream_of kind name s.attrs ≡ stream_of kind name r.attrs
  same_stream kind name beside = sym (stream_bare kind name beside s.attrs) ∙ written_stream (bare r) (bare s) written reads_bare kind name ∙ stream_bare kind name beside r.attrs

  pub same_flags : (kind : ℕ) (name : List ℕ) → IsBeside kind name → first_flags (attributes_of kind name s.attrs) ≡ first_flags (attributes_of kind name r.attrs)
  same_flags kind name beside =
      sym (ap first_flags (pieces_bare kind name beside s.attrs)) ∙ written_flags (bare r) (bare s) written reads_bare kind name ∙ ap first_flags (pieces_bare kind name beside r.attrs)

  -- ---- its clusters

  uses_of : (x : ℕ) (q : Record) → are_joined (attributes_of index_allocation names_index q.attrs) ≡ true → are_joined (attributes_of bitmap_type names_index q.attrs) ≡ true
      → uses (file_runs (Some (bare q))) x + (uses (extents_or (index_stream q)).runs x + uses (extents_or (used_stream q)).runs x) ≡ uses (file_runs (Some q)) x
  unfolding index_stream
  uses_of x q one two =
      let sums = blocks_sum (attr_uses x) q.attrs in
      let less : uses (file_runs (Some (bare q))) x ≡ sum_by (attr_uses x) (beside_blocks q.attrs) = uses-flat_map attribute_runs (beside_blocks q.attrs) x in
      let all : uses (file_runs (Some q)) x ≡ sum_by (attr_uses x) q.attrs = uses-flat_map attribute_runs q.attrs x in
      let first = stream_sum index_allocation names_index q.attrs x one in
      let second = stream_sum bitmap_type names_index q.attrs x two in
      omega (arith, sums, less, all, first, second)

  no_clusters : (o : Option Stream) → HasNoPlace o → (x : ℕ) → uses (extents_or o).runs x ≡ 0
  no_clusters None none x = uses-none x
  no_clusters (Some (Held value)) none x = uses-none x
  no_clusters (Some (Placed e)) none x = absurd none

  same_bits : (x : ℕ) → uses (extents_or (used_stream s)).runs x ≡ uses (extents_or (used_stream r)).runs x
  same_bits x = elim k.bits [
    | inl stays ↦ ap (λ (o : Option Stream). uses (extents_or o).runs x) stays
    | inr value ↦ ap (λ (o : Option Stream). uses (extents_or o).runs x) value.1 ∙ uses-none x ∙ sym (no_clusters (used_stream r) value.2 x)
  ]

  pub blocks_uses : (x : ℕ) → are_joined (attributes_of index_allocation names_index r.attrs) ≡ true → are_joined (attributes_of bitmap_type names_index r.attrs) ≡ true
      → uses (file_runs (Some s)) x + uses (extents_or (index_stream r)).runs x ≡ uses (file_runs (Some r)) x + uses f.runs x
  blocks_uses x one two =
      let now = uses_of x s k.joined k.bits_joined in
      let was = uses_of x r one two in
      let kept : uses (file_runs (Some (bare s))) x ≡ uses (file_runs (Some (bare r))) x = ap (λ (l : List Run). uses l x) (written_runs (bare r) (bare s) written reads_bare) in
      let new : uses (extents_or (index_stream s)).runs x ≡ uses f.runs x = ap (λ (o : Option Stream). uses (extents_or o).runs x) k.blocks in
      let bits = same_bits x in
      omega (arith, now, was, kept, new, bits)

  -- ---- its streams keep their rule

  pub blocks_kept : (size clusters : ℕ) → fits_volume size clusters (Some (Placed f)) ≡ true → fits_volume size clusters (used_stream s) ≡ true → list_all (keeps_stream size clusters r.attrs) r.attrs ≡ true → list_all (keeps_stream size clusters s.attrs) s.attrs ≡ true
  unfolding keeps_stream index_stream
  blocks_kept size clusters fits bits_fit old =
      let less = all_less (keeps_stream size clusters r.attrs) (keeps_stream size clusters (beside_blocks r.attrs)) r.attrs (kept_bare size clusters r.attrs) old in
      let there : list_all (keeps_stream size clusters (beside_blocks s.attrs)) (beside_blocks s.attrs) ≡ true = written_sizes (bare r) (bare s) written reads_bare size clusters ∙ less in
      let more = all_more (keeps_stream size clusters (beside_blocks s.attrs)) (keeps_stream size clusters s.attrs) s.attrs (λ a is. sym (kept_bare size clusters s.attrs a is)) there in
      all_bare (keeps_stream size clusters s.attrs) s.attrs own more
    where
      of_stream : (kind : ℕ) (a : Attr) → is_attribute_of kind names_index a ≡ true → are_joined (attributes_of kind names_index s.attrs) ≡ true → fits_volume size clusters (stream_of kind names_index s.attrs) ≡ true → keeps_stream size clusters s.attrs a ≡ true
      of_stream kind a is one two =
          let which = attribute_kind kind names_index a is in
          or_right _ _
          (and_from _ _
          (ap₂ (λ (t : ℕ) (l : List ℕ). are_joined (attributes_of t l s.attrs)) which.0 which.1 ∙ one)
          (ap₂ (λ (t : ℕ) (l : List ℕ). fits_volume size clusters (stream_of t l s.attrs)) which.0 which.1 ∙ two))

      own : (a : Attr) → is_of_blocks a ≡ true → keeps_stream size clusters s.attrs a ≡ true
      own a is = elim (which_blocks a is) [
        | inl one ↦ of_stream index_allocation a one k.joined (ap (fits_volume size clusters) k.blocks ∙ fits)
        | inr two ↦ of_stream bitmap_type a two k.bits_joined bits_fit
      ]
