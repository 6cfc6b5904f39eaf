-- Records in which attributes are put in, taken out or replaced.
use Rattle.std.proofs.Common.{◌≡◌, ℕ, ◌+◌, ◌/◌, ◌%◌, Bool, true, false, ◌&&◌, ◌||◌, cond, eqb, List, [], ◌∷◌, ◌++◌, find, Option, Some, None, refl, sym, ap, ap₂, ◌∙◌, arith, inl, inr}
use Rattle.std.specs.List.{filter, filter_map, flat_map, cons_option, list_all, list_any, AllByRecursion}
use Rattle.std.proofs.lemmas.Bool.{and_parts, and_from, or_left}
use Rattle.std.proofs.lemmas.List.{append-nil}
use Rattle.std.proofs.lemmas.List.Elements.{filter-append}
use Rattle.std.proofs.lemmas.List.Concat.{flat_map-append}
use Rattle.index_change.specs.record_model.declared.attribute.OwnForm.{OwnForm}
use Rattle.index_change.specs.record_model.declared.attribute.Attr.{Attr}
use Rattle.index_change.specs.record_model.declared.runs.Run.{Run}
use Rattle.index_change.specs.record_model.Records.{Record}
use Rattle.index_change.specs.record_model.Constants.{file_name, standard_information, data_type, bitmap_type, index_allocation, names_index}
use Rattle.index_change.specs.file_tree.declared.link.Link.{Link}
use Rattle.index_change.specs.state_model.declared.stream.Stream.{Stream}
use Rattle.index_change.specs.state_model.declared.stream.Stream.TheVariants.{Placed}
use Rattle.index_change.specs.state_model.Files.{attr_link, reference, record_links, has_type, attr_info, info_of, is_directory_record}
use Rattle.index_change.specs.state_model.Rules.{keeps_names}
use Rattle.index_change.specs.state_model.Streams.{form_first, is_attribute_of, sorted_into, attributes_of, attribute_runs, form_stream, joined, stream_of}
use Rattle.index_change.specs.volume_model.Owners.{file_runs, uses}
use Rattle.index_change.specs.volume_model.Sizes.{are_joined, fits_volume, keeps_stream, keeps_streams}
use Rattle.plan_owners.proofs.stream_laws.Placing.{uses-append}
use Rattle.plan_owners.specs.tree_laws.Keeping.{PartReplaced}
use Rattle.plan_model.specs.Parts.{ReplacesAttrs, NonePass, IsOfAnother, SparesBlocks, JoinsPieces}
use Rattle.plan_model.proofs.OneRecord.{streams_test, by_test}
use Rattle.plan_bodies.specs.disk_model.Content.{Content}
use Rattle.index_change.specs.volume_model.Volumes.{Volume}
use Rattle.plan_model.proofs.Rewriting.{names_with}

-- ---- lists

filter_map-append : {X Y : Type 0} (f : X → Option Y) (xs ys : List X) → filter_map f (xs ++ ys) ≡ filter_map f xs ++ filter_map f ys
filter_map-append f [] ys = refl
filter_map-append {X} {Y} f (x ∷ xs) ys = ap (cons_option (f x)) (filter_map-append f xs ys) ∙ by (f x)
  where
    by : (o : Option Y) → cons_option o (filter_map f xs ++ filter_map f ys) ≡ cons_option o (filter_map f xs) ++ filter_map f ys
    by None = refl
    by (Some y) = refl

none_kept : (test : Attr → Bool) (xs : List Attr) → AllByRecursion (λ a. test a ≡ false) xs → filter test xs ≡ []
none_kept test [] all = refl
none_kept test (x ∷ xs) all = rw (all.0) (none_kept test xs all.1)

find_past : (test : Attr → Bool) (xs ys : List Attr) → AllByRecursion (λ a. test a ≡ false) xs → find test (xs ++ ys) ≡ find test ys
find_past test [] ys all = refl
find_past test (x ∷ xs) ys all = rw (all.0) (find_past test xs ys all.1)

find_around : (test : Attr → Bool) (front part behind : List Attr) → AllByRecursion (λ a. test a ≡ false) part → find test (front ++ (part ++ behind)) ≡ find test (front ++ behind)
find_around test [] part behind all = find_past test part behind all
find_around test (x ∷ front) part behind all = ap (λ (o : Option Attr). cond (test x) (Some x) o) (find_around test front part behind all)

any_past : (test : Attr → Bool) (xs ys : List Attr) → AllByRecursion (λ a. test a ≡ false) xs → list_any test (xs ++ ys) ≡ list_any test ys
any_past test [] ys all = refl
any_past test (x ∷ xs) ys all = ap (λ (t : Bool). t || list_any test (xs ++ ys)) all.0 ∙ any_past test xs ys all.1

any_around : (test : Attr → Bool) (front part behind : List Attr) → AllByRecursion (λ a. test a ≡ false) part → list_any test (front ++ (part ++ behind)) ≡ list_any test (front ++ behind)
any_around test [] part behind all = any_past test part behind all
any_around test (x ∷ front) part behind all = ap (λ (t : Bool). test x || t) (any_around test front part behind all)

filter_around : (test : Attr → Bool) (front part behind : List Attr) → AllByRecursion (λ a. test a ≡ false) part → filter test (front ++ (part ++ behind)) ≡ filter test front ++ filter test behind
filter_around test front part behind all =
    filter-append test front (part ++ behind) ∙ ap (λ (l : List Attr). filter test front ++ l) (filter-append test part behind ∙ ap (λ (l : List Attr). l ++ filter test behind) (none_kept test part all))

module _ (part new_part : List Attr) (r s : Record) (k : ReplacesAttrs part new_part r s) where
  filters_same : (test : Attr → Bool) → NonePass test part new_part → filter test s.attrs ≡ filter test r.attrs
  filters_same test none =
      ap (filter test) k.attrs.is ∙ filter_around test k.attrs.front new_part k.attrs.behind none.come
      ∙ sym (ap (filter test) k.attrs.was ∙ filter_around test k.attrs.front part k.attrs.behind none.gone)

  finds_same : (test : Attr → Bool) → NonePass test part new_part → find test s.attrs ≡ find test r.attrs
  finds_same test none =
      ap (find test) k.attrs.is ∙ find_around test k.attrs.front new_part k.attrs.behind none.come
      ∙ sym (ap (find test) k.attrs.was ∙ find_around test k.attrs.front part k.attrs.behind none.gone)

  pub types_same : (kind : ℕ) → NonePass (λ a. eqb a.head.kind kind) part new_part → has_type kind s ≡ has_type kind r
  unfolding has_type
  types_same kind none =
      let test : Attr → Bool = λ a. eqb a.head.kind kind in
      ap (list_any test) k.attrs.is ∙ any_around test k.attrs.front new_part k.attrs.behind none.come
      ∙ sym (ap (list_any test) k.attrs.was ∙ any_around test k.attrs.front part k.attrs.behind none.gone)

  pub info_same : NonePass (λ a. eqb a.head.kind standard_information) part new_part → info_of s ≡ info_of r
  unfolding info_of
  info_same none = ap attr_info (finds_same (λ a. eqb a.head.kind standard_information) none)

  pub attributes_same : (kind : ℕ) (name : List ℕ) → NonePass (is_attribute_of kind name) part new_part → attributes_of kind name s.attrs ≡ attributes_of kind name r.attrs
  unfolding attributes_of
  attributes_same kind name none = ap (sorted_into []) (filters_same (is_attribute_of kind name) none)

  pub stream_same : (kind : ℕ) (name : List ℕ) → NonePass (is_attribute_of kind name) part new_part → stream_of kind name s.attrs ≡ stream_of kind name r.attrs
  unfolding stream_of
  stream_same kind name none = ap joined (attributes_same kind name none)

  pub names_same : (n : ℕ) (links : List Link) → NonePass (λ a. eqb a.head.kind standard_information) part new_part → keeps_names n s links ≡ keeps_names n r links
  unfolding keeps_names
  names_same n links none = ap₂ (names_with n links) (ap (λ (f : ℕ). eqb (f / 2 % 2) 1) k.flags) (types_same standard_information none)

  -- ---- names and clusters

  spread : {Y : Type 0} (f : Attr → Option Y) (xs ys zs : List Attr) → filter_map f (xs ++ (ys ++ zs)) ≡ filter_map f xs ++ (filter_map f ys ++ filter_map f zs)
  spread {Y} f xs ys zs = filter_map-append f xs (ys ++ zs) ∙ ap (λ (l : List Y). filter_map f xs ++ l) (filter_map-append f ys zs)

  pub links_replaced : (n : ℕ) → PartReplaced (filter_map (attr_link (reference n r)) part) (filter_map (attr_link (reference n r)) new_part) (record_links n r) (record_links n s)
  unfolding record_links
  links_replaced n =
      let f : Attr → Option Link = attr_link (reference n r) in
      record {
        front = filter_map f k.attrs.front;
        behind = filter_map f k.attrs.behind;
        was = ap (filter_map f) k.attrs.was ∙ spread f k.attrs.front part k.attrs.behind;
        is = ap (λ (q : ℕ). filter_map (attr_link (record { number = n; seq = q })) s.attrs) k.seq ∙ ap (filter_map f) k.attrs.is ∙ spread f k.attrs.front new_part k.attrs.behind;
      }

  around : (xs ys zs : List Attr) (x : ℕ) → uses (flat_map attribute_runs (xs ++ (ys ++ zs))) x ≡ uses (flat_map attribute_runs xs) x + (uses (flat_map attribute_runs ys) x + uses (flat_map attribute_runs zs) x)
  around xs ys zs x =
      ap (λ (l : List Run). uses l x) (flat_map-append attribute_runs xs (ys ++ zs) ∙ ap (λ (l : List Run). flat_map attribute_runs xs ++ l) (flat_map-append attribute_runs ys zs))
      ∙ uses-append (flat_map attribute_runs xs) (flat_map attribute_runs ys ++ flat_map attribute_runs zs) x
      ∙ ap (λ (n : ℕ). uses (flat_map attribute_runs xs) x + n) (uses-append (flat_map attribute_runs ys) (flat_map attribute_runs zs) x)

  pub uses_replaced : (x : ℕ) → uses (file_runs (Some s)) x + uses (flat_map attribute_runs part) x ≡ uses (file_runs (Some r)) x + uses (flat_map attribute_runs new_part) x
  uses_replaced x =
      let was = ap (λ (l : List Attr). uses (flat_map attribute_runs l) x) k.attrs.was ∙ around k.attrs.front part k.attrs.behind x in
      let is = ap (λ (l : List Attr). uses (flat_map attribute_runs l) x) k.attrs.is ∙ around k.attrs.front new_part k.attrs.behind x in
      omega (arith, was, is)

  -- ---- rule 4

  still_keeps : (per clusters : ℕ) (a : Attr) → NonePass (is_attribute_of a.head.kind a.name) part new_part → keeps_stream per clusters s.attrs a ≡ keeps_stream per clusters r.attrs a
  unfolding keeps_stream
  still_keeps per clusters a none =
      ap₂ (λ (l : List Attr) (o : Option Stream). eqb a.head.kind file_name || (are_joined l && fits_volume per clusters o)) (attributes_same a.head.kind a.name none) (stream_same a.head.kind a.name none)

  split_all : (test : Attr → Bool) (xs ys : List Attr) → list_all test (xs ++ ys) ≡ true → (list_all test xs ≡ true) × (list_all test ys ≡ true)
  split_all test [] ys all = (refl, all)
  split_all test (x ∷ xs) ys all = let parts = and_parts _ _ all in let rest = split_all test xs ys parts.1 in (and_from _ _ parts.0 rest.0, rest.1)

  join_all : (test : Attr → Bool) (xs ys : List Attr) → list_all test xs ≡ true → list_all test ys ≡ true → list_all test (xs ++ ys) ≡ true
  join_all test [] ys all more = more
  join_all test (x ∷ xs) ys all more = let parts = and_parts _ _ all in and_from _ _ parts.0 (join_all test xs ys parts.1 more)

  split_by : (P : Attr → Type 0) (xs ys : List Attr) → AllByRecursion P (xs ++ ys) → AllByRecursion P xs × AllByRecursion P ys
  split_by P [] ys all = (tt, all)
  split_by P (x ∷ xs) ys all = let rest = split_by P xs ys all.1 in ((all.0, rest.0), rest.1)

  one_still : (per clusters : ℕ) (a : Attr) → IsOfAnother part new_part a → keeps_stream per clusters r.attrs a ≡ true → keeps_stream per clusters s.attrs a ≡ true
  unfolding keeps_stream
  one_still per clusters a (inl name) kept = or_left (eqb a.head.kind file_name) _ name
  one_still per clusters a (inr none) kept = still_keeps per clusters a none ∙ kept

  all_still : (per clusters : ℕ) (xs : List Attr) → AllByRecursion (λ a. IsOfAnother part new_part a) xs → list_all (keeps_stream per clusters r.attrs) xs ≡ true → list_all (keeps_stream per clusters s.attrs) xs ≡ true
  all_still per clusters [] none kept = refl
  all_still per clusters (x ∷ xs) none kept = let parts = and_parts _ _ kept in and_from _ _ (one_still per clusters x none.0 parts.0) (all_still per clusters xs none.1 parts.1)

  pub sizes_replaced : (per clusters : ℕ) → list_all (keeps_stream per clusters r.attrs) r.attrs ≡ true → list_all (keeps_stream per clusters s.attrs) new_part ≡ true
      → AllByRecursion (λ a. IsOfAnother part new_part a) (k.attrs.front ++ k.attrs.behind) → list_all (keeps_stream per clusters s.attrs) s.attrs ≡ true
  sizes_replaced per clusters kept come others =
      let old : Attr → Bool = keeps_stream per clusters r.attrs in
      let new : Attr → Bool = keeps_stream per clusters s.attrs in
      let split = split_by (λ a. IsOfAnother part new_part a) k.attrs.front k.attrs.behind others in
      let was = split_all old k.attrs.front (part ++ k.attrs.behind) (sym (ap (list_all old) k.attrs.was) ∙ kept) in
      let rest = split_all old part k.attrs.behind was.1 in
      ap (list_all new) k.attrs.is
      ∙ join_all new k.attrs.front (new_part ++ k.attrs.behind) (all_still per clusters k.attrs.front split.0 was.0) (join_all new new_part k.attrs.behind come (all_still per clusters k.attrs.behind split.1 rest.1))

  pub streams_replaced : (c : Content) (v : Volume) (n : ℕ) → SparesBlocks part new_part → keeps_streams c v n r ≡ true → list_all (keeps_stream v.per v.clusters s.attrs) new_part ≡ true → AllByRecursion (λ a. IsOfAnother part new_part a) (k.attrs.front ++ k.attrs.behind)
      → keeps_streams c v n s ≡ true
  streams_replaced c v n spares kept come others =
      let old = and_parts _ _ (sym (by_test c v n r) ∙ kept) in
      let first = and_parts _ _ old.0 in
      let second = and_parts _ _ first.0 in
      let each = sizes_replaced v.per v.clusters second.0 come others in
      let directory : is_directory_record s ≡ is_directory_record r = ap (λ (f : ℕ). eqb (f / 2 % 2) 1) k.flags in
      by_test c v n s
      ∙ ap₂ (λ (t u : Bool). streams_test c v.per n t u (stream_of data_type [] s.attrs) (stream_of bitmap_type [] s.attrs) (stream_of index_allocation names_index s.attrs) (stream_of bitmap_type names_index s.attrs)) (each ∙ sym second.0) directory
      ∙ ap₂ (λ (o p : Option Stream). streams_test c v.per n (list_all (keeps_stream v.per v.clusters r.attrs) r.attrs) (is_directory_record r) o p (stream_of index_allocation names_index s.attrs) (stream_of bitmap_type names_index s.attrs)) (stream_same data_type [] spares.records) (stream_same bitmap_type [] spares.bits)
      ∙ ap₂ (λ (o p : Option Stream). streams_test c v.per n (list_all (keeps_stream v.per v.clusters r.attrs) r.attrs) (is_directory_record r) (stream_of data_type [] r.attrs) (stream_of bitmap_type [] r.attrs) o p) (stream_same index_allocation names_index spares.blocks) (stream_same bitmap_type names_index spares.used)
      ∙ sym (by_test c v n r)
      ∙ kept

-- ---- pieces that are joined

placed_with : List Run → ℕ → ℕ → ℕ → Option Stream
placed_with runs allocated real initialised = Some (Placed (record { runs = runs; allocated = allocated; real = real; initialised = initialised }))

pub joined_stream : (kind : ℕ) (name : List ℕ) (r s : Record) → JoinsPieces kind name r s → stream_of kind name s.attrs ≡ stream_of kind name r.attrs
unfolding stream_of placed_with
joined_stream kind name r s k =
    ap joined k.joined
    ∙ ap (λ (f : OwnForm). Some (form_stream f (attribute_runs k.one ++ []))) k.form
    ∙ ap (λ (l : List Run). placed_with l k.new_sizes.allocated k.new_sizes.real k.new_sizes.initialised) (append-nil (attribute_runs k.one) ∙ k.runs)
    ∙ ap₂ (λ (a b : ℕ). placed_with (flat_map attribute_runs (k.first ∷ k.others)) a b k.new_sizes.initialised) k.allocated k.real
    ∙ ap (λ (c : ℕ). placed_with (flat_map attribute_runs (k.first ∷ k.others)) k.sizes.allocated k.sizes.real c) k.initialised
    ∙ sym (ap (λ (f : OwnForm). Some (form_stream f (flat_map attribute_runs (k.first ∷ k.others)))) k.is_mapped)
    ∙ sym (ap joined k.pieces)

pub joined_one : (kind : ℕ) (name : List ℕ) (r s : Record) → JoinsPieces kind name r s → are_joined (attributes_of kind name s.attrs) ≡ true
joined_one kind name r s k = ap are_joined k.joined ∙ ap (λ (f : OwnForm). eqb (form_first f) 0) k.form ∙ ap (λ (n : ℕ). eqb n 0) k.begins
