-- A record as it is written stands for what the record stands for.
use Rattle.std.proofs.Common.{◌≡◌, ℕ, ◌+◌, Bool, true, false, ◌&&◌, ◌||◌, cond, eqb, ltb, List, [], ◌∷◌, ◌++◌, Option, Some, None, Result, Ok, Err, refl, sym, ap, ap₂, ◌∙◌}
use Rattle.std.specs.Prelude.{map, filter, find, All}
use Rattle.std.specs.List.{list_all, list_any, filter_map, flat_map, cons_option}
use Rattle.std.proofs.lemmas.Bool.{and_parts}
use Rattle.std.proofs.lemmas.List.{append-nil}
use Rattle.std.proofs.lemmas.List.Elements.{All-nil, All-cons, All-head, All-tail, All-filter}
use Rattle.host_base.specs.declared.file_ref.FileRef.{FileRef}
use Rattle.plan_model.specs.record_model.declared.attribute.Sizes.{Sizes}
use Rattle.plan_model.specs.record_model.declared.attribute.OwnForm.{OwnForm}
use Rattle.plan_model.specs.record_model.declared.attribute.OwnForm.TheVariants.{Resident, Mapped}
use Rattle.plan_model.specs.record_model.declared.attribute.Attr.{Attr}
use Rattle.plan_model.specs.record_model.declared.runs.Run.{Run}
use Rattle.plan_model.specs.record_model.declared.runs.PairsFault.{PairsFault}
use Rattle.plan_model.specs.record_model.Attributes.{filled}
use Rattle.plan_model.specs.record_model.Constants.{file_name, standard_information}
use Rattle.plan_model.specs.record_model.Pairs.{runs_of, pairs_of, HasSpelling}
use Rattle.plan_model.specs.record_model.Records.{Record}
use Rattle.plan_model.proofs.record_model.PairsRead.{spelled_read}
use Rattle.plan_model.proofs.record_model.PairsSpelled.{written_spelled}
use Rattle.plan_model.specs.file_tree.declared.link.Link.{Link}
use Rattle.plan_model.specs.state_model.declared.stream.Extents.{Extents}
use Rattle.plan_model.specs.state_model.declared.stream.Stream.{Stream}
use Rattle.plan_model.specs.state_model.Files.{form_link, attr_link, record_links, is_directory_record, has_type, form_info, attr_info, info_of}
use Rattle.plan_model.specs.state_model.Indexes.{is_names_root}
use Rattle.plan_model.specs.state_model.Loads.{total_clusters, span, form_fits, has_fitting_pairs}
use Rattle.plan_model.specs.state_model.Rules.{keeps_names}
use Rattle.plan_model.specs.state_model.Streams.{form_first, first_vcn, is_attribute_of, with_attribute, sorted_into, attributes_of, runs_or, attribute_runs, form_stream, joined, stream_of}
use Rattle.plan_model.specs.volume_model.Indexes.{form_value, attr_value, root_value}
use Rattle.plan_model.specs.volume_model.Nodes.{first_flags}
use Rattle.plan_model.specs.volume_model.Owners.{file_runs}
use Rattle.plan_model.specs.volume_model.Sizes.{follow, are_joined, fits_volume, keeps_stream}
use Rattle.resized_streams.specs.record_writer.Normal.{normal_form, normal}
use Rattle.resized_streams.proofs.record_writer.Filling.{filled_read}
use Rattle.resized_streams.specs.record_streams.Placing.{placed_attr}
use Rattle.resized_streams.proofs.record_streams.Kept.{all_of_stream}
use Rattle.plan_growth.specs.Streams.{IsWritten}

-- ---- one attribute

-- its runs are read so
abbrev pub Reads : Attr → Type 0
Reads a = attribute_runs (normal a) ≡ attribute_runs a

span_read : (sizes : Sizes) (first : ℕ) (pairs : List ℕ) (read : Result (List Run) PairsFault) → runs_of first pairs ≡ read → span sizes read ≡ true → runs_or (runs_of first (filled 0 pairs)) ≡ runs_or (runs_of first pairs)
span_read sizes first pairs (Ok runs) is fits = ap runs_or (filled_read first pairs runs is ∙ sym is)
span_read sizes first pairs (Err fault) is fits = absurd cc

form_reads : (a : Attr) (form : OwnForm) → a.form ≡ form → form_fits form ≡ true → attribute_runs (normal a) ≡ attribute_runs a
unfolding attribute_runs
form_reads a (Resident value indexed) is fits = rw is refl
form_reads a (Mapped sizes pairs) is fits = rw is (span_read sizes sizes.first pairs (runs_of sizes.first pairs) refl fits)

pub all_read : (attrs : List Attr) → list_all has_fitting_pairs attrs ≡ true → All Reads attrs
all_read [] fits = All-nil Reads
all_read (a ∷ attrs) fits = (let parts = and_parts (has_fitting_pairs a) (list_all has_fitting_pairs attrs) fits in All-cons Reads a attrs (form_reads a a.form refl parts.0) (all_read attrs parts.1))

pub placed_reads : (per : ℕ) (f : Extents) (a : Attr) → HasSpelling 0 f.runs → Reads (placed_attr per f a)
unfolding attribute_runs
placed_reads per f a spelled =
    let read : runs_of 0 (pairs_of f.runs) ≡ Ok f.runs = ap (runs_of 0) (sym (append-nil (pairs_of f.runs))) ∙ spelled_read 0 f.runs (pairs_of f.runs ++ []) spelled (written_spelled 0 f.runs [] spelled) in
    ap runs_or (filled_read 0 (pairs_of f.runs) f.runs read ∙ sym read)

first_stays : (form : OwnForm) → form_first (normal_form form) ≡ form_first form
first_stays (Resident value indexed) = refl
first_stays (Mapped sizes pairs) = refl

stream_stays : (form : OwnForm) (runs : List Run) → form_stream (normal_form form) runs ≡ form_stream form runs
stream_stays (Resident value indexed) runs = refl
stream_stays (Mapped sizes pairs) runs = refl

value_stays : (form : OwnForm) → form_value (normal_form form) ≡ form_value form
value_stays (Resident value indexed) = refl
value_stays (Mapped sizes pairs) = refl

form_info_stays : (form : OwnForm) → form_info (normal_form form) ≡ form_info form
form_info_stays (Resident value indexed) = refl
form_info_stays (Mapped sizes pairs) = refl

form_link_stays : (child : FileRef) (form : OwnForm) → form_link child (normal_form form) ≡ form_link child form
form_link_stays child (Resident value indexed) = refl
form_link_stays child (Mapped sizes pairs) = refl

link_stays : (child : FileRef) (a : Attr) → attr_link child (normal a) ≡ attr_link child a
unfolding attr_link
link_stays child a = ap (λ (o : Option Link). cond (eqb a.head.kind file_name) o None) (form_link_stays child a.form)

-- ---- lists of attributes

type_stays : (t : ℕ) (attrs : List Attr) → list_any (λ (a : Attr). eqb a.head.kind t) (map normal attrs) ≡ list_any (λ (a : Attr). eqb a.head.kind t) attrs
type_stays t [] = refl
type_stays t (a ∷ attrs) = ap (λ (x : Bool). eqb a.head.kind t || x) (type_stays t attrs)

links_stay : (child : FileRef) (attrs : List Attr) → filter_map (attr_link child) (map normal attrs) ≡ filter_map (attr_link child) attrs
links_stay child [] = refl
links_stay child (a ∷ attrs) = ap₂ cons_option (link_stays child a) (links_stay child attrs)

found : (t : Bool) (a : Attr) (o other : Option Attr) → attr_value o ≡ attr_value other → attr_value (cond t (Some (normal a)) o) ≡ attr_value (cond t (Some a) other)
found true a o other same = value_stays a.form
found false a o other same = same

root_stays : (attrs : List Attr) → attr_value (find is_names_root (map normal attrs)) ≡ attr_value (find is_names_root attrs)
unfolding is_names_root
root_stays [] = refl
root_stays (a ∷ attrs) = found (is_names_root a) a (find is_names_root (map normal attrs)) (find is_names_root attrs) (root_stays attrs)

info_found : (t : Bool) (a : Attr) (o other : Option Attr) → attr_info o ≡ attr_info other → attr_info (cond t (Some (normal a)) o) ≡ attr_info (cond t (Some a) other)
info_found true a o other same = form_info_stays a.form
info_found false a o other same = same

info_stays : (attrs : List Attr) → attr_info (find (λ (a : Attr). eqb a.head.kind standard_information) (map normal attrs)) ≡ attr_info (find (λ (a : Attr). eqb a.head.kind standard_information) attrs)
info_stays [] = refl
info_stays (a ∷ attrs) = info_found (eqb a.head.kind standard_information) a (find (λ (x : Attr). eqb x.head.kind standard_information) (map normal attrs)) (find (λ (x : Attr). eqb x.head.kind standard_information) attrs) (info_stays attrs)

kept : (t : Bool) (a : Attr) (attrs others : List Attr) → others ≡ map normal attrs → cond t (normal a ∷ others) others ≡ map normal (cond t (a ∷ attrs) attrs)
kept true a attrs others same = ap (λ (l : List Attr). normal a ∷ l) same
kept false a attrs others same = same

filter_stays : (kind : ℕ) (name : List ℕ) (attrs : List Attr) → filter (is_attribute_of kind name) (map normal attrs) ≡ map normal (filter (is_attribute_of kind name) attrs)
unfolding is_attribute_of
filter_stays kind name [] = refl
filter_stays kind name (a ∷ attrs) = kept (is_attribute_of kind name a) a (filter (is_attribute_of kind name) attrs) (filter (is_attribute_of kind name) (map normal attrs)) (filter_stays kind name attrs)

placed_in : (t : Bool) (a b : Attr) (attributes more : List Attr) → more ≡ map normal (with_attribute a attributes) → cond t (normal a ∷ normal b ∷ map normal attributes) (normal b ∷ more) ≡ map normal (cond t (a ∷ b ∷ attributes) (b ∷ with_attribute a attributes))
placed_in true a b attributes more same = refl
placed_in false a b attributes more same = ap (λ (l : List Attr). normal b ∷ l) same

with_stays : (a : Attr) (attributes : List Attr) → with_attribute (normal a) (map normal attributes) ≡ map normal (with_attribute a attributes)
with_stays a [] = refl
with_stays a (b ∷ attributes) =
    ap₂ (λ (x y : ℕ). cond (ltb x y) (normal a ∷ normal b ∷ map normal attributes) (normal b ∷ with_attribute (normal a) (map normal attributes))) (first_stays a.form) (first_stays b.form)
    ∙ placed_in (ltb (first_vcn a) (first_vcn b)) a b attributes (with_attribute (normal a) (map normal attributes)) (with_stays a attributes)

sorted_stays : (attributes attrs : List Attr) → sorted_into (map normal attributes) (map normal attrs) ≡ map normal (sorted_into attributes attrs)
sorted_stays attributes [] = refl
sorted_stays attributes (a ∷ attrs) = ap (λ (l : List Attr). sorted_into l (map normal attrs)) (with_stays a attributes) ∙ sorted_stays (with_attribute a attributes) attrs

pieces_stay : (kind : ℕ) (name : List ℕ) (attrs : List Attr) → attributes_of kind name (map normal attrs) ≡ map normal (attributes_of kind name attrs)
unfolding attributes_of
pieces_stay kind name attrs = ap (sorted_into []) (filter_stays kind name attrs) ∙ sorted_stays [] (filter (is_attribute_of kind name) attrs)

runs_stay : (attrs : List Attr) → All Reads attrs → flat_map attribute_runs (map normal attrs) ≡ flat_map attribute_runs attrs
runs_stay [] all = refl
runs_stay (a ∷ attrs) all = ap₂ (λ (x y : List Run). x ++ y) (All-head Reads a attrs all) (runs_stay attrs (All-tail Reads a attrs all))

joined_stays : (attributes : List Attr) → All Reads attributes → joined (map normal attributes) ≡ joined attributes
joined_stays [] all = refl
joined_stays (a ∷ attributes) all =
    ap (λ (l : List Run). Some (form_stream (normal_form a.form) l)) (runs_stay (a ∷ attributes) all) ∙ ap (λ (x : Stream). Some x) (stream_stays a.form (flat_map attribute_runs (a ∷ attributes)))

follow_stays : (vcn : ℕ) (attributes : List Attr) → All Reads attributes → follow vcn (map normal attributes) ≡ follow vcn attributes
follow_stays vcn [] all = refl
follow_stays vcn (a ∷ attributes) all =
    let same : total_clusters (attribute_runs (normal a)) ≡ total_clusters (attribute_runs a) = ap total_clusters (All-head Reads a attributes all) in
    ap₂ (λ (x y : ℕ). eqb x vcn && ltb 0 y && follow (vcn + y) (map normal attributes)) (first_stays a.form) same
    ∙ ap (λ (t : Bool). eqb (first_vcn a) vcn && ltb 0 (total_clusters (attribute_runs a)) && t) (follow_stays (vcn + total_clusters (attribute_runs a)) attributes (All-tail Reads a attributes all))

are_joined_stays : (attributes : List Attr) → All Reads attributes → are_joined (map normal attributes) ≡ are_joined attributes
are_joined_stays [] all = refl
are_joined_stays (a ∷ []) all = ap (λ (x : ℕ). eqb x 0) (first_stays a.form)
are_joined_stays (a ∷ b ∷ attributes) all = follow_stays 0 (a ∷ b ∷ attributes) all

flags_stay : (attributes : List Attr) → first_flags (map normal attributes) ≡ first_flags attributes
flags_stay [] = refl
flags_stay (a ∷ attributes) = refl

-- ---- the record

module _ (p s : Record) (is : IsWritten p s) (reads : All Reads p.attrs) where
  pub written_types : (t : ℕ) → has_type t s ≡ has_type t p
  unfolding has_type
  written_types t = ap (list_any (λ (a : Attr). eqb a.head.kind t)) is.attrs ∙ type_stays t p.attrs

  pub written_directory : is_directory_record s ≡ is_directory_record p
  written_directory = rw is.flags refl

  pub written_links : (n : ℕ) → record_links n s ≡ record_links n p
  unfolding record_links
  written_links n =
      ap₂ (λ (q : ℕ) (l : List Attr). filter_map (attr_link (record { number = n; seq = q })) l) is.seq is.attrs ∙ links_stay (record { number = n; seq = p.head.seq }) p.attrs

  pub written_names : (n : ℕ) (links : List Link) → keeps_names n s links ≡ keeps_names n p links
  unfolding keeps_names
  written_names n links = rw (written_types standard_information, written_directory) refl

  pub written_root : root_value s ≡ root_value p
  unfolding root_value
  written_root = ap (λ (l : List Attr). attr_value (find is_names_root l)) is.attrs ∙ root_stays p.attrs

  pub written_info : info_of s ≡ info_of p
  unfolding info_of
  written_info = ap (λ (l : List Attr). attr_info (find (λ (a : Attr). eqb a.head.kind standard_information) l)) is.attrs ∙ info_stays p.attrs

  pub written_pieces : (kind : ℕ) (name : List ℕ) → attributes_of kind name s.attrs ≡ map normal (attributes_of kind name p.attrs)
  written_pieces kind name = ap (attributes_of kind name) is.attrs ∙ pieces_stay kind name p.attrs

  own_reads : (kind : ℕ) (name : List ℕ) → All Reads (attributes_of kind name p.attrs)
  own_reads kind name = all_of_stream Reads kind name p.attrs (All-filter (is_attribute_of kind name) Reads p.attrs reads)

  pub written_stream : (kind : ℕ) (name : List ℕ) → stream_of kind name s.attrs ≡ stream_of kind name p.attrs
  unfolding stream_of
  written_stream kind name = ap joined (written_pieces kind name) ∙ joined_stays (attributes_of kind name p.attrs) (own_reads kind name)

  pub written_flags : (kind : ℕ) (name : List ℕ) → first_flags (attributes_of kind name s.attrs) ≡ first_flags (attributes_of kind name p.attrs)
  written_flags kind name = ap first_flags (written_pieces kind name) ∙ flags_stay (attributes_of kind name p.attrs)

  pub written_runs : file_runs (Some s) ≡ file_runs (Some p)
  written_runs = ap (flat_map attribute_runs) is.attrs ∙ runs_stay p.attrs reads

  kept_one : (size clusters : ℕ) (a : Attr) → keeps_stream size clusters s.attrs (normal a) ≡ keeps_stream size clusters p.attrs a
  unfolding keeps_stream
  kept_one size clusters a =
      ap₂ (λ (x : Bool) (o : Option Stream). eqb a.head.kind file_name || (x && fits_volume size clusters o))
      (ap are_joined (written_pieces a.head.kind a.name) ∙ are_joined_stays (attributes_of a.head.kind a.name p.attrs) (own_reads a.head.kind a.name)) (written_stream a.head.kind a.name)

  kept_all : (size clusters : ℕ) (attrs : List Attr) → list_all (keeps_stream size clusters s.attrs) (map normal attrs) ≡ list_all (keeps_stream size clusters p.attrs) attrs
  kept_all size clusters [] = refl
  kept_all size clusters (a ∷ attrs) = ap₂ (λ (x y : Bool). x && y) (kept_one size clusters a) (kept_all size clusters attrs)

  pub written_sizes : (size clusters : ℕ) → list_all (keeps_stream size clusters s.attrs) s.attrs ≡ list_all (keeps_stream size clusters p.attrs) p.attrs
  written_sizes size clusters = ap (list_all (keeps_stream size clusters s.attrs)) is.attrs ∙ kept_all size clusters p.attrs
