-- What a normal attribute stands for.
use Rattle.std.proofs.Common.{◌≡◌, ℕ, Bool, true, false, cond, ◌&&◌, eqb, ltb, List, [], ◌∷◌, ◌++◌, map, filter, Option, Some, None, Result, Ok, Err, refl, sym, ap, ◌∙◌}
use Rattle.std.specs.Prelude.{find, filter_map}
use Rattle.std.specs.List.{list_all, flat_map, cons_option}
use Rattle.std.specs.Cmp.Lexicographic.{pointwise}
use Rattle.std.proofs.lemmas.Bool.{and_parts, and_from}
use Rattle.disk_model.specs.host_base.declared.file_ref.FileRef.{FileRef}
use Rattle.record_model.specs.declared.attribute.Head.{Head}
use Rattle.record_model.specs.declared.attribute.Sizes.{Sizes}
use Rattle.record_model.specs.declared.attribute.OwnForm.{OwnForm}
use Rattle.record_model.specs.declared.attribute.OwnForm.TheVariants.{Resident, Mapped}
use Rattle.record_model.specs.declared.attribute.Attr.{Attr}
use Rattle.record_model.specs.declared.runs.Run.{Run}
use Rattle.record_model.specs.declared.runs.PairsFault.{PairsFault}
use Rattle.record_model.specs.Attributes.{filled}
use Rattle.record_model.specs.Pairs.{runs_of}
use Rattle.record_model.specs.Records.{Record}
use Rattle.record_model.specs.Constants.{standard_information, file_name}
use Rattle.file_record.specs.state_model.Files.{form_link, attr_link, form_info, attr_info, record_links, reference, info_of}
use Rattle.file_record.specs.state_model.Loads.{span, form_fits, has_fitting_pairs, has_all_pairs}
use Rattle.file_record.specs.state_model.Streams.{form_first, first_vcn, is_attribute_of, with_attribute, sorted_into, attributes_of, runs_or, form_runs, attribute_runs, form_stream, joined, stream_of}
use Rattle.record_writer.specs.Normal.{normal_form, normal}
use Rattle.record_writer.specs.NormalLaws.{AttrStays, RecordStays, NormalStandsForSame}
use Rattle.record_writer.proofs.Filling.{filled_read}

-- ---- links and information

same_choice : {Y : Type 0} (b : Bool) (x y other : Y) → x ≡ y → cond b x other ≡ cond b y other
same_choice b x y other e = ap (λ z. cond b z other) e

form_link_stays : (child : FileRef) (form : OwnForm) → form_link child (normal_form form) ≡ form_link child form
form_link_stays child (Resident value indexed) = refl
form_link_stays child (Mapped sizes pairs) = refl

link_stays : (child : FileRef) (a : Attr) → attr_link child (normal a) ≡ attr_link child a
unfolding attr_link
link_stays child a = same_choice (eqb a.head.kind file_name) (form_link child (normal_form a.form)) (form_link child a.form) None (form_link_stays child a.form)

form_info_stays : (form : OwnForm) → form_info (normal_form form) ≡ form_info form
form_info_stays (Resident value indexed) = refl
form_info_stays (Mapped sizes pairs) = refl

filter_map_stays : {X Y : Type 0} (h : X → Option Y) (f : X → X) → ((x : X) → h (f x) ≡ h x) → (xs : List X) → filter_map h (map f xs) ≡ filter_map h xs
filter_map_stays h f same [] = refl
filter_map_stays h f same (x ∷ xs) = ap (λ o. cons_option o (filter_map h (map f xs))) (same x) ∙ ap (cons_option (h x)) (filter_map_stays h f same xs)

found_info : (here : Bool) (a : Attr) (x y : Option Attr) → attr_info x ≡ attr_info y → attr_info (cond here (Some (normal a)) x) ≡ attr_info (cond here (Some a) y)
found_info true a x y e = form_info_stays a.form
found_info false a x y e = e

info_stays : (attrs : List Attr) → attr_info (find (λ (a : Attr). eqb a.head.kind standard_information) (map normal attrs)) ≡ attr_info (find (λ (a : Attr). eqb a.head.kind standard_information) attrs)
info_stays [] = refl
info_stays (a ∷ attrs) = found_info (eqb a.head.kind standard_information) a _ _ (info_stays attrs)

-- ---- runs

read_from_span : (sizes : Sizes) (read : Result (List Run) PairsFault) → span sizes read ≡ true → (runs : List Run) × (read ≡ Ok runs)
read_from_span sizes (Ok runs) e = (runs, refl)
read_from_span sizes (Err fault) e = absurd cc

pairs_stay : (sizes : Sizes) (pairs : List ℕ) → span sizes (runs_of sizes.first pairs) ≡ true → runs_of sizes.first (filled 0 pairs) ≡ runs_of sizes.first pairs
pairs_stay sizes pairs e =
    let read = read_from_span sizes (runs_of sizes.first pairs) e in
    filled_read sizes.first pairs read.0 read.1 ∙ sym read.1

form_runs_stay : (form : OwnForm) → form_fits form ≡ true → form_runs (normal_form form) ≡ form_runs form
form_runs_stay (Resident value indexed) e = refl
form_runs_stay (Mapped sizes pairs) e = ap runs_or (pairs_stay sizes pairs e)

form_fits_stays : (form : OwnForm) → form_fits form ≡ true → form_fits (normal_form form) ≡ true
form_fits_stays (Resident value indexed) e = refl
form_fits_stays (Mapped sizes pairs) e = ap (span sizes) (pairs_stay sizes pairs e) ∙ e

all_fit : (attrs : List Attr) → list_all has_fitting_pairs attrs ≡ true → list_all has_fitting_pairs (map normal attrs) ≡ true
all_fit [] e = refl
all_fit (a ∷ attrs) e =
    let parts = and_parts (has_fitting_pairs a) (list_all has_fitting_pairs attrs) e in
    and_from _ _ (form_fits_stays a.form parts.0) (all_fit attrs parts.1)

-- ---- streams

-- two pieces that no stream tells apart
record IsSame (a b : Attr) : Type 0 where
  head : a.head ≡ b.head
  name : a.name ≡ b.name
  first : first_vcn a ≡ first_vcn b
  runs : attribute_runs a ≡ attribute_runs b
  form : (runs : List Run) → form_stream a.form runs ≡ form_stream b.form runs

abbrev AreSame : List Attr → List Attr → Type 0
AreSame [] [] = Unit {0}
AreSame [] (b ∷ ys) = ⊥
AreSame (a ∷ xs) [] = ⊥
AreSame (a ∷ xs) (b ∷ ys) = IsSame a b × AreSame xs ys

chosen_same : (s t : Bool) (xs ys us vs : List Attr) → s ≡ t → AreSame xs ys → AreSame us vs → AreSame (cond s xs us) (cond t ys vs)
chosen_same true true xs ys us vs e x u = x
chosen_same false false xs ys us vs e x u = u
chosen_same true false xs ys us vs e x u = absurd cc
chosen_same false true xs ys us vs e x u = absurd cc

put_same : (a b : Attr) (ps qs : List Attr) → IsSame a b → AreSame ps qs → AreSame (with_attribute a ps) (with_attribute b qs)
put_same a b [] [] one each = (one, tt)
put_same a b [] (q ∷ qs) one each = absurd each
put_same a b (p ∷ ps) [] one each = absurd each
put_same a b (p ∷ ps) (q ∷ qs) one each =
    let test : ltb (first_vcn a) (first_vcn p) ≡ ltb (first_vcn b) (first_vcn q) = ap (λ (n : ℕ). ltb n (first_vcn p)) one.first ∙ ap (λ (n : ℕ). ltb (first_vcn b) n) each.0.first in
    chosen_same _ _ (a ∷ p ∷ ps) (b ∷ q ∷ qs) (p ∷ with_attribute a ps) (q ∷ with_attribute b qs) test (one, each) (each.0, put_same a b ps qs one each.1)

sorted_same : (ps qs xs ys : List Attr) → AreSame ps qs → AreSame xs ys → AreSame (sorted_into ps xs) (sorted_into qs ys)
sorted_same ps qs [] [] sorted each = sorted
sorted_same ps qs [] (b ∷ ys) sorted each = absurd each
sorted_same ps qs (a ∷ xs) [] sorted each = absurd each
sorted_same ps qs (a ∷ xs) (b ∷ ys) sorted each = sorted_same (with_attribute a ps) (with_attribute b qs) xs ys (put_same a b ps qs each.0 sorted) each.1

piece_same : (kind : ℕ) (name : List ℕ) (a b : Attr) → IsSame a b → is_attribute_of kind name a ≡ is_attribute_of kind name b
unfolding is_attribute_of
piece_same kind name a b same = ap (λ (h : Head). eqb h.kind kind && pointwise eqb a.name name) same.head ∙ ap (λ (l : List ℕ). eqb b.head.kind kind && pointwise eqb l name) same.name

filtered_same : (kind : ℕ) (name : List ℕ) (xs ys : List Attr) → AreSame xs ys → AreSame (filter (is_attribute_of kind name) xs) (filter (is_attribute_of kind name) ys)
filtered_same kind name [] [] each = tt
filtered_same kind name [] (b ∷ ys) each = absurd each
filtered_same kind name (a ∷ xs) [] each = absurd each
filtered_same kind name (a ∷ xs) (b ∷ ys) each =
    let later = filtered_same kind name xs ys each.1 in
    chosen_same (is_attribute_of kind name a) (is_attribute_of kind name b) (a ∷ filter (is_attribute_of kind name) xs) (b ∷ filter (is_attribute_of kind name) ys) _ _ (piece_same kind name a b each.0) (each.0, later) later

runs_same : (xs ys : List Attr) → AreSame xs ys → flat_map attribute_runs xs ≡ flat_map attribute_runs ys
runs_same [] [] each = refl
runs_same [] (b ∷ ys) each = absurd each
runs_same (a ∷ xs) [] each = absurd each
runs_same (a ∷ xs) (b ∷ ys) each = ap (λ (l : List Run). l ++ flat_map attribute_runs xs) each.0.runs ∙ ap (λ (l : List Run). attribute_runs b ++ l) (runs_same xs ys each.1)

joined_same : (xs ys : List Attr) → AreSame xs ys → joined xs ≡ joined ys
joined_same [] [] each = refl
joined_same [] (b ∷ ys) each = absurd each
joined_same (a ∷ xs) [] each = absurd each
joined_same (a ∷ xs) (b ∷ ys) each = ap Some (each.0.form (flat_map attribute_runs (a ∷ xs)) ∙ ap (form_stream b.form) (runs_same (a ∷ xs) (b ∷ ys) each))

streams_same : (kind : ℕ) (name : List ℕ) (xs ys : List Attr) → AreSame xs ys → stream_of kind name xs ≡ stream_of kind name ys
unfolding stream_of attributes_of
streams_same kind name xs ys each = joined_same _ _ (sorted_same [] [] (filter (is_attribute_of kind name) xs) (filter (is_attribute_of kind name) ys) tt (filtered_same kind name xs ys each))

form_first_stays : (form : OwnForm) → form_first (normal_form form) ≡ form_first form
form_first_stays (Resident value indexed) = refl
form_first_stays (Mapped sizes pairs) = refl

form_stream_stays : (form : OwnForm) (runs : List Run) → form_stream (normal_form form) runs ≡ form_stream form runs
form_stream_stays (Resident value indexed) runs = refl
form_stream_stays (Mapped sizes pairs) runs = refl

normal_same : (a : Attr) → has_fitting_pairs a ≡ true → IsSame (normal a) a
unfolding attribute_runs
normal_same a e = record { head = refl; name = refl; first = form_first_stays a.form; runs = form_runs_stay a.form e; form = form_stream_stays a.form }

normals_same : (attrs : List Attr) → list_all has_fitting_pairs attrs ≡ true → AreSame (map normal attrs) attrs
normals_same [] e = tt
normals_same (a ∷ attrs) e =
    let parts = and_parts (has_fitting_pairs a) (list_all has_fitting_pairs attrs) e in
    (normal_same a parts.0, normals_same attrs parts.1)

-- ---- all

attr_stays : (a : Attr) → has_fitting_pairs a ≡ true → AttrStays a
attr_stays a e = record {
  link = λ child. link_stays child a;
  info = form_info_stays a.form;
  stream = λ kind name. streams_same kind name (normal a ∷ []) (a ∷ []) (normal_same a e, tt);
  pairs = form_fits_stays a.form e;
}

record_stays : (r : Record) → has_all_pairs r ≡ true → RecordStays r
unfolding has_all_pairs record_links info_of
record_stays r e = record {
  links = λ n. filter_map_stays (attr_link (reference n r)) normal (link_stays (reference n r)) r.attrs;
  info = info_stays r.attrs;
  streams = λ kind name. streams_same kind name (map normal r.attrs) r.attrs (normals_same r.attrs e);
  pairs = all_fit r.attrs e;
}

pub all_stand : NormalStandsForSame
all_stand = record { attr = attr_stays; record_whole = record_stays }
