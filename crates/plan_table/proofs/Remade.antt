-- What of a record stays where streams of it are others, and what its streams and clusters become.
use Rattle.std.proofs.Common.{◌≡◌, ◌≢◌, ◌⊎◌, ℕ, ◌+◌, Bool, true, ◌&&◌, eqb, List, [], ◌∷◌, Some, refl, sym, ap, subst, ◌∙◌, inl, inr, arith}
use Rattle.std.specs.Prelude.{All}
use Rattle.std.specs.List.{flat_map, list_all}
use Rattle.record_model.specs.declared.attribute.Attr.{Attr}
use Rattle.record_model.specs.declared.record.RecHead.{RecHead}
use Rattle.record_model.specs.declared.runs.Run.{Run}
use Rattle.record_model.specs.Records.{Record}
use Rattle.record_model.specs.Pairs.{HasSpelling}
use Rattle.record_model.specs.Constants.{standard_information, file_name, index_root, data_type, bitmap_type}
use Rattle.host_base.specs.declared.file_ref.FileRef.{FileRef}
use Rattle.file_tree.specs.declared.link.Link.{Link}
use Rattle.state_model.specs.declared.stream.Extents.{Extents}
use Rattle.state_model.specs.declared.stream.Stream.{Stream}
use Rattle.state_model.specs.declared.stream.Stream.TheVariants.{Held, Placed}
use Rattle.state_model.specs.Files.{record_links, is_base_record, is_directory_record, has_type, info_of}
use Rattle.state_model.specs.Rules.{keeps_names}
use Rattle.state_model.specs.Streams.{attribute_runs, is_attribute_of, attributes_of, joined, stream_of}
use Rattle.volume_model.specs.Indexes.{root_value}
use Rattle.volume_model.specs.Nodes.{first_flags}
use Rattle.volume_model.specs.Owners.{file_runs, uses}
use Rattle.volume_model.specs.Sizes.{are_joined, fits_volume, keeps_stream}
use Rattle.stream_laws.specs.Sharing.{runs_in}
use Rattle.record_values.specs.record_streams.Placing.{placed_record}
use Rattle.plan_growth.specs.resized_streams.Resizing.{unplaced}
use Rattle.record_values.proofs.record_streams.Streams.{placed_one}
use Rattle.record_values.specs.Values.{valued_record}
use Rattle.record_values.proofs.Valued.{values_put}
use Rattle.plan_growth.proofs.plan_model.Rewriting.{same_uses, same_types, same_directory, same_sizes, same_attributes, same_links, same_names, same_info, same_root}
use Rattle.plan_growth.specs.Streams.{IsWritten}
use Rattle.plan_growth.proofs.Placed.{some_attributes, placed_head, placed_types, placed_directory, placed_links, placed_names, placed_root, placed_info, placed_is_there, other_pieces, placed_uses, placed_sizes, placed_all}
use Rattle.plan_growth.proofs.Ruled.{runs_before}
use Rattle.plan_growth.proofs.Written.{Reads, placed_reads, written_types, written_directory, written_links, written_names, written_root, written_info, written_stream, written_flags, written_runs, written_sizes}
use Rattle.stream_runs.proofs.Merging.{follow-grown}
use Rattle.plan_table.specs.Growing.{TakesBits, BitmapBecomes, with_bitmap, table_record}
use Rattle.plan_table.proofs.Values.{value_alone, alone_runs, rewrites_value, spares_type, spares_root, spares_other, reads_rewritten}

-- ---- one stream

-- the record has another stream of this type and name in the place of one, and keeps the rest
pub record HasOther (per clusters kind : ℕ) (name : List ℕ) (old new : Stream) (r q : Record) : Type 0 where
  pub seq : q.head.seq ≡ r.head.seq
  pub base : is_base_record q ≡ is_base_record r
  pub directory : is_directory_record q ≡ is_directory_record r
  pub types : (t : ℕ) → has_type t q ≡ has_type t r
  pub links : (n : ℕ) → record_links n q ≡ record_links n r
  pub names : (n : ℕ) (links : List Link) → keeps_names n q links ≡ keeps_names n r links
  pub info : info_of q ≡ info_of r
  pub root : root_value q ≡ root_value r
  pub stream : stream_of kind name q.attrs ≡ Some new
  pub first : first_flags (attributes_of kind name q.attrs) ≡ first_flags (attributes_of kind name r.attrs)
  pub pieces : (other : ℕ) (alias : List ℕ) → (other ≢ kind) ⊎ (alias ≢ name) → attributes_of other alias q.attrs ≡ attributes_of other alias r.attrs
  pub balance : (x : ℕ) → uses (file_runs (Some q)) x + uses (runs_in (Some old)) x ≡ uses (file_runs (Some r)) x + uses (runs_in (Some new)) x
  pub sizes : list_all (keeps_stream per clusters r.attrs) r.attrs ≡ true → fits_volume per clusters (Some new) ≡ true → list_all (keeps_stream per clusters q.attrs) q.attrs ≡ true
  pub reads : All Reads r.attrs → All Reads q.attrs

-- a type of streams that is none of names, standard information and roots of indexes
pub record IsOther (kind : ℕ) : Type 0 where
  pub not_name : file_name ≢ kind
  pub not_info : standard_information ≢ kind
  pub not_root : index_root ≢ kind

-- a stream, of whose clusters these are all, stands in others
placed_from : (per clusters kind : ℕ) (name : List ℕ) (old : Stream) (f : Extents) (r : Record) → IsOther kind → HasSpelling 0 f.runs → stream_of kind name r.attrs ≡ Some old → ((x : ℕ) → uses (flat_map attribute_runs (attributes_of kind name r.attrs)) x ≡ uses (runs_in (Some old)) x)
    → HasOther per clusters kind name old (Placed f) r (placed_record per kind name f r)
unfolding stream_of
placed_from per clusters kind name old f r other spelled is runs =
    let some : (a : Attr) × (others : List Attr) × (attributes_of kind name r.attrs ≡ a ∷ others) = some_attributes (attributes_of kind name r.attrs) old is in
    let head : (placed_record per kind name f r).head ≡ r.head = placed_head per kind name f r some.0 some.1 some.2 spelled in
    record {
      seq = ap (λ (h : RecHead). h.seq) head;
      base = ap (λ (h : RecHead). eqb h.base.number 0 && eqb h.base.seq 0) head;
      directory = placed_directory per kind name f r some.0 some.1 some.2 spelled;
      types = placed_types per kind name f r some.0 some.1 some.2 spelled;
      links = λ n. placed_links per kind name f r some.0 some.1 some.2 spelled n other.not_name;
      names = placed_names per kind name f r some.0 some.1 some.2 spelled;
      info = placed_info per kind name f r some.0 some.1 some.2 spelled other.not_info;
      root = placed_root per kind name f r some.0 some.1 some.2 spelled other.not_root;
      stream = placed_is_there per kind name f r some.0 some.1 some.2 spelled;
      first = ap first_flags (placed_one per kind name f r some.0 some.1 some.2) ∙ sym (ap first_flags some.2);
      pieces = other_pieces per kind name f r some.0 some.1 some.2 spelled;
      balance = λ x. (let sum = placed_uses per kind name f r some.0 some.1 some.2 spelled x in let before = runs x in omega (arith, sum, before));
      sizes = λ old fits. placed_sizes per kind name f r some.0 some.1 some.2 spelled per clusters fits old;
      reads = placed_all per kind name f r some.0 some.1 some.2 spelled Reads (placed_reads per f some.0 spelled);
    }

pub placed_other : (per clusters kind : ℕ) (name : List ℕ) (e f : Extents) (r : Record) → IsOther kind → HasSpelling 0 f.runs → stream_of kind name r.attrs ≡ Some (Placed e) → HasOther per clusters kind name (Placed e) (Placed f) r (placed_record per kind name f r)
placed_other per clusters kind name e f r other spelled is = placed_from per clusters kind name (Placed e) f r other spelled is (runs_before kind name r e is)

-- a value has no clusters
left_other : (per clusters kind : ℕ) (name value : List ℕ) (f : Extents) (r : Record) → IsOther kind → HasSpelling 0 f.runs → stream_of kind name r.attrs ≡ Some (Held value) → are_joined (attributes_of kind name r.attrs) ≡ true
    → HasOther per clusters kind name (Held value) (Placed f) r (placed_record per kind name f r)
unfolding stream_of
left_other per clusters kind name value f r other spelled is whole = placed_from per clusters kind name (Held value) f r other spelled is (alone_runs (attributes_of kind name r.attrs) value is whole)

pub valued_other : (per clusters kind : ℕ) (name value bytes : List ℕ) (r : Record) → IsOther kind → stream_of kind name r.attrs ≡ Some (Held value) → are_joined (attributes_of kind name r.attrs) ≡ true → HasOther per clusters kind name (Held value) (Held bytes) r (valued_record kind name bytes r)
unfolding stream_of
valued_other per clusters kind name value bytes r other is whole =
    let own = value_alone (attributes_of kind name r.attrs) value is whole in
    let k = rewrites_value kind name bytes r own.0 own.1.0 own.1.1 in
    let may : Attr → Bool = is_attribute_of kind name in
    let q : Record = valued_record kind name bytes r in
    record {
      seq = k.seq;
      base = ap (λ (x : FileRef). eqb x.number 0 && eqb x.seq 0) k.base;
      directory = same_directory may r q k;
      types = λ t. same_types may r q t k;
      links = λ n. same_links may n r q k (spares_type kind name file_name other.not_name);
      names = λ n links. same_names may n r q links k;
      info = same_info may r q k (spares_type kind name standard_information other.not_info);
      root = same_root may r q k (spares_root kind name other.not_root);
      stream = values_put.stream kind name bytes r own.0 [] own.1.1;
      first = ap first_flags (values_put.one kind name bytes r own.0 [] own.1.1) ∙ sym (ap first_flags own.1.1);
      pieces = λ o alias differ. same_attributes may r q o alias k (spares_other kind o name alias differ);
      balance = λ x. ap (λ (l : List Run). uses l x + uses [] x) (same_uses may r q k);
      sizes = λ old fits. same_sizes may r q per clusters k ∙ old;
      reads = reads_rewritten may r.attrs q.attrs k.attrs;
    }

-- ---- the unnamed data and the bitmap

is_data : IsOther data_type
is_data = record { not_name = λ e. omega (arith, e); not_info = λ e. omega (arith, e); not_root = λ e. omega (arith, e) }

is_bitmap : IsOther bitmap_type
is_bitmap = record { not_name = λ e. omega (arith, e); not_info = λ e. omega (arith, e); not_root = λ e. omega (arith, e) }

becomes_spelled : (per : ℕ) (more : List Run) (e f : Extents) → TakesBits per more e f → HasSpelling 0 more → HasSpelling 0 f.runs
becomes_spelled per more e f k spelled = subst (HasSpelling 0) (sym k.runs) (follow-grown e.runs more k.spelled spelled k.few)

bitmap_other : (per clusters : ℕ) (more : List Run) (old new : Stream) (q : Record) → BitmapBecomes per more old new → HasSpelling 0 more → stream_of bitmap_type [] q.attrs ≡ Some old → are_joined (attributes_of bitmap_type [] q.attrs) ≡ true
    → HasOther per clusters bitmap_type [] old new q (with_bitmap per new q)
bitmap_other per clusters more (Held value) (Held bytes) q becomes spelled is whole = valued_other per clusters bitmap_type [] value bytes q is_bitmap is whole
bitmap_other per clusters more (Held value) (Placed f) q becomes spelled is whole = left_other per clusters bitmap_type [] value f q is_bitmap (becomes_spelled per more (unplaced 0) f becomes spelled) is whole
bitmap_other per clusters more (Placed e) (Held bytes) q becomes spelled is whole = absurd becomes
bitmap_other per clusters more (Placed e) (Placed f) q becomes spelled is whole = placed_other per clusters bitmap_type [] e f q is_bitmap (becomes_spelled per more e f becomes spelled) is

-- ---- both

-- a stream that is neither
abbrev pub IsAnother : ℕ → List ℕ → Type 0
IsAnother kind name = ((kind ≢ data_type) ⊎ (name ≢ [])) × ((kind ≢ bitmap_type) ⊎ (name ≢ []))

-- the record has other unnamed data and another bitmap, as it is written, and keeps the rest
pub record IsRemade (per clusters : ℕ) (e f : Extents) (old new : Stream) (r s : Record) : Type 0 where
  pub seq : s.head.seq ≡ r.head.seq
  pub base : is_base_record s ≡ is_base_record r
  pub directory : is_directory_record s ≡ is_directory_record r
  pub types : (t : ℕ) → has_type t s ≡ has_type t r
  pub links : (n : ℕ) → record_links n s ≡ record_links n r
  pub names : (n : ℕ) (links : List Link) → keeps_names n s links ≡ keeps_names n r links
  pub info : info_of s ≡ info_of r
  pub root : root_value s ≡ root_value r
  pub records : stream_of data_type [] s.attrs ≡ Some (Placed f)
  pub bitmap : stream_of bitmap_type [] s.attrs ≡ Some new
  pub others : (kind : ℕ) (name : List ℕ) → IsAnother kind name → stream_of kind name s.attrs ≡ stream_of kind name r.attrs
  pub flags : (name : List ℕ) → first_flags (attributes_of data_type name s.attrs) ≡ first_flags (attributes_of data_type name r.attrs)
  pub balance : (x : ℕ) → uses (file_runs (Some s)) x + (uses e.runs x + uses (runs_in (Some old)) x) ≡ uses (file_runs (Some r)) x + (uses f.runs x + uses (runs_in (Some new)) x)
  pub sizes : list_all (keeps_stream per clusters s.attrs) s.attrs ≡ true

-- data of this name are the unnamed ones, or others
unnamed_or : (name : List ℕ) → (name ≡ []) ⊎ (name ≢ [])
unnamed_or [] = inl refl
unnamed_or (x ∷ name) = inr (λ same. absurd cc)

module _ (per clusters : ℕ) (e f : Extents) (old new : Stream) (r q p s : Record) (one : HasOther per clusters data_type [] (Placed e) (Placed f) r q) (two : HasOther per clusters bitmap_type [] old new q p) (written : IsWritten p s) (reads : All Reads r.attrs) (whole : list_all (keeps_stream per clusters r.attrs) r.attrs ≡ true)
    (fits : fits_volume per clusters (Some (Placed f)) ≡ true) (new_fits : fits_volume per clusters (Some new) ≡ true) where
  all_reads : All Reads p.attrs
  all_reads = two.reads (one.reads reads)

  data_flags_stay : (name : List ℕ) → first_flags (attributes_of data_type name q.attrs) ≡ first_flags (attributes_of data_type name r.attrs)
  data_flags_stay name = elim (unnamed_or name) [
    | inl same ↦ ap (λ (l : List ℕ). first_flags (attributes_of data_type l q.attrs)) same ∙ one.first ∙ sym (ap (λ (l : List ℕ). first_flags (attributes_of data_type l r.attrs)) same)
    | inr other ↦ ap first_flags (one.pieces data_type name (inr other))
  ]

  others_stay : (kind : ℕ) (name : List ℕ) → IsAnother kind name → stream_of kind name s.attrs ≡ stream_of kind name r.attrs
  unfolding stream_of
  others_stay kind name other = written_stream p s written all_reads kind name ∙ ap joined (two.pieces kind name other.1) ∙ ap joined (one.pieces kind name other.0)

  records_now : stream_of data_type [] s.attrs ≡ Some (Placed f)
  unfolding stream_of
  records_now = written_stream p s written all_reads data_type [] ∙ ap joined (two.pieces data_type [] (inl (λ e. omega (arith, e)))) ∙ one.stream

  pub remade : IsRemade per clusters e f old new r s
  remade = record {
    seq = written.seq ∙ two.seq ∙ one.seq;
    base = ap (λ (x : FileRef). eqb x.number 0 && eqb x.seq 0) written.base ∙ two.base ∙ one.base;
    directory = written_directory p s written all_reads ∙ two.directory ∙ one.directory;
    types = λ t. written_types p s written all_reads t ∙ two.types t ∙ one.types t;
    links = λ n. written_links p s written all_reads n ∙ two.links n ∙ one.links n;
    names = λ n links. written_names p s written all_reads n links ∙ two.names n links ∙ one.names n links;
    info = written_info p s written all_reads ∙ two.info ∙ one.info;
    root = written_root p s written all_reads ∙ two.root ∙ one.root;
    records = records_now;
    bitmap = written_stream p s written all_reads bitmap_type [] ∙ two.stream;
    others = others_stay;
    flags = λ name. written_flags p s written all_reads data_type name ∙ ap first_flags (two.pieces data_type name (inl (λ e. omega (arith, e)))) ∙ data_flags_stay name;
    balance = λ x. (let first = one.balance x in let second = two.balance x in let same : uses (file_runs (Some s)) x ≡ uses (file_runs (Some p)) x = ap (λ (l : List Run). uses l x) (written_runs p s written all_reads) in omega (arith, first, second, same));
    sizes = written_sizes p s written all_reads per clusters ∙ two.sizes (one.sizes whole fits) new_fits;
  }

pub table_remade : (per clusters : ℕ) (more : List Run) (e f : Extents) (old new : Stream) (r s : Record) → BitmapBecomes per more old new → HasSpelling 0 more → HasSpelling 0 f.runs → stream_of data_type [] r.attrs ≡ Some (Placed e) → stream_of bitmap_type [] r.attrs ≡ Some old
    → are_joined (attributes_of bitmap_type [] r.attrs) ≡ true → All Reads r.attrs → list_all (keeps_stream per clusters r.attrs) r.attrs ≡ true → fits_volume per clusters (Some (Placed f)) ≡ true → fits_volume per clusters (Some new) ≡ true → IsWritten (table_record per f new r) s → IsRemade per clusters e f old new r s
unfolding stream_of
table_remade per clusters more e f old new r s becomes more_spelled spelled records bitmap joined_is reads whole fits new_fits written =
    let q : Record = placed_record per data_type [] f r in
    let one = placed_other per clusters data_type [] e f r is_data spelled records in
    let same : attributes_of bitmap_type [] q.attrs ≡ attributes_of bitmap_type [] r.attrs = one.pieces bitmap_type [] (inl (λ e. omega (arith, e))) in
    let two = bitmap_other per clusters more old new q becomes more_spelled (ap joined same ∙ bitmap) (ap are_joined same ∙ joined_is) in
    remade per clusters e f old new r q (with_bitmap per new q) s one two written reads whole fits new_fits
