-- A file's record in which one stream is another one, as it is written.
use Rattle.std.proofs.Common.{◌≡◌, ◌≢◌, ◌⊎◌, ℕ, ◌+◌, true, ◌&&◌, eqb, List, Some, refl, sym, ap, ap₂, ◌∙◌, inl, inr, arith}
use Rattle.std.specs.Prelude.{All}
use Rattle.std.specs.List.{list_all}
use Rattle.host_base.specs.declared.file_ref.FileRef.{FileRef}
use Rattle.record_model.specs.declared.runs.Run.{Run}
use Rattle.record_model.specs.Records.{Record}
use Rattle.file_tree.specs.declared.link.Link.{Link}
use Rattle.state_model.specs.declared.stream.Stream.{Stream}
use Rattle.state_model.specs.Files.{record_links, is_base_record, is_directory_record, has_type, info_of}
use Rattle.state_model.specs.Rules.{keeps_names}
use Rattle.state_model.specs.Streams.{attributes_of, joined, stream_of}
use Rattle.volume_model.specs.Indexes.{root_value}
use Rattle.volume_model.specs.Nodes.{first_flags}
use Rattle.volume_model.specs.Owners.{file_runs, uses}
use Rattle.volume_model.specs.Sizes.{fits_volume, keeps_stream}
use Rattle.stream_laws.specs.Sharing.{runs_in}
use Rattle.table_edits.specs.plan_growth.Streams.{IsWritten}
use Rattle.table_edits.proofs.plan_growth.Placed.{same_or_other}
use Rattle.table_edits.proofs.plan_growth.Written.{Reads, written_types, written_directory, written_links, written_names, written_root, written_info, written_stream, written_flags, written_runs, written_sizes}
use Rattle.table_edits.proofs.plan_table.Remade.{HasOther}

-- ---- records that are read alike

pub record AreAlike (per clusters : ℕ) (r s : Record) : Type 0 where
  pub seq : s.head.seq ≡ r.head.seq
  pub base : is_base_record s ≡ is_base_record r
  pub directory : is_directory_record s ≡ is_directory_record r
  pub types : (t : ℕ) → has_type t s ≡ has_type t r
  pub links : (n : ℕ) → record_links n s ≡ record_links n r
  pub names : (n : ℕ) (links : List Link) → keeps_names n s links ≡ keeps_names n r links
  pub info : info_of s ≡ info_of r
  pub root : root_value s ≡ root_value r
  pub streams : (kind : ℕ) (name : List ℕ) → stream_of kind name s.attrs ≡ stream_of kind name r.attrs
  pub flags : (kind : ℕ) (name : List ℕ) → first_flags (attributes_of kind name s.attrs) ≡ first_flags (attributes_of kind name r.attrs)
  pub runs : file_runs (Some s) ≡ file_runs (Some r)
  pub sizes : list_all (keeps_stream per clusters s.attrs) s.attrs ≡ list_all (keeps_stream per clusters r.attrs) r.attrs

pub alike_itself : (per clusters : ℕ) (r : Record) → AreAlike per clusters r r
alike_itself per clusters r = record {
  seq = refl;
  base = refl;
  directory = refl;
  types = λ t. refl;
  links = λ n. refl;
  names = λ n links. refl;
  info = refl;
  root = refl;
  streams = λ kind name. refl;
  flags = λ kind name. refl;
  runs = refl;
  sizes = refl;
}

pub alike_written : (per clusters : ℕ) (p s : Record) → IsWritten p s → All Reads p.attrs → AreAlike per clusters p s
alike_written per clusters p s is reads = record {
  seq = is.seq;
  base = ap (λ (x : FileRef). eqb x.number 0 && eqb x.seq 0) is.base;
  directory = written_directory p s is reads;
  types = written_types p s is reads;
  links = written_links p s is reads;
  names = written_names p s is reads;
  info = written_info p s is reads;
  root = written_root p s is reads;
  streams = written_stream p s is reads;
  flags = written_flags p s is reads;
  runs = written_runs p s is reads;
  sizes = written_sizes p s is reads per clusters;
}

-- ---- one stream

-- The record has another stream of this type and name in the place of one, and keeps the rest.
pub record HasNow (per clusters kind : ℕ) (name : List ℕ) (old new : Stream) (r s : Record) : Type 0 where
  pub seq : s.head.seq ≡ r.head.seq
  pub base : is_base_record s ≡ is_base_record r
  pub directory : is_directory_record s ≡ is_directory_record r
  pub types : (t : ℕ) → has_type t s ≡ has_type t r
  pub links : (n : ℕ) → record_links n s ≡ record_links n r
  pub names : (n : ℕ) (links : List Link) → keeps_names n s links ≡ keeps_names n r links
  pub info : info_of s ≡ info_of r
  pub root : root_value s ≡ root_value r
  pub was : stream_of kind name r.attrs ≡ Some old
  pub stream : stream_of kind name s.attrs ≡ Some new
  pub others : (other : ℕ) (alias : List ℕ) → (other ≢ kind) ⊎ (alias ≢ name) → stream_of other alias s.attrs ≡ stream_of other alias r.attrs
  pub flags : (other : ℕ) (alias : List ℕ) → first_flags (attributes_of other alias s.attrs) ≡ first_flags (attributes_of other alias r.attrs)
  pub balance : (x : ℕ) → uses (file_runs (Some s)) x + uses (runs_in (Some old)) x ≡ uses (file_runs (Some r)) x + uses (runs_in (Some new)) x
  pub sizes : list_all (keeps_stream per clusters r.attrs) r.attrs ≡ true → list_all (keeps_stream per clusters s.attrs) s.attrs ≡ true

-- a record that stays
pub now_itself : (per clusters kind : ℕ) (name : List ℕ) (old : Stream) (r : Record) → stream_of kind name r.attrs ≡ Some old → HasNow per clusters kind name old old r r
now_itself per clusters kind name old r was = record {
  seq = refl;
  base = refl;
  directory = refl;
  types = λ t. refl;
  links = λ n. refl;
  names = λ n links. refl;
  info = refl;
  root = refl;
  was = was;
  stream = was;
  others = λ other alias differ. refl;
  flags = λ other alias. refl;
  balance = λ x. refl;
  sizes = λ all. all;
}

module _ (per clusters kind : ℕ) (name : List ℕ) (old new : Stream) (r p q s : Record) (first : AreAlike per clusters p r) (was : stream_of kind name p.attrs ≡ Some old) (one : HasOther per clusters kind name old new p q) (last : AreAlike per clusters q s) (fits : fits_volume per clusters (Some new) ≡ true) where
  flags_now : (other : ℕ) (alias : List ℕ) → first_flags (attributes_of other alias q.attrs) ≡ first_flags (attributes_of other alias p.attrs)
  flags_now other alias = elim (same_or_other kind other name alias) [
    | inl same ↦ ap₂ (λ (x : ℕ) (l : List ℕ). first_flags (attributes_of x l q.attrs)) same.0 same.1 ∙ one.first ∙ sym (ap₂ (λ (x : ℕ) (l : List ℕ). first_flags (attributes_of x l p.attrs)) same.0 same.1)
    | inr differ ↦ ap first_flags (one.pieces other alias differ)
  ]

  others_now : (other : ℕ) (alias : List ℕ) → (other ≢ kind) ⊎ (alias ≢ name) → stream_of other alias q.attrs ≡ stream_of other alias p.attrs
  unfolding stream_of
  others_now other alias differ = ap joined (one.pieces other alias differ)

  balance_now : (x : ℕ) → uses (file_runs (Some s)) x + uses (runs_in (Some old)) x ≡ uses (file_runs (Some r)) x + uses (runs_in (Some new)) x
  balance_now x =
      let sums = one.balance x in
      let before : uses (file_runs (Some r)) x ≡ uses (file_runs (Some p)) x = ap (λ (l : List Run). uses l x) first.runs in
      let behind : uses (file_runs (Some s)) x ≡ uses (file_runs (Some q)) x = ap (λ (l : List Run). uses l x) last.runs in
      omega (arith, sums, before, behind)

  -- a record that is read as another one, of which the stream is put and written
  pub now_by : HasNow per clusters kind name old new r s
  now_by = record {
    seq = last.seq ∙ one.seq ∙ sym first.seq;
    base = last.base ∙ one.base ∙ sym first.base;
    directory = last.directory ∙ one.directory ∙ sym first.directory;
    types = λ t. last.types t ∙ one.types t ∙ sym (first.types t);
    links = λ n. last.links n ∙ one.links n ∙ sym (first.links n);
    names = λ n links. last.names n links ∙ one.names n links ∙ sym (first.names n links);
    info = last.info ∙ one.info ∙ sym first.info;
    root = last.root ∙ one.root ∙ sym first.root;
    was = first.streams kind name ∙ was;
    stream = last.streams kind name ∙ one.stream;
    others = λ other alias differ. last.streams other alias ∙ others_now other alias differ ∙ sym (first.streams other alias);
    flags = λ other alias. last.flags other alias ∙ flags_now other alias ∙ sym (first.flags other alias);
    balance = balance_now;
    sizes = λ all. last.sizes ∙ one.sizes (sym first.sizes ∙ all) fits;
  }
