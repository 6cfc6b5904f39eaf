-- What stays between two states of which one has other bits of clusters, or another file.
use Rattle.std.proofs.Common.{◌≡◌, ◌≢◌, ℕ, ◌<◌, ◌≤◌, Bool, true, false, cond, leb, List, [], Option, sym, ap, subst, ◌∙◌, inl, inr, arith}
use Rattle.std.proofs.lemmas.Bool.{cases_lt, le-leb, lt-leb}
use Rattle.disk_model.specs.declared.block.BlockKind.{BlockKind}
use Rattle.disk_model.specs.Content.{Content}
use Rattle.record_model.specs.declared.runs.Run.{Run}
use Rattle.record_model.specs.Constants.{data_type}
use Rattle.record_model.specs.Records.{Record}
use Rattle.bit_set.specs.Bits.{bit}
use Rattle.state_model.specs.declared.geometry.Geometry.{Geometry}
use Rattle.state_model.specs.declared.stream.Extents.{Extents}
use Rattle.state_model.specs.declared.stream.Stream.{Stream}
use Rattle.state_model.specs.Loads.{extents_or}
use Rattle.volume_model.specs.Volumes.{Volume, bitmap_file, cluster_bits, file_in, file_stream, mirror_file}
use Rattle.volume_model.specs.Owners.{uses, volume_runs}
use Rattle.stream_laws.specs.Sharing.{stream_at}
use Rattle.tree_laws.proofs.Keeping.{rules_of}
use Rattle.tree_laws.proofs.Owning.{in_no_stream}
use Rattle.plan_owners.specs.States.{Stands}
use Rattle.plan_owners.specs.Kinds.{OwnsAs}
use Rattle.plan_owners.proofs.Outside.{unused_outside}
use Rattle.plan_bodies.specs.Bodies.{NewBody}
use Rattle.table_edits.specs.draft_bitmaps.declared.bitmap.Bitmap.{Bitmap}
use Rattle.table_edits.specs.plan_growth.Streams.{IsOwnStream}
use Rattle.table_edits.specs.plan_edits.Edits.{mirror_key}
use Rattle.bitmap_edits.specs.Bitmaps.{IsClusterBitmap, KeepsOwners}

-- ---- between two states

-- a cluster whose bit is clear is nobody's
pub clear_free : (c : Content) (g : Geometry) (clusters : ℕ) (v : Volume) (x : ℕ) → Stands c g clusters v → bit (cluster_bits c v) x ≡ false → uses (volume_runs v.files) x ≡ 0
clear_free c g clusters v x state clear = elim (cases_lt x v.clusters) [
  | inl low ↦ in_no_stream c v x (rules_of c v state.kept).rule_6 low clear
  | inr past ↦ unused_outside c g clusters v x state past
]

-- an edit of a file's own stream goes to a state that keeps the owners
pub own_between : (c : Content) (g : Geometry) (clusters : ℕ) (v : Volume) (bodies : List NewBody) (w : Volume) (n kind : ℕ) (name : List ℕ) (r : Record) (old : Stream) → KeepsOwners c g clusters v bodies w → IsOwnStream v n kind name r old → IsOwnStream w n kind name r old
own_between c g clusters v bodies w n kind name r old k own = record {
  file = k.files n own.apart.bitmap ∙ own.file;
  apart = own.apart;
  no_list = own.no_list;
  placeable = own.placeable;
  no_root = own.no_root;
  no_entries = own.no_entries;
  stream = own.stream;
}

pub mirror_between : (c : Content) (g : Geometry) (clusters : ℕ) (v : Volume) (bodies : List NewBody) (w : Volume) (mirror : Extents) → KeepsOwners c g clusters v bodies w → extents_or (stream_at v mirror_key) ≡ mirror → extents_or (stream_at w mirror_key) ≡ mirror
mirror_between c g clusters v bodies w mirror k is = ap (λ (o : Option Record). extents_or (file_stream data_type [] o)) (k.files mirror_file (λ e. omega (arith, e))) ∙ is

pub owned_as_before : (c : Content) (g : Geometry) (clusters : ℕ) (v : Volume) (bodies : List NewBody) (w : Volume) (kind : BlockKind) (x : ℕ) → KeepsOwners c g clusters v bodies w → OwnsAs w kind x → OwnsAs v kind x
owned_as_before c g clusters v bodies w kind x k owns = record { stream = owns.stream; is_kind = owns.is_kind; has = subst (λ (l : List Run). 0 < uses l x) (k.runs owns.stream) owns.has }

-- the bitmap of clusters stays where another file is put
pub bitmap_beside : (v w : Volume) (n : ℕ) (b : Bitmap) → n ≢ bitmap_file → ((m : ℕ) → m ≢ n → file_in w m ≡ file_in v m) → IsClusterBitmap v b → IsClusterBitmap w b
bitmap_beside v w n b other same k = record {
  number = k.number;
  kind = k.kind;
  stands = k.stands;
  file = k.file;
  is_file = same bitmap_file (λ e. other (sym e)) ∙ k.is_file;
  stands_as = k.stands_as;
  no_list = k.no_list;
  used = k.used;
  stream = k.stream;
  joined = k.joined;
}

pub set_in : (u : ℕ) (was : Bool) → 0 < u → cond (leb 1 u) true was ≡ true
set_in u was some = ap (λ (t : Bool). cond t true was) (le-leb 1 u some)

pub clear_in : (u : ℕ) (was : Bool) → 0 < u → cond (leb 1 u) false was ≡ false
clear_in u was some = ap (λ (t : Bool). cond t false was) (le-leb 1 u some)

pub out_of : (u : ℕ) (value was : Bool) → u ≤ 0 → cond (leb 1 u) value was ≡ was
out_of u value was none = ap (λ (t : Bool). cond t value was) (lt-leb 1 u (omega (arith, none)))
