-- Sums over the files of a volume by number.
use Rattle.std.proofs.Common.{◌≡◌, ℕ, zero, suc, ◌+◌, ◌-◌, ◌/◌, ◌<◌, ◌≤◌, Bool, true, false, cond, List, [], ◌∷◌, ◌++◌, length, get_or, set, replicate, Option, Some, None, refl, ap, ◌∙◌, inl, inr, arith}
use Rattle.std.specs.List.{sum_by, filter}
use Rattle.std.proofs.lemmas.Bool.{cases_Bool}
use Rattle.std.proofs.lemmas.List.Sums.{sum_by-cons}
use Rattle.volume_model.specs.disk_model.declared.block.Block.{Block}
use Rattle.volume_model.specs.disk_model.declared.block.BlockKind.{BlockKind}
use Rattle.volume_model.specs.disk_model.declared.block.BlockKind.TheVariants.{Plain, FileRec, Index}
use Rattle.volume_model.specs.disk_model.Sectors.{same_kind, HasSector}
use Rattle.volume_model.specs.record_model.declared.attribute.Attr.{Attr}
use Rattle.volume_model.specs.record_model.Records.{Record}
use Rattle.volume_model.specs.state_model.Files.{only_base, is_base_record, file_at}
use Rattle.volume_model.specs.state_model.Loads.{table_in}
use Rattle.volume_model.specs.state_model.Streams.{attribute_runs, is_attribute_of}
use Rattle.volume_model.specs.Volumes.{Volume, file_in, file_stream}
use Rattle.volume_model.specs.Owners.{volume_runs, uses}
use Rattle.stream_laws.specs.Owners.{stream_kind, Owns}
use Rattle.stream_laws.specs.Replacing.{FileEdit, with_edits, AreEdits}
use Rattle.stream_laws.specs.Rewrites.{filled_up}
use Rattle.stream_laws.specs.Sharing.{StreamKey, stream_at, runs_in}
use Rattle.stream_laws.specs.Weights.{weight_from, weight_of, weight_lost, weight_gained, attr_kind, attr_uses_as, uses_as}
use Rattle.stream_laws.proofs.Editing.{balance}
use Rattle.stream_laws.proofs.Placing.{lies, lies_in_used}
use Rattle.stream_laws.proofs.Sharing.{attr_uses, file_uses, uses-none, uses-flat_map, volume_sum, stream_uses, attribute_kind}

abbrev Files : Type 0
Files = List (Option Record)

abbrev Weight : Type 0
Weight = ℕ → Option Record → ℕ

-- ---- one file replaced

weight_set : (weigh : Weight) (a n : ℕ) (files : Files) (file : Option Record) → n < length files → weight_from weigh a (set files n file) + weigh (a + n) (get_or files n None) ≡ weight_from weigh a files + weigh (a + n) file
weight_set weigh a n [] file within = absurd (omega arith)
weight_set weigh a zero (o ∷ files) file within =
    let here : a + 0 ≡ a = omega arith in
    let old : weigh (a + 0) o ≡ weigh a o = ap (λ (k : ℕ). weigh k o) here in
    let new : weigh (a + 0) file ≡ weigh a file = ap (λ (k : ℕ). weigh k file) here in
    omega (arith, old, new)
weight_set weigh a (suc n) (o ∷ files) file within =
    let rest = weight_set weigh (suc a) n files file (omega (arith, within)) in
    let here : suc a + n ≡ a + suc n = omega arith in
    let old : weigh (suc a + n) (get_or files n None) ≡ weigh (a + suc n) (get_or files n None) = ap (λ (k : ℕ). weigh k (get_or files n None)) here in
    let new : weigh (suc a + n) file ≡ weigh (a + suc n) file = ap (λ (k : ℕ). weigh k file) here in
    omega (arith, rest, old, new)

one_weight : (weigh : Weight) (files : Files) (n : ℕ) (file : Option Record) → n < length files → weight_of weigh (set files n file) + weigh n (get_or files n None) ≡ weight_of weigh files + weigh n file
one_weight weigh files n file within =
    let here : 0 + n ≡ n = omega arith in
    let sums = weight_set weigh 0 n files file within in
    let old : weigh (0 + n) (get_or files n None) ≡ weigh n (get_or files n None) = ap (λ (k : ℕ). weigh k (get_or files n None)) here in
    let new : weigh (0 + n) file ≡ weigh n file = ap (λ (k : ℕ). weigh k file) here in
    omega (arith, sums, old, new)

-- whatever a file weighs
pub weights_balance : (weigh : Weight) (files : Files) (edits : List FileEdit) → AreEdits (length files) edits → weight_of weigh (with_edits edits files) + weight_lost weigh files edits ≡ weight_of weigh files + weight_gained weigh edits
weights_balance weigh files edits are = balance (weight_of weigh) weigh (length files) (λ fs n file size lt. one_weight weigh fs n file (omega (arith, lt, size))) files edits refl are

-- ---- one file of all

weight_one : (weigh : Weight) (a n : ℕ) (files : Files) → ((k : ℕ) → weigh k None ≡ 0) → weigh (a + n) (get_or files n None) ≤ weight_from weigh a files
weight_one weigh a n [] none = omega (arith, none (a + n))
weight_one weigh a zero (o ∷ files) none =
    let here : weigh (a + 0) o ≡ weigh a o = (let at : a + 0 ≡ a = omega arith in ap (λ (k : ℕ). weigh k o) at) in
    omega (arith, here)
weight_one weigh a (suc n) (o ∷ files) none =
    let here : weigh (suc a + n) (get_or files n None) ≡ weigh (a + suc n) (get_or files n None) = (let at : suc a + n ≡ a + suc n = omega arith in ap (λ (k : ℕ). weigh k (get_or files n None)) at) in
    omega (arith, here, weight_one weigh (suc a) n files none)

pub weight_among : (weigh : Weight) (n : ℕ) (files : Files) → ((k : ℕ) → weigh k None ≡ 0) → weigh n (get_or files n None) ≤ weight_of weigh files
weight_among weigh n files none =
    let here : weigh (0 + n) (get_or files n None) ≡ weigh n (get_or files n None) = (let at : 0 + n ≡ n = omega arith in ap (λ (k : ℕ). weigh k (get_or files n None)) at) in
    omega (arith, here, weight_one weigh 0 n files none)

-- ---- files that aren't there

weight_append : (weigh : Weight) (a : ℕ) (files more : Files) → weight_from weigh a (files ++ more) ≡ weight_from weigh a files + weight_from weigh (a + length files) more
weight_append weigh a [] more =
    let here : weight_from weigh (a + 0) more ≡ weight_from weigh a more = (let at : a + 0 ≡ a = omega arith in ap (λ (k : ℕ). weight_from weigh k more) at) in
    omega (arith, here)
weight_append weigh a (o ∷ files) more =
    let here : weight_from weigh (suc a + length files) more ≡ weight_from weigh (a + length (o ∷ files)) more = (let at : suc a + length files ≡ a + length (o ∷ files) = omega arith in ap (λ (k : ℕ). weight_from weigh k more) at) in
    omega (arith, here, weight_append weigh (suc a) files more)

weight_none : (weigh : Weight) (a n : ℕ) → ((k : ℕ) → weigh k None ≡ 0) → weight_from weigh a (replicate n None) ≡ 0
weight_none weigh a zero none = refl
weight_none weigh a (suc n) none = omega (arith, none a, weight_none weigh (suc a) n none)

pub weight_filled : (weigh : Weight) (count : ℕ) (files : Files) → ((k : ℕ) → weigh k None ≡ 0) → weight_of weigh (filled_up count files) ≡ weight_of weigh files
weight_filled weigh count files none = omega (arith, weight_append weigh 0 files (replicate (count - length files) None), weight_none weigh (0 + length files) (count - length files) none)

-- ---- clusters by kind

of_one_kind : (k : BlockKind) (u : ℕ) → u ≡ cond (same_kind Plain k) u 0 + cond (same_kind FileRec k) u 0 + cond (same_kind Index k) u 0
of_one_kind Plain u = omega arith
of_one_kind FileRec u = omega arith
of_one_kind Index u = omega arith

attrs_by_kind : (x n : ℕ) (attrs : List Attr) → sum_by (attr_uses x) attrs ≡ sum_by (attr_uses_as Plain x n) attrs + sum_by (attr_uses_as FileRec x n) attrs + sum_by (attr_uses_as Index x n) attrs
attrs_by_kind x n [] = refl
attrs_by_kind x n (a ∷ attrs) =
    omega (
      arith,
      sum_by-cons (attr_uses x) a attrs,
      sum_by-cons (attr_uses_as Plain x n) a attrs,
      sum_by-cons (attr_uses_as FileRec x n) a attrs,
      sum_by-cons (attr_uses_as Index x n) a attrs,
      of_one_kind (attr_kind n a) (attr_uses x a),
      attrs_by_kind x n attrs,
    )

file_by_kind : (x n : ℕ) (o : Option Record) → file_uses x o ≡ uses_as Plain x n o + uses_as FileRec x n o + uses_as Index x n o
file_by_kind x n None = omega (arith, uses-none x)
file_by_kind x n (Some r) = omega (arith, uses-flat_map attribute_runs r.attrs x, attrs_by_kind x n r.attrs)

files_by_kind : (x n : ℕ) (files : Files) → sum_by (file_uses x) files ≡ weight_from (uses_as Plain x) n files + weight_from (uses_as FileRec x) n files + weight_from (uses_as Index x) n files
files_by_kind x n [] = refl
files_by_kind x n (o ∷ files) = omega (arith, sum_by-cons (file_uses x) o files, file_by_kind x n o, files_by_kind x (suc n) files)

pub clusters_by_kind : (x : ℕ) (files : Files) → uses (volume_runs files) x ≡ weight_of (uses_as Plain x) files + weight_of (uses_as FileRec x) files + weight_of (uses_as Index x) files
clusters_by_kind x files = omega (arith, volume_sum files x, files_by_kind x 0 files)

-- ---- blocks that are owned

kind_itself : (k : BlockKind) (u : ℕ) → cond (same_kind k k) u 0 ≡ u
kind_itself Plain u = refl
kind_itself FileRec u = refl
kind_itself Index u = refl

-- an attribute of a stream has the stream's kind
attr_of_stream : (s : StreamKey) (x : ℕ) (a : Attr) → is_attribute_of s.kind s.name a ≡ true → attr_uses_as (stream_kind s) x s.file a ≡ attr_uses x a
attr_of_stream s x a is =
    let parts = attribute_kind s.kind s.name a is in
    let same : attr_kind s.file a ≡ stream_kind s = ap (λ (k : ℕ). stream_kind (record { file = s.file; kind = k; name = a.name })) parts.0 ∙ ap (λ (l : List ℕ). stream_kind (record { file = s.file; kind = s.kind; name = l })) parts.1 in
    ap (λ (k : BlockKind). cond (same_kind (stream_kind s) k) (attr_uses x a) 0) same ∙ kind_itself (stream_kind s) (attr_uses x a)

attrs_of_stream : (s : StreamKey) (x : ℕ) (attrs : List Attr) → sum_by (attr_uses x) (filter (is_attribute_of s.kind s.name) attrs) ≤ sum_by (attr_uses_as (stream_kind s) x s.file) attrs
attrs_of_stream s x [] = omega arith
attrs_of_stream s x (a ∷ attrs) = elim (cases_Bool (is_attribute_of s.kind s.name a)) [
  | inl is ↦
      rw is
      (omega (
        arith,
        sum_by-cons (attr_uses x) a (filter (is_attribute_of s.kind s.name) attrs),
        sum_by-cons (attr_uses_as (stream_kind s) x s.file) a attrs,
        attr_of_stream s x a is,
        attrs_of_stream s x attrs,
      ))
  | inr other ↦ rw other (omega (arith, sum_by-cons (attr_uses_as (stream_kind s) x s.file) a attrs, attrs_of_stream s x attrs))
]

file_of_stream : (s : StreamKey) (x : ℕ) (o : Option Record) → uses (runs_in (file_stream s.kind s.name o)) x ≤ uses_as (stream_kind s) x s.file o
file_of_stream s x None = omega (arith, uses-none x)
file_of_stream s x (Some r) = omega (arith, stream_uses s.kind s.name r.attrs x, attrs_of_stream s x r.attrs)

base_weight : (kind : BlockKind) (x n : ℕ) (o : Option Record) → uses_as kind x n (only_base o) ≤ uses_as kind x n o
base_weight kind x n None = omega arith
base_weight kind x n (Some r) = chosen (is_base_record r)
  where
    chosen : (t : Bool) → uses_as kind x n (cond t (Some r) None) ≤ uses_as kind x n (Some r)
    chosen true = omega arith
    chosen false = omega arith

pub stream_by_kind : (v : Volume) (s : StreamKey) (x : ℕ) → uses (runs_in (stream_at v s)) x ≤ weight_of (uses_as (stream_kind s) x) v.files
unfolding file_at
stream_by_kind v s x =
    omega (arith, file_of_stream s x (file_in v s.file), base_weight (stream_kind s) x s.file (table_in v.files s.file), weight_among (uses_as (stream_kind s) x) s.file v.files (λ k. refl))

pub owned_by_kind : (v : Volume) (b : Block) (d : ℕ) → 0 < v.per → Owns v b → HasSector b d → 1 ≤ weight_of (uses_as b.kind (d / v.per)) v.files
owned_by_kind v b d some owns has =
    let runs = runs_in (stream_at v owns.stream) in
    let kind : stream_kind owns.stream ≡ b.kind = (lies v.per runs (stream_kind owns.stream) owns.number b owns.lies).kind_is in
    let used = lies_in_used v.per runs (stream_kind owns.stream) owns.number b some owns.lies d has in
    let all = stream_by_kind v owns.stream (d / v.per) in
    let same : weight_of (uses_as (stream_kind owns.stream) (d / v.per)) v.files ≡ weight_of (uses_as b.kind (d / v.per)) v.files = ap (λ (k : BlockKind). weight_of (uses_as k (d / v.per)) v.files) kind in
    omega (arith, used, all, same)
