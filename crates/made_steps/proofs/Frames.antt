-- What a directory's times leave of its index.
use Rattle.std.proofs.Common.{◌≡◌, ℕ, ◌*◌, ◌/◌, ◌≤◌, Bool, true, false, ◌&&◌, cond, eqb, leb, ltb, List, [], ◌∷◌, map, Option, Some, None, refl, sym, ap, ap₂, ◌∙◌, inl, inr}
use Rattle.std.specs.Prelude.{find}
use Rattle.std.proofs.lemmas.Bool.{cases_Bool, and_right, le-ltb}
use Rattle.disk_model.specs.declared.block.Block.{Block}
use Rattle.disk_model.specs.declared.block.BlockKind.TheVariants.{FileRec, Index}
use Rattle.disk_model.specs.Content.{Content}
use Rattle.disk_model.specs.Sectors.{same_block, same_kind}
use Rattle.record_model.specs.declared.attribute.Attr.{Attr}
use Rattle.record_model.specs.declared.attribute.OwnForm.{OwnForm}
use Rattle.record_model.specs.declared.attribute.OwnForm.TheVariants.{Resident, Mapped}
use Rattle.record_model.specs.Records.{Record}
use Rattle.record_writer.specs.Normal.{normal_form, normal}
use Rattle.state_model.specs.declared.stream.Extents.{Extents}
use Rattle.state_model.specs.declared.stream.Stream.{Stream}
use Rattle.state_model.specs.declared.stream.Stream.TheVariants.{Held, Placed}
use Rattle.state_model.specs.Indexes.{is_names_root}
use Rattle.state_model.specs.Streams.{block_at}
use Rattle.stream_map.proofs.Reading.{kind-block_at}
use Rattle.volume_model.specs.Indexes.{void_block, or_void, index_block, form_value, attr_value, root_value}
use Rattle.stream_laws.specs.Frames.{SameIndexIn}
use Rattle.plan_bodies.specs.Bodies.{body_in}
use Rattle.plan_draft.specs.declared.touched.Touched.{Touched}
use Rattle.plan_draft.specs.Touching.{bodies_of}
use Rattle.draft_records.specs.Records.{record_block, is_past, written_record, touch_if, touch_record}
use Rattle.made_trees.proofs.made_files.Nodes.{after_touch}

pub no_mirror : (c : Content) (per : ℕ) (table mirror : Extents) (n : ℕ) (bytes : List ℕ) (old : List Touched) → 4 ≤ n → touch_record c per table mirror n bytes old ≡ touch_if c (record_block per table n) (is_past table n) bytes old
no_mirror c per table mirror n bytes old high =
    let own : List Touched = touch_if c (record_block per table n) (is_past table n) bytes old in
    ap (λ (t : Bool). cond (t && ltb n (mirror.real / 1024)) (touch_if c (record_block per mirror n) (is_past mirror n) bytes own) own) (le-ltb n 4 high)

away_if : (c : Content) (o : Option Block) (fresh : Bool) (bytes : List ℕ) (touched : List Touched) (b : Block) → ((a : Block) → o ≡ Some a → same_block b a ≡ false) → body_in (bodies_of (touch_if c o fresh bytes touched)) b ≡ body_in (bodies_of touched) b
away_if c None fresh bytes touched b apart = refl
away_if c (Some a) fresh bytes touched b apart = after_touch touched a b fresh bytes (c a) ∙ ap (λ (t : Bool). cond t (Some bytes) (body_in (bodies_of touched) b)) (apart a refl)

-- an index block has no record
pub index_away : (c : Content) (per : ℕ) (e : Extents) (n : ℕ) (fresh : Bool) (bytes : List ℕ) (touched : List Touched) (b : Block) → b.kind ≡ Index → body_in (bodies_of (touch_if c (record_block per e n) fresh bytes touched)) b ≡ body_in (bodies_of touched) b
index_away c per e n fresh bytes touched b kind =
    away_if c (record_block per e n) fresh bytes touched b (λ a there. and_right (eqb b.first a.first) (same_kind b.kind a.kind) (ap₂ same_kind kind (kind-block_at per e.runs FileRec n a (sym there))))

pub index_kind : (per : ℕ) (e : Extents) (i : ℕ) → (index_block per e i).kind ≡ Index
unfolding index_block
index_kind per e i = by_test (leb e.initialised (4096 * i)) (block_at per e.runs Index i) refl
  where
    by_test : (t : Bool) (o : Option Block) → block_at per e.runs Index i ≡ o → (cond t void_block (or_void o)).kind ≡ Index
    by_test true o same = refl
    by_test false None same = refl
    by_test false (Some b) same = kind-block_at per e.runs Index i b (sym same)

pub same_in : (c d : Content) (per : ℕ) (o : Option Stream) → ((b : Block) → b.kind ≡ Index → d b ≡ c b) → SameIndexIn c d per o
same_in c d per None same = tt
same_in c d per (Some (Held bytes)) same = tt
same_in c d per (Some (Placed e)) same = λ i low. same (index_block per e i) (index_kind per e i)

-- ---- the root of a record that is written

form_same : (form : OwnForm) → form_value (normal_form form) ≡ form_value form
form_same (Resident value indexed) = refl
form_same (Mapped sizes pairs) = refl

root_normal : (attrs : List Attr) → attr_value (find is_names_root (map normal attrs)) ≡ attr_value (find is_names_root attrs)
unfolding is_names_root
root_normal [] = refl
root_normal (a ∷ attrs) = elim (cases_Bool (is_names_root a)) [
  | inl is ↦ ap (λ (t : Bool). attr_value (cond t (Some (normal a)) (find is_names_root (map normal attrs)))) is ∙ form_same a.form ∙ sym (ap (λ (t : Bool). attr_value (cond t (Some a) (find is_names_root attrs))) is)
  | inr other ↦ ap (λ (t : Bool). attr_value (cond t (Some (normal a)) (find is_names_root (map normal attrs)))) other ∙ root_normal attrs ∙ sym (ap (λ (t : Bool). attr_value (cond t (Some a) (find is_names_root attrs))) other)
]

pub root_written : (p : Record) → root_value (written_record p) ≡ root_value p
unfolding root_value
root_written p = root_normal p.attrs
