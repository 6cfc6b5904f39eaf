-- Edits of one file, one behind the other, in a draft: what they have put, and where.
use Rattle.std.proofs.Common.{◌≡◌, ◌≢◌, ◌⊎◌, ℕ, ◌≤◌, true, ◌&&◌, ◌||◌, eqb, nat_eq, List, [], Option, Some, refl, sym, ap, ap₂, subst, ◌∙◌, inl, inr, arith}
use mathlib.Core.Path.{fun_ext}
use Rattle.std.specs.List.{AllByRecursion}
use Rattle.std.specs.Cmp.Lexicographic.{pointwise}
use Rattle.std.proofs.lemmas.Bool.{and_parts, or_cases, eqb-true}
use Rattle.disk_model.specs.declared.block.Block.{Block}
use Rattle.disk_model.specs.declared.block.BlockKind.{BlockKind}
use Rattle.disk_model.specs.declared.block.BlockKind.TheVariants.{FileRec}
use Rattle.disk_model.specs.Content.{Content, HasSizes}
use Rattle.record_model.specs.declared.runs.Run.{Run}
use Rattle.record_model.specs.Constants.{data_type}
use Rattle.record_model.specs.Records.{Record}
use Rattle.file_tree.specs.Walks.{first_user_record}
use Rattle.state_model.specs.declared.geometry.Geometry.{Geometry}
use Rattle.state_model.specs.declared.stream.Extents.{Extents}
use Rattle.state_model.specs.declared.stream.Stream.{Stream}
use Rattle.state_model.specs.Streams.{block_at}
use Rattle.written_values.specs.volume_model.Volumes.{Volume, mirror_file, bitmap_file}
use Rattle.written_values.specs.stream_laws.Owners.{stream_kind}
use Rattle.written_values.specs.stream_laws.Sharing.{StreamKey, stream_at, runs_in}
use Rattle.written_values.specs.plan_owners.States.{Stands}
use Rattle.plan_bodies.specs.Bodies.{NewBody, content_with, put_bodies}
use Rattle.plan_bodies.proofs.Putting.{body_put, all_in_both, contents_put}
use Rattle.plan_draft.specs.declared.touched.Touched.{Touched}
use Rattle.plan_draft.specs.Touching.{bodies_of}
use Rattle.plan_draft.specs.Drafts.{drafted}
use Rattle.plan_draft.specs.Same.{PutSame}
use Rattle.written_values.specs.plan_model.Drafts.{DraftIn, GoesOn, gives_none}
use Rattle.written_values.specs.plan_model.Edits.{IsOwnedIn}
use Rattle.written_values.specs.plan_model.Informed.{with_record}
use Rattle.written_values.proofs.plan_model.Drafting.{begins_empty, goes_on}
use Rattle.state_streams.specs.plan_growth.Streams.{key_of, marks_streams}
use Rattle.written_values.specs.plan_edits.Moves.{EditsDraft}
use Rattle.written_values.proofs.plan_edits.Putting.{drafts_put}
use Rattle.written_clusters.proofs.Staying.{elsewhere}

-- the draft that touched nothing has the content
pub none_drafted : (c : Content) → HasSizes c → drafted [] c ≡ c
none_drafted c sized = (let each : (b : Block) → drafted [] c b ≡ c b = λ b. body_put c [] b sized (record { whole = tt; own = tt }) in fun_ext each)

-- ---- the bitmap and the mirror

pub mark_file : (t : StreamKey) → marks_streams t ≡ true → (t.file ≡ bitmap_file) ⊎ (t.file ≡ mirror_file)
mark_file t is =
    elim (or_cases (eqb t.file bitmap_file) (eqb t.file mirror_file) (and_parts (eqb t.file bitmap_file || eqb t.file mirror_file) (eqb t.kind data_type) (and_parts ((eqb t.file bitmap_file || eqb t.file mirror_file) && eqb t.kind data_type) (pointwise nat_eq t.name []) is).0).0) [
      | inl bits ↦ inl (eqb-true t.file bitmap_file bits)
      | inr mirror ↦ inr (eqb-true t.file mirror_file mirror)
    ]

-- they aren't streams of a user's file
pub mark_apart : (n : ℕ) (t : StreamKey) → first_user_record ≤ n → marks_streams t ≡ true → t.file ≢ n
mark_apart n t user is same = elim (mark_file t is) [
  | inl bits ↦ omega (arith, user, same, bits)
  | inr mirror ↦ omega (arith, user, same, mirror)
]

-- ---- where bodies are put

-- a block of the file's record, of the bitmap or the mirror, or of the file's data in these runs
abbrev pub PutsTo : Volume → ℕ → List Run → Block → Type 0
PutsTo v n runs b = (block_at v.per v.table.runs FileRec n ≡ Some b) ⊎ (IsOwnedIn marks_streams v b ⊎ ((m : ℕ) × (block_at v.per runs (stream_kind (key_of n data_type [])) m ≡ Some b)))

-- the second volume has the clusters of the first one's file table, bitmap and mirror
pub record KeepsMarks (v w : Volume) : Type 0 where
  pub per : w.per ≡ v.per
  pub table : w.table ≡ v.table
  pub marks : (t : StreamKey) → marks_streams t ≡ true → stream_at w t ≡ stream_at v t

pub keeps_itself : (v : Volume) → KeepsMarks v v
keeps_itself v = record { per = refl; table = refl; marks = λ t is. refl }

pub keeps_with : (v w : Volume) (n : ℕ) (s : Record) → first_user_record ≤ n → KeepsMarks v w → KeepsMarks v (with_record w n s)
keeps_with v w n s user keeps = record { per = keeps.per; table = keeps.table; marks = λ t is. elsewhere w n s t (mark_apart n t user is) ∙ keeps.marks t is }

pub mark_put : (v w : Volume) (n : ℕ) (runs : List Run) (b : Block) → KeepsMarks v w → IsOwnedIn marks_streams w b → PutsTo v n runs b
mark_put v w n runs b keeps is =
    inr
    (inl
    (record {
      stream = is.stream;
      chosen = is.chosen;
      number = is.number;
      lies = sym (ap₂ (λ (per : ℕ) (o : Option Stream). block_at per (runs_in o) (stream_kind is.stream) is.number) keeps.per (keeps.marks is.stream is.chosen)) ∙ is.lies;
    }))

pub record_put : (v w : Volume) (n : ℕ) (runs : List Run) (b : Block) → KeepsMarks v w → block_at w.per w.table.runs FileRec n ≡ Some b → PutsTo v n runs b
record_put v w n runs b keeps is = inl (sym (ap₂ (λ (per : ℕ) (e : Extents). block_at per e.runs FileRec n) keeps.per keeps.table) ∙ is)

pub own_put : (v w : Volume) (n m : ℕ) (runs : List Run) (b : Block) → KeepsMarks v w → runs_in (stream_at w (key_of n data_type [])) ≡ runs → block_at w.per (runs_in (stream_at w (key_of n data_type []))) (stream_kind (key_of n data_type [])) m ≡ Some b → PutsTo v n runs b
own_put v w n m runs b keeps same is = inr (inr (m, sym (ap₂ (λ (per : ℕ) (l : List Run). block_at per l (stream_kind (key_of n data_type [])) m) keeps.per same) ∙ is))

-- ---- edits one behind the other

-- these bodies put the same as the draft, lead to a state, and go to the file's own blocks
pub record Chain (c : Content) (g : Geometry) (clusters : ℕ) (v : Volume) (n : ℕ) (runs : List Run) (touched : List Touched) (w : Volume) (gave : ℕ → Option BlockKind) (bodies : List NewBody) : Type 0 where
  pub same : PutSame (bodies_of touched) bodies
  pub content : content_with c bodies ≡ drafted touched c
  pub draft : DraftIn c g clusters v bodies w gave
  pub each : AllByRecursion (λ p. PutsTo v n runs p.block) bodies

pub chain_begins : (c : Content) (g : Geometry) (clusters : ℕ) (v : Volume) (n : ℕ) (runs : List Run) → HasSizes c → Stands c g clusters v → Chain c g clusters v n runs [] v gives_none []
chain_begins c g clusters v n runs sized state = record { same = λ b. refl; content = refl; draft = begins_empty c g clusters v sized state; each = tt }

pub chain_goes_on : (c : Content) (g : Geometry) (clusters : ℕ) (v w u : Volume) (n : ℕ) (runs : List Run) (old new : List Touched) (bodies more : List NewBody) (gave gives : ℕ → Option BlockKind) → HasSizes c → g.per_cluster ≡ 8 → Stands c g clusters v → Chain c g clusters v n runs old w gave bodies
    → EditsDraft c old new more → GoesOn c v (drafted old c) g clusters w more u gave gives → AllByRecursion (λ p. PutsTo v n runs p.block) more → Chain c g clusters v n runs new u gives (put_bodies more bodies)
chain_goes_on c g clusters v w u n runs old new bodies more gave gives sized eight state chain edits goes each = record {
  same = drafts_put.kept bodies more old new goes.whole chain.same edits.same;
  content = contents_put c bodies more sized chain.draft.whole goes.whole ∙ ap (λ (x : Content). content_with x more) chain.content ∙ edits.content;
  draft = goes_on c g clusters v w u bodies more gave gives sized eight state chain.draft (subst (λ (x : Content). GoesOn c v x g clusters w more u gave gives) (sym chain.content) goes);
  each = all_in_both (λ p. PutsTo v n runs p.block) bodies more chain.each each;
}
