-- Edits of a draft, one behind the other.
use Rattle.std.proofs.Common.{◌≡◌, ℕ, false, List, [], Option, Some, refl, sym, ap, subst, ◌∙◌}
use mathlib.Core.Path.{fun_ext}
use Rattle.std.proofs.lemmas.List.Elements.{All-nil}
use Rattle.disk_model.specs.declared.block.Block.{Block}
use Rattle.disk_model.specs.declared.block.BlockKind.{BlockKind}
use Rattle.disk_model.specs.Content.{Content, HasSizes}
use Rattle.bit_set.specs.Bits.{bit}
use Rattle.record_model.specs.Records.{Record, record_spelling}
use Rattle.change_steps.specs.state_model.declared.geometry.Geometry.{Geometry}
use Rattle.change_steps.specs.state_model.declared.stream.Extents.{Extents}
use Rattle.change_steps.specs.state_model.Loads.{extents_or}
use Rattle.change_steps.specs.volume_model.Volumes.{Volume, cluster_bits}
use Rattle.change_steps.specs.stream_laws.Sharing.{stream_at}
use Rattle.change_steps.specs.plan_owners.States.{Stands}
use Rattle.plan_bodies.specs.Bodies.{NewBody, content_with, put_bodies}
use Rattle.plan_bodies.proofs.Putting.{body_put, contents_put}
use Rattle.change_steps.specs.plan_draft.declared.touched.Touched.{Touched}
use Rattle.change_steps.specs.plan_draft.Touching.{bodies_of, rises, IsWhole}
use Rattle.change_steps.specs.plan_draft.Drafts.{drafted}
use Rattle.change_steps.specs.plan_draft.Same.{PutSame}
use Rattle.change_steps.specs.plan_model.Drafts.{DraftIn, GoesOn, gives_none}
use Rattle.change_steps.proofs.plan_model.Drafting.{begins_empty, goes_on}
use Rattle.change_steps.specs.draft_bits.Effects.{IsKept}
use Rattle.change_steps.specs.draft_records.Records.{written_record, touch_record}
use Rattle.change_steps.specs.plan_edits.Edits.{mirror_key}
use Rattle.change_steps.specs.plan_edits.Moves.{EditsDraft}
use Rattle.change_steps.specs.plan_edits.Records.{PutsRecordOf}
use Rattle.change_steps.proofs.plan_edits.Putting.{drafts_put}
use Rattle.change_steps.specs.file_puts.declared.streams.VolumeStreams.{VolumeStreams}
use Rattle.change_steps.specs.file_puts.Puts.{PutsFileRecord}

-- ---- a draft that touched nothing

pub nothing_put : (c : Content) → HasSizes c → drafted [] c ≡ c
nothing_put c sized =
    let each : (b : Block) → drafted [] c b ≡ c b = λ b. body_put c [] b sized (record { whole = tt; own = tt }) in
    fun_ext each

pub nothing_kept : IsKept []
unfolding rises
nothing_kept = record { rises = refl; whole = All-nil IsWhole }

-- ---- one that has led somewhere

-- The draft stands for a content with bodies that have led from the state to this volume.
pub record Reaches (c : Content) (g : Geometry) (clusters : ℕ) (v : Volume) (new : List Touched) (w : Volume) : Type 0 where
  pub gave : ℕ → Option BlockKind
  pub bodies : List NewBody
  pub same : PutSame (bodies_of new) bodies
  pub content : content_with c bodies ≡ drafted new c
  pub draft : DraftIn c g clusters v bodies w gave

pub begins : (c : Content) (g : Geometry) (clusters : ℕ) (v : Volume) → HasSizes c → Stands c g clusters v → Reaches c g clusters v [] v
begins c g clusters v sized state = record { gave = gives_none; bodies = []; same = λ b. refl; content = refl; draft = begins_empty c g clusters v sized state }

-- an edit more that gives nothing
abbrev pub GivesNothing : Content → Volume → Content → Geometry → ℕ → Volume → List NewBody → Volume → Type 0
GivesNothing c v d g clusters w more u = (gave : ℕ → Option BlockKind) → ((kind : BlockKind) (x : ℕ) → gave x ≡ Some kind → bit (cluster_bits c v) x ≡ false) → GoesOn c v d g clusters w more u gave gave

pub goes_behind : (c : Content) (g : Geometry) (clusters : ℕ) (v w u : Volume) (old new : List Touched) (more : List NewBody) → HasSizes c → g.per_cluster ≡ 8 → Stands c g clusters v → Reaches c g clusters v old w → EditsDraft c old new more
    → GivesNothing c v (drafted old c) g clusters w more u → Reaches c g clusters v new u
goes_behind c g clusters v w u old new more sized eight state before edit on =
    let next : GoesOn c v (content_with c before.bodies) g clusters w more u before.gave before.gave = subst (λ (x : Content). GoesOn c v x g clusters w more u before.gave before.gave) (sym before.content) (on before.gave before.draft.clear) in
    record {
      gave = before.gave;
      bodies = put_bodies more before.bodies;
      same = drafts_put.kept before.bodies more old new next.whole before.same edit.same;
      content = contents_put c before.bodies more sized before.draft.whole next.whole ∙ ap (λ (x : Content). content_with x more) before.content ∙ edit.content;
      draft = goes_on c g clusters v w u before.bodies more before.gave before.gave sized eight state before.draft next;
    }

-- ---- a record that is put

-- a file's record is put into a draft of this volume
pub puts_record : (c : Content) (w : Volume) (s : VolumeStreams) (n : ℕ) (p : Record) (old new : List Touched) → HasSizes c → IsKept old → w.per ≡ 8 → s.table ≡ w.table → extents_or (stream_at w mirror_key) ≡ s.mirror → PutsFileRecord c s n p old new → PutsRecordOf c w s.mirror n p old new
puts_record c w s n p old new sized kept eight table mirror put = record {
  sized = sized;
  kept = kept;
  mirror_is = mirror;
  fits = put.fits;
  room = put.room;
  put = put.put ∙ ap (λ (x : ℕ). touch_record c x s.table s.mirror n (record_spelling (written_record p)) old) (sym eight) ∙ ap (λ (t : Extents). touch_record c w.per t s.mirror n (record_spelling (written_record p)) old) table;
}
