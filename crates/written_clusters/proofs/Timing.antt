-- The times behind the other edits of a file.
use Rattle.std.proofs.Common.{◌≡◌, ◌⊎◌, ℕ, ◌<◌, ◌≤◌, ◌^◌, List, [], Option, Some, Ok, refl, sym, ap, subst, ◌∙◌, inl, inr}
use Rattle.std.specs.List.{AllByRecursion}
use Rattle.std.proofs.lemmas.Bool.{cases_lt}
use Rattle.disk_model.specs.declared.block.Block.{Block}
use Rattle.disk_model.specs.declared.block.BlockKind.{BlockKind}
use Rattle.disk_model.specs.declared.block.BlockKind.TheVariants.{FileRec}
use Rattle.disk_model.specs.Content.{Content, HasSizes}
use Rattle.record_model.specs.declared.runs.Run.{Run}
use Rattle.record_model.specs.declared.values.StdInfo.{StdInfo}
use Rattle.record_model.specs.Constants.{data_type}
use Rattle.record_model.specs.Records.{Record}
use Rattle.written_values.specs.record_writer.NormalLaws.{FitsByRoom}
use Rattle.file_tree.specs.declared.node.Node.{Node}
use Rattle.state_model.specs.declared.geometry.Geometry.{Geometry}
use Rattle.state_model.specs.declared.stream.Extents.{Extents}
use Rattle.state_model.specs.declared.stream.Stream.{Stream}
use Rattle.state_model.specs.Files.{info_of}
use Rattle.state_model.specs.Streams.{stream_of, block_at}
use Rattle.written_values.specs.volume_model.Volumes.{Volume, file_stream}
use Rattle.written_values.specs.stream_laws.Sharing.{StreamKey, stream_at, runs_in}
use Rattle.written_values.specs.volume_state.Trees.{tree_of}
use Rattle.written_values.specs.plan_owners.States.{Stands}
use Rattle.plan_bodies.specs.Bodies.{NewBody, put_bodies}
use Rattle.plan_bodies.proofs.Putting.{sized_with}
use Rattle.plan_draft.specs.declared.touched.Touched.{Touched}
use Rattle.plan_draft.specs.Touching.{bodies_of}
use Rattle.plan_draft.specs.Drafts.{drafted}
use Rattle.written_values.specs.plan_model.Attributes.{RewritesValues}
use Rattle.written_values.specs.plan_model.Edits.{IsOwnedIn}
use Rattle.written_values.specs.plan_model.Informed.{is_info, with_record, InfoDiffers}
use Rattle.written_values.proofs.plan_model.Rewriting.{same_stream}
use Rattle.written_values.specs.draft_records.Records.{written_record, written_bytes, fits_room}
use Rattle.written_values.proofs.draft_records.Written.{fits_written, room_full}
use Rattle.written_values.proofs.draft_records.Spelled.{spelled_but_room}
use Rattle.written_values.specs.record_streams.Fitting.{FitsButRoom}
use Rattle.written_values.specs.record_times.Times.{timed_record}
use Rattle.written_values.specs.record_times.Laws.{TimesAreSet}
use Rattle.state_streams.specs.plan_growth.Streams.{key_of, marks_streams}
use Rattle.written_values.specs.plan_values.Values.{IsOwnFile, WritesValues}
use Rattle.written_values.proofs.plan_values.Valued.{values_written, data_spared}
use Rattle.written_values.specs.plan_edits.Moves.{EditsDraft}
use Rattle.written_values.specs.plan_edits.Records.{PutsRecordOf}
use Rattle.written_values.proofs.plan_edits.Putting.{each_turned}
use Rattle.written_values.proofs.plan_informed.Informed.{values_edit}
use Rattle.written_values.specs.plan_changes.Changes.{Stamps}
use Rattle.written_values.specs.plan_changes.Going.{StandsAs}
use Rattle.written_values.proofs.plan_changes.Going.{files_going}
use Rattle.written_clusters.proofs.Staying.{times_stay}
use Rattle.written_clusters.proofs.Chaining.{PutsTo, KeepsMarks, mark_put, record_put, Chain, chain_goes_on}

-- ---- what the times make of a record

short_room : (p : Record) → fits_room p ≡ Ok tt → written_bytes p ≤ 1024
short_room p room = elim (cases_lt 1024 (written_bytes p)) [
  | inl over ↦ (let clash = sym room ∙ room_full p (written_bytes p) refl over in absurd cc)
  | inr short ↦ short
]

-- a record as it is written has a spelling but for its room
pub written_spelled : (p : Record) → FitsByRoom p → fits_room p ≡ Ok tt → FitsButRoom (written_record p)
written_spelled p fits room = spelled_but_room (written_record p) (fits_written p fits (short_room p room))

pub stamped : (times_set : TimesAreSet) (stamp : ℕ) (a : Node) (r s : Record) → stamp < 2 ^ 64 → FitsButRoom s → info_of s ≡ info_of r → a.flags ≡ (info_of r).flags → a.created ≡ (info_of r).created → a.read_at ≡ (info_of r).read_at → Stamps stamp a (info_of (timed_record stamp s))
stamped times_set stamp a r s low fits same flags created read_at =
    let is = times_set.info stamp s low fits in
    record {
      flags = ap (λ (i : StdInfo). i.flags) is ∙ ap (λ (i : StdInfo). i.flags) same ∙ sym flags;
      created = ap (λ (i : StdInfo). i.created) is ∙ ap (λ (i : StdInfo). i.created) same ∙ sym created;
      modified = ap (λ (i : StdInfo). i.modified) is;
      changed = ap (λ (i : StdInfo). i.changed) is;
      read_at = ap (λ (i : StdInfo). i.read_at) is ∙ ap (λ (i : StdInfo). i.read_at) same ∙ sym read_at;
    }

-- ---- the edit

module _ (c : Content) (g : Geometry) (clusters : ℕ) (v w : Volume) (mirror : Extents) (n : ℕ) (s p : Record) (runs : List Run) (mid new : List Touched) (gave : ℕ → Option BlockKind) (bodies : List NewBody) (sized : HasSizes c) (eight : g.per_cluster ≡ 8) (start : Stands c g clusters v)
    (state : Stands (drafted mid c) g clusters w) (keeps : KeepsMarks v w) (chain : Chain c g clusters v n runs mid w gave bodies) (own : IsOwnFile w n s) (values : RewritesValues is_info s p) (put : PutsRecordOf c w mirror n p mid new) where
  abbrev u : Volume
  u = with_record w n (written_record p)

  sized_mid : HasSizes (drafted mid c)
  sized_mid = sized_with c (bodies_of mid) sized

  edit : (bodies : List NewBody) × (EditsDraft c mid new bodies × WritesValues (drafted mid c) w n s p (written_record p) bodies)
  edit = values_edit.times c g clusters w mirror n s p mid new state own values put

  each : AllByRecursion (λ q. PutsTo v n runs q.block) edit.0
  each = each_turned (λ b. IsOwnedIn marks_streams w b ⊎ (block_at w.per w.table.runs FileRec n ≡ Some b)) (PutsTo v n runs) edit.0 turn edit.1.1.put.puts.each
    where
      turn : (b : Block) → IsOwnedIn marks_streams w b ⊎ (block_at w.per w.table.runs FileRec n ≡ Some b) → PutsTo v n runs b
      turn b (inl mark) = mark_put v w n runs b keeps mark
      turn b (inr its) = record_put v w n runs b keeps its

  pub timed_chain : (all : List NewBody) × Chain c g clusters v n runs new u gave all
  timed_chain = (
    put_bodies edit.0 bodies,
    chain_goes_on c g clusters v w u n runs mid new bodies edit.0 gave gave sized eight start chain edit.1.0
        (values_written.goes_on c v (drafted mid c) g clusters w n s p (written_record p) edit.0 gave sized_mid state edit.1.1 chain.draft.clear) each,
  )

  pub timed_state : Stands (drafted new c) g clusters u
  timed_state = subst (λ (x : Content). Stands x g clusters u) edit.1.0.content (values_written.leads (drafted mid c) g clusters w n s p (written_record p) edit.0 sized_mid state edit.1.1).stands

  pub timed_tree : InfoDiffers n (info_of p) (tree_of (drafted mid c) w) (tree_of (drafted new c) u)
  timed_tree = subst (λ (x : Content). InfoDiffers n (info_of p) (tree_of (drafted mid c) w) (tree_of x u)) edit.1.0.content (values_written.times_alone (drafted mid c) g clusters w n s p (written_record p) edit.0 sized_mid state edit.1.1 values)

  stands : StandsAs w n p (written_record p)
  stands = files_going.written (drafted mid c) g clusters w n s p (written_record p) edit.0 sized_mid state edit.1.1

  pub timed_runs : (t : StreamKey) → runs_in (stream_at u t) ≡ runs_in (stream_at w t)
  timed_runs t = times_stay w n s p (written_record p) own.file stands.own.file values stands.streams t

  -- its data stays
  pub timed_data : (o : Option Stream) → stream_of data_type [] s.attrs ≡ o → stream_at u (key_of n data_type []) ≡ o
  timed_data o is = ap (file_stream data_type []) stands.own.file ∙ stands.streams data_type [] ∙ same_stream is_info s p data_type [] values data_spared ∙ is
