-- The record of a new file has room, and the nodes of a plan are whole bodies.
use Rattle.std.proofs.Common.{◌≡◌, ℕ, ◌*◌, ◌≤◌, List, [], ◌∷◌, length, refl, sym, ap, subst, ◌∙◌, arith}
use Rattle.std.specs.Prelude.{IfOk, Result, Ok, Err}
use Rattle.std.proofs.lemmas.List.Elements.{All-nil, All-cons}
use Rattle.host_base.specs.declared.file_ref.FileRef.{FileRef}
use Rattle.disk_model.specs.declared.block.BlockKind.{BlockKind}
use Rattle.disk_model.specs.declared.block.BlockKind.TheVariants.{Plain, FileRec, Index}
use Rattle.disk_model.specs.declared.block.Change.{Change}
use Rattle.disk_model.specs.Sectors.{sectors}
use Rattle.record_model.specs.Records.{Record, used_of}
use Rattle.record_model.proofs.NodeSpelling.{length-node_spelling}
use Rattle.file_puts.specs.record_writer.NormalLaws.{FitsByRoom}
use Rattle.index_model.specs.Indexes.{Place}
use Rattle.index_plan.specs.declared.write.Write.{Write}
use Rattle.index_node.specs.Roots.{new_node}
use Rattle.file_puts.specs.index_change.declared.nodes_plan.NodesPlan.{NodesPlan}
use Rattle.file_puts.specs.index_change.declared.plan.DirPlan.{DirPlan}
use Rattle.file_puts.specs.index_change.Changing.{PutNodes}
use Rattle.file_puts.specs.index_change.NodePlans.{LaysOut}
use Rattle.file_puts.specs.draft_records.Records.{written_bytes, SpelledFitsByRoom}
use Rattle.new_files.specs.NewFiles.{new_record}
use Rattle.new_files.specs.Laws.{HasFields, NewFileReads}
use Rattle.file_makes.specs.Making.{IsWhole, AreWhole}

-- ---- the record

pub record_fits : {E : Type 0} (reads : NewFileReads) (fits : SpelledFitsByRoom) (lsn : ℕ) (file parent : FileRef) (name : List ℕ) (stamp : ℕ) (result : Result Record E) → HasFields lsn file parent name stamp → IfOk result (λ r. r ≡ new_record lsn file parent name stamp) → IfOk result FitsByRoom
record_fits reads fits lsn file parent name stamp (Ok r) has is = subst FitsByRoom (sym is) (fits (new_record lsn file parent name stamp) (reads lsn file parent name stamp has).spelled.fits)
record_fits reads fits lsn file parent name stamp (Err e) has is = tt

pub record_short : {E : Type 0} (reads : NewFileReads) (lsn : ℕ) (file parent : FileRef) (name : List ℕ) (stamp : ℕ) (result : Result Record E) → HasFields lsn file parent name stamp → IfOk result (λ r. r ≡ new_record lsn file parent name stamp) → IfOk result (λ r. written_bytes r ≤ 1024)
record_short reads lsn file parent name stamp (Ok r) has is =
    let spelled = (reads lsn file parent name stamp has).spelled in
    let same : written_bytes (new_record lsn file parent name stamp) ≡ used_of (new_record lsn file parent name stamp).attrs = ap (λ (x : Record). used_of x.attrs) spelled.written in
    subst (λ (x : Record). written_bytes x ≤ 1024) (sym is) (subst (λ (x : ℕ). x ≤ 1024) (sym same) spelled.fits.used)
record_short reads lsn file parent name stamp (Err e) has is = tt

-- ---- the nodes

long : (kind : BlockKind) → 4096 ≤ 512 * sectors kind → 512 * sectors kind ≡ 4096
long Plain le = absurd (omega (arith, le))
long FileRec le = absurd (omega (arith, le))
long Index le = refl

all_whole : (p : Place) (writes : List Write) (changes : List Change) → PutNodes p writes changes → AreWhole changes
all_whole p [] [] puts = All-nil IsWhole
all_whole p [] (x ∷ changes) puts = absurd puts
all_whole p (w ∷ writes) [] puts = absurd puts
all_whole p (w ∷ writes) (x ∷ changes) puts = All-cons IsWhole x changes (ap length puts.0.new ∙ length-node_spelling (new_node w.vcn w.entries) puts.0.fits ∙ sym (long x.block.kind puts.0.inside)) (all_whole p writes changes puts.1)

pub laid_whole : {E : Type 0} (p : Place) (clusters : ℕ) (n : NodesPlan) (result : Result DirPlan E) → IfOk result (LaysOut p clusters n) → IfOk result (λ plan. AreWhole plan.changes.items)
laid_whole p clusters n (Ok plan) laid = all_whole p n.writes.items plan.changes.items laid.puts
laid_whole p clusters n (Err e) laid = tt
