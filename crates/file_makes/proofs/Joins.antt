-- What is put one behind the other, where the content is known.
use Rattle.std.proofs.Common.{◌≡◌, ℕ, ◌+◌, ◌^◌, ◌<◌, ◌≤◌, Bool, false, List, ◌∷◌, length, get_or, drop, Option, Some, None, Ok, refl, sym, ap, ◌∙◌, subst}
use Rattle.std.specs.Prelude.{IfSome}
use Rattle.std.proofs.lemmas.Bool.{le-leb}
use Rattle.std.proofs.lemmas.List.{drop_more, drop_all}
use Rattle.host_base.specs.Answers.{needs}
use Rattle.disk_model.specs.declared.block.Change.{Change}
use Rattle.disk_model.specs.Content.{Content}
use Rattle.record_model.specs.Records.{Record, record_spelling}
use Rattle.file_puts.specs.record_writer.NormalLaws.{FitsByRoom}
use Rattle.state_model.specs.declared.stream.Extents.{Extents}
use Rattle.plan_draft.specs.declared.touched.Touched.{Touched}
use Rattle.plan_draft.specs.Touching.{touch}
use Rattle.plan_draft.specs.Drafts.{drafted}
use Rattle.draft_numbers.specs.Numbers.{number_bytes}
use Rattle.file_puts.specs.draft_records.Records.{written_record, written_bytes, fits_room, touch_record}
use Rattle.index_model.specs.Indexes.{Place}
use Rattle.file_puts.specs.index_change.declared.nodes_plan.NodesPlan.{NodesPlan}
use Rattle.file_puts.specs.index_change.declared.plan.DirPlan.{DirPlan}
use Rattle.file_puts.specs.index_change.NodePlans.{LaysOut}
use Rattle.file_puts.specs.index_change.Plans.{clusters_of}
use Rattle.new_files.specs.NewFiles.{new_record}
use Rattle.file_puts.specs.declared.streams.VolumeStreams.{VolumeStreams}
use Rattle.file_puts.specs.Puts.{PutsFileRecord}
use Rattle.file_makes.specs.declared.newfile.NewFile.{NewFile}
use Rattle.file_makes.specs.Making.{kept_lsn, made_lsn, made_record, rooted_record, touch_nodes, PutsBehind, PutsMade}

-- ---- one record

pub in_room : (p : Record) → written_bytes p ≤ 1024 → fits_room p ≡ Ok tt
in_room p room = ap (λ (b : Bool). needs b (written_bytes p)) (le-leb (written_bytes p) 1024 room)

pub record_put : (content : Option Content) (per : ℕ) (s : VolumeStreams) (n : ℕ) (p : Record) (old new : List Touched) → per ≡ 8 → FitsByRoom p → written_bytes p ≤ 1024
    → IfSome content (λ c. new ≡ touch_record c per s.table s.mirror n (record_spelling (written_record p)) old) → IfSome content (λ c. PutsFileRecord c s n p old new)
record_put None per s n p old new eight fits room put = tt
record_put (Some c) per s n p old new eight fits room put = record {
  fits = fits;
  room = in_room p room;
  put = subst (λ (k : ℕ). new ≡ touch_record c k s.table s.mirror n (record_spelling (written_record p)) old) eight put;
}

-- ---- nodes

-- the changes that are left lead from what is put now to what all of them put
abbrev pub LeadsTo : Content → List Change → List Change → List Touched → List Touched → Type 0
LeadsTo c changes left old now = touch_nodes c left now ≡ touch_nodes c changes old

pub nodes_begin : (content : Option Content) (changes : List Change) (old : List Touched) → IfSome content (λ c. LeadsTo c changes changes old old)
nodes_begin None changes old = tt
nodes_begin (Some c) changes old = refl

pub nodes_step : (content : Option Content) (changes : List Change) (i : ℕ) (x : Change) (old mid new : List Touched) → i < length changes → x ≡ get_or changes i x → IfSome content (λ c. LeadsTo c changes (drop i changes) old mid)
    → IfSome content (λ c. new ≡ touch x.block false x.new (c x.block) mid) → IfSome content (λ c. LeadsTo c changes (drop (i + 1) changes) old new)
nodes_step None changes i x old mid new lt same leads put = tt
nodes_step (Some c) changes i x old mid new lt same leads put =
    let is : drop i changes ≡ x ∷ drop (i + 1) changes = drop_more changes i x lt ∙ ap (λ (y : Change). y ∷ drop (i + 1) changes) (sym same) in
    ap (touch_nodes c (drop (i + 1) changes)) put ∙ sym (ap (λ (l : List Change). touch_nodes c l mid) is) ∙ leads

pub nodes_end : (content : Option Content) (changes : List Change) (i : ℕ) (old new : List Touched) → length changes ≤ i → IfSome content (λ c. LeadsTo c changes (drop i changes) old new) → IfSome content (λ c. new ≡ touch_nodes c changes old)
nodes_end None changes i old new past leads = tt
nodes_end (Some c) changes i old new past leads = sym (ap (λ (l : List Change). touch_nodes c l new) (drop_all i changes past)) ∙ leads

-- ---- all of it

at_known : (P : Content → Type 0) (content other : Option Content) → other ≡ content → IfSome other P → IfSome content P
at_known P content other same put = subst (λ (o : Option Content). IfSome o P) same put

pub made_put : (content behind last : Option Content) (per : ℕ) (s : VolumeStreams) (numbers : Extents) (m : NewFile) (r : Record) (p : Place) (value : List ℕ) (nodes : NodesPlan) (plan : DirPlan) (lsn : ℕ) (f : Record) (changes : List Change) (root : List ℕ) (old before rooted new : List Touched)
    → per ≡ 8 → lsn < 2 ^ 64 → LaysOut p (clusters_of value) nodes plan → root ≡ plan.root → changes ≡ plan.changes.items → behind ≡ content → last ≡ content → before ≡ old → IfSome content (λ c. lsn ≡ kept_lsn (number_bytes (drafted old c) per s.table m.file.number))
    → f ≡ new_record lsn m.file m.parent m.name m.stamp → IfSome behind (λ c. PutsFileRecord c s m.parent.number (rooted_record root r) before rooted) → IfSome last (λ c. PutsBehind c s numbers m.file.number f changes rooted new)
    → IfSome content (λ c. PutsMade c s numbers m r p value nodes old new)
made_put content behind last per s numbers m r p value nodes plan lsn f changes root old before rooted new eight small laid root_is changes_are same_behind same_last same_old lsn_is f_is first second =
    all content lsn_is
    (at_known (λ c. PutsFileRecord c s m.parent.number (rooted_record root r) before rooted) content behind same_behind first)
    (at_known (λ c. PutsBehind c s numbers m.file.number f changes rooted new) content last same_last second)
  where
    all : (o : Option Content) → IfSome o (λ c. lsn ≡ kept_lsn (number_bytes (drafted old c) per s.table m.file.number)) → IfSome o (λ c. PutsFileRecord c s m.parent.number (rooted_record root r) before rooted)
        → IfSome o (λ c. PutsBehind c s numbers m.file.number f changes rooted new) → IfSome o (λ c. PutsMade c s numbers m r p value nodes old new)
    all None is put rest = tt
    all (Some c) is put rest =
        let same : lsn ≡ made_lsn (drafted old c) s.table m = is ∙ ap (λ (k : ℕ). kept_lsn (number_bytes (drafted old c) k s.table m.file.number)) eight in
        let own : f ≡ made_record (drafted old c) s.table m = f_is ∙ ap (λ (k : ℕ). new_record k m.file m.parent m.name m.stamp) same in
        record {
          plan = plan;
          laid = laid;
          lsn = subst (λ (k : ℕ). k < 2 ^ 64) same small;
          rooted = rooted;
          root = subst (λ (l : List ℕ). PutsFileRecord c s m.parent.number (rooted_record l r) old rooted) root_is (subst (λ (l : List Touched). PutsFileRecord c s m.parent.number (rooted_record root r) l rooted) same_old put);
          behind = subst (λ (l : List Change). PutsBehind c s numbers m.file.number (made_record (drafted old c) s.table m) l rooted new) changes_are (subst (λ (x : Record). PutsBehind c s numbers m.file.number x changes rooted new) own rest);
        }
