-- A file table that has grown first, wherever the bitmap of its numbers stands.
use Rattle.std.proofs.Common.{◌≡◌, ℕ, ◌≤◌, Bool, cond, None, refl, sym, ap, subst}
use Rattle.std.specs.List.{AllByRecursion}
use Rattle.state_model.specs.declared.stream.Stream.{Stream}
use Rattle.state_model.specs.declared.stream.Stream.TheVariants.{Held, Placed}
use Rattle.volume_model.specs.Volumes.{cluster_bits}
use Rattle.plan_draft.specs.Drafts.{drafted}
use Rattle.table_edits.specs.draft_growth.Growing.{with_records}
use Rattle.table_edits.specs.plan_edits.draft_records.Records.{fits_room}
use Rattle.table_edits.specs.Grown.{table_runs, numbers_runs}
use Rattle.made_trees.specs.step_model.Plans.{full_row, grows_table, table_change}
use Rattle.made_trees.specs.step_model.Placing.{wanted_by}
use Rattle.made_steps.specs.Behind.{table_used}
use Rattle.made_trees.specs.Grown.{IsOfTable, KeepsIndex, HasGrownBefore}
use Rattle.grown_tables.specs.First.{table_volume, MayBePut, TableGrowsFirst}
use Rattle.grown_tables.specs.Full.{MayBeCounted, TableIsNotFull}
use Rattle.grown_tables.specs.Ready.{TableTakesLittle}
use Rattle.grown_tables.proofs.Counted.{numbers_by}
use Rattle.grown_tables.proofs.First.{all_grown, counts_placed, little}
use Rattle.grown_tables.proofs.Full.{room_left}
use Rattle.grown_tables.proofs.Held.{counts_held, held_little, held_room}

pub grows_first : TableGrowsFirst
grows_first c g clusters v n r bitmap mirror t b new after marked eight state none k may own directory = by t.bitmap.stream refl may
  where
    by : (x : Stream) → t.bitmap.stream ≡ x → MayBePut (numbers_runs v.per (cluster_bits c v) t) x
        → HasGrownBefore c g clusters v n r (table_change c v).growths (table_volume c v t after) r new × KeepsIndex c v r (drafted new c) (table_volume c v t after) r × AllByRecursion IsOfTable (table_change c v).growths
    by (Held value) at short =
        let held = counts_held c g clusters v bitmap mirror t b new after marked eight state none k value at short in
        all_grown c g clusters v bitmap mirror t b new after marked eight state none k n r own directory held.0 held.1
    by (Placed e) at joined = all_grown c g clusters v bitmap mirror t b new after marked eight state none k n r own directory (numbers_by (cluster_bits c v) v v.table e) (counts_placed c g clusters v bitmap mirror t b new after marked eight state none k e at joined)

pub not_full_then : TableIsNotFull
not_full_then c g clusters v bitmap mirror t b new after marked eight state none k may = by t.bitmap.stream refl may
  where
    by : (x : Stream) → t.bitmap.stream ≡ x → MayBeCounted (fits_room (with_records v.per (table_runs (cluster_bits c v) t) t)) (numbers_runs v.per (cluster_bits c v) t) x → full_row (table_used c v) ≡ None
    by (Held value) at short = held_room c g clusters v bitmap mirror t b new after marked eight state none k value at short
    by (Placed e) at fits = room_left c g clusters v bitmap mirror t b new after marked eight state none k e at fits

pub takes_little : TableTakesLittle
unfolding grows_table
takes_little c g clusters v bitmap mirror t b new after marked eight state none k may =
    subst (λ (n : ℕ). wanted_by (table_change c v).growths ≤ n) (sym (ap (λ (x : Bool). cond {A = ℕ} x 65 0) none)) (by t.bitmap.stream refl may)
  where
    by : (x : Stream) → t.bitmap.stream ≡ x → MayBePut (numbers_runs v.per (cluster_bits c v) t) x → wanted_by (table_change c v).growths ≤ 65
    by (Held value) at short = held_little c g clusters v bitmap mirror t b new after marked eight state none k value at short
    by (Placed e) at joined = little c g clusters v bitmap mirror t b new after marked eight state none k e at
