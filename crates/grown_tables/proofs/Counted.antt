-- The clusters by which a step lets the file table grow, where the bitmap of its numbers stands in clusters.
use Rattle.std.proofs.Common.{◌≡◌, ℕ, suc, ◌-◌, ◌<◌, Bool, false, cond, eqb, ltb, List, [], ◌∷◌, Option, Some, None, refl, ap, ap₂, ◌∙◌, arith}
use Rattle.std.proofs.lemmas.Bool.{ne_eqb, eq-eqb, le-ltb}
use Rattle.std.proofs.lemmas.List.{append-nil}
use Rattle.record_model.specs.declared.attribute.Attr.{Attr}
use Rattle.record_model.specs.declared.runs.Run.{Run}
use Rattle.record_model.specs.Constants.{data_type, bitmap_type}
use Rattle.record_model.specs.Records.{Record}
use Rattle.space_model.specs.Choosing.{chosen, chosen_anywhere, behind, run_at, with_run, with_runs}
use Rattle.space_model.proofs.Lawful.{behind-few}
use Rattle.state_model.specs.declared.stream.Extents.{Extents}
use Rattle.state_model.specs.declared.stream.Stream.{Stream}
use Rattle.state_model.specs.declared.stream.Stream.TheVariants.{Placed}
use Rattle.state_model.specs.Loads.{total_clusters}
use Rattle.state_model.specs.Streams.{stream_of}
use Rattle.volume_model.specs.Volumes.{Volume}
use Rattle.stream_laws.specs.Sharing.{runs_in}
use Rattle.stream_runs.specs.Runs.{front, grown, merged}
use Rattle.made_trees.specs.step_model.Placing.{Growth, runs_after}
use Rattle.made_trees.specs.step_model.Used.{used_after, value_attr, stays_in}
use Rattle.made_trees.specs.step_model.Streams.{Wanted, Comes, stream_in, attr_in, as_value, placed_among, placed_by, in_clusters, comes, wanted_table, wanted_bits, table_comes}

-- ---- streams in clusters

comes_placed : (bits : List Bool) (r : Record) (others : List Attr) (w : Wanted) (e : Extents) → stream_in r w.stream ≡ Some (Placed e) → (comes bits r others w).growth ≡ placed_among bits e.runs w
unfolding comes in_clusters
comes_placed bits r others w e is = ap (λ (o : Option Stream). (cond (stays_in o w.real (used_after (value_attr w.real (attr_in r w.stream) ∷ others) r)) (as_value r w) (placed_by r w (placed_among bits (runs_in o) w))).growth) is

placed_records : (bits : List Bool) (r : Record) (w : Wanted) (e : Extents) → stream_in r w.stream ≡ Some (Placed e) → (in_clusters bits r w).growth ≡ placed_among bits e.runs w
unfolding in_clusters
placed_records bits r w e is = ap (λ (o : Option Stream). placed_among bits (runs_in o) w) is

-- the growth of the records, and that of the bitmap behind it
abbrev pub records_by : List Bool → Volume → Extents → Growth
records_by bits v e = placed_among bits e.runs (wanted_table v)

abbrev pub numbers_by : List Bool → Volume → Extents → Extents → Growth
numbers_by bits v e f = placed_among (with_runs (records_by bits v e).runs bits) f.runs (wanted_bits v)

pub table_growths : (bits : List Bool) (v : Volume) (r : Record) (e f : Extents) → stream_of data_type [] r.attrs ≡ Some (Placed e) → stream_of bitmap_type [] r.attrs ≡ Some (Placed f) → (table_comes bits v r).growths ≡ records_by bits v e ∷ numbers_by bits v e f ∷ []
unfolding table_comes
table_growths bits v r e f records numbers =
    let first : Comes = in_clusters bits r (wanted_table v) in
    let own : first.growth ≡ records_by bits v e = placed_records bits r (wanted_table v) e records in
    ap₂ (λ (g h : Growth). g ∷ h ∷ []) own (comes_placed (with_runs first.growth.runs bits) r first.attrs (wanted_bits v) f numbers ∙ ap (λ (g : Growth). placed_among (with_runs g.runs bits) f.runs (wanted_bits v)) own)

-- ---- runs afterwards

pub runs_more : (h : Growth) → total_clusters h.old < h.clusters → runs_after h ≡ grown h.old h.runs
unfolding runs_after
runs_more h some =
    let up : ltb h.clusters (total_clusters h.old) ≡ false = le-ltb h.clusters (total_clusters h.old) (omega (arith, some)) in
    let apart : eqb h.clusters (total_clusters h.old) ≡ false = ne_eqb h.clusters (total_clusters h.old) (λ same. omega (arith, same, some)) in
    ap (λ (t : Bool). cond t (merged (front h.clusters h.old)) (cond (eqb h.clusters (total_clusters h.old)) h.old (grown h.old h.runs))) up ∙ ap (λ (t : Bool). cond t h.old (grown h.old h.runs)) apart

pub runs_same : (h : Growth) → h.clusters ≡ total_clusters h.old → runs_after h ≡ h.old
unfolding runs_after
runs_same h same =
    let up : ltb h.clusters (total_clusters h.old) ≡ false = le-ltb h.clusters (total_clusters h.old) (omega (arith, same)) in
    ap (λ (t : Bool). cond t (merged (front h.clusters h.old)) (cond (eqb h.clusters (total_clusters h.old)) h.old (grown h.old h.runs))) up ∙ ap (λ (t : Bool). cond t h.old (grown h.old h.runs)) (eq-eqb h.clusters (total_clusters h.old) same)

pub none_grown : (runs : List Run) → grown runs [] ≡ merged runs
unfolding grown
none_grown runs = ap merged (append-nil runs)

pub none_chosen : (bits : List Bool) (o : Option ℕ) → chosen bits o 0 ≡ []
unfolding chosen chosen_anywhere
none_chosen bits None = refl
none_chosen bits (Some last) =
    let few = behind-few last 0 bits in
    ap (λ (t : Bool). cond t [] (run_at 0 (suc last) (behind last 0 bits) ∷ chosen_anywhere 0 (with_run (suc last) (behind last 0 bits) bits) (behind last 0 bits) (0 - behind last 0 bits))) (eq-eqb (behind last 0 bits) 0 (omega (arith, few)))
