-- An edit that may be of $MFT itself, and in which the file table may grow, leads from a state to a state.
use Rattle.std.proofs.Common.{ℕ, Bool, List, refl}
use Rattle.plan_bodies.specs.disk_model.Content.{Content}
use Rattle.plan_bodies.specs.disk_model.Writes.{Write, overlay}
use Rattle.index_change.specs.state_model.declared.geometry.Geometry.{Geometry}
use Rattle.index_change.specs.state_model.declared.stream.Extents.{Extents}
use Rattle.index_change.specs.state_model.Loads.{table_slot}
use Rattle.index_change.specs.volume_model.Volumes.{Volume, count_of}
use Rattle.plan_owners.specs.volume_state.Trees.{Holds, tree_of}
use Rattle.plan_owners.specs.stream_laws.Replacing.{FileEdit, with_edits}
use Rattle.plan_owners.specs.stream_laws.Rewrites.{StandsAlone, is_edited}
use Rattle.plan_owners.specs.stream_laws.Sharing.{StreamKey}
use Rattle.plan_owners.specs.tree_laws.Changed.{TouchesFiles, KeepsTouched}
use Rattle.plan_owners.specs.tree_laws.Growth.{GrowsTable}
use Rattle.plan_owners.specs.tree_laws.LookUps.{links_lost, links_gained, TreeLedTo, touched_or_new}
use Rattle.plan_owners.specs.tree_laws.Planned.{WritesWithin}
use Rattle.plan_owners.specs.tree_laws.Steps.{stepped, ReplacesFiles}
use Rattle.plan_owners.proofs.tree_laws.Planning.{planned_agrees, planned_shown}
use Rattle.plan_owners.proofs.tree_laws.Sparing.{planned_rewrites}
use Rattle.plan_owners.proofs.tree_laws.Stepping.{step_loaded, step_holds, step_tree}
use Rattle.plan_owners.specs.States.{Stands, IsOwnRecord}
use Rattle.plan_owners.proofs.Outside.{once}
use Rattle.plan_owners.proofs.Standing.{begins}
use Rattle.plan_owners.proofs.Unnamed.{unnamed}
use Rattle.plan_model.specs.Edits.{edited, KeepsBits}
use Rattle.plan_model.specs.Tables.{WritesTable}
use Rattle.plan_model.proofs.Stepping.{by_edit}

module _ (streams : StreamKey → Bool) (inside : ℕ → Bool) (c : Content) (g : Geometry) (clusters : ℕ) (v : Volume) (f : Extents) (writes : List Write) (edits : List FileEdit) (s : Stands c g clusters v) (k : WritesTable streams c g v f writes edits) (bits : KeepsBits (is_edited edits) c (overlay c writes) v (edited v edits)) (places : TouchesFiles (is_edited edits) inside v.files (with_edits edits v.files)) (keeps : KeepsTouched (is_edited edits) inside c (overlay c writes) v (edited v edits)) (grows : GrowsTable (overlay c writes) (edited v edits) f) where
  within : WritesWithin streams (is_edited edits) c g clusters v writes
  within = record { begins = begins c g clusters v s; some = s.some; once = once c g clusters v s; no_table = k.table; each = k.each }

  replaces : ReplacesFiles inside c g v f writes edits
  replaces = record {
    sized = k.spares.sized;
    extents = k.extents;
    records =
        planned_rewrites streams (is_edited edits) c g clusters v f writes within k.lists k.goes_on
        (λ m r other is. unnamed c g clusters v (is_edited edits) m r s (λ n touches. by_edit (IsOwnRecord c v) edits n k.own touches) other is)
        (λ m below touches. by_edit (λ n. StandsAlone v.per (table_slot (overlay c writes) v.per f n)) edits m k.alone touches)
        k.fresh;
    distinct = k.distinct;
    files = k.files;
    touches = places;
    agrees = planned_agrees (is_edited edits) streams (is_edited edits) c g clusters v (edited v edits) writes within k.spares bits;
    shown = λ m other. planned_shown (is_edited edits) streams (is_edited edits) c g clusters v writes m within k.spares other;
    keeps = keeps;
    grows = grows;
  }

  before : Holds c v (tree_of c v)
  before = record { kept = s.kept; tree = refl }

  stands_again : Stands (overlay c writes) g clusters (stepped v f edits)
  stands_again = record {
    loaded = step_loaded inside c g clusters v f writes edits s.loaded replaces;
    kept = (step_holds inside c g v f writes edits (tree_of c v) before replaces).kept;
    some = s.some;
    room = s.room;
  }

  tree_again : TreeLedTo (touched_or_new (is_edited edits) (count_of v)) c (overlay c writes) v (stepped v f edits) (links_lost v.files edits) (links_gained edits) (tree_of c v) (tree_of (overlay c writes) (stepped v f edits))
  tree_again = step_tree inside c g v f writes edits (tree_of c v) before replaces

pub table_stands : (streams : StreamKey → Bool) (inside : ℕ → Bool) (c : Content) (g : Geometry) (clusters : ℕ) (v : Volume) (f : Extents) (writes : List Write) (edits : List FileEdit) → Stands c g clusters v → WritesTable streams c g v f writes edits
    → KeepsBits (is_edited edits) c (overlay c writes) v (edited v edits) → TouchesFiles (is_edited edits) inside v.files (with_edits edits v.files) → KeepsTouched (is_edited edits) inside c (overlay c writes) v (edited v edits) → GrowsTable (overlay c writes) (edited v edits) f
    → Stands (overlay c writes) g clusters (stepped v f edits)
table_stands streams inside c g clusters v f writes edits s k bits places keeps grows = stands_again streams inside c g clusters v f writes edits s k bits places keeps grows

pub table_tree : (streams : StreamKey → Bool) (inside : ℕ → Bool) (c : Content) (g : Geometry) (clusters : ℕ) (v : Volume) (f : Extents) (writes : List Write) (edits : List FileEdit) → Stands c g clusters v → WritesTable streams c g v f writes edits
    → KeepsBits (is_edited edits) c (overlay c writes) v (edited v edits) → TouchesFiles (is_edited edits) inside v.files (with_edits edits v.files) → KeepsTouched (is_edited edits) inside c (overlay c writes) v (edited v edits) → GrowsTable (overlay c writes) (edited v edits) f
    → TreeLedTo (touched_or_new (is_edited edits) (count_of v)) c (overlay c writes) v (stepped v f edits) (links_lost v.files edits) (links_gained edits) (tree_of c v) (tree_of (overlay c writes) (stepped v f edits))
table_tree streams inside c g clusters v f writes edits s k bits places keeps grows = tree_again streams inside c g clusters v f writes edits s k bits places keeps grows
