-- The index of a directory gets more blocks, and its root stays: the state that it leads to.
use Rattle.std.proofs.Common.{◌≡◌, ℕ, ◌+◌, ◌*◌, ◌/◌, ◌≤◌, true, false, List, [], ◌∷◌, Option, Some, None, refl, ap, ◌∙◌}
use Rattle.disk_model.specs.declared.block.BlockKind.{BlockKind}
use Rattle.disk_model.specs.declared.block.BlockKind.TheVariants.{Index}
use Rattle.disk_model.specs.Content.{Content, HasSizes}
use Rattle.record_model.specs.declared.runs.Run.{Run}
use Rattle.record_model.specs.Records.{Record}
use Rattle.file_tree.specs.declared.link.Link.{Link}
use Rattle.index_model.specs.Indexes.{is_index_body}
use Rattle.state_model.specs.declared.geometry.Geometry.{Geometry}
use Rattle.state_model.specs.Files.{reference}
use Rattle.volume_model.specs.Volumes.{Volume, count_of, files_by_number, upper_of}
use Rattle.volume_model.specs.Indexes.{root_value, index_block, index_place, index_links, links_below, lists_names}
use Rattle.volume_state.specs.Trees.{tree_of}
use Rattle.stream_laws.specs.Rewrites.{is_edited}
use Rattle.plan_bodies.specs.Bodies.{NewBody, content_with}
use Rattle.plan_owners.specs.States.{Stands}
use Rattle.plan_edits.specs.plan_model.Drafts.{GoesOn, gives_runs}
use Rattle.plan_edits.specs.plan_model.Edits.{LeadsTo}
use Rattle.plan_edits.specs.plan_model.Informed.{with_record}
use Rattle.plan_edits.proofs.plan_model.Rewriting.{itself}
use Rattle.plan_edits.specs.plan_growth.Growing.{MayGive}
use Rattle.plan_edits.specs.index_change.NodePlans.{GoesOn as PlaceGoesOn, KeepsNodes}
use Rattle.plan_blocks.specs.Blocks.{blocks_before, blocks_behind, GrowsIndex, RoomDiffers}
use Rattle.plan_blocks.specs.Levels.{is_index_root, PutsRooted}
use Rattle.plan_blocks.proofs.Beside.{same_root}
use Rattle.plan_blocks.proofs.Placing.{links_kept}
use Rattle.plan_blocks.proofs.Raising as raising

module _ (c : Content) (g : Geometry) (clusters : ℕ) (v : Volume) (n : ℕ) (r : Record) (more : List Run) (real initialised : ℕ) (s : Record) (bodies : List NewBody) (sized : HasSizes c) (eight : g.per_cluster ≡ 8) (state : Stands c g clusters v) (k : GrowsIndex c v n r more real initialised s bodies) where
  abbrev d : Content
  d = content_with c bodies

  -- it is an edit by which the root may be written anew, and isn't
  pub puts : PutsRooted c v n r more real initialised s s bodies
  puts = record {
    file = k.file;
    apart = k.apart;
    no_list = k.no_list;
    directory = k.directory;
    spelled = k.spelled;
    taken = k.taken;
    room = k.room;
    sizes = k.sizes;
    begun = k.begun;
    written = k.written;
    values = itself is_index_root s;
    whole = k.whole;
    anew = k.anew;
    each = k.each;
    void = k.void;
    covers = k.covers;
    marked = k.marked;
  }

  pub index_nodes : (count : ℕ → ℕ) → KeepsNodes c (index_place v.per r) d (index_place v.per s) count
  index_nodes = raising.index_nodes c g clusters v n r more real initialised s s bodies sized eight state puts

  pub index_no_more : real ≤ initialised → (blocks_before r).real ≡ 4096 * ((blocks_before r).real / 4096)
      → ((i : ℕ) → (blocks_before r).initialised ≤ 4096 * i → 4096 * (i + 1) ≤ real → is_index_body (d (index_block v.per (blocks_behind v.per r more real initialised) i)) ≡ false) → (count : ℕ → ℕ) → KeepsNodes d (index_place v.per s) c (index_place v.per r) count
  index_no_more = raising.index_no_more c g clusters v n r more real initialised s s bodies sized eight state puts

  pub index_behind : (blocks_before r).real ≤ (blocks_before r).initialised → PlaceGoesOn (index_place v.per r) (index_place v.per s)
  index_behind = raising.index_behind c g clusters v n r more real initialised s s bodies sized eight state puts

  -- what the index listed
  listed : (o : Option (List Link)) → index_links c v.per (upper_of c v) r ≡ o → lists_names (upper_of c v) (files_by_number v) (count_of v) (reference n r) o ≡ true → index_links d v.per (upper_of c v) s ≡ o
  unfolding index_links
  listed None was is = absurd cc
  listed (Some links) was is =
      ap (links_below d (index_place v.per s) (upper_of c v)) (same_root r s (blocks_behind v.per r more real initialised) k.written (raising.reads c g clusters v n r more real initialised s s bodies sized eight state puts))
      ∙ links_kept c d (index_place v.per r) (index_place v.per s) (upper_of c v) (root_value r) links (index_nodes (λ x. 1)) was

  pub index_listed : index_links d v.per (upper_of c v) s ≡ index_links c v.per (upper_of c v) r
  index_listed = listed (index_links c v.per (upper_of c v) r) refl (raising.old_3 c g clusters v n r more real initialised s s bodies sized eight state puts)

  pub index_leads : LeadsTo (is_edited (record { number = n; file = Some s } ∷ [])) c v (content_with c bodies) g clusters (with_record v n s)
  index_leads = raising.index_leads c g clusters v n r more real initialised s s bodies sized eight state puts index_listed

  pub index_goes_on : (first : Content) (start : Volume) (gave : ℕ → Option BlockKind) → MayGive first start Index more gave → GoesOn first start c g clusters v bodies (with_record v n s) gave (gives_runs Index more gave)
  index_goes_on = raising.index_goes_on c g clusters v n r more real initialised s s bodies sized eight state puts index_listed

  pub index_tree : RoomDiffers (tree_of c v) (tree_of (content_with c bodies) (with_record v n s))
  index_tree = raising.index_tree c g clusters v n r more real initialised s s bodies sized eight state puts index_listed
