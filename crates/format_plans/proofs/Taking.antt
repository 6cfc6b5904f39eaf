-- The file is made in a new volume.
use Rattle.std.specs.Prelude.{◌==◌, ◌||◌}
use Rattle.std.proofs.Common.{◌≡◌, ◌≢◌, ◌⊎◌, ℕ, ◌+◌, ◌*◌, ◌^◌, ◌<◌, ◌≤◌, inl, inr, Bool, true, false, cond, eqb, ◌&&◌, List, [], ◌∷◌, ◌++◌, length, map, Option, Some, None, refl, sym, ap, ◌∙◌, subst, arith}
use Rattle.std.specs.List.{AllByRecursion, list_all}
use Rattle.std.proofs.lemmas.Bool.{eq-eqb, ne_eqb}
use Rattle.disk_model.specs.declared.block.Block.{Block}
use Rattle.disk_model.specs.declared.block.Body.{Body}
use Rattle.disk_model.specs.declared.block.BlockKind.TheVariants.{Plain, FileRec, Index}
use Rattle.disk_model.specs.Content.{Content, HasSizes, content_of}
use Rattle.disk_model.specs.Sectors.{sectors, sector_of, raw_from, IsDisk}
use Rattle.disk_model.proofs.Sectors.{length-raw_from, length-body_of}
use Rattle.record_model.specs.Constants.{attribute_list, index_allocation, bitmap_type, names_index, file_name}
use Rattle.record_model.specs.Nodes.{node_spelling}
use Rattle.record_model.specs.Records.{Record, record_spelling}
use Rattle.record_model.proofs.RecordSpelling.{length-record_spelling}
use Rattle.record_model.proofs.NodeSpelling.{length-node_spelling}
use Rattle.record_model.proofs.UnitBytes.{length-zeros}
use Rattle.file_tree.specs.declared.link.Link.{Link}
use Rattle.bit_set.specs.Bits.{bit}
use Rattle.state_model.specs.declared.stream.Stream.{Stream}
use Rattle.state_model.specs.Files.{reference, is_base_record, is_directory_record, has_type}
use Rattle.state_model.specs.Rules.{keeps_names, is_rising, has_partner, is_only_short}
use Rattle.state_model.specs.Streams.{block_at, attribute_runs, is_attribute_of, attributes_of, stream_of}
use Rattle.upcase_order.specs.Tables.{standard_table}
use Rattle.volume_model.specs.Volumes.{file_stream, count_of, record_bits, upper_of}
use Rattle.volume_model.specs.Indexes.{void_block, index_links}
use Rattle.volume_model.specs.Owners.{file_runs}
use Rattle.volume_model.specs.Sizes.{keeps_stream}
use Rattle.volume_format.specs.declared.layout.Layout.{Layout}
use Rattle.volume_format.specs.Layouts.{IsLayout, block_first, layout_of}
use Rattle.volume_format.specs.Files.{system_record, system_attrs, system_data, other_streams, root_streams, standard, name_attribute, is_directory, sequence}
use Rattle.volume_format.specs.Indexes.{in_order}
use Rattle.volume_format.specs.Images.{formatted}
use Rattle.format_rules.specs.format_blocks.Blocks.{block, whole, HasBlocks}
use Rattle.format_rules.specs.format_blocks.Regions.{CanFormat}
use Rattle.format_rules.proofs.format_blocks.Bodies.{blocks_read}
use Rattle.format_rules.proofs.format_blocks.Standing.{layout_fits, regions_stand}
use Rattle.format_rules.specs.format_files.Volumes.{new_geometry, new_volume, new_link}
use Rattle.format_rules.proofs.format_files.Streams.{block_in_run, root_blocks_are}
use Rattle.format_rules.proofs.format_files.Linking.{vol, count_is, system_here}
use Rattle.format_rules.proofs.format_files.Bits.{record_bitmap_here, record_bit_is}
use Rattle.format_rules.proofs.format_files.Tabling.{volume_loaded}
use Rattle.format_rules.proofs.Ordering.{upper_is}
use Rattle.format_rules.proofs.Indexing.{root_links}
use Rattle.format_rules.proofs.Checking.{holds_here}
use Rattle.stream_laws.specs.Owners.{stream_kind}
use Rattle.stream_laws.specs.Sharing.{StreamKey, stream_at, runs_in}
use Rattle.stream_laws.specs.Replacing.{FileEdit}
use Rattle.stream_laws.specs.Rewrites.{is_edited}
use Rattle.tree_laws.specs.Keeping.{PartReplaced}
use Rattle.tree_laws.specs.Planned.{IsInRecord}
use Rattle.plan_owners.specs.States.{Stands}
use Rattle.plan_model.specs.Attributes.{RewritesValues}
use Rattle.plan_bodies.specs.Bodies.{NewBody, AreBodies, AreWhole, AreOfOwnBlocks, body_in, body_or, content_with, whole_write}
use Rattle.plan_model.specs.Edits.{IsOwnedIn, edited}
use Rattle.plan_model.specs.Made.{MakesFile, HasMade, ReadsAs, made_streams, made_edits, is_info_or_root}
use Rattle.plan_bodies.proofs.Putting.{body_put}
use Rattle.plan_model.proofs.Making.{leads_to_made, has_made}
use Rattle.format_plans.specs.Files.{title, title_link, titled, information, first_record, changed_root, node_with, bits_with, first_bodies}
use Rattle.format_plans.specs.Laws.{TakesFirstFile, NewVolumeTakesFile, NewImageTakesFile}
use Rattle.format_plans.proofs.Spelling.{first_fits, first_slot, root_record_fits, root_slot, node_fits}
use Rattle.format_plans.proofs.Listing.{links_are, links_with, names_rise, root_lists}
use Rattle.format_plans.proofs.Marking.{marked}

and_none : (b : Bool) → (b && false) ≡ false
and_none true = refl
and_none false = refl

-- ---- the record of the file, by itself

module _ (stamp : ℕ) where
  no_list : has_type attribute_list (first_record stamp) ≡ false
  unfolding has_type information titled
  no_list = refl

  no_directory : is_directory_record (first_record stamp) ≡ false
  no_directory = refl

  is_base : is_base_record (first_record stamp) ≡ true
  is_base = refl

  names_kept : keeps_names 24 (first_record stamp) (title_link ∷ []) ≡ true
  unfolding keeps_names has_type has_partner is_only_short information titled sequence
  names_kept = refl

  no_clusters : file_runs (Some (first_record stamp)) ≡ []
  unfolding attribute_runs information titled
  no_clusters = refl

  sizes_kept : (clusters : ℕ) → list_all (keeps_stream 8 clusters (first_record stamp).attrs) (first_record stamp).attrs ≡ true
  unfolding keeps_stream attributes_of is_attribute_of stream_of information titled
  sizes_kept clusters = refl

-- ---- the root

module _ (v : Layout) (time stamp : ℕ) where
  root_directory : is_directory_record (system_record v time 5) ≡ true
  unfolding system_record is_directory
  root_directory = refl

  parent_is : title_link.parent ≡ reference 5 (system_record v time 5)
  unfolding system_record sequence
  parent_is = refl

  root_no_list : has_type attribute_list (system_record v time 5) ≡ false
  unfolding has_type system_record system_attrs system_data other_streams root_streams standard name_attribute
  root_no_list = refl

  rewritten : RewritesValues is_info_or_root (system_record v time 5) (changed_root v time stamp)
  unfolding system_record system_attrs system_data other_streams root_streams standard name_attribute information is_directory
  rewritten = record {
    seq = refl;
    flags = refl;
    base = refl;
    attrs = (inr (refl, record { kind = refl; name = refl; old = tt; new = tt }), (inl refl, (inl refl, (inl refl, (inl refl, tt)))));
  }

-- ---- what the bodies put

module _ (v : Layout) (time stamp : ℕ) where
  body_third : body_in (first_bodies v time stamp) (block (8 * block_first v) Index) ≡ Some (node_spelling (node_with v time stamp))
  body_third =
      let first = 8 * block_first v in
      ap (λ (b : Bool). cond b (Some (record_spelling (first_record stamp))) (by_second (eqb first 42 && false) (by_third (eqb first first && true)))) (and_none (eqb first 80))
      ∙ ap (λ (b : Bool). by_second b (by_third (eqb first first && true))) (and_none (eqb first 42))
      ∙ ap (λ (b : Bool). by_third (b && true)) (eq-eqb first first refl)
    where
      by_second : Bool → Option (List ℕ) → Option (List ℕ)
      by_second b rest = cond b (Some (record_spelling (changed_root v time stamp))) rest

      by_third : Bool → Option (List ℕ)
      by_third b = cond b (Some (node_spelling (node_with v time stamp))) (cond (eqb (8 * block_first v) 24 && false) (Some bits_with) None)

  body_void : IsLayout v → body_in (first_bodies v time stamp) void_block ≡ None
  body_void layout =
      let apart : eqb (2 ^ 62) (8 * block_first v) ≡ false = ne_eqb (2 ^ 62) (8 * block_first v) (λ is. omega (arith, is, layout.log_small, layout.bitmap_small)) in
      ap (λ (b : Bool). cond (b && true) (Some (node_spelling (node_with v time stamp))) None) apart

-- ---- over a new volume

module _ (v : Layout) (layout : IsLayout v) (seed time stamp : ℕ) (small : time < 2 ^ 64) (stamp_small : stamp < 2 ^ 64) (c : Content) (has : HasBlocks v seed time c) (sizes : HasSizes c) where
  abbrev bodies : List NewBody
  bodies = first_bodies v time stamp

  abbrev d : Content
  d = content_with c bodies

  stands : Stands c new_geometry v.clusters (vol v time)
  stands = record {
    loaded = volume_loaded v seed time c layout small has;
    kept = (holds_here v layout seed time small c has).kept;
    some = omega arith;
    room = omega (arith, layout.inside);
  }

  -- the bodies are whole, and of blocks of their own
  length-bits : length bits_with ≡ 512
  unfolding bits_with
  length-bits = omega (arith, length-zeros 508)

  are_bodies : AreBodies bodies
  are_bodies = record {
    whole = (
      length-record_spelling (first_record stamp) (first_fits stamp stamp_small),
      (
        length-record_spelling (changed_root v time stamp) (root_record_fits v layout time stamp small),
        (length-node_spelling (node_with v time stamp) (node_fits v layout time stamp small stamp_small), (length-bits, tt)),
      ),
    );
    own = ((refl, (and_none _, (refl, tt))), ((and_none _, (refl, tt)), ((and_none _, tt), (tt, tt))));
  }

  at_record : content_with c bodies (block 24 Plain) ≡ whole bits_with
  at_record = body_put c bodies (block 24 Plain) sizes are_bodies ∙ ap (body_or (c (block 24 Plain))) put
    where
      put : body_in bodies (block 24 Plain) ≡ Some bits_with
      put = ap (λ (b : Bool). cond b (Some (node_spelling (node_with v time stamp))) (Some bits_with)) (and_none (eqb 24 (8 * block_first v)))

  at_block : content_with c bodies (block (8 * block_first v) Index) ≡ whole (node_spelling (node_with v time stamp))
  at_block = body_put c bodies (block (8 * block_first v) Index) sizes are_bodies ∙ ap (body_or (c (block (8 * block_first v) Index))) put
    where
      put : body_in bodies (block (8 * block_first v) Index) ≡ Some (node_spelling (node_with v time stamp))
      put = body_third v time stamp

  void_none : body_in bodies void_block ≡ None
  void_none = body_void v time stamp layout

  count : count_of (vol v time) ≡ 64
  count = count_is v time

  -- where the bodies go
  abbrev bit_key : StreamKey
  bit_key = record { file = 0; kind = bitmap_type; name = [] }

  abbrev block_key : StreamKey
  block_key = record { file = 5; kind = index_allocation; name = names_index }

  abbrev edits : List FileEdit
  edits = made_edits 24 (first_record stamp) 5 (changed_root v time stamp)

  bits_owned : IsOwnedIn (made_streams 5) (vol v time) (block 24 Plain)
  unfolding stream_kind
  bits_owned = record {
    stream = bit_key;
    chosen = refl;
    number = 0;
    lies = ap (λ (s : Option Stream). block_at 8 (runs_in s) Plain 0) (record_bitmap_here v layout seed time c has) ∙ block_in_run 3 1 Plain 0 (omega arith) (omega arith);
  }

  block_owned : IsOwnedIn (made_streams 5) (vol v time) (block (8 * block_first v) Index)
  unfolding stream_kind
  block_owned =
      let at : 8 * block_first v + 8 * 0 ≡ 8 * block_first v = omega arith in
      record {
        stream = block_key;
        chosen = refl;
        number = 0;
        lies = ap (λ (s : Option Stream). block_at 8 (runs_in s) Index 0) (ap (file_stream index_allocation names_index) (system_here v time 5 (omega arith)) ∙ root_blocks_are v layout time)
            ∙ block_in_run (block_first v) 1 Index 0 (omega arith) (omega arith) ∙ ap (λ (s : ℕ). Some (block s Index)) at;
      }

  file_lies : block_at 8 (vol v time).table.runs FileRec 24 ≡ Some (block 80 FileRec)
  file_lies = block_in_run 4 16 FileRec 24 (omega arith) (omega arith)

  root_lies : block_at 8 (vol v time).table.runs FileRec 5 ≡ Some (block 42 FileRec)
  root_lies = block_in_run 4 16 FileRec 5 (omega arith) (omega arith)

  each : AllByRecursion (λ p. IsOwnedIn (made_streams 5) (vol v time) p.block ⊎ IsInRecord (is_edited edits) (vol v time) (whole_write p)) bodies
  each = (inr (record { number = 24; chosen = refl; lies = file_lies }), (inr (record { number = 5; chosen = refl; lies = root_lies }), (inl block_owned, (inl bits_owned, tt))))

  made_reads : ReadsAs (vol v time) bodies 24 (first_record stamp)
  made_reads = record { block = block 80 FileRec; place = file_lies; bytes = record_spelling (first_record stamp); put = refl; reads = first_slot stamp stamp_small }

  root_reads : ReadsAs (vol v time) bodies 5 (changed_root v time stamp)
  root_reads = record { block = block 42 FileRec; place = root_lies; bytes = record_spelling (changed_root v time stamp); put = refl; reads = root_slot v layout time stamp small }

  -- the bits
  others : (m : ℕ) → m < count_of (vol v time) → bit (record_bits d (vol v time)) m ≡ ((m == 24) || bit (record_bits c (vol v time)) m)
  others m lt =
      let low : m < 64 = omega (arith, count) in
      marked d at_record v layout seed time c has m low ∙ ap (λ (b : Bool). (m == 24) || b) (sym (record_bit_is v layout seed time c has m low))

  upper : upper_of c (vol v time) ≡ standard_table
  upper = upper_is v layout seed time c has

  makes : MakesFile c (vol v time) 24 5 (first_record stamp) (system_record v time 5) (changed_root v time stamp) title_link bodies
  makes = record {
    user = omega arith;
    within = omega (arith, count);
    clear = record_bit_is v layout seed time c has 24 (omega arith);
    made = made_reads;
    base = is_base stamp;
    no_list = no_list stamp;
    no_directory = no_directory stamp;
    name = links_are stamp stamp_small;
    parent = parent_is v time stamp;
    names = names_kept stamp;
    no_clusters = no_clusters stamp;
    sizes = sizes_kept stamp v.clusters;
    file = system_here v time 5 (omega arith);
    directory = root_directory v time stamp;
    lists_none = root_no_list v time stamp;
    apart = record { table = omega arith; bitmap = omega arith; upcase = omega arith };
    not_extend = omega arith;
    anew = root_reads;
    values = rewritten v time stamp;
    old = map new_link in_order;
    new = links_with;
    listed = ap (λ (u : List ℕ). index_links c 8 u (system_record v time 5)) upper ∙ root_links v layout time small seed c has;
    lists = ap (λ (u : List ℕ). index_links d 8 u (changed_root v time stamp)) upper ∙ root_lists v layout time stamp small stamp_small d at_block;
    put = record { front = map new_link in_order; behind = []; was = refl; is = refl };
    rises = ap (λ (u : List ℕ). is_rising u links_with) upper ∙ names_rise;
    marked = others;
    whole = are_bodies;
    void = void_none;
    each = each;
  }

  pub takes : TakesFirstFile v time stamp c
  takes = record {
    stands = stands;
    makes = makes;
    leads = (leads_to_made c new_geometry v.clusters (vol v time) 24 5 (first_record stamp) (system_record v time 5) (changed_root v time stamp) title_link bodies sizes stands makes).stands;
    made = has_made c new_geometry v.clusters (vol v time) 24 5 (first_record stamp) (system_record v time 5) (changed_root v time stamp) title_link bodies sizes stands makes;
  }

pub takes_file_law : NewVolumeTakesFile
takes_file_law = λ v seed time stamp c layout small stamp_small has sizes. takes v layout seed time stamp small stamp_small c has sizes

body_sizes : (disk : List (List ℕ)) → IsDisk disk → HasSizes (content_of (sector_of disk))
body_sizes disk whole = λ b. length-body_of b.kind (raw_from (sector_of disk) b.first (sectors b.kind)) ∙ length-raw_from (sector_of disk) b.first (sectors b.kind) whole

pub image_takes_file_law : NewImageTakesFile
image_takes_file_law = λ old seed time stamp can stamp_small.
    let disk = formatted old seed time in
    let stands = regions_stand old seed time can in
    let layout = layout_fits (length old) can.small can.least in
    takes (layout_of (length old)) layout seed time stamp can.time_fits stamp_small (content_of (sector_of disk)) (blocks_read old seed time can) (body_sizes disk stands.whole)
