-- The volume after changes, by its records and its file table.
use Rattle.std.proofs.Common.{◌≡◌, ℕ, zero, suc, ◌+◌, ◌-◌, ◌*◌, ◌<◌, ◌≤◌, Bool, true, false, cond, eqb, leb, List, length, get_or, map, Option, None, Ok, refl, sym, ap, subst, ◌∙◌, inl, inr, arith}
use Rattle.std.specs.List.{list_any, list_all, range_with_len}
use Rattle.std.proofs.lemmas.Bool.{cases_lt, cases_eq, eq-eqb, or_left, or_right, or_parts, both_ways}
use Rattle.std.proofs.lemmas.List.{ext_get_or}
use Rattle.std.proofs.lemmas.List.Folds.{list_any-append}
use Rattle.std.proofs.lemmas.List.FromFn.{get_or-map-range_with_len, length-map-range_with_len}
use Rattle.disk_model.specs.declared.block.Block.{Block}
use Rattle.disk_model.specs.declared.block.Change.{Change}
use Rattle.disk_model.specs.declared.block.BlockKind.TheVariants.{FileRec}
use Rattle.disk_model.specs.Content.{Content, HasSizes}
use Rattle.volume_map.specs.record_model.Records.{Record}
use Rattle.volume_map.specs.state_model.declared.geometry.Geometry.{Geometry}
use Rattle.volume_map.specs.state_model.declared.stream.Extents.{Extents}
use Rattle.volume_map.specs.state_model.Streams.{block_at, has_cut_block}
use Rattle.volume_map.specs.state_model.Loads.{Free, record_count, slot_at, table_of, table_slot, files_in}
use Rattle.volume_map.specs.volume_model.Volumes.{Volume, volume_of, count_of, block_bytes, record_block, record_bytes}
use Rattle.volume_map.specs.declared.head.Head.{Head}
use Rattle.volume_map.specs.Heads.{head_of, head_at, heads_of, table_head, no_head}
use Rattle.volume_map.specs.block_view.Changes.{writes_of, content_after}
use Rattle.stream_laws.specs.Changes.{LeavesRecord}
use Rattle.stream_laws.specs.Rewrites.{StandsAlone, with_table}
use Rattle.stream_laws.proofs.Changing.{slot_stays, record_bytes_stay}
use Rattle.stream_laws.proofs.Rewriting.{volume_parts, count_is}
use Rattle.map_change.specs.Plain.{is_plain}
use Rattle.map_change.specs.Touching.{is_number, touched_numbers, KeepsPlaces, changed_numbers}
use Rattle.map_change.specs.Applying.{resized}
use Rattle.map_change.proofs.Lists.{put_numbers, length_put, get_put}
use Rattle.map_change.proofs.Resizing.{length_resized, get_resized}
use Rattle.map_change.proofs.Blocks.{leaves_block}
use Rattle.map_change.proofs.Themselves.{own_file, StandsByItself, alone_by_itself, files_themselves, volume_from, file_itself, by_itself}
use Rattle.map_change.proofs.Applied.{file_by}

-- a number of a range
in_range : (m from n : ℕ) → from ≤ m → m < from + n → list_any (is_number m) (range_with_len from n) ≡ true
in_range m from zero low high = absurd (omega (arith, low, high))
in_range m from (suc n) low high = elim (cases_eq from m) [
  | inl same ↦ or_left (eqb from m) (list_any (is_number m) (range_with_len (from + 1) n)) (eq-eqb from m same)
  | inr other ↦ or_right (eqb from m) (list_any (is_number m) (range_with_len (from + 1) n)) (in_range m (from + 1) n (omega (arith, low, other)) (omega (arith, high)))
]

-- a record that isn't read anew is one that keeps its place, and that no change is of
kept_below : (per : ℕ) (e f : Extents) (n m : ℕ) (changes : List Change) → m < record_count f → list_any (is_number m) (changed_numbers per e f n changes) ≡ false → (m < n) × (list_any (is_number m) (touched_numbers FileRec per n e.runs changes) ≡ false)
kept_below per e f n m changes below other =
    let parts = or_parts _ _ (sym (list_any-append (is_number m) (touched_numbers FileRec per n e.runs changes) (range_with_len n (record_count f - n))) ∙ other) in
    elim (cases_lt m n) [
      | inl low ↦ (low, parts.0)
      | inr past ↦ absurd (both_ways _ parts.1 (in_range m n (record_count f - n) past (omega (arith, below, past))))
    ]

module _ (c : Content) (g : Geometry) (clusters : ℕ) (v : Volume) (f : Extents) (n : ℕ) (changes : List Change) (sized : HasSizes c) (loaded : volume_of c g clusters ≡ Ok v) (some : 0 < v.per) (plain : list_all is_plain v.files ≡ true)
    (table : table_of (content_after changes c) g ≡ Ok f) (uncut : has_cut_block v.per FileRec (record_count f) f.runs ≡ false) (keeps : KeepsPlaces v.per v.table f n)
    (alone : (m : ℕ) → list_any (is_number m) (changed_numbers v.per v.table f n changes) ≡ true → StandsAlone v.per (table_slot (content_after changes c) v.per f m)) where
  abbrev pub after : Content
  after = content_after changes c

  abbrev pub numbers : List ℕ
  numbers = changed_numbers v.per v.table f n changes

  abbrev pub touched : ℕ → Bool
  touched m = list_any (is_number m) numbers

  abbrev pub count : ℕ
  count = record_count f

  -- ---- records that aren't read anew

  leaves : (m : ℕ) → m < count → touched m ≡ false → LeavesRecord (writes_of changes) v.per v.table m
  leaves m below other =
      let low = kept_below v.per v.table f n m changes below other in
      λ b is. leaves_block FileRec v.per n v.table.runs m b changes some low.0 is.lies low.1

  low : (m : ℕ) → m < count → touched m ≡ false → m < n
  low m below other = (kept_below v.per v.table f n m changes below other).0

  slot_there : (m : ℕ) → m < count → touched m ≡ false → table_slot after v.per f m ≡ table_slot c v.per v.table m
  unfolding table_slot
  slot_there m below other =
      ap (λ (t : Bool). cond t Free (slot_at after (block_at v.per f.runs FileRec m))) (keeps.begun m (low m below other))
      ∙ ap (λ (o : Option Block). cond (leb v.table.initialised (1024 * m)) Free (slot_at after o)) (keeps.places m (low m below other))
      ∙ slot_stays c (writes_of changes) v.per v.table m sized (leaves m below other)

  head_stays : (m : ℕ) → m < count → touched m ≡ false → table_head after v.per f m ≡ head_at c v m
  unfolding table_head head_at record_bytes record_block
  head_stays m below other =
      ap (λ (t : Bool). head_of (block_bytes after (cond t None (block_at v.per f.runs FileRec m)))) (keeps.begun m (low m below other))
      ∙ ap (λ (o : Option Block). head_of (block_bytes after (cond (leb v.table.initialised (1024 * m)) None o))) (keeps.places m (low m below other))
      ∙ ap head_of (record_bytes_stay c (writes_of changes) v m sized (leaves m below other))

  -- ---- each record

  each_now : (t : Bool) (m : ℕ) → m < count → touched m ≡ t → StandsByItself v.per m (table_slot after v.per f m)
  each_now true m below is = alone_by_itself v.per m (table_slot after v.per f m) (alone m is)
  each_now false m below other = subst (StandsByItself v.per m) (sym (slot_there m below other)) (by_itself c g clusters v loaded plain m (omega (arith, low m below other, keeps.old)))

  file_now : (t : Bool) (m : ℕ) → m < count → touched m ≡ t → cond t (file_by after v.per f m) (get_or v.files m None) ≡ own_file (table_slot after v.per f m)
  file_now true m below is = refl
  file_now false m below other = file_itself c g clusters v loaded plain m (omega (arith, low m below other, keeps.old)) ∙ sym (ap own_file (slot_there m below other))

  -- ---- the volume

  abbrev pub new_files : List (Option Record)
  new_files = put_numbers (file_by after v.per f) numbers (resized count None v.files)

  pub length_files : length new_files ≡ count
  length_files = length_put (file_by after v.per f) numbers (resized count None v.files) ∙ length_resized count None v.files

  files_are : map (λ m. own_file (table_slot after v.per f m)) (range_with_len 0 count) ≡ new_files
  files_are =
      let own : ℕ → Option Record = λ m. own_file (table_slot after v.per f m) in
      let size = length-map-range_with_len own 0 count in
      let long = length_resized count None v.files in
      ext_get_or None (map own (range_with_len 0 count)) new_files (omega (arith, size, length_files)) (λ m inside.
      let below : m < count = omega (arith, inside, size) in
      get_or-map-range_with_len own 0 count m m None below (omega arith)
      ∙ sym (file_now (touched m) m below refl)
      ∙ ap (λ (o : Option Record). cond (touched m) (file_by after v.per f m) o) (sym (get_resized count None v.files m below))
      ∙ sym (get_put (file_by after v.per f) numbers (resized count None v.files) None m (omega (arith, below, long))))

  pub volume_after : volume_of after g clusters ≡ Ok (with_table v f new_files)
  volume_after =
      let parts = volume_parts c g clusters v loaded in
      let files : files_in after v.per f ≡ Ok new_files = files_themselves after v.per f (λ m below. each_now (touched m) m below refl) uncut ∙ ap (λ (l : List (Option Record)). Ok l) files_are in
      volume_from after g clusters f new_files table (ap (λ (per : ℕ). files_in after per f) parts.per ∙ files)
      ∙ ap (λ (per : ℕ). Ok (volume_with per clusters g.mft)) parts.per
      ∙ ap (λ (k : ℕ). Ok (volume_with v.per k g.mft)) parts.count
      ∙ ap (λ (mft : ℕ). Ok (volume_with v.per v.clusters mft)) parts.place
    where
      volume_with : ℕ → ℕ → ℕ → Volume
      volume_with per k mft = record { per = per; clusters = k; mft = mft; table = f; files = new_files }

  -- ---- its heads

  head_there : (t : Bool) (m : ℕ) → m < count → touched m ≡ t → cond t (table_head after v.per f m) (get_or (heads_of c v) m no_head) ≡ head_at after (with_table v f new_files) m
  unfolding heads_of table_head head_at record_bytes record_block
  head_there true m below is = refl
  head_there false m below other =
      get_or-map-range_with_len (head_at c v) 0 (count_of v) m m no_head (omega (arith, low m below other, keeps.old, count_is c g clusters v loaded)) (omega arith)
      ∙ sym (head_stays m below other)

  pub heads_after : put_numbers (table_head after v.per f) numbers (resized count no_head (heads_of c v)) ≡ heads_of after (with_table v f new_files)
  unfolding heads_of
  heads_after =
      let heads = resized count no_head (heads_of c v) in
      let new = head_at after (with_table v f new_files) in
      let size = length_put (table_head after v.per f) numbers heads in
      let long = length_resized count no_head (heads_of c v) in
      let listed = length-map-range_with_len new 0 (length new_files) in
      ext_get_or no_head (put_numbers (table_head after v.per f) numbers heads) (heads_of after (with_table v f new_files)) (omega (arith, size, long, listed, length_files)) (λ m inside.
      let below : m < count = omega (arith, inside, size, long) in
      get_put (table_head after v.per f) numbers heads no_head m (omega (arith, below, long))
      ∙ ap (λ (h : Head). cond (touched m) (table_head after v.per f m) h) (get_resized count no_head (heads_of c v) m below)
      ∙ head_there (touched m) m below refl
      ∙ sym (get_or-map-range_with_len new 0 (length new_files) m m no_head (omega (arith, below, length_files)) (omega arith)))
