-- A level more of an index, as it is written and counted, over a content that may be known.
use Rattle.std.proofs.Common.{◌≡◌, ℕ, ◌+◌, ◌<◌, ◌≤◌, ◌^◌, false, List, [], ◌∷◌, Option, Some, None, Ok, length, sym, ap, ◌∙◌, subst, arith}
use Rattle.std.specs.Prelude.{IfSome}
use Rattle.std.specs.List.{range_with_len}
use Rattle.disk_model.specs.Content.{Content}
use Rattle.record_model.specs.declared.entry.Entry.{Entry as Raw}
use Rattle.record_model.specs.Nodes.{last_entry, node_spelling, root_at}
use Rattle.record_model.specs.Records.{Record}
use Rattle.index_model.specs.Indexes.{Place, node_of_block, node_of_body}
use Rattle.index_model.specs.Trees.{levels, raws_of}
use Rattle.index_node.specs.Roots.{root_spelling, new_node, HaveSpelling}
use Rattle.index_change.specs.Heights.{height_of}
use Rattle.index_change.specs.Plans.{clusters_of}
use Rattle.index_change.proofs.Tall.{root_raws, index_height}
use Rattle.volume_model.specs.Indexes.{index_place, root_value}
use Rattle.plan_draft.specs.declared.touched.Touched.{Touched}
use Rattle.plan_draft.specs.Drafts.{drafted}
use Rattle.place_makes.specs.found_places.Places.{LieBehind}
use Rattle.index_edits.specs.Levels.{LevelsAreRead}
use Rattle.place_makes.proofs.Ranges.{lie}
use Rattle.place_raises.specs.Raising.{IsLevel, IsDeep, LieBehindLevel, level_vcn}

-- the node is read at the VCN of the level
node_there : (reads : LevelsAreRead) (f v : ℕ) (entries raws : List Raw) (node : List ℕ) → f < 2 ^ 64 → HaveSpelling entries → node ≡ node_spelling (new_node f entries) → f ≡ v → entries ≡ raws → node_of_body v (record { bytes = node; torn = false }) ≡ Ok raws
node_there reads f v entries raws node small spelled is at same =
    subst (λ (w : ℕ). node_of_body w (record { bytes = node; torn = false }) ≡ Ok raws) at
    (ap (λ (bs : List ℕ). node_of_body f (record { bytes = bs; torn = false })) is ∙ reads.node f entries small spelled ∙ ap (λ (es : List Raw). Ok es) same)

pub level_known : (reads : LevelsAreRead) (o : Option Content) (old : List Touched) (r : Record) (p : Place) (value : List ℕ) (entries raws : List Raw) (height f : ℕ) (root node : List ℕ) → f < 2 ^ 64 → raws ≡ entries → p ≡ index_place 8 r → root_value r ≡ Some value → f ≡ level_vcn r → root_at value ≡ Ok entries → height < 16
    → HaveSpelling entries → root ≡ root_spelling (clusters_of value) (last_entry (Some f) ∷ []) → node ≡ node_spelling (new_node f entries) → length node ≡ 4096 → IfSome o (λ c. height ≡ height_of (node_of_block (drafted old c) p) raws) → IfSome o (λ c. IsLevel (drafted old c) r value root node)
level_known reads None old r p value entries raws height f root node small same place root_is first read low spelled new_root is long tall = tt
level_known reads (Some c) old r p value entries raws height f root node small same place root_is first read low spelled new_root is long tall =
    let there : height ≡ height_of (node_of_block (drafted old c) (index_place 8 r)) entries = subst (λ (q : Place). height ≡ height_of (node_of_block (drafted old c) q) entries) place (subst (λ (l : List Raw). height ≡ height_of (node_of_block (drafted old c) p) l) same tall) in
    record {
      old_root = root_is;
      low = λ upper t holds. (let is_tall : height_of (node_of_block (drafted old c) (index_place 8 r)) entries ≡ levels t = index_height (drafted old c) (index_place 8 r) upper value entries t read holds in omega (arith, there, is_tall, low));
      new_root = new_root ∙ ap (λ (v : ℕ). root_spelling (clusters_of value) (last_entry (Some v) ∷ [])) first;
      long = long;
      entries = λ upper t holds. node_there reads f (level_vcn r) entries (raws_of t) node small spelled is first (root_raws (drafted old c) (index_place 8 r) upper value entries t read holds);
    }

pub deep_known : (o : Option Content) (old : List Touched) (r : Record) (p : Place) (value : List ℕ) (entries raws : List Raw) (height : ℕ) → raws ≡ entries → p ≡ index_place 8 r → root_value r ≡ Some value → root_at value ≡ Ok entries → 16 ≤ height
    → IfSome o (λ c. height ≡ height_of (node_of_block (drafted old c) p) raws) → IfSome o (λ c. IsDeep c r old height)
deep_known None old r p value entries raws height same place root_is read high tall = tt
deep_known (Some c) old r p value entries raws height same place root_is read high tall =
    let there : height ≡ height_of (node_of_block (drafted old c) (index_place 8 r)) entries = subst (λ (q : Place). height ≡ height_of (node_of_block (drafted old c) q) entries) place (subst (λ (l : List Raw). height ≡ height_of (node_of_block (drafted old c) p) l) same tall) in
    record {
      value = value;
      root = root_is;
      deep = λ upper t holds. sym (index_height (drafted old c) (index_place 8 r) upper value entries t read holds) ∙ sym there;
      sixteen = high;
    }

-- seventeen VCNs behind that of the level
pub behind_level : (r : Record) (first : ℕ) (fresh : List ℕ) → first ≡ level_vcn r → fresh ≡ range_with_len (first + 1) 17 → LieBehindLevel r fresh
behind_level r first fresh at is =
    let are : fresh ≡ range_with_len (level_vcn r + 1) 17 = is ∙ ap (λ (v : ℕ). range_with_len (v + 1) 17) at in
    record { are = are; lie = subst (LieBehind 8 r) (sym are) (lie r (level_vcn r + 1) (omega arith)) }
