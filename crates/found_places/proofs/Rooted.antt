-- The root of a directory's index as it counts in the directory's record.
use Rattle.std.proofs.Common.{◌≡◌, ℕ, ◌+◌, ◌≤◌, List, [], ◌∷◌, length, sym, ap, ◌∙◌, arith}
use Rattle.std.specs.List.{flat_map}
use Rattle.disk_model.specs.Bytes.{zeros}
use Rattle.disk_model.specs.Numbers.{spell}
use Rattle.record_model.specs.declared.attribute.Attr.{Attr}
use Rattle.record_model.specs.declared.entry.Entry.{Entry as Raw}
use Rattle.record_model.specs.Attributes.{spelling}
use Rattle.record_model.specs.Constants.{index_root, names_index}
use Rattle.record_model.specs.Nodes.{entries_length, entry_spelling}
use Rattle.record_model.specs.Records.{Record, used_of}
use Rattle.record_model.proofs.NodeSpelling.{length-entry_spellings}
use Rattle.record_model.proofs.UnitBytes.{length-zeros}
use Rattle.record_writer.specs.Edits.{whole_length}
use Rattle.record_writer.proofs.Measures.{length-spelling}
use Rattle.record_streams.proofs.Streams.{attribute_kind, first_passes}
use Rattle.record_values.specs.Values.{valued_record}
use Rattle.index_node.specs.Roots.{root_head, root_spelling}
use Rattle.index_model.specs.Trees.{Tree, raws_of}
use Rattle.draft_records.specs.Records.{written_bytes}
use Rattle.step_model.specs.Used.{most_used, used_after, new_attr, first_or, own_attr, value_attr}
use Rattle.step_model.specs.Streams.{root_comes}
use Rattle.used_laws.proofs.Beside.{one_more, together, used}
use Rattle.used_laws.proofs.Lengths.{written_used}
use Rattle.found_places.proofs.Steady.{IsOneValue, as_before}

-- the bytes of a root's value
head_length : (clusters : ℕ) (entries : List Raw) → length (root_spelling clusters entries) ≡ 0x20 + length (flat_map entry_spelling entries)
unfolding root_spelling root_head spell zeros
head_length clusters entries = omega arith

pub root_length : (clusters : ℕ) (entries : List Raw) → length (root_spelling clusters entries) ≡ 0x20 + entries_length entries
root_length clusters entries = omega (arith, head_length clusters entries, length-entry_spellings entries)

-- ---- a value of another length

-- the bytes of an attribute with a value of so many bytes
abbrev pub attr_bytes : List ℕ → ℕ → ℕ
attr_bytes name size = whole_length 0x18 (length name) size

module _ (kind : ℕ) (name : List ℕ) (r : Record) (value : List ℕ) (k : IsOneValue kind name r value) where
  abbrev own : ℕ → Attr
  own size = value_attr size (own_attr kind name r)

  own_name : (own_attr kind name r).name ≡ name
  unfolding own_attr
  own_name = ap (λ (l : List Attr). (first_or (new_attr kind name) l).name) k.listed ∙ (attribute_kind kind name k.attr (first_passes kind name r.attrs k.attr [] k.listed)).1

  pub own_type : (own_attr kind name r).head.kind ≡ kind
  unfolding own_attr
  own_type = ap (λ (l : List Attr). (first_or (new_attr kind name) l).head.kind) k.listed ∙ (attribute_kind kind name k.attr (first_passes kind name r.attrs k.attr [] k.listed)).0

  own_bytes : (size : ℕ) → length (spelling (own size)) ≡ attr_bytes name size
  own_bytes size = length-spelling (own size) ∙ ap (whole_length 0x18 (length (own_attr kind name r).name)) (length-zeros size) ∙ ap (λ (l : List ℕ). whole_length 0x18 (length l) size) own_name

  -- the record with it uses as many bytes more as it is longer
  pub exchanged : (size : ℕ) → used_after (own size ∷ []) r + attr_bytes name (length value) ≡ used_of r.attrs + attr_bytes name size
  exchanged size =
      let one = one_more [] (own size) r in
      let two = one_more [] (own (length value)) r in
      let stays : used_after (own (length value) ∷ []) r ≡ used_of r.attrs = as_before kind name r value [] k tt ∙ together.none r ∙ written_used r in
      let first = own_bytes size in
      let second = own_bytes (length value) in
      omega (arith, one, two, stays, first, second)

-- ---- the root

module _ (r q : Record) (value : List ℕ) (one_r : IsOneValue index_root names_index r value) (one_q : IsOneValue index_root names_index q value) (same : written_bytes q ≡ written_bytes r) (clusters : ℕ) (entries : List Raw) (fits : written_bytes (valued_record index_root names_index (root_spelling clusters entries) q) ≤ 1024) where
  same_used : used_of q.attrs ≡ used_of r.attrs
  same_used = sym (written_used q) ∙ same ∙ written_used r

  -- so the record has room with the root of a tree that is spelled so
  pub root_counted : (t : Tree) → root_spelling clusters (raws_of t) ≡ root_spelling clusters entries → used_after (root_comes r t ∷ []) r ≤ most_used
  root_counted t is =
      let put = used.valued index_root names_index (root_spelling clusters entries) q one_q.attr [] one_q.listed in
      let in_q = exchanged index_root names_index q value one_q (length (root_spelling clusters entries)) in
      let in_r = exchanged index_root names_index r value one_r (0x20 + entries_length (raws_of t)) in
      let long : length (root_spelling clusters entries) ≡ 0x20 + entries_length (raws_of t) = sym (ap length is) ∙ root_length clusters (raws_of t) in
      let at : attr_bytes names_index (length (root_spelling clusters entries)) ≡ attr_bytes names_index (0x20 + entries_length (raws_of t)) = ap (attr_bytes names_index) long in
      omega (arith, put, in_q, in_r, at, fits, same_used)

-- roots that are spelled alike count alike
pub same_root : (r : Record) (clusters : ℕ) (t u : Tree) → root_spelling clusters (raws_of t) ≡ root_spelling clusters (raws_of u) → root_comes r t ≡ root_comes r u
same_root r clusters t u is =
    let long : entries_length (raws_of t) ≡ entries_length (raws_of u) = (let a = root_length clusters (raws_of t) in let b = root_length clusters (raws_of u) in let c = ap length is in omega (arith, a, b, c)) in
    ap (λ (i : ℕ). value_attr (0x20 + i) (own_attr index_root names_index r)) long
