-- The nodes of a new volume, and its spare numbers.
use Rattle.std.specs.Prelude.{◌==◌}
use Rattle.std.proofs.Common.{◌≡◌, ℕ, zero, suc, ◌+◌, ◌-◌, ◌^◌, ◌<◌, ◌≤◌, Bool, true, false, not, cond, ltb, ◌&&◌, List, [], ◌∷◌, length, map, Option, Some, None, Ok, refl, ap, ◌∙◌, arith}
use Rattle.std.specs.List.{cons_option, filter_map, range_with_len}
use Rattle.std.proofs.lemmas.Bool.{lt-ltb, le-ltb, ne_eqb}
use Rattle.host_base.specs.declared.file_ref.FileRef.{FileRef}
use Rattle.disk_model.specs.Bytes.{zeros}
use Rattle.disk_model.specs.Numbers.{field}
use Rattle.disk_model.specs.Content.{Content}
use Rattle.record_model.specs.declared.record.RecHead.{RecHead}
use Rattle.record_model.specs.declared.values.StdInfo.{StdInfo}
use Rattle.record_model.specs.Records.{Record, rec_head_of, record_spelling}
use Rattle.record_model.specs.StdValues.{std_info_of}
use Rattle.record_model.proofs.FixedValues.{std_info_read, std_info_spelled}
use Rattle.record_model.proofs.RecordSpelling.{spelling_signed, record_spells}
use Rattle.record_model.proofs.UnitBytes.{length-zeros}
use Rattle.file_tree.specs.declared.link.Link.{Link}
use Rattle.file_tree.specs.declared.node.Kind.{Kind}
use Rattle.file_tree.specs.declared.node.Why.{Why}
use Rattle.file_tree.specs.declared.node.Node.{Node}
use Rattle.state_model.specs.declared.stream.Stream.{Stream}
use Rattle.state_model.specs.Files.{has_type, info_of, info_or, why_by}
use Rattle.state_model.specs.Trees.{is_system, is_nameless}
use Rattle.state_model.specs.Streams.{is_attribute_of, attributes_of}
use Rattle.state_model.specs.Loads.{data_stream}
use Rattle.volume_model.specs.Sizes.{has_hole}
use Rattle.volume_model.specs.Volumes.{record_bytes}
use Rattle.volume_model.specs.Nodes.{data_flags, sparse_if, why_not, kind_in, node_with, node_by, some_node, node_at, nodes_by, spare_sequence, spare_at, spare_numbers}
use Rattle.format_files.specs.volume_format.declared.layout.Layout.{Layout}
use Rattle.format_files.specs.volume_format.Layouts.{IsLayout}
use Rattle.format_files.specs.volume_format.Files.{sequence, is_directory, standard_value, standard, name_attribute, system_attrs, system_data, other_streams, volume_streams, root_streams, extend_streams, system_record, reserved_record, record_of}
use Rattle.format_files.specs.format_blocks.Blocks.{HasBlocks}
use Rattle.format_rules.specs.Trees.{new_node, new_spare}
use Rattle.format_files.proofs.format_blocks.Naming.{of_twelve}
use Rattle.format_files.proofs.format_blocks.Recording.{record_fits}
use Rattle.format_files.proofs.Streams.{stream_of_data, data_is}
use Rattle.format_files.proofs.Loading.{record_spare}
use Rattle.format_files.proofs.Linking.{vol, count_is, system_here, of_each, links_are, no_links}
use Rattle.format_files.proofs.Bits.{record_bit_is}
use Rattle.format_files.proofs.Owning.{bytes_of_record}

-- ---- lists of what there is

all_there : {A : Type 0} (h : ℕ → Option A) (f : ℕ → A) (a n : ℕ) → ((k : ℕ) → a ≤ k → k < a + n → h k ≡ Some (f k)) → filter_map h (range_with_len a n) ≡ map f (range_with_len a n)
all_there h f a zero each = refl
all_there {A} h f a (suc n) each =
    ap (λ (o : Option A). cons_option o (filter_map h (range_with_len (a + 1) n))) (each a (omega arith) (omega arith))
    ∙ ap (λ (l : List A). f a ∷ l) (all_there h f (a + 1) n (λ k low high. each k (omega arith) (omega arith)))

none_there : {A : Type 0} (h : ℕ → Option A) (a n : ℕ) → ((k : ℕ) → a ≤ k → h k ≡ None) → filter_map h (range_with_len a n) ≡ []
none_there h a zero none = refl
none_there {A} h a (suc n) none =
    ap (λ (o : Option A). cons_option o (filter_map h (range_with_len (a + 1) n))) (none a (omega arith))
    ∙ none_there h (a + 1) n (λ k low. none k (omega arith))

some_there : {A : Type 0} (h : ℕ → Option A) (f : ℕ → A) (end a m n : ℕ) → a + m ≡ end → ((k : ℕ) → k < end → h k ≡ Some (f k)) → ((k : ℕ) → end ≤ k → h k ≡ None) → filter_map h (range_with_len a (m + n)) ≡ map f (range_with_len a m)
some_there h f end a zero n e some none =
    let same : zero + n ≡ n = omega arith in
    ap (λ (k : ℕ). filter_map h (range_with_len a k)) same ∙ none_there h a n (λ k low. none k (omega arith))
some_there {A} h f end a (suc m) n e some none =
    let more : suc m + n ≡ suc (m + n) = omega arith in
    ap (λ (k : ℕ). filter_map h (range_with_len a k)) more
    ∙ ap (λ (o : Option A). cons_option o (filter_map h (range_with_len (a + 1) (m + n)))) (some a (omega arith))
    ∙ ap (λ (l : List A). f a ∷ l) (some_there h f end (a + 1) m n (omega arith) some none)

-- ---- nodes

module _ (v : Layout) (layout : IsLayout v) (time : ℕ) (small : time < 2 ^ 64) where
  abbrev info : StdInfo
  info = record { created = time; modified = time; changed = time; read_at = time; flags = 6 }

  standard_read : std_info_of (standard_value time) ≡ Ok info
  standard_read = std_info_read (standard_value time) info (std_info_spelled info (zeros 0x48) (record { created = small; modified = small; changed = small; read_at = small; flags = omega arith }) (omega (arith, length-zeros 0x48)))

  info_is : (n : ℕ) → info_of (system_record v time n) ≡ info
  unfolding info_of system_record system_attrs standard
  info_is n = ap info_or standard_read

  why_is : (n : ℕ) → n < 12 → why_not (system_record v time n) ≡ None
  unfolding why_not has_type data_flags attributes_of is_attribute_of why_by system_record system_attrs system_data other_streams standard name_attribute volume_streams root_streams extend_streams
  why_is n lt = of_twelve (λ k. why_not (system_record v time k) ≡ None)
      (hole 0 (omega arith)) (hole 1 (omega arith)) (hole 2 (omega arith)) (hole 3 (omega arith)) (hole 4 (omega arith)) (hole 5 (omega arith))
      (hole 6 (omega arith)) (hole 7 (omega arith)) (hole 8 (omega arith)) (hole 9 (omega arith)) (hole 10 (omega arith)) (hole 11 (omega arith)) n lt
    where
      hole : (k : ℕ) (lt : k < 12) → sparse_if (has_hole (data_stream (system_record v time k))) ≡ sparse_if (has_hole (stream_of_data (system_data v k)))
      hole k lt = ap (λ (s : Option Stream). sparse_if (has_hole s)) (data_is v layout time k lt)

  made : ℕ → ℕ → Kind → List ℕ → Option Why → StdInfo → Node
  made n seq kind bytes why info = record {
    number = n;
    seq = seq;
    kind = kind;
    why = why;
    held = false;
    size = 0;
    valid = 0;
    clusters = 0;
    bytes = bytes;
    flags = info.flags;
    created = info.created;
    modified = info.modified;
    changed = info.changed;
    read_at = info.read_at;
  }

  abbrev r : ℕ → Record
  r n = system_record v time n

  named_node : (n : ℕ) → n < 12 → is_nameless n (r n) ≡ false
  named_node n lt = ap (λ (links : List Link). ltb n 24 && (length links == 0)) (links_are v layout time small n lt) ∙ and_nothing (ltb n 24)
    where
      and_nothing : (b : Bool) → (b && false) ≡ false
      and_nothing true = refl
      and_nothing false = refl

  nameless : (n : ℕ) → n < 16 → is_nameless n (reserved_record time n) ≡ true
  nameless n lt = ap (λ (links : List Link). ltb n 24 && (length links == 0)) (no_links v layout time small n) ∙ ap (λ (b : Bool). b && true) (lt-ltb n 24 (omega arith))

  -- with what gives the bytes of data, where no data give none
  module _ (bytes : Option Stream → List ℕ) (empty : bytes None ≡ []) where
    plain_node : (n : ℕ) → n < 12 → node_by bytes (vol v time) n (r n) ≡ made n (sequence n) (new_node time n).kind (bytes None) (why_not (r n)) (info_of (r n))
    unfolding made node_by node_with kind_in is_system has_type is_directory system_record system_attrs system_data other_streams standard name_attribute volume_streams root_streams extend_streams
    plain_node n lt = of_twelve (λ k. node_by bytes (vol v time) k (r k) ≡ made k (sequence k) (new_node time k).kind (bytes None) (why_not (r k)) (info_of (r k))) refl refl refl refl refl refl refl refl refl refl refl refl n lt

    node_is : (n : ℕ) → n < 12 → node_by bytes (vol v time) n (r n) ≡ new_node time n
    unfolding made
    node_is n lt =
        plain_node n lt
        ∙ ap (λ (bytes : List ℕ). made n (sequence n) (new_node time n).kind bytes (why_not (r n)) (info_of (r n))) empty
        ∙ ap (λ (why : Option Why). made n (sequence n) (new_node time n).kind [] why (info_of (r n))) (why_is n lt)
        ∙ ap (made n (sequence n) (new_node time n).kind [] None) (info_is n)

    abbrev at : ℕ → Option Node
    at n = node_at bytes (vol v time) n

    some_here : (n : ℕ) → n < 12 → some_node bytes (vol v time) n (Some (r n)) ≡ Some (new_node time n)
    some_here n lt =
        ap (λ (b : Bool). cond b None (Some (node_by bytes (vol v time) n (r n)))) (named_node n lt) ∙ ap (λ (x : Node). Some x) (node_is n lt)

    node_here : (n : ℕ) → n < 12 → at n ≡ Some (new_node time n)
    unfolding node_at
    node_here n lt = ap (some_node bytes (vol v time) n) (system_here v time n lt) ∙ some_here n lt

    no_node : (n : ℕ) → 12 ≤ n → at n ≡ None
    unfolding node_at
    no_node n le = of_each v time (λ k o. 12 ≤ k → some_node bytes (vol v time) k o ≡ None) (λ k lt low. absurd (omega arith))
        (λ k low lt high. ap (λ (b : Bool). cond b None (Some (node_by bytes (vol v time) k (reserved_record time k)))) (nameless k lt)) (λ k low high. refl) n le

    pub nodes_are : nodes_by bytes (vol v time) ≡ map (new_node time) (range_with_len 0 12)
    unfolding nodes_by
    nodes_are = ap (λ (count : ℕ). filter_map at (range_with_len 0 count)) (count_is v time) ∙ some_there at (new_node time) 12 0 12 52 refl node_here no_node

  -- ---- spare numbers

  module _ (seed : ℕ) (c : Content) (has : HasBlocks v seed time c) where
    abbrev body : ℕ → List ℕ
    body n = record_spelling (record_of v time n)

    sequence_one : (n : ℕ) → 24 ≤ n → (record_of v time n).head.seq ≡ 1
    unfolding sequence
    sequence_one n le =
        ap (λ (r : Record). r.head.seq) (record_spare v time n (omega arith))
        ∙ ap (λ (b : Bool). cond b 1 (cond (ltb n 24) n 1)) (ne_eqb n 0 (λ e. absurd (omega arith)))
        ∙ ap (λ (b : Bool). cond b n 1) (le-ltb n 24 le)

    spare_one : (n : ℕ) → 24 ≤ n → n < 64 → spare_sequence (body n) ≡ 1
    unfolding spare_sequence rec_head_of
    spare_one n le lt =
        let head = (record_spells (record_of v time n) (record_fits v layout time small n lt)).head in
        let seq : field 0x10 2 (body n) ≡ 1 = ap (λ (h : RecHead). h.seq) head ∙ sequence_one n le in
        ap (λ (signed : Bool). cond (signed && not (field 0x10 2 (body n) == 0)) (field 0x10 2 (body n)) 1) (spelling_signed (record_of v time n))
        ∙ ap (λ (seq : ℕ). cond (not (seq == 0)) seq 1) seq

    spare_here : (n : ℕ) → 24 ≤ n → n < 64 → spare_at c (vol v time) n ≡ Some (new_spare n)
    unfolding spare_at
    spare_here n le lt =
        ap (λ (b : Bool). cond b None (Some (record { number = n; seq = spare_sequence (record_bytes c (vol v time) n) }))) (record_bit_is v layout seed time c has n lt ∙ le-ltb n 24 le)
        ∙ ap (λ (bytes : List ℕ). Some (spare_of n (spare_sequence bytes))) (bytes_of_record v layout time small seed c has n lt)
        ∙ ap (λ (seq : ℕ). Some (spare_of n seq)) (spare_one n le lt)
      where
        spare_of : ℕ → ℕ → FileRef
        spare_of n seq = record { number = n; seq = seq }

    pub spares_are : spare_numbers c (vol v time) ≡ map new_spare (range_with_len 24 40)
    unfolding spare_numbers
    spares_are = ap (λ (count : ℕ). filter_map (spare_at c (vol v time)) (range_with_len 24 (count - 24))) (count_is v time) ∙ all_there (spare_at c (vol v time)) new_spare 24 40 (λ k low high. spare_here k low (omega arith))
