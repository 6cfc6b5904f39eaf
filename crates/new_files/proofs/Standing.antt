-- What the record of a new file stands for.
use Rattle.std.proofs.Common.{◌≡◌, ℕ, ◌+◌, ◌*◌, Bool, true, false, cond, ◌||◌, ◌&&◌, leb, not, List, [], ◌∷◌, length, Option, Some, None, refl, ap, ◌∙◌, arith}
use Rattle.std.specs.List.{list_all, cons_option}
use Rattle.host_base.specs.declared.file_ref.FileRef.{FileRef}
use Rattle.record_model.specs.Constants.{attribute_list, standard_information, file_name, data_type}
use Rattle.record_model.specs.declared.values.StdInfo.{StdInfo}
use Rattle.record_model.specs.Records.{Record, used_of}
use Rattle.plan_edits.proofs.record_writer.Measures.{length-spelling}
use Rattle.file_tree.specs.declared.link.Link.{Link}
use Rattle.file_tree.specs.declared.node.Kind.{Kind}
use Rattle.file_tree.specs.declared.node.Kind.TheVariants.{File, System}
use Rattle.file_tree.specs.declared.node.Node.{Node}
use Rattle.file_tree.specs.Walks.{first_user_record}
use Rattle.state_model.specs.declared.stream.Stream.{Stream}
use Rattle.state_model.specs.declared.stream.Stream.TheVariants.{Held}
use Rattle.state_model.specs.Files.{record_links, is_base_record, is_directory_record, has_type, attr_link, named, info_of, info_or, why_by}
use Rattle.state_model.specs.Loads.{data_stream}
use Rattle.state_model.specs.Rules.{keeps_names, has_partner, is_only_short}
use Rattle.state_model.specs.Streams.{is_attribute_of, attributes_of, attribute_runs, stream_of}
use Rattle.state_model.specs.Trees.{is_system}
use Rattle.volume_model.specs.Volumes.{Volume, files_by_number, count_of}
use Rattle.volume_model.specs.Nodes.{data_flags, why_not, is_unread, is_unchanged, kind_in, data_shown, node_with, node_by}
use Rattle.volume_model.specs.Owners.{file_runs}
use Rattle.volume_model.specs.Sizes.{keeps_stream}
use Rattle.tree_model.specs.Effects.{new_file}
use Rattle.plan_edits.specs.index_change.Orders.{link_of}
use Rattle.step_model.specs.Spreads.{IsKeyOf}
use Rattle.step_model.specs.Used.{new_attr, value_attr}
use Rattle.step_model.specs.Plans.{new_file_attrs}
use Rattle.record_model.proofs.UnitBytes.{length-zeros}
use Rattle.new_files.specs.NewFiles.{new_info, new_attrs, new_record, new_key, link_in}
use Rattle.new_files.specs.Laws.{HasFields, IsFile, IsNode, ReadsNewFile, NewFileReads}
use Rattle.new_files.proofs.Spelled.{info_read, name_table, name_read, name_lawful, used_is, spelled}

one_link : Option Link → List Link
one_link o = cons_option o []

same3 : {X : Type 0} (f : FileRef → List ℕ → ℕ → X) (a d : FileRef) (b e : List ℕ) (c g : ℕ) → a ≡ d → b ≡ e → c ≡ g → f a b c ≡ f d e g
same3 f a d b e c g p q r = cc

abbrev make_link : FileRef → FileRef → List ℕ → ℕ → Link
make_link child parent name space = record { parent = parent; name = name; space = space; child = child }

-- the rules on names, by whether the file is a user's
kept : (user : Bool) → ((not user || true) && (not false || true) && (not (user && true) || true) && true && true) ≡ true
kept true = refl
kept false = refl

module _ (lsn : ℕ) (file parent : FileRef) (name : List ℕ) (stamp : ℕ) (h : HasFields lsn file parent name stamp) where
  abbrev f : Record
  f = new_record lsn file parent name stamp

  -- ---- the file by itself

  links : record_links file.number f ≡ link_in parent name file ∷ []
  unfolding record_links attr_link new_record new_attrs one_link
  links = ap (λ o. one_link (named file o)) (name_read lsn file parent name stamp h)

  base : is_base_record f ≡ true
  unfolding new_record
  base = refl

  no_list : has_type attribute_list f ≡ false
  unfolding has_type new_record new_attrs
  no_list = refl

  no_directory : is_directory_record f ≡ false
  unfolding new_record
  no_directory = refl

  names : keeps_names file.number f (link_in parent name file ∷ []) ≡ true
  unfolding keeps_names has_type has_partner is_only_short new_record new_attrs
  names = kept (leb first_user_record file.number)

  no_clusters : file_runs (Some f) ≡ []
  unfolding attribute_runs new_record new_attrs
  no_clusters = refl

  sizes : (per clusters : ℕ) → list_all (keeps_stream per clusters f.attrs) f.attrs ≡ true
  unfolding keeps_stream attributes_of is_attribute_of stream_of new_record new_attrs
  sizes per clusters = refl

  pub is_file : IsFile f file parent name
  is_file = record { base = base; no_list = no_list; no_directory = no_directory; links = links; names = names; no_clusters = no_clusters; sizes = sizes }

  -- ---- its node

  info : info_of f ≡ new_info stamp
  unfolding info_of new_record new_attrs
  info = ap info_or (info_read stamp h.stamp_small)

  abbrev kind_by : Bool → Kind
  kind_by system = cond system System File

  kind_is : (v : Volume) → is_system (files_by_number v) (count_of v) file.number (record_links file.number f) ≡ false → kind_in v file.number f ≡ File
  unfolding kind_in is_unread is_unchanged has_type data_flags attributes_of is_attribute_of data_stream stream_of new_record new_attrs
  kind_is v user = ap kind_by user

  abbrev made : StdInfo → List ℕ → Node
  made info bytes = record {
    number = file.number;
    seq = file.seq;
    kind = File;
    why = None;
    held = false;
    size = 0;
    valid = 0;
    clusters = 0;
    bytes = bytes;
    flags = info.flags;
    created = info.created;
    modified = info.modified;
    changed = info.changed;
    read_at = info.read_at;
  }

  shown : (bytes : List ℕ) → node_with file.number f File (Some (Held [])) bytes ≡ made (info_of f) bytes
  unfolding node_with why_not why_by has_type data_flags attributes_of is_attribute_of data_stream stream_of new_record new_attrs
  shown bytes = refl

  data_is : data_shown File f ≡ Some (Held [])
  unfolding data_stream attributes_of is_attribute_of stream_of new_record new_attrs
  data_is = refl

  node : IsNode f file stamp
  unfolding node_by new_file
  node bytes v user none =
      ap (λ (k : Kind). node_with file.number f k (data_shown k f) (bytes (data_shown k f))) (kind_is v user)
      ∙ ap (λ (s : Option Stream). node_with file.number f File s (bytes s)) data_is
      ∙ ap (node_with file.number f File (Some (Held []))) none
      ∙ shown []
      ∙ ap (λ (i : StdInfo). made i []) info

  -- ---- its key and its used bytes

  key : IsKeyOf (link_in parent name file) (new_key file parent name stamp)
  unfolding link_of
  key = record {
    lawful = name_lawful lsn file parent name stamp h;
    stands_for =
        let t = name_table lsn file parent name stamp h in
        same3 (make_link file) _ _ _ _ _ _ t.parent t.name t.space;
  }

  used : used_of f.attrs ≡ used_of (new_file_attrs name)
  used = omega (
    arith,
    used_is lsn file parent name stamp h,
    length-spelling (value_attr 72 (new_attr standard_information [])),
    length-spelling (value_attr (0x42 + 2 * length name) (new_attr file_name [])),
    length-spelling (value_attr 0 (new_attr data_type [])),
    length-zeros 72,
    length-zeros (0x42 + 2 * length name),
    length-zeros 0,
  )

  pub reads : ReadsNewFile lsn file parent name stamp
  reads = record { spelled = spelled lsn file parent name stamp h; is_file = is_file; info = info; node = node; used = used; key = key }

pub new_file_is_read : NewFileReads
new_file_is_read = λ lsn file parent name stamp h. reads lsn file parent name stamp h
