-- Plain records: base records with no attribute list and no index in clusters, that break none of the rules 1 to 8.
use Rattle.std.specs.Prelude.{◌≡◌, ℕ, ◌==◌, ◌&&◌, Bool, true, false, not, nat_le, if◌then◌else◌, List, [], ◌∷◌, ◌++◌, map, Option, None, Result, Ok, Err}
use Rattle.std.specs.List.{list_all, list_any, filter, filter_map, cons_option}
use Rattle.host_base.specs.declared.file_ref.FileRef.{FileRef}
use Rattle.disk_model.specs.Numbers.{field}
use Rattle.record_model.specs.declared.attribute.Attr.{Attr}
use Rattle.record_model.specs.Values.{is_standard_information, is_file_name, has_lawful_value}
use Rattle.record_model.specs.StdValues.{file_name_of}
use Rattle.record_model.specs.Attributes.{is_inside, attr_of}
use Rattle.record_model.specs.Records.{Record, cut, most_attributes, types_rise, Pieces}
use Rattle.record_model.specs.Constants.{standard_information, attribute_list, file_name, index_allocation}
use Rattle.file_record.specs.attr_codec.Reading.{attr_at}
use Rattle.file_tree.specs.declared.link.Link.{Link}
use Rattle.file_tree.specs.Trees.{is_long}
use Rattle.state_model.specs.Files.{is_base_record, has_type, named, attr_link, record_links}
use Rattle.state_model.specs.Loads.{has_fitting_pairs, whole_record}

-- links with others behind them
pub record Grows (old new : List Link) : Type 0 where
  pub added : List Link
  pub is : new ≡ old ++ added

-- whether a value that stands in the record is lawful
abbrev pub is_lawful : ℕ → List ℕ → Bool
is_lawful kind value = if kind == standard_information then is_standard_information value else if kind == file_name then is_file_name value else true

-- and the link that it is
abbrev pub value_link : FileRef → ℕ → List ℕ → Option Link
value_link child kind value = if kind == file_name then named child (file_name_of value) else None

-- what a plain record asks of an attribute: it is no attribute list and no index in clusters, and keeps the rules 7 and 8
abbrev pub is_plain_attr : Attr → Bool
is_plain_attr a = not (a.head.kind == attribute_list) && not (a.head.kind == index_allocation) && (has_lawful_value a && has_fitting_pairs a)

-- a plain record may have the attribute that was read behind one of this type
abbrev pub may_follow : ℕ → Result Attr ℕ → Bool
may_follow least (Ok a) = nat_le least a.head.kind && is_plain_attr a
may_follow least (Err rule) = false

-- and all attributes with these bytes, one behind the other
abbrev pub may_all_follow : ℕ → List (List ℕ) → Bool
may_all_follow least [] = true
may_all_follow least (p ∷ pieces) = is_inside p && may_follow least (Ok (attr_of p)) && may_all_follow (field 0 4 p) pieces

-- the attributes that were cut are such, up to an end mark
abbrev pub are_plain : ℕ → Result Pieces ℕ → Bool
are_plain least (Ok p) = p.ended && may_all_follow least p.pieces
are_plain least (Err rule) = false

-- the attribute at the front of these bytes has so many of them, and a plain record may have it behind one of this type;
-- its long name was added
pub record TakesPlain (child : FileRef) (bytes : List ℕ) (n least next : ℕ) (old new : List Link) : Type 0 where
  pub attr : Attr
  pub is_read : attr_at bytes ≡ Ok attr
  pub size : n ≡ field 0x04 4 bytes
  pub rises : nat_le least attr.head.kind ≡ true
  pub next_is : next ≡ attr.head.kind
  pub unlisted : (attr.head.kind == attribute_list) ≡ false
  pub unindexed : (attr.head.kind == index_allocation) ≡ false
  pub lawful : has_lawful_value attr ≡ true
  pub fits : has_fitting_pairs attr ≡ true
  pub links : new ≡ old ++ filter is_long (cons_option (attr_link child attr) [])

-- the attributes in these bytes are those of a plain record, whose long names were added
pub record ArePlain (child : FileRef) (bytes : List ℕ) (old new : List Link) : Type 0 where
  pub pieces : List (List ℕ)
  pub is_cut : cut most_attributes bytes ≡ Ok (record { pieces = pieces; ended = true })
  pub rises : types_rise pieces ≡ true
  pub inside : list_all is_inside pieces ≡ true
  pub lawful : list_all has_lawful_value (map attr_of pieces) ≡ true
  pub fits : list_all has_fitting_pairs (map attr_of pieces) ≡ true
  pub unlisted : list_any (λ (a : Attr). a.head.kind == attribute_list) (map attr_of pieces) ≡ false
  pub unindexed : list_any (λ (a : Attr). a.head.kind == index_allocation) (map attr_of pieces) ≡ false
  pub links : new ≡ old ++ filter is_long (filter_map (attr_link child) (map attr_of pieces))

-- what was read is a plain record: it breaks none of the rules 1 to 8, is a base record, and has neither an attribute list nor an index in clusters
abbrev pub is_plain : Result Record ℕ → Bool
is_plain (Ok r) = is_base_record r && not (has_type attribute_list r) && not (has_type index_allocation r)
is_plain (Err rule) = false

-- the body is that of a plain record with this number, whose long names were added
pub record IsPlain (number : ℕ) (body : List ℕ) (old new : List Link) : Type 0 where
  pub file : Record
  pub is_read : whole_record body ≡ Ok file
  pub base : is_base_record file ≡ true
  pub unlisted : has_type attribute_list file ≡ false
  pub unindexed : has_type index_allocation file ≡ false
  pub links : new ≡ old ++ filter is_long (record_links number file)
