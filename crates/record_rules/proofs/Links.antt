-- The names of each file, by its number.
use Rattle.std.proofs.Common.{◌≡◌, ℕ, ◌+◌, ◌<◌, ◌≤◌, List, [], ◌∷◌, ◌++◌, Option, None, length, map, get_or, ◌∙◌, ap, sym, inl, inr, arith}
use Rattle.std.specs.List.{range_with_len}
use Rattle.std.proofs.lemmas.Bool.{cases_lt}
use Rattle.std.proofs.lemmas.List.{get_or_past}
use Rattle.std.proofs.lemmas.List.FromFn.{map-range_with_len_more, get_or-map-range_with_len, length-map-range_with_len}
use Rattle.state_model.specs.file_tree.declared.link.Link.{Link}
use Rattle.state_model.specs.record_model.Records.{Record}
use Rattle.state_model.specs.Files.{Table, only_base, file_at, file_links, links_at}
use Rattle.state_model.specs.Loads.{table_in}
use Rattle.record_rules.specs.Links.{links_in}

pub links_more : (p : Table) (n : ℕ) → map (links_at p) (range_with_len 0 (n + 1)) ≡ map (links_at p) (range_with_len 0 n) ++ links_at p n ∷ []
links_more p n = map-range_with_len_more (links_at p) 0 n n (omega arith)

past_table : (records : List (Option Record)) (n : ℕ) → length records ≤ n → links_at (table_in records) n ≡ []
unfolding links_at file_at
past_table records n past = let e : get_or records n None ≡ None = get_or_past records n None past in ap (λ (o : Option Record). file_links n (only_base o)) e

pub links_found : (records : List (Option Record)) (n : ℕ) → get_or (links_in records) n [] ≡ links_at (table_in records) n
unfolding links_in
links_found records n =
    elim (cases_lt n (length records)) [
      | inl inside ↦ get_or-map-range_with_len (links_at (table_in records)) 0 (length records) n n [] inside (omega arith)
      | inr past ↦ get_or_past (map (links_at (table_in records)) (range_with_len 0 (length records))) n [] (rw (length-map-range_with_len (links_at (table_in records)) 0 (length records)) past) ∙ sym (past_table records n past)
    ]

pub length_links : (records : List (Option Record)) → length (links_in records) ≡ length records
unfolding links_in
length_links records = length-map-range_with_len (links_at (table_in records)) 0 (length records)

pub links_within : (records : List (Option Record)) (n : ℕ) (d : List Link) → n < length records → get_or (links_in records) n d ≡ links_at (table_in records) n
unfolding links_in
links_within records n d lt = get_or-map-range_with_len (links_at (table_in records)) 0 (length records) n n d lt (omega arith)
