-- All names of a new volume, and that it has no journal.
use Rattle.std.proofs.Common.{◌≡◌, ℕ, zero, suc, ◌+◌, ◌^◌, ◌<◌, ◌≤◌, List, [], ◌∷◌, ◌++◌, map, None, Ok, refl, ap, ◌∙◌, arith}
use Rattle.std.specs.List.{flat_map, range_with_len}
use Rattle.disk_model.specs.Content.{Content}
use Rattle.file_tree.specs.declared.link.Link.{Link}
use Rattle.file_tree.specs.Trees.{same_links, look_up}
use Rattle.file_tree.specs.Walks.{child_in}
use Rattle.state_model.specs.Files.{links_at}
use Rattle.state_model.specs.Trees.{all_links}
use Rattle.volume_model.specs.Volumes.{count_of}
use Rattle.volume_state.specs.Journals.{extend_file, journal_name, file_or_none, journal_file, journal_of_file, journal_of}
use Rattle.format_files.specs.volume_format.declared.layout.Layout.{Layout}
use Rattle.format_files.specs.volume_format.Layouts.{IsLayout}
use Rattle.format_files.specs.Volumes.{new_link}
use Rattle.format_files.proofs.Linking.{vol, files, count_is, links_here, links_reserved}

-- the names of the system files
abbrev pub new_links : List Link
new_links = map new_link (range_with_len 0 12)

module _ (v : Layout) (layout : IsLayout v) (time : ℕ) (small : time < 2 ^ 64) where
  low_links : (a n : ℕ) → a + n ≤ 12 → flat_map (links_at (files v time)) (range_with_len a n) ≡ map new_link (range_with_len a n)
  low_links a zero le = refl
  low_links a (suc n) le =
      ap (λ (l : List Link). l ++ flat_map (links_at (files v time)) (range_with_len (a + 1) n)) (links_here v layout time small a (omega arith))
      ∙ ap (λ (l : List Link). new_link a ∷ l) (low_links (a + 1) n (omega arith))

  high_links : (a n : ℕ) → 12 ≤ a → flat_map (links_at (files v time)) (range_with_len a n) ≡ []
  high_links a zero le = refl
  high_links a (suc n) le =
      ap (λ (l : List Link). l ++ flat_map (links_at (files v time)) (range_with_len (a + 1) n)) (links_reserved v layout time small a le)
      ∙ high_links (a + 1) n (omega arith)

  both_parts : (a m n : ℕ) → a + m ≡ 12 → flat_map (links_at (files v time)) (range_with_len a (m + n)) ≡ map new_link (range_with_len a m)
  both_parts a zero n e = let same : zero + n ≡ n = omega arith in ap (λ (k : ℕ). flat_map (links_at (files v time)) (range_with_len a k)) same ∙ high_links a n (omega arith)
  both_parts a (suc m) n e =
      let more : suc m + n ≡ suc (m + n) = omega arith in
      ap (λ (k : ℕ). flat_map (links_at (files v time)) (range_with_len a k)) more
      ∙ ap (λ (l : List Link). l ++ flat_map (links_at (files v time)) (range_with_len (a + 1) (m + n))) (links_here v layout time small a (omega arith))
      ∙ ap (λ (l : List Link). new_link a ∷ l) (both_parts (a + 1) m n (omega arith))

  pub all_links_are : all_links (files v time) (count_of (vol v time)) ≡ new_links
  unfolding all_links
  all_links_are = ap (λ (count : ℕ). flat_map (links_at (files v time)) (range_with_len 0 count)) (count_is v time) ∙ both_parts 0 12 52 refl

  -- no name stands in `$Extend`
  no_child : (upper : List ℕ) → child_in upper new_links extend_file journal_name ≡ None
  unfolding child_in look_up same_links
  no_child upper = refl

  no_journal_file : (upper : List ℕ) → journal_file upper (vol v time) ≡ None
  unfolding journal_file
  no_journal_file upper = ap (λ (links : List Link). file_or_none (vol v time) (child_in upper links extend_file journal_name)) all_links_are ∙ ap (file_or_none (vol v time)) (no_child upper)

  pub no_journal : (c : Content) (upper : List ℕ) → journal_of c upper (vol v time) ≡ Ok None
  unfolding journal_of
  no_journal c upper = ap (journal_of_file c 8) (no_journal_file upper)
