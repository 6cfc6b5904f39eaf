-- What a walk and a search come to, over a content that may be known.
use Rattle.std.proofs.Common.{◌≡◌, ℕ, List, Option, Result, Ok, Err, sym, ◌∙◌}
use Rattle.std.specs.Prelude.{IfSome}
use Rattle.std.specs.List.{filter}
use Rattle.volume_model.specs.host_base.Answers.{GivesOrFails}
use Rattle.volume_model.proofs.host_base.Known.{one}
use Rattle.stream_map.specs.disk_model.Content.{Content}
use Rattle.volume_model.specs.file_tree.declared.link.Link.{Link}
use Rattle.index_model.specs.Trees.{walk}
use Rattle.index_model.specs.Indexes.{Place, links_of}
use Rattle.index_model.specs.Walks.{Broken, walk_of, find_of}
use Rattle.index_model.proofs.WalkLaw.{passed_walk, walk_passes}
use Rattle.index_model.proofs.Faults.{walk_breaks, find_breaks}
use Rattle.index_tree.specs.declared.fault.TreeFault.{TreeFault}
use Rattle.index_tree.specs.declared.fault.TreeFault.TheVariants.{Node, Present, Absent, Deep, View}
use Rattle.index_tree.specs.Faults.{tree_cause, FailsByView}
use Rattle.index_tree.specs.Calls.{WalkGives, FindGives, is_sought}
use Rattle.index_tree.proofs.FindLaw.{find_passes}

refused_none : (meant : Result (List Link) Broken) (b : Broken) (links : List Link) → meant ≡ Err b → meant ≡ Ok links → ⊥
refused_none meant b links e f = let g : ◌≡◌ {A = Result (List Link) Broken} (Err b) (Ok links) = sym e ∙ f in cc

walk_gives_at : (c : Content) (p : Place) (upper value : List ℕ) (before now : ℕ) (result : Result (List Link) TreeFault) → FailsByView before now result → GivesOrFails (λ links. links) tree_cause result (walk_of c p upper value) → WalkGives c p upper value result
walk_gives_at c p upper value before now (Ok links) f h = passed_walk c p upper value links h
walk_gives_at c p upper value before now (Err (Node vcn rule)) f h = (walk_breaks c p upper value (record { vcn = vcn; rule = rule }) h, λ t held. refused_none (walk_of c p upper value) (record { vcn = vcn; rule = rule }) (links_of (walk t)) h (walk_passes c p upper value t held))
walk_gives_at c p upper value before now (Err Present) f h = f.counted
walk_gives_at c p upper value before now (Err Absent) f h = f.counted
walk_gives_at c p upper value before now (Err (Deep height)) f h = f.counted
walk_gives_at c p upper value before now (Err (View cause)) f h = tt

pub walk_gives : (known : Option Content) (p : Place) (upper value : List ℕ) (before now : ℕ) (result : Result (List Link) TreeFault) → FailsByView before now result → IfSome known (λ c. GivesOrFails (λ links. links) tree_cause result (walk_of c p upper value)) → IfSome known (λ c. WalkGives c p upper value result)
walk_gives known p upper value before now result f h = one known _ _ (λ c g. walk_gives_at c p upper value before now result f g) h

found_links : (links others : List Link) (meant : Result (List Link) Broken) → meant ≡ Ok links → meant ≡ Ok others → links ≡ others
found_links links others meant e f = let g : ◌≡◌ {A = Result (List Link) Broken} (Ok links) (Ok others) = sym e ∙ f in cc

find_gives_at : (c : Content) (p : Place) (upper name value : List ℕ) (before now : ℕ) (result : Result (List Link) TreeFault) → FailsByView before now result → GivesOrFails (λ links. links) tree_cause result (find_of c p upper name value) → FindGives c p upper name value result
find_gives_at c p upper name value before now (Ok links) f h = λ t held. found_links links (filter (is_sought upper name) (links_of (walk t))) (find_of c p upper name value) h (find_passes c p upper name value t held)
find_gives_at c p upper name value before now (Err (Node vcn rule)) f h = (find_breaks c p upper name value (record { vcn = vcn; rule = rule }) h, λ t held. refused_none (find_of c p upper name value) (record { vcn = vcn; rule = rule }) (filter (is_sought upper name) (links_of (walk t))) h (find_passes c p upper name value t held))
find_gives_at c p upper name value before now (Err Present) f h = f.counted
find_gives_at c p upper name value before now (Err Absent) f h = f.counted
find_gives_at c p upper name value before now (Err (Deep height)) f h = f.counted
find_gives_at c p upper name value before now (Err (View cause)) f h = tt

pub find_gives : (known : Option Content) (p : Place) (upper name value : List ℕ) (before now : ℕ) (result : Result (List Link) TreeFault) → FailsByView before now result → IfSome known (λ c. GivesOrFails (λ links. links) tree_cause result (find_of c p upper name value)) → IfSome known (λ c. FindGives c p upper name value result)
find_gives known p upper name value before now result f h = one known _ _ (λ c g. find_gives_at c p upper name value before now result f g) h
