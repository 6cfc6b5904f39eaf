-- The names that a directory's index holds, by where it lies, over a content that may be known.
use Rattle.std.proofs.Common.{◌≡◌, ℕ, List, Option, Some, None, Result, Ok, sym, ap, subst, ◌∙◌}
use Rattle.std.specs.Prelude.{IfSome}
use Rattle.host_base.specs.Answers.{GivesOrFails}
use Rattle.host_base.proofs.Known.{one, always}
use Rattle.index_tree.specs.disk_model.Content.{Content}
use Rattle.state_model.specs.record_model.Records.{Record}
use Rattle.state_model.specs.file_tree.declared.link.Link.{Link}
use Rattle.index_tree.specs.index_model.Walks.{walk_of}
use Rattle.index_tree.specs.declared.place.DirPlace.{DirPlace}
use Rattle.index_tree.specs.Places.{place_of}
use Rattle.volume_model.specs.Indexes.{links_read, links_below, index_place, root_value, index_links}
use Rattle.directory_index.specs.declared.fault.IndexFault.{IndexFault}
use Rattle.directory_index.specs.Errors.{index_cause}

links_here : (c : Content) (per : ℕ) (upper : List ℕ) (r : Record) (dir : DirPlace) → place_of dir ≡ index_place per r → Some dir.root ≡ root_value r → links_read (walk_of c (place_of dir) upper dir.root) ≡ index_links c per upper r
unfolding index_links
links_here c per upper r dir place root = ap (λ p. links_read (walk_of c p upper dir.root)) place ∙ ap (links_below c (index_place per r) upper) root

pub links_placed : (known : Option Content) (per : ℕ) (upper : List ℕ) (r : Record) (dir : DirPlace) (result : Result (Option (List Link)) IndexFault) → place_of dir ≡ index_place per r → Some dir.root ≡ root_value r → IfSome known (λ c. GivesOrFails (λ (links : Option (List Link)). links) index_cause result (Ok (links_read (walk_of c (place_of dir) upper dir.root)))) → IfSome known (λ c. GivesOrFails (λ (links : Option (List Link)). links) index_cause result (Ok (index_links c per upper r)))
links_placed known per upper r dir result place root h =
    one known _ _ (λ c g. subst (λ (links : Option (List Link)). GivesOrFails (λ (links : Option (List Link)). links) index_cause result (Ok links)) (links_here c per upper r dir place root) g) h

links_none : (c : Content) (per : ℕ) (upper : List ℕ) (r : Record) → None ≡ root_value r → index_links c per upper r ≡ None
unfolding index_links
links_none c per upper r root = ap (links_below c (index_place per r) upper) (sym root)

pub links_nowhere : (known : Option Content) (per : ℕ) (upper : List ℕ) (r : Record) → None ≡ root_value r → IfSome known (λ c. GivesOrFails (λ (links : Option (List Link)). links) index_cause (Ok None) (Ok (index_links c per upper r)))
links_nowhere known per upper r root = always known _ (λ c. ap (λ (links : Option (List Link)). Ok links) (links_none c per upper r root))
