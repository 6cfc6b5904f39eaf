-- What a plan of a directory's index gives to an edit of the directory, in that plan's words.
use Rattle.std.specs.Prelude.{◌≡◌, ◌⊎◌, ℕ, Bool, true, List, [], ◌∷◌, Some}
use Rattle.std.specs.List.{AllByRecursion}
use Rattle.plan_bodies.specs.disk_model.Content.{Content}
use Rattle.index_change.specs.record_model.declared.attribute.Attr.{Attr}
use Rattle.index_change.specs.record_model.Records.{Record}
use Rattle.index_change.specs.record_model.Constants.{index_allocation, names_index}
use Rattle.index_change.specs.file_tree.declared.link.Link.{Link}
use Rattle.index_change.specs.file_tree.Names.{comes_before}
use Rattle.index_change.specs.index_model.declared.key.Key.{Key}
use Rattle.index_change.specs.index_model.Trees.{Tree}
use Rattle.index_change.specs.block_view.Changes.{content_after}
use Rattle.index_change.specs.declared.plan.DirPlan.{DirPlan}
use Rattle.index_change.specs.Orders.{put_link}
use Rattle.index_change.specs.Plans.{NewIndex}
use Rattle.index_change.specs.state_model.Rules.{is_rising}
use Rattle.index_change.specs.state_model.Streams.{is_attribute_of}
use Rattle.index_change.specs.volume_model.Indexes.{index_place, root_value, index_links}
use Rattle.plan_owners.specs.stream_laws.Frames.{SameNodesIn}
use Rattle.plan_owners.specs.tree_laws.Keeping.{PartReplaced}
use Rattle.plan_model.specs.Attributes.{RewritesValues, SparesAll}

-- each of the links comes before this one, or behind it
abbrev pub AreBeside : List ℕ → Link → List Link → Type 0
AreBeside upper l links = AllByRecursion (λ k. (comes_before upper l.name k.name ≡ true) ⊎ (comes_before upper k.name l.name ≡ true)) links

-- A link that is put among links that rise stands there as one more, and they rise, where none has equal units. A directory's index
-- after a plan is the one that the plan says, once the record has the plan's root and the content has its nodes.
pub record IndexesOfPlans : Type 0 where
  pub put : (upper : List ℕ) (l : Link) (links : List Link) → PartReplaced [] (l ∷ []) links (put_link upper l links)
  pub rises : (upper : List ℕ) (l : Link) (links : List Link) → is_rising upper links ≡ true → AreBeside upper l links → is_rising upper (put_link upper l links) ≡ true
  pub lists : (may : Attr → Bool) (c d : Content) (per : ℕ) (upper value : List ℕ) (used : ℕ) (t : Tree) (fresh : List ℕ) (more : Bool) (keys : List Key) (meant : List Link) (plan : DirPlan) (r s : Record)
      → NewIndex c (index_place per r) upper value used t fresh more keys meant plan → RewritesValues may r s → SparesAll may (is_attribute_of index_allocation names_index) → root_value s ≡ Some plan.root
      → SameNodesIn (content_after plan.changes.items c) d (index_place per r) → index_links d per upper s ≡ Some meant
