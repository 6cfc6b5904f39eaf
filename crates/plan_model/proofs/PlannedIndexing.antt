-- The index of a directory after a plan of it.
use Rattle.std.proofs.Common.{◌≡◌, ◌⊎◌, ℕ, ◌/◌, Bool, true, false, cond, List, [], ◌∷◌, Option, Some, refl, ap, ap₂, ◌∙◌, inl, inr}
use Rattle.std.proofs.lemmas.Bool.{cases_Bool, and_parts, and_from, both_ways}
use Rattle.plan_bodies.specs.disk_model.Content.{Content}
use Rattle.index_change.specs.record_model.declared.attribute.Attr.{Attr}
use Rattle.index_change.specs.record_model.Records.{Record}
use Rattle.index_change.specs.record_model.Constants.{index_allocation, names_index}
use Rattle.index_change.specs.file_tree.declared.link.Link.{Link}
use Rattle.index_change.specs.file_tree.Names.{comes_before}
use Rattle.index_change.specs.index_model.declared.key.Key.{Key}
use Rattle.index_change.specs.index_model.Indexes.{Place}
use Rattle.index_change.specs.index_model.Trees.{Tree}
use Rattle.index_change.specs.block_view.Changes.{content_after}
use Rattle.index_change.specs.declared.plan.DirPlan.{DirPlan}
use Rattle.index_change.specs.Orders.{put_link}
use Rattle.index_change.specs.Plans.{NewIndex}
use Rattle.index_change.specs.state_model.declared.stream.Stream.{Stream}
use Rattle.index_change.specs.state_model.Rules.{is_rising}
use Rattle.index_change.specs.state_model.Streams.{is_attribute_of, stream_of}
use Rattle.index_change.specs.volume_model.Indexes.{stream_blocks, index_stream, index_place, root_value, links_read, links_below, index_links}
use Rattle.plan_owners.specs.stream_laws.Frames.{SameNodesIn}
use Rattle.plan_owners.proofs.stream_laws.Framing.{same_walk}
use Rattle.plan_owners.specs.tree_laws.Keeping.{PartReplaced}
use Rattle.plan_model.specs.Attributes.{RewritesValues, SparesAll}
use Rattle.plan_model.specs.PlannedIndexes.{AreBeside}
use Rattle.plan_model.proofs.Rewriting.{same_stream}

put_if : (t : Bool) (l k : Link) (links rest : List Link) → PartReplaced [] (l ∷ []) links rest → PartReplaced [] (l ∷ []) (k ∷ links) (cond t (l ∷ k ∷ links) (k ∷ rest))
put_if true l k links rest one = record { front = []; behind = k ∷ links; was = refl; is = refl }
put_if false l k links rest one = record { front = k ∷ one.front; behind = one.behind; was = ap (λ (x : List Link). k ∷ x) one.was; is = ap (λ (x : List Link). k ∷ x) one.is }

pub one_put : (upper : List ℕ) (l : Link) (links : List Link) → PartReplaced [] (l ∷ []) links (put_link upper l links)
one_put upper l [] = record { front = []; behind = []; was = refl; is = refl }
one_put upper l (k ∷ links) = put_if (comes_before upper l.name k.name) l k links (put_link upper l links) (one_put upper l links)

rises_from : (upper : List ℕ) (k : Link) (links : List Link) → is_rising upper (k ∷ links) ≡ true → is_rising upper links ≡ true
unfolding is_rising
rises_from upper k [] is = refl
rises_from upper k (m ∷ links) is = (and_parts _ _ is).1

module _ (upper : List ℕ) (l : Link) where
  beside : (k : Link) → comes_before upper l.name k.name ≡ false → (comes_before upper l.name k.name ≡ true) ⊎ (comes_before upper k.name l.name ≡ true) → comes_before upper k.name l.name ≡ true
  beside k behind (inl before) = absurd (both_ways (comes_before upper l.name k.name) behind before)
  beside k behind (inr after) = after

  put_behind : (k : Link) (links : List Link) → is_rising upper (k ∷ links) ≡ true → comes_before upper k.name l.name ≡ true → AreBeside upper l links → is_rising upper (k ∷ put_link upper l links) ≡ true
  unfolding is_rising
  put_behind k [] is after all = and_from _ _ after refl
  put_behind k (m ∷ links) is after all =
      let parts = and_parts (comes_before upper k.name m.name) (is_rising upper (m ∷ links)) is in
      elim (cases_Bool (comes_before upper l.name m.name)) [
        | inl before ↦ ap (λ (t : Bool). is_rising upper (k ∷ cond t (l ∷ m ∷ links) (m ∷ put_link upper l links))) before ∙ and_from _ _ after (and_from _ _ before parts.1)
        | inr behind ↦
            ap (λ (t : Bool). is_rising upper (k ∷ cond t (l ∷ m ∷ links) (m ∷ put_link upper l links))) behind ∙ and_from _ _ parts.0 (put_behind m links parts.1 (beside m behind all.0) all.1)
      ]

  pub put_rises : (links : List Link) → is_rising upper links ≡ true → AreBeside upper l links → is_rising upper (put_link upper l links) ≡ true
  unfolding is_rising
  put_rises [] is all = refl
  put_rises (k ∷ links) is all = elim (cases_Bool (comes_before upper l.name k.name)) [
    | inl before ↦ ap (λ (t : Bool). is_rising upper (cond t (l ∷ k ∷ links) (k ∷ put_link upper l links))) before ∙ and_from _ _ before is
    | inr behind ↦ ap (λ (t : Bool). is_rising upper (cond t (l ∷ k ∷ links) (k ∷ put_link upper l links))) behind ∙ put_behind k links is (beside k behind all.0) all.1
  ]

pub planned_after : (may : Attr → Bool) (c d : Content) (per : ℕ) (upper value : List ℕ) (used : ℕ) (t : Tree) (fresh : List ℕ) (more : Bool) (keys : List Key) (meant : List Link) (plan : DirPlan) (r s : Record)
    → NewIndex c (index_place per r) upper value used t fresh more keys meant plan → RewritesValues may r s → SparesAll may (is_attribute_of index_allocation names_index) → root_value s ≡ Some plan.root
    → SameNodesIn (content_after plan.changes.items c) d (index_place per r) → index_links d per upper s ≡ Some meant
unfolding index_links index_place index_stream
planned_after may c d per upper value used t fresh more keys meant plan r s new k spares root same =
    let place : Option Stream → Place = λ o. record { blocks = stream_blocks per o; step = 8 / per } in
    ap₂ (λ (o : Option Stream) (x : Option (List ℕ)). links_below d (place o) upper x) (same_stream may r s index_allocation names_index k spares) root
    ∙ ap links_read (same_walk (content_after plan.changes.items c) d (place (stream_of index_allocation names_index r.attrs)) upper plan.root same ∙ new.walked)
