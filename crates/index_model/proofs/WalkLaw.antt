-- A walk passes exactly over an index.
use Rattle.std.proofs.Common.{◌≡◌, ℕ, ◌≤◌, Bool, true, false, List, [], Option, Result, Ok, Err, refl, sym, ap, ◌∙◌, arith}
use Rattle.std.proofs.lemmas.List.{append-nil}
use Rattle.state_model.specs.host_base.Answers.{◌>>=◌}
use Rattle.state_model.specs.disk_model.Content.{Content}
use Rattle.state_model.specs.record_model.declared.entry.Entry.{Entry}
use Rattle.state_model.specs.record_model.Nodes.{root_at}
use Rattle.state_model.specs.file_tree.declared.link.Link.{Link}
use Rattle.index_model.specs.Trees.{Tree, walk, one_if}
use Rattle.index_model.specs.Indexes.{Place, node_of_block, nodes_of, links_of, rises, IsIndex}
use Rattle.index_model.specs.Walks.{Broken, Met, all_judged, met_in, met_from, nothing_met, root_vcn, walk_of}
use Rattle.index_model.specs.Laws.{HoldsIndex}
use Rattle.index_model.proofs.Marks.{met_before, nothing_before}
use Rattle.index_model.proofs.OneTree.{same_tree}
use Rattle.index_model.proofs.Shapes.{root_ends, block_ends}
use Rattle.index_model.proofs.Steps.{bind_ok}
use Rattle.index_model.proofs.Sound.{Walked, walked}
use Rattle.index_model.proofs.Complete.{passes_tree}

pub one_index : (nodes : ℕ → Option (List Entry)) (root : List Entry) (upper : List ℕ) (t s : Tree) → IsIndex nodes root upper t → IsIndex nodes root upper s → t ≡ s
one_index nodes root upper t s a b = same_tree nodes t s (sym a.root_is ∙ b.root_is) a.stands b.stands

at_most_one : (b : Bool) → one_if b ≤ 1
at_most_one true = omega arith
at_most_one false = omega arith

-- a walk from nothing over entries that end with a last one
index_of_walk : (p : Place) (upper : List ℕ) (read : ℕ → Result (List Entry) ℕ) (entries : List Entry) (m : Met) → (w : Walked p upper read 16 entries (nothing_met p) m) → IsIndex (nodes_of read) entries upper w.tree
index_of_walk p upper read entries m w = record {
  root_is = w.entries_are;
  stands = w.stands;
  once = λ v. let a = w.grown.marks v in let b = nothing_before p v in let c = at_most_one (met_before p m v) in omega arith;
  height = w.low;
  ordered = ap (rises upper) (sym w.grown.links) ∙ w.grown.rising refl;
}

passed_from : (c : Content) (p : Place) (upper value : List ℕ) (links : List Link) (r : Result (List Entry) ℕ) → root_at value ≡ r → met_from p upper (met_in (node_of_block c p) 15 root_vcn) r ≡ Ok links → (t : Tree) × HoldsIndex c p upper value t × (links ≡ links_of (walk t))
passed_from c p upper value links (Ok entries) is e =
    let b = bind_ok (all_judged p upper (nothing_met p) (met_in (node_of_block c p) 15 root_vcn entries)) (λ m. Ok m.links) links e in
    let w = walked p upper (node_of_block c p) (block_ends c p) 15 root_vcn entries (nothing_met p) b.0 (root_ends value entries is) b.1 in
    let last : b.0.links ≡ links = let s = b.2 in cc in
    (w.tree, record { entries = entries; root_read = is; is_index = index_of_walk p upper (node_of_block c p) entries b.0 w }, sym last ∙ w.grown.links)
passed_from c p upper value links (Err rule) is e = absurd cc

pub passed_walk : (c : Content) (p : Place) (upper value : List ℕ) (links : List Link) → walk_of c p upper value ≡ Ok links → (t : Tree) × HoldsIndex c p upper value t × (links ≡ links_of (walk t))
unfolding walk_of
passed_walk c p upper value links e = passed_from c p upper value links (root_at value) refl e

pub walk_passes : (c : Content) (p : Place) (upper value : List ℕ) (t : Tree) → HoldsIndex c p upper value t → walk_of c p upper value ≡ Ok (links_of (walk t))
unfolding walk_of
walk_passes c p upper value t h =
    let i = h.is_index in
    let a = passes_tree p upper (node_of_block c p) (block_ends c p) t 15 root_vcn (nothing_met p) [] i.height i.stands (λ x. let n = nothing_before p x in let o = i.once x in omega arith) (ap (rises upper) (append-nil (links_of (walk t))) ∙ i.ordered) in
    ap (met_from p upper (met_in (node_of_block c p) 15 root_vcn)) h.root_read
    ∙ ap (λ es. all_judged p upper (nothing_met p) (met_in (node_of_block c p) 15 root_vcn es) >>= λ m. Ok m.links) i.root_is
    ∙ ap (λ (r : Result Met Broken). r >>= λ m. Ok m.links) a.passed
    ∙ ap (λ l. Ok l) a.links
