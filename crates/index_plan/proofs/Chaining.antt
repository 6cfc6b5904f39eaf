-- The chain of nodes that last entries lead down to, read node by node.
use Rattle.std.proofs.Common.{◌≡◌, ℕ, suc, List, [], ◌∷◌, ◌++◌, Option, Some, None, Result, Ok, Err, refl, sym, ap, ◌∙◌}
use Rattle.std.specs.Prelude.{IfSome}
use Rattle.std.proofs.lemmas.List.{append-nil, append_assoc}
use Rattle.index_model.specs.Walks.{Broken}
use Rattle.index_model.specs.host_base.Answers.{◌>>=◌, ExplainsOrFails}
use Rattle.record_model.specs.declared.entry.Entry.{Entry as Raw}
use Rattle.index_plan.specs.declared.fault.PlanFault.{PlanFault}
use Rattle.index_plan.specs.declared.write.Write.{Write}
use Rattle.index_plan.specs.Faults.{way_cause}
use Rattle.index_plan.specs.Reading.{NodeReads, read_by, too_low}
use Rattle.index_plan.specs.Seeking.{last_down, chain_down, chain_front}
use Rattle.index_plan.proofs.Steps.{ends, by_one, by_two}

pub chain_all : (r : Result (List Write) Broken) → chain_front [] r ≡ r
chain_all (Ok chain) = refl
chain_all (Err broken) = refl

front_two : (front : List Write) (w : Write) (r : Result (List Write) Broken) → chain_front front (r >>= λ chain. Ok (w ∷ chain)) ≡ chain_front (front ++ w ∷ []) r
front_two front w (Ok chain) = ap (λ (l : List Write). Ok l) (sym (append_assoc front (w ∷ []) chain))
front_two front w (Err broken) = refl

step : (reads : NodeReads) (k above v : ℕ) (node : List Raw) (front : List Write) → read_by above v (reads v) ≡ Ok node → chain_front front (chain_down reads (suc k) above (Some v)) ≡ chain_front (front ++ record { vcn = v; entries = node } ∷ []) (chain_down reads k v (last_down node))
step reads k above v node front is =
    ap (λ (r : Result (List Raw) Broken). chain_front front (r >>= λ n. chain_down reads k v (last_down n) >>= λ chain. Ok (record { vcn = v; entries = n } ∷ chain))) is
    ∙ front_two front (record { vcn = v; entries = node }) (chain_down reads k v (last_down node))

breaks : (reads : NodeReads) (k above v : ℕ) (broken : Broken) (front : List Write) → read_by above v (reads v) ≡ Err broken → chain_front front (chain_down reads (suc k) above (Some v)) ≡ Err broken
breaks reads k above v broken front is = ap (λ (r : Result (List Raw) Broken). chain_front front (r >>= λ n. chain_down reads k v (last_down n) >>= λ chain. Ok (record { vcn = v; entries = n } ∷ chain))) is

-- the chain so far, and what is left of it
abbrev pub ChainIs : Option NodeReads → (NodeReads → Result (List Write) Broken) → List Write → ℕ → ℕ → Option ℕ → Type 0
ChainIs known whole front n above down = IfSome known (λ reads. chain_front front (chain_down reads n above down) ≡ whole reads)

pub chain_more : (known known' : Option NodeReads) (whole : NodeReads → Result (List Write) Broken) (n k above v : ℕ) (node : List Raw) (front front' : List Write) (down down' : Option ℕ) → known' ≡ known → n ≡ suc k → down ≡ Some v → IfSome known' (λ r. read_by above v (r v) ≡ Ok node) → down' ≡ last_down node → front' ≡ front ++ record { vcn = v; entries = node } ∷ [] → ChainIs known whole front n above down → ChainIs known whole front' k v down'
chain_more known known' whole n k above v node front front' down down' same is_suc is_down is_node is_next is_front before =
    by_two known known' known (λ r. read_by above v (r v) ≡ Ok node) (λ reads. chain_front front (chain_down reads n above down) ≡ whole reads) (λ reads. chain_front front' (chain_down reads k v down') ≡ whole reads) same refl
    (λ reads is b.
    ap (λ (d : Option ℕ). chain_front front' (chain_down reads k v d)) is_next
    ∙ ap (λ (l : List Write). chain_front l (chain_down reads k v (last_down node))) is_front
    ∙ sym (step reads k above v node front is)
    ∙ ap (λ (m : ℕ). chain_front front (chain_down reads m above (Some v))) (sym is_suc)
    ∙ ap (λ (d : Option ℕ). chain_front front (chain_down reads n above d)) (sym is_down)
    ∙ b)
    is_node before

pub chain_err : (known known' : Option NodeReads) (whole : NodeReads → Result (List Write) Broken) (n k above v : ℕ) (front : List Write) (down : Option ℕ) (e : PlanFault) → known' ≡ known → n ≡ suc k → down ≡ Some v → IfSome known' (λ r. ExplainsOrFails (way_cause e) (read_by above v (r v))) → ChainIs known whole front n above down → IfSome known (λ reads. ExplainsOrFails (way_cause e) (whole reads))
chain_err known known' whole n k above v front down e same is_suc is_down is_err before =
    by_two known known' known (λ r. ExplainsOrFails (way_cause e) (read_by above v (r v))) (λ reads. chain_front front (chain_down reads n above down) ≡ whole reads) (λ reads. ExplainsOrFails (way_cause e) (whole reads)) same refl
    (λ reads h b. ends e (read_by above v (reads v)) (whole reads) (λ broken is.
    sym b ∙ ap (λ (d : Option ℕ). chain_front front (chain_down reads n above d)) is_down ∙ ap (λ (m : ℕ). chain_front front (chain_down reads m above (Some v))) is_suc ∙ breaks reads k above v broken front is) h)
    is_err before

pub chain_done : (known : Option NodeReads) (whole : NodeReads → Result (List Write) Broken) (n above : ℕ) (front : List Write) (down : Option ℕ) → down ≡ None → ChainIs known whole front n above down → IfSome known (λ reads. whole reads ≡ Ok front)
chain_done known whole n above front down is_none before =
    by_one known known (λ reads. chain_front front (chain_down reads n above down) ≡ whole reads) (λ reads. whole reads ≡ Ok front) refl
    (λ reads b. sym b ∙ ap (λ (d : Option ℕ). chain_front front (chain_down reads n above d)) is_none ∙ ap (λ (l : List Write). Ok l) (append-nil front)) before

pub chain_low : (known : Option NodeReads) (whole : NodeReads → Result (List Write) Broken) (n above v : ℕ) (front : List Write) (down : Option ℕ) → n ≡ 0 → down ≡ Some v → ChainIs known whole front n above down → IfSome known (λ reads. whole reads ≡ Err (too_low above))
chain_low known whole n above v front down is_zero is_down before =
    by_one known known (λ reads. chain_front front (chain_down reads n above down) ≡ whole reads) (λ reads. whole reads ≡ Err (too_low above)) refl
    (λ reads b. sym b ∙ ap (λ (d : Option ℕ). chain_front front (chain_down reads n above d)) is_down ∙ ap (λ (m : ℕ). chain_front front (chain_down reads m above (Some v))) is_zero) before
