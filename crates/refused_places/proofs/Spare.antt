-- Where the number of a new file is spare, the file table doesn't grow.
use Rattle.std.proofs.Common.{◌≡◌, ℕ, Bool, true, false, cond, eqb, leb, ltb, List, [], ◌∷◌, length, Some, None, refl, ap, ◌∙◌, arith}
use Rattle.std.proofs.lemmas.Bool.{and_from, le-leb, lt-ltb, ne_eqb}
use Rattle.host_base.specs.declared.file_ref.FileRef.{FileRef}
use Rattle.disk_model.specs.Content.{Content}
use Rattle.file_tree.specs.Walks.{first_user_record}
use Rattle.bit_set.specs.Bits.{bit}
use Rattle.volume_model.specs.Nodes.{spare_at}
use Rattle.volume_model.specs.Volumes.{Volume, count_of, record_bits}
use Rattle.volume_state.specs.Trees.{tree_of, tree_with}
use Rattle.tree_laws.specs.LookUps.{spare_of}
use Rattle.tree_laws.proofs.LookingUp.{spare_found}
use Rattle.tree_model.specs.Effects.{ref_at}
use Rattle.place_makes.specs.made_trees.made_files.Made.{IsSpare}
use Rattle.place_makes.specs.made_trees.step_model.Plans.{grows_table}

some_spare : (refs : List FileRef) (n : ℕ) (x : FileRef) → ref_at refs n ≡ Some x → eqb (length refs) 0 ≡ false
unfolding ref_at
some_spare [] n x is = absurd cc
some_spare (y ∷ refs) n x is = ne_eqb (length (y ∷ refs)) 0 (λ same. omega (arith, same))

tree_spare : (c : Content) (v : Volume) (n : ℕ) → ref_at (tree_of c v).spare n ≡ spare_of c v n
unfolding ref_at tree_of tree_with
tree_spare c v n = spare_found c v n

clear_is : (b : Bool) (ref : FileRef) → b ≡ false → cond b None (Some ref) ≡ Some ref
clear_is true ref is = absurd cc
clear_is false ref is = refl

clear_ref : (c : Content) (v : Volume) (n : ℕ) → IsSpare c v n → (x : FileRef) × (spare_at c v n ≡ Some x)
unfolding spare_at
clear_ref c v n k = (_, clear_is (bit (record_bits c v) n) _ k.clear)

pub stays_table : (c : Content) (v : Volume) (n : ℕ) → IsSpare c v n → grows_table (tree_of c v) ≡ false
unfolding grows_table
stays_table c v n k =
    let ref : (x : FileRef) × (spare_at c v n ≡ Some x) = clear_ref c v n k in
    some_spare (tree_of c v).spare n ref.0
    (tree_spare c v n
    ∙ ap (λ (b : Bool). cond b (spare_at c v n) None) (and_from (leb first_user_record n) (ltb n (count_of v)) (le-leb first_user_record n k.user) (lt-ltb n (count_of v) k.within))
    ∙ ref.1)
