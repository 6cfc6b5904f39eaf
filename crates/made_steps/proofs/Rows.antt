-- Rows of a step, and what its look-up found.
use Rattle.std.proofs.Common.{◌≡◌, ℕ, ◌≤◌, Bool, cond, List, ◌∷◌, Option, Some, None, ap, ◌∙◌}
use Rattle.std.proofs.lemmas.Bool.{le-ltb}
use Rattle.host_base.specs.declared.file_ref.FileRef.{FileRef}
use Rattle.tree_model.specs.declared.script.Op.TheVariants.{Create}
use Rattle.tree_model.specs.declared.reply.Reply.TheVariants.{RecordFull}
use Rattle.made_trees.specs.step_model.Used.{most_used}
use Rattle.made_trees.specs.step_model.Plans.{full_row}

pub not_full : (used : ℕ) (more : List ℕ) → used ≤ most_used → full_row more ≡ None → full_row (used ∷ more) ≡ None
not_full used more low rest = ap (λ (b : Bool). cond b (Some (RecordFull used)) (full_row more)) (le-ltb most_used used low) ∙ rest

pub same_ref : (o : Option FileRef) (x y : FileRef) → o ≡ Some x → o ≡ Some y → x ≡ y
same_ref o x y one two = cc

pub same_path : (path other : List (List ℕ)) → Create path ≡ Create other → other ≡ path
same_path path other is = cc
