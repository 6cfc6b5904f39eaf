-- Turns before they are run.
use Rattle.std.proofs.Common.{◌≡◌, subst, ℕ, ◌+◌, ◌<◌, ◌≤◌, true, List, [], ◌∷◌, ◌++◌, length, get_or, sym, ap, ◌∙◌, inl, inr, arith}
use Rattle.std.proofs.Math.Seq.{get_or-append_seam}
use Rattle.std.proofs.lemmas.Bool.{cases_eq}
use Rattle.std.proofs.lemmas.List.{length-append, get_or_append_left, get_or_default}
use Rattle.tree_model.specs.declared.script.Op.{Op}
use Rattle.tree_model.specs.declared.script.Op.TheVariants.{Sync}
use Rattle.tree_model.specs.declared.script.What.{What}
use Rattle.tree_model.specs.declared.script.What.TheVariants.{Op as Operation}
use Rattle.tree_model.specs.declared.script.Command.{Command}
use Rattle.tree_model.specs.Steps.{IsWithinBounds}
use Rattle.run_model.specs.declared.turn.Turn.{Turn}
use Rattle.script_text.specs.Asking.{is_asked, IsAsked, AllAsked}
use Rattle.change_run.specs.Turns.{IsBlank, AreBlank}

-- some command, where a list asks for one
abbrev pub no_command : Command
no_command = record { client = 0; number = 0; what = Operation Sync }

-- the first so many are
abbrev pub AreBlankTo : ℕ → List Command → List Turn → Type 0
AreBlankTo n script turns = (i : ℕ) (c : Command) (t : Turn) → i < n → IsBlank (get_or script i c) (i + 1) (get_or turns i t)

-- and one more
pub blank_more : (script : List Command) (turns : List Turn) (i : ℕ) (d : Command) (u : Turn) → length turns ≡ i → i < length script → AreBlankTo i script turns → IsBlank (get_or script i d) (i + 1) u → (length (turns ++ u ∷ []) ≡ i + 1) × AreBlankTo (i + 1) script (turns ++ u ∷ [])
blank_more script turns i d u many lt blank one = (
  length-append turns (u ∷ []) ∙ ap (λ (n : ℕ). n + 1) many,
  λ k c t less. elim (cases_eq k i) [
    | inl is ↦ subst (λ (n : ℕ). IsBlank (get_or script n c) (n + 1) (get_or (turns ++ u ∷ []) n t)) (sym is)
        (subst (λ (x : Turn). IsBlank (get_or script i c) (i + 1) x) (sym (subst (λ (n : ℕ). get_or (turns ++ u ∷ []) n t ≡ u) many (get_or-append_seam turns u [] t)))
        (subst (λ (x : Command). IsBlank x (i + 1) u) (get_or_default script i d c lt) one))
    | inr other ↦ subst (λ (x : Turn). IsBlank (get_or script k c) (k + 1) x) (sym (get_or_append_left turns (u ∷ []) t k (omega (arith, many, other, less)))) (blank k c t (omega (arith, other, less)))
  ],
)

-- what such a turn asks for is within bounds
by_what : (w : What) (o : Op) → w ≡ Operation o → IsAsked w → (is_asked o ≡ true) × IsWithinBounds o
by_what w o is replied = subst IsAsked is replied

pub asks : (script : List Command) (i : ℕ) (c : Command) (serial : ℕ) (t : Turn) → AllAsked script → i < length script → IsBlank (get_or script i c) serial t → (is_asked t.op ≡ true) × IsWithinBounds t.op
asks script i c serial t all lt blank = by_what (get_or script i c).what t.op blank.what (all i c lt)

-- all of them, where all of a script's were made
pub all_blank : (script items : List Command) (turns : List Turn) (n : ℕ) → items ≡ script → n ≤ length items → length items ≤ n → length turns ≡ n → AreBlankTo n items turns → AreBlank script turns
all_blank script items turns n same most least many blank =
    let long : n ≡ length script = ends ∙ ap (λ (xs : List Command). length xs) same in
    record {
      many = many ∙ long;
      each = λ i c t lt. subst (λ (xs : List Command). IsBlank (get_or xs i c) (i + 1) (get_or turns i t)) same (blank i c t (omega (arith, lt, long)));
    }
  where
    ends : n ≡ length items
    ends = omega (arith, most, least)
