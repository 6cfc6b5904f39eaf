-- Lists of names that agree, each with each.
use Rattle.std.proofs.Common.{◌≡◌, ℕ, ◌+◌, ◌<◌, true, ◌&&◌, List, ◌++◌, [], ◌∷◌, length, get_or, take, sym, ap, ap₂, ◌∙◌}
use Rattle.std.specs.Prelude.{◌==◌}
use Rattle.std.specs.Cmp.Lexicographic.{bytes_decides}
use Rattle.std.proofs.lemmas.Bool.{and_parts, eqb-true}
use Rattle.std.proofs.lemmas.List.{take_more}
use Rattle.host_base.specs.declared.file_ref.FileRef.{FileRef}
use Rattle.host_base.specs.FileRefs.{same_reference}
use Rattle.map_change.specs.file_tree.declared.link.Link.{Link}
use Rattle.map_change.specs.file_tree.Names.{same_units}
use Rattle.record_rules.specs.state_model.Rules.{same_link}

-- ---- one name

ref_of : ℕ → ℕ → FileRef
ref_of number seq = record { number = number; seq = seq }

same_file_is : (a b : FileRef) → same_reference a b ≡ true → a ≡ b
unfolding ref_of
same_file_is a b e =
    let parts = and_parts (a.number == b.number) (a.seq == b.seq) e in
    ap₂ ref_of (eqb-true a.number b.number parts.0) (eqb-true a.seq b.seq parts.1)

link_with : FileRef → List ℕ → ℕ → FileRef → Link
link_with parent name space child = record { parent = parent; name = name; space = space; child = child }

link_is : (l m : Link) → m.child ≡ l.child → m.parent ≡ l.parent → m.space ≡ l.space → m.name ≡ l.name → m ≡ l
unfolding link_with
link_is l m c p s n =
    ap (λ (x : FileRef). link_with m.parent m.name m.space x) c ∙ ap (λ (x : FileRef). link_with x m.name m.space l.child) p
    ∙ ap (λ (x : ℕ). link_with l.parent m.name x l.child) s ∙ ap (λ (x : List ℕ). link_with l.parent x l.space l.child) n

same_link_is : (l m : Link) → same_link l m ≡ true → m ≡ l
same_link_is l m e =
    let a = and_parts (same_reference l.child m.child && same_reference l.parent m.parent && (l.space == m.space)) (same_units l.name m.name) e in
    let b = and_parts (same_reference l.child m.child && same_reference l.parent m.parent) (l.space == m.space) a.0 in
    let d = and_parts (same_reference l.child m.child) (same_reference l.parent m.parent) b.0 in
    sym (link_is m l (same_file_is l.child m.child d.0) (same_file_is l.parent m.parent d.1) (eqb-true l.space m.space b.1) ((bytes_decides l.name m.name).0 a.1))

-- ---- one more

pub links_more : (links others : List Link) (i : ℕ) (a b : Link) → i < length links → i < length others → a ≡ get_or links i a → b ≡ get_or others i b → same_link a b ≡ true → take i others ≡ take i links → take (i + 1) others ≡ take (i + 1) links
links_more links others i a b below within is that same before =
    take_more others i b within
    ∙ ap₂ (λ (s : List Link) (l : Link). s ++ l ∷ []) before (sym that ∙ same_link_is a b same ∙ is)
    ∙ sym (take_more links i a below)
