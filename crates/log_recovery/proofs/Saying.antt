-- What is found of a block is what is meant of it.
use Rattle.std.proofs.Common.{◌≡◌, ℕ, Bool, true, false, not, ◌||◌, ◌&&◌, List, Option, Some, None, refl, sym, ap, ◌∙◌}
use Rattle.std.specs.Prelude.{if◌then◌else◌, All, nat_eq}
use Rattle.std.specs.Cmp.Lexicographic.{pointwise}
use Rattle.log_reading.specs.disk_model.declared.block.Block.{Block}
use Rattle.log_reading.specs.disk_model.declared.block.BlockKind.TheVariants.{Plain}
use Rattle.log_reading.specs.disk_model.Bodies.{BodyOf}
use Rattle.log_reading.specs.disk_model.Sectors.{same_kind}
use Rattle.log_reading.specs.disk_model.Content.{Content, HasSizes}
use Rattle.log_reading.proofs.disk_model.Frames.{bytes_after-append}
use Rattle.log_model.specs.declared.entry.Entry.{Entry}
use Rattle.log_model.specs.Logs.{IsLevel, is_ended, is_shadowed, undos_back, redos, recovered, is_covered_whole, is_other, is_written_out, is_partial}
use Rattle.log_model.proofs.Recovering.{changes, torn_after}
use Rattle.log_recovery.specs.declared.found.Judged.{Judged}
use Rattle.log_recovery.specs.declared.found.Judged.TheVariants.{Shadowed, Partial, Kept, Made}
use Rattle.log_recovery.specs.Blocks.{shadowed_by, bytes_by, other_by, partial_by, made_by, body_by, Judges}
use Rattle.log_recovery.specs.Recovering.{is_updated, written_body}
use Rattle.log_recovery.specs.Finding.{is_part}

pub shadowed-is : (log : List Entry) (b : Block) → is_shadowed log b ≡ shadowed_by (is_ended log) log b
unfolding is_shadowed shadowed_by
shadowed-is log b = refl

bytes-seen : (c : Content) (log : List Entry) (b : Block) → is_shadowed log b ≡ false → (recovered c log b).bytes ≡ bytes_by (is_ended log) log b (c b).bytes
bytes-seen c log b seen =
    ap (λ (body : BodyOf). body.bytes) (changes c log b seen) ∙ bytes_after-append (undos_back log) (redos (is_ended log) log) b (c b).bytes

other-seen : (c : Content) (log : List Entry) (b : Block) → is_shadowed log b ≡ false → is_other c log b ≡ other_by (is_ended log) log b (c b).bytes
unfolding is_other other_by
other-seen c log b seen = ap (λ (bytes : List ℕ). not (pointwise nat_eq bytes (c b).bytes)) (bytes-seen c log b seen)

abbrev pub body_of_parts : List ℕ → Bool → BodyOf
body_of_parts x y = record { bytes = x; torn = y }

pub recovered-seen : (c : Content) (log : List Entry) (b : Block) → HasSizes c → All IsLevel log → is_shadowed log b ≡ false → recovered c log b ≡ body_by (is_ended log) log b (c b)
recovered-seen c log b sized level seen =
    ap (λ (x : List ℕ). body_of_parts x (recovered c log b).torn) (bytes-seen c log b seen)
    ∙ ap (λ (t : Bool). body_of_parts (bytes_by (is_ended log) log b (c b).bytes) t) (torn_after c log b sized level seen)

-- with these bools a block is written out, or recovered in part
abbrev out_of : Bool → Bool → Bool → Bool → Bool
out_of updated shadowed other whole = updated && not shadowed && (other || whole)

written-seen : (c : Content) (log : List Entry) (b : Block) → is_updated log b ≡ true → is_shadowed log b ≡ false → is_written_out c log b ≡ made_by (is_ended log) log b (c b)
unfolding is_written_out
written-seen c log b updated seen =
    ap (λ (u : Bool). out_of u (is_shadowed log b) (is_other c log b) ((c b).torn && is_covered_whole log b)) updated
    ∙ ap (λ (s : Bool). out_of true s (is_other c log b) ((c b).torn && is_covered_whole log b)) seen
    ∙ ap (λ (o : Bool). out_of true false o ((c b).torn && is_covered_whole log b)) (other-seen c log b seen)

written-shadowed : (c : Content) (log : List Entry) (b : Block) → is_updated log b ≡ true → is_shadowed log b ≡ true → is_written_out c log b ≡ false
unfolding is_written_out
written-shadowed c log b updated shadowed =
    ap (λ (u : Bool). out_of u (is_shadowed log b) (is_other c log b) ((c b).torn && is_covered_whole log b)) updated
    ∙ ap (λ (s : Bool). out_of true s (is_other c log b) ((c b).torn && is_covered_whole log b)) shadowed

abbrev part_of : Bool → Bool → Bool → Bool → Bool
part_of plain shadowed whole other = not plain && not shadowed && not whole && other

abbrev part_of_seen : Bool → Bool → Bool → Bool
part_of_seen plain whole other = not plain && not whole && other

part_seen : (plain whole other : Bool) → part_of plain false whole other ≡ part_of_seen plain whole other
part_seen true whole other = refl
part_seen false whole other = refl

part_shadowed : (plain whole other : Bool) → part_of plain true whole other ≡ false
part_shadowed true whole other = refl
part_shadowed false whole other = refl

partial-seen : (c : Content) (log : List Entry) (b : Block) → is_shadowed log b ≡ false → is_partial c log b ≡ partial_by (is_ended log) log b (c b)
unfolding is_partial
partial-seen c log b seen =
    ap (λ (s : Bool). part_of (same_kind b.kind Plain) s (is_covered_whole log b) (is_other c log b)) seen
    ∙ part_seen (same_kind b.kind Plain) (is_covered_whole log b) (is_other c log b)
    ∙ ap (part_of_seen (same_kind b.kind Plain) (is_covered_whole log b)) (other-seen c log b seen)

partial-shadowed : (c : Content) (log : List Entry) (b : Block) → is_shadowed log b ≡ true → is_partial c log b ≡ false
unfolding is_partial
partial-shadowed c log b shadowed =
    ap (λ (s : Bool). part_of (same_kind b.kind Plain) s (is_covered_whole log b) (is_other c log b)) shadowed
    ∙ part_shadowed (same_kind b.kind Plain) (is_covered_whole log b) (is_other c log b)

-- ---- all of it

abbrev pub made_of : Judged → Option BodyOf
made_of (Made body) = Some body
made_of Shadowed = None
made_of Partial = None
made_of Kept = None

-- what was found is what is meant; of a block that is recovered in part no body is told
pub record Says (c : Content) (log : List Entry) (b : Block) (judged : Judged) : Type 0 where
  pub body : is_part judged ≡ false → written_body c log b ≡ made_of judged
  pub part : is_partial c log b ≡ is_part judged

choose : {X : Type 0} (t u : Bool) (x : Option X) → t ≡ u → (if t then x else None) ≡ (if u then x else None)
choose t u x e = ap (λ (s : Bool). if s then x else None) e

pub says : (c : Content) (log : List Entry) (b : Block) (judged : Judged) → HasSizes c → All IsLevel log → is_updated log b ≡ true → Judges (is_ended log) log b (c b) judged → Says c log b judged
says c log b Shadowed sized level updated j =
    let shadowed = shadowed-is log b ∙ j in
    record {
      body = λ whole. choose (is_written_out c log b) false (Some (recovered c log b)) (written-shadowed c log b updated shadowed);
      part = partial-shadowed c log b shadowed;
    }
says c log b Partial sized level updated j =
    let seen = shadowed-is log b ∙ j.0 in
    record {
      body = λ whole. absurd cc;
      part = partial-seen c log b seen ∙ j.1;
    }
says c log b Kept sized level updated j =
    let seen = shadowed-is log b ∙ j.seen in
    record {
      body = λ whole. choose (is_written_out c log b) false (Some (recovered c log b)) (written-seen c log b updated seen ∙ j.made);
      part = partial-seen c log b seen ∙ j.part;
    }
says c log b (Made body) sized level updated j =
    let seen = shadowed-is log b ∙ j.0.seen in
    record {
      body = λ whole. choose (is_written_out c log b) true (Some (recovered c log b)) (written-seen c log b updated seen ∙ j.0.made)
          ∙ ap (λ (x : BodyOf). Some x) (recovered-seen c log b sized level seen ∙ sym j.1);
      part = partial-seen c log b seen ∙ j.0.part;
    }
