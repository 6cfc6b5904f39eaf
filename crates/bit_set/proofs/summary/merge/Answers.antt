use Rattle.std.proofs.Common.{◌≡◌, ◌-◌, ap, ◌∙◌, arith}
use Rattle.bit_set.specs.declared.summary.Run.{Run}
use Rattle.bit_set.proofs.Merging.{Takes, front_merged, back_merged, longest_merged}
use Rattle.bit_set.proofs.summary.merge.Goals as goal

first_of_run : (a b : Run) → a ≡ b → a.first ≡ b.first
first_of_run a b e = ap (λ (r : Run). r.first) e

len_of_run : (a b : Run) → a ≡ b → a.len ≡ b.len
len_of_run a b e = ap (λ (r : Run). r.len) e

pub returns : goal.returns
returns c = λ f from to left right.
    let one : Takes c.args.left.longest.first c.args.left.longest.len c.args.left.back (c.args.right.front - c.args.left.back) c.longer.result.first c.longer.result.len = record {
      second = λ lt. (let e = c.longer.ensures.second (omega (arith, c.across.ensures.len)) in (first_of_run _ _ e ∙ c.across.ensures.first, len_of_run _ _ e ∙ c.across.ensures.len));
      kept = λ le. (let e = c.longer.ensures.first (omega (arith, c.across.ensures.len)) in (first_of_run _ _ e, len_of_run _ _ e));
    } in
    let two : Takes c.longer.result.first c.longer.result.len c.args.right.longest.first c.args.right.longest.len c.longer-2.result.first c.longer-2.result.len = record {
      second = λ lt. (let e = c.longer-2.ensures.second lt in (first_of_run _ _ e, len_of_run _ _ e));
      kept = λ le. (let e = c.longer-2.ensures.first le in (first_of_run _ _ e, len_of_run _ _ e));
    } in
    record {
      front = front_merged f from c.args.middle to _ _ _ left.front right.front c.where_same.ensures.same c.where_same.ensures.other;
      back = back_merged f from c.args.middle to _ _ _ left.back right.back c.where_same-2.ensures.same c.where_same-2.ensures.other;
      longest = longest_merged f from c.args.middle to _ _ _ _ _ _ _ _ _ _ left.back right.front left.longest right.longest one two;
    }
