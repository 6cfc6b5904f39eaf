-- The first of the numbers that came.
use Rattle.std.proofs.Common.{◌≡◌, ℕ, suc, ◌+◌, ◌-◌, max, List, ◌++◌, map, ap, ap₂, ◌∙◌, arith}
use Rattle.std.specs.List.{range_with_len}
use Rattle.host_base.specs.declared.file_ref.FileRef.{FileRef}
use Rattle.file_tree.specs.Walks.{first_user_record}
use Rattle.plan_growth.specs.tree_laws.Growth.{new_number, new_numbers}
use Rattle.plan_table.specs.Growing.{NewNumberIsFirst}

pub first_number : NewNumberIsFirst
first_number came t u k none users =
    let from : max first_user_record t.count ≡ t.count = omega (arith, users) in
    let many : u.count - max first_user_record t.count ≡ suc 255 = (let more = k.count in omega (arith, users, more)) in (
      map new_number (range_with_len (t.count + 1) 255),
      k.spare
          ∙ ap (λ (l : List FileRef). l ++ new_numbers t.count u.count) none
          ∙ ap₂ (λ (a n : ℕ). map new_number (range_with_len a n)) from many,
    )
