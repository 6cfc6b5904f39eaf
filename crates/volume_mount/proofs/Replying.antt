-- What a reply over a view of a device says of the device.
use Rattle.std.proofs.Common.{◌≡◌, ℕ, ◌^◌, ◌<◌, ◌≤◌, List, Option, Some, None, sym, ap, subst, arith}
use Rattle.std.specs.Prelude.{IfSome}
use Rattle.host_base.specs.Causes.{Rose, HasFailed}
use Rattle.host_base.proofs.Known.{one}
use Rattle.sector_device.specs.Moments.{Changes}
use Rattle.file_tree.specs.declared.tree.Tree.{Tree}
use Rattle.tree_model.specs.declared.reply.Reply.{Reply}
use Rattle.tree_model.specs.declared.reply.Reply.TheVariants.{Fault}
use Rattle.volume_lookup.specs.tree_lookup.Answered.{CountsReply}
use Rattle.image_read.specs.device_view.Devices.{BorrowedDevice, borrowed, failures}
use Rattle.image_read.proofs.device_view.Failing.{has_failed, has_not_failed}
use Rattle.image_read.proofs.device_view.Keeping.{device_failed}
use Rattle.volume_mount.specs.Answers.{CountsReplyOnDevice}

failed_where : (known : Option Tree) (before now moment_before moment_now : ℕ) → IfSome known (λ t. Rose (failures before moment_before) (failures now moment_now)) → IfSome known (λ t. HasFailed before now moment_now)
failed_where None before now moment_before moment_now rose = tt
failed_where (Some t) before now moment_before moment_now rose = has_failed before now moment_before moment_now rose

counts : (known : Option Tree) (reply : Reply) (before now moment_before moment_now : ℕ) → before ≤ now → moment_before < 2 ^ 62
    → CountsReply known (failures before moment_before) (failures now moment_now) reply → CountsReplyOnDevice known before now moment_now reply
counts known Fault before now moment_before moment_now more early rose = failed_where known before now moment_before moment_now rose
counts known reply before now moment_before moment_now more early same = has_not_failed before now moment_before moment_now more early same

-- A fault says that the device failed. The device is now x, which is what the view's reference shows at the end, last, where that is still the
-- reference that the view was made of.
pub reply_failed : {D : Type 0} (known : Option Tree) (reply : Reply) (gives : D → Option (List (List ℕ))) (count : D → ℕ) (changes : D → Changes) (faults moment : D → ℕ) (old last x : D) {began : ℕ} (given reference before first : ℕ)
    → reply ≡ Fault → borrowed gives count changes reference last before began ≡ borrowed gives count changes given old (faults old) (moment old)
    → failures (faults old) (moment old) ≤ first → CountsReply known first (failures (faults last) (moment last)) reply → (given ≡ reference → x ≡ last) → IfSome known (λ t. HasFailed (faults old) (faults x) (moment x))
reply_failed known reply gives count changes faults moment old last x given reference before first is kept more counted ended =
    one known (λ t. Rose first (failures (faults last) (moment last))) (λ t. HasFailed (faults old) (faults x) (moment x))
    (λ t rose. device_failed gives count changes faults moment old last x given reference before first kept more rose ended)
    (subst (λ (r : Reply). CountsReply known first (failures (faults last) (moment last)) r) is counted)

-- The same of its counts. The device is now x, which is what the view's reference shows at the end, last, where that is still the reference that the view was made of.
pub reply_counts : {D : Type 0} (known : Option Tree) (reply : Reply) (gives : D → Option (List (List ℕ))) (count : D → ℕ) (changes : D → Changes) (faults moment : D → ℕ) (old last x : D) {began : ℕ} (given reference before first : ℕ)
    → borrowed gives count changes reference last before began ≡ borrowed gives count changes given old (faults old) (moment old)
    → first ≡ failures (faults old) (moment old) → before ≤ faults last → CountsReply known first (failures (faults last) (moment last)) reply → (given ≡ reference → x ≡ last)
    → moment old < 2 ^ 62 → CountsReplyOnDevice known (faults old) (faults x) (moment x) reply
reply_counts known reply gives count changes faults moment old last x given reference before first kept is more rose ended early =
    let same : before ≡ faults old = ap (λ (b : BorrowedDevice). b.faults_before) kept in
    rw (ended (sym (ap (λ (b : BorrowedDevice). b.reference) kept)))
    (counts known reply (faults old) (faults last) (moment old) (moment last) (omega (arith, same, more)) early (subst (λ (n : ℕ). CountsReply known n (failures (faults last) (moment last)) reply) is rose))
