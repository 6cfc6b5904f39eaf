-- Powers of 2 as shifts make them.
use Rattle.std.proofs.Common.{◌≡◌, ℕ, ◌*◌, ◌%◌, ◌^◌, ◌<◌, ◌≤◌, Fits, w64, arith}
use Rattle.std.proofs.Math.Nat.{mod-lt, one-le-pow}
use Rattle.std.proofs.Math.Pow.{pow_mono}

-- one that is shifted by few bits
pub shifted : (k : ℕ) → k ≤ 61 → 1 * 2 ^ k % 18446744073709551616 ≡ 2 ^ k
shifted k le = let most : 2 ^ k ≤ 2 ^ 61 = pow_mono le in let x = 2 ^ k in omega arith

-- eights of bytes of a place fit a number of 64 bits
pub eight_places : (lsn k : ℕ) → k ≤ 61 → Fits w64 (8 * (lsn % (1 * 2 ^ k % 18446744073709551616)))
eight_places lsn k le =
    let most : 2 ^ k ≤ 2 ^ 61 = pow_mono le in
    let some : 1 ≤ 2 ^ k = one-le-pow k 2 (omega arith) in
    let e = shifted k le in
    let lt : lsn % (2 ^ k) < 2 ^ k = mod-lt lsn (omega arith) in
    rw e (omega arith)
