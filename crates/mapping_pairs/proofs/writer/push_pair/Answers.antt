use Rattle.std.proofs.Common.{◌≡◌, pos, w64, to_z, arith}
use Rattle.std.proofs.lemmas.Int.{to_z_pos}
use Rattle.mapping_pairs.proofs.Pushing.{pair_pushed}
use Rattle.mapping_pairs.proofs.writer.push_pair.Goals as goal

pub returns : goal.returns
returns c =
    let z = to_z w64 c.args.run.now.len in
    let len_is : z ≡ pos c.args.run.now.len = to_z_pos w64 c.args.run.now.len (omega arith) in
    pair_pushed c.args.before c.args.run.now c.args.out.now.items c.push.new.self.items c.push_signed.new.out.items c.push_delta.new.out.items z c.signed_width.result c.delta_width.result len_is c.signed_width.ensures.value c.delta_width.ensures.value c.in_ok-push.ensures.items c.in_ok-push_signed.ensures c.in_ok-push_delta.ensures
