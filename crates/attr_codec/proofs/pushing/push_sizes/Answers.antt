use Rattle.attr_codec.proofs.Pushed.{sizes_pushed}
use Rattle.attr_codec.proofs.pushing.push_sizes.Goals as goal

pub returns : goal.returns
returns c =
    sizes_pushed c.args.out.now.items _ _ _ _ _ _ _ _ _ c.args.sizes.now c.args.at c.in_ok-push_u64.ensures c.in_ok-push_u64-2.ensures c.in_ok-push_u16.ensures c.in_ok-push_u16-2.ensures c.in_ok-push_zeros.ensures
    c.in_ok-push_u64-3.ensures c.in_ok-push_u64-4.ensures c.in_ok-push_u64-5.ensures c.in_ok-push_held.ensures
