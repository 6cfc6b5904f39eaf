use Rattle.std.proofs.Common.{refl, ◌+◌, drop, ◌∙◌, arith, Ok, Err}
use Rattle.txn_mount.specs.Puts.{items_of}
use Rattle.txn_mount.proofs.Items.{may_item, rest_items, put_then, put_stops, none_more, drop_none}
use Rattle.txn_mount.proofs.puts.write_outs.Goals as goal

pub loop-key-init : goal.loop-key-init
loop-key-init g c = (λ result new puts. puts, refl, refl)

pub write_one-requires : goal.write_one-requires
write_one-requires g c = may_item _ _ c.args.bodies.now c.args.keys.now c.loop-key.key-index _ c.index-bodies-key.result c.requires c.loop-key-test.true c.index-bodies-key.is c.loop-key.invariant.1

pub returns-in-Err-clause-put : goal.returns-in-Err-clause-put
returns-in-Err-clause-put g c =
    c.loop-key.invariant.0 (Err c.in-Err.fault) c.write_one.new.device
    (put_stops g.D.Device.gives g.D.Device.changes_of g.D.Device.moment_of (items_of c.args.bodies.now (drop c.loop-key.key-index c.args.keys.now)) (items_of c.args.bodies.now (drop (c.loop-key.key-index + 1) c.args.keys.now)) c.index-bodies-key.result
    c.loop-key.device c.write_one.new.device c.in-Err.fault (rest_items _ c.args.bodies.now c.args.keys.now c.loop-key.key-index _ c.index-bodies-key.result c.requires c.loop-key-test.true c.index-bodies-key.is) c.in-Err.ensures.put)

pub loop-key-preserved : goal.loop-key-preserved
loop-key-preserved g c = (
  λ result new puts.
      c.loop-key.invariant.0 result new
      (put_then g.D.Device.gives g.D.Device.changes_of g.D.Device.moment_of (items_of c.args.bodies.now (drop c.loop-key.key-index c.args.keys.now)) (items_of c.args.bodies.now (drop (c.loop-key.key-index + 1) c.args.keys.now)) c.index-bodies-key.result
      c.loop-key.device c.write_one.new.device new result (rest_items _ c.args.bodies.now c.args.keys.now c.loop-key.key-index _ c.index-bodies-key.result c.requires c.loop-key-test.true c.index-bodies-key.is) c.in-Ok.ensures.put puts),
  c.write_one.ensures.sectors ∙ c.loop-key.invariant.1,
  c.in-Ok.ensures.cause.unfailed ∙ c.loop-key.invariant.2,
)

pub returns-clause-put : goal.returns-clause-put
returns-clause-put g c =
    c.loop-key.invariant.0 (Ok tt) c.loop-key.device (none_more g.D.Device.gives g.D.Device.changes_of g.D.Device.moment_of c.args.bodies.now c.args.keys.now c.loop-key.key-index c.loop-key.device (drop_none c.loop-key.key-index c.args.keys.now (let e = c.loop-key-test.false in omega (arith, e))))
