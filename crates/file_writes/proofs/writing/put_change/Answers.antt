use Rattle.file_puts.specs.data_plan.declared.change.DataChange.TheVariants as change
use Rattle.file_writes.proofs.Cases.{in_stays_held, in_stays_room, in_leaves_held, in_leaves_ready, in_leaves_room, in_grows_ready, in_grows_room, in_grows_lies, in_grows_ends, in_grows_initialised, in_cut_ready, in_cut_room, in_sized, in_sized_room, in_sized_ends, in_sized_initialised}
use Rattle.file_writes.proofs.Joins.{change_put, sized_put}
use Rattle.file_writes.proofs.writing.put_change.Goals as goal

pub put_value-requires-clause-held : goal.put_value-requires-clause-held
put_value-requires-clause-held g c = in_stays_held c.requires.may.0 c.args.number c.args.streams.now c.requires.change.0 c.args.file.now c.args.op.now c.args.node.now c.args.change.now c.requires.may.1 c.requires.change.1 c.requires.ready c.in-Stays.size c.in-Stays.is

pub put_value-requires-clause-room : goal.put_value-requires-clause-room
put_value-requires-clause-room g c = in_stays_room c.requires.may.0 c.args.number c.args.streams.now c.requires.change.0 c.args.file.now c.args.op.now c.args.node.now c.args.change.now c.requires.may.1 c.requires.change.1 c.requires.ready c.in-Stays.size c.in-Stays.is

pub returns-in-Stays-clause-put : goal.returns-in-Stays-clause-put
returns-in-Stays-clause-put g c =
    change_put _ (g.V.View.content c.args.draft.now.view.now) c.args.streams.now c.args.number c.args.op.now c.args.node.now c.args.stamp c.args.file.now (change.Stays c.in-Stays.size) c.args.change.now c.args.draft.now.touched.items _ c.in-Stays.is c.put_value.ensures.put

pub put_leaving-requires-clause-held : goal.put_leaving-requires-clause-held
put_leaving-requires-clause-held g c = in_leaves_held c.requires.may.0 c.args.number c.args.streams.now c.requires.change.0 c.args.file.now c.args.op.now c.args.node.now c.args.change.now c.requires.may.1 c.requires.change.1 c.requires.ready c.in-Leaves.z c.in-Leaves.is

pub put_leaving-requires-clause-ready : goal.put_leaving-requires-clause-ready
put_leaving-requires-clause-ready g c = in_leaves_ready c.requires.may.0 c.args.number c.args.streams.now c.requires.change.0 c.args.file.now c.args.op.now c.args.node.now c.args.change.now c.requires.may.1 c.requires.change.1 c.requires.ready c.in-Leaves.z c.in-Leaves.is

pub put_leaving-requires-clause-room : goal.put_leaving-requires-clause-room
put_leaving-requires-clause-room g c = in_leaves_room c.requires.may.0 c.args.number c.args.streams.now c.requires.change.0 c.args.file.now c.args.op.now c.args.node.now c.args.change.now c.requires.may.1 c.requires.change.1 c.requires.ready c.in-Leaves.z c.in-Leaves.is

pub returns-in-Leaves-clause-put : goal.returns-in-Leaves-clause-put
returns-in-Leaves-clause-put g c =
    change_put _ (g.V.View.content c.args.draft.now.view.now) c.args.streams.now c.args.number c.args.op.now c.args.node.now c.args.stamp c.args.file.now (change.Leaves c.in-Leaves.z) c.args.change.now c.args.draft.now.touched.items _ c.in-Leaves.is c.put_leaving.ensures.put

pub put_growing-requires-clause-ready : goal.put_growing-requires-clause-ready
put_growing-requires-clause-ready g c = in_grows_ready c.requires.may.0 c.args.number c.args.streams.now c.requires.change.0 c.args.file.now c.args.op.now c.args.node.now c.args.change.now c.requires.may.1 c.requires.change.1 c.requires.ready c.in-Grows.z c.in-Grows.is

pub put_growing-requires-clause-room : goal.put_growing-requires-clause-room
put_growing-requires-clause-room g c = in_grows_room c.requires.may.0 c.args.number c.args.streams.now c.requires.change.0 c.args.file.now c.args.op.now c.args.node.now c.args.change.now c.requires.may.1 c.requires.change.1 c.requires.ready c.in-Grows.z c.in-Grows.is

pub put_growing-requires-clause-lies : goal.put_growing-requires-clause-lies
put_growing-requires-clause-lies g c = in_grows_lies c.requires.may.0 c.args.number c.args.streams.now c.requires.change.0 c.args.file.now c.args.op.now c.args.node.now c.args.change.now c.requires.may.1 c.requires.change.1 c.requires.ready c.in-Grows.z c.in-Grows.is

pub put_growing-requires-clause-ends : goal.put_growing-requires-clause-ends
put_growing-requires-clause-ends g c = in_grows_ends c.requires.may.0 c.args.number c.args.streams.now c.requires.change.0 c.args.file.now c.args.op.now c.args.node.now c.args.change.now c.requires.may.1 c.requires.change.1 c.requires.ready c.in-Grows.z c.in-Grows.is

pub put_growing-requires-clause-initialised : goal.put_growing-requires-clause-initialised
put_growing-requires-clause-initialised g c = in_grows_initialised c.requires.may.0 c.args.number c.args.streams.now c.requires.change.0 c.args.file.now c.args.op.now c.args.node.now c.args.change.now c.requires.may.1 c.requires.change.1 c.requires.ready c.in-Grows.z c.in-Grows.is

pub returns-in-Grows-clause-put : goal.returns-in-Grows-clause-put
returns-in-Grows-clause-put g c =
    change_put _ (g.V.View.content c.args.draft.now.view.now) c.args.streams.now c.args.number c.args.op.now c.args.node.now c.args.stamp c.args.file.now (change.Grows c.in-Grows.z) c.args.change.now c.args.draft.now.touched.items _ c.in-Grows.is c.put_growing.ensures.put

pub put_cut-requires-clause-ready : goal.put_cut-requires-clause-ready
put_cut-requires-clause-ready g c = in_cut_ready c.requires.may.0 c.args.number c.args.streams.now c.requires.change.0 c.args.file.now c.args.op.now c.args.node.now c.args.change.now c.requires.may.1 c.requires.change.1 c.requires.ready c.in-Cut.z c.in-Cut.is

pub put_cut-requires-clause-room : goal.put_cut-requires-clause-room
put_cut-requires-clause-room g c = in_cut_room c.requires.may.0 c.args.number c.args.streams.now c.requires.change.0 c.args.file.now c.args.op.now c.args.node.now c.args.change.now c.requires.may.1 c.requires.change.1 c.requires.ready c.in-Cut.z c.in-Cut.is

pub returns-in-Cut-clause-put : goal.returns-in-Cut-clause-put
returns-in-Cut-clause-put g c =
    change_put _ (g.V.View.content c.args.draft.now.view.now) c.args.streams.now c.args.number c.args.op.now c.args.node.now c.args.stamp c.args.file.now (change.Cut c.in-Cut.z) c.args.change.now c.args.draft.now.touched.items _ c.in-Cut.is c.put_cut.ensures.put

pub put_sized-requires-clause-room : goal.put_sized-requires-clause-room
put_sized-requires-clause-room g c = in_sized_room c.requires.may.0 c.args.number c.args.streams.now c.requires.change.0 c.args.file.now c.args.op.now c.args.node.now c.args.change.now c.requires.may.1 c.requires.change.1 c.requires.ready c.in-Sized.z c.in-Sized.is

pub put_sized-requires-clause-ends : goal.put_sized-requires-clause-ends
put_sized-requires-clause-ends g c = in_sized_ends c.requires.may.0 c.args.number c.args.streams.now c.requires.change.0 c.args.file.now c.args.op.now c.args.node.now c.args.change.now c.requires.may.1 c.requires.change.1 c.requires.ready c.in-Sized.z c.in-Sized.is

pub returns-in-Sized-clause-put : goal.returns-in-Sized-clause-put
returns-in-Sized-clause-put g c =
    let sized = in_sized c.requires.may.0 c.args.number c.args.streams.now c.requires.change.0 c.args.file.now c.args.op.now c.args.node.now c.args.change.now c.requires.may.1 c.requires.change.1 c.requires.ready c.in-Sized.z c.in-Sized.is in
    change_put _ (g.V.View.content c.args.draft.now.view.now) c.args.streams.now c.args.number c.args.op.now c.args.node.now c.args.stamp c.args.file.now (change.Sized c.in-Sized.z) c.args.change.now c.args.draft.now.touched.items _ c.in-Sized.is
    (sized_put c.put_sized.result (g.V.View.content c.args.draft.now.view.now) c.args.streams.now c.args.number c.args.op.now c.args.node.now c.args.stamp c.args.file.now sized.e c.in-Sized.z c.args.draft.now.touched.items _ sized.placed (in_sized_initialised c.requires.may.0 c.args.number c.args.streams.now c.requires.change.0 c.args.file.now c.args.op.now c.args.node.now c.args.change.now c.requires.may.1 c.requires.change.1 c.requires.ready c.in-Sized.z c.in-Sized.is) sized.sized c.put_sized.ensures.put)
