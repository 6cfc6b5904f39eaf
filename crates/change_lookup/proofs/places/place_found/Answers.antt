use Rattle.std.proofs.Common.{rules, ◌∙◌}
use Rattle.tree_lookup.proofs.Ways.{directory_known}
use Rattle.change_lookup.proofs.Coming.{front_names, kind_known, place_found_known}
use Rattle.tree_lookup.specs.tree_model.Refusals.{parent_path}
use Rattle.change_lookup.proofs.places.place_found.Goals as goal

pub reached_directory-requires : goal.reached_directory-requires
reached_directory-requires g c = record { names = rw c.parent_path.ensures (front_names c.args.path.now (search rules)) }

pub place_there-requires-clause-kind : goal.place_there-requires-clause-kind
place_there-requires-clause-kind g c =
    rw c.in_ok-directory.ensures.asks.same (kind_known (g.C.Lookup.tree c.args.tree.now) (g.C.Lookup.upper c.args.tree.now) (parent_path c.args.path.now) c.in-Ok.directory (rw c.in-Ok.is at (rw c.parent_path.ensures at c.in_ok-directory.ensures.value)))

pub place_there-requires-clause-directory : goal.place_there-requires-clause-directory
place_there-requires-clause-directory g c =
    rw c.in_ok-directory.ensures.asks.same (directory_known (g.C.Lookup.tree c.args.tree.now) (g.C.Lookup.upper c.args.tree.now) (parent_path c.args.path.now) c.in-Ok.directory (rw c.in-Ok.is at (rw c.parent_path.ensures at c.in_ok-directory.ensures.value)))

pub returns-in-Ok-clause-value : goal.returns-in-Ok-clause-value
returns-in-Ok-clause-value g c =
    place_found_known (g.C.Lookup.tree c.args.tree.now) (g.C.Lookup.upper c.args.tree.now) c.args.path.now c.in_ok-name.name c.in-Ok.directory c.place_there.result (search rules) (c.in_ok-name.ensures.name ∙ c.new_name.ensures) (rw c.in-Ok.is at (rw c.parent_path.ensures at c.in_ok-directory.ensures.value))
    (rw c.in_ok-directory.ensures.asks.same at (rw c.in_ok-directory.ensures.asks.table at (c.place_there.ensures.value c.args.path.now)))
