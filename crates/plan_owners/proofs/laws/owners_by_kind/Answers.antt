use Rattle.plan_owners.proofs.ByKind.{in_grid, owned_as, one_kind, inside, used_by, marked, one_cluster, two_kinds}
use Rattle.plan_owners.proofs.laws.owners_by_kind.Goals as goal

pub returns : goal.returns
returns c = record {
  grid = in_grid;
  owned = owned_as;
  one_kind = one_kind;
  inside = inside;
  used = used_by;
  marked = marked;
  one_cluster = one_cluster;
  two_kinds = two_kinds;
}
