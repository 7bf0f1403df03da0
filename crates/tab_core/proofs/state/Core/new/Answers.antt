use Rattle.std.proofs.Common.{refl, ap, map}
use Rattle.tab_history.proofs.NewCore.{new_core_refines}
use Rattle.tab_store.specs.Stores.{base_table_of}
use Rattle.tab_core.proofs.Steps.{new_is_core}
use Rattle.tab_core.proofs.state.Core.new.Goals as goal

pub returns-clause-new : goal.returns-clause-new
returns-clause-new c = record {
  base = record {
    clock = refl;
    next = refl;
    tables = ap (map base_table_of) c.new-2.ensures;
    users = c.in_ok-new.ensures.users;
    count = c.in_ok-new.ensures.count;
    auths = c.in_ok-new.ensures.auths;
    system = c.in_ok-new.ensures.system;
    rights = c.in_ok-new.ensures.rights;
  };
  tablet = refl;
  job = refl;
}

pub returns-clause-refines : goal.returns-clause-refines
returns-clause-refines c = new_core_refines _ (returns-clause-new c).base

pub invariant_of-result : goal.invariant_of-result
invariant_of-result c = new_is_core _ (returns-clause-new c) c.in_ok-new.ensures.tables
