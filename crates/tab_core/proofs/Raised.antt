-- A core whose clock is set to a later moment.
use Rattle.std.proofs.Common.{arith}
use Rattle.std.specs.Prelude.{ℤ}
use Rattle.std.specs.Int.{int_max}
use Rattle.tab_history.specs.Readings.{has_user, has_system_right, settings_of}
use Rattle.tab_history.proofs.GoOn.{max_left}
use Rattle.tab_history.proofs.Refines.{floor_later}
use Rattle.tab_store.specs.Stores.{CoreContents}
use Rattle.tab_store.proofs.Sound.{sound_grown}
use Rattle.tab_core.specs.Stepping.{IsCore}

-- The floor of a table may rise, and nothing else that a core keeps looks at the clock.
pub core_raised : (h : CoreContents) (moment : ℤ) → IsCore h → IsCore (record h { clock = int_max h.clock moment })
unfolding has_user has_system_right settings_of
core_raised h moment core = record {
  store = record {
    names = core.store.names;
    tables = λ q t there.
        sound_grown t.tablets h.next h.next t.settings.versions _ _ (omega arith)
        (floor_later t.settings.time h.clock (int_max h.clock moment) t.settings.horizon (max_left h.clock moment)) (core.store.tables q t there);
    limits = core.store.limits;
    numbers = core.store.numbers;
  };
  knows = core.knows;
  limits = record {
    auths = core.limits.auths;
    rooted = record { known = core.limits.rooted.known; alone = core.limits.rooted.alone };
    root_has_all = core.limits.root_has_all;
    server_horizon = core.limits.server_horizon;
    markers = core.limits.markers;
    users = core.limits.users;
    tables = core.limits.tables;
  };
}
