-- Behind a rotation a history begins anew.
use Rattle.std.proofs.Common.{ℕ, ℤ, List, [], ◌∷◌}
use Rattle.tab_history.specs.Bases.{Base}
use Rattle.tab_history.specs.Histories.{clock_of, journal}
use Rattle.tab_history.specs.Readings.{has_user, user_count, held_auths, has_system_right, has_table_right, table_count, settings_of, next_number, updates_of}
use Rattle.tab_history.specs.declared.event.Act.TheVariants.{Rotate}
use Rattle.tab_history.specs.declared.reply.Reply.TheVariants.{Done}
use Rattle.tab_store.specs.Stores.{CoreContents}
use Rattle.tab_core.specs.Recording.{RefinesHistory, entry_of}
use Rattle.tab_core.specs.Rotating.{raised}
use Rattle.tab_core.specs.Stepping.{asked_at}

-- A rotation changes nothing but the clock, which no other reading of a base looks at.
pub begun_anew : (core : CoreContents) (base : Base) (user : List ℕ) (moment : ℤ) → RefinesHistory core base (entry_of (asked_at user moment Rotate) Done ∷ []) → RefinesHistory core (raised moment base) []
unfolding RefinesHistory clock_of journal has_user user_count held_auths has_system_right has_table_right table_count settings_of next_number updates_of
begun_anew core base user moment refines = record {
  reads = record {
    clock = refines.reads.clock;
    next = refines.reads.next;
    users = refines.reads.users;
    tables = refines.reads.tables;
    known = refines.reads.known;
    auths = refines.reads.auths;
    system = refines.reads.system;
    rights = refines.reads.rights;
    settings = refines.reads.settings;
  };
  tables = refines.tables;
}
