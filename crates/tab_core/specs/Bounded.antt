-- For proofs. The limits that a core keeps to beside those of its tables, which an image of it asks for.
use Rattle.std.specs.Prelude.{ℕ, ◌≡◌, ◌<◌, ◌^◌, List, [], true, false, length, Contains, Some}
use Rattle.std.specs.List.{AllByRecursion}
use Rattle.tab_key.specs.Records.{Record}
use Rattle.tab_key.specs.declared.key.Kind.TheVariants.{Delete}
use Rattle.tab_mutation.specs.Mutations.{IsBare}
use Rattle.tab_policy.specs.Roots.{root}
use Rattle.tab_policy.specs.State.{user_count, auths_of, system_granted}
use Rattle.tab_policy.specs.declared.permission.SystemPermission.{SystemPermission}
use Rattle.tab_history.specs.Checks.{too_many_auths}
use Rattle.tab_history.specs.Readings.{settings_of}
use Rattle.tab_history.specs.Rooted.{IsRooted}
use Rattle.tab_history.specs.Settings.{Settings, least}
use Rattle.tab_history.specs.declared.event.TimeMode.TheVariants.{Server}
use Rattle.tab_history.specs.declared.event.Act.{Act}
use Rattle.tab_history.specs.declared.event.Act.TheVariants.{Write}
use Rattle.tab_store.specs.ByRow.{records_of_all}
use Rattle.tab_store.specs.Stores.{TableContents, CoreContents, base_of, table_in}

-- a marker has no value
abbrev pub IsBareRecord : Record → Type 0
IsBareRecord u = u.kind ≡ Delete → u.value ≡ []

-- Each user's authorizations are within their limits; root is there, has all system permissions, and it alone may grant them; no table
-- that gives its timestamps has a horizon; no marker has a value; and there are fewer than 2^32 users, and fewer than 2^32 tables.
pub record IsBounded (h : CoreContents) : Type 0 where
  pub auths : (n : List ℕ) → too_many_auths (auths_of h.policy n) ≡ false
  pub rooted : IsRooted (base_of h) []
  pub root_has_all : (p : SystemPermission) → system_granted h.policy root p ≡ true
  pub server_horizon : (q : List ℕ) (s : Settings) → settings_of (base_of h) [] q ≡ Some s → s.time ≡ Server → s.horizon ≡ least
  pub markers : (q : List ℕ) (t : TableContents) → table_in h q ≡ Some t → (u : Record) → Contains (records_of_all t.tablets) u → IsBareRecord u
  pub users : user_count h.policy < 2 ^ 32
  pub tables : length h.tables < 2 ^ 32

-- no marker that an act writes has a value
abbrev pub WritesBare : Act → Type 0
WritesBare (Write t m) = AllByRecursion IsBare m.updates
WritesBare _ = Unit {0}
