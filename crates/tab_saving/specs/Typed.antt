-- For proofs. What the types of a core's parts say of them, and what is counted as they are written: what an image asks for beyond what a core keeps.
use Rattle.std.specs.Prelude.{ℕ, ◌≡◌, ◌<◌, ◌^◌, List, length, true, FitsSigned}
use Rattle.std.specs.Int.{w64}
use Rattle.std.specs.List.{AllByRecursion}
use Rattle.tab_key.specs.Encoding.{FitsNumbers}
use Rattle.tab_key.specs.Names.{IsName}
use Rattle.tab_key.specs.Records.{Record}
use Rattle.tab_key.specs.Sorted.{sorted}
use Rattle.tab_label.specs.Sets.{IsRising}
use Rattle.tab_policy.specs.State.{State, auths_of}
use Rattle.tab_rules.specs.Constraints.{constraint_set_of}
use Rattle.tab_history.specs.Settings.{Settings, is_version_count}
use Rattle.tab_store.specs.ByRow.{records_of_all}
use Rattle.tab_store.specs.Stores.{TableContents, CoreContents}
use Rattle.tab_saving.specs.ImageOf.{user_names}

-- a user's name is one, and his authorizations are a set
pub record IsTypedUser (s : State) (n : List ℕ) : Type 0 where
  pub name : IsName n
  pub rising : IsRising (auths_of s n)

-- a table's name is one, it keeps 1 to 1,000 versions, its constraints are in the one form of their set, and its horizon is of its width
pub record IsTypedHead (n : List ℕ) (settings : Settings) : Type 0 where
  pub name : IsName n
  pub versions : is_version_count settings.versions ≡ true
  pub constraints : constraint_set_of settings.constraints ≡ settings.constraints
  pub horizon : FitsSigned w64 settings.horizon

-- a record's numbers are of their widths
abbrev pub IsTypedRecord : Record → Type 0
IsTypedRecord u = FitsNumbers u.key.timestamp u.seq u.idx

-- those of each record are, and there are fewer than 2^64 records
pub record AreTypedRecords (us : List Record) : Type 0 where
  pub numbers : AllByRecursion IsTypedRecord us
  pub few : length us < 2 ^ 64

pub record IsTypedTable (t : TableContents) : Type 0 where
  pub head : IsTypedHead t.name t.settings
  pub records : AreTypedRecords (sorted (records_of_all t.tablets))

-- the clock and the next number of a core are of their widths
pub record AreTypedClocks (h : CoreContents) : Type 0 where
  pub clock : FitsSigned w64 h.clock
  pub next : h.next < 2 ^ 64

-- a core's clocks, users and tables are of their types, and no table has too many records
pub record IsTyped (h : CoreContents) : Type 0 where
  pub clocks : AreTypedClocks h
  pub users : AllByRecursion (IsTypedUser h.policy) (user_names h.policy)
  pub tables : AllByRecursion IsTypedTable h.tables
