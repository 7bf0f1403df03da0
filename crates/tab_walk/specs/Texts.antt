-- To be believed by whoever relies on it. A text for each thing that an image says.
use Rattle.std.specs.Prelude.{ℕ, ℤ, List, Bool}
use Rattle.tab_policy.specs.declared.permission.SystemPermission.{SystemPermission}
use Rattle.tab_policy.specs.declared.permission.TablePermission.{TablePermission}
use Rattle.tab_image.specs.declared.table.TableHead.{TableHead}
use Rattle.tab_image.specs.declared.table.ImageTable.{ImageTable}

-- of a user's name, his authorizations, and a system permission that he holds; of a table as it is made, its constraints and its horizon, a row
-- behind which it is split, a permission on it with whether this user holds it, and its records
pub record Texts : Type 0 where
  pub user : List ℕ → List ℕ
  pub authorizations : List ℕ → List (List ℕ) → List ℕ
  pub system : List ℕ → SystemPermission → List ℕ
  pub table : TableHead → List ℕ
  pub constraints : TableHead → List ℕ
  pub horizon : List ℕ → ℤ → List ℕ
  pub split : List ℕ → List ℕ → List ℕ
  pub right : List ℕ → List ℕ → TablePermission → Bool → List ℕ
  pub records : ImageTable → List ℕ
