-- To be believed. Mutations, as contracts see them. (Accumulo user manual: mutations)
use Rattle.std.specs.Prelude.{ℕ, ℤ, ◌≡◌, List, [], ◌∷◌, ◌++◌, Option}
use Rattle.tab_key.specs.declared.key.Kind.{Kind}
use Rattle.tab_key.specs.declared.key.Kind.TheVariants.{Delete, Put}

-- a put or a delete of one column; without a timestamp the server gives one, and a delete's value is empty
pub record Update : Type 0 where
  pub kind : Kind
  pub family : List ℕ
  pub qualifier : List ℕ
  pub label : List ℕ
  pub timestamp : Option ℤ
  pub value : List ℕ

-- the put of a value
abbrev pub put_update : List ℕ → List ℕ → List ℕ → Option ℤ → List ℕ → Update
put_update family qualifier label timestamp value = record { kind = Put; family = family; qualifier = qualifier; label = label; timestamp = timestamp; value = value }

-- the delete of a column
abbrev pub delete_update : List ℕ → List ℕ → List ℕ → Option ℤ → Update
delete_update family qualifier label timestamp = record { kind = Delete; family = family; qualifier = qualifier; label = label; timestamp = timestamp; value = [] }

-- a row and its updates, in the order in which they were added
pub record Mutation : Type 0 where
  pub row : List ℕ
  pub updates : List Update

-- a delete marker has no value
abbrev pub IsBare : Update → Type 0
IsBare u = u.kind ≡ Delete → u.value ≡ []

-- the mutation with one more update at the end
abbrev pub with_update : Mutation → Update → Mutation
with_update m u = record m { updates = m.updates ++ u ∷ [] }
