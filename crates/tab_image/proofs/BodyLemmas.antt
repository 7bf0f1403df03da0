-- What stands behind the version, read part by part.
use Rattle.std.proofs.Common.{ℕ, ℤ, List}
use Rattle.tab_io.specs.declared.reading.Input.{Ghosts}
use Rattle.tab_codec.specs.Reading.{u64_at, i64_at}
use Rattle.tab_image.specs.declared.table.ImageTable.{ImageTable}
use Rattle.tab_image.specs.declared.user.ImageUser.{ImageUser}
use Rattle.tab_image.specs.Reading.{users_at, tables_at, mark_at, body_at}
use Rattle.tab_image.specs.Streams.{HasRead}
use Rattle.tab_image.proofs.Streams.{read_then, read_made}

module _ {R : Type 0} (g : Ghosts R) (version : ℕ) where
  pub body_read : (s0 s1 s2 s3 s4 s5 : R) (c : ℤ) (n : ℕ) (us : List ImageUser) (ts : List ImageTable)
      → HasRead g s0 s1 i64_at c → HasRead g s1 s2 u64_at n → HasRead g s2 s3 users_at us → HasRead g s3 s4 (tables_at version) ts → HasRead g s4 s5 mark_at tt
      → HasRead g s0 s5 (body_at version) (record { clock = c; next = n; users = us; tables = ts })
  unfolding body_at
  body_read s0 s1 s2 s3 s4 s5 c n us ts p0 p1 p2 p3 p4 =
      read_then g s0 s1 s5 i64_at _ c _ p0 (read_then g s1 s2 s5 u64_at _ n _ p1 (read_then g s2 s3 s5 users_at _ us _ p2 (read_then g s3 s4 s5 (tables_at version) _ ts _ p3 (read_then g s4 s5 s5 mark_at _ tt _ p4 (read_made g s5 _)))))
