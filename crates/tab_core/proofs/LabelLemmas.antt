-- The refusal of a malformed label is none just where the label reads as one.
use Rattle.std.proofs.Common.{◌≡◌, ℕ, Result, Ok, Err, None, is_ok, true, refl}
use Rattle.tab_history.specs.Checks.{malformed_at}

pub ok_none : {X : Type 0} (i : ℕ) (read : Result X ℕ) → is_ok read ≡ true → None ≡ malformed_at i read
ok_none i (Ok label) e = refl
ok_none i (Err offset) e = absurd cc

pub none_ok : {X : Type 0} (i : ℕ) (read : Result X ℕ) → malformed_at i read ≡ None → is_ok read ≡ true
none_ok i (Ok label) e = refl
none_ok i (Err offset) e = absurd cc
