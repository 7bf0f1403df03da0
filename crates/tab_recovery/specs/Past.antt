-- For proofs. What a crash may leave now is among what it may have left since, and the last of that.
use Rattle.std.specs.Prelude.{ℕ, suc, ◌≤◌, List, [], ◌∷◌, length}
use Rattle.std.proofs.Common.{inl, inr, arith}
use Rattle.tab_recovery.specs.Calls.{Call, MayLeave, LeftSince}

pub counts_now : (calls : List Call) (t : ℕ) (c : List ℕ) → t ≤ length calls → MayLeave calls c → LeftSince calls t c
counts_now [] t c le now = (le, now)
counts_now (call ∷ earlier) t c le now = inl (le, now)

pub not_later : (calls : List Call) (t : ℕ) (c : List ℕ) → LeftSince calls t c → t ≤ length calls
not_later [] t c left = left.0
not_later (call ∷ earlier) t c (inl now) = now.0
not_later (call ∷ earlier) t c (inr before) = let le = not_later earlier t c before in omega (arith, le)

pub only_now : (calls : List Call) (c : List ℕ) → LeftSince calls (length calls) c → MayLeave calls c
only_now [] c left = left.1
only_now (call ∷ earlier) c (inl now) = now.1
only_now (call ∷ earlier) c (inr before) = absurd (omega (arith, not_later earlier (suc (length earlier)) c before))
