-- For proofs. The calls of a device, and what is known of its file behind them. Of a file that is written and read no clause says that it is so.
use Rattle.std.specs.Prelude.{◌⊎◌, ℕ, zero, suc, ◌+◌, ◌≤◌, Bool, true, ◌&&◌, cond, List, [], ◌∷◌, ◌++◌, length}
use Rattle.tab_journal.specs.Crashes.{HasFirst}

-- which call it was, whether it went well, and the bytes that were to be put
abbrev pub Call : Type 0
Call = ℕ × Bool × List ℕ

abbrev pub appended : Bool → List ℕ → Call
appended ok bytes = (0, ok, bytes)

abbrev pub synced : Bool → Call
synced ok = (1, ok, [])

-- the bytes that were put, and those of them that are on the disk; how many more a call that failed may have put; whether none has failed, and how many have
pub record State : Type 0 where
  pub seen : List ℕ
  pub settled : List ℕ
  pub torn : ℕ
  pub is_usable : Bool
  pub faults : ℕ

abbrev pub counted : Bool → ℕ → ℕ
counted ok faults = cond ok faults (suc faults)

abbrev pub after_call : ℕ → Bool → List ℕ → State → State
after_call zero ok bytes s = record {
  seen = cond ok (s.seen ++ bytes) s.seen;
  settled = s.settled;
  torn = cond ok s.torn (s.torn + length bytes);
  is_usable = s.is_usable && ok;
  faults = counted ok s.faults;
}
after_call (suc n) ok bytes s = record s { settled = cond ok s.seen s.settled; is_usable = s.is_usable && ok; faults = counted ok s.faults }

-- an empty file behind these calls, of which the newest comes first
abbrev pub state_behind : List Call → State
state_behind [] = record { seen = []; settled = []; torn = 0; is_usable = true; faults = 0 }
state_behind (call ∷ earlier) = after_call call.0 call.1 call.2 (state_behind earlier)

-- what a crash may leave: what is on the disk, and behind it any bytes, up to as many as were put
abbrev pub MayLeave : State → List ℕ → Type 0
MayLeave s c = HasFirst (length s.settled) s.settled c × (length c ≤ length s.seen + s.torn)

-- what a crash may have left behind one of the calls, from the t-th on
abbrev pub LeftSince : List Call → ℕ → List ℕ → Type 0
LeftSince [] t c = (t ≤ 0) × MayLeave (state_behind []) c
LeftSince (call ∷ earlier) t c = ((t ≤ suc (length earlier)) × MayLeave (state_behind (call ∷ earlier)) c) ⊎ LeftSince earlier t c
