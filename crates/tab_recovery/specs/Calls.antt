-- For proofs. The calls of a file that was left or is new, and what is known of it behind them. Of a file that is written and read no clause says
-- that it is so.
use Rattle.std.specs.Prelude.{⊤, ◌⊎◌, ◌≡◌, ℕ, suc, ◌≤◌, nat_lt, Bool, true, false, ◌&&◌, ◌||◌, cond, List, [], ◌∷◌, ◌++◌, length, take}
use Rattle.tab_journal.specs.Device.{Torn}
use Rattle.tab_recovery.specs.Cutting.{Cut}
use Rattle.tab_recovery.specs.declared.file_call.Asked.{Asked}
use Rattle.tab_recovery.specs.declared.file_call.Asked.TheVariants.{Found, Read, Append, Cut as CutTo, Sync}

-- what was asked, whether it went well, and the bytes that were read or were to be put
abbrev pub Call : Type 0
Call = Asked × Bool × List ℕ

-- the bytes that are known to be there behind a call
abbrev pub seen_after : Asked → Bool → List ℕ → List ℕ → List ℕ
seen_after Found ok bytes seen = bytes
seen_after (Read n) ok bytes seen = cond ok (seen ++ bytes) seen
seen_after Append ok bytes seen = cond ok (seen ++ bytes) seen
seen_after (CutTo n) ok bytes seen = cond ok (take n seen) seen
seen_after Sync ok bytes seen = seen

-- what a crash may leave behind a call: where bytes were found or read, whatever; where some were put or cut off, something of that, though the call failed
abbrev pub left_after : Asked → Bool → List ℕ → List ℕ → (List ℕ → Type 0) → List ℕ → Type 0
left_after Found ok bytes seen old c = ⊤
left_after (Read n) ok bytes seen old c = ⊤
left_after Append ok bytes seen old c = (d : List ℕ) × old d × Torn (length seen) (length bytes) d c
left_after (CutTo n) ok bytes seen old c = (d : List ℕ) × old d × Cut n d c
left_after Sync true bytes seen old c = c ≡ seen
left_after Sync false bytes seen old c = old c

-- Of an empty file behind these calls, of which the newest comes first: the bytes that are known to be there, what a crash may leave, whether no call has
-- failed, whether it was read to its end, and how many calls have failed.
abbrev pub seen_behind : List Call → List ℕ
seen_behind [] = []
seen_behind (call ∷ earlier) = seen_after call.0 call.1 call.2 (seen_behind earlier)

abbrev pub MayLeave : List Call → List ℕ → Type 0
MayLeave [] c = c ≡ []
MayLeave (call ∷ earlier) c = left_after call.0 call.1 call.2 (seen_behind earlier) (MayLeave earlier) c

abbrev pub is_usable_behind : List Call → Bool
is_usable_behind [] = true
is_usable_behind (call ∷ earlier) = is_usable_behind earlier && call.1

-- whether it was read to its end: as many bytes as were asked for were no more there
abbrev pub ends_after : Asked → Bool → List ℕ → Bool
ends_after (Read n) ok bytes = ok && nat_lt (length bytes) n
ends_after asked ok bytes = false

abbrev pub is_read_behind : List Call → Bool
is_read_behind [] = false
is_read_behind (call ∷ earlier) = ends_after call.0 call.1 call.2 || is_read_behind earlier

abbrev pub faults_behind : List Call → ℕ
faults_behind [] = 0
faults_behind (call ∷ earlier) = cond call.1 (faults_behind earlier) (suc (faults_behind earlier))

-- what a crash may have left behind one of the calls, from the t-th on
abbrev pub LeftSince : List Call → ℕ → List ℕ → Type 0
LeftSince [] t c = (t ≤ 0) × MayLeave [] c
LeftSince (call ∷ earlier) t c = ((t ≤ suc (length earlier)) × MayLeave (call ∷ earlier) c) ⊎ LeftSince earlier t c
