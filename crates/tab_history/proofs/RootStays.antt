-- Root stays a user, and the only one who may grant system permissions.
use Rattle.std.proofs.Common.{◌≡◌, ◌⊎◌, ℕ, List, [], ◌∷◌, ◌++◌, Bool, true, false, cond, ◌&&◌, ◌||◌, not, refl}
use Rattle.std.specs.Prelude.{ℤ, bytes_eq, Option, None}
use Rattle.tab_policy.specs.declared.permission.SystemPermission.{SystemPermission}
use Rattle.tab_policy.specs.declared.permission.SystemPermission.TheVariants as system
use Rattle.tab_policy.specs.declared.permission.Permission.TheVariants.{OfSystem, OfTable}
use Rattle.tab_policy.specs.Permissions.{same_system}
use Rattle.tab_policy.specs.Roots.{root}
use Rattle.tab_mutation.specs.Shape.{first_some, when}
use Rattle.tab_history.specs.declared.event.Act.{Act}
use Rattle.tab_history.specs.declared.event.Act.TheVariants.{Write, CreateTable, DropTable, SetConstraints, SetVersions, SetHorizon, CreateUser, DropUser, SetAuths, Grant, Revoke}
use Rattle.tab_history.specs.declared.reply.Refusal.TheVariants.{NoUser, RootFixed, GrantInvalid}
use Rattle.tab_history.specs.Bases.{Base, new_core}
use Rattle.tab_history.specs.Changes.{Change, UserMade, UserDropped, SystemGiven, SystemTaken, changes_of}
use Rattle.tab_history.specs.Readings.{has_user, has_system_right, may_system}
use Rattle.tab_history.specs.Checks.{Caller, standing, exists_in, user_named, is_grant, refusal_of}
use Rattle.tab_history.specs.Histories.{Entry, World, clock_of, clock_at, journal}
use Rattle.tab_history.specs.Legal.{IsAnswer, LacksMemory, Legal, LegalAlone}
use Rattle.tab_history.specs.Rooted.{IsRooted, RootStays}
use Rattle.tab_history.proofs.Options.{or_else_left, or_else_right}
use Rattle.tab_history.proofs.Accepted.{own_pass, of_legal}
use Rattle.tab_history.proofs.NewCore.{new_user, new_system}

-- ---- one change
-- root isn't dropped, and the permission to grant isn't given
abbrev Keeps : Change → Type 0
Keeps (UserDropped m) = bytes_eq m root ≡ false
Keeps (SystemGiven m q) = is_grant q ≡ false
Keeps _ = Unit {0}

abbrev KeepAll : List Change → Type 0
KeepAll [] = Unit {0}
KeepAll (x ∷ xs) = KeepAll xs × Keeps x

other_right : (q : SystemPermission) → is_grant q ≡ false → same_system q system.Grant ≡ false
other_right system.Grant e = absurd (cc)
other_right system.CreateTable e = refl
other_right system.DropTable e = refl
other_right system.AlterTable e = refl
other_right system.CreateUser e = refl
other_right system.DropUser e = refl
other_right system.AlterUser e = refl
other_right system.System e = refl

made : (v : Bool) → cond v true true ≡ true
made true = refl
made false = refl

-- what is taken from another one
lessened : (r v x : Bool) → r || x ≡ r → r || cond v false x ≡ r
lessened true v x e = refl
lessened false true x e = refl
lessened false false x e = e

-- what isn't given
not_given : (r v x : Bool) → r || x ≡ r → r || cond (v && false) true x ≡ r
not_given r true x e = e
not_given r false x e = e

module _ (b : Base) (j : List Change) (h : IsRooted b j) where
  known_more : (x : Change) → Keeps x → has_user b (x ∷ j) root ≡ true
  unfolding has_user
  known_more (UserMade m) k = rw h.known (made (bytes_eq m root))
  known_more (UserDropped m) k = rw k h.known
  known_more _ k = h.known

  alone_more : (n : List ℕ) (x : Change) → Keeps x → may_system b (x ∷ j) n system.Grant ≡ bytes_eq n root
  unfolding has_system_right
  alone_more n (UserMade m) k = lessened (bytes_eq n root) (bytes_eq m n) (has_system_right b j n system.Grant) (h.alone n)
  alone_more n (UserDropped m) k = lessened (bytes_eq n root) (bytes_eq m n) (has_system_right b j n system.Grant) (h.alone n)
  alone_more n (SystemGiven m q) k = rw (other_right q k) (not_given (bytes_eq n root) (bytes_eq m n) (has_system_right b j n system.Grant) (h.alone n))
  alone_more n (SystemTaken m q) k = lessened (bytes_eq n root) (bytes_eq m n && same_system q system.Grant) (has_system_right b j n system.Grant) (h.alone n)
  alone_more n _ k = h.alone n

all_more : (b : Base) (j xs : List Change) → KeepAll xs → IsRooted b j → IsRooted b (xs ++ j)
all_more b j [] k h = h
all_more b j (x ∷ xs) k h = let g = all_more b j xs k.0 h in record { known = known_more b (xs ++ j) g x k.1; alone = λ n. alone_more b (xs ++ j) g n x k.1 }

-- ---- one event
unless : {X : Type 0} (v : Bool) (x : X) → when v x ≡ None → v ≡ false
unless true x e = absurd (cc)
unless false x e = refl

-- the last of some checks passed
alone_passed : {X : Type 0} (o : Option X) → first_some (o ∷ []) ≡ None → o ≡ None
alone_passed o e = or_else_left o _ e

act_keeps : (c : Caller) (there : Bool) (now : ℤ) (user : List ℕ) (act : Act) → refusal_of c there now user act ≡ None → KeepAll (changes_of now user act)
act_keeps c there now user (Write t m) e = (tt, tt)
act_keeps c there now user (CreateTable t time n) e = ((((((tt, tt), tt), tt), tt), tt), tt)
act_keeps c there now user (DropTable t) e = (tt, tt)
act_keeps c there now user (SetConstraints t cs) e = (tt, tt)
act_keeps c there now user (SetVersions t many) e = (tt, tt)
act_keeps c there now user (SetHorizon t low) e = (tt, tt)
act_keeps c there now user (CreateUser n) e = (tt, tt)
act_keeps c there now user (DropUser n) e = (tt, unless (bytes_eq n root) RootFixed (alone_passed _ (or_else_right (when (not there) (NoUser n)) _ (own_pass c there now user (DropUser n) e))))
act_keeps c there now user (SetAuths n auths) e = (tt, tt)
act_keeps c there now user (Grant n (OfSystem p)) e = (tt, unless (is_grant p) GrantInvalid (or_else_left _ _ (own_pass c there now user (Grant n (OfSystem p)) e)))
act_keeps c there now user (Grant n (OfTable p t)) e = (tt, tt)
act_keeps c there now user (Revoke n (OfSystem p)) e = (tt, tt)
act_keeps c there now user (Revoke n (OfTable p t)) e = (tt, tt)
act_keeps c there now user act e = tt

-- ---- histories
entry_keeps : (w : World) (es own : List Entry) (e : Entry) → IsAnswer w es own e.step e.reply ⊎ LacksMemory e.step e.reply → IsRooted w.base (journal w es) → IsRooted w.base (journal w (e ∷ es))
unfolding journal
entry_keeps w es own e a h = all_more w.base (journal w es) _ (of_legal w es own e.step e.reply KeepAll tt (λ f passed. act_keeps (standing w.base (journal w es) f.user) (exists_in w.base (journal w es) (user_named f.act)) (clock_at (clock_of w es) e.step) f.user f.act passed) a) h

legal_keeps : (w : World) → IsRooted w.base w.changes → (es : List Entry) → Legal w es → IsRooted w.base (journal w es)
unfolding journal
legal_keeps w h [] l = h
legal_keeps w h (e ∷ es) l = entry_keeps w es es e l.1 (legal_keeps w h es l.0)

alone_keeps : (w : World) → IsRooted w.base w.changes → (es : List Entry) → LegalAlone w es → IsRooted w.base (journal w es)
unfolding journal
alone_keeps w h [] l = h
alone_keeps w h (e ∷ es) l = entry_keeps w es [] e l.1 (alone_keeps w h es l.0)

same_twice : (v : Bool) → v || v ≡ v
same_twice true = refl
same_twice false = refl

new_core_rooted : IsRooted new_core []
unfolding has_user has_system_right
new_core_rooted = record { known = new_user root; alone = λ n. rw (new_system n system.Grant) (same_twice (bytes_eq n root)) }

pub root_stays : RootStays
root_stays = (new_core_rooted, λ w h es. (legal_keeps w h es, alone_keeps w h es))
