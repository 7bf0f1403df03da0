-- What an act makes of a core: exactly, and as histories read it.
use Rattle.std.proofs.Common.{◌≡◌, ◌⊎◌, inl, inr, ℕ, length, List, [], Bool, true, refl, sym, ◌∙◌, ap, Option, Some, None}
use Rattle.std.specs.Prelude.{ℤ, is_some}
use Rattle.tab_policy.specs.State.{State, Readings, readings, table_exists}
use Rattle.tab_mutation.specs.Shape.{first_some}
use Rattle.tab_history.specs.declared.event.Act.{Act}
use Rattle.tab_history.specs.declared.reply.Refusal.{Refusal}
use Rattle.tab_history.specs.declared.reply.Refusal.TheVariants.{NoMemory}
use Rattle.tab_history.specs.declared.reply.Reply.TheVariants.{Done, Refused}
use Rattle.tab_history.specs.Bases.{Base}
use Rattle.tab_history.specs.Changes.{Change}
use Rattle.tab_history.specs.Readings.{has_user, user_count, held_auths, has_system_right, has_table_right, table_count, settings_of, next_number}
use Rattle.tab_history.specs.Checks.{standing, exists_in, user_named, own_checks}
use Rattle.tab_history.specs.Answers.{Told, told, are_used_up, numbered, granted}
use Rattle.tab_history.specs.Legal.{takes_memory}
use Rattle.tab_store.specs.Parts.{TabletMerge}
use Rattle.tab_store.specs.Stores.{TableContents, CoreContents, RiseByName, base_of, tablets_in}
use Rattle.tab_store.specs.Stepping.{TableWork, work_of, told_by, laid_by, told_exactly, laid_told, tablets_numbered, LaysExactly}
use Rattle.tab_store.specs.Tables.{table_at}
use Rattle.tab_store.proofs.Changed.{count_read, tablets_same, settings_same}
use Rattle.tab_core.specs.Stepping.{Becomes, KnowsTables, IsCore, Acts, own_answer}

-- ---- as histories read it
-- what is read of users and rights after changes, beside these tables
abbrev pub read_after : Base → List Change → (List ℕ → Bool) → Readings
read_after b j tables = record { users = has_user b j; count = user_count b j; auths = held_auths b j; system = has_system_right b j; rights = has_table_right b j; tables = tables }

-- a core of which all is read as the changes say
pub becomes : (h : CoreContents) (next : ℕ) (p : State) (ts : List TableContents) (j : List Change) (tables : List ℕ → Bool) → next ≡ next_number (base_of h) j → readings p ≡ read_after (base_of h) j tables → length ts ≡ table_count (base_of h) j
    → ((q : List ℕ) → settings_of (base_of (record h { tables = ts })) [] q ≡ settings_of (base_of h) j q)
    → Becomes (base_of h) j (base_of (record h { next = next; policy = p; tables = ts }))
unfolding readings next_number has_user user_count held_auths has_system_right has_table_right settings_of
becomes h next p ts j tables numbered read count settings = record {
  clock = refl;
  next = numbered;
  users = ap (λ (r : Readings). r.count) read;
  tables = count_read (record h { next = next; policy = p; tables = ts }) ∙ count;
  known = λ n. ap (λ (r : Readings). r.users n) read;
  auths = λ n. ap (λ (r : Readings). r.auths n) read;
  system = λ n x. ap (λ (r : Readings). r.system n x) read;
  rights = λ n x t. ap (λ (r : Readings). r.rights n x t) read;
  settings = settings;
}

-- tables with the same settings
abbrev pub SetAlike : CoreContents → List TableContents → Type 0
SetAlike h ts = (q : List ℕ) → settings_of (base_of (record h { tables = ts })) [] q ≡ settings_of (base_of h) [] q

pub becomes_alike : (h : CoreContents) (ts : List TableContents) → length ts ≡ length h.tables → SetAlike h ts → Becomes (base_of h) [] (base_of (record h { tables = ts }))
unfolding readings next_number has_user user_count held_auths has_system_right has_table_right
becomes_alike h ts count settings = becomes h h.next h.policy ts [] (table_exists h.policy) refl refl (count ∙ sym (count_read h)) settings

-- the policy still knows the tables
pub knows_alike : (h : CoreContents) (ts : List TableContents) → IsCore h → SetAlike h ts → KnowsTables (record h { tables = ts })
knows_alike h ts core settings q = core.knows q ∙ sym (ap is_some (settings q))

-- ---- exactly
-- an act that passes its checks and is told Done, whatever came with it
pub given_done : (h new : CoreContents) (now : ℤ) (given : Option TabletMerge) (act : Act) (answer : Told) (work : TableWork) → work_of given act ≡ work → Done ≡ answer → Done ≡ told_by h now work Done → ((q : List ℕ) → tablets_in new q ≡ laid_by h now work Done q) → RiseByName new.tables
    → new.tablet ≡ tablets_numbered work h.tablet → new.job ≡ h.job → LaysExactly h now given act answer Done None new
given_done h new now given act answer work is passes told same names numbered jobs = record {
  answers = inl (told ∙ ap (λ w. told_by h now w Done) (sym is) ∙ ap (told_exactly h now given act) passes);
  hands = refl;
  tablets = λ q. same q ∙ ap (λ w. laid_by h now w Done q) (sym is) ∙ ap (λ a. laid_told Done h now given act a q) passes;
  names = names;
  tablet = numbered ∙ ap (λ w. tablets_numbered w h.tablet) (sym is);
  number = jobs;
}

-- the same of one with which nothing came
pub done_exactly : (h new : CoreContents) (now : ℤ) (act : Act) (answer : Told) (work : TableWork) → work_of None act ≡ work → Done ≡ answer → Done ≡ told_by h now work Done → ((q : List ℕ) → tablets_in new q ≡ laid_by h now work Done q) → RiseByName new.tables
    → new.tablet ≡ tablets_numbered work h.tablet → new.job ≡ h.job → LaysExactly h now None act answer Done None new
done_exactly h new now act answer work is passes told same names numbered jobs = given_done h new now None act answer work is passes told same names numbered jobs

-- ---- a refusal
-- tables that are read as those of the core
pub record AreAlike (h : CoreContents) (ts : List TableContents) : Type 0 where
  pub names : RiseByName ts
  pub count : length ts ≡ length h.tables
  pub same : (q : List ℕ) → table_at ts q ≡ table_at h.tables q

-- what is told of a refusal
abbrev pub refusing : Refusal → Told
refusing refusal = Refused refusal

-- whatever refuses an event, the tablets stay
laid_refused : (h : CoreContents) (now : ℤ) (given : Option TabletMerge) (act : Act) (r k : Refusal) (q : List ℕ) → laid_told (Refused r) h now given act (Refused k) q ≡ tablets_in h q
laid_refused h now given act NoMemory k q = refl
laid_refused h now given act _ k q = refl

refused_exactly : (answer : Told) (h : CoreContents) (ts : List TableContents) (now : ℤ) (given : Option TabletMerge) (act : Act) (r : Refusal) → AreAlike h ts → (Refused r ≡ answer) ⊎ ((takes_memory act ≡ true) × (r ≡ NoMemory)) → LaysExactly h now given act answer (Refused r) None (record h { tables = ts })
refused_exactly answer h ts now given act r alike is = record { answers = told_so is; hands = refl; tablets = λ q. tablets_same h (record h { tables = ts }) alike.same q ∙ laid_so is q; names = alike.names; tablet = refl; number = refl }
  where
    told_so : (Refused r ≡ answer) ⊎ ((takes_memory act ≡ true) × (r ≡ NoMemory)) → (refusing r ≡ told_exactly h now given act answer) ⊎ ((takes_memory act ≡ true) × (refusing r ≡ refusing NoMemory))
    told_so (inl e) = inl (ap (told_exactly h now given act) e)
    told_so (inr x) = inr (x.0, ap refusing x.1)

    laid_so : (Refused r ≡ answer) ⊎ ((takes_memory act ≡ true) × (r ≡ NoMemory)) → (q : List ℕ) → tablets_in h q ≡ laid_told (Refused r) h now given act answer q
    laid_so (inl e) q = sym (laid_refused h now given act r r q) ∙ ap (λ a. laid_told (Refused r) h now given act a q) e
    laid_so (inr x) q = ap (λ k. laid_told (Refused k) h now given act answer q) (sym x.1)

pub refused_alike : (answer : Told) (h : CoreContents) (ts : List TableContents) (now : ℤ) (given : Option TabletMerge) (user : List ℕ) (act : Act) (r : Refusal) → IsCore h → AreAlike h ts → (Refused r ≡ answer) ⊎ ((takes_memory act ≡ true) × (r ≡ NoMemory)) → Acts answer h now given user act (Refused r) (record h { tables = ts })
refused_alike answer h ts now given user act r core alike is =
    let settings : SetAlike h ts = settings_same h (record h { tables = ts }) alike.same in
    record { exact = refused_exactly answer h ts now given act r alike is; becomes = becomes_alike h ts alike.count settings; hands = tt; knows = knows_alike h ts core settings }

-- whatever came with it
pub given_refused : (answer : Told) (h : CoreContents) (now : ℤ) (given : Option TabletMerge) (user : List ℕ) (act : Act) (r : Refusal) → IsCore h → (Refused r ≡ answer) ⊎ ((takes_memory act ≡ true) × (r ≡ NoMemory)) → Acts answer h now given user act (Refused r) h
given_refused answer h now given user act r core is = refused_alike answer h h.tables now given user act r core (record { names = core.store.names; count = refl; same = λ q. refl }) is

pub refused : (answer : Told) (h : CoreContents) (now : ℤ) (user : List ℕ) (act : Act) (r : Refusal) → IsCore h → (Refused r ≡ answer) ⊎ ((takes_memory act ≡ true) × (r ≡ NoMemory)) → Acts answer h now None user act (Refused r) h
refused answer h now user act r core is = given_refused answer h now None user act r core is

-- memory lacked
pub given_lacked : (answer : Told) (h : CoreContents) (now : ℤ) (given : Option TabletMerge) (user : List ℕ) (act : Act) → takes_memory act ≡ true → IsCore h → Acts answer h now given user act (Refused NoMemory) h
given_lacked answer h now given user act takes core = given_refused answer h now given user act NoMemory core (inr (takes, refl))

pub lacked : (answer : Told) (h : CoreContents) (now : ℤ) (user : List ℕ) (act : Act) → takes_memory act ≡ true → IsCore h → Acts answer h now None user act (Refused NoMemory) h
lacked answer h now user act takes core = given_lacked answer h now None user act takes core

-- memory lacked, and the tables are read as they were
pub lacked_alike : (answer : Told) (h : CoreContents) (ts : List TableContents) (now : ℤ) (user : List ℕ) (act : Act) → takes_memory act ≡ true → IsCore h → AreAlike h ts → Acts answer h now None user act (Refused NoMemory) (record h { tables = ts })
lacked_alike answer h ts now user act takes core alike = refused_alike answer h ts now None user act NoMemory core alike (inr (takes, refl))

-- an event that the first failing check of its own refuses
pub own_refused : (h : CoreContents) (now : ℤ) (user : List ℕ) (act : Act) (r : Refusal) → IsCore h → first_some (own_checks (standing (base_of h) [] user) (exists_in (base_of h) [] (user_named act)) now act) ≡ Some r
    → Acts (own_answer (base_of h) now user act) h now None user act (Refused r) h
own_refused h now user act r core e = refused (own_answer (base_of h) now user act) h now user act r core (inl (sym (ap (λ o. told o (numbered (are_used_up (base_of h) [] act) (granted (standing (base_of h) [] user) act))) e)))
