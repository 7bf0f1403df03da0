-- Sessions that are opened, and what a caller is told of his rights.
use Rattle.std.proofs.Common.{◌≡◌, ◌⊎◌, inl, inr, ℕ, List, [], true, refl, sym, ◌∙◌, ap, subst, map, Option, Some, None, Result, Ok, Err}
use Rattle.std.specs.Prelude.{ℤ, IfOk, OnOk, OnErr}
use Rattle.std.specs.Option.{option_map}
use Rattle.tab_key.specs.Sorted.{sorted}
use Rattle.tab_mutation.specs.Shape.{first_some}
use Rattle.tab_policy.specs.declared.permission.SystemPermission.{SystemPermission}
use Rattle.tab_policy.specs.declared.permission.TablePermission.{TablePermission}
use Rattle.tab_policy.specs.declared.sets.SystemPermissions.{SystemPermissions}
use Rattle.tab_policy.specs.declared.sets.TablePermissions.{TablePermissions}
use Rattle.tab_policy.specs.Sets.{system_contains, table_contains}
use Rattle.tab_policy.specs.State.{auths_of, has_system, table_granted}
use Rattle.tab_session.specs.OpenSession.{OpenSession, opened}
use Rattle.tab_store.specs.Tablets.{frozen}
use Rattle.tab_history.specs.declared.event.Act.TheVariants as act
use Rattle.tab_history.specs.declared.event.Scan.{Scan}
use Rattle.tab_history.specs.declared.reply.Refusal.{Refusal}
use Rattle.tab_history.specs.declared.reply.Refusal.TheVariants.{NoMemory}
use Rattle.tab_history.specs.declared.reply.Reply.{Reply}
use Rattle.tab_history.specs.declared.reply.Reply.TheVariants.{Refused, Opened, Rights as TellsRights}
use Rattle.tab_history.specs.declared.rights.Rights.{Rights}
use Rattle.tab_history.specs.Readings.{held_auths, has_system_right, has_table_right, settings_of}
use Rattle.tab_history.specs.Checks.{standing, scan_checks}
use Rattle.tab_history.specs.Answers.{told, told_opened, session_list, listed, query_of}
use Rattle.tab_history.proofs.RightsTold.{rights_are_told}
use Rattle.tab_iter.proofs.ListLaws.{rises_none}
use Rattle.tab_store.specs.ByRow.{records_of_all, LieApart}
use Rattle.tab_store.specs.Parts.{TabletMerge}
use Rattle.tab_store.specs.Stores.{TableContents, CoreContents, base_of, table_in}
use Rattle.tab_store.specs.Stepping.{lays, told_exactly, laid_told}
use Rattle.tab_store.specs.Tables.{with_tablets, state_of, table_at, settings_at, tablets_of}
use Rattle.tab_store.specs.Rightness.{IsStore}
use Rattle.tab_store.proofs.Apart.{sound_tablets_lie_apart}
use Rattle.tab_store.proofs.Changed.{records_read, settings_read, settings_kept, table_frozen}
use Rattle.tab_core.specs.Stepping.{Acts, ActsOnTables, own_answer, IsCore}
use Rattle.tab_core.proofs.Acting.{becomes_alike, knows_alike, refused, lacked}
use Rattle.tab_core.proofs.Lent.{Alters}

-- what one tablet of a table holds lies before what the next one holds
pub tablets_apart : (h : CoreContents) → IsStore h → (q : List ℕ) → LieApart (tablets_of (table_at h.tables q))
tablets_apart h store q = go (table_in h q) refl
  where
    go : (o : Option TableContents) → table_in h q ≡ o → LieApart (tablets_of (option_map state_of o))
    go None e = rises_none
    go (Some t) e = sound_tablets_lie_apart t.tablets h.next t.settings.versions _ (store.tables q t e)

-- ---- a scan
own_open : (h : CoreContents) (now : ℤ) (user : List ℕ) (scan : Scan) (auths : List (List ℕ)) → auths_of h.policy user ≡ auths → own_answer (base_of h) now user (act.Open scan) ≡ told (first_some (scan_checks auths scan)) told_opened
unfolding standing held_auths
own_open h now user scan auths held = λ i. told (first_some (scan_checks (held i) scan)) told_opened

open_refused : (h : CoreContents) (now : ℤ) (user : List ℕ) (scan : Scan) (auths : List (List ℕ)) (r : Refusal) → IsCore h → auths_of h.policy user ≡ auths
    → (Some r ≡ first_some (scan_checks auths scan)) ⊎ (Some r ≡ Some NoMemory) → Acts (own_answer (base_of h) now user (act.Open scan)) h now None user (act.Open scan) (Refused r) h
open_refused h now user scan auths r core held fails = refused (own_answer (base_of h) now user (act.Open scan)) h now user (act.Open scan) r core (go fails)
  where
    go : (Some r ≡ first_some (scan_checks auths scan)) ⊎ (Some r ≡ Some NoMemory) → (Refused r ≡ own_answer (base_of h) now user (act.Open scan)) ⊎ ((true ≡ true) × (r ≡ NoMemory))
    go (inl e) = inl (ap (λ o. told o told_opened) e ∙ sym (own_open h now user scan auths held))
    go (inr e) = let is : r ≡ NoMemory = cc in inr (refl, is)

-- the session of a scan of these tables
abbrev pub session_in : List TableContents → Scan → OpenSession
session_in ts scan = opened (listed (sorted (records_of_all (tablets_of (table_at ts scan.table)))) (query_of scan) (settings_at (table_at ts scan.table)))

-- what a scan leaves of these tables
abbrev pub Froze : List ℕ → List TableContents → List TableContents → Type 0
Froze t = Alters t (with_tablets (map frozen))

open_done : (h : CoreContents) (ts : List TableContents) (now : ℤ) (user : List ℕ) (scan : Scan) (auths : List (List ℕ)) (session : OpenSession) → IsCore h → auths_of h.policy user ≡ auths
    → (None ≡ first_some (scan_checks auths scan)) ⊎ (None ≡ Some NoMemory) → session ≡ session_in h.tables scan → Froze scan.table h.tables ts
    → Acts (own_answer (base_of h) now user (act.Open scan)) h now None user (act.Open scan) (Opened session) (record h { tables = ts })
unfolding lays session_list
open_done h ts now user scan auths session core held passes is after =
    let new : CoreContents = record h { tables = ts } in
    let answer : told_opened ≡ own_answer (base_of h) now user (act.Open scan) = go passes ∙ sym (own_open h now user scan auths held) in
    let settings : (q : List ℕ) → settings_of (base_of new) [] q ≡ settings_of (base_of h) [] q = settings_kept h new scan.table (with_tablets (map frozen)) (λ s. refl) after.changed in
    record {
      exact = record {
        answers = inl (ap (told_exactly h now None (act.Open scan)) answer);
        hands = refl;
        tablets = λ q. table_frozen h new scan.table now told_opened after.changed q ∙ ap (λ a. laid_told told_opened h now None (act.Open scan) a q) answer;
        names = after.names;
        tablet = refl;
        number = refl;
      };
      becomes = becomes_alike h ts after.count settings;
      hands = is ∙ sym (λ i. opened (listed (records_read h scan.table i) (query_of scan) (settings_read h scan.table i)));
      knows = knows_alike h ts core settings;
    }
  where
    go : (None ≡ first_some (scan_checks auths scan)) ⊎ (None ≡ Some NoMemory) → told_opened ≡ told (first_some (scan_checks auths scan)) told_opened
    go (inl e) = ap (λ o. told o told_opened) e
    go (inr e) = absurd (cc)

-- ---- the same of whichever core has these tables
-- an act that leaves the tables as they were
pub leaves_tables : (auths : List (List ℕ)) (now : ℤ) (scan : Scan) (ts : List TableContents) (next : ℕ) (r : Refusal) → (Some r ≡ first_some (scan_checks auths scan)) ⊎ (Some r ≡ Some NoMemory) → ActsOnTables auths now (act.Open scan) ts next (Refused r) ts next
leaves_tables auths now scan ts next r fails h user core tables numbered held =
    subst (λ (x : CoreContents). Acts (own_answer (base_of h) now user (act.Open scan)) h now None user (act.Open scan) (Refused r) x) (λ i. record h { next = numbered i; tables = tables i }) (open_refused h now user scan auths r core held fails)

-- whether there was memory for it or not
pub open_either : {E : Type 0} (auths : List (List ℕ)) (now : ℤ) (scan : Scan) (ts new : List TableContents) (next : ℕ) (made : Result OpenSession E) (reply : Reply OpenSession TabletMerge) → (None ≡ first_some (scan_checks auths scan)) ⊎ (None ≡ Some NoMemory)
    → IfOk made (λ session. session ≡ session_in ts scan) → OnOk made (Froze scan.table ts new) → OnErr made (new ≡ ts) → IfOk made (λ session. reply ≡ Opened session) → OnErr made (reply ≡ Refused NoMemory)
    → ActsOnTables auths now (act.Open scan) ts next reply new next
open_either auths now scan ts new next (Ok session) reply passes is after same opened failed h user core tables numbered held =
    subst (λ r. Acts (own_answer (base_of h) now user (act.Open scan)) h now None user (act.Open scan) r (record h { next = next; tables = new })) (sym opened)
    (subst (λ (n : ℕ). Acts (own_answer (base_of h) now user (act.Open scan)) h now None user (act.Open scan) (Opened session) (record h { next = n; tables = new })) numbered
    (open_done h new now user scan auths session core held passes (is ∙ ap (λ us. session_in us scan) (sym tables)) (subst (λ (us : List TableContents). Froze scan.table us new) (sym tables) after)))
open_either auths now scan ts new next (Err e) reply passes is after same opened failed h user core tables numbered held =
    subst (λ r. Acts (own_answer (base_of h) now user (act.Open scan)) h now None user (act.Open scan) r (record h { next = next; tables = new })) (sym failed)
    (subst (λ (x : CoreContents). Acts (own_answer (base_of h) now user (act.Open scan)) h now None user (act.Open scan) (Refused NoMemory) x) (λ i. record h { next = numbered i; tables = (tables ∙ sym same) i })
    (lacked (own_answer (base_of h) now user (act.Open scan)) h now user (act.Open scan) refl core))

-- ---- rights told
pub rights_told : (h : CoreContents) (now : ℤ) (user t : List ℕ) (system : SystemPermissions) (table : TablePermissions) (auths : List (List ℕ)) → IsCore h
    → ((p : SystemPermission) → system_contains system p ≡ has_system h.policy user p) → ((p : TablePermission) → table_contains table p ≡ table_granted h.policy user p t) → auths ≡ auths_of h.policy user
    → Acts (own_answer (base_of h) now user (act.Rights t)) h now None user (act.Rights t) (TellsRights (record { system = system; table = table; authorizations = auths })) h
unfolding held_auths has_system_right has_table_right
rights_told h now user t system table auths core may on_table held =
    let rights : Rights = record { system = system; table = table; authorizations = auths } in
    record {
      exact = record { answers = inl (ap TellsRights ((rights_are_told (base_of h) [] user t rights).0 (record { system = may; table = on_table; authorizations = held }))); hands = refl; tablets = λ q. refl; names = core.store.names; tablet = refl; number = refl };
      becomes = becomes_alike h h.tables refl (λ q. refl);
      hands = tt;
      knows = core.knows;
    }
