-- Compactions in parts: a merge that begins, and one that is installed.
use Rattle.std.proofs.Common.{◌≡◌, inl, ℕ, List, [], true, refl, sym, ◌∙◌, ap, subst, Option, Some, None, Result, Ok, Err}
use Rattle.std.specs.Prelude.{ℤ, IfOk, OnOk, OnErr}
use Rattle.tab_key.specs.Records.{Cell}
use Rattle.tab_cells.specs.declared.compaction.Compaction.{Compaction}
use Rattle.tab_session.specs.OpenSession.{OpenSession}
use Rattle.tab_store.specs.Parts.{TabletMerge, begins_at, installs_in}
use Rattle.tab_store.specs.InstalledType.{Installed}
use Rattle.tab_store.specs.InstalledVariants as installed
use Rattle.tab_history.specs.declared.event.Act.{Act}
use Rattle.tab_history.specs.declared.event.Act.TheVariants as act
use Rattle.tab_history.specs.declared.event.Given.{Given}
use Rattle.tab_history.specs.declared.event.Given.TheVariants.{ByHand}
use Rattle.tab_history.specs.declared.reply.Refusal.TheVariants.{NoMemory, Stale}
use Rattle.tab_history.specs.declared.reply.Reply.{Reply}
use Rattle.tab_history.specs.declared.reply.Reply.TheVariants.{Done, Refused, Opened}
use Rattle.tab_history.specs.Held.{floor_of}
use Rattle.tab_history.specs.Answers.{Told, told_of, job_of}
use Rattle.tab_history.specs.Changes.{changes_of}
use Rattle.tab_history.specs.Readings.{settings_of}
use Rattle.std.specs.Option.{option_map}
use Rattle.tab_store.specs.Stores.{TableContents, CoreContents, RiseByName, base_of, table_in, tablets_found}
use Rattle.tab_store.specs.Stepping.{Beginning, Installing, On, lays, place_of, begun_by, told_job, told_install, laid_exactly, laid_told, job_by, handed, tablet_told, job_told}
use Rattle.tab_store.specs.Tables.{TableState, with_tablets, table_at, tablets_of, begun_in, state_of}
use Rattle.tab_store.proofs.Changed.{tablets_read, settings_kept, begun_read, table_begun, table_installed, table_uninstalled}
use Rattle.tab_core.specs.Stepping.{HandsOut, Acts, Becomes, changes_told, own_answer, IsCore}
use Rattle.tab_core.proofs.Acting.{becomes_alike, knows_alike, lacked, given_lacked}
use Rattle.tab_core.proofs.Lent.{Alters, Lent, alters, alters_none}

-- ---- a merge that begins
-- a table whose tablet of the row is where a merge begins
abbrev pub begun_at_table : List ℕ → Compaction → ℤ → ℕ → TableState → TableState
begun_at_table row kind now number s = with_tablets (begins_at row number kind (floor_of s.settings.time now s.settings.horizon) s.settings.versions) s

-- what a Begin leaves of these tables, and the merge that began
pub record BeganSo (t row : List ℕ) (kind : Compaction) (now : ℤ) (number : ℕ) (ts new : List TableContents) (job : Option TabletMerge) : Type 0 where
  pub began : job ≡ begun_in row number kind now (table_at ts t)
  pub tables : Alters t (begun_at_table row kind now number) ts new

-- what a call that begins a merge in a lent table ensures
pub began_so : {E : Type 0} {t : List ℕ} {ts new : List TableContents} {was now : TableState} (row : List ℕ) (kind : Compaction) (m : ℤ) (number : ℕ) (made : Result (Option TabletMerge) E) → Lent t ts new was now → IfOk made (λ j. j ≡ begun_in row number kind m (Some was))
    → OnOk made (now ≡ begun_at_table row kind m number was) → IfOk made (BeganSo t row kind m number ts new)
began_so row kind m number (Ok job) lent began ok = record { began = began ∙ ap (begun_in row number kind m) (sym lent.had); tables = alters (begun_at_table row kind m number) lent ok }
began_so row kind m number (Err e) lent began ok = tt

-- where there is no such table
pub began_none : (t row : List ℕ) (kind : Compaction) (m : ℤ) (number : ℕ) (ts new : List TableContents) → RiseByName ts → table_at ts t ≡ None → new ≡ ts → BeganSo t row kind m number ts new None
began_none t row kind m number ts new names none same = record { began = ap (begun_in row number kind m) (sym none); tables = alters_none t (begun_at_table row kind m number) ts new names none same }

-- a reply that tells whether a merge began hands out no session
none_opened : (r : Reply OpenSession TabletMerge) (j : Option TabletMerge) (all : List Cell) → told_of r ≡ told_job j → HandsOut r all
none_opened (Opened u) None all e = absurd (cc)
none_opened (Opened u) (Some m) all e = absurd (cc)
none_opened reply j all e = tt

-- histories read no change
none_changed : (now : ℤ) (user : List ℕ) (a : Act) (j : Option TabletMerge) → changes_of now user a ≡ [] → changes_told now user a (told_job j) ≡ []
none_changed now user a None none = none
none_changed now user a (Some m) none = none

-- memory didn't lack
laid_so : (h : CoreContents) (now : ℤ) (a : Act) (j : Option TabletMerge) (q : List ℕ) → laid_exactly h now None a Done q ≡ laid_told (told_job j) h now None a Done q
laid_so h now a None q = refl
laid_so h now a (Some m) q = refl

-- the merge that began is handed out
handed_so : (j : Option TabletMerge) → j ≡ handed (told_job j) j
handed_so None = refl
handed_so (Some m) = refl

-- no tablet is numbered
same_tablets : (j : Option TabletMerge) (t row : List ℕ) (kind : Compaction) (n : ℕ) → n ≡ tablet_told (told_job j) (On t (Beginning row kind)) n
same_tablets None t row kind n = refl
same_tablets (Some m) t row kind n = refl

module _ (h : CoreContents) (now : ℤ) (user t row : List ℕ) (kind : Compaction) (core : IsCore h) where
  -- the act, and what is told of it if memory doesn't lack
  abbrev asks : Act
  asks = act.Begin t row kind

  pub begin_done : (ts : List TableContents) (n : ℕ) (job : Option TabletMerge) (reply : Reply OpenSession TabletMerge) → BeganSo t row kind now h.job h.tables ts job → told_of reply ≡ told_job job → job_of reply ≡ job → n ≡ job_told (told_of reply) h.job
      → Acts (own_answer (base_of h) now user asks) h now None user asks reply (record h { tables = ts; job = n })
  unfolding lays
  begin_done ts n job reply after told is numbered =
      let new : CoreContents = record h { tables = ts; job = n } in
      let settings : (q : List ℕ) → settings_of (base_of new) [] q ≡ settings_of (base_of h) [] q = settings_kept h new t (begun_at_table row kind now h.job) (λ x. refl) after.tables.changed in
      let none : changes_told now user asks (told_of reply) ≡ [] = ap (changes_told now user asks) told ∙ none_changed now user asks job refl in
      let began : job ≡ job_by h now (On t (Beginning row kind)) = after.began ∙ begun_read h now t Done row kind in
      record {
        exact = record {
          answers = inl (told ∙ ap told_job began);
          hands = is ∙ handed_so job ∙ (λ i. handed (sym told i) (began i));
          tablets = λ q. table_begun h new t now Done row kind after.tables.changed q ∙ laid_so h now asks job q ∙ ap (λ r. laid_told r h now None asks Done q) (sym told);
          names = after.tables.names;
          tablet = same_tablets job t row kind h.tablet ∙ ap (λ r. tablet_told r (On t (Beginning row kind)) h.tablet) (sym told);
          number = numbered;
        };
        becomes = subst (λ j. Becomes (base_of h) j (base_of new)) (sym none) (becomes_alike h ts after.tables.count settings);
        hands = none_opened reply job _ told;
        knows = knows_alike h ts core settings;
      }

  -- whether there was memory for it or not
  pub begins_or_lacks : {E : Type 0} (ts : List TableContents) (n : ℕ) (made : Result (Option TabletMerge) E) (reply : Reply OpenSession TabletMerge) → IfOk made (BeganSo t row kind now h.job h.tables ts) → OnErr made (ts ≡ h.tables) → IfOk made (λ j. told_of reply ≡ told_job j)
      → IfOk made (λ j. job_of reply ≡ j) → OnErr made (reply ≡ Refused NoMemory) → n ≡ job_told (told_of reply) h.job → Acts (own_answer (base_of h) now user asks) h now None user asks reply (record h { tables = ts; job = n })
  begins_or_lacks ts n (Ok job) reply after same told is err numbered = begin_done ts n job reply after told is numbered
  begins_or_lacks ts n (Err e) reply after same told is err numbered =
      let kept : n ≡ h.job = numbered ∙ ap (λ r. job_told (told_of r) h.job) err in
      subst (λ r. Acts (own_answer (base_of h) now user asks) h now None user asks r (record h { tables = ts; job = n })) (sym err)
      (subst (λ (new : CoreContents). Acts (own_answer (base_of h) now user asks) h now None user asks (Refused NoMemory) new) (λ i. record h { tables = sym same i; job = sym kept i }) (lacked (own_answer (base_of h) now user asks) h now user asks refl core))

-- ---- a merge that is installed
-- what an Install leaves of these tables, and how it ended
pub record InstalledSo (t : List ℕ) (m : TabletMerge) (ts new : List TableContents) (ended : Installed) : Type 0 where
  pub told_so : ended ≡ (installs_in m (tablets_of (table_at ts t))).0
  pub tables : Alters t (with_tablets (λ us. (installs_in m us).1)) ts new

-- what a call that installs in a lent table ensures
pub installed_so : {E : Type 0} {t : List ℕ} {ts new : List TableContents} {was now : TableState} (m : TabletMerge) (made : Result Installed E) → Lent t ts new was now → IfOk made (λ s. s ≡ (installs_in m was.tablets).0)
    → OnOk made (now ≡ with_tablets (λ us. (installs_in m us).1) was) → IfOk made (InstalledSo t m ts new)
installed_so m (Ok s) lent told ok = record { told_so = told ∙ ap (λ o. (installs_in m (tablets_of o)).0) (sym lent.had); tables = alters (with_tablets (λ us. (installs_in m us).1)) lent ok }
installed_so m (Err e) lent told ok = tt

-- where there is no such table
pub installed_none : (t : List ℕ) (m : TabletMerge) (ts new : List TableContents) → RiseByName ts → table_at ts t ≡ None → new ≡ ts → InstalledSo t m ts new (installed.Stale 0)
installed_none t m ts new names none same = record { told_so = ap (λ o. (installs_in m (tablets_of o)).0) (sym none); tables = alters_none t (with_tablets (λ us. (installs_in m us).1)) ts new names none same }

-- it hands out no session
none_shown : (r : Reply OpenSession TabletMerge) (s : Installed) (all : List Cell) → told_of r ≡ told_install Done s → HandsOut r all
none_shown (Opened u) installed.Done all e = absurd (cc)
none_shown (Opened u) (installed.Stale n) all e = absurd (cc)
none_shown reply s all e = tt

none_read : (now : ℤ) (user : List ℕ) (a : Act) (s : Installed) → changes_of now user a ≡ [] → changes_told now user a (told_install Done s) ≡ []
none_read now user a installed.Done none = none
none_read now user a (installed.Stale n) none = refl

laid_as : (h : CoreContents) (now : ℤ) (given : Option TabletMerge) (a : Act) (s : Installed) (q : List ℕ) → laid_exactly h now given a Done q ≡ laid_told (told_install Done s) h now given a Done q
laid_as h now given a installed.Done q = refl
laid_as h now given a (installed.Stale n) q = refl

never_handed : (s : Installed) (o : Option TabletMerge) → None ≡ handed (told_install Done s) o
never_handed installed.Done o = refl
never_handed (installed.Stale n) o = refl

none_numbered : (s : Installed) (t : List ℕ) (given : Option TabletMerge) (n : ℕ) → n ≡ tablet_told (told_install Done s) (On t (Installing given)) n
none_numbered installed.Done t given n = refl
none_numbered (installed.Stale k) t given n = refl

same_jobs : (s : Installed) (n : ℕ) → n ≡ job_told (told_install Done s) n
same_jobs installed.Done n = refl
same_jobs (installed.Stale k) n = refl

module _ (h : CoreContents) (now : ℤ) (user t : List ℕ) (m : TabletMerge) (core : IsCore h) where
  -- the act, with which the merge came
  abbrev installing : Act
  installing = act.Install t (ByHand m.merge.number)

  pub install_done : (ts : List TableContents) (s : Installed) (reply : Reply OpenSession TabletMerge) → InstalledSo t m h.tables ts s → told_of reply ≡ told_install Done s → job_of reply ≡ None
      → Acts (own_answer (base_of h) now user installing) h now (Some m) user installing reply (record h { tables = ts })
  unfolding lays
  install_done ts s reply after told is =
      let new : CoreContents = record h { tables = ts } in
      let settings : (q : List ℕ) → settings_of (base_of new) [] q ≡ settings_of (base_of h) [] q = settings_kept h new t (with_tablets (λ us. (installs_in m us).1)) (λ x. refl) after.tables.changed in
      let none : changes_told now user installing (told_of reply) ≡ [] = ap (changes_told now user installing) told ∙ none_read now user installing s refl in
      record {
        exact = record {
          answers = inl (told ∙ ap (told_install Done) (after.told_so ∙ ap (λ us. (installs_in m us).0) (sym (tablets_read h t))));
          hands = is ∙ never_handed s (job_by h now (On t (Installing (Some m)))) ∙ ap (λ r. handed r (job_by h now (On t (Installing (Some m))))) (sym told);
          tablets = λ q. table_installed h new t now Done m after.tables.changed q ∙ laid_as h now (Some m) installing s q ∙ ap (λ r. laid_told r h now (Some m) installing Done q) (sym told);
          names = after.tables.names;
          tablet = none_numbered s t (Some m) h.tablet ∙ ap (λ r. tablet_told r (On t (Installing (Some m))) h.tablet) (sym told);
          number = same_jobs s h.job ∙ ap (λ r. job_told r h.job) (sym told);
        };
        becomes = subst (λ j. Becomes (base_of h) j (base_of new)) (sym none) (becomes_alike h ts after.tables.count settings);
        hands = none_shown reply s _ told;
        knows = knows_alike h ts core settings;
      }

  -- whether there was memory for it or not
  pub installs_or_lacks : {E : Type 0} (ts : List TableContents) (made : Result Installed E) (reply : Reply OpenSession TabletMerge) → IfOk made (InstalledSo t m h.tables ts) → OnErr made (ts ≡ h.tables) → IfOk made (λ s. told_of reply ≡ told_install Done s)
      → job_of reply ≡ None → OnErr made (reply ≡ Refused NoMemory) → Acts (own_answer (base_of h) now user installing) h now (Some m) user installing reply (record h { tables = ts })
  installs_or_lacks ts (Ok s) reply after same told is err = install_done ts s reply after told is
  installs_or_lacks ts (Err e) reply after same told is err =
      subst (λ r. Acts (own_answer (base_of h) now user installing) h now (Some m) user installing r (record h { tables = ts })) (sym err)
      (subst (λ (us : List TableContents). Acts (own_answer (base_of h) now user installing) h now (Some m) user installing (Refused NoMemory) (record h { tables = us })) (sym same)
      (given_lacked (own_answer (base_of h) now user installing) h now (Some m) user installing refl core))

-- ---- one that came without its merge
pub none_installed : (h : CoreContents) (now : ℤ) (user t : List ℕ) (by : Given) → IsCore h → Acts (own_answer (base_of h) now user (act.Install t by)) h now None user (act.Install t by) (Refused (Stale 0)) h
unfolding lays
none_installed h now user t by core = record {
  exact = record {
    answers = inl refl;
    hands = refl;
    tablets = table_uninstalled h h t now Done (λ q. refl);
    names = core.store.names;
    tablet = refl;
    number = refl;
  };
  becomes = becomes_alike h h.tables refl (λ q. refl);
  hands = tt;
  knows = core.knows;
}
