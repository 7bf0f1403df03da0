-- Splits of a table's tablets, and end rows that are told.
use Rattle.std.proofs.Common.{◌≡◌, inl, ℕ, List, [], ◌∷◌, true, false, refl, sym, ◌∙◌, ap, subst, Option, None, Result, Ok, Err}
use Rattle.std.specs.Prelude.{ℤ, IfOk, OnOk, OnErr}
use Rattle.tab_key.specs.Records.{Cell}
use Rattle.tab_key.specs.declared.limited_part.LimitedPart.TheVariants.{Row}
use Rattle.tab_mutation.specs.Shape.{first_some, when, is_too_long}
use Rattle.tab_session.specs.OpenSession.{OpenSession}
use Rattle.tab_store.specs.Tablets.{Tablet, next_number}
use Rattle.tab_store.specs.ByRow.{ends_of}
use Rattle.tab_store.specs.Splits.{splits, halves}
use Rattle.tab_store.specs.SplitType.{Split}
use Rattle.tab_store.specs.SplitVariants as split
use Rattle.tab_history.specs.declared.event.Act.{Act}
use Rattle.tab_history.specs.declared.event.Act.TheVariants as act
use Rattle.tab_history.specs.declared.reply.Refusal.TheVariants.{NoMemory, TooLarge}
use Rattle.tab_history.specs.declared.reply.Reply.{Reply}
use Rattle.tab_history.specs.declared.reply.Reply.TheVariants.{Done, Refused, Opened, Rows, Begun}
use Rattle.tab_history.specs.Answers.{Told, told, told_of, job_of}
use Rattle.tab_history.specs.Checks.{standing, exists_in, user_named, row_checks, own_checks}
use Rattle.tab_history.specs.Changes.{changes_of}
use Rattle.tab_history.specs.Readings.{settings_of}
use Rattle.tab_history.specs.Legal.{takes_memory}
use Rattle.tab_store.specs.Parts.{TabletMerge}
use Rattle.tab_store.specs.Stores.{TableContents, CoreContents, RiseByName, base_of, tablets_in}
use Rattle.tab_store.specs.Stepping.{TabletWork, TableWork, Splitting, Halving, On, work_of, lays, told_split, told_by, laid_by, told_exactly, laid_exactly, laid_told, job_by, handed, tablets_numbered, tablet_told, job_told}
use Rattle.tab_store.specs.Tables.{TableState, with_tablets, table_at, changed_table, tablets_of}
use Rattle.tab_store.proofs.Changed.{tablets_read, settings_kept, table_split, table_halved, table_listed}
use Rattle.tab_core.specs.Stepping.{HandsOut, Acts, Becomes, changes_told, own_answer, IsCore}
use Rattle.tab_core.proofs.Acting.{becomes_alike, knows_alike, own_refused, lacked}
use Rattle.tab_core.proofs.Lent.{Alters, Lent, alters, alters_none}

-- ---- what is told of a split
-- it hands out no session
none_handed : (r : Reply OpenSession TabletMerge) (s : Split) (all : List Cell) → told_of r ≡ told_split Done s → HandsOut r all
none_handed (Opened u) split.Done all e = absurd (cc)
none_handed (Opened u) split.Present all e = absurd (cc)
none_handed (Opened u) split.Small all e = absurd (cc)
none_handed (Opened u) split.OneRow all e = absurd (cc)
none_handed (Opened u) split.Full all e = absurd (cc)
none_handed reply s all e = tt

-- and no job
none_begun : (r : Reply OpenSession TabletMerge) (s : Split) → told_of r ≡ told_split Done s → job_of r ≡ None
none_begun (Begun m) split.Done e = absurd (cc)
none_begun (Begun m) split.Present e = absurd (cc)
none_begun (Begun m) split.Small e = absurd (cc)
none_begun (Begun m) split.OneRow e = absurd (cc)
none_begun (Begun m) split.Full e = absurd (cc)
none_begun reply s e = refl

-- no job is numbered
same_jobs : (s : Split) (n : ℕ) → n ≡ job_told (told_split Done s) n
same_jobs split.Done n = refl
same_jobs split.Present n = refl
same_jobs split.Small n = refl
same_jobs split.OneRow n = refl
same_jobs split.Full n = refl

never_handed : (s : Split) (o : Option TabletMerge) → None ≡ handed (told_split Done s) o
never_handed split.Done o = refl
never_handed split.Present o = refl
never_handed split.Small o = refl
never_handed split.OneRow o = refl
never_handed split.Full o = refl

-- work that numbers as many tablets
numbered_alike : (r : Told) (w w' : TableWork) (n : ℕ) → tablets_numbered w n ≡ tablets_numbered w' n → tablet_told r w n ≡ tablet_told r w' n
numbered_alike Done w w' n e = e
numbered_alike _ w w' n e = refl

-- histories read no change
none_changed : (now : ℤ) (user : List ℕ) (a : Act) (s : Split) → changes_of now user a ≡ [] → changes_told now user a (told_split Done s) ≡ []
none_changed now user a split.Done none = none
none_changed now user a split.Present none = refl
none_changed now user a split.Small none = refl
none_changed now user a split.OneRow none = refl
none_changed now user a split.Full none = refl

-- memory didn't lack
laid_so : (h : CoreContents) (now : ℤ) (a : Act) (s : Split) (q : List ℕ) → laid_exactly h now None a Done q ≡ laid_told (told_split Done s) h now None a Done q
laid_so h now a split.Done q = refl
laid_so h now a split.Present q = refl
laid_so h now a split.Small q = refl
laid_so h now a split.OneRow q = refl
laid_so h now a split.Full q = refl

-- ---- splits
-- what an act that splits so leaves of these tables, and what became of the split
pub record SplitSo (t : List ℕ) (f : List Tablet → Split × List Tablet) (ts new : List TableContents) (told : Split) : Type 0 where
  pub told_so : told ≡ (f (tablets_of (table_at ts t))).0
  pub tables : Alters t (with_tablets (λ us. (f us).1)) ts new

-- an act that splits so in this core
pub record Splits (h : CoreContents) (a : Act) (t : List ℕ) (work : TabletWork) (f : List Tablet → Split × List Tablet) : Type 0 where
  pub takes : takes_memory a ≡ true
  pub works : work_of None a ≡ On t work
  pub changes : (now : ℤ) (user : List ℕ) → changes_of now user a ≡ []
  pub tells : (now : ℤ) → told_by h now (On t work) Done ≡ told_split Done (f (tablets_in h t)).0
  pub lies : (new : CoreContents) (now : ℤ) → ((q : List ℕ) → table_at new.tables q ≡ changed_table t (with_tablets (λ us. (f us).1)) h.tables q) → (q : List ℕ) → tablets_in new q ≡ laid_by h now (On t work) Done q
  pub numbers : tablets_numbered (On t work) h.tablet ≡ next_number (next_number h.tablet)

pub adds_split : (h : CoreContents) (t row : List ℕ) → Splits h (act.AddSplit t row) t (Splitting row) (splits row h.tablet)
unfolding lays
adds_split h t row = record { takes = refl; works = refl; changes = λ now user. refl; tells = λ now. refl; lies = λ new now. table_split h new t now Done row; numbers = refl }

pub splits_by_size : (h : CoreContents) (t row : List ℕ) (limit : ℕ) → Splits h (act.SplitBySize t row limit) t (Halving row limit) (halves row limit h.tablet)
unfolding lays
splits_by_size h t row limit = record { takes = refl; works = refl; changes = λ now user. refl; tells = λ now. refl; lies = λ new now. table_halved h new t now Done row limit; numbers = refl }

-- the number of the next tablet behind what is told of a split
abbrev pub NumbersSplit : Reply OpenSession TabletMerge → ℕ → ℕ → Type 0
NumbersSplit reply n n' = (t row : List ℕ) → n' ≡ tablet_told (told_of reply) (On t (Splitting row)) n

module _ (h : CoreContents) (now : ℤ) (user t : List ℕ) (a : Act) (work : TabletWork) (f : List Tablet → Split × List Tablet) (core : IsCore h) (is : Splits h a t work f) (passes : Done ≡ own_answer (base_of h) now user a) where
  numbers_done : (reply : Reply OpenSession TabletMerge) (n : ℕ) → NumbersSplit reply h.tablet n → n ≡ tablet_told (told_of reply) (work_of None a) h.tablet
  numbers_done reply n numbered = numbered t [] ∙ numbered_alike (told_of reply) (On t (Splitting [])) (On t work) h.tablet (sym is.numbers) ∙ ap (λ w. tablet_told (told_of reply) w h.tablet) (sym is.works)

  pub split_done : (ts : List TableContents) (n : ℕ) (s : Split) (reply : Reply OpenSession TabletMerge) → SplitSo t f h.tables ts s → told_of reply ≡ told_split Done s → NumbersSplit reply h.tablet n
      → Acts (own_answer (base_of h) now user a) h now None user a reply (record h { tables = ts; tablet = n })
  split_done ts n s reply after told numbered =
      let new : CoreContents = record h { tables = ts; tablet = n } in
      let settings : (q : List ℕ) → settings_of (base_of new) [] q ≡ settings_of (base_of h) [] q = settings_kept h new t (with_tablets (λ us. (f us).1)) (λ x. refl) after.tables.changed in
      let none : changes_told now user a (told_of reply) ≡ [] = ap (changes_told now user a) told ∙ none_changed now user a s (is.changes now user) in
      record {
        exact = record {
          answers = inl (told ∙ ap (told_split Done) (after.told_so ∙ ap (λ us. (f us).0) (sym (tablets_read h t))) ∙ sym (is.tells now) ∙ ap (λ w. told_by h now w Done) (sym is.works) ∙ ap (told_exactly h now None a) passes);
          hands = none_begun reply s told ∙ never_handed s (job_by h now (work_of None a)) ∙ ap (λ r. handed r (job_by h now (work_of None a))) (sym told);
          tablets = λ q. is.lies new now after.tables.changed q ∙ ap (λ w. laid_by h now w Done q) (sym is.works) ∙ laid_so h now a s q ∙ ap (λ r. laid_told r h now None a Done q) (sym told) ∙ ap (λ p. laid_told (told_of reply) h now None a p q) passes;
          names = after.tables.names;
          tablet = numbers_done reply n numbered;
          number = same_jobs s h.job ∙ ap (λ r. job_told r h.job) (sym told);
        };
        becomes = subst (λ j. Becomes (base_of h) j (base_of new)) (sym none) (becomes_alike h ts after.tables.count settings);
        hands = none_handed reply s _ told;
        knows = knows_alike h ts core settings;
      }

  -- whether there was memory for it or not
  pub splits_or_lacks : {E : Type 0} (ts : List TableContents) (n : ℕ) (made : Result Split E) (reply : Reply OpenSession TabletMerge) → IfOk made (SplitSo t f h.tables ts) → OnErr made (ts ≡ h.tables) → IfOk made (λ s. told_of reply ≡ told_split Done s)
      → OnErr made (reply ≡ Refused NoMemory) → NumbersSplit reply h.tablet n → Acts (own_answer (base_of h) now user a) h now None user a reply (record h { tables = ts; tablet = n })
  splits_or_lacks ts n (Ok s) reply after same told err numbered = split_done ts n s reply after told numbered
  splits_or_lacks ts n (Err e) reply after same told err numbered =
      let kept : n ≡ h.tablet = numbered t [] ∙ ap (λ r. tablet_told (told_of r) (On t (Splitting [])) h.tablet) err in
      subst (λ r. Acts (own_answer (base_of h) now user a) h now None user a r (record h { tables = ts; tablet = n })) (sym err)
      (subst (λ (new : CoreContents). Acts (own_answer (base_of h) now user a) h now None user a (Refused NoMemory) new) (λ i. record h { tables = sym same i; tablet = sym kept i }) (lacked (own_answer (base_of h) now user a) h now user a is.takes core))

-- what a call that splits a lent table so ensures
pub split_so : {E : Type 0} {t : List ℕ} {ts new : List TableContents} {was now : TableState} (f : List Tablet → Split × List Tablet) (made : Result Split E) → Lent t ts new was now → IfOk made (λ s. s ≡ (f was.tablets).0)
    → OnOk made (now ≡ with_tablets (λ us. (f us).1) was) → IfOk made (SplitSo t f ts new)
split_so f (Ok s) lent told ok = record { told_so = told ∙ ap (λ o. (f (tablets_of o)).0) (sym lent.had); tables = alters (with_tablets (λ us. (f us).1)) lent ok }
split_so f (Err e) lent told ok = tt

-- where there is no such table
pub split_none : (t : List ℕ) (f : List Tablet → Split × List Tablet) (ts new : List TableContents) (s : Split) → RiseByName ts → table_at ts t ≡ None → new ≡ ts → s ≡ (f []).0 → SplitSo t f ts new s
split_none t f ts new s names none same is = record { told_so = is ∙ ap (λ o. (f (tablets_of o)).0) (sym none); tables = alters_none t (with_tablets (λ us. (f us).1)) ts new names none same }

-- ---- the row
-- it is too long
pub row_refused : (h : CoreContents) (now : ℤ) (user row : List ℕ) (a : Act) → IsCore h → own_checks (standing (base_of h) [] user) (exists_in (base_of h) [] (user_named a)) now a ≡ row_checks row → is_too_long row ≡ true
    → Acts (own_answer (base_of h) now user a) h now None user a (Refused (TooLarge Row)) h
row_refused h now user row a core checks long = own_refused h now user a (TooLarge Row) core (ap first_some checks ∙ ap (λ b. first_some (when b (TooLarge Row) ∷ [])) long)

-- or not
pub add_passes : (h : CoreContents) (now : ℤ) (user t row : List ℕ) → is_too_long row ≡ false → Done ≡ own_answer (base_of h) now user (act.AddSplit t row)
add_passes h now user t row short = ap (λ b. told (first_some (when b (TooLarge Row) ∷ [])) Done) (sym short)

pub halve_passes : (h : CoreContents) (now : ℤ) (user t row : List ℕ) (limit : ℕ) → is_too_long row ≡ false → Done ≡ own_answer (base_of h) now user (act.SplitBySize t row limit)
halve_passes h now user t row limit short = ap (λ b. told (first_some (when b (TooLarge Row) ∷ [])) Done) (sym short)

-- ---- end rows
pub ends_told : (h : CoreContents) (now : ℤ) (user t : List ℕ) (reply : Reply OpenSession TabletMerge) → IsCore h → reply ≡ Rows (ends_of (tablets_of (table_at h.tables t))) → Acts (own_answer (base_of h) now user (act.Splits t)) h now None user (act.Splits t) reply h
unfolding lays
ends_told h now user t reply core is = subst (λ r. Acts (own_answer (base_of h) now user (act.Splits t)) h now None user (act.Splits t) r h) (sym is) (record {
  exact = record {
    answers = inl (ap (λ ts. Rows (ends_of ts)) (sym (tablets_read h t)));
    hands = refl;
    tablets = table_listed h h t now Done (λ q. refl);
    names = core.store.names;
    tablet = refl;
    number = refl;
  };
  becomes = becomes_alike h h.tables refl (λ q. refl);
  hands = tt;
  knows = core.knows;
})
