-- Compactions, and counts that are told.
use Rattle.std.proofs.Common.{◌≡◌, inl, ℕ, List, [], true, refl, sym, ap, subst, map, Result, Ok, Err, None}
use Rattle.std.specs.Prelude.{ℤ, OnOk, OnErr}
use Rattle.tab_cells.specs.declared.compaction.Compaction.{Compaction}
use Rattle.tab_session.specs.OpenSession.{OpenSession}
use Rattle.tab_store.specs.Tablets.{compacted}
use Rattle.tab_history.specs.declared.event.Act.{Act}
use Rattle.tab_history.specs.declared.event.Act.TheVariants as act
use Rattle.tab_history.specs.declared.reply.Refusal.TheVariants.{NoMemory}
use Rattle.tab_history.specs.declared.reply.Reply.{Reply}
use Rattle.tab_history.specs.declared.reply.Reply.TheVariants.{Done, Refused, Counted}
use Rattle.tab_history.specs.Bases.{Base}
use Rattle.tab_history.specs.Held.{floor_of}
use Rattle.tab_history.specs.Changes.{changes_of}
use Rattle.tab_history.specs.Readings.{settings_of}
use Rattle.tab_history.specs.Legal.{takes_memory}
use Rattle.tab_store.specs.Parts.{TabletMerge}
use Rattle.tab_store.specs.Stores.{TableContents, CoreContents, base_of, counts_of}
use Rattle.tab_store.specs.Stepping.{Compacting, On, work_of, lays}
use Rattle.tab_store.specs.Tables.{TableState, with_tablets, table_at, tablets_of}
use Rattle.tab_store.proofs.Changed.{tablets_read, settings_kept, table_compacted, table_counted}
use Rattle.tab_core.specs.Stepping.{Acts, Becomes, own_answer, IsCore}
use Rattle.tab_core.proofs.Acting.{becomes_alike, knows_alike, done_exactly, lacked}
use Rattle.tab_core.proofs.Lent.{Alters}

-- ---- compactions
-- a table with its tablets compacted at this moment
abbrev pub compacted_at : Compaction → ℤ → TableState → TableState
compacted_at kind now s = with_tablets (map (compacted kind (floor_of s.settings.time now s.settings.horizon) s.settings.versions)) s

-- what a compaction leaves of these tables
abbrev pub Compacted : List ℕ → Compaction → ℤ → List TableContents → List TableContents → Type 0
Compacted t kind now = Alters t (compacted_at kind now)

-- An act that takes memory, is told Done where no check refuses it, and changes nothing that histories read.
record KeepsReadings (b : Base) (now : ℤ) (user : List ℕ) (a : Act) : Type 0 where
  takes : takes_memory a ≡ true
  passes : Done ≡ own_answer b now user a
  none : changes_of now user a ≡ []

-- each that compacts is such a one
keeps_readings : (b : Base) (now : ℤ) (user t : List ℕ) (a : Act) (kind : Compaction) → work_of None a ≡ On t (Compacting kind) → KeepsReadings b now user a
keeps_readings b now user t (act.Flush q) kind is = record { takes = refl; passes = refl; none = refl }
keeps_readings b now user t (act.Compact q extent) kind is = record { takes = refl; passes = refl; none = refl }
keeps_readings b now user t a kind is = absurd (cc)

-- an act that compacts
pub compaction_done : (h : CoreContents) (ts : List TableContents) (now : ℤ) (user t : List ℕ) (a : Act) (kind : Compaction) → IsCore h → work_of None a ≡ On t (Compacting kind) → Compacted t kind now h.tables ts → Acts (own_answer (base_of h) now user a) h now None user a Done (record h { tables = ts })
unfolding lays
compaction_done h ts now user t a kind core is after =
    let new : CoreContents = record h { tables = ts } in
    let keeps : KeepsReadings (base_of h) now user a = keeps_readings (base_of h) now user t a kind is in
    let settings : (q : List ℕ) → settings_of (base_of new) [] q ≡ settings_of (base_of h) [] q = settings_kept h new t (compacted_at kind now) (λ s. refl) after.changed in
    record {
      exact = done_exactly h new now a (own_answer (base_of h) now user a) (On t (Compacting kind)) is keeps.passes refl (table_compacted h new t now Done kind after.changed) after.names refl refl;
      becomes = subst (λ j. Becomes (base_of h) j (base_of new)) (sym keeps.none) (becomes_alike h ts after.count settings);
      hands = tt;
      knows = knows_alike h ts core settings;
    }

-- whether there was memory for it or not
pub compacts : {T E : Type 0} (h : CoreContents) (ts : List TableContents) (now : ℤ) (user t : List ℕ) (a : Act) (kind : Compaction) (done : Result T E) (reply : Reply OpenSession TabletMerge) → IsCore h → work_of None a ≡ On t (Compacting kind)
    → OnOk done (Compacted t kind now h.tables ts) → OnErr done (ts ≡ h.tables) → OnOk done (reply ≡ Done) → OnErr done (reply ≡ Refused NoMemory)
    → Acts (own_answer (base_of h) now user a) h now None user a reply (record h { tables = ts })
compacts h ts now user t a kind (Ok u) reply core is after same ok err =
    subst (λ r. Acts (own_answer (base_of h) now user a) h now None user a r (record h { tables = ts })) (sym ok) (compaction_done h ts now user t a kind core is after)
compacts h ts now user t a kind (Err e) reply core is after same ok err =
    subst (λ r. Acts (own_answer (base_of h) now user a) h now None user a r (record h { tables = ts })) (sym err)
    (subst (λ (us : List TableContents). Acts (own_answer (base_of h) now user a) h now None user a (Refused NoMemory) (record h { tables = us })) (sym same)
    (lacked (own_answer (base_of h) now user a) h now user a (keeps_readings (base_of h) now user t a kind is).takes core))

-- ---- counts
pub counted : (h : CoreContents) (now : ℤ) (user t : List ℕ) (reply : Reply OpenSession TabletMerge) → IsCore h → reply ≡ Counted (counts_of (tablets_of (table_at h.tables t))) → Acts (own_answer (base_of h) now user (act.Status t)) h now None user (act.Status t) reply h
unfolding lays
counted h now user t reply core is = subst (λ r. Acts (own_answer (base_of h) now user (act.Status t)) h now None user (act.Status t) r h) (sym is) (record {
  exact = record {
    answers = inl (ap (λ ts. Counted (counts_of ts)) (sym (tablets_read h t)));
    hands = refl;
    tablets = table_counted h h t now Done (λ q. refl);
    names = core.store.names;
    tablet = refl;
    number = refl;
  };
  becomes = becomes_alike h h.tables refl (λ q. refl);
  hands = tt;
  knows = core.knows;
})
