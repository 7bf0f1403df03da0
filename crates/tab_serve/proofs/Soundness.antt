-- A core that opened a session is sound, and the session is the one that its own records give.
use Rattle.std.proofs.Common.{◌≡◌, ℕ, ℤ, true, List, [], ◌∷◌, ◌++◌, Option, Some, None, refl, sym, ap, subst}
use Rattle.std.specs.Prelude.{Contains, ◌<◌}
use Rattle.std.specs.Int.{int_max}
use Rattle.tab_key.specs.Records.{Record}
use Rattle.tab_key.specs.Sorted.{IsDistinct}
use Rattle.tab_key.proofs.Rising.{in_from}
use Rattle.tab_history.specs.Bases.{BaseTable, Base}
use Rattle.tab_history.specs.Changes.{Change, changes_of}
use Rattle.tab_history.specs.Held.{RefinesTable, floor_of}
use Rattle.tab_history.specs.declared.event.Act.{Act}
use Rattle.tab_history.specs.declared.event.Act.TheVariants.{Open}
use Rattle.tab_history.specs.declared.event.Event.{Event}
use Rattle.tab_history.specs.declared.event.Step.TheVariants.{Event as IsEvent}
use Rattle.tab_history.specs.declared.reply.Reply.TheVariants.{Opened}
use Rattle.tab_history.specs.Answers.{is_open, told_opened, session_list}
use Rattle.tab_history.specs.Readings.{base_table, base_settings, base_records, settings_of, next_number, updates_of}
use Rattle.tab_history.specs.Histories.{World, world_of, world_after, journal, clock_of}
use Rattle.tab_history.specs.Refinement.{Refines, IsSound}
use Rattle.tab_history.proofs.Chains.{sound_refines_itself}
use Rattle.tab_core.specs.OpenSession.{OpenSession, opened}
use Rattle.tab_core.specs.Stepping.{Steps}
use Rattle.tab_core.proofs.Runs.{after_none}

-- a base that is refined is sound
refined_sound : (v : World) (b : Base) (clock : ℤ) → Refines v (record { base = b; changes = []; clock = clock }) → IsSound (world_of b)
unfolding updates_of settings_of
refined_sound v b clock h t = go (base_table b t) refl
  where
    go : (o : Option BaseTable) → base_table b t ≡ o → IsDistinct (base_records o) × ((u : Record) → Contains (base_records o) u → u.seq < next_number b [])
    go None e = (tt, λ u c. absurd (in_from [] u c))
    go (Some x) e =
        let found : settings_of b [] t ≡ Some x.settings = ap base_settings e in
        let there : RefinesTable (updates_of v.base v.changes t) (base_records (base_table b t)) (next_number b []) x.settings.versions (floor_of x.settings.time clock x.settings.horizon) = h.tables t x.settings found in
        let here : RefinesTable (updates_of v.base v.changes t) x.records (next_number b []) x.settings.versions (floor_of x.settings.time clock x.settings.horizon) =
        subst (λ (o : Option BaseTable). RefinesTable (updates_of v.base v.changes t) (base_records o) (next_number b []) x.settings.versions (floor_of x.settings.time clock x.settings.horizon)) e there in
        (here.updates_once, here.numbered)

-- an Open changes nothing that is there
open_changes : (now : ℤ) (user : List ℕ) (act : Act) → is_open act ≡ true → changes_of now user act ++ [] ≡ []
open_changes now user (Open scan) opens = refl
open_changes now user _ opens = absurd cc

open_sound : (v : World) (b : Base) (e : Event) → is_open e.act ≡ true → Refines v (world_after (world_of b) (record { step = IsEvent e; reply = told_opened } ∷ [])) → IsSound (world_of b)
unfolding journal clock_of
open_sound v b e opens h =
    let clock : ℤ = clock_of (world_of b) (record { step = IsEvent e; reply = told_opened } ∷ []) in
    refined_sound v b clock (subst (λ (j : List Change). Refines v (record { base = b; changes = j; clock = clock })) (open_changes (int_max b.clock e.moment) e.user e.act opens) h)

-- the session that is handed out has the list that is defined on what the core held
pub opened_list : (b b' : Base) (e : Event) (session : OpenSession) → is_open e.act ≡ true → Steps b e (Opened session) b' → session ≡ opened (session_list b [] e.act)
unfolding journal
opened_list b b' e session opens steps =
    let self : Refines (world_of b) (world_of b) = sound_refines_itself (world_of b) (open_sound (world_of b') b e opens steps.right.refines) in
    steps.hands (world_of b) [] (subst (λ (w : World). Refines (world_of b) w) (sym (after_none (world_of b))) self)
