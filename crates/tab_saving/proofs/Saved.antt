-- What was put of a core is its image, which it has; what a core keeps of its tablets, so that they are listed.
use Rattle.std.proofs.Common.{◌≡◌, ℕ, ◌+◌, ◌<◌, ◌^◌, List, ◌++◌, refl, sym, ap, subst, length, arith, Ok, Err}
use Rattle.std.specs.Prelude.{ℤ, Result, OnOk, IsErr}
use Rattle.std.specs.Result.{IsErrAnd}
use Rattle.std.specs.List.{AllByRecursion}
use Rattle.std.proofs.lemmas.Result.{on_ok_weaker}
use Rattle.tab_policy.specs.Holders.{AreUsers}
use Rattle.tab_history.specs.Held.{floor_of}
use Rattle.tab_io.specs.declared.writing.Output.{Ghosts}
use Rattle.tab_tablets.proofs.EndRows.{ends_count}
use Rattle.tab_store.specs.ByRow.{ends_of}
use Rattle.tab_store.specs.Keeping.{AreSound}
use Rattle.tab_store.specs.Limits.{AreLimited}
use Rattle.tab_store.specs.Stores.{TableContents, CoreContents}
use Rattle.tab_store.specs.Tablets.{Tablet}
use Rattle.tab_store.proofs.Apart.{sound_tablets_lie_apart}
use Rattle.tab_core.specs.Stepping.{IsCore}
use Rattle.tab_image.specs.Images.{IsImage, written_version}
use Rattle.tab_image.specs.Spelling.{counted, user_bytes, table_bytes, front_bytes, end_bytes, image_bytes}
use Rattle.tab_saving.specs.Existence.{core_bytes, HasImage, CoresHaveImages}
use Rattle.tab_saving.specs.ImageOf.{user_of, table_of, user_names, image_with, core_image, IsImageOf}
use Rattle.tab_saving.specs.Saves.{Saves, AreListed}
use Rattle.tab_saving.specs.Saving.{SavesImage}
use Rattle.tab_saving.specs.declared.fault.SaveFault.{SaveFault}
use Rattle.tab_saving.specs.declared.fault.SaveFault.TheVariants as fault
use Rattle.tab_saving.proofs.HolderRights.{list_of_map}
use Rattle.tab_saving.proofs.Fitting.{spelled_with}
use Rattle.tab_saving.proofs.Sane.{all_found}
use Rattle.tab_saving.proofs.Texts.{lacks_first}
use Rattle.tab_saving.proofs.UserNames.{names_are, own_names, own_image}

-- ---- tablets
tablets_listed : (ts : List Tablet) (next n : ℕ) (floor : ℤ) → AreSound ts next n floor → AreLimited ts → AreListed ts
tablets_listed ts next n floor sound limits =
    let count : length (ends_of ts) + 1 ≡ length ts = ends_count ts sound.whole in
    let few : length (ends_of ts) < 2 ^ 32 = limits.ends.few in
    record { apart = sound_tablets_lie_apart ts next n floor sound; few = omega (arith, count, few) }

pub all_listed : (h : CoreContents) → IsCore h → AllByRecursion (λ (t : TableContents). AreListed t.tablets) h.tables
all_listed h core = all_found (λ t. AreListed t.tablets) h.tables core.store.names
    (λ q t e. tablets_listed t.tablets h.next t.settings.versions (floor_of t.settings.time h.clock t.settings.horizon) (core.store.tables q t e) (core.store.limits q t e))

-- ---- the image
pub cores_have_images : CoresHaveImages
cores_have_images h core own typed = record {
  of = own_image h own;
  spelled = spelled_with h (user_names h.policy) (own_names h.policy own) core typed.users typed.tables typed.clocks;
}

-- the image with this list of all users is the one of the core
the_one : (h : CoreContents) (names : List (List ℕ)) → AreUsers h.policy names → image_with h names ≡ core_image h
the_one h names users = ap (image_with h) (names_are h.policy names users)

has_image : (h : CoreContents) (names : List (List ℕ)) → AreUsers h.policy names → IsImage written_version (image_bytes written_version (image_with h names)) (image_with h names) → HasImage h
has_image h names users spelled = record {
  of = subst (IsImageOf h) (the_one h names users) (record { names = names; users = users; says = refl });
  spelled = subst (λ i. IsImage written_version (image_bytes written_version i) i) (the_one h names users) spelled;
}

module _ {W : Type 0} (g : Ghosts W) where
  pub saves_image : (old new : W) (h : CoreContents) (names : List (List ℕ)) (r : Result (Unit {0}) SaveFault) → AreUsers h.policy names
      → OnOk r (IsImage written_version (image_bytes written_version (image_with h names)) (image_with h names)) → Saves g old new (image_bytes written_version (image_with h names)) r → SavesImage g old new h r
  saves_image old new h names r users spelled s = record {
    put = subst (λ i. Saves g old new (image_bytes written_version i) r) (the_one h names users) s;
    image = on_ok_weaker r (has_image h names users) spelled;
  }

  -- memory lacked before anything was put
  pub lacks_image : (a : W) (h : CoreContents) (r : Result (Unit {0}) SaveFault) → IsErr r × IsErrAnd r (λ e. e ≡ fault.NoMemory) → SavesImage g a a h r
  lacks_image a h (Ok u) lacks = absurd lacks.1
  lacks_image a h (Err e) lacks = record { put = lacks_first g a (core_bytes h) (Err e) lacks; image = tt }

-- ---- what is written of it
-- the users, the tables and the mark of the end
abbrev pub held_bytes : CoreContents → List (List ℕ) → List ℕ
held_bytes h names = counted (λ n. user_bytes (user_of h.policy n)) names ++ (counted (λ t. table_bytes written_version (table_of h.policy names t)) h.tables ++ end_bytes)

pub image_written : (h : CoreContents) (names : List (List ℕ)) → front_bytes written_version h.clock h.next ++ held_bytes h names ≡ image_bytes written_version (image_with h names)
unfolding image_bytes
image_written h names = λ i. front_bytes written_version h.clock h.next ++ (sym (list_of_map user_bytes (user_of h.policy) names) i ++ (sym (list_of_map (table_bytes written_version) (table_of h.policy names) h.tables) i ++ end_bytes))

-- what is known where all went well, of two things
pub ok_both : {T E A B C : Type 0} (r : Result T E) → (A → B → C) → OnOk r A → OnOk r B → OnOk r C
ok_both (Ok x) f a b = f a b
ok_both (Err e) f a b = tt
