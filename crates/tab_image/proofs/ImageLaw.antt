-- Reading gives exactly the image that the bytes spell, in its one spelling, and tells exactly the versions that aren't known.
use Rattle.std.proofs.Common.{◌≡◌, ℕ, ◌^◌, ◌<◌, ◌≤◌, ◌==◌, Bool, true, false, cond, List, [], ◌∷◌, ◌++◌, length, take, drop, Option, Some, None, refl, sym, ap, subst, ◌∙◌, arith, append_assoc, inl, inr}
use Rattle.std.specs.Prelude.{◌≢◌, ◌||◌, nat_lt, bytes_eq, Result, Ok, Err}
use Rattle.std.specs.Int.{w16, to_be_bytes}
use Rattle.std.specs.List.{AllByRecursion}
use Rattle.std.proofs.lemmas.Bool.{eqb-true}
use Rattle.std.proofs.lemmas.Bool.Decides.{nat_tests}
use Rattle.std.proofs.lemmas.List.{take-append-drop}
use Rattle.std.proofs.lemmas.Slice.Eq.{bytes_eq-Decides}
use Rattle.tab_label.specs.Sets.{has_longer}
use Rattle.tab_history.specs.Checks.{too_many_auths}
use Rattle.tab_codec.specs.Parts.{IsBytes}
use Rattle.tab_codec.specs.Reading.{u16_at, whole}
use Rattle.tab_codec.specs.Spelling.{Spells}
use Rattle.tab_codec.proofs.Exact.{bytes-drop, exact_u16, whole_sound, whole_complete}
use Rattle.tab_image.specs.declared.fault.ImageFault.{ImageFault}
use Rattle.tab_image.specs.declared.fault.ImageFault.TheVariants as fault
use Rattle.tab_image.specs.declared.user.ImageUser.{ImageUser}
use Rattle.tab_image.specs.declared.image.Image.{Image}
use Rattle.tab_image.specs.Images.{IsKnown, FitsUser, Fits, IsSaneUser, IsSane, IsImage, magic}
use Rattle.tab_image.specs.Conditions.{is_sane}
use Rattle.tab_image.specs.Reading.{is_known, body_at, if_sane, versioned, image_of, ImagesAreRead, VersionsAreTold}
use Rattle.tab_image.specs.Spelling.{u16, u64, i64, counted, user_bytes, table_bytes, magic_bytes, front_bytes, end_bytes, image_bytes}
use Rattle.tab_image.specs.Written.{OneSpelling, WhatFitsIsSpelled}
use Rattle.tab_image.proofs.ImageCode.{SpellsUser, SpellsBody, body_bytes, coded_body}
use Rattle.tab_image.proofs.SaneLaw.{sane_decides}

abbrev Read : Type 0
Read = Result Image ImageFault

ok_inj : (a b : Image) → (let x : Read = Ok a in x) ≡ Ok b → a ≡ b
ok_inj a b e = let or_a : Read → Image = λ r. elim r [ Ok i ↦ i | Err c ↦ a ] in ap or_a e

-- the version that is told
number_told : Read → ℕ
number_told (Ok i) = 0
number_told (Err (fault.Version n)) = n
number_told (Err fault.Bad) = 0

version_inj : (a b : ℕ) → (let x : Read = Err (fault.Version a) in x) ≡ Err (fault.Version b) → a ≡ b
unfolding number_told
version_inj a b e = ap number_told e

-- ---- versions
known_sound : (n : ℕ) → is_known n ≡ true → IsKnown n
known_sound n is = elim (n == 1) as (λ b. (n == 1) ≡ b → (b || n == 2) ≡ true → IsKnown n) [
  | true ↦ λ first e. inl (eqb-true n 1 first)
  | false ↦ λ later e. inr (eqb-true n 2 e)
] refl is

known_complete : (n : ℕ) → IsKnown n → is_known n ≡ true
known_complete n (inl first) = ap is_known first
known_complete n (inr second) = ap is_known second

-- one that isn't known is neither
neither : (n : ℕ) → is_known n ≡ false → (n ≢ 1) × (n ≢ 2)
neither n is = (λ first. absurd (differ (sym is ∙ known_complete n (inl first))), λ second. absurd (differ (sym is ∙ known_complete n (inr second))))
  where
    differ : false ≡ true → ⊥
    differ e = absurd cc

unknown : (n : ℕ) → n ≢ 1 → n ≢ 2 → is_known n ≡ false
unknown n first second = go (is_known n) refl
  where
    go : (b : Bool) → is_known n ≡ b → b ≡ false
    go true e = elim (known_sound n e) [ inl one ↦ absurd (first one) | inr two ↦ absurd (second two) ]
    go false e = refl

-- ---- the image behind a version
sane_sound : (read : Option Image) (i : Image) → if_sane read ≡ Ok i → (read ≡ Some i) × IsSane i
sane_sound None i is = absurd cc
sane_sound (Some j) i is = elim (is_sane j) as (λ b. is_sane j ≡ b → cond b (Ok j) (Err fault.Bad) ≡ Ok i → (Some j ≡ Some i) × IsSane i) [
  | true ↦ λ sane e. (ap (λ (x : Image). Some x) (ok_inj j i e), subst (λ (x : Image). IsSane x) (ok_inj j i e) ((sane_decides j).0 sane))
  | false ↦ λ insane e. absurd cc
] refl is

-- no version is told behind one that is known
sane_tells : (read : Option Image) (n : ℕ) → if_sane read ≡ Err (fault.Version n) → ⊥
sane_tells None n is = absurd cc
sane_tells (Some j) n is = elim (is_sane j) as (λ b. cond b (Ok j) (Err fault.Bad) ≡ Err (fault.Version n) → ⊥) [ true ↦ λ e. absurd cc | false ↦ λ e. absurd cc ] is

-- ---- what fits the types of the code, and of which the conditions hold, has a spelling
second : (a b : Bool) → (a || b) ≡ false → b ≡ false
second true b h = absurd cc
second false b h = h

short_terms : (terms : List (List ℕ)) → has_longer terms 1024 ≡ false → AllByRecursion (λ t. length t < 2 ^ 32) terms
short_terms [] h = tt
short_terms (t ∷ ts) h = let le : length t ≤ 1024 = grind (arith, nat_tests) in (omega (arith, le), short_terms ts (second (nat_lt 1024 (length t)) (has_longer ts 1024) h))

few_terms : (terms : List (List ℕ)) → too_many_auths terms ≡ false → length terms ≤ 1024
few_terms terms few = grind (arith, nat_tests)

user_spells : (u : ImageUser) → FitsUser u → IsSaneUser u → SpellsUser u
user_spells u fits sane =
    let terms = u.authorizations in
    let le : length u.authorizations ≤ 1024 = few_terms u.authorizations sane.few in
    (fits, (omega (arith, le), short_terms terms (second (nat_lt 1024 (length terms)) (has_longer terms 1024) sane.few)))

users_spell : (us : List ImageUser) → AllByRecursion FitsUser us → AllByRecursion IsSaneUser us → AllByRecursion SpellsUser us
users_spell [] fits sane = tt
users_spell (u ∷ us) fits sane = (user_spells u fits.0 sane.0, users_spell us fits.1 sane.1)

users_fit : (us : List ImageUser) → AllByRecursion SpellsUser us → AllByRecursion FitsUser us
users_fit [] spell = tt
users_fit (u ∷ us) spell = (spell.0.0, users_fit us spell.1)

body_spells : (version : ℕ) (i : Image) → Fits version i → IsSane i → SpellsBody version i
body_spells version i f sane = record { clock = f.clock; next = f.next; users = (f.users_few, users_spell i.users f.users sane.each_user); tables = (f.tables_few, f.tables) }

body_fits : (version : ℕ) (i : Image) → SpellsBody version i → Fits version i
body_fits version i s = record { clock = s.clock; next = s.next; users = users_fit i.users s.users.1; users_few = s.users.0; tables = s.tables.1; tables_few = s.tables.0 }

body_sound : (version : ℕ) (bytes : List ℕ) (i : Image) → IsBytes bytes → if_sane (whole (body_at version bytes)) ≡ Ok i → Spells (body_bytes version) (SpellsBody version) bytes i × IsSane i
body_sound version bytes i fits is =
    let h = sane_sound (whole (body_at version bytes)) i is in
    (whole_sound (body_at version) (Spells (body_bytes version) (SpellsBody version)) (coded_body version) bytes i fits h.0, h.1)

body_complete : (version : ℕ) (i : Image) → Fits version i → IsSane i → if_sane (whole (body_at version (body_bytes version i))) ≡ Ok i
body_complete version i fits sane =
    ap if_sane (whole_complete (body_at version) (Spells (body_bytes version) (SpellsBody version)) (coded_body version) (body_bytes version i) i (refl, body_spells version i fits sane))
    ∙ ap (λ b. cond b (Ok i) (Err fault.Bad)) ((sane_decides i).1 sane)

-- ---- the head
-- bytes that begin with the six, and then a number
headed : (bytes : List ℕ) (v : ℕ × List ℕ) → IsBytes bytes → bytes_eq (take 6 bytes) magic ≡ true → u16_at (drop 6 bytes) ≡ Some v → (bytes ≡ magic ++ (to_be_bytes w16 v.0 ++ v.1)) × IsBytes v.1 × (v.0 < 2 ^ 16)
headed bytes v fits same read =
    let t = exact_u16.sound (drop 6 bytes) v.0 v.1 (bytes-drop 6 bytes fits) read in
    (sym (take-append-drop 6 bytes) ∙ ap (λ (z : List ℕ). z ++ drop 6 bytes) ((bytes_eq-Decides (take 6 bytes) magic).0 same) ∙ ap (λ (z : List ℕ). magic ++ z) (t.parts ∙ ap (λ (z : List ℕ). z ++ v.1) t.says.0), t.fits, t.says.1)

head_read : (n : ℕ) (body : List ℕ) → n < 2 ^ 16 → image_of (magic ++ (to_be_bytes w16 n ++ body)) ≡ versioned (Some (n, body))
unfolding image_of
head_read n body lt = ap versioned (exact_u16.complete (to_be_bytes w16 n) body n (refl, lt))

-- the bytes of an image, as they are read
front_joined : (m w s e rest : List ℕ) → (m ++ (w ++ (s ++ e))) ++ rest ≡ m ++ (w ++ (s ++ (e ++ rest)))
front_joined m w s e rest = append_assoc m (w ++ (s ++ e)) rest ∙ ap (λ (z : List ℕ). m ++ z) (append_assoc w (s ++ e) rest ∙ ap (λ (z : List ℕ). w ++ z) (append_assoc s e rest))

image_is : (version : ℕ) (i : Image) → image_bytes version i ≡ magic ++ (to_be_bytes w16 version ++ body_bytes version i)
unfolding image_bytes front_bytes magic_bytes u16
image_is version i = front_joined magic (to_be_bytes w16 version) (i64 i.clock) (u64 i.next) (counted user_bytes i.users ++ (counted (table_bytes version) i.tables ++ end_bytes))

-- ---- images
module _ (bytes : List ℕ) (i : Image) (fits : IsBytes bytes) where
  abbrev InSome : Type 0
  InSome = (version : ℕ) × IsImage version bytes i

  behind_sound : (v : ℕ × List ℕ) → bytes_eq (take 6 bytes) magic ≡ true → u16_at (drop 6 bytes) ≡ Some v → versioned (Some v) ≡ Ok i → InSome
  behind_sound v same read is =
      let h = headed bytes v fits same read in
      elim (is_known v.0) as (λ b. is_known v.0 ≡ b → cond b (if_sane (whole (body_at v.0 v.1))) (Err (fault.Version v.0)) ≡ Ok i → InSome) [
        | true ↦ λ known e.
            let p = body_sound v.0 v.1 i h.1 e in
            (v.0, record { known = known_sound v.0 known; spelled = h.0 ∙ ap (λ (z : List ℕ). magic ++ (to_be_bytes w16 v.0 ++ z)) p.0.0 ∙ sym (image_is v.0 i); fits = body_fits v.0 i p.0.1; sane = p.1 })
        | false ↦ λ other e. absurd cc
      ] refl is

  versioned_sound : (read : Option (ℕ × List ℕ)) → bytes_eq (take 6 bytes) magic ≡ true → u16_at (drop 6 bytes) ≡ read → versioned read ≡ Ok i → InSome
  versioned_sound None same read is = absurd cc
  versioned_sound (Some v) same read is = behind_sound v same read is

  image_sound : image_of bytes ≡ Ok i → InSome
  unfolding image_of
  image_sound is = elim (bytes_eq (take 6 bytes) magic) as (λ b. bytes_eq (take 6 bytes) magic ≡ b → cond b (versioned (u16_at (drop 6 bytes))) (Err fault.Bad) ≡ Ok i → InSome) [
    | true ↦ λ same e. versioned_sound (u16_at (drop 6 bytes)) same refl e
    | false ↦ λ differs e. absurd cc
  ] refl is

-- a known version is of two bytes
few : (n : ℕ) → IsKnown n → n < 2 ^ 16
few n (inl first) = omega (arith, first)
few n (inr second) = omega (arith, second)

image_complete : (version : ℕ) (bytes : List ℕ) (i : Image) → IsImage version bytes i → image_of bytes ≡ Ok i
image_complete version bytes i is =
    ap image_of (is.spelled ∙ image_is version i) ∙ head_read version (body_bytes version i) (few version is.known)
    ∙ ap (λ b. cond b (if_sane (whole (body_at version (body_bytes version i)))) (Err (fault.Version version))) (known_complete version is.known)
    ∙ body_complete version i is.fits is.sane

pub images_are_read : ImagesAreRead
images_are_read bytes i fits = (image_sound bytes i fits, λ is. image_complete is.0 bytes i is.1)

-- ---- versions that are told
module _ (bytes : List ℕ) (n : ℕ) (fits : IsBytes bytes) where
  abbrev Told : Type 0
  Told = (rest : List ℕ) × (bytes ≡ magic ++ (to_be_bytes w16 n ++ rest)) × (n < 2 ^ 16) × (n ≢ 1) × (n ≢ 2)

  told_sound : (v : ℕ × List ℕ) → bytes_eq (take 6 bytes) magic ≡ true → u16_at (drop 6 bytes) ≡ Some v → versioned (Some v) ≡ Err (fault.Version n) → Told
  told_sound v same read is =
      let h = headed bytes v fits same read in
      elim (is_known v.0) as (λ b. is_known v.0 ≡ b → cond b (if_sane (whole (body_at v.0 v.1))) (Err (fault.Version v.0)) ≡ Err (fault.Version n) → Told) [
        | true ↦ λ known e. absurd (sane_tells (whole (body_at v.0 v.1)) n e)
        | false ↦ λ other e.
            let same_n : v.0 ≡ n = version_inj v.0 n e in
            let isn't = neither n (ap is_known (sym same_n) ∙ other) in
            (v.1, h.0 ∙ ap (λ (m : ℕ). magic ++ (to_be_bytes w16 m ++ v.1)) same_n, subst (λ (m : ℕ). m < 2 ^ 16) same_n h.2, isn't.0, isn't.1)
      ] refl is

  versioned_tells : (read : Option (ℕ × List ℕ)) → bytes_eq (take 6 bytes) magic ≡ true → u16_at (drop 6 bytes) ≡ read → versioned read ≡ Err (fault.Version n) → Told
  versioned_tells None same read is = absurd cc
  versioned_tells (Some v) same read is = told_sound v same read is

  version_sound : image_of bytes ≡ Err (fault.Version n) → Told
  unfolding image_of
  version_sound is = elim (bytes_eq (take 6 bytes) magic) as (λ b. bytes_eq (take 6 bytes) magic ≡ b → cond b (versioned (u16_at (drop 6 bytes))) (Err fault.Bad) ≡ Err (fault.Version n) → Told) [
    | true ↦ λ same e. versioned_tells (u16_at (drop 6 bytes)) same refl e
    | false ↦ λ differs e. absurd cc
  ] refl is

  version_complete : Told → image_of bytes ≡ Err (fault.Version n)
  version_complete is = ap image_of is.1 ∙ head_read n is.0 is.2 ∙ ap (λ b. cond b (if_sane (whole (body_at n is.0))) (Err (fault.Version n))) (unknown n is.3 is.4)

pub versions_are_told : VersionsAreTold
versions_are_told bytes n fits = (version_sound bytes n fits, version_complete bytes n fits)

-- ---- spellings
pub one_spelling : OneSpelling
one_spelling version bytes i is = is.spelled

pub what_fits_is_spelled : WhatFitsIsSpelled
what_fits_is_spelled i fits sane = record { known = inr refl; spelled = refl; fits = fits; sane = sane }
